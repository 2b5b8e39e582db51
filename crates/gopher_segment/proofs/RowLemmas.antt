-- Rows by index.
use Rattle.std.proofs.Common.{◌≡◌, ℕ, zero, suc, List, [], ◌∷◌, drop, get_or, slice_get, Some, refl}
use Rattle.gopher_segment.specs.Rows.{words_of_rows, runs_of_rows, first_word, first_run}

-- the word of the row at an index
abbrev pub word_at : List (List ℕ × List (ℕ × ℕ)) → ℕ → List ℕ
word_at rows k = get_or (words_of_rows rows) k []

pub first_word-drop : (rows : List (List ℕ × List (ℕ × ℕ))) (i : ℕ) → slice_get (words_of_rows rows) i ≡ first_word (drop i rows)
first_word-drop [] zero = refl
first_word-drop [] (suc i) = refl
first_word-drop (row ∷ rows) zero = refl
first_word-drop (row ∷ rows) (suc i) = first_word-drop rows i

pub first_run-drop : (rows : List (List ℕ × List (ℕ × ℕ))) (i : ℕ) (run : List (ℕ × ℕ)) → slice_get (runs_of_rows rows) i ≡ Some run → run ≡ first_run (drop i rows)
first_run-drop [] zero run e = absurd cc
first_run-drop [] (suc i) run e = absurd cc
first_run-drop (row ∷ rows) zero run e = cc
first_run-drop (row ∷ rows) (suc i) run e = first_run-drop rows i run e
