-- The words of a text, computed from its runs.
use Rattle.std.proofs.Common.{◌≡◌, ℕ, ◌≤◌, Bool, true, false, cond, eqb, Option, None, Some, is_some, List, [], ◌∷◌, ◌++◌, length, map, filter, refl, sym, ap, ◌∙◌, arith}
use Rattle.std.proofs.lemmas.Bool.{lt-ltb}
use Rattle.std.proofs.lemmas.List.{length-append, length-map}
use Rattle.std.proofs.lemmas.List.Splits.{length-slice_split}
use Rattle.std.proofs.lemmas.List.Sums.{length-filter}
use Rattle.std.specs.Prelude.{nat_lt, MatchOption}
use Rattle.std.specs.List.{slice_split, zip}
use Rattle.gopher_bytes.specs.Case.{lower_case}
use Rattle.gopher_page.specs.Words.{is_gap, is_word, runs_of, word_runs, bare_words, words_of}

pub word_runs-cut : (text run after : List ℕ) (mark word : Bool) → runs_of text ≡ (run, mark) ∷ runs_of after → is_word run ≡ word → word_runs text ≡ cond word ((run, mark) ∷ word_runs after) (word_runs after)
unfolding word_runs
word_runs-cut text run after mark word runs is =
    ap (filter (λ r. is_word r.0)) runs ∙ ap (λ t. cond t ((run, mark) ∷ filter (λ r. is_word r.0) (runs_of after)) (filter (λ r. is_word r.0) (runs_of after))) is

pub word_runs-whole : (text : List ℕ) (word : Bool) → runs_of text ≡ (text, false) ∷ [] → is_word text ≡ word → word_runs text ≡ cond word ((text, false) ∷ word_runs []) []
unfolding word_runs
word_runs-whole text word runs is = ap (filter (λ r. is_word r.0)) runs ∙ ap (λ t. cond t ((text, false) ∷ []) []) is

-- ---- words

-- marks beside parts change none of their words
words_beside : (parts : List (List ℕ)) (marks : List Bool) → length parts ≤ length marks → map (λ run. run.0) (filter (λ run. is_word run.0) (zip parts marks)) ≡ filter is_word parts
words_beside [] marks enough = refl
words_beside (part ∷ parts) [] enough = absurd (omega arith)
words_beside (part ∷ parts) (mark ∷ marks) enough = by (is_word part) (words_beside parts marks (omega arith))
  where
    by : (t : Bool) → map (λ run. run.0) (filter (λ run. is_word run.0) (zip parts marks)) ≡ filter is_word parts
        → map (λ run. run.0) (cond t ((part, mark) ∷ filter (λ run. is_word run.0) (zip parts marks)) (filter (λ run. is_word run.0) (zip parts marks))) ≡ cond t (part ∷ filter is_word parts) (filter is_word parts)
    by true rest = ap (λ l. part ∷ l) rest
    by false rest = rest

pub bare_words-parts : (bytes : List ℕ) → bare_words bytes ≡ filter is_word (slice_split is_gap bytes)
unfolding word_runs
bare_words-parts bytes =
    let gaps = filter is_gap bytes in
    words_beside (slice_split is_gap bytes) (map (λ gap. eqb gap 42) gaps ++ false ∷ [])
    (omega (arith, length-slice_split is_gap bytes, length-append (map (λ gap. eqb gap 42) gaps) (false ∷ []), length-map gaps (λ gap. eqb gap 42), length-filter is_gap bytes))

words_of-runs : (bytes : List ℕ) → words_of bytes ≡ map (map lower_case) (bare_words bytes)
unfolding words_of
words_of-runs bytes = ap (map (map lower_case)) (sym (bare_words-parts bytes))

pub words_of-next : (bytes after : List ℕ) (run : List ℕ × Bool) → word_runs bytes ≡ run ∷ word_runs after → words_of bytes ≡ map lower_case run.0 ∷ words_of after
words_of-next bytes after run e =
    words_of-runs bytes ∙ ap (λ runs. map (map lower_case) (map (λ r. r.0) runs)) e ∙ ap (λ l. map lower_case run.0 ∷ l) (sym (words_of-runs after))

pub words_of-none : (bytes : List ℕ) → word_runs bytes ≡ [] → words_of bytes ≡ []
words_of-none bytes e = words_of-runs bytes ∙ ap (λ runs. map (map lower_case) (map (λ r. r.0) runs)) e

-- bytes contain a word exactly if a search finds one
pub is_some-word : {T : Type 0} (bytes : List ℕ) (found : Option T) (run : T → List ℕ × Bool) (after : T → List ℕ)
    → MatchOption found (word_runs bytes ≡ []) (λ t. word_runs bytes ≡ run t ∷ word_runs (after t)) → is_some found ≡ nat_lt 0 (length (words_of bytes))
is_some-word bytes None run after none = sym (ap (λ words. nat_lt 0 (length words)) (words_of-none bytes none))
is_some-word bytes (Some t) run after some = sym (lt-ltb 0 _ (omega (arith, ap length (words_of-next bytes (after t) (run t) some))))
