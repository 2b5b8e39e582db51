-- The effect of one more line on the entries of a menu.
use Rattle.std.proofs.Common.{◌≡◌, ℕ, ◌-◌, true, false, not, eqb, List, ◌∷◌, ◌++◌, length, drop, map, filter, refl, sym, ap, ◌∙◌, append_assoc, arith, length-append}
use Rattle.std.proofs.lemmas.List.{drop_at}
use Rattle.gopher_bytes.specs.Lines.{IsAround, is_last_line}
use Rattle.gopher_bytes.proofs.Splits.{lines_before_last-line}
use Rattle.gopher_item.specs.MenuLine.{StandsAt}
use Rattle.gopher_item.specs.Menu.{entry_of, entries_of}

-- a line that isn't the last line stays
pub entries_of-line : (line : List ℕ) (lines : List (List ℕ)) → is_last_line line ≡ false → eqb (length line) 0 ≡ false → entries_of (line ∷ lines) ≡ entry_of line ∷ entries_of lines
entries_of-line line lines other some =
    ap (λ l. map entry_of (filter (λ x. not (eqb (length x) 0)) l)) (lines_before_last-line line lines other) ∙ rw some refl

pub entries_of-empty : (line : List ℕ) (lines : List (List ℕ)) → is_last_line line ≡ false → eqb (length line) 0 ≡ true → entries_of (line ∷ lines) ≡ entries_of lines
entries_of-empty line lines other none =
    ap (λ l. map entry_of (filter (λ x. not (eqb (length x) 0)) l)) (lines_before_last-line line lines other) ∙ rw none refl

-- the bytes after one more line are a suffix of all bytes
pub still_left : (bytes seen rest line after : List ℕ) → bytes ≡ seen ++ rest → IsAround rest line after → (more : List ℕ) × (bytes ≡ more ++ after)
still_left bytes seen rest line after left around = (
  seen ++ (line ++ around.0),
  left
      ∙ ap (λ l. seen ++ l) (around.1 ∙ sym (append_assoc line around.0 after))
      ∙ sym (append_assoc seen (line ++ around.0) after),
)

-- the text contains a line of the rest of the bytes
pub stands_in_rest : (text bytes seen rest line after : List ℕ) → text ≡ bytes → bytes ≡ seen ++ rest → IsAround rest line after
    → StandsAt text (length bytes - length rest) line
stands_in_rest text bytes seen rest line after same left around = (
  around.0 ++ after,
  ap (drop (length bytes - length rest)) (same ∙ left)
      ∙ drop_at seen rest (length bytes - length rest) (omega (arith, ap length left, length-append seen rest))
      ∙ around.1,
)
