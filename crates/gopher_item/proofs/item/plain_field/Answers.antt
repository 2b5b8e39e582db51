use Rattle.std.proofs.Common.{◌≡◌, ℕ, Bool, true, false, ◌||◌, eqb, List, ◌∷◌, length, take, get_or, refl, arith, ap, sym, ◌∙◌}
use Rattle.std.specs.List.{list_any, slice_split}
use Rattle.std.proofs.lemmas.List.Folds.{list_any-append}
use Rattle.memchr.specs.Find.{Nowhere, Passes, is_byte, is_byte3}
use Rattle.gopher_bytes.proofs.Splits.{after_cut, cut_whole, list_any_before, list_any_nowhere, slice_split_at_first, slice_split_nowhere}
use Rattle.gopher_item.proofs.item.plain_field.Goals as goal

-- the test of a CR or a NUL, and the test of a TAB, a CR or a NUL
abbrev is_other : ℕ → Bool
is_other b = eqb b 13 || eqb b 0

among : (t r n : Bool) → (r || n) ≡ true → ((t || r) || n) ≡ true
among true r n h = refl
among false r n h = h

no_tab : (bytes : List ℕ) (end : ℕ) → Nowhere (Passes (is_byte3 9 13 0) bytes) 0 end → Nowhere (Passes (is_byte 9) bytes) 0 end
no_tab bytes end none k low below tab = none k low below (rw tab refl)

no_other : (bytes : List ℕ) (end : ℕ) → Nowhere (Passes (is_byte3 9 13 0) bytes) 0 end → Nowhere (Passes is_other bytes) 0 end
no_other bytes end none k low below here = none k low below (among (eqb (get_or bytes k 0) 9) (eqb (get_or bytes k 0) 13) (eqb (get_or bytes k 0) 0) here)

pub returns-in_default : goal.returns-in_default
returns-in_default c =
    let bytes = c.args.bytes.now in (
      slice_split_nowhere 9 bytes (no_tab bytes (length bytes) c.in_default.ensures),
      list_any_nowhere is_other bytes (no_other bytes (length bytes) c.in_default.ensures),
    )

pub returns-then-bytes-end-eq-TAB : goal.returns-then-bytes-end-eq-TAB
returns-then-bytes-end-eq-TAB c =
    let bytes = c.args.bytes.now in
    let end = c.in-Some.end in
    let found = c.in-Some.ensures in
    let is_tab : get_or bytes end 0 ≡ 9 = c.if-bytes-end-eq-TAB.true in
    let here : eqb (get_or bytes end 0) 9 ≡ true = rw is_tab refl in
    let whole = cut_whole 9 bytes end found.0.high here in
    let front : list_any is_other (take end bytes) ≡ false =
    list_any_before is_other bytes end (omega (arith, found.0.high)) (no_other bytes end found.0.before) in record {
      whole = whole;
      fields =
          slice_split_at_first 9 bytes end found.0.high (no_tab bytes end found.0.before) here
          ∙ ap (λ tail. take end bytes ∷ slice_split (λ b. eqb b 9) tail) (sym (after_cut bytes end));
      plain = ap (list_any is_other) whole ∙ list_any-append is_other (take end bytes) _ ∙ rw front refl;
    }
