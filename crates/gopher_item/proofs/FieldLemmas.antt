-- The fields of a line without LF, CR and NUL contain no special byte.
use Rattle.std.proofs.Common.{◌≡◌, ℕ, ◌-◌, ◌<◌, Bool, true, false, ◌||◌, not, eqb, List, [], ◌∷◌, ◌++◌, length, get_or, take, drop, refl, sym, ap, ◌∙◌, arith}
use Rattle.std.specs.List.{list_any, list_all, onto_first}
use Rattle.std.proofs.lemmas.List.Splits.{slice_split-cons_yes, slice_split-cons_no}
use Rattle.std.proofs.lemmas.Bool.{and_parts, not-true, or_parts}
use Rattle.std.proofs.lemmas.List.{take_all}
use Rattle.gopher_item.specs.Special.{is_special, has_special}
use Rattle.gopher_item.specs.Menu.{BeginsWithField, HasFields, HasFirstField, fields_of}
use Rattle.gopher_item.proofs.MenuLines.{joined-append}

abbrev is_plain : List ℕ → Bool
is_plain field = not (has_special field)

plain_onto : (b : ℕ) (parts : List (List ℕ)) → is_special b ≡ false → list_all is_plain parts ≡ true → list_all is_plain (onto_first b parts) ≡ true
plain_onto b [] plain rest = rw plain refl
plain_onto b (part ∷ parts) plain rest = rw plain rest

not_special : (b : ℕ) → eqb b 9 ≡ false → eqb b 10 ≡ false → (eqb b 13 || eqb b 0) ≡ false → is_special b ≡ false
not_special b tab feed other = by (eqb b 13) (eqb b 0) other
  where
    by : (r n : Bool) → (r || n) ≡ false → (((eqb b 9 || eqb b 10) || r) || n) ≡ false
    by true n h = absurd cc
    by false n h = rw (tab, feed) h

pub plain_fields : (line : List ℕ) → list_any (λ b. eqb b 10) line ≡ false → list_any (λ b. eqb b 13 || eqb b 0) line ≡ false → list_all is_plain (fields_of line) ≡ true
plain_fields [] feed other = refl
plain_fields (b ∷ bs) feed other = by (eqb b 9) refl (or_parts _ _ feed) (or_parts _ _ other)
    (λ f o. plain_fields bs f o)
  where
    by : (t : Bool) → eqb b 9 ≡ t → (eqb b 10 ≡ false) × (list_any (λ b. eqb b 10) bs ≡ false) → ((eqb b 13 || eqb b 0) ≡ false) × (list_any (λ b. eqb b 13 || eqb b 0) bs ≡ false)
        → (list_any (λ b. eqb b 10) bs ≡ false → list_any (λ b. eqb b 13 || eqb b 0) bs ≡ false → list_all is_plain (fields_of bs) ≡ true)
        → list_all is_plain (fields_of (b ∷ bs)) ≡ true
    by true e f o rest = ap (list_all is_plain) (slice_split-cons_yes (λ b. eqb b 9) b bs e) ∙ rest f.1 o.1
    by false e f o rest = ap (list_all is_plain) (slice_split-cons_no (λ b. eqb b 9) b bs e) ∙ plain_onto b (fields_of bs) (not_special b e f.0 o.0) (rest f.1 o.1)

-- the first three of at least four fields contain no special byte
pub plain_three : (fields : List (List ℕ)) (a b c d : List ℕ) (more : List (List ℕ)) → fields ≡ a ∷ b ∷ c ∷ d ∷ more → list_all is_plain fields ≡ true
    → (has_special a ≡ false) × (has_special b ≡ false) × (has_special c ≡ false)
plain_three fields a b c d more e h =
    let first = and_parts (is_plain a) _ (sym (ap (list_all is_plain) e) ∙ h) in
    let second = and_parts (is_plain b) _ first.1 in
    let third = and_parts (is_plain c) _ second.1 in
    (not-true _ first.0, not-true _ second.0, not-true _ third.0)

-- neither the first byte of a field nor the rest contains a special byte
pub plain_parts : (field : List ℕ) → 0 < length field → has_special field ≡ false
    → (is_special (get_or field 0 0) ≡ false) × (has_special (take (length field - 1) (drop 1 field)) ≡ false)
plain_parts [] some h = absurd (omega arith)
plain_parts (b ∷ bs) some h =
    let parts : (is_special b ≡ false) × (has_special bs ≡ false) = or_parts _ _ h in
    let whole : take (length (b ∷ bs) - 1) bs ≡ bs = take_all _ bs (omega arith) in
    (parts.0, ap has_special whole ∙ parts.1)

pub whole_field : (field : List ℕ) → 0 < length field → field ≡ get_or field 0 0 ∷ take (length field - 1) (drop 1 field)
whole_field [] some = absurd (omega arith)
whole_field (b ∷ bs) some = ap (λ (l : List ℕ). b ∷ l) (sym (take_all (length (b ∷ bs) - 1) bs (omega arith)))

-- three fields, each followed by a TAB, and a fourth are the first four of the line
pub four_fields : (line first r1 selector r2 host r3 port : List ℕ) → BeginsWithField line first r1 → BeginsWithField r1 selector r2
    → BeginsWithField r2 host r3 → HasFirstField r3 port → HasFields line first selector host port
four_fields line first r1 selector r2 host r3 port one two three four = record {
  plain = one.plain ∙ two.plain ∙ three.plain ∙ four.plain;
  more = four.more;
  fields =
      one.fields
      ∙ ap (λ (l : List (List ℕ)). first ∷ l) (two.fields
      ∙ ap (λ (l : List (List ℕ)). selector ∷ l) (three.fields
      ∙ ap (λ (l : List (List ℕ)). host ∷ l) four.fields));
  stands = (
    9 ∷ r3,
    one.whole
        ∙ ap (λ l. first ++ 9 ∷ l) (two.whole ∙ ap (λ l. selector ++ 9 ∷ l) three.whole)
        ∙ sym (joined-append first selector host (9 ∷ r3)),
  );
}
