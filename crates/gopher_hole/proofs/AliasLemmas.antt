-- Aliases in a map, and the aliases of lines.
use Rattle.std.proofs.Common.{◌≡◌, ℕ, ◌<◌, Bool, true, false, cond, eqb, List, [], ◌∷◌, length, map, Option, None, Some, is_some, refl, sym, ap, subst, ◌∙◌, arith}
use Rattle.std.specs.Ordering.{is_eq, nat_cmp}
use Rattle.std.specs.Cmp.{eq_by_cmp_equiv}
use Rattle.std.specs.Cmp.Lexicographic.{pointwise, slice_cmp, bytes_decides, nat_list_cmp_total, nat_list_eq_equiv, texts_ties}
use Rattle.std.specs.BTreeMap.{BTreeMap, UpdatesBy, is_at}
use Rattle.std.specs.Map.{KeepsOthers, IsKeyTest, AreApart, lookup}
use Rattle.std.specs.Option.{option_or}
use Rattle.std.specs.declared.vec.Vec.{Vec}
use Rattle.std.proofs.lemmas.List.Splits.{length-slice_split}
use Rattle.gopher_hole.specs.Aliases.{AddsAlias, held_aliases, held_for, selector_for, two_fields}
use Rattle.gopher_item.specs.Menu.{fields_of}

-- ---- a map after one more alias

apart : (bs q ks : List ℕ) → pointwise eqb q bs ≡ false → is_eq (slice_cmp nat_cmp bs ks) ≡ true → is_eq (slice_cmp nat_cmp q ks) ≡ false
apart bs q ks n y = sym (texts_ties q ks) ∙ sym (nat_list_eq_equiv.symm ks q) ∙ sym (nat_list_eq_equiv.congr bs ks q (texts_ties bs ks ∙ y)) ∙ nat_list_eq_equiv.symm bs q ∙ n

other_entries : {K X : Type 0} (eq : K → K → Bool) (test : K → Bool) (old new : List (K × X)) → KeepsOthers eq test old new → (other : K → Bool) → IsKeyTest eq other → AreApart test other → lookup other new ≡ lookup other old
unfolding KeepsOthers
other_entries eq test old new h = h

held_after : {A : Type 0} (bs : List ℕ) (old new : BTreeMap (Vec ℕ A) (List ℕ)) (selector : List ℕ)
    → UpdatesBy (λ x y. slice_cmp nat_cmp x.items y.items) (λ k. slice_cmp nat_cmp bs k.items) old new (Some selector)
    → (q : List ℕ) → held_for new q ≡ cond (pointwise eqb q bs) (Some selector) (held_for old q)
held_after bs old new selector h q = by (pointwise eqb q bs) refl
  where
    by : (t : Bool) → pointwise eqb q bs ≡ t → held_for new q ≡ cond t (Some selector) (held_for old q)
    by true e = subst (λ l. held_for new l ≡ Some selector) (sym ((bytes_decides q bs).0 e)) h.1
    by false e = other_entries _ _ _ _ h.3 _ (λ x y. (eq_by_cmp_equiv nat_list_cmp_total).congr q x.items y.items) (λ k. apart bs q k.items e)

or_none : {X : Type 0} (o : Option X) → o ≡ option_or o None
or_none None = refl
or_none (Some x) = refl

-- an old selector without an alias gets one
pub adds_new : {A : Type 0} (old : List ℕ) (before after : BTreeMap (Vec ℕ A) (List ℕ)) (selector : List ℕ) → is_some (held_for before old) ≡ false
    → UpdatesBy (λ x y. slice_cmp nat_cmp x.items y.items) (λ k. slice_cmp nat_cmp old k.items) before after (Some selector) → AddsAlias before after old selector
adds_new old before after selector fresh updates q = held_after old before after selector updates q ∙ by (pointwise eqb q old) refl
  where
    none : (o : Option (List ℕ)) → is_some o ≡ false → o ≡ None
    none None h = refl
    none (Some x) h = absurd cc

    by : (t : Bool) → pointwise eqb q old ≡ t → cond t (Some selector) (held_for before q) ≡ option_or (held_for before q) (cond t (Some selector) None)
    by true e = ap (λ o. option_or o (Some selector)) (sym (none (held_for before q) (ap (λ l. is_some (held_for before l)) ((bytes_decides q old).0 e) ∙ fresh)))
    by false e = or_none (held_for before q)

-- ---- the list of a map's aliases

same_found : {A : Type 0} (entries : List (Vec ℕ A × List ℕ)) (old : List ℕ) → lookup (is_at (λ key. slice_cmp nat_cmp old key.items)) entries ≡ lookup (pointwise eqb old) (map (λ entry. (entry.0.items, entry.1)) entries)
same_found [] old = refl
same_found (entry ∷ entries) old =
    ap (λ t. cond t (Some entry.1) (lookup (is_at (λ key. slice_cmp nat_cmp old key.items)) entries)) (sym (texts_ties old entry.0.items))
    ∙ ap (cond (pointwise eqb old entry.0.items) (Some entry.1)) (same_found entries old)

pub held_is : {A : Type 0} (held : BTreeMap (Vec ℕ A) (List ℕ)) (old : List ℕ) → held_for held old ≡ selector_for (held_aliases held) old
held_is held old = same_found held.entries old

-- a line of three fields or more
pub two_fields-many : (first second rest : List ℕ) → two_fields (first ∷ second ∷ fields_of rest) ≡ None
two_fields-many first second rest = by (fields_of rest) (omega (arith, length-slice_split (λ b. eqb b 9) rest))
  where
    by : (fields : List (List ℕ)) → 0 < length fields → two_fields (first ∷ second ∷ fields) ≡ None
    by [] some = absurd (omega arith)
    by (third ∷ fields) some = refl
