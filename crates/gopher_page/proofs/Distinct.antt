-- Inserting places into a set one by one keeps each once, in the order of first mention.
use Rattle.std.proofs.Common.{◌≡◌, Bool, true, false, cond, ◌||◌, not, List, [], ◌∷◌, ◌++◌, Option, filter, refl, sym, ap, subst, ◌∙◌, arith}
use Rattle.std.proofs.lemmas.List.{append-nil, append_assoc}
use Rattle.std.proofs.lemmas.List.Elements.{filter-append, filter_map-append}
use Rattle.std.proofs.lemmas.List.Sums.{fold-append}
use Rattle.std.specs.List.{filter_map}
use Rattle.indexmap.specs.IndexSet.{insert_key, insert_all}
use Rattle.gopher_item.specs.Place.{PlaceData, same_place, is_among, distinct}
use Rattle.gopher_item.specs.Laws.{same_place_equiv}
use Rattle.gopher_item.proofs.PlaceLemmas.{same_place-true}

-- two filters in sequence are one filter whose test joins theirs
filter_both : {X : Type 0} (p q r : X → Bool) → ((x : X) → r x ≡ cond (q x) (p x) false) → (xs : List X) → filter p (filter q xs) ≡ filter r xs
filter_both p q r joins [] = refl
filter_both {X} p q r joins (x ∷ xs) = by (q x) (filter_both p q r joins xs) (joins x)
  where
    by : (b : Bool) → filter p (filter q xs) ≡ filter r xs → r x ≡ cond b (p x) false → filter p (cond b (x ∷ filter q xs) (filter q xs)) ≡ cond (r x) (x ∷ filter r xs) (filter r xs)
    by true rest e = ap (λ l. cond (p x) (x ∷ l) l) rest ∙ ap (λ b. cond b (x ∷ filter r xs) (filter r xs)) (sym e)
    by false rest e = rest ∙ ap (λ b. cond b (x ∷ filter r xs) (filter r xs)) (sym e)

-- a place is among these and one more if it is among these or is the same as that one
is_among-push : (places : List PlaceData) (place other : PlaceData) → is_among (places ++ place ∷ []) other ≡ (is_among places other || same_place other place)
is_among-push [] place other = grind arith
is_among-push (first ∷ places) place other = grind (arith, is_among-push places place other)

-- if a list contains a place, a place that is new to the list isn't the same
new_apart-held : (held : List PlaceData) (place : PlaceData) → is_among held place ≡ true → (other : PlaceData) → not (is_among held other) ≡ cond (not (same_place place other)) (not (is_among held other)) false
new_apart-held held place there other = by (same_place place other) refl
  where
    by : (b : Bool) → same_place place other ≡ b → not (is_among held other) ≡ cond (not b) (not (is_among held other)) false
    by true e = ap not (subst (λ p. is_among held p ≡ true) (same_place-true place other e) there)
    by false e = refl

-- a place is new to a list and one more place
new_apart-push : (held : List PlaceData) (place other : PlaceData) → not (is_among (held ++ place ∷ []) other) ≡ cond (not (same_place place other)) (not (is_among held other)) false
new_apart-push held place other = rw (is_among-push held place other, same_place_equiv.symm other place) (by (is_among held other) (same_place place other))
  where
    by : (a b : Bool) → not (a || b) ≡ cond (not b) (not a) false
    by true true = refl
    by true false = refl
    by false true = refl
    by false false = refl

-- inserting places into a list of distinct places appends the new ones, each once
pub insert_all-from : (held places : List PlaceData) → insert_all same_place held places ≡ held ++ filter (λ place. not (is_among held place)) (distinct places)
insert_all-from held [] = sym (append-nil held)
insert_all-from held (place ∷ places) = by (is_among held place) refl (λ some. insert_all-from some places)
  where
    new : List PlaceData → PlaceData → Bool
    new some other = not (is_among some other)

    others : List PlaceData
    others = filter (λ other. not (same_place place other)) (distinct places)

    by : (b : Bool) → is_among held place ≡ b
        → ((some : List PlaceData) → insert_all same_place some places ≡ some ++ filter (new some) (distinct places))
        → insert_all same_place (cond b held (held ++ place ∷ [])) places ≡ held ++ cond (not b) (place ∷ filter (new held) others) (filter (new held) others)
    by true e rest = rest held ∙ ap (λ l. held ++ l) (sym (filter_both (new held) (λ other. not (same_place place other)) (new held) (new_apart-held held place e) (distinct places)))
    by false e rest =
        rest (held ++ place ∷ []) ∙ append_assoc held (place ∷ []) _
        ∙ ap (λ l. held ++ place ∷ l) (sym (filter_both (new held) (λ other. not (same_place place other)) (new (held ++ place ∷ [])) (new_apart-push held place) (distinct places)))

-- inserting the places of some items and then of more, if they pass a test
pub insert_all-more : {X : Type 0} (held : List PlaceData) (name : X → Option PlaceData) (test : PlaceData → Bool) (items more : List X)
    → insert_all same_place (insert_all same_place held (filter test (filter_map name items))) (filter test (filter_map name more)) ≡ insert_all same_place held (filter test (filter_map name (items ++ more)))
insert_all-more held name test items more =
    sym (
    ap (λ l. insert_all same_place held (filter test l)) (filter_map-append name items more)
    ∙ ap (insert_all same_place held) (filter-append test (filter_map name items) (filter_map name more))
    ∙ fold-append (insert_key same_place) held (filter test (filter_map name items)) (filter test (filter_map name more))
    )

-- inserting places into an empty set
pub insert_all-distinct : (places : List PlaceData) → insert_all same_place [] places ≡ distinct places
insert_all-distinct places = insert_all-from [] places ∙ filter_all (distinct places)
  where
    filter_all : (some : List PlaceData) → filter (λ place. not (is_among [] place)) some ≡ some
    filter_all [] = refl
    filter_all (place ∷ some) = ap (λ l. place ∷ l) (filter_all some)
