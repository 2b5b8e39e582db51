-- A text is reached, or a reason is told.
use Rattle.std.proofs.Common.{◌≡◌, ℕ, suc, ◌+◌, Bool, true, false, not, is_some, cond, List, [], ◌∷◌, length, map, Option, Some, None, refl, sym, ◌∙◌, ap, arith}
use Rattle.std.specs.List.{count_by, filter_map, cons_option}
use Rattle.std.specs.Option.{option_map}
use Rattle.std.proofs.lemmas.Bool.{false≢true}
use Rattle.std.proofs.lemmas.List.{length-map}
use Rattle.std.proofs.lemmas.List.Sums.{sum_by-cons}
use Rattle.gopher_item.specs.Place.{HomeData, is_among}
use Rattle.gopher_item.specs.Scope.{allows}
use Rattle.gopher_catalogue.specs.declared.event.EventData.{EventData}
use Rattle.gopher_catalogue.specs.History.{opening_in}
use Rattle.gopher_catalogue.specs.Step.{places_of}
use Rattle.gopher_check.specs.declared.reach.Reason.{Reason}
use Rattle.gopher_check.specs.declared.reach.Reason.TheVariants.{NotAllowed, TooLong, LimitOfPlaces, NotLinked}
use Rattle.gopher_check.specs.Reach.{places_found, places_linked}
use Rattle.gopher_check.specs.declared.coverage.Unreached.{Unreached}
use Rattle.gopher_check.specs.Coverage.{is_reached, unreached_at, unreached_among, unreached_data, text_place}

-- a list is split into the elements that pass a test and those that have a result
split : {X Y : Type 0} (p : X → Bool) (h : X → Option Y) → ((x : X) → is_some (h x) ≡ not (p x)) → (xs : List X) → count_by p xs + length (filter_map h xs) ≡ length xs
split p h apart [] = refl
split {X} {Y} p h apart (x ∷ xs) = cases (p x) refl (h x) refl (split p h apart xs) where
  cases : (b : Bool) → p x ≡ b → (o : Option Y) → h x ≡ o → count_by p xs + length (filter_map h xs) ≡ length xs → count_by p (x ∷ xs) + length (filter_map h (x ∷ xs)) ≡ suc (length xs)
  cases true e None e' rest =
      let c : count_by p (x ∷ xs) ≡ 1 + count_by p xs = sum_by-cons (λ y. cond (p y) 1 0) x xs ∙ ap (λ b. cond b 1 0 + count_by p xs) e in
      let l : length (filter_map h (x ∷ xs)) ≡ length (filter_map h xs) = ap (λ o. length (cons_option o (filter_map h xs))) e' in
      omega (arith, c, l, rest)
  cases true e (Some y) e' rest = absurd (false≢true (sym (ap is_some (sym e') ∙ apart x ∙ ap not e)))
  cases false e None e' rest = absurd (false≢true (ap is_some (sym e') ∙ apart x ∙ ap not e))
  cases false e (Some y) e' rest =
      let c : count_by p (x ∷ xs) ≡ 0 + count_by p xs = sum_by-cons (λ y. cond (p y) 1 0) x xs ∙ ap (λ b. cond b 1 0 + count_by p xs) e in
      let l : length (filter_map h (x ∷ xs)) ≡ suc (length (filter_map h xs)) = ap (λ o. length (cons_option o (filter_map h xs))) e' in
      omega (arith, c, l, rest)

told : (path : List ℕ) (found allowed known linked : Bool) → is_some {T = List ℕ × Reason} (option_map (λ reason. (path, reason)) (cond found None (cond (not allowed) (Some NotAllowed) (cond known (Some TooLong) (cond linked (Some LimitOfPlaces) (Some NotLinked)))))) ≡ not found
told path true allowed known linked = refl
told path false false known linked = refl
told path false true true linked = refl
told path false true false true = refl
told path false true false false = refl

pub reached_or_told : (home : HomeData) (record_ : List EventData) (texts : List (List ℕ)) → count_by (is_reached home record_) texts + length (unreached_among home record_ texts) ≡ length texts
reached_or_told home record_ texts =
    split (is_reached home record_) (unreached_at home record_)
    (λ path. let place = text_place home path in told path (is_among (places_found record_) place) (allows (opening_in record_).scope place) (is_among (places_of record_) place) (is_among (places_linked record_) place))
    texts

-- the counts of reached texts and of the others add up
pub counts_add_up : (home : HomeData) (record_ : List EventData) (texts : List (List ℕ)) (unreached : List Unreached) → map unreached_data unreached ≡ unreached_among home record_ texts
    → count_by (is_reached home record_) texts + length unreached ≡ length texts
counts_add_up home record_ texts unreached are =
    let all = reached_or_told home record_ texts in
    let others : length unreached ≡ length (unreached_among home record_ texts) = sym (length-map unreached unreached_data) ∙ ap length are in
    omega (arith, all, others)
