-- What holds of each element of a list, by recursion.
use Rattle.std.proofs.Common.{List, [], ◌∷◌, ◌++◌}
use Rattle.std.specs.List.{AllByRecursion}

module _ {X : Type 0} (P : X → Type 0) where
  pub all_left : (a b : List X) → AllByRecursion P (a ++ b) → AllByRecursion P a
  all_left [] b all = tt
  all_left (x ∷ a) b all = (all.0, all_left a b all.1)

  pub all_right : (a b : List X) → AllByRecursion P (a ++ b) → AllByRecursion P b
  all_right [] b all = all
  all_right (x ∷ a) b all = all_right a b all.1

  pub all_both : (a b : List X) → AllByRecursion P a → AllByRecursion P b → AllByRecursion P (a ++ b)
  all_both [] b front back = back
  all_both (x ∷ a) b front back = (front.0, all_both a b front.1 back)

  pub all_weaker : (Q : X → Type 0) → ((x : X) → P x → Q x) → (xs : List X) → AllByRecursion P xs → AllByRecursion Q xs
  all_weaker Q weaker [] all = tt
  all_weaker Q weaker (x ∷ xs) all = (weaker x all.0, all_weaker Q weaker xs all.1)
