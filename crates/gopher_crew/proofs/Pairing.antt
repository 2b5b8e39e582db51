-- Two lists, place by place.
use Rattle.std.proofs.Common.{◌≡◌, ℕ, suc, ◌<◌, List, [], ◌∷◌, ◌++◌, length, get_or, reverse, sym, ap, subst, ◌∙◌, arith, append_assoc}
use Rattle.std.proofs.lemmas.List.{reverse-append}
use Rattle.std.proofs.lemmas.Slice.Zip.{all_zipped_more}
use Rattle.std.specs.List.{AllZip}

-- the first elements of a list belong to those of another; the others are still to be taken, the
-- last of them first
pub record Paired {A B : Type 0} (R : A → B → Type 0) (all rest : List A) (ys : List B) : Type 0 where
  pub done : List A
  pub all_is : done ++ reverse rest ≡ all
  pub zipped : AllZip R done ys

pub one_more_paired : {A B : Type 0} (R : A → B → Type 0) (all rest less : List A) (x : A) (ys ys' : List B) (y : B)
    → rest ≡ less ++ x ∷ [] → ys' ≡ ys ++ y ∷ [] → R x y → Paired R all rest ys → Paired R all less ys'
one_more_paired R all rest less x ys ys' y is more holds paired =
    let turned : reverse rest ≡ x ∷ reverse less = ap reverse is ∙ reverse-append less (x ∷ []) in
    record {
      done = paired.done ++ x ∷ [];
      all_is = append_assoc paired.done (x ∷ []) (reverse less) ∙ ap (λ l. paired.done ++ l) (sym turned) ∙ paired.all_is;
      zipped = subst (AllZip R (paired.done ++ x ∷ [])) (sym more) (all_zipped_more R paired.done ys x y paired.zipped holds);
    }

-- from each place to the lists
pub zip_from_each : {X : Type 0} (R : X → X → Type 0) (xs ys : List X) → length ys ≡ length xs
    → ((i : ℕ) (d : X) → i < length xs → R (get_or xs i d) (get_or ys i d)) → AllZip R xs ys
zip_from_each R [] [] len each = tt
zip_from_each R [] (y ∷ ys) len each = absurd (omega arith)
zip_from_each R (x ∷ xs) [] len each = absurd (omega arith)
zip_from_each R (x ∷ xs) (y ∷ ys) len each =
    (each 0 x (omega arith), zip_from_each R xs ys (omega arith) (λ i d less. each (suc i) d (omega (arith, less))))
