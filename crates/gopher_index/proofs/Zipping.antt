-- Elements that a loop takes on by the counts at their places.
use Rattle.std.proofs.Common.{◌≡◌, ℕ, zero, suc, ◌+◌, ◌*◌, ◌<◌, List, [], ◌∷◌, length, map, replicate, take, get_or, set, refl, sym, ap, ◌∙◌, arith}
use Rattle.gopher_index.specs.Plan.{zipped}

module _ {X : Type 0} (step : X → ℕ → X) where
  pub zipped_none : (xs : List X) → xs ≡ zipped step xs []
  zipped_none [] = refl
  zipped_none (x ∷ xs) = refl

  pub length-zipped : (xs : List X) (counts : List ℕ) → length (zipped step xs counts) ≡ length xs
  length-zipped [] counts = refl
  length-zipped (x ∷ xs) [] = refl
  length-zipped (x ∷ xs) (count ∷ counts) = let rest = length-zipped xs counts in omega arith

  -- an element that the loop hasn't come to
  pub zipped_at : (xs : List X) (counts : List ℕ) (i : ℕ) (d : X) → get_or (zipped step xs (take i counts)) i d ≡ get_or xs i d
  zipped_at [] counts i d = refl
  zipped_at (x ∷ xs) [] zero d = refl
  zipped_at (x ∷ xs) [] (suc i) d = refl
  zipped_at (x ∷ xs) (count ∷ counts) zero d = refl
  zipped_at (x ∷ xs) (count ∷ counts) (suc i) d = zipped_at xs counts i d

  next : (xs : List X) (counts : List ℕ) (i : ℕ) (x : X) → i < length xs → i < length counts → set (zipped step xs (take i counts)) i (step (get_or xs i x) (get_or counts i 0)) ≡ zipped step xs (take (suc i) counts)
  next [] counts i x within some = absurd (omega (arith, within))
  next (y ∷ xs) [] i x within some = absurd (omega (arith, some))
  next (y ∷ xs) (count ∷ counts) zero x within some = ap (λ l. step y count ∷ l) (zipped_none xs)
  next (y ∷ xs) (count ∷ counts) (suc i) x within some = ap (λ l. step y count ∷ l) (next xs counts i x (omega arith) (omega arith))

  -- one more step of the loop
  pub zipped_next : (initial now : List X) (counts : List ℕ) (i : ℕ) (d : X) → length initial ≡ length counts → i < length counts → now ≡ zipped step initial (take i counts)
      → set now i (step (get_or now i d) (get_or counts i 0)) ≡ zipped step initial (take (i + 1) counts)
  zipped_next initial now counts i d same within so_far =
      let more : i + 1 ≡ suc i = omega arith in
      let here : get_or now i d ≡ get_or initial i d = ap (λ l. get_or l i d) so_far ∙ zipped_at initial counts i d in
      (λ j. set (so_far j) i (step (here j) (get_or counts i 0))) ∙ next initial counts i d (omega arith) within ∙ ap (λ n. zipped step initial (take n counts)) (sym more)

  -- where each element is what the step makes of the one at its place
  pub zipped_each : (xs ys : List X) (counts : List ℕ) (d : X) → length counts ≡ length xs → length ys ≡ length xs → ((k : ℕ) → k < length xs → get_or ys k d ≡ step (get_or xs k d) (get_or counts k 0)) → ys ≡ zipped step xs counts
  zipped_each [] [] counts d same long each = refl
  zipped_each [] (y ∷ ys) counts d same long each = absurd (omega (arith, long))
  zipped_each (x ∷ xs) [] counts d same long each = absurd (omega (arith, long))
  zipped_each (x ∷ xs) (y ∷ ys) [] d same long each = absurd (omega (arith, same))
  zipped_each (x ∷ xs) (y ∷ ys) (count ∷ counts) d same long each =
      let rest = zipped_each xs ys counts d (omega (arith, same)) (omega (arith, long)) (λ k within. each (suc k) (omega arith)) in
      (λ i. each 0 (omega arith) i ∷ rest i)

-- where the elements and the counts are both made of the same
pub zipped_map : {X Y : Type 0} (step : X → ℕ → X) (f : Y → X) (g : Y → ℕ) (ys : List Y) → zipped step (map f ys) (map g ys) ≡ map (λ y. step (f y) (g y)) ys
zipped_map step f g [] = refl
zipped_map step f g (y ∷ ys) = ap (λ l. step (f y) (g y) ∷ l) (zipped_map step f g ys)

-- where the elements are counts too
pub zipped_own : (f : ℕ → ℕ) (xs : List ℕ) → zipped (λ x count. f x) xs xs ≡ map f xs
zipped_own f [] = refl
zipped_own f (x ∷ xs) = ap (λ l. f x ∷ l) (zipped_own f xs)

-- a step that changes nothing
pub zipped_idle : (step : ℕ → ℕ → ℕ) (xs counts : List ℕ) → ((x count : ℕ) → x ≡ step x count) → xs ≡ zipped step xs counts
zipped_idle step [] counts idle = refl
zipped_idle step (x ∷ xs) [] idle = refl
zipped_idle step (x ∷ xs) (count ∷ counts) idle = (λ i. idle x count i ∷ zipped_idle step xs counts idle i)

pub mapped_idle : (f : ℕ → ℕ) (xs : List ℕ) → ((x : ℕ) → x ≡ f x) → xs ≡ map f xs
mapped_idle f [] idle = refl
mapped_idle f (x ∷ xs) idle = (λ i. idle x i ∷ mapped_idle f xs idle i)

-- counts are added to none
pub zipped_zeros : (times : ℕ) (counts : List ℕ) → map (λ count. times * count) counts ≡ zipped (λ score count. score + times * count) (replicate (length counts) 0) counts
zipped_zeros times [] = refl
zipped_zeros times (count ∷ counts) = (λ i. plain (times * count) i ∷ zipped_zeros times counts i)
  where
    plain : (n : ℕ) → n ≡ 0 + n
    plain n = omega arith
