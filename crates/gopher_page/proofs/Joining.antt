-- Numbers whose low and high parts are stored apart.
use Rattle.std.proofs.Common.{◌≡◌, ℕ, zero, suc, ◌+◌, ◌*◌, ◌-◌, ◌<◌, ◌≤◌, Bool, true, false, ◌&&◌, eqb, cond, List, [], ◌∷◌, ◌++◌, length, take, drop, min, slice_get, append_assoc, Some, None, refl, sym, ap, ◌∙◌, arith}
use Rattle.std.proofs.Math.ListN.{replicate, set}
use Rattle.std.proofs.Math.Dec.{ltb}
use Rattle.std.proofs.lemmas.Bool.{cond_both, le-ltb, lt-ltb, ne_eqb}
use Rattle.std.proofs.lemmas.List.{drop_min, length-append, length-drop, length-replicate, length-set, length-take, replicate-append-replicate, set_at, take_all, take_min}
use Rattle.std.proofs.lemmas.List.Sums.{sum_by-cons, sum_by-take-le, sum_by-take-drop}
use Rattle.std.specs.List.{sum}
use Rattle.gopher_page.specs.Packed.{AreParts, joined_parts, len_to_last}

pub length-joined : (base : ℕ) (lows highs : List ℕ) → length (joined_parts base lows highs) ≡ length lows
length-joined base lows [] = refl
length-joined base [] (high ∷ highs) = refl
length-joined base (low ∷ lows) (high ∷ highs) = ap suc (length-joined base lows highs)

-- ---- how many high parts there are

-- the length with one more number in front
abbrev longer : Bool → ℕ → ℕ
longer small n = cond (small && eqb n 0) 0 (n + 1)

longer-le : (small : Bool) (n : ℕ) → longer small n ≤ n + 1
longer-le small n = cond_both (small && eqb n 0) 0 (n + 1) (λ m. m ≤ n + 1) (λ t. omega arith) (λ t. omega arith)

longer-some : (small : Bool) (n : ℕ) → 0 < n → longer small n ≡ n + 1
longer-some true n some = ap (λ t. cond t 0 (n + 1)) (ne_eqb n 0 (omega arith))
longer-some false n some = refl

len_to_last-le : (base : ℕ) (numbers : List ℕ) → len_to_last base numbers ≤ length numbers
len_to_last-le base [] = omega arith
len_to_last-le base (number ∷ numbers) = omega (arith, longer-le (ltb number base) (len_to_last base numbers), len_to_last-le base numbers)

-- no more high parts than low ones
pub few_highs : (base : ℕ) (lows highs : List ℕ) → AreParts base lows highs → length highs ≤ length lows
few_highs base lows highs parts = omega (arith, parts, len_to_last-le base (joined_parts base lows highs), length-joined base lows highs)

pub to_last-small : (base : ℕ) (numbers : List ℕ) (number : ℕ) → number < base → len_to_last base (numbers ++ number ∷ []) ≡ len_to_last base numbers
to_last-small base [] number small = ap (λ t. longer t 0) (lt-ltb number base small)
to_last-small base (first ∷ numbers) number small = ap (longer (ltb first base)) (to_last-small base numbers number small)

pub to_last-large : (base : ℕ) (numbers : List ℕ) (number : ℕ) → base ≤ number → len_to_last base (numbers ++ number ∷ []) ≡ length numbers + 1
to_last-large base [] number large = ap (λ t. longer t 0) (le-ltb number base large)
to_last-large base (first ∷ numbers) number large =
    let rest : len_to_last base (numbers ++ number ∷ []) ≡ length numbers + 1 = to_last-large base numbers number large in
    omega (arith, rest, longer-some (ltb first base) (len_to_last base (numbers ++ number ∷ [])) (omega (arith, rest)))

-- ---- a number by its index

pub joined-none : (base : ℕ) (lows highs : List ℕ) (index low : ℕ) → slice_get lows index ≡ Some low → slice_get highs index ≡ None → slice_get (joined_parts base lows highs) index ≡ Some low
joined-none base lows [] index low here none = here
joined-none base [] (high ∷ highs) index low here none = absurd cc
joined-none base (first ∷ lows) (high ∷ highs) zero low here none = absurd cc
joined-none base (first ∷ lows) (high ∷ highs) (suc index) low here none = joined-none base lows highs index low here none

pub joined-some : (base : ℕ) (lows highs : List ℕ) (index low high : ℕ) → slice_get lows index ≡ Some low → slice_get highs index ≡ Some high → slice_get (joined_parts base lows highs) index ≡ Some (low + base * high)
joined-some base lows [] index low high here some = absurd cc
joined-some base [] (first ∷ highs) index low high here some = absurd cc
joined-some base (l ∷ lows) (h ∷ highs) zero low high here some =
    let same_low : l ≡ low = cc in
    let same_high : h ≡ high = cc in
    λ i. Some (same_low i + base * same_high i)
joined-some base (l ∷ lows) (h ∷ highs) (suc index) low high here some = joined-some base lows highs index low high here some

-- ---- one more number

joined-low : (base : ℕ) (lows highs : List ℕ) (count : ℕ) → length highs ≤ length lows → joined_parts base (lows ++ count ∷ []) highs ≡ joined_parts base lows highs ++ count ∷ []
joined-low base lows [] count short = refl
joined-low base [] (high ∷ highs) count short = absurd (omega arith)
joined-low base (low ∷ lows) (high ∷ highs) count short = ap (λ l. (low + base * high) ∷ l) (joined-low base lows highs count (omega arith))

zeros : (base : ℕ) (lows : List ℕ) (n : ℕ) → n ≤ length lows → joined_parts base lows (replicate n 0) ≡ lows
zeros base lows zero short = refl
zeros base [] (suc n) short = absurd (omega arith)
zeros base (low ∷ lows) (suc n) short =
    let same : low + base * 0 ≡ low = omega arith in
    λ i. same i ∷ zeros base lows n (omega arith) i

filled : (base : ℕ) (lows highs : List ℕ) (n : ℕ) → length highs + n ≤ length lows → joined_parts base lows (highs ++ replicate n 0) ≡ joined_parts base lows highs
filled base lows [] n short = zeros base lows n (omega arith)
filled base [] (high ∷ highs) n short = absurd (omega arith)
filled base (low ∷ lows) (high ∷ highs) n short = ap (λ l. (low + base * high) ∷ l) (filled base lows highs n (omega arith))

both : (base : ℕ) (lows highs : List ℕ) (low high : ℕ) → length highs ≡ length lows → joined_parts base (lows ++ low ∷ []) (highs ++ high ∷ []) ≡ joined_parts base lows highs ++ (low + base * high) ∷ []
both base [] [] low high same = refl
both base (first ∷ lows) [] low high same = absurd (omega arith)
both base [] (first ∷ highs) low high same = absurd (omega arith)
both base (l ∷ lows) (h ∷ highs) low high same = ap (λ list. (l + base * h) ∷ list) (both base lows highs low high (omega arith))

module _ (base : ℕ) (lows highs : List ℕ) (parts : AreParts base lows highs) where
  few : length highs ≤ length lows
  few = few_highs base lows highs parts

  -- a number without a high part
  pub push-low : (low : ℕ) → joined_parts base (lows ++ low ∷ []) highs ≡ joined_parts base lows highs ++ low ∷ []
  push-low low = joined-low base lows highs low few

  pub parts-low : (low : ℕ) → low < base → AreParts base (lows ++ low ∷ []) highs
  parts-low low small = parts ∙ sym (to_last-small base (joined_parts base lows highs) low small) ∙ ap (len_to_last base) (sym (push-low low))

  -- a number with a high part, after zeros fill up the high parts
  module _ (room : List ℕ) (low high number index n : ℕ) (whole : low + base * high ≡ number) (size : index ≡ length lows) (missing : n ≡ index + 1 - length highs)
      (grown : room ≡ take (index + 1) highs ++ replicate n 0) where
    pub push-high : joined_parts base (lows ++ low ∷ []) (set room index high) ≡ joined_parts base lows highs ++ number ∷ []
    push-high =
        let zeros : List ℕ = replicate (index - length highs) 0 in
        let one_more : n ≡ (index - length highs) + 1 = omega (arith, few, missing, size) in
        let full : length (highs ++ zeros) ≡ index = omega (arith, few, size, length-append highs zeros, length-replicate {A = ℕ} (index - length highs) 0) in
        let is : room ≡ (highs ++ zeros) ++ 0 ∷ [] =
        grown
        ∙ (λ i. take_all (index + 1) highs (omega (arith, few, size)) i ++ replicate (one_more i) 0)
        ∙ ap (λ l. highs ++ l) (sym (replicate-append-replicate (index - length highs) 1 0))
        ∙ sym (append_assoc highs zeros (0 ∷ [])) in
        ap (λ l. joined_parts base (lows ++ low ∷ []) (set l index high)) is
        ∙ ap (joined_parts base (lows ++ low ∷ [])) (set_at (highs ++ zeros) 0 [] high index full)
        ∙ both base lows (highs ++ zeros) low high (omega (arith, full, size))
        ∙ (λ i. filled base lows highs (index - length highs) (omega (arith, few, size)) i ++ whole i ∷ [])

    pub parts-high : base ≤ number → AreParts base (lows ++ low ∷ []) (set room index high)
    parts-high large =
        let last : len_to_last base (joined_parts base (lows ++ low ∷ []) (set room index high)) ≡ length (joined_parts base lows highs) + 1 =
        ap (len_to_last base) push-high ∙ to_last-large base (joined_parts base lows highs) number large in
        omega (
          arith,
          last,
          few,
          size,
          missing,
          length-joined base lows highs,
          length-set room index high,
          ap length grown,
          length-append (take (index + 1) highs) (replicate n 0),
          length-replicate {A = ℕ} n 0,
          length-take (index + 1) highs,
        )

-- ---- some of the numbers, and their sum

take-joined : (base : ℕ) (lows highs : List ℕ) (n : ℕ) → take n (joined_parts base lows highs) ≡ joined_parts base (take n lows) (take n highs)
take-joined base lows highs zero = refl
take-joined base lows [] (suc n) = refl
take-joined base [] (high ∷ highs) (suc n) = refl
take-joined base (low ∷ lows) (high ∷ highs) (suc n) = ap (λ l. (low + base * high) ∷ l) (take-joined base lows highs n)

joined-empty : (base : ℕ) (highs : List ℕ) → joined_parts base [] highs ≡ []
joined-empty base [] = refl
joined-empty base (high ∷ highs) = refl

drop-joined : (base : ℕ) (lows highs : List ℕ) (n : ℕ) → drop n (joined_parts base lows highs) ≡ joined_parts base (drop n lows) (drop n highs)
drop-joined base lows highs zero = refl
drop-joined base lows [] (suc n) = refl
drop-joined base [] (high ∷ highs) (suc n) = sym (joined-empty base (drop n highs))
drop-joined base (low ∷ lows) (high ∷ highs) (suc n) = drop-joined base lows highs n

sum-joined : (lows highs : List ℕ) → length highs ≤ length lows → sum (joined_parts 256 lows highs) ≡ sum lows + 256 * sum highs
sum-joined lows [] short = omega arith
sum-joined [] (high ∷ highs) short = absurd (omega arith)
sum-joined (low ∷ lows) (high ∷ highs) short =
    omega (
      arith,
      sum_by-cons (λ x. x) (low + 256 * high) (joined_parts 256 lows highs),
      sum-joined lows highs (omega arith),
      sum_by-cons (λ x. x) low lows,
      sum_by-cons (λ x. x) high highs,
    )

-- the sum of `n` numbers from `start` on
pub sum_between : (lows highs : List ℕ) (start n : ℕ) → AreParts 256 lows highs → sum (take n (drop start (joined_parts 256 lows highs))) ≡ sum (take n (drop start lows)) + 256 * sum (take n (drop start highs))
sum_between lows highs start n parts =
    let fewer : length (take n (drop start highs)) ≤ length (take n (drop start lows)) =
    omega (arith, few_highs 256 lows highs parts, length-take n (drop start highs), length-take n (drop start lows), length-drop start highs, length-drop start lows) in
    ap (λ l. sum (take n l)) (drop-joined 256 lows highs start)
    ∙ ap sum (take-joined 256 (drop start lows) (drop start highs) n)
    ∙ sum-joined (take n (drop start lows)) (take n (drop start highs)) fewer

-- both parts of this sum are small if the sum of all numbers is
pub sum_between_few : (lows highs all : List ℕ) (start n : ℕ) → AreParts 256 lows highs → joined_parts 256 lows highs ≡ all → sum all ≤ 1048576 → sum (take n (drop start lows)) + 256 * sum (take n (drop start highs)) ≤ 1048576
sum_between_few lows highs all start n parts is few =
    omega (
      arith,
      few,
      sum_between lows highs start n parts,
      ap (λ l. sum (take n (drop start l))) is,
      sum_by-take-le (λ x. x) (drop start all) n,
      sum_by-take-drop (λ x. x) all start,
    )

-- indices past the end can be moved to it
pub within_length : (xs : List ℕ) (start end : ℕ) → take (min end (length xs) - min start (length xs)) (drop (min start (length xs)) xs) ≡ take (end - start) (drop start xs)
within_length xs start end =
    let size : min end (length xs) - min start (length xs) ≡ min (end - start) (length (drop start xs)) = omega (arith, length-drop start xs) in
    (λ i. take (size i) (drop_min start xs i)) ∙ take_min (end - start) (drop start xs)
