-- How often a list contains a number, and sums over ranges of numbers.
use Rattle.std.proofs.Common.{◌≡◌, ◌≢◌, ℕ, suc, zero, ◌+◌, ◌≤◌, ◌<◌, Bool, false, not, cond, List, [], ◌∷◌, ◌++◌, length, filter, ◌⊎◌, inl, inr, Some, refl, sym, ◌∙◌, ap, arith, eqb, ltb}
use Rattle.std.specs.List.{range_with_len, count_by, sum_by, slice_get}
use Rattle.std.proofs.lemmas.Bool.{eq-eqb, ne_eqb, cases_eq, cases_lt, cases_Bool, false≢true, lt-ltb, le-ltb}
use Rattle.std.proofs.lemmas.List.Filters.{sum_by-filter_both}
use Rattle.std.proofs.lemmas.List.Sums.{sum_by-append, sum_by-cons}

-- ---- how often a list contains a number

unfoldable pub times : ℕ → List ℕ → ℕ
times n ns = count_by (λ m. eqb n m) ns

pub times-nil : (n : ℕ) → times n [] ≡ 0
unfolding times
times-nil n = refl

pub times-cons : (n m : ℕ) (ns : List ℕ) → times n (m ∷ ns) ≡ cond (eqb n m) 1 0 + times n ns
unfolding times
times-cons n m ns = sum_by-cons (λ x. cond (eqb n x) 1 0) m ns

pub times-append : (n : ℕ) (ms ns : List ℕ) → times n (ms ++ ns) ≡ times n ms + times n ns
unfolding times
times-append n ms ns = sum_by-append (λ m. cond (eqb n m) 1 0) ms ns

pub one-same : (n m : ℕ) → n ≡ m → ◌≡◌ {A = ℕ} (cond (eqb n m) 1 0) 1
one-same n m e = rw (eq-eqb n m e) refl

pub one-other : (n m : ℕ) → n ≢ m → ◌≡◌ {A = ℕ} (cond (eqb n m) 1 0) 0
one-other n m ne = rw (ne_eqb n m ne) refl

-- a list contains the number at each of its indexes
pub times_at : (ns : List ℕ) (k n : ℕ) → slice_get ns k ≡ Some n → 1 ≤ times n ns
times_at [] k n h = cc
times_at (m ∷ ns) zero n h = omega (arith, times-cons n m ns, one-same n m (cc))
times_at (m ∷ ns) (suc k) n h = omega (arith, times-cons n m ns, times_at ns k n h)

pub times-range_outside : (n a len : ℕ) → (n < a) ⊎ (a + len ≤ n) → times n (range_with_len a len) ≡ 0
times-range_outside n a zero h = times-nil n
times-range_outside n a (suc len) h =
    let ne : n ≢ a = λ e. elim h [ inl lt ↦ omega arith | inr ge ↦ omega arith ] in
    let rest : times n (range_with_len (a + 1) len) ≡ 0 = times-range_outside n (a + 1) len (elim h as (λ c. (n < a + 1) ⊎ (a + 1 + len ≤ n)) [ inl lt ↦ inl (omega arith) | inr ge ↦ inr (omega arith) ]) in
    omega (arith, times-cons n a (range_with_len (a + 1) len), one-other n a ne)

pub times-range_within : (n a len : ℕ) → a ≤ n → n < a + len → times n (range_with_len a len) ≡ 1
times-range_within n a zero l u = absurd (omega arith)
times-range_within n a (suc len) l u =
    elim (cases_eq n a) as (λ c. times n (range_with_len a (suc len)) ≡ 1) [
      | inl e ↦ omega (arith, times-cons n a (range_with_len (a + 1) len), one-same n a e, times-range_outside n (a + 1) len (inl (omega arith)))
      | inr ne ↦ omega (arith, times-cons n a (range_with_len (a + 1) len), one-other n a ne, times-range_within n (a + 1) len (omega arith) (omega arith))
    ]

pub times-range : (n count : ℕ) → times n (range_with_len 0 count) ≡ cond (ltb n count) 1 0
times-range n count =
    elim (cases_lt n count) as (λ c. times n (range_with_len 0 count) ≡ cond (ltb n count) 1 0) [
      | inl below ↦ rw (lt-ltb n count below) (times-range_within n 0 count (omega arith) (omega arith))
      | inr beyond ↦ rw (le-ltb n count beyond) (times-range_outside n 0 count (inr (omega arith)))
    ]

-- a number that doesn't pass isn't among those that pass; one that passes is there as often as before
times-filter_misses : (p : ℕ → Bool) (n : ℕ) (ns : List ℕ) → p n ≡ false → times n (filter p ns) ≡ 0
times-filter_misses p n [] h = times-nil n
times-filter_misses p n (m ∷ ns) h =
    elim (cases_Bool (p m)) as (λ q. times n (filter p (m ∷ ns)) ≡ 0) [
      | inl passes ↦
          let ne : n ≢ m = λ same. false≢true (sym h ∙ ap p same ∙ passes) in
          rw passes (omega (arith, times-filter_misses p n ns h, times-cons n m (filter p ns), one-other n m ne))
      | inr misses ↦ rw misses (times-filter_misses p n ns h)
    ]

times-filter_both : (p : ℕ → Bool) (n : ℕ) (ns : List ℕ) → times n (filter p ns) + times n (filter (λ m. not (p m)) ns) ≡ times n ns
unfolding times
times-filter_both p n ns = sum_by-filter_both p (λ m. not (p m)) (λ m. refl) (λ m. cond (eqb n m) 1 0) ns

pub times-filter : (p : ℕ → Bool) (n : ℕ) (ns : List ℕ) → times n (filter p ns) ≡ cond (p n) (times n ns) 0
times-filter p n ns =
    elim (cases_Bool (p n)) as (λ q. times n (filter p ns) ≡ cond (p n) (times n ns) 0) [
      | inl passes ↦
          let others : times n (filter (λ m. not (p m)) ns) ≡ 0 = times-filter_misses (λ m. not (p m)) n ns (ap not passes) in
          rw passes (omega (arith, times-filter_both p n ns, others))
      | inr misses ↦ rw misses (times-filter_misses p n ns misses)
    ]

-- ---- sums over ranges

pub sum-range_none : (f : ℕ → ℕ) (a len : ℕ) → ((n : ℕ) → a ≤ n → n < a + len → f n ≡ 0) → sum_by f (range_with_len a len) ≡ 0
sum-range_none f a zero each = refl
sum-range_none f a (suc len) each =
    omega (arith, sum_by-cons f a (range_with_len (a + 1) len), each a (omega arith) (omega arith), sum-range_none f (a + 1) len (λ n l u. each n (omega arith) (omega arith)))

pub sum-range_ones : (f : ℕ → ℕ) (a len : ℕ) → ((n : ℕ) → a ≤ n → n < a + len → f n ≡ 1) → sum_by f (range_with_len a len) ≡ len
sum-range_ones f a zero each = refl
sum-range_ones f a (suc len) each =
    omega (arith, sum_by-cons f a (range_with_len (a + 1) len), each a (omega arith) (omega arith), sum-range_ones f (a + 1) len (λ n l u. each n (omega arith) (omega arith)))

pub sum-range_add : (f g h : ℕ → ℕ) (a len : ℕ) → ((n : ℕ) → a ≤ n → n < a + len → f n + g n ≡ h n) → sum_by f (range_with_len a len) + sum_by g (range_with_len a len) ≡ sum_by h (range_with_len a len)
sum-range_add f g h a zero each = refl
sum-range_add f g h a (suc len) each =
    let rest : List ℕ = range_with_len (a + 1) len in
    omega (arith, sum_by-cons f a rest, sum_by-cons g a rest, sum_by-cons h a rest, each a (omega arith) (omega arith), sum-range_add f g h (a + 1) len (λ n l u. each n (omega arith) (omega arith)))

sum-range_one : (m a len : ℕ) → a ≤ m → m < a + len → sum_by (λ n. cond (eqb n m) 1 0) (range_with_len a len) ≡ 1
sum-range_one m a zero l u = absurd (omega arith)
sum-range_one m a (suc len) l u =
    let f : ℕ → ℕ = λ n. cond (eqb n m) 1 0 in
    let split : sum_by f (range_with_len a (suc len)) ≡ cond (eqb a m) 1 0 + sum_by f (range_with_len (a + 1) len) = sum_by-cons f a (range_with_len (a + 1) len) in
    elim (cases_eq a m) as (λ c. sum_by f (range_with_len a (suc len)) ≡ 1) [
      | inl e ↦ omega (arith, split, one-same a m e, sum-range_none f (a + 1) len (λ n l' u'. one-other n m (λ e'. omega arith)))
      | inr ne ↦ omega (arith, split, one-other a m ne, sum-range_one m (a + 1) len (omega arith) (omega arith))
    ]

-- a list of numbers below `count` is as long as it contains each of them, in sum
pub sum-times : (f : ℕ → ℕ) (count : ℕ) (ns : List ℕ) → ((n : ℕ) → f n ≡ times n ns) → ((n : ℕ) → count ≤ n → f n ≡ 0) → sum_by f (range_with_len 0 count) ≡ length ns
sum-times f count [] is none = sum-range_none f 0 count (λ n l u. is n ∙ times-nil n)
sum-times f count (m ∷ ns) is none =
    let below : m < count = elim (cases_lt m count) as (λ c. m < count) [ inl lt ↦ lt | inr ge ↦ absurd (omega (arith, none m ge, is m, times-cons m m ns, one-same m m refl)) ] in
    let rest = sum-times (λ n. times n ns) count ns (λ n. refl) (λ n beyond. omega (arith, none n beyond, is n, times-cons n m ns)) in
    let both = sum-range_add (λ n. cond (eqb n m) 1 0) (λ n. times n ns) f 0 count (λ n l u. sym (is n ∙ times-cons n m ns)) in
    omega (arith, rest, both, sum-range_one m 0 count (omega arith) (omega arith))
