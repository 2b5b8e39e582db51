-- The numbers of words' first bytes are in the order of the words.
use Rattle.std.proofs.Common.{◌≡◌, ◌⊎◌, ℕ, zero, suc, ◌+◌, ◌-◌, ◌%◌, min, subst, ◌*◌, ◌^◌, ◌<◌, ◌≤◌, ◌==◌, Bool, List, [], ◌∷◌, length, drop, get_or, refl, sym, ap, ◌∙◌, inl, inr, arith}
use Rattle.std.proofs.lemmas.List.{at_drop_all}
use Rattle.std.proofs.lemmas.Bool.{lt-ltb, le-ltb, eq-eqb, ne_eqb, cases_order}
use Rattle.std.specs.Int.{from_be_bytes, w32}
use Rattle.std.proofs.Math.Nat.{pow-suc, one-le-pow, add-mul, mul-le-mul_right}
use Rattle.std.specs.Ordering.{nat_cmp, is_eq, ordering_then, ordering_reverse}
use Rattle.std.specs.Cmp.Lexicographic.{nat_list_cmp_total, texts_ties}
use Rattle.std.specs.declared.cmp.Ordering.{Ordering}
use Rattle.std.specs.declared.cmp.Ordering.TheVariants.{Less, Equal, Greater}
use Rattle.gopher_page.specs.Numbered.{leading, AreBytes}
use Rattle.gopher_page.specs.Words.{same_word}
use Rattle.gopher_page.proofs.AddedWords.{compare, not_same}

-- ---- halves of the number

-- the bytes of a half, of which the missing ones are 0
pub half_is : (word : List ℕ) (a b c d : ℕ) → get_or word 0 0 ≡ a → get_or word 1 0 ≡ b → get_or word 2 0 ≡ c → get_or word 3 0 ≡ d → from_be_bytes w32 (a ∷ b ∷ c ∷ d ∷ []) ≡ leading 4 word
unfolding leading
half_is [] a b c d p q r s = omega (arith, p, q, r, s)
half_is (x ∷ []) a b c d p q r s = omega (arith, p, q, r, s)
half_is (x ∷ y ∷ []) a b c d p q r s = omega (arith, p, q, r, s)
half_is (x ∷ y ∷ z ∷ []) a b c d p q r s = omega (arith, p, q, r, s)
half_is (x ∷ y ∷ z ∷ u ∷ word) a b c d p q r s = omega (arith, p, q, r, s)

pub halves : (word : List ℕ) → leading 4 word * 4294967296 + leading 4 (drop 4 word) ≡ leading 8 word
unfolding leading
halves [] = omega arith
halves (x ∷ []) = omega arith
halves (x ∷ y ∷ []) = omega arith
halves (x ∷ y ∷ z ∷ []) = omega arith
halves (x ∷ y ∷ z ∷ u ∷ word) = omega arith

-- ---- the order

pub leading_below : (count : ℕ) (word : List ℕ) → AreBytes word → leading count word < 256 ^ count
unfolding leading
leading_below zero word bytes = omega arith
leading_below (suc count) [] bytes = omega (arith, one-le-pow (suc count) 256 (omega arith))
leading_below (suc count) (byte ∷ word) bytes =
    let high : byte ≤ 255 = omega (arith, bytes 0) in
    omega (arith, mul-le-mul_right {m = byte} {n = 255} (256 ^ count) high, leading_below count word (λ i. bytes (suc i)), pow-suc 256 count)

-- two words with different numbers are in the order of these
pub leading_less : (count : ℕ) (a b : List ℕ) → AreBytes a → AreBytes b → leading count a < leading count b → compare a b ≡ Less
unfolding leading
leading_less zero a b p q less = absurd (omega arith)
leading_less (suc count) [] [] p q less = absurd (omega arith)
leading_less (suc count) [] (y ∷ b) p q less = refl
leading_less (suc count) (x ∷ a) [] p q less = absurd (omega arith)
leading_less (suc count) (x ∷ a) (y ∷ b) p q less = by (cases_order x y) (leading_less count a b (λ i. p (suc i)) (λ i. q (suc i)))
  where
    by : (x ≡ y) ⊎ ((x < y) ⊎ (y < x)) → (leading count a < leading count b → compare a b ≡ Less) → ordering_then (nat_cmp x y) (compare a b) ≡ Less
    by (inl same) rest =
        let products : x * 256 ^ count ≡ y * 256 ^ count = ap (λ z. z * 256 ^ count) same in
        rw (le-ltb x y (omega arith), eq-eqb x y same) (rest (omega arith))
    by (inr (inl below)) rest = rw (lt-ltb x y below)
    by (inr (inr above)) rest =
        let more : suc y ≤ x = omega arith in
        absurd (omega (arith, mul-le-mul_right {m = suc y} {n = x} (256 ^ count) more, add-mul y 1 (256 ^ count), leading_below count b (λ i. q (suc i))))

-- the order of two different numbers is that of their words
pub ordered_by_number : (r : Ordering) (m n count : ℕ) (a b : List ℕ) → AreBytes a → AreBytes b → m ≡ leading count a → n ≡ leading count b → r ≡ nat_cmp m n → (r ≡ Equal → ⊥) → r ≡ compare a b
ordered_by_number r m n count a b p q is_m is_n is apart = by (cases_order m n)
  where
    by : (m ≡ n) ⊎ ((m < n) ⊎ (n < m)) → r ≡ compare a b
    by (inl same) = absurd (apart (is ∙ rw (le-ltb m n (omega arith), eq-eqb m n same)))
    by (inr (inl below)) = (is ∙ rw (lt-ltb m n below)) ∙ sym (leading_less count a b p q (omega (arith, is_m, is_n)))
    by (inr (inr above)) =
        (is ∙ rw (le-ltb m n (omega arith), ne_eqb m n (λ same. omega arith))) ∙ sym (nat_list_cmp_total.antisymm a b ∙ ap ordering_reverse (leading_less count b a q p (omega (arith, is_m, is_n))))

-- ---- two words with one number

less_number : (m n : ℕ) → m < n → nat_cmp m n ≡ Less
less_number m n below = rw (lt-ltb m n below)

same_number : (m n : ℕ) → m ≡ n → nat_cmp m n ≡ Equal
same_number m n same = rw (le-ltb m n (omega arith), eq-eqb m n same)

more_number : (m n : ℕ) → n < m → nat_cmp m n ≡ Greater
more_number m n above = rw (le-ltb m n (omega arith), ne_eqb m n (λ same. omega arith))

next_numbers : (m n : ℕ) → nat_cmp m n ≡ nat_cmp (suc m) (suc n)
next_numbers m n = by (cases_order m n)
  where
    by : (m ≡ n) ⊎ ((m < n) ⊎ (n < m)) → nat_cmp m n ≡ nat_cmp (suc m) (suc n)
    by (inl same) = same_number m n same ∙ sym (same_number (suc m) (suc n) (omega arith))
    by (inr (inl below)) = less_number m n below ∙ sym (less_number (suc m) (suc n) (omega arith))
    by (inr (inr above)) = more_number m n above ∙ sym (more_number (suc m) (suc n) (omega arith))

-- if the number contains all bytes of both words, their lengths order them
pub tied_order : (count : ℕ) (a b : List ℕ) → AreBytes a → AreBytes b → length a ≤ count → length b ≤ count → leading count a ≡ leading count b → compare a b ≡ nat_cmp (length a) (length b)
unfolding leading
tied_order count [] [] p q s t e = sym (same_number 0 0 refl)
tied_order count [] (y ∷ b) p q s t e = sym (less_number 0 (suc (length b)) (omega arith))
tied_order count (x ∷ a) [] p q s t e = sym (more_number (suc (length a)) 0 (omega arith))
tied_order zero (x ∷ a) (y ∷ b) p q s t e = absurd (omega (arith, s))
tied_order (suc count) (x ∷ a) (y ∷ b) p q s t e = by (cases_order x y) (tied_order count a b (λ i. p (suc i)) (λ i. q (suc i)) (omega (arith, s)) (omega (arith, t)))
  where
    by : (x ≡ y) ⊎ ((x < y) ⊎ (y < x)) → (leading count a ≡ leading count b → compare a b ≡ nat_cmp (length a) (length b)) → ordering_then (nat_cmp x y) (compare a b) ≡ nat_cmp (suc (length a)) (suc (length b))
    by (inl same) rest =
        let products : x * 256 ^ count ≡ y * 256 ^ count = ap (λ z. z * 256 ^ count) same in
        ap (λ o. ordering_then o (compare a b)) (same_number x y same) ∙ rest (omega (arith, e, products)) ∙ next_numbers (length a) (length b)
    by (inr (inl below)) rest =
        let more : suc x ≤ y = omega arith in
        absurd (omega (arith, e, mul-le-mul_right {m = suc x} {n = y} (256 ^ count) more, add-mul x 1 (256 ^ count), leading_below count a (λ i. p (suc i))))
    by (inr (inr above)) rest =
        let more : suc y ≤ x = omega arith in
        absurd (omega (arith, e, mul-le-mul_right {m = suc y} {n = x} (256 ^ count) more, add-mul y 1 (256 ^ count), leading_below count b (λ i. q (suc i))))

-- if the number contains all bytes of both words, they are equal exactly if their lengths are
pub tied_same : (b : Bool) (word other : List ℕ) → AreBytes word → AreBytes other → length word ≤ 8 → length other ≤ 8 → leading 8 word ≡ leading 8 other → b ≡ (length word == length other) → b ≡ same_word word other
tied_same b word other p q s t e is = is ∙ by (cases_order (length word) (length other))
  where
    order : compare word other ≡ nat_cmp (length word) (length other)
    order = tied_order 8 word other p q s t e

    by : (length word ≡ length other) ⊎ ((length word < length other) ⊎ (length other < length word)) → (length word == length other) ≡ same_word word other
    by (inl same) = eq-eqb (length word) (length other) same ∙ sym (texts_ties word other ∙ ap is_eq (order ∙ same_number (length word) (length other) same))
    by (inr (inl below)) = ne_eqb (length word) (length other) (λ same. omega arith) ∙ sym (not_same word other Less (order ∙ less_number (length word) (length other) below) refl)
    by (inr (inr above)) = ne_eqb (length word) (length other) (λ same. omega arith) ∙ sym (not_same word other Greater (order ∙ more_number (length word) (length other) above) refl)

-- ---- overlapping halves

-- the last four of the first eight bytes, moved to the front and cut to four bytes
abbrev moved : ℕ → List ℕ → ℕ
moved end word = leading 4 (drop (end - 4) word) * 2 ^ (64 - 8 * end) % 18446744073709551616 % 4294967296

-- the bytes that are in both halves are dropped
pub second_half : (word : List ℕ) (end : ℕ) → AreBytes word → 4 ≤ length word → end ≡ min (length word) 8 → moved end word ≡ leading 4 (drop 4 word)
unfolding leading
second_half (x ∷ y ∷ z ∷ u ∷ rest) end bytes long is = by rest bytes is
  where
    by : (more : List ℕ) → AreBytes (x ∷ y ∷ z ∷ u ∷ more) → end ≡ min (length (x ∷ y ∷ z ∷ u ∷ more)) 8 → moved end (x ∷ y ∷ z ∷ u ∷ more) ≡ leading 4 more
    by [] b e = subst (λ n. moved n (x ∷ y ∷ z ∷ u ∷ []) ≡ 0) (sym e) (omega arith)
    by (p ∷ []) b e = subst (λ n. moved n (x ∷ y ∷ z ∷ u ∷ p ∷ []) ≡ leading 4 (p ∷ [])) (sym e) (omega (arith, b 4))
    by (p ∷ q ∷ []) b e = subst (λ n. moved n (x ∷ y ∷ z ∷ u ∷ p ∷ q ∷ []) ≡ leading 4 (p ∷ q ∷ [])) (sym e) (omega (arith, b 4, b 5))
    by (p ∷ q ∷ r ∷ []) b e = subst (λ n. moved n (x ∷ y ∷ z ∷ u ∷ p ∷ q ∷ r ∷ []) ≡ leading 4 (p ∷ q ∷ r ∷ [])) (sym e) (omega (arith, b 4, b 5, b 6))
    by (p ∷ q ∷ r ∷ s ∷ more) b e =
        let eight : end ≡ 8 = omega (arith, e) in
        subst (λ n. moved n (x ∷ y ∷ z ∷ u ∷ p ∷ q ∷ r ∷ s ∷ more) ≡ leading 4 (p ∷ q ∷ r ∷ s ∷ more)) (sym eight) (omega (arith, b 4, b 5, b 6, b 7))
second_half [] end bytes long is = absurd (omega arith)
second_half (x ∷ []) end bytes long is = absurd (omega arith)
second_half (x ∷ y ∷ []) end bytes long is = absurd (omega arith)
second_half (x ∷ y ∷ z ∷ []) end bytes long is = absurd (omega arith)

-- a word of less than four bytes has no second half
pub no_second_half : (word : List ℕ) → length word < 4 → leading 4 word * 4294967296 ≡ leading 8 word
unfolding leading
no_second_half word few = omega (arith, halves word, at_drop_all (leading 4) word 4 (omega arith))
