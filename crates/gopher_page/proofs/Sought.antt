-- Words in byte order by index: which of them come before the sought one, and which are meant.
use Rattle.std.proofs.Common.{◌≡◌, ◌⊎◌, ℕ, ◌+◌, ◌-◌, ◌<◌, ◌≤◌, Bool, true, false, List, [], length, get_or, sym, ap, subst, inl, inr, arith}
use Rattle.std.proofs.lemmas.Bool.{both_ways, cases_eq, cases_lt, true_from_ne_false}
use Rattle.std.proofs.lemmas.Map.Keys.{Less-from_sorted}
use Rattle.std.specs.Ordering.{nat_cmp, is_lt}
use Rattle.std.specs.Cmp.Lexicographic.{slice_cmp}
use Rattle.gopher_page.specs.Counts.{is_before, is_meant, AreInOrder, AreMeantWords, FailsAt, LastPasses}
use Rattle.gopher_page.proofs.Order.{meant_before, meant_past, not_before-trans, word_past}

-- a fact of a bound of a search holds where the search ends, if it does there by a test elsewhere
pub settled : (P : ℕ → Type 0) (bound end : ℕ) → P bound → ((end ≡ bound → ⊥) → P end) → P end
settled P bound end holds tested = by (cases_eq end bound)
  where
    by : (end ≡ bound) ⊎ (end ≡ bound → ⊥) → P end
    by (inl same) = subst P (sym same) holds
    by (inr apart) = tested apart

module _ (words : List (List ℕ)) (sorted : AreInOrder words) (sought : List ℕ) where
  abbrev word : ℕ → List ℕ
  word k = get_or words k []

  in_order : (i j : ℕ) → i < j → j < length words → is_before (word i) (word j) ≡ true
  in_order i j less within = ap is_lt (Less-from_sorted (slice_cmp nat_cmp) words i j [] sorted less within)

  -- a test that fails at an index and then at each word after one at which it fails
  from_index : (test : List ℕ → Bool) (i : ℕ) → FailsAt test words i
      → ((k : ℕ) → i < k → k < length words → test (word i) ≡ false → test (word k) ≡ false) → (k : ℕ) → i ≤ k → k < length words → test (word k) ≡ false
  from_index test i here later k from within = by (cases_lt i k)
    where
      by : (i < k) ⊎ (k ≤ i) → test (word k) ≡ false
      by (inl less) = later k less within (here (omega arith))
      by (inr up_to) =
          let same : i ≡ k = omega arith in
          subst (λ j. test (word j) ≡ false) same (here (omega arith))

  none_before_from : (i : ℕ) → FailsAt (λ w. is_before w sought) words i → (k : ℕ) → i ≤ k → k < length words → is_before (word k) sought ≡ false
  none_before_from i here = from_index (λ w. is_before w sought) i here (λ k less within fails. not_before-trans (word i) (word k) sought fails (in_order i k less within))

  all_before : (end : ℕ) → end ≤ length words → LastPasses (λ w. is_before w sought) words 0 end → (k : ℕ) → k < end → is_before (word k) sought ≡ true
  all_before end within last k below =
      true_from_ne_false (is_before (word k) sought) (λ e. both_ways _ (none_before_from k (λ inside. e) (end - 1) (omega arith) (omega arith)) (last (omega arith)))

  -- no word before the sought one lies after one that isn't
  pub bounds_forward : (low high : ℕ) → low ≤ length words → LastPasses (λ w. is_before w sought) words 0 low → FailsAt (λ w. is_before w sought) words high → low ≤ high
  bounds_forward low high within last here = by (cases_lt high low)
    where
      by : (high < low) ⊎ (low ≤ high) → low ≤ high
      by (inl less) = absurd (both_ways _ (here (omega arith)) (all_before low within last high less))
      by (inr forward) = forward

  module _ (is_prefix : Bool) (start : ℕ) (start_is : FailsAt (λ w. is_before w sought) words start) where
    -- after a word that isn't meant, no word is
    none_meant_from : (i : ℕ) → start ≤ i → FailsAt (is_meant is_prefix sought) words i → (k : ℕ) → i ≤ k → k < length words → is_meant is_prefix sought (word k) ≡ false
    none_meant_from i forward here =
        from_index (is_meant is_prefix sought) i here
        (λ k less within fails. meant_past is_prefix sought (word i) (word k) (none_before_from start start_is i forward (omega arith)) fails (in_order i k less within))

    pub meant_words : (end : ℕ) → start ≤ end → end ≤ length words → LastPasses (λ w. is_before w sought) words 0 start → LastPasses (is_meant is_prefix sought) words start end
        → FailsAt (is_meant is_prefix sought) words end → AreMeantWords words is_prefix sought start end
    meant_words end forward within last holds here = record {
      forward = forward;
      within = within;
      before = λ k less. meant_before is_prefix sought (word k) (all_before start (omega arith) last k less);
      meant = λ k from below.
          true_from_ne_false (is_meant is_prefix sought (word k)) (λ e. both_ways _ (none_meant_from k from (λ inside. e) (end - 1) (omega arith) (omega arith)) (holds (omega arith)));
      others = none_meant_from end forward here;
    }

  -- only the first word can equal the sought one
  pub one_word_meant : (start : ℕ) → FailsAt (λ w. is_before w sought) words start → FailsAt (is_meant false sought) words (start + 1)
  one_word_meant start here within = word_past sought (word start) (word (start + 1)) (here (omega arith)) (in_order start (start + 1) (omega arith) within)
