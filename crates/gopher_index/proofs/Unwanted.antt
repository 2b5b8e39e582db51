-- Groups of `not` and a word, whose posting lists raise verdicts.
use Rattle.std.proofs.Common.{◌≡◌, ℕ, zero, suc, ◌+◌, ◌*◌, Bool, true, false, cond, List, length, max, get_or, sym, ap, subst, ◌∙◌, arith}
use Rattle.std.specs.Prelude.{Option, None, Some, IfSome, nat_lt}
use Rattle.std.proofs.lemmas.Bool.{lt-ltb, le-ltb}
use Rattle.gopher_page.specs.Page.{PageData}
use Rattle.std.proofs.lemmas.List.{length-map}
use Rattle.gopher_page.specs.Query.{count_of_term}
use Rattle.gopher_segment.specs.Postings.{AreWithin, count_in, run_of, IsPostingListOf}
use Rattle.gopher_segment.proofs.Pieces.{count_in-run, run_within}
use Rattle.gopher_segment.specs.Segment.{meant_counts}
use Rattle.gopher_segment.specs.declared.postings.Postings.{Postings}
use Rattle.gopher_index.specs.Plan.{term_counts, zipped, verdict_by}
use Rattle.gopher_index.specs.Joined.{IsUnwantedList, Raises, posted, posted_count}
use Rattle.gopher_index.specs.declared.plan.Group.{Group}
use Rattle.gopher_index.proofs.PostingLemmas.{meant_is_term}
use Rattle.gopher_index.proofs.Zipping.{zipped_each, zipped_idle}

pub none_raises : (holds verdict : ℕ) → verdict ≡ max verdict (cond (nat_lt 0 0) holds 0)
none_raises holds verdict =
    let none : nat_lt 0 0 ≡ false = le-ltb 0 0 (omega arith) in
    let same : verdict ≡ max verdict 0 = omega arith in
    same ∙ ap (λ b. max verdict (cond b holds 0)) (sym none)

-- two counts of a page raise its verdict where their sum does
pub raised_twice : (holds verdict a b : ℕ) → max (max verdict (cond (nat_lt 0 a) holds 0)) (cond (nat_lt 0 b) holds 0) ≡ max verdict (cond (nat_lt 0 (a + b)) holds 0)
raised_twice holds verdict zero b =
    let sum : b ≡ 0 + b = omega arith in
    (λ i. max (sym (none_raises holds verdict) i) (cond (nat_lt 0 b) holds 0)) ∙ ap (λ n. max verdict (cond (nat_lt 0 n) holds 0)) sum
raised_twice holds verdict (suc a) b =
    let some : nat_lt 0 (suc a) ≡ true = lt-ltb 0 (suc a) (omega arith) in
    let more : nat_lt 0 (suc a + b) ≡ true = lt-ltb 0 (suc a + b) (omega arith) in
    (λ i. max (max verdict (cond (some i) holds 0)) (cond (nat_lt 0 b) holds 0))
    ∙ at_most (nat_lt 0 b)
    ∙ ap (λ t. max verdict (cond t holds 0)) (sym more)
  where
    at_most : (t : Bool) → max (max verdict holds) (cond t holds 0) ≡ max verdict holds
    at_most true = omega arith
    at_most false = omega arith

-- the posting list of a group's word
pub unwanted_listed : (group : Group) (pages : List PageData) (word : List ℕ) (list : Option Postings) → group.wanted ≡ 0 → group.fails ≡ 0 → group.term.is_prefix ≡ false → word ≡ group.term.word
    → IfSome list (IsPostingListOf word pages) → IfSome list (λ postings. length postings.counts.now ≡ length postings.numbers.now) → IfSome list (IsUnwantedList group pages)
unwanted_listed group pages word None unwanted holds plain same run beside = tt
unwanted_listed group pages word (Some list) unwanted holds plain same run beside = record {
  wanted = unwanted;
  fails = holds;
  run = run ∙ (λ i. run_of list.first (meant_counts (sym plain i) (same i) pages)) ∙ ap (run_of list.first) (meant_is_term group.term pages);
  beside = beside;
}

module _ (group : Group) (pages : List PageData) (list : Postings) (is : IsUnwantedList group pages list) where
  abbrev counts : List ℕ
  counts = term_counts group.term pages

  counts_long : length counts ≡ length pages
  counts_long = length-map pages (λ (page : PageData). count_of_term page.counts group.term)

  pub listed_within : (verdicts : List ℕ) → length verdicts ≡ length pages → AreWithin list.first (length verdicts) (posted list)
  listed_within verdicts long =
      subst (AreWithin list.first (length verdicts)) (sym is.run)
      (subst (λ n. AreWithin list.first n (run_of list.first counts)) (counts_long ∙ sym long) (run_within list.first counts))

  -- if the postings raise verdicts, the group does
  pub listed_raises : (verdicts raised : List ℕ) → length verdicts ≡ length pages → length raised ≡ length verdicts → Raises group.holds (posted_count list) verdicts raised
      → raised ≡ zipped (λ verdict count. max verdict (verdict_by group count)) verdicts counts
  listed_raises verdicts raised long same raises =
      zipped_each (λ verdict count. max verdict (verdict_by group count)) verdicts raised counts 0 (counts_long ∙ sym long) same
      (λ k within.
      raises k within
      ∙ ap (λ postings. max (get_or verdicts k 0) (cond (nat_lt 0 (count_in (list.first + k) postings)) group.holds 0)) is.run
      ∙ (λ i. max (get_or verdicts k 0) (cond (nat_lt 0 (count_in-run list.first counts k (omega (arith, within, long, counts_long)) i)) group.holds (sym is.fails i))))

  pub unwanted_adds : (scores : List ℕ) → scores ≡ zipped (λ score count. score + group.wanted * count) scores counts
  unwanted_adds scores = zipped_idle (λ score count. score + group.wanted * count) scores counts idle
    where
      idle : (score count : ℕ) → score ≡ score + group.wanted * count
      idle score count =
          let plain : score ≡ score + 0 * count = omega arith in
          plain ∙ ap (λ times. score + times * count) (sym is.wanted)
