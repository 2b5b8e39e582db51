use Rattle.std.proofs.Common.{◌≡◌, ℕ, List, ◌<◌, ◌++◌, ◌∷◌, [], length, sym, ap, subst, ◌∙◌, arith, refl}
use Rattle.std.proofs.lemmas.List.{length-append, append-nil}
use Rattle.std.proofs.lemmas.Result.{IfOk-weaker}
use Rattle.std.specs.List.{flat_map, zip}
use Rattle.std.specs.List.Sorted.{IsStrictlySortedBy}
use Rattle.std.specs.Ordering.{nat_cmp}
use Rattle.std.specs.Cmp.Lexicographic.{slice_cmp}
use Rattle.gopher_segment.specs.Rows.{postings_of, rows_left, taken, AreRowsInOrder, ComeBefore, HavePostingsOf}
use Rattle.gopher_bytes.proofs.Zips.{firsts}
use Rattle.gopher_segment.proofs.WordOrder.{sorted_push}
use Rattle.gopher_segment.proofs.MergeLemmas.{AreFrom, are_from, fewer_left, pass_orders, before_first, pass_befores}
use Rattle.gopher_segment.proofs.WordPostings.{no_postings_left, runs_step}
use Rattle.gopher_segment.proofs.merging.merge.Goals as goal

none_yet : (words : List (List ℕ)) (tables : List (List (List ℕ × List (ℕ × ℕ)))) → words ≡ [] → ComeBefore words tables
none_yet words [] e = tt
none_yet words ([] ∷ tables) e = (tt, none_yet words tables e)
none_yet words ((row ∷ rows) ∷ tables) e = (rw e tt, none_yet words tables e)

pub loop-first-init : goal.loop-first-init
unfolding IsStrictlySortedBy
loop-first-init c = record {
  same = rw (c.in_ok-runs.ensures.whole, c.in_ok-words.ensures) refl;
  ended = c.in_ok-runs.ensures.begun;
  order = rw c.in_ok-words.ensures tt;
  before = none_yet c.in_ok-words.words c.args.cursors.now c.in_ok-words.ensures;
  orders = c.requires;
  postings = λ word. rw (c.in_ok-runs.ensures.whole, c.in_ok-words.ensures) refl;
}

pub loop-first-smaller : goal.loop-first-smaller
loop-first-smaller c =
    let lowest = c.in-Some.ensures.lowest in
    let P : List (List (List ℕ × List (ℕ × ℕ))) → Type 0 = λ tables. rows_left tables < rows_left c.loop-first.cursors in
    subst P (sym c.in_ok-take_runs.ensures.cursors) (fewer_left c.in-Some.word c.loop-first.cursors c.in-Some.first lowest.within lowest.here)

pub loop-first-preserved : goal.loop-first-preserved
loop-first-preserved c =
    let word : List ℕ = c.in-Some.word in
    let lowest = c.in-Some.ensures.lowest in
    let from : AreFrom word c.loop-first.cursors = are_from word c.loop-first.cursors lowest.none in
    let pushed : c.push.new.self ≡ c.loop-first.words ++ word ∷ [] = c.in_ok-push.ensures.added ∙ ap (λ w. c.loop-first.words ++ w ∷ []) c.word.ensures in
    let before = before_first c.loop-first.words word c.loop-first.cursors c.in-Some.first c.loop-first.invariant.before lowest.within lowest.here in
    let run : c.take_runs.new.runs.begun ≡ flat_map (taken word) c.loop-first.cursors = c.in_ok-take_runs.ensures.begun ∙ ap (λ l. l ++ flat_map (taken word) c.loop-first.cursors) c.loop-first.invariant.ended in
    let grown : c.end_run.new.self.whole ≡ c.loop-first.runs.whole ++ c.take_runs.new.runs.begun ∷ [] = c.in_ok-end_run.ensures.whole ∙ ap (λ l. l ++ c.take_runs.new.runs.begun ∷ []) c.in_ok-take_runs.ensures.whole in
    record {
      same = omega (arith, c.loop-first.invariant.same, ap length grown, ap length pushed, length-append c.loop-first.runs.whole (c.take_runs.new.runs.begun ∷ []), length-append c.loop-first.words (word ∷ []));
      ended = c.in_ok-end_run.ensures.begun;
      order = rw pushed (sorted_push c.loop-first.words word c.loop-first.invariant.order before);
      before = rw (pushed, c.in_ok-take_runs.ensures.cursors) (pass_befores c.loop-first.words word c.loop-first.cursors from c.loop-first.invariant.orders before);
      orders = rw c.in_ok-take_runs.ensures.cursors (pass_orders word c.loop-first.cursors c.loop-first.invariant.orders);
      postings = λ sought.
          (λ i. postings_of sought (zip (pushed i) (grown i)) ++ flat_map (postings_of sought) (c.in_ok-take_runs.ensures.cursors i))
          ∙ runs_step sought word c.loop-first.words c.loop-first.runs.whole c.take_runs.new.runs.begun c.loop-first.cursors c.loop-first.invariant.same run c.loop-first.invariant.orders from
          ∙ c.loop-first.invariant.postings sought;
    }

pub returns-clause-order : goal.returns-clause-order
returns-clause-order c =
    let P : List (List ℕ) → Type 0 = IsStrictlySortedBy (slice_cmp nat_cmp) in
    let made : List (List ℕ × List (ℕ × ℕ)) = zip c.loop-first.words c.loop-first.runs.whole in
    let sorted : AreRowsInOrder made = subst P (sym (firsts c.loop-first.words c.loop-first.runs.whole c.loop-first.invariant.same)) c.loop-first.invariant.order in
    IfOk-weaker c.packed.result (λ table. table ≡ made) AreRowsInOrder (λ table is. subst AreRowsInOrder (sym is) sorted) c.packed.ensures

pub returns-clause-runs : goal.returns-clause-runs
returns-clause-runs c =
    let made : List (List ℕ × List (ℕ × ℕ)) = zip c.loop-first.words c.loop-first.runs.whole in
    let P : List (List ℕ × List (ℕ × ℕ)) → Type 0 = HavePostingsOf c.args.cursors.now in
    let all : P made = λ word.
    sym (append-nil (postings_of word made))
    ∙ ap (λ l. postings_of word made ++ l) (sym (no_postings_left word c.loop-first.cursors (c.in_default.ensures.none refl)))
    ∙ c.loop-first.invariant.postings word
    in
    IfOk-weaker c.packed.result (λ table. table ≡ made) P (λ table is. subst P (sym is) all) c.packed.ensures
