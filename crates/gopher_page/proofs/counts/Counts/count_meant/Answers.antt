use Rattle.std.proofs.Common.{◌-◌, ◌∙◌, map, take, drop, sym, ap, subst, arith}
use Rattle.std.specs.List.{sum}
use Rattle.std.proofs.lemmas.List.Sums.{sum-map}
use Rattle.gopher_bytes.proofs.Zips.{firsts, seconds}
use Rattle.gopher_page.specs.Counts.{AreInOrder, AreMeantWords}
use Rattle.gopher_page.specs.Packed.{AreCounts}
use Rattle.gopher_page.proofs.Sums.{sum_meant}
use Rattle.gopher_page.proofs.counts.Counts.count_meant.Goals as goal

pub range_meant-start-requires : goal.range_meant-start-requires
range_meant-start-requires c = subst AreInOrder (firsts c.self.inside.words c.self.inside.counts c.self.invariant.same) c.self.invariant.sound.ordered

pub sum-requires-clause-within : goal.sum-requires-clause-within
sum-requires-clause-within c = omega (arith, c.range_meant-start.ensures.within, c.self.invariant.same)

pub sum-requires-clause-few : goal.sum-requires-clause-few
sum-requires-clause-few c =
    let counts = sym (seconds c.self.inside.words c.self.inside.counts c.self.invariant.same) ∙ ap (map (λ entry. entry.1)) c.self.view_is in
    let sound : AreCounts c.args.self.now = subst AreCounts c.self.view_is c.self.invariant.sound in
    omega (arith, ap sum counts, sum-map (λ entry. entry.1) c.args.self.now, sound.few)

pub returns : goal.returns
returns c =
    let start = c.range_meant-start.result.0 in
    let end = c.range_meant-start.result.1 in
    let counts = sym (seconds c.self.inside.words c.self.inside.counts c.self.invariant.same) ∙ ap (map (λ entry. entry.1)) c.self.view_is in
    let words = sym (firsts c.self.inside.words c.self.inside.counts c.self.invariant.same) ∙ ap (map (λ entry. entry.0)) c.self.view_is in
    c.sum.ensures
    ∙ ap (λ l. sum (take (end - start) (drop start l))) counts
    ∙ sum_meant c.args.is_prefix c.args.sought.now c.args.self.now start end (subst (λ l. AreMeantWords l c.args.is_prefix c.args.sought.now start end) words c.range_meant-start.ensures)
