use Rattle.std.proofs.Common.{ℕ, ◌-◌, take, drop, sym, ap, subst, ◌∙◌, arith}
use Rattle.gopher_bytes.proofs.Zips.{firsts, seconds}
use Rattle.gopher_page.specs.Counts.{AreInOrder, AreMeantWords}
use Rattle.gopher_segment.specs.Postings.{one_run}
use Rattle.gopher_segment.specs.Rows.{words_of_rows, runs_of_rows}
use Rattle.gopher_segment.proofs.Between.{rows_between}
use Rattle.gopher_segment.proofs.table.Table.find.Goals as goal

pub range_meant-start-requires : goal.range_meant-start-requires
range_meant-start-requires c =
    let names = sym (ap words_of_rows c.self.view_is) ∙ firsts c.self.inside.words c.self.inside.runs.whole c.self.invariant in
    subst AreInOrder names c.requires

pub between-requires-clause-within : goal.between-requires-clause-within
between-requires-clause-within c = omega (arith, c.range_meant-start.ensures.within, c.self.invariant)

pub returns : goal.returns
returns c =
    let start : ℕ = c.range_meant-start.result.0 in
    let end : ℕ = c.range_meant-start.result.1 in
    let names = sym (firsts c.self.inside.words c.self.inside.runs.whole c.self.invariant) ∙ ap words_of_rows c.self.view_is in
    let meant = subst (λ l. AreMeantWords l c.args.is_prefix c.args.sought.now start end) names c.range_meant-start.ensures in
    let runs = sym (seconds c.self.inside.words c.self.inside.runs.whole c.self.invariant) ∙ ap runs_of_rows c.self.view_is in
    c.between.ensures ∙ ap (λ l. one_run (take (end - start) (drop start l))) runs
    ∙ sym (rows_between c.args.is_prefix c.args.sought.now c.args.self.now start end meant)
