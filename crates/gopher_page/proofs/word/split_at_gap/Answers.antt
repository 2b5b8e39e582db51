use Rattle.std.proofs.Common.{sym}
use Rattle.gopher_page.proofs.Runs.{runs_of_whole, runs_of_parts, no_gap}
use Rattle.gopher_page.proofs.word.split_at_gap.Goals as goal

pub returns-in_err-end-clause-runs : goal.returns-in_err-end-clause-runs
returns-in_err-end-clause-runs c =
    rw c.from_residual.ensures (runs_of_whole c.args.bytes.now (no_gap c.args.bytes.now (sym c.in_err-end.ensures)))

pub returns-clause-runs : goal.returns-clause-runs
returns-clause-runs c = runs_of_parts c.args.bytes.now c.in_ok-end.end (sym c.in_ok-end.ensures)
