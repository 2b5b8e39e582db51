use Rattle.std.proofs.Common.{inl, subst}
use Rattle.std.proofs.lemmas.Result.{IfOk-weaker}
use Rattle.toml.specs.View.{table_view}
use Rattle.gopher_scope.specs.Report.{IsReportOnTable, IsReportOnText}
use Rattle.gopher_scope.proofs.report.check.Goals as goal

pub returns-in-Ok : goal.returns-in-Ok
returns-in-Ok g c =
    let table = table_view c.in-Ok.table in
    IfOk-weaker c.checked_table.result (IsReportOnTable c.args.leave_out c.as_bytes-path.result.now table) (IsReportOnText c.args.leave_out c.args.path.now c.args.text.now)
    (λ report on. inl (table, c.in-Ok.ensures.ok, subst (λ path. IsReportOnTable c.args.leave_out path table report) c.as_bytes-path.ensures.value on)) c.checked_table.ensures
