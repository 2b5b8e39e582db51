use Rattle.std.proofs.Common.{inl, inr, rules}
use Rattle.std.proofs.lemmas.Result.{IfOk-weaker}
use Rattle.toml.specs.View.{table_view}
use Rattle.gopher_scope.specs.Finding.{table_findings}
use Rattle.gopher_scope.specs.Report.{IsReport, IsReportOnTable}
use Rattle.gopher_scope.specs.declared.fault.SiteFault.TheVariants.{Settings}
use Rattle.gopher_scope.specs.declared.report.fault_report.Remark.TheVariants.{Nothing}
use Rattle.gopher_scope.proofs.Faultless.{settings_of-refused}
use Rattle.gopher_scope.proofs.report.checked_table.Goals as goal

pub returns-in-Err : goal.returns-in-Err
returns-in-Err g c =
    let table = table_view c.args.table.now in let why = c.in-Err.refused in
    let refused = settings_of-refused table why c.in-Err.ensures (search rules) in
    IfOk-weaker c.faults_report.result (IsReport (Settings why) c.args.path.now (table_findings table) Nothing) (IsReportOnTable c.args.leave_out c.args.path.now table)
    (λ report tells. inr (inl (why, refused, tells))) c.faults_report.ensures
