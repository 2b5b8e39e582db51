use Rattle.std.proofs.Common.{[], inl, inr, subst}
use Rattle.std.proofs.lemmas.Result.{IfOk-weaker}
use Rattle.gopher_scope.specs.declared.fault.SettingsFault.TheVariants.{NotToml}
use Rattle.gopher_scope.specs.Report.{IsReportOf, IsReportOnBroken}
use Rattle.gopher_scope.specs.declared.fault.SiteFault.TheVariants.{KeyTwice, Settings}
use Rattle.gopher_scope.proofs.report.broken_report.Goals as goal

pub returns-in-Some : goal.returns-in-Some
returns-in-Some c =
    let path = c.args.path.now in let key = c.in-Some.key.now in let line = c.broken_line-line in
    IfOk-weaker c.report_fault.result (IsReportOf KeyTwice path line.result key) (IsReportOnBroken path c.args.text.now c.args.broken.now)
    (λ report tells. inr (key, c.in-Some.ensures, subst (λ l. IsReportOf KeyTwice path l key report) line.ensures tells)) c.report_fault.ensures

pub returns-in-None : goal.returns-in-None
returns-in-None c =
    let path = c.args.path.now in let line = c.broken_line-line in
    IfOk-weaker c.report_fault-in-None.result (IsReportOf (Settings NotToml) path line.result []) (IsReportOnBroken path c.args.text.now c.args.broken.now)
    (λ report tells. inl (subst (λ l. IsReportOf (Settings NotToml) path l [] report) line.ensures tells)) c.report_fault-in-None.ensures
