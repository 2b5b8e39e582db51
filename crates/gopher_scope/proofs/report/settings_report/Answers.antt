use Rattle.std.proofs.Common.{Ok, Err, subst}
use Rattle.std.proofs.lemmas.Result.{IfOk-weaker}
use Rattle.gopher_scope.specs.Settings.{settings_data}
use Rattle.gopher_scope.specs.Report.{IsReportOnFolder, IsReportOnLoaded, IsReportOnSite}
use Rattle.gopher_scope.proofs.report.settings_report.Goals as goal

pub returns-in-Err : goal.returns-in-Err
returns-in-Err g c =
    let found = settings_data c.args.settings in let why = c.in-Err.fault in let trail = c.load.new.trail in let left = c.load.new.left.items in
    IfOk-weaker c.folder_report.result (IsReportOnFolder why c.as_str-root.result.now trail) (IsReportOnSite c.args.leave_out c.args.path.now found)
    (λ report tells. (trail, left, Err why, c.in-Err.ensures, subst (λ root. IsReportOnFolder why root trail report) c.as_str-root.ensures.value tells)) c.folder_report.ensures

pub returns-in-Ok : goal.returns-in-Ok
returns-in-Ok g c =
    let found = settings_data c.args.settings in let files = c.in-Ok.tree in let trail = c.load.new.trail in let left = c.load.new.left.items in
    IfOk-weaker c.seeds_report.result (IsReportOnLoaded c.args.path.now found trail left (Ok files)) (IsReportOnSite c.args.leave_out c.args.path.now found)
    (λ report tells. (trail, left, Ok files, c.in-Ok.ensures, tells)) c.seeds_report.ensures
