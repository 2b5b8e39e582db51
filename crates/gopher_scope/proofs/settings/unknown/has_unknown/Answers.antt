use Rattle.gopher_scope.proofs.Elements.{table_names-view}
use Rattle.gopher_scope.proofs.settings.unknown.has_unknown.Goals as goal

pub loop-name-init : goal.loop-name-init
loop-name-init c =
    let by_keys = table_names-view c.args.table.now.entries in
    cc
