use Rattle.std.proofs.Common.{rules, refl, subst}
use Rattle.gopher_tree.specs.Leaving.{WalksOn}
use Rattle.gopher_tree.proofs.LoadLemmas.{with_hidden}
use Rattle.gopher_tree.proofs.LeavingLemmas.{loads_none, loads_walk}
use Rattle.gopher_tree.proofs.tree.Tree.through_root.Goals as goal

pub returns-in_err-names : goal.returns-in_err-names
returns-in_err-names g c =
    loads_none c.args.leaves_out (with_hidden c.args.trail.now c.names_in.new.hidden) c.args.left.now.items c.args.left.now.items c.from_residual.result c.in_err-names.field-0.0 (search rules) refl (search rules)

pub returns : goal.returns
returns g c =
    loads_walk c.args.leaves_out c.through_names.new.trail c.args.left.now.items c.through_names.new.left.items c.through_names.result
    (subst (λ files. WalksOn c.args.leaves_out files c.through_names.new.trail c.args.left.now.items c.through_names.new.left.items c.through_names.result) c.empty.ensures c.through_names.ensures)
