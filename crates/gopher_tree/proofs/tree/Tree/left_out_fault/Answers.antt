use Rattle.std.proofs.Common.{rules, ◌≡◌, ltb, cond, length, Some, None, sym, ◌∙◌}
use Rattle.gopher_tree.specs.Fault.{path_fault}
use Rattle.gopher_tree.specs.declared.fault.TreeFault.TheVariants.{TooBig}
use Rattle.gopher_tree.proofs.LeavingLemmas.{left_by_size}
use Rattle.gopher_tree.proofs.tree.Tree.left_out_fault.Goals as goal

pub returns-in-None : goal.returns-in-None
returns-in-None c =
    let none : path_fault (length c.args.self.now) c.args.path.now ≡ None = search rules in
    let sized : c.then_some.result ≡ cond (ltb 16777216 (length c.args.bytes.now)) (Some (TooBig (length c.args.self.now))) None = search rules in
    sized ∙ sym (left_by_size c.args.self.now c.args.path.now c.args.bytes.now none)
