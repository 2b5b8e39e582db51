use Rattle.std.proofs.Common.{inl}
use Rattle.std.proofs.lemmas.Result.{IfErr-weaker}
use Rattle.gopher_tree.specs.Files.{File}
use Rattle.gopher_tree.specs.Fault.{RefusesFile}
use Rattle.gopher_tree.specs.Load.{Refuses}
use Rattle.gopher_tree.proofs.tree.Tree.with_listed.Goals as goal

pub returns-clause-refused : goal.returns-clause-refused
returns-clause-refused c =
    let file : File = (c.args.path.items, c.args.bytes.items) in
    IfErr-weaker c.with_file.result (RefusesFile c.args.self file) (Refuses c.args.self c.args.trail.now file) (λ fault refused. inl refused) c.with_file.ensures.refused
