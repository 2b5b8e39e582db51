use Rattle.std.proofs.Common.{rules}
use Rattle.gopher_tree.proofs.LoadLemmas.{with_size}
use Rattle.gopher_tree.proofs.LeavingLemmas.{noted_at, walks_unreadable}
use Rattle.gopher_tree.proofs.tree.Tree.through_file.Goals as goal

pub returns-in-Err : goal.returns-in-Err
returns-in-Err g c =
    walks_unreadable c.args.leaves_out c.args.self (with_size c.args.trail.now c.read_file.new.size) c.args.left.now.items c.without.new.left.items c.args.path.items c.number_of_files.result c.in-Err.fault c.without.result
    c.number_of_files.ensures (search rules) c.without.ensures.same (noted_at c.args.left.now.items c.without.new.left.items c.deref.result.now c.args.path.items c.in-Err.fault c.without.result (search rules) c.without.ensures.noted) c.without.ensures.allowed c.without.ensures.kept c.without.ensures.refused
