use Rattle.std.proofs.Common.{◌≡◌, length, fold, sym, ap, ◌∙◌, arith}
use Rattle.gopher_tree.specs.Path.{folders_within}
use Rattle.gopher_tree.specs.Files.{nodes, add_path}
use Rattle.gopher_tree.proofs.NodeLemmas.{count_step, count_all}
use Rattle.gopher_tree.proofs.tree.Tree.new_nodes.Goals as goal

pub loop-place-preserved : goal.loop-place-preserved
loop-place-preserved c =
    let inv = c.loop-place.invariant in
    let step = count_step (nodes c.args.self.now) c.args.path.now c.loop-place.place (omega (arith, inv.few)) (omega arith) in
    record {
      few = omega (arith, inv.few, c.new_folder_at-count.ensures.bound);
      within = omega arith;
      counted = omega (arith, inv.counted, step, c.new_folder_at-count.ensures.count);
    }

pub returns-clause-count : goal.returns-clause-count
returns-clause-count c =
    let files = c.args.self.now in
    let path = c.args.path.now in
    let end : length path ≡ c.loop-place.place = omega (arith, c.loop-place.invariant.within) in
    let all = count_all files path c.has_node.result c.loop-place.count (sym c.has_node.ensures.among) (ap (λ n. length (fold add_path (nodes files) (folders_within n path))) end ∙ c.loop-place.invariant.counted) in
    grind (arith, all)
