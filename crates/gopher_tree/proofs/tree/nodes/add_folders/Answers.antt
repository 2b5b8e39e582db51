use Rattle.std.proofs.Common.{arith}
use Rattle.gopher_tree.proofs.EntryLemmas.{adds_slash, adds_other}
use Rattle.gopher_tree.proofs.tree.nodes.add_folders.Goals as goal
use Rattle.gopher_tree.proofs.tree.nodes.add_folders.Goals.{then-path-place-eq47+in_ok-add_folder, else-path-place-eq47}

pub loop-place-preserved : goal.loop-place-preserved
loop-place-preserved c =
    let place = c.loop-place.place in
    let inv = c.loop-place.invariant in
    record {
      some = omega arith;
      within = omega arith;
      added = elim c.if-path-place-eq47.branch [
        | then-path-place-eq47+in_ok-add_folder w ↦
            rw w.nodes-is (adds_slash c.args.nodes.now c.loop-place.nodes w.add_folder.new.nodes place c.args.path.now inv.some w.if-path-place-eq47.true inv.added w.in_ok-add_folder.ensures)
        | else-path-place-eq47 w ↦ rw w.nodes-is (adds_other c.args.nodes.now c.loop-place.nodes place c.args.path.now inv.some w.if-path-place-eq47.false inv.added)
      ];
    }
