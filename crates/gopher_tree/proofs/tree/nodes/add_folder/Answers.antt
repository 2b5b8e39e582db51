use Rattle.std.proofs.Common.{sym}
use Rattle.gopher_tree.proofs.EntryLemmas.{adds_new}
use Rattle.gopher_tree.proofs.tree.nodes.add_folder.Goals as goal

pub returns : goal.returns
returns c = adds_new c.args.nodes.now c.put.new.nodes c.args.folder.now c.requires (sym c.if-contains_key.ensures) c.in_ok-put.ensures
