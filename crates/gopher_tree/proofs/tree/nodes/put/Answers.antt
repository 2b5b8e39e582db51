use Rattle.std.proofs.Common.{◌+◌, Some, eqb, is_some, cond, ap, ◌∙◌}
use Rattle.std.specs.Cmp.Lexicographic.{pointwise}
use Rattle.std.specs.BTreeMap.{btree_map_len}
use Rattle.gopher_tree.specs.Tree.{entry_at}
use Rattle.gopher_tree.proofs.EntryLemmas.{entries_after}
use Rattle.gopher_tree.proofs.tree.nodes.put.Goals as goal

pub returns : goal.returns
returns c = record {
  entries = λ q.
      entries_after c.in_ok-from_slice.field-0.items c.args.nodes.now c.insert.new.self (Some c.args.entry) c.in_ok-insert.ensures.updates q
      ∙ ap (λ bs. cond (pointwise eqb q bs) (Some c.args.entry) (entry_at c.args.nodes.now q)) c.in_ok-from_slice.ensures.items;
  count =
      c.in_ok-insert.ensures.len
      ∙ ap (λ held. btree_map_len c.args.nodes.now + cond (is_some held) 0 1) (c.in_ok-insert.ensures.old ∙ ap (entry_at c.args.nodes.now) c.in_ok-from_slice.ensures.items);
}
