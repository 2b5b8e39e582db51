use Rattle.std.proofs.Common.{◌||◌, ap, sym, ◌∙◌, arith}
use Rattle.std.specs.List.{list_any}
use Rattle.gopher_tree.specs.Path.{folders_within}
use Rattle.gopher_tree.specs.Files.{is_file}
use Rattle.gopher_tree.proofs.NodeLemmas.{any_step}
use Rattle.gopher_tree.proofs.tree.Tree.leads_through_file.Goals as goal

pub loop-place-preserved : goal.loop-place-preserved
loop-place-preserved c =
    let files = c.args.self.now in
    let place = c.loop-place.place in
    let path = c.args.path.now in
    record {
      some = omega arith;
      within = omega arith;
      found =
          ap (λ t. t || c.is_file_before-leads.result) c.loop-place.invariant.found ∙ ap (λ t. list_any (is_file files) (folders_within place path) || t) c.is_file_before-leads.ensures
          ∙ sym (any_step (is_file files) place path c.loop-place.invariant.some);
    }
