use Rattle.std.proofs.Common.{◌≡◌, map, ap, ◌∙◌}
use Rattle.gopher_index.specs.Best.{kept_hit}
use Rattle.gopher_index.specs.Plan.{is_match}
use Rattle.gopher_index.specs.Searching.{AddsPages}
use Rattle.gopher_index.proofs.Steps.{adds_pages}
use Rattle.std.proofs.lemmas.Result.{IfOk-weaker}
use Rattle.gopher_index.proofs.searching.kept_with_cells.Goals as goal

pub returns : goal.returns
returns c = λ terms are.
    IfOk-weaker c.kept.result (λ kept. map kept_hit kept.items ≡ c.rank_cells.new.best.hits) (λ kept. AddsPages terms c.args.part.now.pages c.args.kept.now kept.items)
    (λ kept is. adds_pages terms c.args.part.now.pages c.args.kept.now kept.items c.in_ok-best.best c.rank_cells.new.best c.in_ok-best.ensures.least c.in_ok-best.ensures.hits (c.in_ok-rank_cells.ensures terms (record { matching = ap (map is_match) c.deref.ensures.value ∙ are.matching; scoring = c.deref-2.ensures.value ∙ are.scoring })) is) c.kept.ensures
