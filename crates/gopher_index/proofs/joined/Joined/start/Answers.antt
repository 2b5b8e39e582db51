use Rattle.std.proofs.Common.{◌≡◌, length, replicate, sym, ap, ◌∙◌, arith}
use Rattle.std.specs.Arc.{arc_value}
use Rattle.std.proofs.lemmas.List.{length-map, length-replicate}
use Rattle.gopher_page.specs.Page.{PageData}
use Rattle.gopher_index.proofs.GroupCells.{joined_first}
use Rattle.gopher_index.proofs.Groups.{wanted_at}
use Rattle.gopher_index.proofs.joined.Joined.start.Goals as goal

pub join_first-requires-clause-verdicts : goal.join_first-requires-clause-verdicts
join_first-requires-clause-verdicts c =
    let size : length c.pages.result.now ≡ length c.args.part.now.pages = sym (length-map c.pages.result.now (arc_value {X = PageData})) ∙ ap length c.pages.ensures in
    c.deref_mut.ensures.value ∙ c.in_ok-clear.ensures.verdicts ∙ ap (λ n. replicate n 1) size

pub join_first-requires-clause-scores : goal.join_first-requires-clause-scores
join_first-requires-clause-scores c =
    let size : length c.pages.result.now ≡ length c.args.part.now.pages = sym (length-map c.pages.result.now (arc_value {X = PageData})) ∙ ap length c.pages.ensures in
    c.deref_mut-2.ensures.value ∙ c.in_ok-clear.ensures.scores ∙ ap (λ n. replicate n 0) size

pub join_first-requires-clause-times : goal.join_first-requires-clause-times
join_first-requires-clause-times c = omega (arith, c.requires.few, wanted_at c.args.groups.now 0 c.index-groups-0.result c.requires.some c.index-groups-0.is)

pub returns-clause-cells : goal.returns-clause-cells
returns-clause-cells c =
    let size : length c.pages.result.now ≡ length c.args.part.now.pages = sym (length-map c.pages.result.now (arc_value {X = PageData})) ∙ ap length c.pages.ensures in
    joined_first c.args.groups.now c.index-groups-0.result c.args.part.now.pages c.clear.new.self c.join_first.new.verdicts c.join_first.new.scores c.requires.some c.index-groups-0.is
    (c.in_ok-clear.ensures.counts ∙ size)
    (ap length c.in_ok-clear.ensures.verdicts ∙ length-replicate (length c.pages.result.now) 1 ∙ size)
    (ap length c.in_ok-clear.ensures.scores ∙ length-replicate (length c.pages.result.now) 0 ∙ size)
    c.join_first.ensures.cells c.join_first.ensures.few
