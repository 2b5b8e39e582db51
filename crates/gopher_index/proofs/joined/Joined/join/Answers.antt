use Rattle.std.proofs.Common.{◌≡◌, ◌+◌, ◌*◌, ◌≤◌, ◌++◌, ◌∷◌, [], List, length, take, sym, ap, subst, ◌∙◌, arith}
use Rattle.std.specs.List.{All}
use Rattle.std.proofs.lemmas.List.{length-map}
use Rattle.gopher_page.specs.Page.{PageData}
use Rattle.gopher_index.specs.Plan.{AreGroupCells, total, verdict, wanted_in}
use Rattle.gopher_index.specs.declared.plan.Group.{Group}
use Rattle.gopher_index.proofs.GroupCells.{joined_more}
use Rattle.gopher_index.proofs.Groups.{next_group, next_wanted, wanted_at, wanted_first}
use Rattle.gopher_index.proofs.joined.Joined.join.Goals as goal

pub join_group-requires-clause-times : goal.join_group-requires-clause-times
join_group-requires-clause-times c =
    omega (arith, c.requires.few, wanted_at c.args.groups.now c.args.self.now.groups c.index-groups-next.result c.requires.ahead c.index-groups-next.is)

pub join_group-requires-clause-verdicts : goal.join_group-requires-clause-verdicts
join_group-requires-clause-verdicts c =
    ap length (c.deref_mut-2.ensures.value ∙ c.requires.joined.cells.deciding) ∙ length-map c.args.part.now.pages (λ (page : PageData). verdict (take c.args.self.now.groups c.args.groups.now) page.counts)

pub join_group-requires-clause-scores : goal.join_group-requires-clause-scores
join_group-requires-clause-scores c =
    ap length (c.deref_mut-3.ensures.value ∙ c.requires.joined.cells.scoring) ∙ length-map c.args.part.now.pages (λ (page : PageData). total (take c.args.self.now.groups c.args.groups.now) page.counts)

pub join_group-requires-clause-room : goal.join_group-requires-clause-room
join_group-requires-clause-room c =
    subst (λ scores. All (λ score. score ≤ 2147483648) scores) (sym c.deref_mut-3.ensures.value)
    (λ k d less. omega (arith, c.requires.joined.few k d less, wanted_first c.args.groups.now c.args.self.now.groups, c.requires.few))

pub returns-clause-cells : goal.returns-clause-cells
returns-clause-cells c =
    let base = c.requires.joined in
    let groups = c.args.groups.now in
    let pages = c.args.part.now.pages in
    let next = c.args.self.now.groups in
    let group = c.index-groups-next.result in
    let done : List Group = take next groups in
    let whole : take (next + 1) groups ≡ done ++ group ∷ [] = next_group groups next group c.requires.ahead c.index-groups-next.is in
    let before : AreGroupCells done pages c.deref_mut-2.result.now c.deref_mut-3.result.now =
    record { deciding = c.deref_mut-2.ensures.value ∙ base.cells.deciding; scoring = c.deref_mut-3.ensures.value ∙ base.cells.scoring } in
    let room : All (λ score. score ≤ 1048576 * wanted_in done) c.deref_mut-3.result.now =
    subst (λ scores. All (λ score. score ≤ 1048576 * wanted_in done) scores) (sym c.deref_mut-3.ensures.value) base.few in
    joined_more groups pages c.args.self.now (next + 1) c.join_group.new.counts c.join_group.new.verdicts c.join_group.new.scores base (omega (arith, c.requires.ahead))
    (subst (λ l. AreGroupCells l pages c.join_group.new.verdicts c.join_group.new.scores) (sym whole) (c.join_group.ensures.cells done before))
    (subst (λ n. All (λ score. score ≤ 1048576 * n) c.join_group.new.scores) (sym (next_wanted groups next group c.requires.ahead c.index-groups-next.is))
    (λ k d less. omega (arith, c.join_group.ensures.few (1048576 * wanted_in done) room k d less)))
