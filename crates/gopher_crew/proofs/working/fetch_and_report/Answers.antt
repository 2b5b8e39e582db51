use Rattle.std.proofs.Common.{◌≡◌, rules}
use Rattle.gopher_crew.proofs.Admitting.{may_hand_in}
use Rattle.gopher_crew.proofs.Rounding.{reports_of}
use Rattle.gopher_crew.proofs.working.fetch_and_report.Goals as goal

pub hand_in-outcome-requires : goal.hand_in-outcome-requires
hand_in-outcome-requires g c =
    let same : c.deref.result.now ≡ c.args.claim.now.place.value = search rules in
    may_hand_in g.A.Admits.admits g.F.Calls.fetches c.args.desk.now _ c.args.claim.now.place.value c.deref.result.now c.opening.result.now c.scope.result.now _ _ _
    c.fetch-fetched.result c.settle_shared-settled.result c.requires.admitted c.requires.known same c.opening.ensures c.scope.ensures
    c.fetch-fetched.ensures.fetched c.settle_shared-settled.ensures.page c.settle_shared-settled.ensures.unfetched

pub returns : goal.returns
returns g c =
    let same : c.deref.result.now ≡ c.args.claim.now.place.value = search rules in
    reports_of g.F.Calls.fetches g.F.Calls.called c.args.desk.now _ c.args.claim.now.place.value c.deref.result.now c.opening.result.now c.scope.result.now _ _ _
    c.fetch-fetched.result c.settle_shared-settled.result c.hand_in-outcome.result same c.opening.ensures c.scope.ensures
    (search rules) (search rules) c.settle_shared-settled.ensures.page c.settle_shared-settled.ensures.unfetched
    c.hand_in-outcome.ensures c.count.ensures.share (search rules) (search rules)
