use Rattle.std.proofs.Common.{◌∙◌}
use Rattle.example_crawl.proofs.Telling.{opening_admitted, opening_scope, opened_final}
use Rattle.example_crawl.proofs.opened.Goals as goal

pub open-requires-clause-admitted : goal.open-requires-clause-admitted
open-requires-clause-admitted g c =
    opening_admitted c.args.scope g.T.Table.scope c.args.seeds.items g.T.Table.replies _ c.in_ok-catalogue.ensures

pub closed-requires-clause-scope : goal.closed-requires-clause-scope
closed-requires-clause-scope g c = λ κs lives.
    opening_scope c.args.scope g.T.Table.scope c.args.seeds.items _ (c.in-Ok.ensures.desk ∙ c.in_ok-catalogue.ensures) c.requires.scope

pub returns-in_ok-hits-in-Ok : goal.returns-in_ok-hits-in-Ok
returns-in_ok-hits-in-Ok g c =
    opened_final c.args.scope g.T.Table.scope c.args.host.now g.T.Table.replies c.args.seeds.items _ _ c.args.query.now _
    c.requires.scope c.requires.replies (c.in-Ok.ensures.desk ∙ c.in_ok-catalogue.ensures) c.in_ok-ending-in-Ok.ensures.goes_on c.in_ok-ending-in-Ok.ensures.matches
    c.in_ok-hits-in-Ok.ensures
