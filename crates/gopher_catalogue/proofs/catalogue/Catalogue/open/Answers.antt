use Rattle.std.proofs.Common.{◌≡◌, [], ◌∷◌, length, None, arith, ap, sym, subst, ◌∙◌}
use Rattle.gopher_catalogue.specs.Event.{Opened}
use Rattle.gopher_catalogue.specs.Opening.{opening_of}
use Rattle.gopher_catalogue.specs.Step.{open_fault}
use Rattle.gopher_catalogue.specs.FrontierTables.{Begins}
use Rattle.gopher_catalogue.specs.Indexed.{IsIndexed}
use Rattle.gopher_catalogue.proofs.IndexedCalls.{legal_opening, legal_limits, begun}
use Rattle.gopher_catalogue.proofs.catalogue.Catalogue.open.Goals as goal

pub open-requires-clause-limits : goal.open-requires-clause-limits
open-requires-clause-limits c =
    let no_fault : open_fault c.args.scope c.args.seeds.items c.args.places c.args.tries ≡ None =
    ap (λ seeds. open_fault c.args.scope seeds c.args.places c.args.tries) (sym c.deref.ensures.value) ∙ sym c.in_default.ensures in
    legal_limits (opening_of c.args.scope c.args.seeds.items c.args.places c.args.tries) (legal_opening c.args.scope c.args.seeds.items c.args.places c.args.tries no_fault)

pub open-requires-clause-few_seeds : goal.open-requires-clause-few_seeds
open-requires-clause-few_seeds c = omega (arith, ap length c.deref-2.ensures.value, c.args.seeds.ok.0, c.args.seeds.ok.1, c.args.seeds.small)

opened : (c : goal.In-Ok-begin) → IsIndexed c.in-Ok-begin.archive c.in-Ok.frontier
opened c =
    let no_fault : open_fault c.args.scope c.args.seeds.items c.args.places c.args.tries ≡ None =
    ap (λ seeds. open_fault c.args.scope seeds c.args.places c.args.tries) (sym c.deref.ensures.value) ∙ sym c.in_default.ensures in
    begun (opening_of c.args.scope c.args.seeds.items c.args.places c.args.tries) c.in-Ok-begin.archive c.in-Ok.frontier (legal_opening c.args.scope c.args.seeds.items c.args.places c.args.tries no_fault)
    (subst (λ seeds. Begins c.args.places c.args.tries seeds c.in-Ok.frontier) c.deref-2.ensures.value c.in-Ok.ensures) (c.in-Ok-begin.ensures.begun ∙ ap (λ o. Opened o ∷ []) c.new.ensures)

pub invariant_of-result : goal.invariant_of-result
invariant_of-result c = opened c

pub returns-in-Ok-begin-clause-legal : goal.returns-in-Ok-begin-clause-legal
returns-in-Ok-begin-clause-legal c = (opened c).legal
