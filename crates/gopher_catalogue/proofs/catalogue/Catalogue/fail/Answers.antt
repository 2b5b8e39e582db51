use Rattle.std.proofs.Common.{arith, ap, sym, ◌∙◌}
use Rattle.gopher_catalogue.specs.Step.{is_out_in}
use Rattle.gopher_catalogue.specs.Indexed.{IsIndexed}
use Rattle.gopher_catalogue.proofs.IndexedCalls.{out_shown, out_tested, some_out, after_failed}
use Rattle.gopher_catalogue.proofs.catalogue.Catalogue.fail.Goals as goal

pub returns-then-not-is_out-clause-not_out : goal.returns-then-not-is_out-clause-not_out
returns-then-not-is_out-clause-not_out c =
    ap (λ events. is_out_in events c.args.number) (sym c.self.view_is) ∙ sym (out_shown c.self.inside.archive c.self.inside.frontier c.self.invariant c.args.number) ∙ sym c.if-not-is_out.ensures

pub push-requires-clause-room : goal.push-requires-clause-room
push-requires-clause-room c =
    omega (arith, some_out c.self.inside.archive c.self.inside.frontier c.self.invariant c.args.number (sym c.if-not-is_out.ensures), c.self.invariant.record_room)

failed : (c : goal.After-push) → IsIndexed c.push.new.self c.fail.new.self
failed c =
    after_failed c.self.inside.archive c.self.inside.frontier c.self.invariant c.push.new.self c.fail.new.self c.args.number c.args.why (sym c.if-not-is_out.ensures) c.fail.ensures c.push.ensures.events c.push.ensures.room

pub invariant_of-self : goal.invariant_of-self
invariant_of-self c = failed c

pub returns-clause-ok : goal.returns-clause-ok
returns-clause-ok c =
    ap (λ events. is_out_in events c.args.number) (sym c.self.view_is) ∙ out_tested c.self.inside.archive c.self.inside.frontier c.self.invariant c.args.number (sym c.if-not-is_out.ensures)

pub returns-clause-legal : goal.returns-clause-legal
returns-clause-legal c = (failed c).legal
