use Rattle.std.proofs.Common.{◌+◌, ◌-◌, true, sym, ◌∙◌, ap, subst, arith}
use Rattle.gopher_catalogue.specs.Tables.{is_out_at, with_standing, ended}
use Rattle.gopher_catalogue.specs.FrontierTables.{IsConsistent, frontier_with}
use Rattle.gopher_catalogue.proofs.Consistent.{some_out, waits_again, gives_up}
use Rattle.gopher_catalogue.proofs.frontier.Frontier.fail.Goals as goal

pub overflow_sub-self : goal.overflow_sub-self
overflow_sub-self c = some_out _ _ c.self.invariant c.args.number (ap (λ f. is_out_at f.known.standings c.args.number) c.self.view_is ∙ c.requires.out)

pub push-requires : goal.push-requires
push-requires c = omega (arith, c.self.invariant.has_room, some_out _ _ c.self.invariant c.args.number (ap (λ f. is_out_at f.known.standings c.args.number) c.self.view_is ∙ c.requires.out))

pub invariant_of-self : goal.invariant_of-self
invariant_of-self c =
    let out = ap (λ f. is_out_at f.known.standings c.args.number) c.self.view_is ∙ c.requires.out in
    let known = c.settle-claims.ensures.ended ∙ ap (λ k. with_standing c.self.inside.known c.args.number (ended k)) c.settle-claims.ensures.claims in
    let after = waits_again _ _ c.self.invariant c.args.number out (omega (arith, c.settle-claims.ensures.claims, c.if-claims-self.true)) c.push.new.self.room c.push.ensures.room in
    subst (λ f. IsConsistent f c.push.new.self.room)
    (λ i. frontier_with c.self.inside.limit c.self.inside.tries (sym known i) c.self.inside.fresh (sym c.push.ensures.waiting i) (c.self.inside.out - 1) c.self.inside.done c.self.inside.dropped) after

pub invariant_of-self-else-claims-self : goal.invariant_of-self-else-claims-self
invariant_of-self-else-claims-self c =
    let out = ap (λ f. is_out_at f.known.standings c.args.number) c.self.view_is ∙ c.requires.out in
    let known = c.settle-claims.ensures.ended ∙ ap (λ k. with_standing c.self.inside.known c.args.number (ended k)) c.settle-claims.ensures.claims in
    subst (λ f. IsConsistent f c.self.inside.queue.room)
    (λ i. frontier_with c.self.inside.limit c.self.inside.tries (sym known i) c.self.inside.fresh c.self.inside.queue.waiting (c.self.inside.out - 1) (c.self.inside.done + 1) c.self.inside.dropped) (gives_up _ _ c.self.invariant c.args.number out)
