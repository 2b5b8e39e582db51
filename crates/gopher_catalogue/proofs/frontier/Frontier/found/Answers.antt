use Rattle.std.proofs.Common.{◌≡◌, ◌+◌, ◌-◌, ◌++◌, length, sym, ◌∙◌, ap, subst, arith}
use Rattle.std.specs.List.{range_with_len}
use Rattle.gopher_catalogue.specs.Tables.{is_out_at, with_standing, ended}
use Rattle.gopher_catalogue.specs.FrontierTables.{IsConsistent, frontier_with}
use Rattle.gopher_catalogue.proofs.Consistent.{some_out, fresh_fits, found}
use Rattle.gopher_catalogue.proofs.frontier.Frontier.found.Goals as goal

pub overflow_sub-self : goal.overflow_sub-self
overflow_sub-self c = some_out _ _ c.self.invariant c.args.number (ap (λ f. is_out_at f.known.standings c.args.number) c.self.view_is ∙ c.requires.out)

pub invariant_of-self : goal.invariant_of-self
invariant_of-self c =
    let out = ap (λ f. is_out_at f.known.standings c.args.number) c.self.view_is ∙ c.requires.out in
    let known = c.settle.ensures.ended ∙ ap (λ k. with_standing c.self.inside.known c.args.number (ended k)) c.settle.ensures.claims in
    let len : c.len.result ≡ length c.self.inside.known.places = c.len.ensures.places ∙ ap (λ k. length k.places) known in
    let len-2 : c.len-2.result ≡ length c.self.inside.known.places = c.len-2.ensures.places ∙ ap (λ k. length k.places) known in
    let fits = fresh_fits _ _ c.self.invariant c.args.number out in
    let count : c.len-2.result - (c.len.result - c.self.inside.fresh) ≡ c.self.inside.fresh = omega arith in
    let waiting = c.push_range.ensures.range ∙ ap (λ k. c.self.inside.queue.waiting ++ range_with_len (c.len.result - c.self.inside.fresh) k) count
    ∙ ap (λ l. c.self.inside.queue.waiting ++ range_with_len (l - c.self.inside.fresh) c.self.inside.fresh) len in
    let after = found _ _ c.self.invariant c.args.number out c.args.dropped c.push_range.new.self.room (omega (arith, c.ranges.dropped.fits)) (omega (arith, c.push_range.ensures.room, count)) in
    subst (λ f. IsConsistent f c.push_range.new.self.room)
    (λ i. frontier_with c.self.inside.limit c.self.inside.tries (sym known i) 0 (sym waiting i) (c.self.inside.out - 1) (c.self.inside.done + 1) (c.self.inside.dropped + sym c.from.ensures i)) after
