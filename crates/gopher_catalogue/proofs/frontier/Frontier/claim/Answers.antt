use Rattle.std.proofs.Common.{◌≡◌, ◌+◌, true, drop, IsSome, Option, Some, slice_get, List, ℕ, refl, sym, ◌∙◌, ap, subst, arith}
use Rattle.std.specs.Option.{option_map_or}
use Rattle.std.proofs.lemmas.Option.{slice_get-get_or}
use Rattle.gopher_catalogue.specs.declared.frontier.known.Standing.{Standing}
use Rattle.gopher_catalogue.specs.Tables.{claims_at, unclaimed, with_standing}
use Rattle.gopher_catalogue.specs.FrontierTables.{IsConsistent, frontier_with}
use Rattle.gopher_catalogue.proofs.Consistent.{roomier, first_known, first_tries, claimed}
use Rattle.gopher_catalogue.proofs.frontier.Frontier.claim.Goals as goal

claims : (standings : List Standing) (n : ℕ) (read : Option Standing) (standing : Standing) → read ≡ slice_get standings n → read ≡ Some standing → claims_at standings n ≡ standing.claims
claims standings n read standing is some = ap (λ o. option_map_or (λ s. s.claims) o 0) (sym is ∙ some)

pub invariant_of-self : goal.invariant_of-self
invariant_of-self c =
    roomier _ _ c.self.invariant _ _ (ap (λ w. frontier_with c.self.inside.limit c.self.inside.tries c.self.inside.known c.self.inside.fresh w c.self.inside.out c.self.inside.done c.self.inside.dropped) c.reserve.ensures.waiting) c.reserve.ensures.room

pub unwrap-standing-requires : goal.unwrap-standing-requires
unwrap-standing-requires c =
    let first = ap (λ f. slice_get f.waiting 0) c.self.view_is ∙ c.requires.first in
    subst IsSome (sym (c.standing.ensures ∙ slice_get-get_or c.self.inside.known.standings c.args.number unclaimed (first_known _ _ c.self.invariant c.args.number first))) refl

pub overflow_add-standing : goal.overflow_add-standing
overflow_add-standing c =
    let first = ap (λ f. slice_get f.waiting 0) c.self.view_is ∙ c.requires.first in
    omega (arith, first_tries _ _ c.self.invariant c.args.number first, c.self.invariant.limits.few_tries, claims c.self.inside.known.standings c.args.number c.standing.result c.unwrap-standing.result c.standing.ensures c.unwrap-standing.ensures)

pub set_standing-requires : goal.set_standing-requires
set_standing-requires c = first_known _ _ c.self.invariant c.args.number (ap (λ f. slice_get f.waiting 0) c.self.view_is ∙ c.requires.first)

pub invariant_of-self-2 : goal.invariant_of-self-2
invariant_of-self-2 c =
    let first = ap (λ f. slice_get f.waiting 0) c.self.view_is ∙ c.requires.first in
    let known = c.set_standing.ensures ∙ ap (λ k. with_standing c.self.inside.known c.args.number (record { claims = k + 1; is_out = true })) (sym (claims c.self.inside.known.standings c.args.number c.standing.result c.unwrap-standing.result c.standing.ensures c.unwrap-standing.ensures)) in
    let waiting = c.take_first.ensures.waiting ∙ ap (drop 1) c.in_ok-reserve.ensures.waiting in
    let after = claimed _ _ c.self.invariant c.args.number first c.take_first.new.self.room (omega (arith, c.take_first.ensures.room, c.in_ok-reserve.ensures.ok)) in
    subst (λ f. IsConsistent f c.take_first.new.self.room)
    (λ i. frontier_with c.self.inside.limit c.self.inside.tries (sym known i) c.self.inside.fresh (sym waiting i) (c.self.inside.out + 1) c.self.inside.done c.self.inside.dropped) after
