use Rattle.std.proofs.Common.{◌≤◌, ap, subst, arith, length, List}
use mathlib.Core.List.{IsPrefix}
use Rattle.gopher_crew.specs.History.{MadeEvent}
use Rattle.gopher_crew.proofs.Prefixes.{prefix_map, prefix_shorter}
use Rattle.gopher_crew.proofs.publication.record_prefix.RecordPrefix.begins.Goals as goal

pub returns-then-self-other-clause-or_else : goal.returns-then-self-other-clause-or_else
returns-then-self-other-clause-or_else c is =
    let both = c.learn.new.self.log in
    let this : IsPrefix c.self.inside.seen.log both = subst (λ (l : List MadeEvent). IsPrefix l both) (ap (λ s. s.log) c.again-both.ensures) c.learn.ensures.2 in
    let less : length c.other.inside.seen.log ≤ length c.self.inside.seen.log = omega (arith, c.self.invariant, c.other.invariant) in
    let begins : IsPrefix c.other.inside.seen.log c.self.inside.seen.log = prefix_shorter c.other.inside.seen.log c.self.inside.seen.log both c.learn.ensures.3 this less in
    rw (← c.self.view_is, ← c.other.view_is) (record { events = prefix_map (λ (it : MadeEvent). it.0) _ _ begins; makers = prefix_map (λ (it : MadeEvent). it.1) _ _ begins })

pub returns-clause-begins : goal.returns-clause-begins
returns-clause-begins c is =
    let both = c.learn.new.self.log in
    let this : IsPrefix c.self.inside.seen.log both = subst (λ (l : List MadeEvent). IsPrefix l both) (ap (λ s. s.log) c.again-both.ensures) c.learn.ensures.2 in
    let less : length c.self.inside.seen.log ≤ length c.other.inside.seen.log = omega (arith, c.self.invariant, c.other.invariant) in
    let begins : IsPrefix c.self.inside.seen.log c.other.inside.seen.log = prefix_shorter c.self.inside.seen.log c.other.inside.seen.log both this c.learn.ensures.3 less in
    rw (← c.self.view_is, ← c.other.view_is) (record { events = prefix_map (λ (it : MadeEvent). it.0) _ _ begins; makers = prefix_map (λ (it : MadeEvent). it.1) _ _ begins })
