use Rattle.std.proofs.Common.{arith, refl}
use Rattle.gopher_index.proofs.Groups.{wanted_at, adds_term}
use Rattle.gopher_index.proofs.plan.add_term.Goals as goal

pub join-requires-clause-wanted : goal.join-requires-clause-wanted
join-requires-clause-wanted c =
    omega (
      arith,
      c.requires.number,
      c.requires.few,
      c.in_ok-index.ensures.same.wanted,
      wanted_at c.index_of.new.groups.items c.in_ok-index.index c.index_mut.result.now c.in_ok-index.ensures.found.within c.index_mut.ensures.value,
    )

pub returns-clause-adds : goal.returns-clause-adds
returns-clause-adds c =
    adds_term c.args.term.now c.args.number c.in_ok-index.index c.args.groups.now.items c.index_of.new.groups.items _ c.join.new.self c.in_ok-index.ensures.same c.in_ok-index.ensures.found c.index_mut.result.now c.index_mut.ensures.value c.join.ensures refl
