use Rattle.std.proofs.Common.{ap, arith, length, List}
use Rattle.gopher_crew.specs.Share.{ShareData}
use Rattle.gopher_crew.proofs.Making.{others_many}
use Rattle.gopher_crew.proofs.desk.opening.cut.Goals as goal

pub push_reserved-requires-in-loop-index : goal.push_reserved-requires-in-loop-index
push_reserved-requires-in-loop-index g c =
    let many = ap (λ (shares : List ShareData). length shares) c.loop-index.invariant.list in
    omega (arith, many, others_many c.args.prefix.now.events c.loop-index.index, c.loop-index.invariant.room, c.loop-index-test.true)
