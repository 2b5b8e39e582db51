use Rattle.std.proofs.Common.{◌∙◌, arith}
use Rattle.gopher_text.proofs.Streams.{filled_took, filled_interrupted}
use Rattle.gopher_text.proofs.reply_reader.fill.Goals as goal
use Rattle.gopher_text.proofs.reply_reader.fill.Goals.{in-Took+else-filled-limit, in-Interrupted}

pub loop-turn-preserved : goal.loop-turn-preserved
loop-turn-preserved g c =
    let front = c.read_after.ensures.front ∙ c.make_room.ensures.front in
    elim c.match-read_after.branch [
      | in-Took+else-filled-limit w ↦
          let read = w.in-Took.ensures.read in
          rw w.filled-is (filled_took _ _ _ _ _ _ _ _ _ _ _ _ c.loop-turn.invariant front (omega arith) read.0 read.1 read.2 w.if-filled-limit.false read.3)
      | in-Interrupted w ↦
          let read = w.in-Interrupted.ensures.read in
          rw w.filled-is (filled_interrupted _ _ _ _ _ _ _ _ _ _ _ c.loop-turn.invariant front (omega arith) (omega arith) read.0 read.1)
    ]
