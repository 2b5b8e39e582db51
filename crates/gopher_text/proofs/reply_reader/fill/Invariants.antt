use Rattle.gopher_text.proofs.Streams.{Filled}
use Rattle.gopher_text.proofs.reply_reader.fill.Given as goal

abbrev pub invariant-loop-turn : goal.invariant-loop-turn
invariant-loop-turn g l =
    Filled (g.R.Read.remaining l.initial.reader.device) (g.R.Read.remaining l.reader.device) l.initial.reader.failures l.reader.failures
    l.limit l._turn l.filled l.bytes.items
