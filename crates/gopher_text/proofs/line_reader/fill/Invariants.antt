use Rattle.gopher_text.proofs.LineLemmas.{InLine}
use Rattle.gopher_text.proofs.line_reader.fill.Given as goal

abbrev pub invariant-loop-turn : goal.invariant-loop-turn
invariant-loop-turn g l =
    InLine (g.R.Read.remaining l.initial.reader.device) (g.R.Read.remaining l.reader.device) l.initial.reader.failures l.reader.failures
    l._turn l.filled l.held
