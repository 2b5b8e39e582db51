use Rattle.std.proofs.Common.{ap, ◌∙◌, ◌∷◌}
use Rattle.gopher_bytes.specs.Lines.{lines_of}
use Rattle.gopher_bytes.proofs.Splits.{around_feed, lines_of_cut}
use Rattle.gopher_bytes.proofs.line.first_line.Goals as goal

pub returns-in-Some-clause-line : goal.returns-in-Some-clause-line
returns-in-Some-clause-line c =
    lines_of_cut c.args.bytes.now c.in-Some.line.now c.in-Some.rest.now c.in-Some.ensures.parts
    ∙ ap (λ line. line ∷ lines_of c.in-Some.rest.now) (rw c.without_carriage_return.ensures.stripped)

pub returns-in-Some-clause-whole : goal.returns-in-Some-clause-whole
returns-in-Some-clause-whole c =
    around_feed c.args.bytes.now c.in-Some.line.now c.without_carriage_return.result.now c.in-Some.rest.now c.in-Some.ensures.whole c.without_carriage_return.ensures.whole
