use Rattle.std.proofs.Common.{arith, take, length, length-take, ◌≤◌, ◌∙◌}
use Rattle.std.proofs.lemmas.Grind.{common_steps}
use Rattle.gopher_text.specs.Line.{without_end}
use Rattle.gopher_text.proofs.LineLemmas.{first_line_read, line_read, line_refused, long_line_read, short_line_read}
use Rattle.gopher_text.proofs.line_reader.read_line_from.Goals as goal

pub returns-in-Err-clause-refused : goal.returns-in-Err-clause-refused
returns-in-Err-clause-refused g c = line_refused g.R.Read.remaining _ _ _ _ c.fill-filled.ensures.read (rw c.in-Err.is at c.fill-filled.ensures.stop)

pub returns-then-line-gt-MAX_LINE-clause-refused : goal.returns-then-line-gt-MAX_LINE-clause-refused
returns-then-line-gt-MAX_LINE-clause-refused g c =
    let within : length (take c.fill-filled.result.0 c.fill-filled.new.held) ≤ 1026 = omega (arith, length-take c.fill-filled.result.0 c.fill-filled.new.held) in
    long_line_read _ _ _ c.fill-filled.ensures.read (rw c.in_default.is at c.fill-filled.ensures.stop) within (rw c.without_end-line.ensures at c.if-line-gt-MAX_LINE.true)

pub returns-in_default-from_slice-clause-refused : goal.returns-in_default-from_slice-clause-refused
returns-in_default-from_slice-clause-refused g c =
    let line = line_read _ _ _ c.fill-filled.ensures.read (rw c.in_default.is at c.fill-filled.ensures.stop) in
    let short : length (without_end (take c.fill-filled.result.0 c.fill-filled.new.held)) ≤ 1024 = rw (← c.without_end-line.ensures) (omega arith) in
    (short_line_read _ _ line.0 short, line.1)

pub returns-clause-line : goal.returns-clause-line
returns-clause-line g c =
    let line = line_read _ _ _ c.fill-filled.ensures.read (rw c.in_default.is at c.fill-filled.ensures.stop) in
    first_line_read _ _ _ line.0 (c.in-Ok.ensures.items ∙ c.without_end-line.ensures)

pub returns-clause-rest : goal.returns-clause-rest
returns-clause-rest g c = (line_read _ _ _ c.fill-filled.ensures.read (rw c.in_default.is at c.fill-filled.ensures.stop)).1

pub returns-clause-refused : goal.returns-clause-refused
returns-clause-refused g c = grind (arith, common_steps)
