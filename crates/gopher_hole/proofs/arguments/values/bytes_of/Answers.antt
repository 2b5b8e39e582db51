use Rattle.std.proofs.Common.{subst, ◌*◌, ◌<◌, ◌^◌}
use Rattle.std.specs.Option.{SomeIff}
use Rattle.gopher_hole.specs.Values.{decimal_value}
use Rattle.gopher_hole.proofs.Multiples.{multiplied, too_many}
use Rattle.gopher_hole.proofs.arguments.values.bytes_of.Goals as goal

pub returns-in-Ok : goal.returns-in-Ok
returns-in-Ok c =
    let front = c.cut_letter-unit.result.0.now in
    let unit = c.cut_letter-unit.result.1 in
    multiplied c.args.argument.now front unit c.checked_mul.result c.cut_letter-unit.ensures c.in-Ok.ensures.value.0.0.0
    (subst (λ n. SomeIff c.checked_mul.result (n * unit < 2 ^ 64) (n * unit)) c.in-Ok.ensures.value.0.1 c.checked_mul.ensures)

pub returns-in-Err : goal.returns-in-Err
returns-in-Err c =
    too_many c.args.argument.now c.cut_letter-unit.result.0.now c.cut_letter-unit.result.1 c.parse.result c.in-Err.field-0
    c.cut_letter-unit.ensures c.parse.ensures.value.0 c.in-Err.is
