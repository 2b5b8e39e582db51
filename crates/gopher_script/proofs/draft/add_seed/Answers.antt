use Rattle.std.proofs.Common.{[], ◌∷◌, ◌++◌}
use Rattle.gopher_script.proofs.Refusals.{refused_step}
use Rattle.gopher_script.specs.Parts.{fault_of_place, made_place}
use Rattle.gopher_script.proofs.draft.add_seed.Goals as goal

pub returns-in-Err : goal.returns-in-Err
returns-in-Err c =
    refused_step (fault_of_place c.args.parts.now) (made_place c.args.parts.now) c.in-Err.fault c.args.seeds.now.items ([], c.args.seeds.now.items ++ made_place c.args.parts.now ∷ []) c.refused_line.result (rw c.in-Err.is at c.make.ensures) (rw c.code.ensures at c.refused_line.ensures.cause) (rw c.code.ensures at c.refused_line.ensures.line)
