use Rattle.std.proofs.Common.{slice_get, length, sym, ap, ◌∙◌, arith}
use Rattle.gopher_segment.specs.Rows.{runs_of_rows}
use Rattle.gopher_bytes.proofs.Zips.{length-zip, seconds}
use Rattle.gopher_segment.proofs.table.Table.run.Goals as goal

pub get-requires : goal.get-requires
get-requires c = omega (arith, c.requires, ap length c.self.view_is, length-zip c.self.inside.words c.self.inside.runs.whole c.self.invariant)

pub returns : goal.returns
returns c =
    ap (λ rows. slice_get (runs_of_rows rows) c.args.index) (sym c.self.view_is)
    ∙ ap (λ runs. slice_get runs c.args.index) (seconds c.self.inside.words c.self.inside.runs.whole c.self.invariant)
    ∙ c.get.ensures
