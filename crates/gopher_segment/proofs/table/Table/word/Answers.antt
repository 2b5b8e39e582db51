use Rattle.std.proofs.Common.{slice_get, length, sym, ap, ◌∙◌, arith}
use Rattle.gopher_segment.specs.Rows.{words_of_rows}
use Rattle.gopher_bytes.proofs.Zips.{length-zip, firsts}
use Rattle.gopher_segment.proofs.table.Table.word.Goals as goal

pub get-requires : goal.get-requires
get-requires c = omega (arith, c.requires, ap length c.self.view_is, length-zip c.self.inside.words c.self.inside.runs.whole c.self.invariant)

pub returns : goal.returns
returns c =
    ap (λ rows. slice_get (words_of_rows rows) c.args.index) (sym c.self.view_is)
    ∙ ap (λ words. slice_get words c.args.index) (firsts c.self.inside.words c.self.inside.runs.whole c.self.invariant)
    ∙ c.get.ensures
