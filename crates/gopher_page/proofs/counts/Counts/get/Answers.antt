use Rattle.std.proofs.Common.{◌∙◌, ap, sym, length, slice_get, arith}
use Rattle.gopher_bytes.proofs.Zips.{length-zip, slice_get-zip}
use Rattle.gopher_page.proofs.counts.Counts.get.Goals as goal

pub get-word-requires : goal.get-word-requires
get-word-requires c = omega (arith, c.requires, ap length c.self.view_is, length-zip c.self.inside.words c.self.inside.counts c.self.invariant.same)

pub get-requires : goal.get-requires
get-requires c = omega (arith, c.requires, ap length c.self.view_is, length-zip c.self.inside.words c.self.inside.counts c.self.invariant.same, c.self.invariant.same)

pub returns : goal.returns
returns c =
    ap (λ l. slice_get l c.args.index) (sym c.self.view_is)
    ∙ slice_get-zip c.self.inside.words c.self.inside.counts c.args.index c.get-word.result.now c.get.result c.get-word.ensures c.get.ensures
