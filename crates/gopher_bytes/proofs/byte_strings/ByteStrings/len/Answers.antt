use Rattle.std.proofs.Common.{◌++◌, length, ap, arith}
use Rattle.std.proofs.lemmas.List.{length-append}
use Rattle.gopher_bytes.proofs.PartLemmas.{length-parts}
use Rattle.gopher_bytes.proofs.byte_strings.ByteStrings.len.Goals as goal

pub returns : goal.returns
returns c =
    let low = c.self.inside.low.items in
    let high = c.self.inside.high.items in
    omega (
      arith,
      c.len.ensures,
      c.len-2.ensures,
      c.self.inside.low.ok.0,
      c.self.inside.high.ok.0,
      length-append low high,
      length-parts c.self.inside.bytes.items 0 (low ++ high),
      ap length c.self.view_is,
    )
