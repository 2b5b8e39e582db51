use Rattle.std.proofs.Common.{◌++◌, length, sym, ap, ◌∙◌}
use Rattle.std.specs.Prelude.{sum_by}
use Rattle.gopher_bytes.proofs.PartLemmas.{packed_length}
use Rattle.gopher_bytes.proofs.byte_strings.ByteStrings.bytes_len.Goals as goal

pub returns : goal.returns
returns c =
    c.len.ensures ∙ c.self.inside.bytes.ok.0 ∙ sym (packed_length c.self.inside.bytes.items (c.self.inside.low.items ++ c.self.inside.high.items) c.self.invariant)
    ∙ ap (sum_by length) c.self.view_is
