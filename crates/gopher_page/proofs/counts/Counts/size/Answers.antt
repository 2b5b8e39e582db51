use Rattle.std.proofs.Common.{◌≡◌, ◌∙◌, length, map, ap, sym, arith}
use Rattle.gopher_bytes.proofs.Zips.{length-zip, seconds}
use Rattle.gopher_page.specs.Packed.{len_to_last}
use Rattle.gopher_page.proofs.counts.Counts.size.Goals as goal

pub returns : goal.returns
returns c =
    let words = c.self.inside.words in
    let counts = c.self.inside.counts in
    let tallies : counts ≡ map (λ entry. entry.1) c.args.self.now = sym (seconds words counts c.self.invariant.same) ∙ ap (map (λ entry. entry.1)) c.self.view_is in
    let count : length counts ≡ length c.args.self.now = c.self.invariant.same ∙ sym (length-zip words counts c.self.invariant.same) ∙ ap length c.self.view_is in
    let ends = rw (c.bytes_len-bytes.ensures, c.len.ensures.value) at c.size_of_ends-ends.ensures in
    grind (arith, ends, count, ap (len_to_last 256) tallies, c.bytes_len-bytes.ensures, c.size.ensures)
