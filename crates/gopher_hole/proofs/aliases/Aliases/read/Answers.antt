use Rattle.std.proofs.Common.{sym, ◌∙◌}
use Rattle.gopher_hole.proofs.AliasLemmas.{held_is}
use Rattle.gopher_hole.proofs.aliases.Aliases.read.Goals as goal

pub returns : goal.returns
returns c =
    let reads = c.in_ok-add_lines.ensures in
    (reads.0, λ old. sym (held_is c.add_lines.new.held old) ∙ reads.1 old)
