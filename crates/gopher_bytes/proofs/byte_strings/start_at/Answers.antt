use Rattle.std.proofs.Common.{◌≡◌, suc, ◌-◌, ◌++◌, ap, ◌∙◌, arith}
use Rattle.gopher_bytes.specs.Parts.{start_at}
use Rattle.gopher_bytes.proofs.PartLemmas.{start_at-suc}
use Rattle.gopher_bytes.proofs.byte_strings.start_at.Goals as goal

pub returns-else-index-eq0 : goal.returns-else-index-eq0
returns-else-index-eq0 c =
    let ends = c.args.low.now ++ c.args.high.now in
    let next : suc (c.args.index - 1) ≡ c.args.index = omega (arith, c.if-index-eq0.false) in
    c.end_at.ensures ∙ start_at-suc 0 ends (c.args.index - 1) 0 (omega (arith, c.requires, c.if-index-eq0.false)) ∙ ap (start_at 0 ends) next
