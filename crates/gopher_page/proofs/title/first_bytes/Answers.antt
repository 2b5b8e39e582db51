use Rattle.std.proofs.Common.{◌≡◌, ◌∙◌, length, take, ap, arith}
use Rattle.std.specs.Prelude.{min}
use Rattle.std.proofs.lemmas.List.{take_min}
use Rattle.gopher_page.proofs.title.first_bytes.Goals as goal

pub returns : goal.returns
returns c =
    let least : c.min.result ≡ min 69 (length c.args.bytes.now) = omega (arith, c.min.ensures) in
    ap (λ n. take n c.args.bytes.now) least ∙ take_min 69 c.args.bytes.now
