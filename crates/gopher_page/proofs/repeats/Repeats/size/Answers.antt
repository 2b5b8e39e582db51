use Rattle.std.proofs.Common.{◌≡◌, ◌∙◌, length, ap, sym, arith}
use Rattle.gopher_page.specs.Packed.{len_to_last}
use Rattle.gopher_page.proofs.Joining.{length-joined}
use Rattle.gopher_page.proofs.repeats.Repeats.size.Goals as goal

pub returns : goal.returns
returns c =
    let lows = c.self.inside.low.items in
    let highs = c.self.inside.high.items in
    let low : length lows ≡ length c.args.self.now = sym (length-joined 256 lows highs) ∙ ap length c.self.view_is in
    let high : length highs ≡ len_to_last 256 c.args.self.now = c.self.invariant ∙ ap (len_to_last 256) c.self.view_is in
    grind (arith, low, high, c.self.inside.low.ok.0, c.self.inside.high.ok.0)
