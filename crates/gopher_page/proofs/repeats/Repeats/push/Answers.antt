use Rattle.std.proofs.Common.{◌≡◌, ◌+◌, ◌-◌, ◌/◌, ◌%◌, ◌∙◌, ◌∷◌, [], ◌++◌, length, ap, arith}
use Rattle.std.specs.Prelude.{vec_len}
use Rattle.gopher_page.proofs.Joining.{parts-high, parts-low, push-high, push-low}
use Rattle.gopher_page.proofs.repeats.Repeats.push.Goals as goal

pub invariant_of-self-in_err-resize : goal.invariant_of-self-in_err-resize
invariant_of-self-in_err-resize c =
    rw (c.in_ok-push.ensures.items, c.in_err-resize.ensures.items) (parts-low 256 c.self.inside.low.items c.self.inside.high.items c.self.invariant (c.args.count % 256) (omega arith))

pub invariant_of-self-then-count-ge256 : goal.invariant_of-self-then-count-ge256
invariant_of-self-then-count-ge256 c =
    let index = c.len-index.result in
    let size : index ≡ length c.self.inside.low.items = c.len-index.ensures ∙ c.self.inside.low.ok.0 in
    let missing : (index + 1) - vec_len c.self.inside.high ≡ (index + 1) - length c.self.inside.high.items = ap (λ n. (index + 1) - n) c.self.inside.high.ok.0 in
    rw c.in_ok-push.ensures.items
    (parts-high 256 c.self.inside.low.items c.self.inside.high.items c.self.invariant c.resize.new.self.items (c.args.count % 256) (c.args.count / 256) c.args.count index _ (omega arith) size missing c.in_ok-resize.ensures.items (omega (arith, c.if-count-ge256.true)))

pub invariant_of-self-else-count-ge256 : goal.invariant_of-self-else-count-ge256
invariant_of-self-else-count-ge256 c = rw c.in_ok-push.ensures.items (parts-low 256 c.self.inside.low.items c.self.inside.high.items c.self.invariant (c.args.count % 256) (omega arith))

pub returns-in_ok-resize : goal.returns-in_ok-resize
returns-in_ok-resize c =
    let index = c.len-index.result in
    let size : index ≡ length c.self.inside.low.items = c.len-index.ensures ∙ c.self.inside.low.ok.0 in
    let missing : (index + 1) - vec_len c.self.inside.high ≡ (index + 1) - length c.self.inside.high.items = ap (λ n. (index + 1) - n) c.self.inside.high.ok.0 in
    rw c.in_ok-push.ensures.items
    (push-high 256 c.self.inside.low.items c.self.inside.high.items c.self.invariant c.resize.new.self.items (c.args.count % 256) (c.args.count / 256) c.args.count index _ (omega arith) size missing c.in_ok-resize.ensures.items
    ∙ ap (λ l. l ++ c.args.count ∷ []) c.self.view_is)

pub returns-else-count-ge256 : goal.returns-else-count-ge256
returns-else-count-ge256 c =
    let small : c.args.count % 256 ≡ c.args.count = omega (arith, c.if-count-ge256.false) in
    rw c.in_ok-push.ensures.items
    (push-low 256 c.self.inside.low.items c.self.inside.high.items c.self.invariant (c.args.count % 256) ∙ (λ i. c.self.view_is i ++ small i ∷ []))
