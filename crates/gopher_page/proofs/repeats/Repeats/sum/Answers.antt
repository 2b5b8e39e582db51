use Rattle.std.proofs.Common.{◌-◌, ◌∙◌, length, take, drop, ap, arith}
use Rattle.std.specs.List.{sum}
use Rattle.gopher_page.proofs.Joining.{length-joined, sum_between, sum_between_few}
use Rattle.gopher_page.proofs.repeats.Repeats.sum.Goals as goal

pub slice_bounds-sum_of_bytes-end : goal.slice_bounds-sum_of_bytes-end
slice_bounds-sum_of_bytes-end c = omega (arith, c.requires.within, ap length c.self.view_is, length-joined 256 c.self.inside.low.items c.self.inside.high.items, ap length c.deref.ensures.value)

pub sum_of_bytes-low-requires : goal.sum_of_bytes-low-requires
sum_of_bytes-low-requires c =
    let size = c.args.end - c.args.start in
    let low = ap (λ l. sum (take size (drop c.args.start l))) c.deref.ensures.value in
    omega (arith, low, sum_between_few c.self.inside.low.items c.self.inside.high.items c.args.self.now c.args.start size c.self.invariant c.self.view_is c.requires.few)

pub sum_of_pairs-requires : goal.sum_of_pairs-requires
sum_of_pairs-requires c =
    let size = c.args.end - c.args.start in
    let high = ap sum c.part_of.ensures ∙ ap (λ l. sum (take size (drop c.args.start l))) c.deref-2.ensures.value in
    omega (arith, high, sum_between_few c.self.inside.low.items c.self.inside.high.items c.args.self.now c.args.start size c.self.invariant c.self.view_is c.requires.few)

pub overflow_mul-result : goal.overflow_mul-result
overflow_mul-result c =
    let size = c.args.end - c.args.start in
    let high = c.sum_of_pairs.ensures ∙ ap sum c.part_of.ensures ∙ ap (λ l. sum (take size (drop c.args.start l))) c.deref-2.ensures.value in
    omega (arith, high, sum_between_few c.self.inside.low.items c.self.inside.high.items c.args.self.now c.args.start size c.self.invariant c.self.view_is c.requires.few)

pub overflow_add-result : goal.overflow_add-result
overflow_add-result c =
    let size = c.args.end - c.args.start in
    let low = c.sum_of_bytes-low.ensures ∙ ap (λ l. sum (take size (drop c.args.start l))) c.deref.ensures.value in
    let high = c.sum_of_pairs.ensures ∙ ap sum c.part_of.ensures ∙ ap (λ l. sum (take size (drop c.args.start l))) c.deref-2.ensures.value in
    omega (arith, low, high, sum_between_few c.self.inside.low.items c.self.inside.high.items c.args.self.now c.args.start size c.self.invariant c.self.view_is c.requires.few)

pub returns : goal.returns
returns c =
    let size = c.args.end - c.args.start in
    let low = c.sum_of_bytes-low.ensures ∙ ap (λ l. sum (take size (drop c.args.start l))) c.deref.ensures.value in
    let high = c.sum_of_pairs.ensures ∙ ap sum c.part_of.ensures ∙ ap (λ l. sum (take size (drop c.args.start l))) c.deref-2.ensures.value in
    let all = sum_between c.self.inside.low.items c.self.inside.high.items c.args.start size c.self.invariant in
    omega (arith, low, high, all, ap (λ l. sum (take size (drop c.args.start l))) c.self.view_is)
