use Rattle.std.proofs.Common.{◌≡◌, ◌-◌, ◌<◌, length, take, drop, ap, sym, subst, ◌∙◌, arith}
use Rattle.gopher_segment.specs.Segment.{pages_of}
use Rattle.gopher_index.specs.Index.{IsIndexRun, IsSliceOf, run_data}
use Rattle.gopher_index.proofs.SettlingLemmas.{number_at, part_run, part_stands}
use Rattle.gopher_index.proofs.index.Index.due.Goals as goal

pub invariant_of-result : goal.invariant_of-result
invariant_of-result c =
    let parts = c.self.inside.parts.items in
    let start = c.in-Some.start in
    let count = c.in-Some.end - start in
    let within : start < length parts = omega (arith, c.in-Some.ensures, ap length c.deref.ensures.value) in
    let number = number_at 0 parts start c.index.result.now c.self.invariant.is_run.consecutive within c.index.ensures in
    let first : c.first-first.result ≡ length (pages_of (take start parts)) = omega (arith, c.first-first.ensures, number) in
    let is : c.in_ok-parts.parts.items ≡ take count (drop start parts) = c.in_ok-parts.ensures.items_if_clones_equal (λ copy part same. same) ∙ ap (λ l. take count (drop start l)) c.deref-3.ensures.value in
    record {
      is_run = subst (λ n. IsIndexRun n c.in_ok-parts.parts.items) (sym first) (subst (IsIndexRun (length (pages_of (take start parts)))) (sym is) (part_run parts c.self.inside.count start count c.self.invariant));
      merged_is = tt;
    }

pub returns-clause-stands : goal.returns-clause-stands
returns-clause-stands c =
    let parts = c.self.inside.parts.items in
    let start = c.in-Some.start in
    let count = c.in-Some.end - start in
    let within : start < length parts = omega (arith, c.in-Some.ensures, ap length c.deref.ensures.value) in
    let number = number_at 0 parts start c.index.result.now c.self.invariant.is_run.consecutive within c.index.ensures in
    let first : c.first-first.result ≡ length (pages_of (take start parts)) = omega (arith, c.first-first.ensures, number) in
    let is : c.in_ok-parts.parts.items ≡ take count (drop start parts) = c.in_ok-parts.ensures.items_if_clones_equal (λ copy part same. same) ∙ ap (λ l. take count (drop start l)) c.deref-3.ensures.value in
    subst (λ run. IsSliceOf run (pages_of parts)) (λ i. run_data (sym first i) (sym is i)) (part_stands parts c.self.inside.count start count c.self.invariant)
