use Rattle.std.proofs.Common.{◌≡◌, ℕ, List, ◌+◌, ◌<◌, ◌≤◌, ◌^◌, ◌==◌, cond, length, get_or, take, sym, ap, subst, ◌∙◌, arith}
use Rattle.std.proofs.lemmas.List.{take_all}
use Rattle.std.specs.List.{zip}
use Rattle.gopher_segment.specs.Postings.{AreWithin, count_in}
use Rattle.gopher_bytes.proofs.Zips.{length-zip}
use Rattle.gopher_segment.proofs.RunLemmas.{number_at}
use Rattle.gopher_segment.proofs.PostingLemmas.{run_step, count_in_part}
use Rattle.gopher_segment.proofs.runs.Run.add_to.Goals as goal

pub add_count-requires-clause-from : goal.add_count-requires-clause-from
add_count-requires-clause-from c =
    let all = subst (AreWithin c.args.first (length c.args.cells.now)) (sym c.self.view_is) c.requires.within in
    omega (arith, c.from.ensures, (number_at c.args.first (length c.args.cells.now) c.self.inside.pages.now c.self.inside.counts.now c.loop-index.index c.self.invariant all (omega arith)).0)

pub add_count-requires-clause-within : goal.add_count-requires-clause-within
add_count-requires-clause-within c =
    let all = subst (AreWithin c.args.first (length c.args.cells.now)) (sym c.self.view_is) c.requires.within in
    omega (arith, c.from.ensures, (number_at c.args.first (length c.args.cells.now) c.self.inside.pages.now c.self.inside.counts.now c.loop-index.index c.self.invariant all (omega arith)).1)

pub add_count-requires-clause-room : goal.add_count-requires-clause-room
add_count-requires-clause-room c = λ k within.
    let pages : List ℕ = c.self.inside.pages.now in
    let counts : List ℕ = c.self.inside.counts.now in
    let page : ℕ = c.args.first + k in
    let inside : c.loop-index.index < length pages = omega arith in
    let step : count_in page (take (c.loop-index.index + 1) (zip pages counts)) ≡ count_in page (take c.loop-index.index (zip pages counts)) + cond (get_or pages c.loop-index.index 0 == page) (get_or counts c.loop-index.index 0) 0 =
    run_step pages counts c.loop-index.index page c.self.invariant inside in
    let part : count_in page (take (c.loop-index.index + 1) (zip pages counts)) ≤ count_in page (zip pages counts) = count_in_part page (zip pages counts) (c.loop-index.index + 1) in
    let whole : count_in page (zip pages counts) ≡ count_in page c.args.self.now = ap (count_in page) c.self.view_is in
    let fits : get_or c.args.cells.now k 0 + count_in page c.args.self.now < 2 ^ 32 = c.requires.room k (omega arith) in
    let so_far : get_or c.loop-index.cells k 0 ≡ get_or c.args.cells.now k 0 + count_in page (take c.loop-index.index (zip pages counts)) = c.loop-index.invariant k within in
    rw (c.from.ensures, c.from-in-loop-index.ensures) (omega arith)

pub loop-index-preserved : goal.loop-index-preserved
loop-index-preserved c = λ k within.
    let pages : List ℕ = c.self.inside.pages.now in
    let counts : List ℕ = c.self.inside.counts.now in
    let page : ℕ = c.args.first + k in
    let inside : c.loop-index.index < length pages = omega arith in
    let step : count_in page (take (c.loop-index.index + 1) (zip pages counts)) ≡ count_in page (take c.loop-index.index (zip pages counts)) + cond (get_or pages c.loop-index.index 0 == page) (get_or counts c.loop-index.index 0) 0 =
    run_step pages counts c.loop-index.index page c.self.invariant inside in
    let before : k < length c.loop-index.cells = omega arith in
    let so_far : get_or c.loop-index.cells k 0 ≡ get_or c.args.cells.now k 0 + count_in page (take c.loop-index.index (zip pages counts)) = c.loop-index.invariant k before in
    let added : get_or c.add_count.new.cells k 0 ≡ get_or c.loop-index.cells k 0 + cond (get_or pages c.loop-index.index 0 == page) (get_or counts c.loop-index.index 0) 0 =
    c.add_count.ensures k before ∙ (λ i. get_or c.loop-index.cells k 0 + cond (c.from.ensures i == page) (c.from-in-loop-index.ensures i) 0) in
    omega arith

pub returns : goal.returns
returns c = λ k within.
    let pages : List ℕ = c.self.inside.pages.now in
    let counts : List ℕ = c.self.inside.counts.now in
    let page : ℕ = c.args.first + k in
    let all : take c.loop-index.index (zip pages counts) ≡ zip pages counts = take_all c.loop-index.index (zip pages counts) (omega (arith, length-zip pages counts c.self.invariant)) in
    c.loop-index.invariant k (omega arith) ∙ ap (λ l. get_or c.args.cells.now k 0 + count_in page l) (all ∙ c.self.view_is)
