use Rattle.std.proofs.Common.{◌≡◌, ℕ, List, ◌+◌, ◌<◌, ◌==◌, cond, length, max, get_or, take, sym, ap, ◌∙◌, arith}
use Rattle.std.proofs.lemmas.List.{take_all}
use Rattle.std.specs.Prelude.{nat_lt}
use Rattle.std.specs.List.{zip}
use Rattle.gopher_segment.specs.Postings.{count_in}
use Rattle.gopher_bytes.proofs.Zips.{length-zip}
use Rattle.gopher_segment.proofs.RunLemmas.{number_at}
use Rattle.gopher_segment.proofs.PostingLemmas.{run_step}
use Rattle.gopher_index.proofs.Unwanted.{raised_twice, none_raises}
use Rattle.gopher_index.proofs.joined.raise_listed.Goals as goal

pub raise_page-requires-clause-from : goal.raise_page-requires-clause-from
raise_page-requires-clause-from c =
    omega (arith, c.from.ensures, (number_at c.args.postings.now.first (length c.args.verdicts.now) c.args.postings.now.numbers.now c.args.postings.now.counts.now c.loop-index.index c.requires.beside c.requires.within (omega arith)).0)

pub raise_page-requires-clause-within : goal.raise_page-requires-clause-within
raise_page-requires-clause-within c =
    omega (arith, c.from.ensures, (number_at c.args.postings.now.first (length c.args.verdicts.now) c.args.postings.now.numbers.now c.args.postings.now.counts.now c.loop-index.index c.requires.beside c.requires.within (omega arith)).1)

pub loop-index-init : goal.loop-index-init
loop-index-init c = λ k within. none_raises c.args.holds (get_or c.args.verdicts.now k 0)

pub loop-index-preserved : goal.loop-index-preserved
loop-index-preserved c = λ k within.
    let numbers : List ℕ = c.args.postings.now.numbers.now in
    let counts : List ℕ = c.args.postings.now.counts.now in
    let holds = c.args.holds in
    let page : ℕ = c.args.postings.now.first + k in
    let old = get_or c.args.verdicts.now k 0 in
    let so_far : ℕ = count_in page (take c.loop-index.index (zip numbers counts)) in
    let here : ℕ = cond (get_or numbers c.loop-index.index 0 == page) (get_or counts c.loop-index.index 0) 0 in
    let before : k < length c.loop-index.verdicts = omega arith in
    c.raise_page.ensures k before
    ∙ (λ i. max (c.loop-index.invariant k before i) (cond (nat_lt 0 (cond (c.from.ensures i == page) (get_or counts c.loop-index.index 0) 0)) holds 0))
    ∙ raised_twice holds old so_far here
    ∙ ap (λ n. max old (cond (nat_lt 0 n) holds 0)) (sym (run_step numbers counts c.loop-index.index page c.requires.beside (omega arith)))

pub returns : goal.returns
returns c = λ k within.
    let numbers : List ℕ = c.args.postings.now.numbers.now in
    let counts : List ℕ = c.args.postings.now.counts.now in
    let all : take c.loop-index.index (zip numbers counts) ≡ zip numbers counts = take_all c.loop-index.index (zip numbers counts) (omega (arith, length-zip numbers counts c.requires.beside)) in
    c.loop-index.invariant k (omega arith) ∙ ap (λ l. max (get_or c.args.verdicts.now k 0) (cond (nat_lt 0 (count_in (c.args.postings.now.first + k) l)) c.args.holds 0)) all
