use Rattle.std.proofs.Common.{◌≡◌, ◌∙◌, ◌+◌, ◌*◌, ◌≤◌, refl, sym, subst, arith}
use Rattle.std.specs.List.{All}
use Rattle.gopher_segment.specs.Segment.{meant_counts}
use Rattle.gopher_index.proofs.GroupCells.{one_group, group_few}
use Rattle.gopher_index.proofs.PostingLemmas.{meant_is_term}
use Rattle.gopher_index.proofs.Unwanted.{listed_within, listed_raises, unwanted_adds}
use Rattle.gopher_index.specs.Plan.{term_counts}
use Rattle.gopher_index.proofs.joined.join_group.Goals as goal

pub raise_listed-requires-clause-within : goal.raise_listed-requires-clause-within
raise_listed-requires-clause-within c =
    listed_within c.args.group.now c.args.part.now.pages c.in-Some.postings c.in-Some.ensures c.args.verdicts.now c.requires.verdicts

pub returns-in-Some-clause-cells : goal.returns-in-Some-clause-cells
returns-in-Some-clause-cells c = λ groups cells.
    one_group groups c.args.group.now c.args.part.now.pages (term_counts c.args.group.now.term c.args.part.now.pages) refl c.args.verdicts.now c.raise_listed.new.verdicts c.args.scores.now c.args.scores.now
    (listed_raises c.args.group.now c.args.part.now.pages c.in-Some.postings c.in-Some.ensures c.args.verdicts.now c.raise_listed.new.verdicts c.requires.verdicts (omega arith) c.raise_listed.ensures)
    (unwanted_adds c.args.group.now c.args.part.now.pages c.in-Some.postings c.in-Some.ensures c.args.scores.now) cells

pub returns-in-Some-clause-few : goal.returns-in-Some-clause-few
returns-in-Some-clause-few c = λ bound few. λ k d less. omega (arith, few k d less)

pub returns-clause-cells : goal.returns-clause-cells
returns-clause-cells c = λ groups cells.
    let pages = c.args.part.now.pages in
    let counted : c.spread.new.cells ≡ term_counts c.args.group.now.term pages =
    c.spread.ensures.counts ∙ (λ i. meant_counts (c.is_prefix.ensures i) (c.word.ensures i) pages) ∙ meant_is_term c.args.group.now.term pages in
    one_group groups c.args.group.now pages c.spread.new.cells counted c.args.verdicts.now c.raise_verdicts.new.verdicts c.args.scores.now c.add_wanted.new.scores
    c.raise_verdicts.ensures c.add_wanted.ensures cells

pub returns-clause-few : goal.returns-clause-few
returns-clause-few c = λ bound few.
    subst (λ scores. All (λ score. score ≤ bound + 1048576 * c.args.group.now.wanted) scores) (sym c.add_wanted.ensures) (group_few c.args.group.now.wanted c.args.scores.now c.spread.new.cells bound few c.spread.ensures.few)
