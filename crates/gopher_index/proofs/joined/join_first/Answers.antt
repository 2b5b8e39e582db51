use Rattle.std.proofs.Common.{◌≡◌, ◌+◌, ◌*◌, ◌≤◌, [], length, replicate, sym, ap, subst, ◌∙◌}
use Rattle.std.specs.List.{All}
use Rattle.std.proofs.lemmas.List.{length-map}
use Rattle.gopher_page.specs.Page.{PageData}
use Rattle.gopher_page.specs.Query.{count_of_term}
use Rattle.gopher_segment.specs.Segment.{meant_counts}
use Rattle.gopher_index.specs.Plan.{term_counts, zipped}
use Rattle.gopher_index.proofs.PostingLemmas.{meant_is_term}
use Rattle.gopher_index.proofs.GroupCells.{no_group, one_group, times_all}
use Rattle.gopher_index.proofs.Zipping.{zipped_zeros}
use Rattle.gopher_index.proofs.joined.join_first.Goals as goal

pub returns-clause-cells : goal.returns-clause-cells
returns-clause-cells c =
    let group = c.args.group.now in
    let pages = c.args.part.now.pages in
    let counted : c.spread.new.cells ≡ term_counts group.term pages =
    c.spread.ensures.counts ∙ (λ i. meant_counts (c.is_prefix.ensures i) (c.word.ensures i) pages) ∙ meant_is_term group.term pages in
    let long : length c.spread.new.cells ≡ length pages = ap length counted ∙ length-map pages (λ (page : PageData). count_of_term page.counts group.term) in
    let adds : c.multiply.new.scores ≡ zipped (λ score count. score + group.wanted * count) c.args.scores.now c.spread.new.cells =
    c.multiply.ensures ∙ zipped_zeros group.wanted c.spread.new.cells
    ∙ ap (λ zeros. zipped (λ score count. score + group.wanted * count) zeros c.spread.new.cells) (ap (λ n. replicate n 0) long ∙ sym c.requires.scores) in
    one_group [] group pages c.spread.new.cells counted c.args.verdicts.now c.raise_verdicts.new.verdicts c.args.scores.now c.multiply.new.scores c.raise_verdicts.ensures adds
    (no_group pages c.args.verdicts.now c.args.scores.now c.requires.verdicts c.requires.scores)

pub returns-clause-few : goal.returns-clause-few
returns-clause-few c = subst (λ scores. All (λ score. score ≤ 1048576 * c.args.group.now.wanted) scores) (sym c.multiply.ensures) (times_all c.args.group.now.wanted c.spread.new.cells c.spread.ensures.few)
