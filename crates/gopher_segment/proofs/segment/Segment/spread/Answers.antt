use Rattle.std.proofs.Common.{◌≡◌, ℕ, List, ◌+◌, ◌<◌, ◌≤◌, length, map, get_or, replicate, sym, ap, subst, ◌∙◌, arith}
use Rattle.std.proofs.lemmas.List.{length-map, length-replicate, get_or-replicate, ext_get_or}
use Rattle.std.specs.Arc.{arc_value}
use Rattle.gopher_page.specs.Counts.{is_meant, count_where, count_meant}
use Rattle.gopher_page.specs.Page.{PageData}
use Rattle.gopher_segment.specs.Large.{table_pages}
use Rattle.gopher_segment.specs.Postings.{AreWithin, count_in}
use Rattle.gopher_segment.specs.Segment.{SegmentData, meant_counts}
use Rattle.gopher_segment.proofs.CountLemmas.{counts_of_page, counts_few, within_pages}
use Rattle.gopher_segment.proofs.LargeLemmas.{length_in_table, small_in_table}
use Rattle.gopher_segment.proofs.segment.Segment.spread.Goals as goal

zero_at : (cells : List ℕ) (n k : ℕ) → cells ≡ replicate n 0 → k < length cells → get_or cells k 0 ≡ 0
zero_at cells n k is within =
    let inside : k < n = omega (arith, ap length is, length-replicate {A = ℕ} n 0) in
    ap (λ l. get_or l k 0) is ∙ get_or-replicate n k 0 0 inside

-- a cell for each page of the table
cells_long : (cells : List ℕ) (segment : SegmentData) (own : List PageData) → cells ≡ replicate (length segment.pages) 0 → own ≡ segment.pages → length cells ≡ length (table_pages own)
cells_long cells segment own is same = ap length is ∙ length-replicate {A = ℕ} (length segment.pages) 0 ∙ ap length (sym same) ∙ sym (length_in_table own)

pub add_to-requires-clause-within : goal.add_to-requires-clause-within
add_to-requires-clause-within c =
    let own : List PageData = map arc_value c.self.inside.pages.items in
    let long = cells_long c.args.cells.now c.args.self.now own c.requires (ap (λ (s : SegmentData). s.pages) c.self.view_is) in
    subst (AreWithin c.self.inside.first (length c.args.cells.now)) (sym c.find.ensures)
    (within_pages c.self.inside.first (table_pages own) c.self.inside.table c.self.invariant.0.table.tell (is_meant c.args.is_prefix c.args.sought.now) (length c.args.cells.now) long)

pub add_to-requires-clause-room : goal.add_to-requires-clause-room
add_to-requires-clause-room c = λ k within.
    let own : List PageData = map arc_value c.self.inside.pages.items in
    let test = is_meant c.args.is_prefix c.args.sought.now in
    let long = cells_long c.args.cells.now c.args.self.now own c.requires (ap (λ (s : SegmentData). s.pages) c.self.view_is) in
    let inside : k < length (table_pages own) = omega (arith, within, long) in
    omega (
      arith,
      zero_at c.args.cells.now (length c.args.self.now.pages) k c.requires within,
      ap (count_in (c.self.inside.first + k)) c.find.ensures,
      counts_of_page c.self.inside.first (table_pages own) c.self.inside.table c.self.invariant.0.table.tell test k inside,
      counts_few test (table_pages own) (small_in_table own c.self.invariant.0.small) k 0 inside,
    )

pub spread_large-requires-clause-cells : goal.spread_large-requires-clause-cells
unfolding count_meant
spread_large-requires-clause-cells c =
    let own : List PageData = map arc_value c.self.inside.pages.items in
    let test = is_meant c.args.is_prefix c.args.sought.now in
    let counts : List ℕ = map (λ page. count_where test page.counts) (table_pages own) in
    let long = cells_long c.args.cells.now c.args.self.now own c.requires (ap (λ (s : SegmentData). s.pages) c.self.view_is) in
    let each : length c.add_to.new.cells ≡ length counts = omega (arith, long, length-map (table_pages own) (λ (page : PageData). count_where test page.counts)) in
    ext_get_or 0 c.add_to.new.cells counts each
    (λ k within.
    let before : k < length c.args.cells.now = omega arith in
    c.add_to.ensures k before
    ∙ omega (arith, zero_at c.args.cells.now (length c.args.self.now.pages) k c.requires before)
    ∙ ap (count_in (c.self.inside.first + k)) c.find.ensures
    ∙ counts_of_page c.self.inside.first (table_pages own) c.self.inside.table c.self.invariant.0.table.tell test k (omega (arith, before, long)))
    ∙ ap (λ l. map (λ page. count_where test page.counts) (table_pages (map arc_value l))) (sym c.deref.ensures.value)

pub returns-clause-few : goal.returns-clause-few
unfolding count_meant
returns-clause-few c =
    let own : List PageData = map arc_value c.self.inside.pages.items in
    let counts : c.spread_large.new.cells ≡ meant_counts c.args.is_prefix c.args.sought.now own =
    c.spread_large.ensures ∙ ap (λ l. meant_counts c.args.is_prefix c.args.sought.now (map arc_value l)) c.deref.ensures.value
    in
    λ k d within. subst (λ l. k < length l → get_or l k d ≤ 1048576) (sym counts)
    (λ inside. counts_few (is_meant c.args.is_prefix c.args.sought.now) own c.self.invariant.0.small k d (omega (arith, inside, length-map own (λ (page : PageData). count_meant c.args.is_prefix c.args.sought.now page.counts)))) within
