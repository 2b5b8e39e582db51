use Rattle.std.proofs.Common.{ℕ, List, [], ◌+◌, ◌<◌, drop, length, map, get_or, refl, ap, sym, ◌∙◌, arith}
use Rattle.std.proofs.lemmas.List.{length-map, length-set, drop_more, drop_all}
use Rattle.std.specs.Arc.{arc_value}
use Rattle.gopher_page.specs.Counts.{count_meant}
use Rattle.gopher_page.specs.Page.{PageData}
use Rattle.gopher_segment.specs.Large.{large_from, table_pages}
use Rattle.gopher_segment.specs.Segment.{meant_counts}
use Rattle.gopher_segment.proofs.LargeLemmas.{large_within, written_from, length_in_table, written}
use Rattle.gopher_segment.proofs.large.spread_large.Goals as goal

pub loop-at-init : goal.loop-at-init
loop-at-init c =
    let pages : List PageData = map arc_value c.args.pages.now in
    let counted : PageData → ℕ = λ page. count_meant c.args.is_prefix c.args.sought.now page.counts in
    let value : ℕ → ℕ = λ at. get_or (map counted pages) at 0 in
    record {
      each = ap length c.requires.cells ∙ length-map (table_pages pages) counted ∙ length_in_table pages ∙ length-map c.args.pages.now arc_value;
      rest =
          (λ i. written value (c.requires.large i) (c.requires.cells i))
          ∙ written_from value counted [] 0 pages refl (λ k within. ap value (omega arith));
    }

pub write_count-requires-clause-within : goal.write_count-requires-clause-within
write_count-requires-clause-within c =
    let pages : List PageData = map arc_value c.args.pages.now in
    let same = ap (λ l. get_or l c.loop-at.at-index 0) c.requires.large in
    let inside : c.loop-at.at-index < length (large_from 0 pages) = omega (arith, c.loop-at-test.true, ap length c.requires.large) in
    omega (arith, same, large_within 0 pages c.loop-at.at-index 0 inside, length-map c.args.pages.now arc_value)

pub loop-at-preserved : goal.loop-at-preserved
loop-at-preserved c =
    let counts : List ℕ = meant_counts c.args.is_prefix c.args.sought.now (map arc_value c.args.pages.now) in
    let value : ℕ → ℕ = λ at. get_or counts at 0 in
    let at : ℕ = get_or c.args.large.now c.loop-at.at-index 0 in
    record {
      each = ap length c.write_count.ensures ∙ length-set c.loop-at.cells at (value at) ∙ c.loop-at.invariant.each;
      rest =
          ap (written value (drop (c.loop-at.at-index + 1) c.args.large.now)) c.write_count.ensures
          ∙ sym (ap (λ l. written value l c.loop-at.cells) (drop_more c.args.large.now c.loop-at.at-index 0 c.loop-at-test.true))
          ∙ c.loop-at.invariant.rest;
    }

pub returns : goal.returns
returns c =
    let counts : List ℕ = meant_counts c.args.is_prefix c.args.sought.now (map arc_value c.args.pages.now) in
    sym (ap (λ l. written (λ at. get_or counts at 0) l c.loop-at.cells) (drop_all c.loop-at.at-index c.args.large.now (omega arith)))
    ∙ c.loop-at.invariant.rest
