use Rattle.std.proofs.Common.{◌≡◌, ◌≤◌, ℕ, false, List, [], ◌∷◌, length, map, ap, ◌∙◌, refl, arith}
use Rattle.std.specs.Arc.{arc_value}
use Rattle.gopher_page.specs.Page.{PageData}
use Rattle.gopher_segment.specs.Large.{large_from}
use Rattle.gopher_segment.specs.Postings.{run_of}
use Rattle.gopher_segment.specs.Segment.{SegmentData, meant_counts}
use Rattle.gopher_segment.proofs.LargeLemmas.{none_large}
use Rattle.gopher_segment.proofs.segment.Segment.postings.Goals as goal

no_items : (l : List ℕ) → length l ≤ 0 → l ≡ []
no_items [] none = refl
no_items (x ∷ l) none = absurd (omega (arith, none))

pub returns-clause-run : goal.returns-clause-run
returns-clause-run c =
    let own : List PageData = map arc_value c.self.inside.pages.items in
    let pages : own ≡ c.args.self.now.pages = ap (λ (s : SegmentData). s.pages) c.self.view_is in
    let none : large_from 0 c.args.self.now.pages ≡ [] = no_items (large_from 0 c.args.self.now.pages) (omega (arith, c.large_len.ensures)) in
    c.parts.ensures.whole
    ∙ c.find.ensures
    ∙ c.self.invariant.0.table.tell c.args.word.now
    ∙ ap (λ pages. run_of c.self.inside.first (meant_counts false c.args.word.now pages)) (none_large 0 own (ap (large_from 0) pages ∙ none) ∙ pages)
