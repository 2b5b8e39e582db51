-- Pages that are passed over together.
use Rattle.std.proofs.Common.{◌≡◌, ℕ, ◌+◌, ◌-◌, ◌≤◌, Bool, true, false, ◌||◌, nat_le, List, [], ◌∷◌, ◌++◌, map, take, drop, refl, sym, ap, ◌∙◌, arith}
use Rattle.std.specs.List.{list_any}
use Rattle.std.proofs.Math.Seq.{take-add}
use Rattle.std.proofs.lemmas.List.{take-map, drop-map}
use Rattle.gopher_page.specs.Page.{PageData}
use Rattle.gopher_page.specs.Query.{TermData, matches, score}
use Rattle.gopher_index.specs.Best.{BestData, lowest_score, TakesIn}
use Rattle.gopher_index.specs.Plan.{AreCells}
use Rattle.gopher_index.proofs.Taking.{takes_none, takes_both, takes_below}

-- ---- a block where none is

pub neither_left : (a b : Bool) → a || b ≡ false → a ≡ false
neither_left true b e = e
neither_left false b e = refl

pub neither_right : (a b : Bool) → a || b ≡ false → b ≡ false
neither_right true b e = absurd cc
neither_right false b e = e

module _ (terms : List TermData) (best : BestData) (lowest : ℕ) (low : lowest ≤ lowest_score best) where
  passes_all : (pages : List PageData) → list_any (λ n. nat_le lowest n) (map (λ (p : PageData). score terms p.counts) pages) ≡ false → TakesIn terms pages best best
  passes_all [] none = takes_none terms best
  passes_all (page ∷ pages) none =
      let below : nat_le lowest (score terms page.counts) ≡ false = neither_left (nat_le lowest (score terms page.counts)) (list_any (λ n. nat_le lowest n) (map (λ (p : PageData). score terms p.counts) pages)) none in
      takes_both terms (page ∷ []) pages best best best (takes_below terms page best (grind (arith, below, low)))
      (passes_all pages (neither_right (nat_le lowest (score terms page.counts)) (list_any (λ n. nat_le lowest n) (map (λ (p : PageData). score terms p.counts) pages)) none))

  pub passes_block : (pages : List PageData) (truths : List Bool) (scores : List ℕ) → AreCells terms pages truths scores → list_any (λ n. nat_le lowest n) scores ≡ false → TakesIn terms pages best best
  passes_block pages truths scores cells none = passes_all pages (ap (list_any (λ n. nat_le lowest n)) (sym cells.scoring) ∙ none)

-- ---- blocks

pub span_cells : (terms : List TermData) (pages : List PageData) (truths : List Bool) (scores : List ℕ) (start size : ℕ) → AreCells terms pages truths scores → AreCells terms (take size (drop start pages)) (take size (drop start truths)) (take size (drop start scores))
span_cells terms pages truths scores start size cells =
    record {
      matching = part (λ (page : PageData). matches terms page.counts) truths cells.matching;
      scoring = part (λ (page : PageData). score terms page.counts) scores cells.scoring;
    }
  where
    part : {Y : Type 0} (g : PageData → Y) (ys : List Y) → ys ≡ map g pages → take size (drop start ys) ≡ map g (take size (drop start pages))
    part g ys e = ap (λ l. take size (drop start l)) e ∙ ap (take size) (drop-map g start pages) ∙ take-map g size (drop start pages)

pub span_next : {X : Type 0} (xs : List X) (start end : ℕ) → start ≤ end → take end xs ≡ take start xs ++ take (end - start) (drop start xs)
span_next xs start end forward =
    let whole : end ≡ start + (end - start) = omega arith in
    ap (λ n. take n xs) whole ∙ take-add start (end - start) xs
