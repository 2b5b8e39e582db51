use Rattle.std.proofs.Common.{ℕ, ◌<◌, length, get_or, map, sym, subst, rules}
use Rattle.std.proofs.lemmas.List.Sorted.{answers_always, ranks_by}
use Rattle.std.proofs.lemmas.Result.{IfOk-weaker}
use Rattle.std.specs.Arc.{arc_value}
use Rattle.std.specs.Ordering.{is_lt}
use Rattle.gopher_item.specs.Laws.{place_cmp_total}
use Rattle.gopher_item.specs.Place.{PlaceData, place_cmp}
use Rattle.gopher_segment.specs.Ranks.{AreRanks, AreScattered}
use Rattle.gopher_segment.proofs.RankLemmas.{inside_sorted, ranks_are}
use Rattle.gopher_segment.proofs.ranks.ranks_of.Goals as goal

pub positions-requires : goal.positions-requires
positions-requires c =
    subst (λ l. (k : ℕ) (e : PlaceData × ℕ) → k < length l → (get_or l k e).1 < length l) (sym c.deref.ensures.value)
    (inside_sorted (map arc_value c.args.pages.now) c.in_ok-sorted.sorted.items c.sort_by.new.self.items c.in_ok-sorted.ensures c.in_ok-sort_by.ensures.permutation)

pub returns : goal.returns
returns c =
    let pages = map arc_value c.args.pages.now in
    let sorted = c.in_ok-sort_by.ensures.sorted (λ x y. is_lt (place_cmp x.0 y.0)) (ranks_by place_cmp_total (λ (x : PlaceData × ℕ). x.0)) (answers_always _ _ _ (λ f a r g h. search rules)) in
    IfOk-weaker c.positions.result (λ ranks. AreScattered c.deref.result.now ranks.items) (λ ranks. AreRanks pages ranks.items)
    (λ ranks scattered. ranks_are pages c.in_ok-sorted.sorted.items c.sort_by.new.self.items c.in_ok-sorted.ensures c.in_ok-sort_by.ensures.permutation ranks.items
    (subst (λ l. AreScattered l ranks.items) c.deref.ensures.value scattered) sorted)
    c.positions.ensures
