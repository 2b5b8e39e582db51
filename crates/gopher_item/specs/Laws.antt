-- The laws of comparisons of places and menu lines. They are lemmas; an impl can cite only specs/.
use Rattle.std.specs.Prelude.{◌≡◌}
use Rattle.std.specs.Cmp.{IsEquivalence, IsTotalOrder, both_tied, unsigned_ties}
use Rattle.std.specs.Cmp.Lexicographic.{texts_ties}
use Rattle.std.specs.Cmp.Rules.{comparing}
use Rattle.std.specs.Ordering.{eq_by_cmp}
use Rattle.std.proofs.Common.{rules}
use Rattle.gopher_item.specs.MenuLine.{same_line}
use Rattle.gopher_item.specs.Place.{PlaceData, place_cmp, same_place}

pub same_place_equiv : IsEquivalence same_place
same_place_equiv = search (comparing, rules)

pub place_cmp_total : IsTotalOrder place_cmp
place_cmp_total = search (comparing, rules)

-- two places are the same exactly if their order ties
pub same_place_ties : (a b : PlaceData) → same_place a b ≡ eq_by_cmp place_cmp a b
same_place_ties a b =
    let host_port = both_tied _ _ _ _ (texts_ties a.host b.host) (unsigned_ties a.port b.port) in
    both_tied _ _ _ _ (both_tied _ _ _ _ host_port (texts_ties a.selector b.selector))
    (unsigned_ties a.kind b.kind)

pub same_line_equiv : IsEquivalence same_line
same_line_equiv = search (comparing, rules)
