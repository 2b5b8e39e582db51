-- What groups of terms say of the pages of a segment.
use Rattle.std.proofs.Common.{◌≡◌, ℕ, zero, suc, ◌+◌, ◌*◌, ◌<◌, ◌≤◌, List, [], ◌∷◌, ◌++◌, length, map, max, replicate, get_or, take, refl, sym, ap, subst, ◌∙◌, arith}
use Rattle.std.specs.List.{All, length_refill}
use Rattle.std.specs.Vec.{with_items}
use Rattle.std.proofs.lemmas.List.{length-map, take_all, with_items_is}
use Rattle.std.proofs.lemmas.List.Elements.{All-map}
use Rattle.std.proofs.lemmas.Simd.{map-map, splat_is_map}
use Rattle.gopher_page.specs.Page.{PageData}
use Rattle.gopher_page.specs.Query.{TermData, count_of_term, score}
use Rattle.gopher_index.specs.Plan.{AreCells, term_counts, zipped, is_match, verdict_by, verdict, total, wanted_in, AreTermGroups, AreGroupCells}
use Rattle.gopher_index.specs.Joined.{AreJoined}
use Rattle.gopher_index.specs.declared.joined.Joined.{Joined}
use Rattle.gopher_index.specs.declared.plan.Group.{Group}
use Rattle.gopher_index.proofs.Groups.{next_group, verdict_push, total_push, times_few}
use Rattle.gopher_index.proofs.Zipping.{zipped_map}

pub no_group : (pages : List PageData) (verdicts scores : List ℕ) → verdicts ≡ replicate (length pages) 1 → scores ≡ replicate (length pages) 0 → AreGroupCells [] pages verdicts scores
no_group pages verdicts scores ones zeros = record {
  deciding = ones ∙ splat_is_map pages (length pages) 1 refl;
  scoring = zeros ∙ splat_is_map pages (length pages) 0 refl;
}

module _ (groups : List Group) (group : Group) (pages : List PageData) (counts : List ℕ) (counted : counts ≡ term_counts group.term pages) where
  pub one_group : (verdicts verdicts_new scores scores_new : List ℕ) → verdicts_new ≡ zipped (λ before count. max before (verdict_by group count)) verdicts counts → scores_new ≡ zipped (λ score count. score + group.wanted * count) scores counts
      → AreGroupCells groups pages verdicts scores → AreGroupCells (groups ++ group ∷ []) pages verdicts_new scores_new
  one_group verdicts verdicts_new scores scores_new takes adds cells = record {
    deciding =
        takes ∙ (λ i. zipped (λ before count. max before (verdict_by group count)) (cells.deciding i) (counted i))
        ∙ zipped_map (λ before count. max before (verdict_by group count)) (λ (page : PageData). verdict groups page.counts) (λ (page : PageData). count_of_term page.counts group.term) pages
        ∙ (λ i. map (λ (page : PageData). sym (verdict_push groups group page.counts) i) pages);
    scoring =
        adds ∙ (λ i. zipped (λ score count. score + group.wanted * count) (cells.scoring i) (counted i))
        ∙ zipped_map (λ score count. score + group.wanted * count) (λ (page : PageData). total groups page.counts) (λ (page : PageData). count_of_term page.counts group.term) pages
        ∙ (λ i. map (λ (page : PageData). sym (total_push groups group page.counts) i) pages);
  }

-- scores with room for one more group
pub group_few : (times : ℕ) (scores counts : List ℕ) (bound : ℕ) → All (λ score. score ≤ bound) scores → All (λ count. count ≤ 1048576) counts → All (λ score. score ≤ bound + 1048576 * times) (zipped (λ score count. score + times * count) scores counts)
group_few times [] counts bound few small = λ k d less. absurd (omega (arith, less))
group_few times (score ∷ scores) [] bound few small = λ k d less. omega (arith, few k d less)
group_few times (score ∷ scores) (count ∷ counts) bound few small =
    by (group_few times scores counts bound (λ k d less. few (suc k) d (omega arith)) (λ k d less. small (suc k) d (omega arith)))
  where
    by : All (λ score. score ≤ bound + 1048576 * times) (zipped (λ score count. score + times * count) scores counts) → All (λ score. score ≤ bound + 1048576 * times) ((score + times * count) ∷ zipped (λ score count. score + times * count) scores counts)
    by rest zero d less = omega (arith, few 0 d (omega arith), times_few times count 1048576 (small 0 d (omega arith)))
    by rest (suc k) d less = rest k d (omega arith)

-- what the groups of terms say is what the terms say
pub groups_cells : (terms : List TermData) (groups : List Group) (pages : List PageData) (verdicts read scores counted : List ℕ) → AreTermGroups terms groups → AreGroupCells groups pages verdicts scores → read ≡ verdicts → counted ≡ scores
    → AreCells terms pages (map is_match read) counted
groups_cells terms groups pages verdicts read scores counted are cells same alike = record {
  matching =
      ap (map is_match) (same ∙ cells.deciding) ∙ map-map is_match (λ (page : PageData). verdict groups page.counts) pages
      ∙ (λ i. map (λ (page : PageData). sym (are.matching page.counts) i) pages);
  scoring = alike ∙ cells.scoring ∙ (λ i. map (λ (page : PageData). sym (are.scoring page.counts) i) pages);
}

-- the cells of all groups, once all were joined
pub whole_groups : (groups : List Group) (pages : List PageData) (joined : Joined) → AreJoined groups pages joined → joined.groups ≡ length groups → AreGroupCells groups pages joined.verdicts.items joined.scores.items
whole_groups groups pages joined are all = subst (λ l. AreGroupCells l pages joined.verdicts.items joined.scores.items) (take_all joined.groups groups (omega (arith, all))) are.cells

-- scores that are multiples of counts
pub times_all : (times : ℕ) (counts : List ℕ) → All (λ count. count ≤ 1048576) counts → All (λ score. score ≤ 1048576 * times) (map (λ count. times * count) counts)
times_all times counts small = All-map (λ score. score ≤ 1048576 * times) (λ count. times * count) counts (λ k d less. times_few times (get_or counts k d) 1048576 (small k d less))

-- the cells after the first group was joined
pub joined_first : (groups : List Group) (group : Group) (pages : List PageData) (old : Joined) (verdicts scores : List ℕ) → 0 < length groups → group ≡ get_or groups 0 group → length old.counts.items ≡ length pages → length old.verdicts.items ≡ length pages → length old.scores.items ≡ length pages
    → AreGroupCells (group ∷ []) pages verdicts scores → All (λ score. score ≤ 1048576 * group.wanted) scores
    → AreJoined groups pages (record { counts = old.counts; verdicts = with_items old.verdicts verdicts; scores = with_items old.scores scores; groups = 1 })
joined_first groups group pages old verdicts scores some is counts verdicts_long scores_long cells few =
    let first : take 1 groups ≡ group ∷ [] = next_group groups 0 group some is in
    let verdicts_are : (with_items old.verdicts verdicts).items ≡ verdicts =
    with_items_is old.verdicts verdicts (ap length cells.deciding ∙ length-map pages (λ (page : PageData). verdict (group ∷ []) page.counts) ∙ sym verdicts_long ∙ sym old.verdicts.ok.0) in
    let scores_are : (with_items old.scores scores).items ≡ scores =
    with_items_is old.scores scores (ap length cells.scoring ∙ length-map pages (λ (page : PageData). total (group ∷ []) page.counts) ∙ sym scores_long ∙ sym old.scores.ok.0) in
    let wanted : wanted_in (take 1 groups) ≡ group.wanted = ap wanted_in first ∙ plain group.wanted in
    record {
      within = omega (arith, some);
      counts = counts;
      cells = subst (λ l. AreGroupCells l pages (with_items old.verdicts verdicts).items (with_items old.scores scores).items) (sym first) (record { deciding = verdicts_are ∙ cells.deciding; scoring = scores_are ∙ cells.scoring });
      few = subst (λ l. All (λ score. score ≤ 1048576 * wanted_in (take 1 groups)) l) (sym scores_are) (subst (λ n. All (λ score. score ≤ 1048576 * n) scores) (sym wanted) few);
    }
  where
    plain : (n : ℕ) → n + 0 ≡ n
    plain n = omega arith

-- the cells after more groups were joined
pub joined_more : (groups : List Group) (pages : List PageData) (old : Joined) (end : ℕ) (counts verdicts scores : List ℕ) → AreJoined groups pages old → end ≤ length groups → AreGroupCells (take end groups) pages verdicts scores
    → All (λ score. score ≤ 1048576 * wanted_in (take end groups)) scores
    → AreJoined groups pages (record { counts = with_items old.counts counts; verdicts = with_items old.verdicts verdicts; scores = with_items old.scores scores; groups = end })
joined_more groups pages old end counts verdicts scores base within cells few =
    let verdicts_are : (with_items old.verdicts verdicts).items ≡ verdicts =
    with_items_is old.verdicts verdicts
    (ap length cells.deciding ∙ length-map pages (λ (page : PageData). verdict (take end groups) page.counts)
    ∙ sym (length-map pages (λ (page : PageData). verdict (take old.groups groups) page.counts)) ∙ ap length (sym base.cells.deciding) ∙ sym old.verdicts.ok.0) in
    let scores_are : (with_items old.scores scores).items ≡ scores =
    with_items_is old.scores scores
    (ap length cells.scoring ∙ length-map pages (λ (page : PageData). total (take end groups) page.counts)
    ∙ sym (length-map pages (λ (page : PageData). total (take old.groups groups) page.counts)) ∙ ap length (sym base.cells.scoring) ∙ sym old.scores.ok.0) in
    record {
      within = within;
      counts = sym (length_refill old.counts.len old.counts.items counts old.counts.ok.0) ∙ old.counts.ok.0 ∙ base.counts;
      cells = record { deciding = verdicts_are ∙ cells.deciding; scoring = scores_are ∙ cells.scoring };
      few = subst (λ l. All (λ score. score ≤ 1048576 * wanted_in (take end groups)) l) (sym scores_are) few;
    }
