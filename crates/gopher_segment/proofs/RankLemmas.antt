-- The positions of places in their order are ranks of the pages.
use Rattle.std.proofs.Common.{◌≡◌, ℕ, ◌<◌, ◌≤◌, false, List, length, get_or, min, sym, ap, subst, ◌∙◌, arith}
use Rattle.std.specs.List.{All, Contains}
use Rattle.std.specs.List.Sorted.{IsPermutation, IsSorted}
use Rattle.std.specs.Ordering.{is_lt}
use Rattle.std.proofs.lemmas.List.Elements.{Contains-get_or}
use Rattle.std.proofs.lemmas.List.Sorted.{All-permutation, Contains-permutation, length_permutation, ranks_by, sorted_far}
use Rattle.gopher_item.specs.Laws.{place_cmp_total}
use Rattle.gopher_item.specs.Place.{PlaceData, place_cmp}
use Rattle.gopher_page.specs.Page.{PageData}
use Rattle.gopher_segment.specs.Ranks.{AreNumbered, AreRanks, AreScattered, HasPosition}

module _ (pages : List PageData) (placed sorted : List (PlaceData × ℕ)) (numbered : AreNumbered pages placed) (moved : IsPermutation placed sorted) where
  pub sorted_length : length sorted ≡ length pages
  sorted_length = length_permutation placed sorted moved ∙ numbered.each

  -- each index is that of a page
  pub inside_sorted : (k : ℕ) (e : PlaceData × ℕ) → k < length sorted → (get_or sorted k e).1 < length sorted
  inside_sorted k e within =
      All-permutation (λ (x : PlaceData × ℕ). x.1 < length sorted) placed sorted moved
      (λ n d below. subst (λ m. m < length sorted) (sym (numbered.index n d (omega (arith, below, numbered.each)))) (omega (arith, below, numbered.each, sorted_length))) k e within

  -- each place is that of the page at the index
  abbrev Is : PlaceData × ℕ → Type 0
  Is x = (d : PageData) → x.0 ≡ (get_or pages x.1 d).place

  numbered_is : All Is placed
  numbered_is k e within = λ d.
      let inside : k < length pages = omega (arith, within, numbered.each) in
      numbered.place k d e inside ∙ ap (λ n. (get_or pages n d).place) (sym (numbered.index k e inside))

  module _ (ranks : List ℕ) (scattered : AreScattered sorted ranks) where
    position : (i : ℕ) (e : PlaceData × ℕ) → i < length pages → HasPosition sorted ranks i
    position i e inside =
        let there : Contains sorted (get_or placed i e) = Contains-permutation placed sorted (get_or placed i e) moved (Contains-get_or placed i e (omega (arith, inside, numbered.each))) in
        subst (HasPosition sorted ranks) (ap (λ (x : PlaceData × ℕ). x.1) there.2 ∙ numbered.index i e inside) (scattered.positions there.0 (get_or placed i e) there.1)

    place_at : (i : ℕ) (d : PageData) (e : PlaceData × ℕ) (p : HasPosition sorted ranks i) → (get_or sorted p.at e).0 ≡ (get_or pages i d).place
    place_at i d e p = All-permutation Is placed sorted moved numbered_is p.at e p.within d ∙ ap (λ n. (get_or pages n d).place) (p.here e)

    earlier : (a b m n : ℕ) → m ≡ min a 65535 → n ≡ min b 65535 → m < n → a ≤ b
    earlier a b m n first second below = omega (arith, first, second, below)

    pub ranks_are : IsSorted (λ (x y : PlaceData × ℕ). place_cmp x.0 y.0) sorted → AreRanks pages ranks
    ranks_are rising = record {
      each = scattered.each ∙ sorted_length;
      ordered = λ i j d i_inside j_inside below.
          let e : PlaceData × ℕ = (d.place, 0) in
          let first = position i e i_inside in
          let second = position j e j_inside in
          subst (λ place. is_lt (place_cmp place (get_or pages i d).place) ≡ false) (place_at j d e second)
          (subst (λ place. is_lt (place_cmp (get_or sorted second.at e).0 place) ≡ false) (place_at i d e first)
          (sorted_far (λ (x y : PlaceData × ℕ). is_lt (place_cmp x.0 y.0)) (ranks_by place_cmp_total (λ (x : PlaceData × ℕ). x.0)) sorted rising first.at second.at e
          (earlier first.at second.at (get_or ranks i 0) (get_or ranks j 0) first.rank second.rank below) second.within));
    }
