use Rattle.std.proofs.Common.{◌≡◌, ℕ, List, [], Option, None, true, false, ◌+◌, ◌<◌, length, get_or, sym, ap, subst, ◌∙◌, arith}
use Rattle.std.specs.Option.{option_copied}
use Rattle.gopher_segment.specs.Rows.{first_word, is_lower, NoneLower}
use Rattle.gopher_segment.proofs.MergeLemmas.{nothing_left}
use Rattle.gopher_segment.proofs.NumberLemmas.{IsFirstAt, none_below, first_below, none_beside}
use Rattle.gopher_segment.proofs.merging.lowest_word.Goals as goal
use Rattle.gopher_segment.proofs.merging.lowest_word.Goals.{then-is_lower, else-is_lower}

pub loop-index-preserved : goal.loop-index-preserved
loop-index-preserved c =
    let tables : List (List (List ℕ × List (ℕ × ℕ))) = c.args.cursors.now in
    let rows : List (List ℕ × List (ℕ × ℕ)) = c.index-cursors-index.result in
    let next : ℕ = c.loop-index.index + 1 in
    let low : Option (List ℕ) = option_copied c.loop-index.lowest in
    let within : c.loop-index.index < length tables = c.loop-index-test.true in
    elim c.if-is_lower.branch [
      | then-is_lower w ↦
          let less : is_lower (first_word rows) low ≡ true = ap (λ o. is_lower o low) (sym c.word-word.ensures) ∙ sym c.is_lower.ensures ∙ w.if-is_lower.true in
          let is : first_word rows ≡ option_copied c.if-is_lower.lowest = sym (ap option_copied w.lowest-is ∙ c.word-word.ensures) in
          record {
            none = subst (λ o. NoneLower o next tables) is (none_below low tables rows c.loop-index.index within c.index-cursors-index.is less c.loop-index.invariant.none);
            here = subst (λ n. IsFirstAt (option_copied c.if-is_lower.lowest) n tables) (sym w.first-is)
                (subst (λ o. IsFirstAt o c.loop-index.index tables) is (first_below low tables rows c.loop-index.index within c.index-cursors-index.is less c.loop-index.invariant.none));
          }
      | else-is_lower w ↦
          let from : is_lower (first_word rows) low ≡ false = ap (λ o. is_lower o low) (sym c.word-word.ensures) ∙ sym c.is_lower.ensures ∙ w.if-is_lower.false in
          let is : low ≡ option_copied c.if-is_lower.lowest = sym (ap option_copied w.lowest-is) in
          record {
            none = subst (λ o. NoneLower o next tables) is (none_beside low tables rows c.loop-index.index within c.index-cursors-index.is from c.loop-index.invariant.none);
            here = subst (λ n. IsFirstAt (option_copied c.if-is_lower.lowest) n tables) (sym w.first-is) (subst (λ o. IsFirstAt o c.loop-index.first tables) is c.loop-index.invariant.here);
          }
    ]

pub returns-in-None-clause-none : goal.returns-in-None-clause-none
returns-in-None-clause-none c = λ is.
    let tables : List (List (List ℕ × List (ℕ × ℕ))) = c.args.cursors.now in
    let none : NoneLower None (length tables) tables =
    λ k below. subst (λ low. is_lower (first_word (get_or tables k [])) (option_copied low) ≡ false) c.in-None.is (c.loop-index.invariant.none k (omega (arith, below)))
    in
    nothing_left tables none
