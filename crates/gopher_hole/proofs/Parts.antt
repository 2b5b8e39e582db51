-- The shares of a crew, through its crawl.
use Rattle.std.proofs.Common.{◌≡◌, ℕ, ◌+◌, ◌<◌, List, [], ◌∷◌, ◌++◌, length, map, sym, ap, subst, arith, rules, ◌∙◌, append_assoc}
use Rattle.std.specs.List.{sum_by}
use Rattle.std.proofs.lemmas.List.{length-map, map-append}
use Rattle.std.proofs.lemmas.List.Folds.{fold-map}
use Rattle.gopher_crew.specs.Desk.{HasAll, parts_of}
use Rattle.gopher_crew.specs.Share.{ShareData}
use Rattle.gopher_crew.specs.Work.{HaveAsManyParts}
use Rattle.gopher_crew.specs.declared.working.WorkEnd.{WorkEnd}
use Rattle.gopher_hole.specs.Shares.{KeepsAllParts, shares_after, shares_with}

parts_map : {X : Type 0} (share_of : X → ShareData) (xs : List X) → parts_of (map share_of xs) ≡ sum_by (λ x. (share_of x).parts) xs
parts_map share_of xs = fold-map (λ n share. n + share.parts) share_of 0 xs

-- workers that are as many as their pairs, and have as many parts
pub keeps_all : {F C : Type 0} (pairs : List (F × ShareData)) (ends : List (WorkEnd F C)) → length ends ≡ length pairs → HaveAsManyParts pairs ends → KeepsAllParts pairs ends
keeps_all {F} {C} pairs ends many same parts all = record {
  some =
      let few : 0 < length pairs = subst (λ n. 0 < n) (length-map pairs (λ (pair : F × ShareData). pair.1)) all.some in
      subst (λ n. 0 < n) (sym (length-map ends (λ (end : WorkEnd F C). end.share))) (subst (λ n. 0 < n) (sym many) few);
  whole = parts_map (λ (end : WorkEnd F C). end.share) ends ∙ same ∙ sym (parts_map (λ (pair : F × ShareData). pair.1) pairs) ∙ all.whole;
}

-- one more share got its pair
pub one_more_pair : {F : Type 0} (pairs : List (F × ShareData)) (pair : F × ShareData) (before rest all : List ShareData)
    → before ≡ pair.1 ∷ rest → shares_with pairs ++ before ≡ all → shares_with (pairs ++ pair ∷ []) ++ rest ≡ all
one_more_pair {F} pairs pair before rest all step was =
    ap (λ (shares : List ShareData). shares ++ rest) (map-append (λ (it : F × ShareData). it.1) pairs (pair ∷ []))
    ∙ append_assoc (shares_with pairs) (pair.1 ∷ []) rest ∙ ap (λ (shares : List ShareData). shares_with pairs ++ shares) (sym step) ∙ was

-- one more worker gave its share
pub one_more_share : {F C : Type 0} (shares : List ShareData) (end : WorkEnd F C) (before rest : List (WorkEnd F C)) (all : List ShareData)
    → before ≡ end ∷ rest → shares ++ shares_after before ≡ all → (shares ++ end.share ∷ []) ++ shares_after rest ≡ all
one_more_share {F} {C} shares end before rest all step was =
    append_assoc shares (end.share ∷ []) (shares_after rest) ∙ ap (λ (ends : List (WorkEnd F C)). shares ++ shares_after ends) (sym step) ∙ was
