-- Occurrences, page by page.
use Rattle.std.proofs.Common.{◌≡◌, ℕ, false, cond, List, [], ◌∷◌, ◌++◌, refl, sym, ap, ◌∙◌}
use Rattle.std.specs.Prelude.{nat_lt}
use Rattle.std.proofs.lemmas.List.{append-nil, append_assoc}
use Rattle.std.proofs.lemmas.List.Concat.{flat_map-append}
use Rattle.gopher_item.specs.Place.{PlaceData}
use Rattle.gopher_page.specs.Counts.{count_meant}
use Rattle.gopher_page.specs.Page.{PageData}
use Rattle.gopher_index.specs.Answer.{occurrence_of, occurring}

module _ (word : List ℕ) where
  pub found_none : occurring word [] ≡ []
  unfolding occurring
  found_none = refl

  pub found_both : (first second : List PageData) → occurring word (first ++ second) ≡ occurring word first ++ occurring word second
  unfolding occurring
  found_both first second = flat_map-append (occurrence_of word) first second

  pub found_one : (page : PageData) → occurring word (page ∷ []) ≡ occurrence_of word page
  unfolding occurring
  found_one page = append-nil (occurrence_of word page)

  -- what is found when more pages are gone through
  pub found_more : (start now new : List (PlaceData × ℕ)) (done more : List PageData) → now ≡ start ++ occurring word done → new ≡ now ++ occurring word more → new ≡ start ++ occurring word (done ++ more)
  found_more start now new done more so_far last =
      last ∙ ap (λ l. l ++ occurring word more) so_far ∙ append_assoc start (occurring word done) (occurring word more) ∙ ap (λ l. start ++ l) (sym (found_both done more))

  pub found_so_far : (start : List (PlaceData × ℕ)) → start ≡ start ++ occurring word []
  found_so_far start = sym (append-nil start) ∙ ap (λ l. start ++ l) (sym found_none)

  -- one page more, with how often the word stands in it
  pub found_page : (start now new : List (PlaceData × ℕ)) (done : List PageData) (page read : PageData) (count : ℕ) → read ≡ page → count ≡ count_meant false word page.counts → now ≡ start ++ occurring word done
      → new ≡ now ++ cond (nat_lt 0 count) ((read.place, count) ∷ []) [] → new ≡ start ++ occurring word (done ++ page ∷ [])
  found_page start now new done page read count same counted so_far pushed =
      found_more start now new done (page ∷ []) so_far (pushed ∙ (λ i. now ++ cond (nat_lt 0 (counted i)) (((same i).place, counted i) ∷ []) []) ∙ ap (λ l. now ++ l) (sym (found_one page)))
