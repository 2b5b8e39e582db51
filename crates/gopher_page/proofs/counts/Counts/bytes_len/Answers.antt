use Rattle.std.proofs.Common.{◌≡◌, ℕ, List, length, map, sym, ap, ◌∙◌}
use Rattle.std.specs.List.{sum, sum_by, zip}
use Rattle.std.proofs.lemmas.List.Sums.{sum-map}
use Rattle.std.proofs.lemmas.Simd.{map-map}
use Rattle.gopher_bytes.proofs.Zips.{firsts}
use Rattle.gopher_page.specs.Page.{words_bytes}
use Rattle.gopher_page.proofs.counts.Counts.bytes_len.Goals as goal

words_bytes-zip : (words : List (List ℕ)) (counts : List ℕ) → length counts ≡ length words → words_bytes (zip words counts) ≡ sum_by length words
words_bytes-zip words counts same =
    sym (sum-map (λ (entry : List ℕ × ℕ). length entry.0) (zip words counts))
    ∙ ap sum (sym (map-map length (λ (entry : List ℕ × ℕ). entry.0) (zip words counts)) ∙ ap (map length) (firsts words counts same))
    ∙ sum-map length words

pub returns : goal.returns
returns c = c.bytes_len.ensures ∙ sym (words_bytes-zip c.self.inside.words c.self.inside.counts c.self.invariant.same) ∙ ap words_bytes c.self.view_is
