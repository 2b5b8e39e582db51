use Rattle.std.proofs.Common.{ℕ, List, ◌∷◌, ◌+◌, drop, ap, sym, ◌∙◌}
use Rattle.std.proofs.lemmas.List.{drop_more}
use Rattle.std.proofs.lemmas.Option.{get_or_from_slice_get, slice_get_within}
use Rattle.gopher_page.proofs.counts.EachCountIterator.next.Goals as goal

pub returns-clause-steps : goal.returns-clause-steps
returns-clause-steps c =
    let words = c.self.inside.counts.now in
    let i = c.self.inside.next in
    let entry : List ℕ × ℕ = (c.get-count.result.0.now, c.get-count.result.1) in
    sym c.self.view_is ∙ drop_more words i entry (slice_get_within words i entry c.get-count.ensures)
    ∙ ap (λ first. first ∷ drop (i + 1) words) (get_or_from_slice_get words i entry entry c.get-count.ensures)
