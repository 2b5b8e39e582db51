-- What a step of a search does to the best so far.
use Rattle.std.proofs.Common.{◌≡◌, List, ◌++◌, map, ap, sym, ◌∙◌}
use Rattle.gopher_page.specs.Page.{PageData}
use Rattle.gopher_page.specs.Query.{TermData}
use Rattle.gopher_index.specs.Best.{BestData, answer_from, kept_hit, TakesIn}
use Rattle.gopher_index.specs.Searching.{AddsPages}
use Rattle.gopher_index.specs.declared.best.Kept.{Kept}

pub adds_pages : (terms : List TermData) (pages : List PageData) (kept taken : List Kept) (old new : BestData) → old.least ≡ 0 → old.hits ≡ map kept_hit kept → TakesIn terms pages old new → map kept_hit taken ≡ new.hits → AddsPages terms pages kept taken
adds_pages terms pages kept taken old new least hits takes is = λ before e.
    is ∙ takes.answers before (hits ∙ e ∙ ap (λ n. answer_from n before terms) (sym least)) ∙ ap (λ n. answer_from n (before ++ pages) terms) (takes.least ∙ least)
