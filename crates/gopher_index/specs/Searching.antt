-- The state of a search that is done in steps.
use Rattle.std.specs.Prelude.{ℕ, ◌≡◌, ◌<◌, ◌≤◌, ◌+◌, ◌-◌, ◌*◌, List, ◌++◌, length, map, take, slice_index_or, Result, IfOk}
use Rattle.std.specs.Global.{Vec}
use Rattle.gopher_page.specs.Page.{PageData}
use Rattle.gopher_page.specs.Query.{TermData, IsQuery}
use Rattle.gopher_index.specs.Answer.{SearchData, answer_of}
use Rattle.gopher_index.specs.Best.{answer_from, kept_hit}
use Rattle.gopher_index.specs.Plan.{AreCells, IsPlan, is_match}
use Rattle.gopher_index.specs.Joined.{AreBegun}
use Rattle.gopher_index.specs.declared.best.Kept.{Kept}
use Rattle.gopher_index.specs.declared.joined.Joined.{Joined}
use Rattle.gopher_index.specs.declared.searching.Search.TheInside.{Inside}
use Rattle.gopher_segment.specs.Segment.{SegmentData, pages_of}
use Rattle.gopher_index.specs.declared.searching.Begun.{Begun}
use Rattle.gopher_index.specs.declared.searching.Begun.TheVariants.{Found, Searching}
use Rattle.gopher_index.specs.declared.hit.Hit.{Hit}

-- the most steps that are left: one for each term in each part, one for the pages of each part, and
-- one that groups the terms
abbrev pub steps_left : Inside → ℕ
steps_left search =
    ((length search.parts.items - search.done) * (length search.terms.items + 1)
    - search.joined.groups)
    + (1 - length search.groups.items)

-- a search as contracts see it: its hits are the answer over its pages
abbrev pub search_data : Inside → SearchData
search_data search = record {
  hits = answer_of (pages_of search.parts.items) search.terms.items;
  left = steps_left search;
}

-- the kept hits are the answer over the pages that were searched, and the cells are those of the
-- current part by the groups that were joined
pub record IsSearching (search : Inside) : Type 0 where
  pub query : IsQuery search.terms.items
  pub plan : 0 < length search.groups.items → IsPlan search.terms.items search.groups.items
  pub within : search.done ≤ length search.parts.items
  pub groups_within : search.joined.groups ≤ length search.groups.items
  pub at_rest : search.done ≡ length search.parts.items → search.joined.groups ≡ 0
  pub under_way : (part : SegmentData)
      → part ≡ slice_index_or search.parts.items search.done part
      → AreBegun search.groups.items part.pages search.joined
  pub best : map kept_hit search.kept.items
      ≡ answer_from 0 (pages_of (take search.done search.parts.items)) search.terms.items

-- if `old` has the best of some pages, `new` has the best of these pages followed by `pages`
abbrev pub AddsPages : List TermData → List PageData → List Kept → List Kept → Type 0
AddsPages terms pages old new =
    (before : List PageData) → map kept_hit old ≡ answer_from 0 before terms
    → map kept_hit new ≡ answer_from 0 (before ++ pages) terms

-- if the cells are those of the pages for some terms, the pages are added to the best so far,
-- unless it fails
abbrev pub AddsCells : {E : Type 0} → List PageData → Joined → List Kept → Result (Vec Kept) E
    → Type 0
AddsCells pages joined old result =
    (terms : List TermData)
    → AreCells terms pages (map is_match joined.verdicts.items) joined.scores.items
    → IfOk result (λ new. AddsPages terms pages old new.items)

-- the hits of a short search, or those that a search in steps will find
abbrev pub begun_hits : Begun → List Hit
begun_hits (Found hits) = hits.items
begun_hits (Searching search) = search.hits
