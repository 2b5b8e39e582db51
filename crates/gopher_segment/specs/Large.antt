-- Large pages: a segment's table leaves out their words.
use Rattle.std.specs.Prelude.{◌≡◌, ℕ, ◌+◌, Bool, List, [], ◌∷◌, map, slice_index_or, slice_set, if◌then◌else◌}
use Rattle.gopher_page.specs.Page.{PageData, is_large, page_with}
use Rattle.gopher_segment.specs.Rows.{WordRow, page_rows}
use Rattle.gopher_segment.specs.Segment.{meant_counts}

-- a page as the table of its segment has it: without its words if it is large
abbrev pub in_table : PageData → PageData
in_table page = if is_large page then page_with page.place page.title page.links [] else page

abbrev pub table_pages : List PageData → List PageData
table_pages pages = map in_table pages

-- the rows of a page in the table of its segment
abbrev pub table_rows : ℕ → PageData → List WordRow
table_rows number page = page_rows number (in_table page).counts

-- the indices of the large pages, if the first page has the index `index`
abbrev pub large_from : ℕ → List PageData → List ℕ
large_from index [] = []
large_from index (page ∷ pages) =
    if is_large page then index ∷ large_from (index + 1) pages else large_from (index + 1) pages

-- the count of the page at an index was written in its cell
abbrev pub WritesCount : Bool → List ℕ → List PageData → ℕ → List ℕ → List ℕ → Type 0
WritesCount is_prefix sought pages at old new =
    new ≡ slice_set old at (slice_index_or (meant_counts is_prefix sought pages) at 0)
