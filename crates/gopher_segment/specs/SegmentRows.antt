-- The rows of a segment, which say the same as its pages.
use Rattle.std.specs.Prelude.{ℕ, ◌+◌, ◌≤◌, ◌≡◌, false, List, [], ◌∷◌, length}
use Rattle.std.specs.List.{sum_by, AllByRecursion, AllZip}
use Rattle.gopher_text.specs.declared.reply_reader.TheConstants.{MAX_REPLY}
use Rattle.gopher_page.specs.Page.{PageData}
use Rattle.gopher_segment.specs.Large.{large_from, table_pages}
use Rattle.gopher_segment.specs.Postings.{run_of}
use Rattle.gopher_segment.specs.Rows.{WordRow, AreRowsInOrder, postings_of}
use Rattle.gopher_segment.specs.Segment.{SegmentData, meant_counts}

-- no page has more than `MAX_REPLY` words
abbrev pub AreSmall : List PageData → Type 0
AreSmall pages =
    AllByRecursion (λ page. sum_by (λ entry. entry.1) page.counts ≤ MAX_REPLY) pages

-- for each word, rows have its postings in the pages, in order
abbrev pub Tell : ℕ → List PageData → List WordRow → Type 0
Tell first pages rows =
    (word : List ℕ) → postings_of word rows ≡ run_of first (meant_counts false word pages)

-- the rows of these pages, in order
pub record AreRowsOf (first : ℕ) (pages : List PageData) (rows : List WordRow) : Type 0 where
  pub order : AreRowsInOrder rows
  pub tell : Tell first pages rows

-- the rows of a segment of these pages, and the indices of its large pages, whose words the rows
-- leave out
pub record IsSegment (first : ℕ) (pages : List PageData) (rows : List WordRow)
    (large : List ℕ) : Type 0 where
  pub table : AreRowsOf first (table_pages pages) rows
  pub small : AreSmall pages
  pub large_is : large ≡ large_from 0 pages

-- each segment begins where the one before it ends, and the first at a number
abbrev pub AreConsecutive : ℕ → List SegmentData → Type 0
AreConsecutive first [] = Unit {0}
AreConsecutive first (segment ∷ segments) =
    (segment.first ≡ first) × AreConsecutive (first + length segment.pages) segments

-- tables, each of the rows of a segment, which leave out large pages
abbrev pub AreSegmentTables : List SegmentData → List (List WordRow) → Type 0
AreSegmentTables segments tables =
    AllZip (λ segment rows. AreRowsOf segment.first (table_pages segment.pages) rows) segments
    tables
