-- Pages in segments.
use Rattle.std.specs.Prelude.{ℕ, Bool, ◌&&◌, not, nat_lt, List, map, length}
use Rattle.std.specs.List.{flat_map, sum_by}
use Rattle.gopher_page.specs.Counts.{count_meant}
use Rattle.gopher_page.specs.Page.{PageData}

-- consecutive pages, and the number of the first
pub record SegmentData : Type 0 where
  pub first : ℕ
  pub pages : List PageData

-- the pages of segments, one segment after another
abbrev pub pages_of : List SegmentData → List PageData
pages_of segments = flat_map (λ segment. segment.pages) segments

-- the number of occurrences in each page of the sought word, or of all words that begin with it
abbrev pub meant_counts : Bool → List ℕ → List PageData → List ℕ
meant_counts is_prefix sought pages = map (λ page. count_meant is_prefix sought page.counts) pages

-- the sum of the numbers of distinct words of each page
abbrev pub words_count : List PageData → ℕ
words_count pages = sum_by (λ page. length page.counts) pages

-- whether a segment can have this many pages, bytes of words, and postings
abbrev pub segment_fits : ℕ → ℕ → ℕ → Bool
segment_fits pages bytes postings =
    not (nat_lt 16384 pages) && not (nat_lt 4294967295 bytes) && not (nat_lt 8388608 postings)
