-- What a worker merges while it holds no lock.
use Rattle.std.specs.Prelude.{◌≡◌}
use Rattle.logbook.specs.Pages.{Book}
use Rattle.gopher_segment.specs.Segment.{SegmentData}
use Rattle.gopher_index.specs.Index.{IsSliceOf}
use Rattle.gopher_catalogue.specs.Pages.{pages_found}
use Rattle.gopher_crew.specs.History.{RecordPrefixData}

-- the pages occur among those that a record found, which is a prefix of this history
pub record IsMergeJob (history : Book) (prefix : RecordPrefixData) (run : SegmentData)
    : Type 0 where
  pub history_is : prefix.history ≡ history
  pub stands : IsSliceOf run (pages_found prefix.events)
