-- What is printed when a crawl is over.
use Rattle.std.specs.Prelude.{ℕ, ◌-◌, Bool, ◌&&◌, ◌==◌, List, ◌++◌, codes, if◌then◌else◌}
use Rattle.std.specs.Fmt.{decimal}
use Rattle.gopher_catalogue.specs.declared.frontier.sizes.Status.{Status}
use Rattle.gopher_hole.specs.declared.progress.ending.CrawlEnd.{CrawlEnd}

-- every known place has its last outcome
abbrev pub is_over : Status → Bool
is_over status = (status.waiting == 0) && (status.out == 0)

-- the end of a crawl in which no place waits any more: a place that isn't found has failed
abbrev pub finished : CrawlEnd → List ℕ
finished end =
    codes "finished: " ++ decimal end.found ++ codes " found, "
    ++ decimal (end.status.done - end.found) ++ codes " failed, "
    ++ decimal end.status.dropped ++ codes " dropped in " ++ decimal end.seconds ++ codes " s"

-- the end of a crawl whose workers stopped before
abbrev pub cut_short : CrawlEnd → List ℕ
cut_short end =
    codes "ended: " ++ decimal end.status.waiting ++ codes " waiting, "
    ++ decimal end.status.out ++ codes " out: " ++ decimal end.stopped
    ++ codes " workers stopped, out of memory"

abbrev pub crawl_end : CrawlEnd → List ℕ
crawl_end end = if is_over end.status then finished end else cut_short end
