use Rattle.std.proofs.Common.{◌≡◌, min, map, take}
use Rattle.std.specs.Arc.{arc_value}
use Rattle.gopher_segment.specs.Large.{table_pages}
use Rattle.gopher_segment.specs.Segment.{words_count}
use Rattle.gopher_segment.proofs.gathering.rows_len.Given as goal

abbrev pub invariant-loop-page : goal.invariant-loop-page
invariant-loop-page l = l.rows ≡ min (words_count (table_pages (map arc_value (take l.page-index l.pages)))) 18446744073709551615
