-- A page that was found, or a segment.
use Rattle.std.specs.Prelude.{ℕ, ◌≡◌, ◌<◌, [], ◌∷◌}
use Rattle.std.specs.Arc.{arc_value}
use Rattle.gopher_segment.specs.Segment.{SegmentData}
use Rattle.gopher_index.specs.declared.part.Held.{Held}
use Rattle.gopher_index.specs.declared.part.Held.TheVariants.{Page, Segment}

-- the pages of a part, and the number of the first
abbrev pub part_data : ℕ → Held → SegmentData
part_data first (Page page) = record { first = first; pages = arc_value page ∷ [] }
part_data first (Segment segment) = arc_value segment

-- the first page of the part has this number, which is below 65,536 if it is a page that was found
abbrev pub IsPart : ℕ → Held → Type 0
IsPart first (Page page) = first < 65536
IsPart first (Segment segment) = (arc_value segment).first ≡ first
