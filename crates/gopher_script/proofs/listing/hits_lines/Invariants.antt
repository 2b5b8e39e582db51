use Rattle.std.proofs.Common.{◌≡◌, ◌++◌, ◌∷◌, [], length, take}
use Rattle.std.specs.Prelude.{codes}
use Rattle.std.specs.Fmt.{decimal}
use Rattle.std.specs.List.{flat_map}
use Rattle.gopher_script.specs.Answer.{hit_row}
use Rattle.gopher_script.proofs.listing.hits_lines.Given as goal

abbrev pub invariant-loop-hit : goal.invariant-loop-hit
invariant-loop-hit l = l.lines.items ≡ codes "hits " ++ decimal (length l.hits) ++ 10 ∷ [] ++ flat_map hit_row (take l.hit-index l.hits)
