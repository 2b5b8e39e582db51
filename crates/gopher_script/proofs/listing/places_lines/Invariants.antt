use Rattle.std.proofs.Common.{◌≡◌, ◌++◌, ◌∷◌, [], length, take}
use Rattle.std.specs.Prelude.{codes}
use Rattle.std.specs.Fmt.{decimal}
use Rattle.std.specs.List.{flat_map}
use Rattle.gopher_script.specs.Answer.{at_line}
use Rattle.gopher_script.proofs.listing.places_lines.Given as goal

abbrev pub invariant-loop-occurrence : goal.invariant-loop-occurrence
invariant-loop-occurrence l = l.lines.items ≡ codes "places " ++ decimal (length l.list) ++ 10 ∷ [] ++ flat_map at_line (take l.occurrence-index l.list)
