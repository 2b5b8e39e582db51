use Rattle.std.proofs.Common.{◌≡◌, ◌++◌, length}
use Rattle.gopher_item.specs.Menu.{fields_of}
use Rattle.gopher_script.specs.Command.{bytes_of}
use Rattle.gopher_script.proofs.reading.fields_of.Given as goal

abbrev pub invariant-loop-field : goal.invariant-loop-field
invariant-loop-field l = bytes_of l.fields.items ++ fields_of l.rest ≡ fields_of l.line

abbrev pub decreases-loop-field : goal.decreases-loop-field
decreases-loop-field l = length l.rest
