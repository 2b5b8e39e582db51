use Rattle.std.proofs.Common.{◌≡◌, ◌++◌, take, map}
use Rattle.gopher_hole.specs.Listing.{title_byte}
use Rattle.gopher_hole.proofs.progress.listing.push_title.Given as goal

abbrev pub invariant-loop-byte : goal.invariant-loop-byte
invariant-loop-byte l =
    l.line.items ≡ l.initial.line.items ++ map title_byte (take l.byte-index l.title)
