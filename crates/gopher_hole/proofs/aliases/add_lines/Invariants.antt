use Rattle.std.proofs.Common.{◌≡◌, ℕ, ◌+◌, ◌≤◌, List, length}
use Rattle.std.specs.List.{filter_map}
use Rattle.std.specs.Option.{option_or}
use Rattle.std.specs.Str.Lines.{lines}
use Rattle.gopher_hole.specs.Aliases.{alias_of, aliases_of, bad_alias, bad_alias_from, held_for, selector_for}
use Rattle.gopher_hole.proofs.aliases.add_lines.Given as goal

-- the lines before the rest aren't bad, and their aliases are in the map
abbrev pub invariant-loop-line : goal.invariant-loop-line
invariant-loop-line l = record {
  bad : bad_alias_from (l.number + 1) (lines l.rest) ≡ bad_alias l.text;
  few : l.number + length l.rest ≤ length l.text;
  held : (old : List ℕ) → option_or (held_for l.held old) (selector_for (filter_map alias_of (lines l.rest)) old) ≡ selector_for (aliases_of l.text) old;
}

abbrev pub decreases-loop-line : goal.decreases-loop-line
decreases-loop-line l = length l.rest
