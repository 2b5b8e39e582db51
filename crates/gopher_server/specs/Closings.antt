-- How many connections were closed for room, and when that is told.
use Rattle.std.specs.Prelude.{◌≡◌, ℕ, ◌-◌, ◌&&◌, Bool, true, Option, None, Some, nat_le, nat_lt}
use Rattle.std.specs.Bool.{MatchBool}
use Rattle.std.specs.Option.{option_map_or}
use Rattle.gopher_server.specs.declared.decisions.closings.Closings.{Closings}

-- there are some that weren't told, and the last message is a minute ago or there was none
abbrev pub are_due : Closings → ℕ → Bool
are_due closings now =
    nat_lt 0 closings.untold && option_map_or (λ told. nat_le 60000 (now - told)) closings.told true

-- those that are due are told, and from then on none is untold; before, nothing changes
abbrev pub TakesDue : ℕ → Closings → Option ℕ → Closings → Type 0
TakesDue now before count after =
    MatchBool (are_due before now)
    ((count ≡ Some before.untold) × (after ≡ record { untold = 0; told = Some now }))
    ((count ≡ None) × (after ≡ before))
