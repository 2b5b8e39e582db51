-- How long the thread that writes rests while its file takes nothing.
use Rattle.std.specs.Prelude.{◌+◌, ◌*◌, ◌&&◌, ◌==◌, nat_le, Bool, min, if◌then◌else◌}
use Rattle.gopher_server.specs.declared.logging.rests.Rests.{Rests}

-- whether the next rest is a longest one, of 100 ms, with no batch to come
abbrev pub is_last : Bool → Rests → Bool
is_last is_closed rests = is_closed && (rests.next == 100)

-- whether the file took nothing after 10 of these
abbrev pub gives_up : Bool → Rests → Bool
gives_up is_closed rests = is_last is_closed rests && nat_le 10 rests.tries

-- each rest is twice as long as the one before, and at most 100 ms
abbrev pub rested : Bool → Rests → Rests
rested is_closed rests =
    if gives_up is_closed rests then rests
    else record {
      next = min (rests.next * 2) 100;
      tries = if is_last is_closed rests then rests.tries + 1 else rests.tries;
    }
