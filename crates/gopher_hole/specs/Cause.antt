-- What stopped a fetch, and the words for it.
use Rattle.std.specs.Prelude.{ℕ, ℤ, List, [], codes, Option, None, Some}
use Rattle.std.specs.declared.io.ErrorKind.{ErrorKind}
use Rattle.std.specs.declared.io.ErrorKind.TheVariants as kind
use Rattle.gopher_hole.specs.declared.fetching.cause.Cause.{Cause}
use Rattle.gopher_hole.specs.declared.fetching.cause.Cause.TheVariants as cause

-- the cause of an error of the system, by its number, if it has one
abbrev pub system_cause : Option ℤ → Cause
system_cause None = cause.Unknown
system_cause (Some code) = cause.System code

-- the cause that an error means, by its kind and by the system's number for it
abbrev pub cause_of_kind : ErrorKind → Option ℤ → Cause
cause_of_kind kind.TimedOut code = cause.TimedOut
cause_of_kind kind.WouldBlock code = cause.TimedOut
cause_of_kind kind.ConnectionRefused code = cause.Refused
cause_of_kind kind.ConnectionReset code = cause.Reset
cause_of_kind kind.BrokenPipe code = cause.ClosedEarly
cause_of_kind kind.WriteZero code = cause.ClosedEarly
cause_of_kind _ code = system_cause code

-- the words for a cause; none for one of which nothing is known, or for which the system has words
abbrev pub cause_words : Cause → List ℕ
cause_words cause.TimedOut = codes "timed out"
cause_words cause.NoSuchHost = codes "no such host"
cause_words cause.Refused = codes "connection refused"
cause_words cause.Reset = codes "connection reset"
cause_words cause.ClosedEarly = codes "closed early"
cause_words cause.GivenUp = codes "host given up"
cause_words cause.Unknown = []
cause_words (cause.System code) = []
