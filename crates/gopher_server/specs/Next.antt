-- What a server thread does next with a connection.
use Rattle.std.specs.Prelude.{Bool, if◌then◌else◌}
use Rattle.gopher_serve.specs.declared.advancing.Progress.{Progress}
use Rattle.gopher_serve.specs.declared.advancing.Progress.TheVariants as progress
use Rattle.gopher_server.specs.declared.decisions.next.Next.{Next}
use Rattle.gopher_server.specs.declared.decisions.next.Next.TheVariants.{GoesOn, Waits, Searches, Lingers, Ends, Breaks}

-- what follows a conversation's progress, by whether a connection lingers once its reply is sent
abbrev pub next_after : Progress → Bool → Next
next_after progress.Paused lingers = GoesOn
next_after progress.Waits lingers = Waits
next_after progress.Works lingers = Searches
next_after progress.Done lingers = if lingers then Lingers else Ends
next_after (progress.Failed why) lingers = Breaks
