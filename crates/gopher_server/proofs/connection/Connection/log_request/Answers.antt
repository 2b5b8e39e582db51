use Rattle.std.proofs.Common.{◌≡◌, ℕ, inl, List, Option, Some, sym, ap, ◌∙◌}
use Rattle.std.specs.Option.{option_map}
use Rattle.gopher_serve.specs.Talk.{Talk, asked_of, sent_of}
use Rattle.gopher_server.specs.ThreadLog.{AddsLine, LogsRequest, logged_request}
use Rattle.gopher_server.specs.declared.logging.thread_log.Accepted.{Accepted}
use Rattle.gopher_server.specs.declared.logging.thread_log.RequestEnd.{RequestEnd}
use Rattle.gopher_server.specs.declared.logging.thread_log.ThreadLog.{ThreadLog}
use Rattle.gopher_server.proofs.connection.Connection.log_request.Goals as goal

-- the line of a request that was asked was added
logs_line : (held : Option Accepted) (talk : Talk) (old new : ThreadLog) (accepted : Accepted) (asked : List ℕ) (sent : ℕ) (end : RequestEnd)
    → held ≡ Some accepted → asked_of talk ≡ Some asked → sent ≡ sent_of talk
    → AddsLine (logged_request accepted asked sent end) old new → LogsRequest held talk old new
logs_line held talk old new accepted asked sent end is asks counted adds = rw (is, asks) (inl (end, rw (sym counted) adds))

pub returns-in-Some-clause-logged : goal.returns-in-Some-clause-logged
returns-in-Some-clause-logged g c =
    logs_line c.args.self.now.accepted c.args.self.now.conversation c.args.log.now c.add.new.self c.in-Some-Some.accepted c.in-Some-Some.asked.now c.sent_len-sent.result c.in-Some.end
    (sym c.take.ensures.value ∙ c.in-Some-Some.is-0) (sym c.asked_line-asked.ensures ∙ ap (option_map (λ line. line.now)) c.in-Some-Some.is-1)
    c.sent_len-sent.ensures c.add.ensures.lines
