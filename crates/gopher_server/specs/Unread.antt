-- The bytes of a request that are left in the system's queue until its reply is sent. A connection
-- that is closed over such bytes is reset, so that its client sees that the reply was cut.
use Rattle.std.specs.Prelude.{◌≡◌, ℕ, ◌-◌, ◌==◌, [], true, if◌then◌else◌}
use Rattle.std.specs.Option.{is_some}
use Rattle.gopher_serve.specs.Talk.{Talk, IsAnswering, asked_of, unsent_of}
use Rattle.gopher_server.specs.declared.connection.Connection.{Connection}
use Rattle.gopher_server.specs.declared.decisions.next.Next.{Next}
use Rattle.gopher_server.specs.declared.decisions.next.Next.TheVariants.{Lingers, Ends}

-- how many of these bytes are left after a read that took some of them, or that met the end
abbrev pub unread_after : ℕ → ℕ → ℕ
unread_after unread taken = if taken == 0 then 0 else unread - taken

-- what follows once the system has the whole reply of a connection: it ends, or lingers
abbrev pub IsHandedOver : Next → Type 0
IsHandedOver Ends = Unit {0}
IsHandedOver Lingers = Unit {0}
IsHandedOver next = ⊥

-- the unread bytes of a connection with which this is done next: none if the system has the whole
-- reply, and else as many as before
abbrev pub LeavesUnread : Next → ℕ → ℕ → Type 0
LeavesUnread Ends before after = after ≡ 0
LeavesUnread Lingers before after = after ≡ 0
LeavesUnread next before after = after ≡ before

-- the whole reply of a conversation was sent
abbrev pub SaysAll : Talk → Type 0
SaysAll talk = IsAnswering talk × (unsent_of talk ≡ [])

-- the system has the whole reply of a connection, and nothing more of its request
abbrev pub IsWhole : Connection → Type 0
IsWhole connection = SaysAll connection.conversation × (connection.unread ≡ 0)

-- a connection whose line is known leaves its request unread until the system has the whole reply:
-- the connection before and after, and what is done next with it
abbrev pub CutsVisibly : Connection → Connection → Next → Type 0
CutsVisibly old new next =
    is_some (asked_of old.conversation) ≡ true → LeavesUnread next old.unread new.unread
