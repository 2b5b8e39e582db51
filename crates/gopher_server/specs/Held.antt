-- The connections that a server thread holds, and what each is doing.
use Rattle.std.specs.Prelude.{◌≡◌, ℕ, ◌+◌, ◌-◌, ◌^◌, ◌≤◌, ◌==◌, length, take, min, nat_eq, nat_le, Bool, false, not, ◌&&◌, if◌then◌else◌, List, [], ◌∷◌, ◌++◌, Option, None, Some}
use Rattle.std.specs.Borrow.{Fml, LendsIf, MutBor, RattleType}
use Rattle.std.specs.List.{filter, list_any}
use Rattle.std.specs.Option.{is_some, option_map, option_map_or, option_or}
use Rattle.std.specs.Map.{keys_of, lookup, remove_entry, set_value}
use Rattle.lru.specs.LruCache.{LruCache, last_entry, lru_cache, promoted, put_entries}
use Rattle.gopher_server.specs.declared.decisions.held.Held.{Held}
use Rattle.gopher_server.specs.contracts.decisions.held.Held.{the_row}
use Rattle.gopher_server.specs.declared.decisions.next.Next.{Next}
use Rattle.gopher_server.specs.declared.decisions.next.Next.TheVariants.{GoesOn, Searches, Lingers, Breaks}

abbrev pub foremost : {X : Type 0} → List X → Option X
foremost [] = None
foremost (x ∷ xs) = Some x

-- the keys without this one
abbrev pub without_key : ℕ → List ℕ → List ℕ
without_key key keys = filter (λ other. not (other == key)) keys

-- whether a key is among these
abbrev pub has_key : ℕ → List ℕ → Bool
has_key key keys = list_any (λ other. other == key) keys

-- whether other keys are before this one
abbrev pub is_behind : ℕ → List ℕ → Bool
is_behind key [] = false
is_behind key (first ∷ keys) = not (first == key)

-- how many times a key is among these
abbrev pub occurs : ℕ → List ℕ → ℕ
occurs key keys = length (filter (λ other. other == key) keys)

-- the keys of the connections whose replies searches make, in the order of their turns
abbrev pub queue : {T : Type 0} → Held T → List ℕ
queue held = held.searching.items

-- the keys of the connections that have a larger queue
abbrev pub large_of : {T : Type 0} → Held T → List ℕ
large_of held = held.large.items

-- the deadlines of those that linger: pairs of a key and a time, the earliest last
abbrev pub deadlines : {T : Type 0} → Held T → List (ℕ × ℕ)
deadlines held = held.deadlines.entries

-- whether the connection at a key lingers: it has a deadline
abbrev pub lingers : {T : Type 0} → Held T → ℕ → Bool
lingers held key = is_some (lookup (nat_eq key) (deadlines held))

-- the earliest deadline, if there is one
abbrev pub first_deadline : {T : Type 0} → Held T → Option ℕ
first_deadline held = option_map (λ pair. pair.1) (last_entry (deadlines held))

-- all connections in their order, the most recently used first
abbrev pub held_entries : {T : Type 0} → Held T → List (ℕ × T)
held_entries held = held.connections.entries

-- those that have asked nothing yet, the most recently used first: pairs of a key and an empty
-- value
abbrev pub silent : {T : Type 0} → Held T → List (ℕ × Unit {0})
silent held = held.silent.entries

-- with the one at a key as the first of those that have asked nothing, if it is held
abbrev pub silent_with : {T : Type 0} → Held T → ℕ → LruCache ℕ (Unit {0})
silent_with held key =
    if is_some (lookup (nat_eq key) (held_entries held))
    then lru_cache (put_entries nat_eq held.silent key tt) held.silent.cap
    else held.silent

-- the key of the one that was used least recently
abbrev pub used_last : {X : Type 0} → List (ℕ × X) → Option ℕ
used_last entries = option_map (λ pair. pair.0) (last_entry entries)

-- the connection that is closed if room is needed: the one that was used least recently, of those
-- that have asked nothing if there are any
abbrev pub victim : {T : Type 0} → Held T → Option ℕ
victim held = option_or (used_last (silent held)) (used_last (held_entries held))

-- the connection at a key, if there is one
abbrev pub connection : {T : Type 0} → Held T → ℕ → Option T
connection held key = lookup (nat_eq key) (held_entries held)

-- each of these keys is among them once, and has a connection
abbrev pub AreHeldOnce : {T : Type 0} → List ℕ → List (ℕ × T) → Type 0
AreHeldOnce keys held =
    (key : ℕ) → occurs key keys ≤ (if is_some (lookup (nat_eq key) held) then 1 else 0)

-- those that search, have a larger queue or linger are connections that are held, each once
abbrev pub IsSound : {T : Type 0} → Held T → Type 0
IsSound held =
    AreHeldOnce (queue held) (held_entries held)
    × AreHeldOnce (large_of held) (held_entries held)
    × AreHeldOnce (keys_of (deadlines held)) (held_entries held)

-- these keys, and once that of a connection that is held
abbrev pub added : {T : Type 0} → List (ℕ × T) → ℕ → List ℕ → List ℕ
added held key keys =
    if is_some (lookup (nat_eq key) held) && not (has_key key keys) then keys ++ key ∷ [] else keys

-- the queue of searches, with this key once if its connection is held
abbrev pub queued : {T : Type 0} → Held T → ℕ → List ℕ
queued held key = added (held_entries held) key (queue held)

-- the keys of those that have a larger queue, with this one once if its connection is held
abbrev pub enlarged : {T : Type 0} → Held T → ℕ → List ℕ
enlarged held key = added (held_entries held) key (large_of held)

-- a search that goes on keeps its turn; another leaves the queue
abbrev pub queue_after : Bool → ℕ → List ℕ → List ℕ
queue_after goes_on key keys = if goes_on then keys else without_key key keys

-- the connections with these entries in place of their own; there may be as many as before
abbrev pub with_entries : {T : Type 0} → Held T → List (ℕ × T) → LruCache ℕ T
with_entries held entries = lru_cache entries held.connections.cap

-- the connections with the one at a key first, if there is one
abbrev pub with_first : {T : Type 0} → Held T → ℕ → LruCache ℕ T
with_first held key = with_entries held (promoted (nat_eq key) (held_entries held))

-- the connections without the one at a key
abbrev pub without : {T : Type 0} → Held T → ℕ → LruCache ℕ T
without held key = with_entries held (remove_entry (nat_eq key) (held_entries held))

-- a connection was taken in at the next key, and is the most recently used
abbrev pub PutsHeld : {T : Type 0} → Held T → Held T → T → Type 0
PutsHeld old new taken =
    new.connections ≡ with_entries old (put_entries nat_eq old.connections old.next_key taken)

-- the deadlines with one 16 s after `now` for a connection that is held and has none yet
abbrev pub lingering : {T : Type 0} → Held T → ℕ → ℕ → LruCache ℕ ℕ
lingering held key now =
    let time = min (now + 16_000) (2 ^ 64 - 1) in
    if is_some (connection held key) && not (lingers held key)
    then lru_cache (put_entries nat_eq held.deadlines key time) held.deadlines.cap
    else held.deadlines

-- after an event a connection that is held goes on, or lingers on; while a search makes its reply
-- it waits for its turn, or is closed if its client is gone
abbrev pub next_at : {T : Type 0} → Held T → ℕ → Bool → Option Next
next_at held key is_gone =
    if not (is_some (connection held key)) then None
    else (if has_key key (queue held) then Some (if is_gone then Breaks else Searches)
    else Some (if lingers held key then Lingers else GoesOn))

-- the key of the earliest deadline, if that isn't after `now`, and the other deadlines
abbrev pub due_at : ℕ → List (ℕ × ℕ) → Option ℕ × List (ℕ × ℕ)
due_at now pairs =
    option_map_or (λ pair.
    if nat_le pair.1 now then (Some pair.0, take (length pairs - 1) pairs) else (None, pairs))
    (last_entry pairs) (None, pairs)

-- all connections in their states, with this one in place of the one at a key
abbrev pub with_written : {T : Type 0} → Held T → ℕ → T → Held T
with_written all key written =
    let entries = set_value (nat_eq key) (held_entries all) written
    in record all { connections = lru_cache entries all.connections.cap }

-- when the borrow of the connection at a key ends, that key has what was written last, and all else
-- is unchanged; if the key has no connection, nothing changes
abbrev pub LendsHeld : (T : RattleType) → MutBor (Held T.Denot) → ℕ
    → Option (MutBor T.Denot) → Fml
LendsHeld T all key result =
    LendsIf (the_row T) T all result (with_written all.now key) all.now
