-- How many connections a server may hold, and how many it still accepts.
use Rattle.std.specs.Prelude.{ℕ, ◌+◌, ◌*◌, ◌-◌, ◌/◌, Bool, true, nat_lt, min, max, if◌then◌else◌, Option, None, Some}
use Rattle.std.specs.Option.{unwrap_or}

-- how many files a server opens beside its connections: its listeners, for each thread a poll, a
-- waker and one connection above the limit, for each worker a connection and the lookup of a host's
-- name, and 16 others; at least 64
abbrev pub other_files : ℕ → ℕ → ℕ → ℕ
other_files listeners threads workers = max (16 + listeners + 3 * threads + 2 * workers) 64

-- the most connections of a server whose process may open `files` files, with these numbers of
-- listeners, threads and workers; none if they don't suffice for a crawl of this very server, and
-- one client beside it
abbrev pub max_places : ℕ → ℕ → ℕ → ℕ → Option ℕ
max_places files listeners threads workers =
    let places = min (files - other_files listeners threads workers) 16_384 in
    if nat_lt workers places then Some places else None

-- the most connections of one network: as many as are asked for, or a quarter of all places, but at
-- least 1
abbrev pub max_of_network : ℕ → Option ℕ → ℕ
max_of_network places asked = max (unwrap_or asked (places / 4)) 1

-- the fair share of one of `threads` threads in `all` connections, at least 1
abbrev pub fair_share : ℕ → ℕ → ℕ
fair_share all threads = max (all / max threads 1) 1

-- whether one more connection may be accepted after `accepted` connections
abbrev pub may_accept : Option ℕ → ℕ → Bool
may_accept None accepted = true
may_accept (Some most) accepted = nat_lt accepted most
