-- The networks that clients come from, and how many connections the server holds of each.
use Rattle.std.specs.Prelude.{◌≡◌, ℕ, ◌+◌, ◌*◌, ◌-◌, ◌==◌, Bool, true, false, ◌&&◌, nat_lt, if◌then◌else◌, List, take, drop, slice_index, Result, Ok, Err}
use Rattle.std.specs.List.{fold, list_all}
use Rattle.std.specs.Map.{count_at}
use Rattle.std.specs.Ordering.{nat_cmp}
use Rattle.std.specs.BTreeMap.{get}
use Rattle.std.specs.Net.Addr.{ipv4_octets, ipv6_segments}
use Rattle.std.specs.declared.net.ip_addr.IpAddr.{IpAddr}
use Rattle.std.specs.declared.net.ip_addr.IpAddr.TheVariants.{V4, V6}
use Rattle.gopher_server.specs.declared.decisions.clients.Clients.{Clients}

-- the number with these digits, the highest first
abbrev pub number_with : ℕ → List ℕ → ℕ
number_with base digits = fold (λ number digit. number * base + digit) 0 digits

-- whether segments are those of ::ffff:a.b.c.d, which is an IPv4 address
abbrev pub is_mapped : List ℕ → Bool
is_mapped segments =
    list_all (λ segment. segment == 0) (take 5 segments) && (slice_index segments 5 == 65_535)

-- the number of the network of an IPv6 address with these segments
abbrev pub network_by : List ℕ → ℕ
network_by segments =
    if is_mapped segments then number_with 65_536 (drop 6 segments)
    else number_with 65_536 (take 4 segments)

-- the number of a network: the 32 bits of an IPv4 address, also of one that an IPv6 address maps,
-- or the first 64 bits of another IPv6 address, of which a client has as many as it likes. Those
-- below 2^32 are of no client (RFC 4291, section 2.4)
abbrev pub network_of : IpAddr → ℕ
network_of (V4 address) = number_with 256 (ipv4_octets address)
network_of (V6 address) = network_by (ipv6_segments address)

-- how many connections are counted for a network
abbrev pub count_of : Clients → ℕ → ℕ
count_of clients network = count_at (get nat_cmp clients.counts) network

-- whether a connection was counted
abbrev pub is_counted : {E : Type 0} → Result Bool E → Bool
is_counted (Ok counted) = counted
is_counted (Err _) = false

-- whether one more connection of a network may be counted
abbrev pub has_room : Clients → ℕ → Bool
has_room clients network = nat_lt (count_of clients network) clients.most

-- one for this network if so, and none for others
abbrev pub one_for : ℕ → Bool → ℕ → ℕ
one_for network is other = if is && (other == network) then 1 else 0

-- one more connection is counted for a network if so, and as many as before for others
abbrev pub CountsOne : Clients → Clients → ℕ → Bool → Type 0
CountsOne old new network is =
    (other : ℕ) → count_of new other ≡ count_of old other + one_for network is other

-- one connection fewer is counted for a network, and as many as before for others
abbrev pub GivesOneBack : Clients → Clients → ℕ → Type 0
GivesOneBack old new network =
    (other : ℕ) → count_of new other ≡ count_of old other - one_for network true other
