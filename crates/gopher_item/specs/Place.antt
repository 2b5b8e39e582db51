-- A place: one file or directory of one Gopher server.
use Rattle.std.specs.Prelude.{ℕ, Bool, List, [], ◌∷◌, length, map, filter, nat_eq, Option, None, Some, Result, ◌==◌, ◌||◌, ◌&&◌, not, nat_lt, nat_le, if◌then◌else◌}
use Rattle.std.specs.List.{list_any}
use Rattle.std.specs.Ordering.{nat_cmp, on, then_cmp}
use Rattle.std.specs.declared.cmp.Ordering.{Ordering}
use Rattle.std.specs.Cmp.Lexicographic.{pointwise, slice_cmp}
use Rattle.gopher_bytes.specs.Case.{lower_case}
use Rattle.gopher_item.specs.Fault.{Makes}
use Rattle.gopher_item.specs.Special.{has_special, is_control}
use Rattle.gopher_item.specs.declared.fault.ItemFault.{ItemFault}
use Rattle.gopher_item.specs.declared.fault.ItemFault.TheVariants.{BadKind, BadSelector, BadHost, BadPort}
use Rattle.gopher_item.specs.declared.limits.TheConstants.{MAX_HOST, MAX_SELECTOR}

-- a place as data, its fields in place order
pub record PlaceData : Type 0 where
  pub host : List ℕ
  pub port : ℕ
  pub selector : List ℕ
  pub kind : ℕ

-- a server's own address as data
pub record HomeData : Type 0 where
  pub host : List ℕ
  pub port : ℕ

-- a file (`0`) or a directory (`1`): RFC 1436, section 3.8
abbrev pub is_place_kind : ℕ → Bool
is_place_kind kind = (kind == 48) || (kind == 49)

-- a selector: at most 255 bytes, none of them special (RFC 1436, appendix: Selector)
abbrev pub is_selector : List ℕ → Bool
is_selector selector = nat_le (length selector) MAX_SELECTOR && not (has_special selector)

-- a host: 1 to 255 bytes, none of them a space or a control byte (stricter than RFC 1436, appendix:
-- Host)
abbrev pub is_host : List ℕ → Bool
is_host host =
    nat_lt 0 (length host) && nat_le (length host) MAX_HOST
    && not (list_any (λ byte. (byte == 32) || is_control byte) host)

-- the first fault of the parts of a server's address, if they have one
abbrev pub address_fault : List ℕ → ℕ → Option ItemFault
address_fault host port =
    if not (is_host host) then Some BadHost else
    (if port == 0 then Some BadPort else None)

-- making the address of these parts fails with their first fault, returns the address, or is out of
-- memory
abbrev pub MakesHome : List ℕ → ℕ → Result HomeData ItemFault → Type 0
MakesHome host port = Makes (address_fault host port) (record { host = host; port = port })

-- the first fault of the parts of a place, if they have one
abbrev pub place_fault : ℕ → List ℕ → List ℕ → ℕ → Option ItemFault
place_fault kind selector host port =
    if not (is_place_kind kind) then Some BadKind else
    (if not (is_selector selector) then Some BadSelector else address_fault host port)

-- the place of these parts: its host in lower case
abbrev pub place_of : ℕ → List ℕ → List ℕ → ℕ → PlaceData
place_of kind selector host port =
    record { host = map lower_case host; port = port; selector = selector; kind = kind }

-- making the place of these parts fails with their first fault, returns the place, or is out of
-- memory
abbrev pub MakesPlace : ℕ → List ℕ → List ℕ → ℕ → Result PlaceData ItemFault → Type 0
MakesPlace kind selector host port result =
    Makes (place_fault kind selector host port) (place_of kind selector host port) result

-- two places have the same parts
abbrev pub same_place : PlaceData → PlaceData → Bool
same_place a b =
    pointwise nat_eq a.host b.host && (a.port == b.port)
    && pointwise nat_eq a.selector b.selector && (a.kind == b.kind)

-- the list contains the place
abbrev pub is_among : List PlaceData → PlaceData → Bool
is_among places place = list_any (same_place place) places

-- the places, each once, in the order of first mention
abbrev pub distinct : List PlaceData → List PlaceData
distinct [] = []
distinct (place ∷ places) = place ∷ filter (λ other. not (same_place place other)) (distinct places)

-- place order: by the host's bytes, the port as a number, the selector's bytes, the type
abbrev pub place_cmp : PlaceData → PlaceData → Ordering
place_cmp =
    then_cmp (then_cmp (then_cmp
    (on (λ p. p.host) (slice_cmp nat_cmp))
    (on (λ p. p.port) nat_cmp))
    (on (λ p. p.selector) (slice_cmp nat_cmp)))
    (on (λ p. p.kind) nat_cmp)
