-- A scope: which places a crawl may visit.
use Rattle.std.specs.Prelude.{ℕ, Bool, ◌&&◌, not, List, Option, position, IsTrue}
use Rattle.std.specs.List.{list_any}
use Rattle.gopher_item.specs.Place.{PlaceData}
use Rattle.gopher_item.specs.Rule.{RuleData, covers}

-- a scope as data
pub record ScopeData : Type 0 where
  pub allow : List RuleData
  pub deny : List RuleData

-- one of the rules covers the place
abbrev pub any_covers : List RuleData → PlaceData → Bool
any_covers rules place = list_any (λ rule. covers rule place) rules

-- some allow rule covers the place, and no deny rule does
unfoldable pub allows : ScopeData → PlaceData → Bool
allows scope place = any_covers scope.allow place && not (any_covers scope.deny place)

abbrev pub IsAllowed : ScopeData → PlaceData → Type 0
IsAllowed scope place = IsTrue (allows scope place)

-- the index of the first seed that the scope doesn't allow
abbrev pub first_outside : ScopeData → List PlaceData → Option ℕ
first_outside scope seeds = position (λ seed. not (allows scope seed)) seeds
