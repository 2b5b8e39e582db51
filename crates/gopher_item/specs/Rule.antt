-- A rule: the places of one server whose selectors begin with a prefix.
use Rattle.std.specs.Prelude.{ℕ, Bool, ◌&&◌, not, List, map, Option, Some, Result, nat_eq, ◌==◌, if◌then◌else◌}
use Rattle.std.specs.List.{starts_with}
use Rattle.std.specs.Cmp.Lexicographic.{pointwise}
use Rattle.gopher_bytes.specs.Case.{lower_case}
use Rattle.gopher_item.specs.Fault.{Makes}
use Rattle.gopher_item.specs.Place.{PlaceData, address_fault, is_selector}
use Rattle.gopher_item.specs.declared.fault.ItemFault.{ItemFault}
use Rattle.gopher_item.specs.declared.fault.ItemFault.TheVariants.{BadSelector}

-- a rule as data
pub record RuleData : Type 0 where
  pub host : List ℕ
  pub port : ℕ
  pub prefix : List ℕ

-- the first fault of the parts of a rule, if they have one
abbrev pub rule_fault : List ℕ → ℕ → List ℕ → Option ItemFault
rule_fault host port prefix =
    if not (is_selector prefix) then Some BadSelector else address_fault host port

-- the rule of these parts: its host in lower case
abbrev pub rule_of : List ℕ → ℕ → List ℕ → RuleData
rule_of host port prefix = record { host = map lower_case host; port = port; prefix = prefix }

-- making the rule of these parts fails with their first fault, returns the rule, or is out of
-- memory
abbrev pub MakesRule : List ℕ → ℕ → List ℕ → Result RuleData ItemFault → Type 0
MakesRule host port prefix = Makes (rule_fault host port prefix) (rule_of host port prefix)

-- the rule covers the place
abbrev pub covers : RuleData → PlaceData → Bool
covers rule place =
    pointwise nat_eq rule.host place.host && (rule.port == place.port)
    && starts_with nat_eq place.selector rule.prefix
