-- Rules and places made of the parts that a script contains, and those before its crawl starts.
use Rattle.std.specs.Prelude.{List, Option}
use Rattle.gopher_item.specs.Place.{PlaceData, place_fault, place_of}
use Rattle.gopher_item.specs.declared.fault.ItemFault.{ItemFault}
use Rattle.gopher_item.specs.Rule.{RuleData, rule_fault, rule_of}

abbrev pub fault_of_rule : RuleData → Option ItemFault
fault_of_rule rule = rule_fault rule.host rule.port rule.prefix

abbrev pub made_rule : RuleData → RuleData
made_rule rule = rule_of rule.host rule.port rule.prefix

abbrev pub fault_of_place : PlaceData → Option ItemFault
fault_of_place place = place_fault place.kind place.selector place.host place.port

abbrev pub made_place : PlaceData → PlaceData
made_place place = place_of place.kind place.selector place.host place.port

-- the rules and seeds so far
pub record DraftData : Type 0 where
  pub allow : List RuleData
  pub deny : List RuleData
  pub seeds : List PlaceData
