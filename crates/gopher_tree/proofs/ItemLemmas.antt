-- The tests of a written line's parts are the tests of a menu line that is made.
use Rattle.std.proofs.Common.{◌≡◌, ℕ, Bool, true, false, cond, ◌&&◌, not, List, Option, None, Some, is_some, refl}
use Rattle.gopher_item.specs.Special.{has_special}
use Rattle.gopher_item.specs.MenuLine.{is_bad_type}
use Rattle.gopher_item.specs.Place.{is_selector}
use Rattle.gopher_item.specs.declared.fault.ItemFault.{ItemFault}
use Rattle.gopher_item.specs.declared.fault.ItemFault.TheVariants.{BadSelector, BadDisplay, BadType}
use Rattle.gopher_tree.specs.MenuFile.{is_item}

pub item_is : (kind : ℕ) (display selector : List ℕ) → (is_selector selector && (not (has_special display) && not (is_bad_type kind))) ≡ is_item kind display selector
item_is kind display selector = by (is_selector selector) (has_special display) (is_bad_type kind)
  where
    by : (s d k : Bool) → (s && (not d && not k)) ≡ not (is_some (cond (not s) (Some BadSelector) (cond {A = Option ItemFault} d (Some BadDisplay) (cond k (Some BadType) None))))
    by true true k = refl
    by true false true = refl
    by true false false = refl
    by false d k = refl
