use Rattle.std.proofs.Common.{◌≡◌, Bool, true, false, ◌&&◌, not, is_some, Option, None, Some, if◌then◌else◌, refl, sym, ◌∙◌}
use Rattle.gopher_item.specs.Special.{has_special}
use Rattle.gopher_item.specs.MenuLine.{is_bad_type}
use Rattle.gopher_item.specs.Place.{is_host, is_selector}
use Rattle.gopher_item.specs.declared.fault.ItemFault.{ItemFault}
use Rattle.gopher_item.specs.declared.fault.ItemFault.TheVariants.{BadSelector, BadHost, BadDisplay, BadType}
use Rattle.gopher_tree.proofs.ItemLemmas.{item_is}
use Rattle.gopher_tree.proofs.laws.written_lines_are_made.Goals as goal

abbrev first_fault : Bool → Bool → Bool → Bool → Option ItemFault
first_fault selector host special bad =
    if not selector then Some BadSelector else
    (if not host then Some BadHost else
    (if special then Some BadDisplay else
    (if bad then Some BadType else None)))

none_is_made : (selector host special bad : Bool) → host ≡ true → (selector && (not special && not bad)) ≡ not (is_some (first_fault selector host special bad))
none_is_made false host special bad h = refl
none_is_made true false special bad h = absurd cc
none_is_made true true true bad h = refl
none_is_made true true false true h = refl
none_is_made true true false false h = refl

pub returns : goal.returns
returns c kind display selector host h =
    sym (item_is kind display selector)
    ∙ none_is_made (is_selector selector) (is_host host) (has_special display) (is_bad_type kind) h
