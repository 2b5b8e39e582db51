-- The numbers of the faults of items.
use Rattle.std.specs.Prelude.{◌≡◌, ℕ, Option, None, Some, Result, Ok, Err}
use Rattle.gopher_item.specs.declared.fault.ItemFault.{ItemFault}
use Rattle.gopher_item.specs.declared.fault.ItemFault.TheVariants.{BadKind, BadSelector, BadHost, BadPort, BadDisplay, BadType, NoMemory}

abbrev pub item_fault_code : ItemFault → ℕ
item_fault_code BadKind = 1
item_fault_code BadSelector = 2
item_fault_code BadHost = 3
item_fault_code BadPort = 4
item_fault_code BadDisplay = 5
item_fault_code BadType = 6
item_fault_code NoMemory = 90

-- a constructor fails with the first fault of the parts, returns the value, or is out of memory
abbrev pub Makes : {T : Type 0} → Option ItemFault → T → Result T ItemFault → Type 0
Makes (Some fault) value result = result ≡ Err fault
Makes None value (Ok made) = made ≡ value
Makes None value (Err fault) = fault ≡ NoMemory
