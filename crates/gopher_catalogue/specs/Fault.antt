-- The numbers of the catalogue's faults, and the fault of a call that fails.
use Rattle.std.specs.Prelude.{◌≡◌, ℕ, Option, None, Some}
use Rattle.gopher_catalogue.specs.declared.fault.OpenFault.{OpenFault}
use Rattle.gopher_catalogue.specs.declared.fault.OpenFault.TheVariants.{SeedOutOfScope, BadPlaces, BadTries, NoMemory}
use Rattle.gopher_catalogue.specs.declared.fault.FoundFault.{FoundFault}
use Rattle.gopher_catalogue.specs.declared.fault.OpenRefused.{OpenRefused}
use Rattle.gopher_catalogue.specs.declared.fault.FoundRefused.{FoundRefused}
use Rattle.gopher_catalogue.specs.declared.fault.FoundFault.TheVariants.{NotOut, WrongPlace, NoMemory as NoMemoryFound}

abbrev pub open_fault_code : OpenFault → ℕ
open_fault_code (SeedOutOfScope index) = 50
open_fault_code BadPlaces = 51
open_fault_code BadTries = 54
open_fault_code NoMemory = 90

abbrev pub found_fault_code : FoundFault → ℕ
found_fault_code NotOut = 52
found_fault_code WrongPlace = 53
found_fault_code NoMemoryFound = 90

-- a call fails with the fault of its arguments, or, if they have none, because it is out of memory
abbrev pub HasOpenFault : Option OpenFault → OpenRefused → Type 0
HasOpenFault (Some fault) refused = refused.fault ≡ fault
HasOpenFault None refused = refused.fault ≡ NoMemory

abbrev pub IsFoundFault : Option FoundFault → FoundFault → Type 0
IsFoundFault (Some fault) answered = answered ≡ fault
IsFoundFault None answered = answered ≡ NoMemoryFound

abbrev pub HasFoundFault : Option FoundFault → FoundRefused → Type 0
HasFoundFault due refused = IsFoundFault due refused.fault
