-- The numbers of the faults of desks and passes.
use Rattle.std.specs.Prelude.{ℕ}
use Rattle.gopher_crew.specs.declared.fault.SearchFault.{SearchFault}
use Rattle.gopher_crew.specs.declared.fault.SearchFault.TheVariants.{NoEntry as NoEntrySearch, NoMemory as NoMemorySearch}
use Rattle.gopher_crew.specs.declared.fault.DeskFault.{DeskFault}
use Rattle.gopher_crew.specs.declared.fault.DeskFault.TheVariants.{BadCount, NoEntry, NoMemory}

abbrev pub search_fault_code : SearchFault → ℕ
search_fault_code NoEntrySearch = 61
search_fault_code NoMemorySearch = 90

abbrev pub desk_fault_code : DeskFault → ℕ
desk_fault_code BadCount = 60
desk_fault_code NoEntry = 61
desk_fault_code NoMemory = 90
