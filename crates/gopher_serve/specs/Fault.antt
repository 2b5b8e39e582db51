-- The numbers of the faults of conversations.
use Rattle.std.specs.Prelude.{ℕ}
use Rattle.gopher_text.specs.declared.fault.LineFault as line
use Rattle.gopher_text.specs.declared.fault.LineFault.TheVariants as line_fault
use Rattle.gopher_serve.specs.declared.fault.ServeFault.{ServeFault}
use Rattle.gopher_serve.specs.declared.fault.ServeFault.TheVariants.{LineTooLong, ReadFailed, TooManyTurns, WriteFailed, NoMemory}

abbrev pub serve_fault_code : ServeFault → ℕ
serve_fault_code LineTooLong = 7
serve_fault_code ReadFailed = 10
serve_fault_code TooManyTurns = 11
serve_fault_code WriteFailed = 13
serve_fault_code NoMemory = 90

-- what a line that wasn't read means for its conversation
abbrev pub fault_of_line : line.LineFault → ServeFault
fault_of_line line_fault.LineTooLong = LineTooLong
fault_of_line line_fault.ReadFailed = ReadFailed
fault_of_line line_fault.TooManyTurns = TooManyTurns
fault_of_line line_fault.NoMemory = NoMemory
