-- The numbers of the faults of reading a line or a reply.
use Rattle.std.specs.Prelude.{ℕ}
use Rattle.gopher_text.specs.declared.fault.LineFault as line
use Rattle.gopher_text.specs.declared.fault.LineFault.TheVariants as line_fault
use Rattle.gopher_text.specs.declared.fault.ReplyFault.{ReplyFault}
use Rattle.gopher_text.specs.declared.fault.ReplyFault.TheVariants.{ReadFailed, TooManyTurns, ReplyTooLong, NoMemory}

abbrev pub line_fault_code : line.LineFault → ℕ
line_fault_code line_fault.LineTooLong = 7
line_fault_code line_fault.ReadFailed = 10
line_fault_code line_fault.TooManyTurns = 11
line_fault_code line_fault.NoMemory = 90

abbrev pub reply_fault_code : ReplyFault → ℕ
reply_fault_code ReadFailed = 10
reply_fault_code TooManyTurns = 11
reply_fault_code ReplyTooLong = 12
reply_fault_code NoMemory = 90
