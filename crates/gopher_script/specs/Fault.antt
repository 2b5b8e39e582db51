-- The numbers of the faults of a replay.
use Rattle.std.specs.Prelude.{ℕ}
use Rattle.gopher_text.specs.declared.fault.ReplyFault.{ReplyFault}
use Rattle.gopher_text.specs.declared.fault.ReplyFault.TheVariants as reply
use Rattle.gopher_script.specs.declared.fault.ReplayFault.{ReplayFault}
use Rattle.gopher_script.specs.declared.fault.ReplayFault.TheVariants.{ReadFailed, TooManyTurns, ReplyTooLong, WriteFailed, BadScript, NoMemory}

-- the fault of a replay whose script can't be read to its end
abbrev pub fault_of_script : ReplyFault → ReplayFault
fault_of_script reply.ReadFailed = ReadFailed
fault_of_script reply.TooManyTurns = TooManyTurns
fault_of_script reply.ReplyTooLong = ReplyTooLong
fault_of_script reply.NoMemory = NoMemory

abbrev pub replay_fault_code : ReplayFault → ℕ
replay_fault_code ReadFailed = 10
replay_fault_code TooManyTurns = 11
replay_fault_code ReplyTooLong = 12
replay_fault_code WriteFailed = 13
replay_fault_code (BadScript line) = 70
replay_fault_code NoMemory = 90
