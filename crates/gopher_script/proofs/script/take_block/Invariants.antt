use Rattle.std.proofs.Common.{◌≡◌, ◌+◌, ◌≤◌, ◌++◌, true, length}
use Rattle.gopher_bytes.specs.Lines.{lines_of}
use Rattle.gopher_script.specs.Script.{block_of, block_reply, statements_of}
use Rattle.gopher_script.proofs.script.take_block.Given as goal

-- the lines read and the rest of the block are the whole block
abbrev pub invariant-loop-text : goal.invariant-loop-text
invariant-loop-text l =
    (l.reply.items ++ block_reply (block_of (lines_of l.rest)) ≡ block_reply (block_of (lines_of l.bytes)))
    × (statements_of (l.lines + 1) true (lines_of l.rest) ≡ statements_of (l.before + 1) true (lines_of l.bytes))
    × (l.lines + length l.rest ≤ l.before + length l.bytes)

abbrev pub decreases-loop-text : goal.decreases-loop-text
decreases-loop-text l = length l.rest
