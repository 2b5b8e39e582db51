-- Reading a script, one line, block or statement at a time.
use Rattle.std.specs.Prelude.{◌≡◌, ℕ, ◌+◌, ◌≤◌, Bool, false, List, [], ◌∷◌, length, Option, MatchOption}
use Rattle.std.specs.Borrow.{Bor}
use Rattle.gopher_bytes.specs.Lines.{lines_of}
use Rattle.gopher_script.specs.Command.{StatementData}
use Rattle.gopher_script.specs.Script.{begins_block, statements_of, statements_after}
use Rattle.gopher_script.specs.declared.script.Block.{Block}

-- the text of the block line at the start of lines, and the bytes after that line; none if no
-- block begins here
abbrev pub TakesBlockLine : List (List ℕ) → Option (Bor (List ℕ) × Bor (List ℕ)) → Type 0
TakesBlockLine lines taken =
    MatchOption taken (begins_block lines ≡ false)
    (λ parts. lines ≡ (124 ∷ parts.0.now) ∷ lines_of parts.1.now)

-- the reply of a block
abbrev pub HasReply : List ℕ → Block → Type 0
HasReply reply block = block.reply.items ≡ reply

-- the statements after a block are those of the bytes at its start, which follow the first `before`
-- lines; `in_block` says whether the statement before them takes a block
abbrev pub LeavesStatements : ℕ → Bool → List ℕ → Block → Type 0
LeavesStatements before in_block bytes block =
    statements_after block.lines block.rest.now
    ≡ statements_of (before + 1) in_block (lines_of bytes)

-- the number of lines read up to the end of a block and the number of bytes after it are together
-- no more than `before` and the number of bytes at its start
abbrev pub HasFewLines : ℕ → List ℕ → Block → Type 0
HasFewLines before bytes block = block.lines + length block.rest.now ≤ before + length bytes

-- the next statement, if there is one: the statements before it is taken, and those after
abbrev pub TakesStatement : List StatementData → List StatementData → Option StatementData → Type 0
TakesStatement old new next = MatchOption next (old ≡ []) (λ statement. old ≡ statement ∷ new)
