-- Scripts: the statements of their lines, and the output of running them.
use Rattle.std.specs.Prelude.{ℕ, ◌+◌, Bool, true, false, ◌&&◌, List, [], ◌∷◌, ◌++◌, drop, take_while, Option, None, Some, ◌==◌, if◌then◌else◌}
use Rattle.std.specs.List.{flat_map}
use Rattle.std.specs.Option.{option_map_or, option_and_then}
use Rattle.gopher_bytes.specs.Lines.{lines_of}
use Rattle.gopher_script.specs.Command.{command_of, StatementData}
use Rattle.gopher_script.specs.Stage.{step}
use Rattle.gopher_script.specs.declared.command.Command.{Command}
use Rattle.gopher_script.specs.declared.command.Command.TheVariants.{Found}
use Rattle.gopher_script.specs.declared.stage.Stage.{Stage}
use Rattle.gopher_script.specs.declared.stage.Stage.TheVariants.{Gathering}

-- ---- blocks

-- a block line begins with `|`
abbrev pub is_block_line : List ℕ → Bool
is_block_line [] = false
is_block_line (byte ∷ bytes) = byte == 124

-- a block begins here
abbrev pub begins_block : List (List ℕ) → Bool
begins_block [] = false
begins_block (line ∷ lines) = is_block_line line

-- the reply of a block: its lines without the `|`, each followed by CR LF
abbrev pub block_reply : List (List ℕ) → List ℕ
block_reply block = flat_map (λ line. drop 1 line ++ 13 ∷ 10 ∷ []) block

-- a command that takes the block directly after its line
abbrev pub takes_block : Option Command → Bool
takes_block (Some (Found number place)) = true
takes_block command = false

-- the block at the start of lines
abbrev pub block_of : List (List ℕ) → List (List ℕ)
block_of lines = take_while is_block_line lines

abbrev pub reply_after : Option Command → List (List ℕ) → List ℕ
reply_after command lines = if takes_block command then block_reply (block_of lines) else []

-- ---- statements

-- the statements of lines, of which the first has this number; block lines at their start belong to
-- the statement before if it takes a block, and are statements of their own otherwise
unfoldable pub statements_of : ℕ → Bool → List (List ℕ) → List StatementData
statements_of number in_block [] = []
statements_of number in_block (line ∷ lines) =
    if in_block && is_block_line line then statements_of (number + 1) true lines
    else ((record
    { number = number; command = command_of line; reply = reply_after (command_of line) lines })
    ∷ statements_of (number + 1) (takes_block (command_of line)) lines)

-- ---- running

-- the output of a run, and the number of the bad line at which it stops, if it stops at one
pub record RunData : Type 0 where
  pub output : List ℕ
  pub bad_line : Option ℕ

-- the answer of a statement and the next stage; none if its line is bad: no command, or one that
-- isn't valid at this stage
abbrev pub statement_step : Stage → StatementData → Option (List ℕ × Stage)
statement_step stage statement =
    option_and_then (λ command. step stage command statement.reply) statement.command

abbrev pub prepend : List ℕ → RunData → RunData
prepend answer run = record { output = answer ++ run.output; bad_line = run.bad_line }

abbrev pub ended_well : RunData
ended_well = record { output = []; bad_line = None }

abbrev pub ended_at : ℕ → RunData
ended_at number = record { output = []; bad_line = Some number }

-- the answers of the statements in order, up to the first bad line
unfoldable pub run_statements : Stage → List StatementData → RunData
run_statements stage [] = ended_well
run_statements stage (statement ∷ statements) =
    option_map_or (λ taken. prepend taken.0 (run_statements taken.1 statements))
    (statement_step stage statement) (ended_at statement.number)

-- the statements of the bytes after this many lines, which don't begin inside a block
abbrev pub statements_after : ℕ → List ℕ → List StatementData
statements_after lines_read bytes = statements_of (lines_read + 1) false (lines_of bytes)

abbrev pub statements_in : List ℕ → List StatementData
statements_in bytes = statements_of 1 false (lines_of bytes)

-- a script begins without rules and seeds
abbrev pub script_output : List ℕ → RunData
script_output bytes =
    run_statements (Gathering (record { allow = []; deny = []; seeds = [] })) (statements_in bytes)
