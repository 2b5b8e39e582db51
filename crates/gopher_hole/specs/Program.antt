-- The program: its arguments, its exit status and its error stream.
use Rattle.std.specs.Prelude.{◌≡◌, ℕ, ◌⊎◌, Bool, false, List, [], ◌∷◌, codes, string_bytes, nat_eq, Option, Result, Ok, Err}
use Rattle.std.specs.Cmp.Lexicographic.{pointwise}
use Rattle.gopher_text.specs.Watched.{WatchedData, HasSent, HasFailed}
use Rattle.gopher_script.specs.Replay.{AppendsPart, Replays}
use Rattle.gopher_script.specs.declared.fault.ReplayFault.{ReplayFault}
use Rattle.gopher_hole.specs.Ending.{FoundSound, HasServed}
use Rattle.gopher_hole.specs.Fault.{fault_line}
use Rattle.gopher_hole.specs.ServerFault.{IsServerFault, IsServingFault}
use Rattle.gopher_hole.specs.declared.arguments.Asked.{Asked}
use Rattle.gopher_hole.specs.declared.arguments.Asked.TheVariants as ask
use Rattle.gopher_hole.specs.declared.arguments.Text.{Text}
use Rattle.gopher_hole.specs.declared.arguments.Text.TheVariants as text
use Rattle.gopher_hole.specs.declared.fault.ProgramFault.{ProgramFault}
use Rattle.gopher_hole.specs.declared.fault.ProgramFault.TheVariants.{NoMemory, Replay}

-- the only argument is `replay`
abbrev pub asks_replay : List (List ℕ) → Bool
asks_replay (word ∷ []) = pointwise nat_eq word (codes "replay")
asks_replay words = false

-- the exit status of the program, by how it ended
abbrev pub exit_status : {T E : Type 0} → Result T E → ℕ
exit_status (Ok end) = 0
exit_status (Err why) = 1

-- what the program writes to its error stream, by how a replay ended
abbrev pub said_of : {T : Type 0} → Result T ReplayFault → List ℕ
said_of (Ok end) = []
said_of (Err why) = fault_line (Replay why)

-- all of these bytes were written to the error stream or, if a write failed, a prefix of them: the
-- contents of a stream, and the error stream before and after
abbrev pub SaysOnError : {E : Type 0} → (E → Option (List ℕ)) → WatchedData E → WatchedData E
    → List ℕ → Type 0
SaysOnError contents old new bytes =
    HasSent contents old new bytes
    ⊎ (AppendsPart (contents old.device) (contents new.device) bytes
    × HasFailed old.failures new.failures)

-- a replay, with its exit status and what it says on the error stream
abbrev pub ReplaysAndExits : {R W E : Type 0} → (R → Option (List ℕ)) → (W → Option (List ℕ))
    → (E → Option (List ℕ)) → WatchedData R → WatchedData R → WatchedData W → WatchedData W
    → WatchedData E → WatchedData E → ℕ → Type 0
ReplaysAndExits remaining contents errors had left old new quiet told status =
    (end : Result (Unit {0}) ReplayFault)
    × Replays remaining contents had left old new end
    × (status ≡ exit_status end)
    × SaysOnError errors quiet told (said_of end)

-- the line of a fault was written of which this is true
abbrev pub SaysOneOf : {E : Type 0} → (ProgramFault → Type 0) → (E → Option (List ℕ))
    → WatchedData E → WatchedData E → Type 0
SaysOneOf IsOne contents old new =
    (why : ProgramFault) × IsOne why × SaysOnError contents old new (fault_line why)

-- a text of the program was written to its output; it isn't one about bad arguments
abbrev pub HasShown : {W : Type 0} → (W → Option (List ℕ)) → WatchedData W → WatchedData W
    → Text → Type 0
HasShown contents old new (text.Shown shown) = HasSent contents old new (string_bytes shown)
HasShown contents old new (text.Refusal refusal) = ⊥

-- a replay ended without a fault
abbrev pub HasReplayed : {R W : Type 0} → (R → Option (List ℕ)) → (W → Option (List ℕ))
    → WatchedData R → WatchedData R → WatchedData W → WatchedData W → Type 0
HasReplayed remaining contents had left old new =
    Replays {T = Unit {0}} remaining contents had left old new (Ok tt)

-- what the program did if it ends with status 0, by what its arguments ask for: the bytes left to
-- read of its input, those of its output, and both streams before and after
abbrev pub DidAsAsked : {R W : Type 0} → (R → Option (List ℕ)) → (W → Option (List ℕ))
    → WatchedData R → WatchedData R → WatchedData W → WatchedData W → Asked → Type 0
DidAsAsked remaining contents had left old new ask.Replay =
    HasReplayed remaining contents had left old new
DidAsAsked remaining contents had left old new (ask.Serve serving) = HasServed contents old new
DidAsAsked remaining contents had left old new (ask.Check checking) = FoundSound contents old new
DidAsAsked remaining contents had left old new (ask.Told told) = HasShown contents old new told

-- the program did something that its arguments may ask for
abbrev pub DidWhatIsAsked : {R W : Type 0} → (R → Option (List ℕ)) → (W → Option (List ℕ))
    → WatchedData R → WatchedData R → WatchedData W → WatchedData W → Type 0
DidWhatIsAsked remaining contents had left old new =
    (asked : Asked) × DidAsAsked remaining contents had left old new asked

-- a fault of a replay
abbrev pub IsReplayFault : ProgramFault → Type 0
IsReplayFault (Replay why) = Unit {0}
IsReplayFault why = ⊥

-- any fault
abbrev pub IsAnyFault : ProgramFault → Type 0
IsAnyFault why = Unit {0}

-- the faults with which the program ends, by what its arguments ask for
abbrev pub MayEndWith : Asked → ProgramFault → Type 0
MayEndWith ask.Replay why = IsReplayFault why
MayEndWith (ask.Serve serving) why = IsServerFault why
MayEndWith (ask.Check checking) why = IsAnyFault why
MayEndWith (ask.Told told) why = IsServingFault why

-- the program was asked for this, or had no memory to read what it was asked for, and wrote the
-- line of a fault with which that ends
abbrev pub SaysWhyAsked : {E : Type 0} → (E → Option (List ℕ)) → WatchedData E → WatchedData E
    → Type 0
SaysWhyAsked contents old new =
    ((asked : Asked) × SaysOneOf (MayEndWith asked) contents old new)
    ⊎ SaysOnError contents old new (fault_line NoMemory)
