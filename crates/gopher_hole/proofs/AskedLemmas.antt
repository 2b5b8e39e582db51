-- What a program did and said, by what it was asked for.
use Rattle.std.proofs.Common.{◌≡◌, ◌≢◌, ℕ, List, Option, Result, Ok, Err, IfErr, inl}
use Rattle.gopher_text.specs.Watched.{WatchedData}
use Rattle.gopher_hole.specs.Program.{DidWhatIsAsked, HasReplayed, IsReplayFault, SaysOneOf, SaysOnError, SaysWhyAsked, exit_status}
use Rattle.gopher_hole.specs.Fault.{fault_line}
use Rattle.gopher_hole.specs.ServerFault.{IsServerFault}
use Rattle.gopher_hole.specs.declared.fault.ProgramFault.{ProgramFault}
use Rattle.gopher_hole.specs.declared.arguments.Asked.TheVariants as ask

pub replay_did : {R W : Type 0} (remaining : R → Option (List ℕ)) (contents : W → Option (List ℕ)) (had left : WatchedData R) (old new : WatchedData W)
    → HasReplayed remaining contents had left old new → DidWhatIsAsked remaining contents had left old new
replay_did remaining contents had left old new did = (ask.Replay, did)

pub replay_says : {E : Type 0} (contents : E → Option (List ℕ)) (old new : WatchedData E) → SaysOneOf IsReplayFault contents old new → SaysWhyAsked contents old new
replay_says contents old new said = inl (ask.Replay, said)

-- the fault of a server was said
pub server_says : {T E : Type 0} (contents : E → Option (List ℕ)) (old new : WatchedData E) (end : Result T ProgramFault) (status : ℕ) → status ≡ exit_status end
    → IfErr end IsServerFault → IfErr end (λ why. SaysOnError contents old new (fault_line why)) → status ≢ 0 → SaysOneOf IsServerFault contents old new
server_says contents old new (Ok value) status is fault said fails = absurd (fails is)
server_says contents old new (Err why) status is fault said fails = (why, fault, said)
