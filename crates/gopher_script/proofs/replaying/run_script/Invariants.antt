use Rattle.std.proofs.Common.{length}
use Rattle.gopher_script.specs.Script.{script_output}
use Rattle.gopher_script.proofs.Runs.{RunsOn}
use Rattle.gopher_script.proofs.replaying.run_script.Given as goal

abbrev pub invariant-loop-stage : goal.invariant-loop-stage
invariant-loop-stage g l =
    RunsOn (script_output l.bytes) (g.W.Write.contents l.initial.output.device) (g.W.Write.contents l.output.device) l.initial.output.failures l.output.failures l.stage l.script

abbrev pub decreases-loop-stage : goal.decreases-loop-stage
decreases-loop-stage g l = length l.script
