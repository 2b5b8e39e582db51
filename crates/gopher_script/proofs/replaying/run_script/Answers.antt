use Rattle.gopher_script.proofs.Runs.{begins, goes_on, ends_well, stops}
use Rattle.gopher_script.proofs.replaying.run_script.Goals as goal

pub loop-stage-init : goal.loop-stage-init
loop-stage-init g c = rw (c.new.ensures, c.of-script.ensures) (begins _ _ _ _)

pub loop-stage-preserved : goal.loop-stage-preserved
loop-stage-preserved g c =
    let is = rw c.in-Some.is at c.in_ok-statement.ensures in
    goes_on _ _ _ _ _ _ _ _ _ _ _ _ is c.loop-stage.invariant c.in-Ok.ensures

pub returns-in-Err : goal.returns-in-Err
returns-in-Err g c =
    let is = rw c.in-Some.is at c.in_ok-statement.ensures in
    stops _ _ _ _ _ _ _ _ _ _ _ _ is c.loop-stage.invariant c.in-Err.ensures

pub returns : goal.returns
returns g c =
    let is = rw c.in_default.is at c.in_ok-statement.ensures in
    ends_well _ _ _ _ _ _ _ is c.loop-stage.invariant
