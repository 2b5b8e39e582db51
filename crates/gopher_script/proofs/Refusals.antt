-- The steps of parts that may have a fault.
use Rattle.std.proofs.Common.{◌≡◌, ◌≢◌, ℕ, List, Option, Some, None, Result, Ok, Err, IfOk, OnOk, ap, subst, ◌∙◌}
use Rattle.std.specs.Global.{Vec}
use Rattle.gopher_item.specs.Fault.{item_fault_code, Makes}
use Rattle.gopher_item.specs.declared.fault.ItemFault.{ItemFault}
use Rattle.gopher_script.specs.Answer.{refused_line}
use Rattle.gopher_script.specs.Stage.{step_unless, TakesStep}

-- the parts have a fault
pub refused_step : {P T E : Type 0} (x : Option ItemFault) (value : P) (fault : ItemFault) (old : T) (step : List ℕ × T) (result : Result (Vec ℕ) E) → Makes x value (Err fault)
    → OnOk result (item_fault_code fault ≢ 90) → IfOk result (λ line. line.items ≡ refused_line (item_fault_code fault)) → TakesStep (step_unless item_fault_code x old step) old result
refused_step x value fault old step (Err e) made cause is = is
refused_step (Some other) value fault old step (Ok line) made cause is =
    let same : fault ≡ other = cc in
    ap (λ l. (l, old)) (is ∙ ap (λ f. refused_line (item_fault_code f)) same)
refused_step None value fault old step (Ok line) made cause is = absurd (cause (ap item_fault_code made))

-- the parts are valid
pub taken_step : {P T E : Type 0} (x : Option ItemFault) (value made : P) (old new : T) (steps : P → List ℕ × T) (result : Result (Vec ℕ) E) → Makes x value (Ok made)
    → TakesStep (steps made) new result → TakesStep (step_unless item_fault_code x old (steps value)) new result
taken_step (Some fault) value made old new steps result m is = absurd cc
taken_step None value made old new steps result m is = subst (λ p. TakesStep (steps p) new result) m is
