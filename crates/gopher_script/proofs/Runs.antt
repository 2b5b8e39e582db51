-- A run, statement by statement.
use Rattle.std.proofs.Common.{◌≡◌, ℕ, ◌≤◌, List, [], ◌∷◌, ◌++◌, Option, None, Some, Ok, Err, refl, sym, ap, subst, ◌∙◌, inl, inr, append_assoc, append-nil, arith}
use Rattle.std.specs.Option.{option_map_or}
use Rattle.std.specs.Io.KnownBytes.{Appends}
use Rattle.std.proofs.KnownBytes.{Appends-nil, Appends-trans}
use Rattle.gopher_text.specs.Watched.{HasFailed}
use Rattle.gopher_script.specs.Command.{StatementData}
use Rattle.gopher_script.specs.Script.{RunData, run_statements, prepend, statement_step, ended_at, ended_well}
use Rattle.gopher_script.specs.Replay.{RunEnds, StatementEnds}
use Rattle.gopher_script.specs.declared.stage.Stage.{Stage}
use Rattle.gopher_script.specs.declared.fault.ReplayFault.{ReplayFault}
use Rattle.gopher_script.specs.declared.fault.ReplayFault.TheVariants.{ReadFailed, TooManyTurns, ReplyTooLong, WriteFailed, BadScript, NoMemory}

-- the state of a run: the bytes written, and the output of the statements that are left
pub record RunsOn (run : RunData) (old now : Option (List ℕ)) (before after : ℕ) (stage : Stage) (statements : List StatementData) : Type 0 where
  pub written : List ℕ
  pub appended : Appends old now written
  pub left : run ≡ prepend written (run_statements stage statements)
  pub counted : before ≤ after

prepend-append : (a b : List ℕ) (run : RunData) → prepend (a ++ b) run ≡ prepend a (prepend b run)
prepend-append a b run = ap (λ o. record { output = o; bad_line = run.bad_line }) (append_assoc a b run.output)

-- the run of statements whose first one takes this step, or is bad
abbrev run_from : List StatementData → ℕ → Option (List ℕ × Stage) → RunData
run_from ss number step = option_map_or (λ taken. prepend taken.0 (run_statements taken.1 ss)) step (ended_at number)

run-answered : (stage next : Stage) (s : StatementData) (ss : List StatementData) (answer : List ℕ) → statement_step stage s ≡ Some (answer, next)
    → run_statements stage (s ∷ ss) ≡ prepend answer (run_statements next ss)
unfolding run_statements
run-answered stage next s ss answer e = ap (run_from ss s.number) e

run-bad : (stage : Stage) (s : StatementData) (ss : List StatementData) → statement_step stage s ≡ None → run_statements stage (s ∷ ss) ≡ ended_at s.number
unfolding run_statements
run-bad stage s ss e = ap (run_from ss s.number) e

pub begins : (stage : Stage) (ss : List StatementData) (old : Option (List ℕ)) (before : ℕ) → RunsOn (run_statements stage ss) old old before before stage ss
begins stage ss old before = record { written = []; appended = Appends-nil old; left = refl; counted = omega arith }

pub goes_on : (run : RunData) (old now new : Option (List ℕ)) (before after later : ℕ) (stage next : Stage) (s : StatementData) (ss all : List StatementData) → all ≡ s ∷ ss
    → RunsOn run old now before after stage all → StatementEnds stage s now new after later (Ok next) → RunsOn run old new before later next ss
goes_on run old now new before after later stage next s ss all is so (answer, answered, sent, counted) = record {
  written = so.written ++ answer;
  appended = Appends-trans old now new so.written answer so.appended sent;
  left = so.left ∙ ap (prepend so.written) (ap (run_statements stage) is ∙ run-answered stage next s ss answer answered)
      ∙ sym (prepend-append so.written answer (run_statements next ss));
  counted = omega (arith, so.counted, counted);
}

-- the run succeeds after the last statement
pub ends_well : (run : RunData) (old now : Option (List ℕ)) (before after : ℕ) (stage : Stage) (all : List StatementData) → all ≡ []
    → RunsOn run old now before after stage all → RunEnds {T = Unit {0}} run old now before after (Ok tt)
unfolding run_statements
ends_well run old now before after stage all is so =
    let whole : run ≡ prepend so.written ended_well = so.left ∙ ap (λ ss. prepend so.written (run_statements stage ss)) is in
    let all_written : run.output ≡ so.written = ap (λ r. r.output) whole ∙ append-nil so.written in
    (ap (λ r. r.bad_line) whole, subst (Appends old now) (sym all_written) so.appended, so.counted)

pub has_failed-since : (before after later : ℕ) → before ≤ after → HasFailed after later → after ≤ later → HasFailed before later
has_failed-since before after later a (inl e) b = inl (omega arith)
has_failed-since before after later a (inr e) b = grind arith

-- the run fails with a statement
pub stops : (run : RunData) (old now new : Option (List ℕ)) (before after later : ℕ) (stage : Stage) (s : StatementData) (ss all : List StatementData) (fault : ReplayFault) → all ≡ s ∷ ss
    → RunsOn run old now before after stage all → StatementEnds stage s now new after later (Err fault) → RunEnds {T = Unit {0}} run old new before later (Err fault)
stops run old now new before after later stage s ss all (BadScript line) is so (bad, number, sent) =
    let whole : run ≡ prepend so.written (ended_at s.number) = so.left ∙ ap (prepend so.written) (ap (run_statements stage) is ∙ run-bad stage s ss bad) in (
      ap (λ r. r.bad_line) whole ∙ ap Some (sym number),
      subst (Appends old new) (sym (ap (λ r. r.output) whole)) (Appends-trans old now new so.written [] so.appended sent),
    )
stops run old now new before after later stage s ss all WriteFailed is so (answer, next, answered, (part, rest, split, sent), failed, later_than) =
    let more = (run_statements next ss).output in
    let whole : run ≡ prepend so.written (prepend answer (run_statements next ss)) = so.left ∙ ap (prepend so.written) (ap (run_statements stage) is ∙ run-answered stage next s ss answer answered) in
    let here : run.output ≡ (so.written ++ part) ++ (rest ++ more) =
    ap (λ r. r.output) whole ∙ ap (λ a. so.written ++ (a ++ more)) split ∙ ap (λ a. so.written ++ a) (append_assoc part rest more) ∙ sym (append_assoc so.written part (rest ++ more)) in
    ((so.written ++ part, rest ++ more, here, Appends-trans old now new so.written part so.appended sent), has_failed-since before after later so.counted failed later_than)
stops run old now new before after later stage s ss all NoMemory is so sent =
    (so.written, (run_statements stage all).output, ap (λ r. r.output) so.left, subst (Appends old new) (append-nil so.written) (Appends-trans old now new so.written [] so.appended sent))
stops run old now new before after later stage s ss all ReadFailed is so never = absurd never
stops run old now new before after later stage s ss all TooManyTurns is so never = absurd never
stops run old now new before after later stage s ss all ReplyTooLong is so never = absurd never
