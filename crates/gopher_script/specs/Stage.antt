-- The steps of a script: for each command its answer and the next stage, if memory suffices.
use Rattle.std.specs.Prelude.{◌≡◌, ℕ, List, [], ◌∷◌, ◌++◌, codes, Option, None, Some, MatchOption, Result, IfOk, if◌then◌else◌}
use Rattle.std.specs.Global.{Vec}
use Rattle.gopher_item.specs.Fault.{item_fault_code}
use Rattle.gopher_item.specs.Place.{PlaceData}
use Rattle.gopher_item.specs.Rule.{RuleData}
use Rattle.gopher_item.specs.Scope.{ScopeData}
use Rattle.gopher_page.specs.Page.{page_of}
use Rattle.gopher_page.specs.Query.{TermData, query_of}
use Rattle.gopher_index.specs.Answer.{answer_of as hits_found, occurrences_of}
use Rattle.gopher_catalogue.specs.Pages.{pages_found}
use Rattle.gopher_catalogue.specs.declared.event.EventData.{EventData}
use Rattle.gopher_catalogue.specs.declared.event.EventData.TheVariants.{Opened, Found as FoundEvent, Failed}
use Rattle.gopher_catalogue.specs.Fault.{open_fault_code, found_fault_code}
use Rattle.gopher_catalogue.specs.Step.{TurnData, Take, Idle, Finished, open_fault, opened_record, turn_of, after_turn, is_out_in, found_fault, added_by, status_of}
use Rattle.gopher_catalogue.specs.declared.event.Why.{Why}
use Rattle.gopher_script.specs.Answer.{refused_line, take_line, added_line, status_line, hits_lines, places_lines}
use Rattle.gopher_script.specs.Parts.{DraftData, fault_of_rule, made_rule, fault_of_place, made_place}
use Rattle.gopher_script.specs.declared.command.Command.{Command}
use Rattle.gopher_script.specs.declared.command.Command.TheVariants.{Nothing, Allow, Deny, Seed, Start, Claim, Found, Fail, Search, Occurs, Status}
use Rattle.gopher_script.specs.declared.stage.Stage.{Stage}
use Rattle.gopher_script.specs.declared.stage.Stage.TheVariants.{Gathering, Crawling}

-- this step, unless the command has a fault: then its answer is the fault's number, and what it
-- would change stays the same
abbrev pub step_unless : {F T : Type 0} → (F → ℕ) → Option F → T → List ℕ × T → List ℕ × T
step_unless code None old step = step
step_unless code (Some fault) old step = (refused_line (code fault), old)

-- ---- before the crawl

-- a rule joins the rules, without an answer
abbrev pub rule_step : List RuleData → RuleData → List ℕ × List RuleData
rule_step rules rule =
    step_unless item_fault_code (fault_of_rule rule) rules ([], rules ++ made_rule rule ∷ [])

abbrev pub seed_step : List PlaceData → PlaceData → List ℕ × List PlaceData
seed_step seeds seed =
    step_unless item_fault_code (fault_of_place seed) seeds ([], seeds ++ made_place seed ∷ [])

abbrev pub scope_of_draft : DraftData → ScopeData
scope_of_draft draft = record { allow = draft.allow; deny = draft.deny }

abbrev pub start_step : DraftData → ℕ → ℕ → List ℕ × Stage
start_step draft places tries =
    step_unless open_fault_code (open_fault (scope_of_draft draft) draft.seeds places tries)
    (Gathering draft)
    (codes "ok\n", Crawling (opened_record (scope_of_draft draft) draft.seeds places tries))

-- ---- in the crawl

abbrev pub turn_line : TurnData → List ℕ
turn_line (Take number place) = take_line number place
turn_line Idle = codes "idle\n"
turn_line Finished = codes "finished\n"

abbrev pub claim_step : List EventData → List ℕ × List EventData
claim_step events = (turn_line (turn_of events), after_turn events (turn_of events))

-- the scope of a record
abbrev pub scope_in : List EventData → ScopeData
scope_in (Opened opening ∷ events) = opening.scope
scope_in events = record { allow = []; deny = [] }

-- the page of a reply, in the scope of the record, is found for a number
abbrev pub page_step : List EventData → ℕ → PlaceData → List ℕ → List ℕ × List EventData
page_step events number place reply =
    let page = page_of (scope_in events) place reply in
    step_unless found_fault_code (found_fault events number page.place) events
    (added_line (added_by events number page), events ++ FoundEvent number page ∷ [])

abbrev pub found_step : List EventData → ℕ → PlaceData → List ℕ → List ℕ × List EventData
found_step events number place reply =
    step_unless item_fault_code (fault_of_place place) events
    (page_step events number (made_place place) reply)

abbrev pub fail_step : List EventData → ℕ → Why → List ℕ × List EventData
fail_step events number why =
    if is_out_in events number then (codes "ok\n", events ++ Failed number why ∷ [])
    else (refused_line 52, events)

-- a text without words is refused with 40
abbrev pub query_lines : List EventData → List TermData → List ℕ
query_lines events [] = refused_line 40
query_lines events query = hits_lines (hits_found (pages_found events) query)

abbrev pub search_lines : List EventData → List ℕ → List ℕ
search_lines events text = query_lines events (query_of text)

abbrev pub occurs_lines : List EventData → List ℕ → List ℕ
occurs_lines events word = places_lines (occurrences_of (pages_found events) word)

-- ---- at any time

-- a step of a part of the stage, as a step of the stage
abbrev pub stage_step : {T : Type 0} → (T → Stage) → List ℕ × T → List ℕ × Stage
stage_step stage_of step = (step.0, stage_of step.1)

-- the answer of a command with the reply of its block, and the next stage; none if the command
-- isn't valid at this stage
abbrev pub step : Stage → Command → List ℕ → Option (List ℕ × Stage)
step stage Nothing reply = Some ([], stage)
step (Gathering draft) (Allow rule) reply =
    Some (stage_step (λ rules. Gathering (record draft { allow = rules }))
    (rule_step draft.allow rule))
step (Gathering draft) (Deny rule) reply =
    Some (stage_step (λ rules. Gathering (record draft { deny = rules }))
    (rule_step draft.deny rule))
step (Gathering draft) (Seed place) reply =
    Some (stage_step (λ seeds. Gathering (record draft { seeds = seeds }))
    (seed_step draft.seeds place))
step (Gathering draft) (Start places tries) reply = Some (start_step draft places tries)
step (Crawling events) Claim reply = Some (stage_step Crawling (claim_step events))
step (Crawling events) (Found number place) reply =
    Some (stage_step Crawling (found_step events number place reply))
step (Crawling events) (Fail number why) reply =
    Some (stage_step Crawling (fail_step events number why))
step (Crawling events) (Search text) reply = Some (search_lines events text, Crawling events)
step (Crawling events) (Occurs word) reply = Some (occurs_lines events word, Crawling events)
step (Crawling events) Status reply = Some (status_line (status_of events), Crawling events)
step stage command reply = None

-- a call returns the answer of a step and leaves what it makes, unless it fails
abbrev pub TakesStep : {T E : Type 0} → List ℕ × T → T → Result (Vec ℕ) E → Type 0
TakesStep step new result = IfOk result (λ answer. (answer.items, new) ≡ step)

-- a call takes the step of a command in the crawl, and leaves this record; it returns no answer and
-- leaves the record unchanged if the command has to come before the crawl
abbrev pub TakesCrawlStep : List EventData → Command → List ℕ → List EventData → Option (Vec ℕ)
    → Type 0
TakesCrawlStep old command reply new answer =
    MatchOption answer ((step (Crawling old) command reply ≡ None) × (new ≡ old))
    (λ bytes. step (Crawling old) command reply ≡ Some (bytes.items, Crawling new))
