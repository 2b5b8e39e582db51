-- Records as lists of events of the program.
use Rattle.std.proofs.Common.{◌≡◌, ◌∷◌, ◌++◌, [], ◌+◌, ◌<◌, ◌≤◌, ◌^◌, Bool, true, false, ℕ, ap, sym, subst, ◌∙◌, arith, length, map, take, get_or, List}
use Rattle.std.proofs.lemmas.List.{length-append, length-map, take_at}
use mathlib.Core.List.{IsPrefix}
use Rattle.gopher_catalogue.specs.declared.event.Event.{Event}
use Rattle.gopher_catalogue.specs.declared.event.EventData.{EventData}
use Rattle.gopher_catalogue.specs.EventOf.{event_data}
use Rattle.gopher_catalogue.specs.Legal.{IsLegal}
use Rattle.gopher_catalogue.proofs.LegalSizes.{length-record_fits}
use Rattle.gopher_crew.specs.History.{RecordPrefixData, AddsEventTo}
use Rattle.gopher_crew.proofs.Prefixes.{prefix_take, prefix_whole, take_map_more}

-- a record is short
pub record_room : (events : List Event) (record_ : List EventData) → map event_data events ≡ record_ → IsLegal record_ → length events < 2 ^ 32
record_room events record_ is legal = omega (arith, length-record_fits record_ legal, ap length is, length-map events event_data)

-- a prefix as long as a record is the whole record
pub whole_record : (prefix record_ : List EventData) (events : List Event) → map event_data events ≡ record_ → IsPrefix prefix record_ → length events ≤ length prefix → prefix ≡ record_
whole_record prefix record_ events is begins long = prefix_whole prefix record_ begins (omega (arith, ap length is, length-map events event_data))

-- a prefix to which one event was added is one longer
pub one_longer : (old new : RecordPrefixData) (event : EventData) → new.events ≡ old.events ++ event ∷ [] → length new.events ≡ length old.events + 1
one_longer old new event adds = omega (arith, ap length adds, length-append old.events (event ∷ []))

-- a prefix of a record, to which the next event was added or not
pub one_more_entered : (added : Bool) (old new : RecordPrefixData) (events : List Event) (record_ : List EventData) (i : ℕ) (event : Event) (maker : ℕ)
    → map event_data events ≡ record_ → IsPrefix old.events record_ → i ≡ length old.events → i < length events → event ≡ get_or events i event
    → AddsEventTo added (event_data event, maker) old new → IsPrefix new.events record_
one_more_entered true old new events record_ i event maker is begun next less at adds =
    let before : take i record_ ≡ old.events = ap (take i) (sym begun.1) ∙ take_at old.events begun.0 i (sym next) in
    let more : take (i + 1) record_ ≡ new.events =
    ap (take (i + 1)) (sym is) ∙ take_map_more event_data events i event less
    ∙ ap (λ l. l ++ event_data (get_or events i event) ∷ []) (ap (take i) is ∙ before)
    ∙ ap (λ e. old.events ++ event_data e ∷ []) (sym at) ∙ sym adds.0 in
    subst (λ (l : List EventData). IsPrefix l record_) more (prefix_take record_ (i + 1))
one_more_entered false old new events record_ i event maker is begun next less at adds = subst (λ (p : RecordPrefixData). IsPrefix p.events record_) (sym adds) begun
