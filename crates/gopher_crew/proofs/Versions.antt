-- The pages of a record and of a prefix of it.
use Rattle.std.proofs.Common.{◌≡◌, ℕ, ◌<◌, ◌≤◌, ◌-◌, ◌++◌, [], ◌∷◌, List, drop, get_or, map, take, length, sym, ap, ◌∙◌, arith}
use Rattle.std.proofs.Math.Seq.{drop-append_seam}
use Rattle.std.proofs.lemmas.Grind.{flat_map-append}
use Rattle.std.proofs.lemmas.List.{append-nil, drop-map, length-drop, take_all}
use mathlib.Core.List.{IsPrefix}
use Rattle.gopher_catalogue.specs.declared.event.Event.{Event}
use Rattle.gopher_catalogue.specs.declared.event.EventData.{EventData}
use Rattle.gopher_catalogue.specs.EventOf.{event_data}
use Rattle.gopher_catalogue.specs.Pages.{page_of_event, pages_found}

-- the page of a record of one event
pub one_event : (events : List Event) (event : Event) → 1 ≤ length events → length events < 2 → pages_found (map event_data events) ≡ page_of_event (event_data (get_or events 0 event))
unfolding pages_found
one_event [] event some one = absurd (omega arith)
one_event (first ∷ []) event some one = append-nil (page_of_event (event_data first))
one_event (first ∷ second ∷ events) event some one = absurd (omega arith)

-- the pages of a record are those of a prefix of it and those of the events since
pub pages_since : (a b : List EventData) (events : List Event) (count : ℕ) → map event_data events ≡ b → IsPrefix a b → count ≡ length a
    → pages_found b ≡ pages_found a ++ pages_found (map event_data (take (length events - count) (drop count events)))
unfolding pages_found
pages_since a b events count is begins at =
    let rest : begins.0 ≡ map event_data (take (length events - count) (drop count events)) =
    sym (drop-append_seam a begins.0) ∙ ap (drop (length a)) (begins.1 ∙ sym is) ∙ ap (λ n. drop n (map event_data events)) (sym at) ∙ drop-map event_data count events
    ∙ ap (map event_data) (sym (take_all (length events - count) (drop count events) (omega (arith, length-drop count events)))) in
    ap pages_found (sym begins.1) ∙ flat_map-append page_of_event a begins.0 ∙ ap (λ l. pages_found a ++ pages_found l) rest
