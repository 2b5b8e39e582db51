use Rattle.std.proofs.Common.{◌≡◌, ◌+◌, ◌∙◌, ◌++◌, ◌∷◌, [], sym, ap, map, take}
use Rattle.std.proofs.lemmas.List.{map-append, take_more}
use Rattle.gopher_catalogue.specs.EventOf.{event_data}
use Rattle.gopher_catalogue.specs.Pages.{pages_found}
use Rattle.gopher_check.specs.Reach.{places_found}
use Rattle.gopher_check.proofs.Sets.{adds_next, adds_none, found_append}
use Rattle.gopher_check.proofs.reach.found_in.Goals as goal

pub loop-event-init : goal.loop-event-init
unfolding pages_found
loop-event-init c = adds_none c.new-set.result

pub loop-event-preserved : goal.loop-event-preserved
loop-event-preserved c =
    let events = c.args.events.now in
    let i = c.loop-event.event-index in
    let event = c.event-item.result in
    let before = map event_data (take i events) in
    let next : take (i + 1) events ≡ take i events ++ event ∷ [] = take_more events i event c.loop-event-test.true ∙ ap (λ one. take i events ++ one ∷ []) (sym c.event-item.is) in
    let grown : places_found (map event_data (take (i + 1) events)) ≡ places_found before ++ places_found (event_data event ∷ []) =
    ap (λ some. places_found (map event_data some)) next ∙ ap places_found (map-append event_data (take i events) (event ∷ [])) ∙ found_append before (event_data event ∷ []) in
    adds_next (places_found before) (places_found (event_data event ∷ [])) (places_found (map event_data (take (i + 1) events))) c.new-set.result c.loop-event.set c.add_found.new.set grown
    c.loop-event.invariant c.in_ok-add_found.ensures
