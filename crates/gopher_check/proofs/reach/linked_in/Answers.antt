use Rattle.std.proofs.Common.{◌≡◌, ◌+◌, ◌∙◌, ◌++◌, ◌∷◌, [], sym, ap, map, take}
use Rattle.std.proofs.lemmas.List.{map-append, take_more}
use Rattle.gopher_catalogue.specs.EventOf.{event_data}
use Rattle.gopher_check.specs.Reach.{places_linked, places_linked_by}
use Rattle.gopher_check.proofs.Sets.{adds_next, linked_push}
use Rattle.gopher_check.proofs.reach.linked_in.Goals as goal

pub loop-event-preserved : goal.loop-event-preserved
loop-event-preserved c =
    let events = c.args.events.now in
    let i = c.loop-event.event-index in
    let event = c.event-item.result in
    let before = map event_data (take i events) in
    let next : take (i + 1) events ≡ take i events ++ event ∷ [] = take_more events i event c.loop-event-test.true ∙ ap (λ one. take i events ++ one ∷ []) (sym c.event-item.is) in
    let grown : places_linked (map event_data (take (i + 1) events)) ≡ places_linked before ++ places_linked_by (event_data event) =
    ap (λ some. places_linked (map event_data some)) next ∙ ap places_linked (map-append event_data (take i events) (event ∷ [])) ∙ linked_push before (event_data event) in
    adds_next (places_linked before) (places_linked_by (event_data event)) (places_linked (map event_data (take (i + 1) events))) c.new-set.result c.loop-event.set c.add_linked.new.set grown
    c.loop-event.invariant c.in_ok-add_linked.ensures
