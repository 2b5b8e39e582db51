use Rattle.std.proofs.Common.{◌≡◌, ◌++◌, ◌∷◌, [], ap, sym, ◌∙◌, map}
use Rattle.gopher_catalogue.specs.declared.event.Event.{Event}
use Rattle.gopher_catalogue.specs.EventOf.{event_data}
use Rattle.gopher_catalogue.specs.Pages.{page_of_event, pages_found}
use Rattle.gopher_page.specs.Page.{PageData}
use Rattle.gopher_crew.proofs.Versions.{one_event}
use Rattle.gopher_crew.proofs.publication.update.Change.since.Goals as goal

pub returns-in-Found : goal.returns-in-Found
returns-in-Found c =
    let found : pages_found (map event_data c.args.events.now) ≡ page_of_event (event_data c.event-item.result) =
    one_event c.args.events.now _ c.in-len1.len_at_least c.in-len1.len_below ∙ ap (λ (e : Event). page_of_event (event_data e)) (sym c.event-item.is) in
    sym (c.requires ∙ ap (λ l. c.args.before.now ++ l) (found ∙ ap (λ (e : Event). page_of_event (event_data e)) c.in-Found.is ∙ ap (λ (p : PageData). p ∷ []) (sym c.in_ok-clone.ensures.cases)))
