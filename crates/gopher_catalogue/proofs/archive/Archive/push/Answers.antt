use Rattle.std.proofs.Common.{◌∙◌, ap, map, sym}
use Rattle.std.proofs.lemmas.List.{map-append}
use Rattle.gopher_catalogue.specs.EventOf.{event_data}
use Rattle.gopher_catalogue.specs.Pages.{pages_indexed}
use Rattle.gopher_catalogue.proofs.ArchiveLemmas.{indexed-no_page}
use Rattle.gopher_catalogue.proofs.archive.Archive.push.Goals as goal

pub invariant_of-self : goal.invariant_of-self
invariant_of-self c =
    c.self.invariant
    ∙ sym (ap (λ events. pages_indexed (map event_data events)) c.push_reserved.ensures.items ∙ ap pages_indexed (map-append event_data c.self.inside.events.items _) ∙ indexed-no_page _ _ c.requires.no_page)
