use Rattle.std.proofs.Common.{◌≤◌, ◌∙◌, ◌++◌, length, map, take, ap, sym, subst}
use Rattle.std.proofs.lemmas.List.{map-append}
use Rattle.gopher_catalogue.specs.EventOf.{event_data}
use Rattle.gopher_catalogue.specs.Pages.{page_of_event, pages_indexed}
use Rattle.gopher_catalogue.proofs.ArchiveLemmas.{few_indexed, indexed-push}
use Rattle.gopher_catalogue.proofs.archive.Archive.add.Goals as goal

pub index_page-requires : goal.index_page-requires
index_page-requires c = subst (λ pages. length pages ≤ 65536) (sym c.self.invariant) (few_indexed (map event_data c.self.inside.events.items))

pub invariant_of-self-2 : goal.invariant_of-self-2
invariant_of-self-2 c =
    c.in_ok-index_page.ensures.ok
    ∙ ap (λ pages. take 65536 (pages ++ page_of_event (event_data c.args.event))) c.self.invariant
    ∙ sym (ap (λ events. pages_indexed (map event_data events)) c.push_reserved.ensures.items ∙ ap pages_indexed (map-append event_data c.self.inside.events.items _) ∙ indexed-push _ _)
