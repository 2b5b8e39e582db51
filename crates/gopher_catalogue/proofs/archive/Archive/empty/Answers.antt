use Rattle.std.proofs.Common.{◌∙◌, ap, map, sym}
use Rattle.gopher_catalogue.specs.EventOf.{event_data}
use Rattle.gopher_catalogue.specs.Pages.{pages_indexed}
use Rattle.gopher_catalogue.proofs.ArchiveLemmas.{indexed-none}
use Rattle.gopher_catalogue.proofs.archive.Archive.empty.Goals as goal

pub invariant_of-result : goal.invariant_of-result
invariant_of-result c = c.new-2.ensures ∙ sym (ap (λ events. pages_indexed (map event_data events)) c.new.ensures.items ∙ indexed-none)
