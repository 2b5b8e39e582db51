use Rattle.std.proofs.Common.{◌≡◌, ◌∙◌, List, ap, length, rules, subst, sym}
use mathlib.Core.List.{IsPrefix}
use Rattle.gopher_catalogue.specs.declared.event.EventData.{EventData}
use Rattle.gopher_catalogue.specs.Legal.{IsLegal}
use Rattle.gopher_crew.specs.Publication.{PublicationData}
use Rattle.gopher_crew.specs.Desk.{HasAllSeen}
use Rattle.gopher_crew.proofs.desk.Desk.close.Goals as goal

pub returns-clause-closed : goal.returns-clause-closed
returns-clause-closed g c =
    let same : c.end.result ≡ c.into_inner-kept.result.events = c.end.ensures.record ∙ ap (λ (kept : PublicationData). kept.events) c.gather-sum.ensures.same in
    record {
      legal = subst (λ (events : List EventData). IsLegal events) (sym same) c.until_begins.ensures.legal;
      goes_on = subst (λ (events : List EventData). IsPrefix c.args.self events) (sym same) (search rules);
      makers = c.into_inner-kept.result.makers;
      made = c.until_begins.ensures.made ∙ ap (λ (events : List EventData). length events) (sym same);
      seen = subst (λ (events : List EventData). HasAllSeen events c.into_inner-kept.result.makers c.args.shares.items) (sym same) c.gather-sum.ensures.seen;
      counted = search rules;
    }
