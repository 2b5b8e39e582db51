use Rattle.std.proofs.Common.{◌∙◌, ap, rules, sym}
use Rattle.std.specs.List.{list_any}
use Rattle.example_crawl.specs.Table.{is_lack}
use Rattle.example_crawl.proofs.Telling.{final, lacks_of}
use Rattle.example_crawl.proofs.final_hits.Goals as goal

pub returns : goal.returns
returns c =
    final c.args.catalogue.now c.args.query.now c.in-Ok.hits.items c.in-Ok.ensures.legal (search rules) (search rules)
    (ap (list_any is_lack) (sym c.record.ensures.events) ∙ sym (lacks_of c.record.result.now) ∙ search rules) c.in-Ok.ensures.complete
