use Rattle.std.proofs.Common.{◌≡◌, ◌<◌, ◌∙◌, length, arith, sym, rules}
use Rattle.std.specs.Arc.{arc_value}
use Rattle.gopher_catalogue.proofs.ArchiveLemmas.{none_taken, full_taken, page_taken}
use Rattle.gopher_catalogue.proofs.archive.index_page.Goals as goal

pub returns-in_default : goal.returns-in_default
returns-in_default c = record { ok = none_taken c.args.event.now c.args.index.now c.in_default.not-Found c.requires; err = tt }

pub returns-then-len-eq-MAX_PAGES-clause-ok : goal.returns-then-len-eq-MAX_PAGES-clause-ok
returns-then-len-eq-MAX_PAGES-clause-ok c =
    full_taken c.args.event.now c.args.index.now (sym c.len.ensures ∙ c.if-len-eq-MAX_PAGES.true)

pub returns-clause-ok : goal.returns-clause-ok
returns-clause-ok c =
    let same : arc_value c.in_ok-clone.field-0 ≡ arc_value c.in-Found.page = search rules in
    let few : length c.args.index.now < 65536 = omega (arith, c.requires, c.len.ensures, c.if-len-eq-MAX_PAGES.false) in
    c.in_ok-add.ensures ∙ page_taken c.args.event.now c.args.index.now c.in-Found.field-0 c.in-Found.page c.in_ok-clone.field-0 c.in-Found.is same few
