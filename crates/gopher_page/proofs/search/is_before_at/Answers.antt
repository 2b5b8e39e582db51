use Rattle.std.proofs.Common.{[], sym, ap, ◌∙◌}
use Rattle.std.proofs.lemmas.Option.{get_or_from_slice_get}
use Rattle.std.specs.Ordering.{is_lt}
use Rattle.gopher_page.specs.Counts.{is_before}
use Rattle.gopher_page.proofs.search.is_before_at.Goals as goal

pub returns : goal.returns
returns c =
    c.is_lt.ensures ∙ ap is_lt c.cmp.ensures
    ∙ ap (λ word. is_before word c.args.sought.now) (sym (get_or_from_slice_get c.args.words.now c.args.index c.get.result.now [] c.get.ensures))
