use Rattle.std.proofs.Common.{Some, sym, ap, ◌∙◌}
use Rattle.std.specs.Option.{option_copied}
use Rattle.gopher_hole.specs.Aliases.{selector_for}
use Rattle.gopher_hole.proofs.AliasLemmas.{held_is}
use Rattle.gopher_hole.proofs.aliases.Aliases.selector_for.Goals as goal

pub returns-in-Some : goal.returns-in-Some
returns-in-Some c =
    ap Some c.as_slice.ensures ∙ sym (ap option_copied c.in-Some.is) ∙ c.get.ensures.value
    ∙ held_is c.self.inside.held c.args.old.now ∙ ap (λ aliases. selector_for aliases c.args.old.now) c.self.view_is

pub returns-in-None : goal.returns-in-None
returns-in-None c =
    sym (ap option_copied c.in-None.is) ∙ c.get.ensures.value
    ∙ held_is c.self.inside.held c.args.old.now ∙ ap (λ aliases. selector_for aliases c.args.old.now) c.self.view_is
