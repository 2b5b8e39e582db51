use Rattle.std.proofs.Common.{◌<◌, List, ◌∷◌, [], ◌++◌, length, take, sym, ap, subst, ◌∙◌, arith}
use Rattle.std.proofs.lemmas.List.{take_all, take_more, length-take}
use Rattle.gopher_page.specs.Query.{BeginsWithAnd, TermData}
use Rattle.gopher_index.specs.Plan.{AreTermGroups}
use Rattle.gopher_index.proofs.Groups.{no_groups, one_term_more}
use Rattle.gopher_index.proofs.plan.groups_of.Goals as goal

first_term : (terms : List TermData) → BeginsWithAnd terms → 0 < length terms
first_term [] first = absurd first
first_term (term ∷ terms) first = omega arith

pub loop-number-init : goal.loop-number-init
loop-number-init c = record {
  groups_are = subst (AreTermGroups []) (sym c.new-groups.ensures.items) no_groups;
  some = λ more. absurd (omega (arith, more));
  most = omega (arith, ap length c.new-groups.ensures.items);
}

pub loop-number-preserved : goal.loop-number-preserved
loop-number-preserved c =
    let terms = c.args.terms.now in
    record {
      groups_are =
          subst (λ l. AreTermGroups l c.add_term.new.groups.items)
          (ap (λ t. take c.loop-number.number terms ++ t ∷ []) c.index-terms-number.is ∙ sym (take_more terms c.loop-number.number c.index-terms-number.result (omega arith)))
          (one_term_more (take c.loop-number.number terms) c.index-terms-number.result c.loop-number.number c.loop-number.groups.items c.add_term.new.groups.items (omega (arith, length-take c.loop-number.number terms)) c.loop-number.invariant.groups_are c.in_ok-add_term.ensures.adds);
      some = λ more. c.in_ok-add_term.ensures.some;
      most = omega (arith, c.loop-number.invariant.most, c.in_ok-add_term.ensures.most);
    }

pub returns : goal.returns
returns c =
    let terms = c.args.terms.now in
    record {
      query = c.requires;
      groups_are = subst (λ l. AreTermGroups l c.loop-number.groups.items) (take_all c.loop-number.number terms (omega (arith, c.loop-number-test.false))) c.loop-number.invariant.groups_are;
      some = c.loop-number.invariant.some (omega (arith, c.loop-number-test.false, first_term terms c.requires.first));
      most = omega (arith, c.loop-number.invariant.most);
    }
