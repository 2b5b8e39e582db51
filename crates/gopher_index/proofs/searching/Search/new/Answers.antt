use Rattle.std.proofs.Common.{length, map, sym, ap, subst, ◌∙◌, arith}
use Rattle.gopher_index.specs.Best.{kept_hit}
use Rattle.gopher_page.specs.Query.{IsQuery}
use Rattle.gopher_index.proofs.Taking.{answer_of_none}
use Rattle.gopher_index.proofs.searching.Search.new.Goals as goal

pub invariant_of-result : goal.invariant_of-result
invariant_of-result c = record {
  query = subst IsQuery (sym (c.in_ok-to_vec-2.ensures.items_if_clones_equal (λ copy term is. is))) c.requires;
  plan = λ more. absurd (omega (arith, more, ap length c.new.ensures.items));
  within = omega arith;
  groups_within = omega (arith, c.new-3.ensures);
  at_rest = λ all. c.new-3.ensures;
  under_way = λ part at more. absurd (omega (arith, more, c.new-3.ensures));
  best = ap (map kept_hit) c.new-2.ensures.items ∙ answer_of_none 0 c.in_ok-to_vec-2.field-0.items;
}
