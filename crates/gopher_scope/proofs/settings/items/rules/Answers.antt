use Rattle.gopher_scope.proofs.Elements.{table_problem-none}
use Rattle.gopher_scope.specs.declared.settings.tables.Element.TheVariants.{Rule}
use Rattle.gopher_scope.proofs.settings.items.rules.Goals as goal

pub rule-requires : goal.rule-requires
rule-requires c =
    table_problem-none Rule c.args.values.now c.loop-value.value-index c.value-item.result _ c.requires c.loop-value-test.true c.value-item.is (rw c.in-Some.is at c.as_table.ensures)
