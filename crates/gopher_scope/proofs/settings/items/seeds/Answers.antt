use Rattle.gopher_scope.proofs.Elements.{table_problem-none}
use Rattle.gopher_scope.specs.declared.settings.tables.Element.TheVariants.{Seed}
use Rattle.gopher_scope.proofs.settings.items.seeds.Goals as goal

pub seed-requires : goal.seed-requires
seed-requires c =
    table_problem-none Seed c.args.values.now c.loop-value.value-index c.value-item.result _ c.requires c.loop-value-test.true c.value-item.is (rw c.in-Some.is at c.as_table.ensures)
