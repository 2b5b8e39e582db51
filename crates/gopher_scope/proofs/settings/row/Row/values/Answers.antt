use Rattle.gopher_scope.proofs.Elements.{values_read-array}
use Rattle.gopher_scope.proofs.settings.row.Row.values.Goals as goal

pub returns-in-Some-as_array : goal.returns-in-Some-as_array
returns-in-Some-as_array c =
    rw c.deref.ensures.value (values_read-array _ _ _ (rw c.in-Some.is at c.value.ensures) (rw c.in-Some-as_array.is at c.as_array.ensures))
