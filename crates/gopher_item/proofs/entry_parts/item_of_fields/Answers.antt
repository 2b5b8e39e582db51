use Rattle.gopher_item.specs.Special.{is_special}
use Rattle.std.proofs.Common.{arith}
use Rattle.gopher_item.proofs.FieldLemmas.{plain_parts}
use Rattle.gopher_bytes.proofs.Trims.{none_in_trim, trim_spaces-trim_spaces}
use Rattle.gopher_item.proofs.entry_parts.item_of_fields.Goals as goal

pub of_fields-requires : goal.of_fields-requires
of_fields-requires c =
    let parts = plain_parts c.args.first.now (omega arith) c.requires.first in
    record {
      kind = parts.0;
      display = parts.1;
      selector = c.requires.selector;
      host = rw c.trim_spaces-host.ensures (none_in_trim is_special c.args.host.now c.requires.host);
      host_trimmed = rw c.trim_spaces-host.ensures (trim_spaces-trim_spaces c.args.host.now);
      port = omega (arith, c.in-Some.ensures.bound);
    }
