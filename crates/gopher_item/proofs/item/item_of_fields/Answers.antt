use Rattle.std.proofs.Common.{◌≡◌, length, sym, subst, ap, ◌∙◌, arith}
use Rattle.std.specs.Arc.{arc_value}
use Rattle.gopher_item.specs.Special.{is_special}
use Rattle.gopher_bytes.specs.Trim.{trim_spaces}
use Rattle.gopher_item.specs.MenuLine.{StandsAt, tabbed}
use Rattle.gopher_item.proofs.FieldLemmas.{plain_parts, whole_field}
use Rattle.gopher_bytes.proofs.Trims.{none_in_trim, trim_spaces-same_length, trim_spaces-trim_spaces}
use Rattle.gopher_item.proofs.item.item_of_fields.Goals as goal

pub in_text-requires : goal.in_text-requires
in_text-requires c =
    let first = c.args.first.now in
    let host = c.args.host.now in
    let parts = plain_parts first (omega arith) c.requires.first in
    let size : length (trim_spaces host) ≡ length host = sym (ap length c.trim_spaces-trimmed.ensures) ∙ c.if-trimmed-host.true in record {
      fields = record {
        kind = parts.0;
        display = parts.1;
        selector = c.requires.selector;
        host = c.requires.host;
        host_trimmed = trim_spaces-same_length host size;
        port = omega (arith, c.in-Some.ensures.bound);
      };
      stands = subst (λ f. StandsAt (arc_value c.args.text.now) c.args.start (tabbed f c.args.selector.now host)) (whole_field first (omega arith)) c.requires.stands;
    }

pub of_fields-requires : goal.of_fields-requires
of_fields-requires c =
    let parts = plain_parts c.args.first.now (omega arith) c.requires.first in
    record {
      kind = parts.0;
      display = parts.1;
      selector = c.requires.selector;
      host = rw c.trim_spaces-trimmed.ensures (none_in_trim is_special c.args.host.now c.requires.host);
      host_trimmed = rw c.trim_spaces-trimmed.ensures (trim_spaces-trim_spaces c.args.host.now);
      port = omega (arith, c.in-Some.ensures.bound);
    }
