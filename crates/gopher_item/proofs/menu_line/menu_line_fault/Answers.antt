use Rattle.std.proofs.Common.{sym}
use Rattle.std.proofs.lemmas.Bool.{and_parts, not-true, or_parts}
use Rattle.gopher_item.proofs.ReadBack.{host_is_plain, kind_is_plain}
use Rattle.gopher_item.proofs.menu_line.menu_line_fault.Goals as goal

pub returns-else-is_bad_type-clause-plain : goal.returns-else-is_bad_type-clause-plain
returns-else-is_bad_type-clause-plain c = λ port few.
    let host = host_is_plain c.args.host.now (not-true _ (and_parts _ _ (sym c.if-not-is_host.ensures)).1) in
    record {
      kind = kind_is_plain c.args.kind (or_parts _ _ (or_parts _ _ (sym c.if-is_bad_type.ensures)).0).0;
      display = sym c.if-has_special.ensures;
      selector = not-true _ (and_parts _ _ (sym c.if-not-is_selector.ensures)).1;
      host = host.0;
      host_trimmed = host.1;
      port = few;
    }
