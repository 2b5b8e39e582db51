use Rattle.gopher_item.proofs.FieldLemmas.{plain_fields, plain_three}
use Rattle.gopher_item.proofs.entry_parts.item_of.Goals as goal

pub item_of_fields-requires : goal.item_of_fields-requires
item_of_fields-requires c =
    let fields = c.in-Some.ensures in
    let plain = plain_fields c.args.line.now c.requires fields.plain in
    let three = plain_three _ c.in-Some.first.now c.in-Some.selector.now c.in-Some.host.now c.in-Some.port.now fields.more fields.fields plain in record {
      first = three.0;
      selector = three.1;
      host = three.2;
    }
