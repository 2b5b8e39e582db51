use Rattle.gopher_item.proofs.FieldLemmas.{plain_fields, plain_three}
use Rattle.gopher_item.proofs.MenuLines.{stands_within}
use Rattle.gopher_item.proofs.item.item_of.Goals as goal

pub item_of_fields-requires : goal.item_of_fields-requires
item_of_fields-requires c =
    let fields = c.in-Some.ensures in
    let plain = plain_fields c.args.line.now c.requires.one fields.plain in
    let three = plain_three _ c.in-Some.first.now c.in-Some.selector.now c.in-Some.host.now c.in-Some.port.now fields.more fields.fields plain in record {
      stands = stands_within _ c.args.line.now _ c.args.start c.requires.stands fields.stands;
      first = three.0;
      selector = three.1;
      host = three.2;
    }
