use Rattle.gopher_page.proofs.Joining.{within_length}
use Rattle.gopher_page.proofs.repeats.part_of.Goals as goal

pub returns : goal.returns
returns c = rw (c.min-2.ensures, c.min.ensures) (within_length c.args.high.now c.args.start c.args.end)
