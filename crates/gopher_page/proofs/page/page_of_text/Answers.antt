use Rattle.std.proofs.Common.{length, sum_by, ap, arith}
use Rattle.gopher_page.proofs.Short.{short_text}
use Rattle.gopher_page.proofs.page.page_of_text.Goals as goal

pub page_of_lines-requires-clause-short : goal.page_of_lines-requires-clause-short
page_of_lines-requires-clause-short c =
    omega (arith, c.requires.small, short_text c.args.bytes.now, ap (sum_by length) c.of_text.ensures)
