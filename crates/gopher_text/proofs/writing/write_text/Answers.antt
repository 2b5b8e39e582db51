use Rattle.std.proofs.Common.{◌≡◌, false}
use Rattle.std.proofs.lemmas.List.Elements.{recursion_from_All}
use Rattle.gopher_text.specs.Line.{has_feed}
use Rattle.gopher_text.specs.Text.{lines_in}
use Rattle.gopher_text.proofs.TextLemmas.{read_back}
use Rattle.gopher_text.proofs.writing.write_text.Goals as goal

pub returns-clause-read_back : goal.returns-clause-read_back
returns-clause-read_back c = read_back (lines_in c.args.lines.now) (recursion_from_All (λ line. has_feed line ≡ false) (lines_in c.args.lines.now) c.requires)
