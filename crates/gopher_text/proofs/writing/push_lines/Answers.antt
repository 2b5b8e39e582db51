use Rattle.std.proofs.Common.{subst}
use Rattle.std.specs.Io.{StartsWith}
use Rattle.gopher_text.proofs.TextLemmas.{begins_with_less}
use Rattle.gopher_text.proofs.writing.push_lines.Goals as goal

pub returns-in_err-push_line-clause-kept : goal.returns-in_err-push_line-clause-kept
returns-in_err-push_line-clause-kept c =
    begins_with_less c.push_line.new.out.items c.args.out.now.items _ (subst (StartsWith c.push_line.new.out.items) c.loop-line.invariant c.push_line.ensures.kept)
