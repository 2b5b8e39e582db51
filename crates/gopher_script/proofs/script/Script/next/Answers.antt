use Rattle.std.proofs.Common.{◌∙◌, sym}
use Rattle.gopher_script.proofs.Blocks.{statements-none, statements-next}
use Rattle.gopher_script.proofs.script.Script.next.Goals as goal

pub returns-in_default : goal.returns-in_default
returns-in_default c = sym c.self.view_is ∙ statements-none _ _ c.in_default.ensures.line

pub returns : goal.returns
returns c =
    sym c.self.view_is
    ∙ statements-next _ _ _ _ _ _ _ c.in-Some.ensures.line c.in_ok-command.ensures c.in_ok-block.ensures.reply c.in_ok-block.ensures.rest
