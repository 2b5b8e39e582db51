use Rattle.gopher_hole.proofs.Ends.{finds_sound}
use Rattle.gopher_hole.proofs.checking.tell_sound.Goals as goal

pub returns : goal.returns
returns g c =
    finds_sound g.W.Write.contents c.end_report.result c.args.output.now c.send_text.new.output
    c.end_report.new.output c.deref.result.now c.in_ok-send_text.ensures.sent c.end_report.ensures
