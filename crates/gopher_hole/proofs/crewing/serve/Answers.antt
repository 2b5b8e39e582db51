use Rattle.gopher_hole.proofs.Ends.{serves}
use Rattle.gopher_hole.proofs.crewing.serve.Goals as goal

pub returns-clause-served : goal.returns-clause-served
returns-clause-served g c =
    serves g.W.Write.contents c.tell_status.result c.in_ok-opened.opened.replies.home c.in_ok-opened.opened.desk c.in_ok-settings.settings c.in_ok-status.status
    c.args.output.now c.serve_and_close.new.out c.tell_status.new.output
    c.in_ok-opened.ensures.home c.in_ok-opened.ensures.desk c.in_ok-settings.ensures.settings c.in_ok-status.ensures.status c.in_ok-status.ensures.line c.tell_status.ensures.line
