use Rattle.gopher_hole.proofs.AskedLemmas.{server_says}
use Rattle.gopher_hole.proofs.program.run_serve.Goals as goal

pub returns-clause-told : goal.returns-clause-told
returns-clause-told g c =
    server_says g.E.Write.contents c.args.error.now c.tell_end.new.error c.serve-end.result c.tell_end.result c.tell_end.ensures.exit c.serve-end.ensures.fault c.tell_end.ensures.told
