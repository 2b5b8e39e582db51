use Rattle.gopher_script.proofs.Refusals.{refused_step, taken_step}
use Rattle.gopher_script.specs.Parts.{fault_of_place, made_place}
use Rattle.gopher_script.specs.Stage.{page_step}
use Rattle.gopher_script.proofs.crawl.found.Goals as goal

pub returns-in-Ok : goal.returns-in-Ok
returns-in-Ok c =
    taken_step (fault_of_place c.args.parts.now) (made_place c.args.parts.now) c.in-Ok.place c.args.crawl.now c.found_at.new.crawl (λ place. page_step c.args.crawl.now c.args.number place c.args.reply.now) c.found_at.result (rw c.in-Ok.is at c.make.ensures) c.found_at.ensures

pub returns-in-Err : goal.returns-in-Err
returns-in-Err c =
    refused_step (fault_of_place c.args.parts.now) (made_place c.args.parts.now) c.in-Err.fault c.args.crawl.now (page_step c.args.crawl.now c.args.number (made_place c.args.parts.now) c.args.reply.now) c.refused_line.result (rw c.in-Err.is at c.make.ensures) (rw c.code.ensures at c.refused_line.ensures.cause) (rw c.code.ensures at c.refused_line.ensures.line)
