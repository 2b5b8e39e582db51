use Rattle.std.proofs.Common.{drop}
use Rattle.gopher_crew.specs.Version.{last_of}
use Rattle.gopher_crew.proofs.Publishing.{shows_same}
use Rattle.gopher_crew.proofs.publication.publish_last.Goals as goal

pub publish_as-writer-requires : goal.publish_as-writer-requires
publish_as-writer-requires g c next is =
    let now = c.args.writer.desk.shown.value in
    shows_same g.C.Crew.history _ _ now (last_of now (drop c.args.writer.behind c.args.writer.log.items)) next c.requires is
