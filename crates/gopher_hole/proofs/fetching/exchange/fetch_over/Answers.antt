use Rattle.std.proofs.Common.{rules, subst, ◌∙◌}
use Rattle.std.specs.Io.KnownBytes.{Appends}
use Rattle.gopher_hole.specs.Fetch.{request_bytes}
use Rattle.gopher_hole.proofs.Fetches.{fetch_unread}
use Rattle.gopher_hole.proofs.fetching.exchange.fetch_over.Goals as goal

pub returns-in-Ok-read_reply : goal.returns-in-Ok-read_reply
returns-in-Ok-read_reply g c =
    let sent : Appends (g.S.Write.contents c.args.stream.now.device) (g.S.Write.contents c.send.new.writer.device) (request_bytes c.args.place.now) =
    subst (Appends _ _) (c.deref.ensures.value ∙ c.in-Ok.ensures) c.in-Ok-send.ensures.all in
    record {
      middle = c.send.new.writer;
      talked = record { sent = sent; read = c.in-Ok-read_reply.ensures.read; counted = c.send.ensures.interruptions.0 };
      whole = c.in-Ok-read_reply.ensures.whole;
      few = search rules;
    }

pub returns : goal.returns
returns g c =
    let sent : Appends (g.S.Write.contents c.args.stream.now.device) (g.S.Write.contents c.send.new.writer.device) (request_bytes c.args.place.now) =
    subst (Appends _ _) (c.deref.ensures.value ∙ c.in-Ok.ensures) c.in-Ok-send.ensures.all in
    fetch_unread g.S.Write.contents g.S.Read.remaining c.args.limit (request_bytes c.args.place.now) c.args.stream.now c.send.new.writer c.read_reply.new.reader
    c.in-Err.fault c.why_of.result c.why_of.ensures sent c.send.ensures.interruptions.0 c.in-Err.ensures.refused
