use Rattle.std.proofs.Common.{◌≡◌, ap, length, ◌∙◌}
use Rattle.gopher_crew.specs.History.{RecordPrefixData}
use Rattle.gopher_crew.specs.Version.{VersionData}
use Rattle.gopher_crew.proofs.Versions.{pages_since}
use Rattle.gopher_crew.proofs.publication.publish_next.Goals as goal

pub since-requires : goal.since-requires
since-requires g c =
    let shown = c.args.writer.now.desk.shown.value in
    let at : c.len.result ≡ length shown.prefix.events =
    c.len.ensures ∙ ap (λ (p : RecordPrefixData). length p.events) c.prefix.ensures ∙ ap (λ (v : VersionData). length v.prefix.events) c.published-shown.ensures in
    rw (c.index.ensures ∙ ap (λ (v : VersionData). v.pages) c.published-shown.ensures ∙ c.requires.version.pages_are)
    (c.requires.goes_on.0.pages_are ∙ pages_since shown.prefix.events c.args.prefix.now.events c.args.events.now c.len.result c.requires.entered c.requires.goes_on.1 at)
