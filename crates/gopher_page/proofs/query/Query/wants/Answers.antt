use Rattle.std.proofs.Common.{◌≡◌, ◌∙◌, not, count_by, rules}
use Rattle.gopher_page.specs.Query.{is_not}
use Rattle.gopher_page.proofs.Terms.{length-wanted}
use Rattle.gopher_page.proofs.query.Query.wants.Goals as goal

pub returns : goal.returns
returns c =
    let counted : c.count.result ≡ count_by (λ term. not (is_not term.operator)) c.args.self.now = search rules in
    counted ∙ length-wanted c.args.self.now
