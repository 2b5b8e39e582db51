use Rattle.std.proofs.Common.{◌≡◌, refl, sym, ap, ◌∙◌}
use Rattle.gopher_index.specs.Answer.{answer_of}
use Rattle.gopher_index.specs.Best.{answer_from}
use Rattle.gopher_segment.specs.Segment.{pages_of}
use Rattle.gopher_index.proofs.LeastLemmas.{answer_of_whole, answer_from_0}
use Rattle.std.proofs.lemmas.Result.{IfOk-weaker}
use Rattle.gopher_index.proofs.search.search.Goals as goal

pub returns-then-is_whole : goal.returns-then-is_whole
returns-then-is_whole c =
    let pages = pages_of c.args.parts.now in
    let whole = answer_of_whole c.in_ok-best.best pages c.args.query.now (sym c.is_whole.ensures ∙ c.if-is_whole.true) c.in_ok-best.ensures.best in
    IfOk-weaker c.hits.result (λ hits. hits.items ≡ c.in_ok-best.best.hits) (λ hits. hits.items ≡ answer_of pages c.args.query.now) (λ hits e. e ∙ whole) c.hits.ensures

pub returns : goal.returns
returns c =
    let pages = pages_of c.args.parts.now in
    let whole : c.in_ok-best-2.best.hits ≡ answer_of pages c.args.query.now =
    c.in_ok-best-2.ensures.best ∙ ap (λ least. answer_from least pages c.args.query.now) (c.in_ok-best-2.ensures.plain refl) ∙ answer_from_0 pages c.args.query.now in
    IfOk-weaker c.hits-2.result (λ hits. hits.items ≡ c.in_ok-best-2.best.hits) (λ hits. hits.items ≡ answer_of pages c.args.query.now) (λ hits e. e ∙ whole) c.hits-2.ensures
