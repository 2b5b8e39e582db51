use Rattle.std.proofs.Common.{◌≡◌, ◌<◌, true, [], ◌∷◌, map, min, refl, sym, ap, ◌∙◌, arith}
use Rattle.std.proofs.lemmas.Bool.{lt-ltb}
use Rattle.std.specs.Arc.{arc_value}
use Rattle.gopher_page.specs.Page.{PageData}
use Rattle.gopher_page.specs.Query.{count_of_term}
use Rattle.std.proofs.lemmas.Result.{on_ok_weaker}
use Rattle.gopher_index.proofs.PostingLemmas.{one_matches, one_scores}
use Rattle.gopher_index.proofs.Taking.{takes_scored}
use Rattle.gopher_index.proofs.TieLemmas.{same_there}
use Rattle.gopher_index.proofs.by_postings.insert_posting.Goals as goal

pub returns-clause-takes : goal.returns-clause-takes
returns-clause-takes c = λ page found positive count.
    let term = c.args.term.now in
    let some : 0 < count_of_term page.counts term = omega arith in
    let same : c.deref.result.now ≡ page = c.deref.ensures ∙ same_there (map arc_value c.args.ties.now.pages.now) c.args.index (arc_value c.page.result.now) page c.page.ensures found in
    on_ok_weaker c.insert.result (λ takes. takes_scored (term ∷ []) page page true c.from-score.result c.args.best.now c.insert.new.best refl
    (sym (one_matches term c.requires.and page.counts ∙ lt-ltb 0 (count_of_term page.counts term) some)) refl
    (c.from-score.ensures ∙ c.whole_count.ensures (count ∙ ap (λ (p : PageData). min (count_of_term p.counts term) 255) (sym same)) ∙ ap (λ (p : PageData). count_of_term p.counts term) same ∙ sym (one_scores term c.requires.and page.counts))
    takes.least takes.hits)
    (c.insert.ensures.takes page found)
