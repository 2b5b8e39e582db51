use Rattle.std.proofs.Common.{◌≡◌, true, map, take, sym, ap, ◌∙◌, arith}
use Rattle.std.specs.Arc.{arc_value}
use Rattle.std.specs.List.{filter, take-map}
use Rattle.std.specs.Prelude.{nat_le}
use Rattle.std.proofs.lemmas.Bool.{le-leb, lt-leb}
use Rattle.gopher_index.specs.Answer.{ranked}
use Rattle.gopher_index.specs.Best.{BestData, hit_with, ranked_hit, reaches}
use Rattle.gopher_index.proofs.AnswerLemmas.{best_push, best_sorted}
use Rattle.gopher_index.proofs.Taking.{filter_kept, filter_left_out}
use Rattle.gopher_index.proofs.TieLemmas.{beyond_takes}
use Rattle.gopher_index.proofs.best.Best.insert.Goals as goal
use Rattle.gopher_index.proofs.best.Best.insert.Goals.{then-score-self-via-then-score-self, then-score-self-via-else-score-self+then-rejects}

pub returns-then-score-self-clause-hits : goal.returns-then-score-self-clause-hits
returns-then-score-self-clause-hits c = λ hits e.
    let old = c.args.self.now in
    let hit = hit_with c.args.score (arc_value c.args.page.now) in
    elim c.then-score-self.branch [
      | then-score-self-via-then-score-self w ↦ e ∙ ap (λ l. take 50 (ranked l)) (filter_left_out old.least hits hit (lt-leb old.least c.args.score (omega (arith, w.if-score-self.true, ap (λ (b : BestData). b.least) c.self.view_is))))
      | then-score-self-via-else-score-self+then-rejects w ↦ (beyond_takes old hit (sym w.rejects.ensures ∙ w.if-rejects.true)).hits hits e
    ]

pub returns-clause-hits : goal.returns-clause-hits
returns-clause-hits c = λ hits e.
    let least = c.args.self.now.least in
    let hit = hit_with c.args.score (arc_value c.args.page.now) in
    let high = filter (reaches least) hits in
    let best = map ranked_hit c.self.inside.ranked.items in
    let before : best ≡ take 50 (ranked high) = ap (λ (b : BestData). b.hits) c.self.view_is ∙ e in
    let kept : nat_le least c.args.score ≡ true = le-leb least c.args.score (omega (arith, c.if-score-self.false, ap (λ (b : BestData). b.least) c.self.view_is)) in
    ap (map ranked_hit) c.truncate.ensures.items ∙ sym (take-map ranked_hit 50 c.put.new.best.items) ∙ ap (take 50) (c.in_ok-put.ensures (best_sorted high best before))
    ∙ best_push high best hit before ∙ ap (λ l. take 50 (ranked l)) (sym (filter_kept least hits hit kept))
