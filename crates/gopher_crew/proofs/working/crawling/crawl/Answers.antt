use Rattle.std.proofs.Common.{◌≡◌, List, drop, length, subst, sym, ◌∙◌}
use Rattle.std.proofs.lemmas.List.{take_at}
use Rattle.std.specs.List.{AllZip}
use Rattle.gopher_crew.specs.Share.{ShareData}
use Rattle.gopher_crew.specs.Work.{Works}
use Rattle.gopher_crew.specs.declared.working.WorkEnd.{WorkEnd}
use Rattle.gopher_crew.proofs.Rounding.{all_from, same_sums}
use Rattle.gopher_crew.proofs.working.crawling.crawl.Goals as goal

pub returns-clause-each : goal.returns-clause-each
returns-clause-each g c =
    let F = g.row.F.Denot in
    let W = WorkEnd F g.row.C.Denot in
    let P = F × ShareData in
    let pairs : List P = c.args.pairs.items in
    let ended : List W = c.run_all.new.workers in
    let written = take_at ended (drop (length ended) c.workers_of.new.workers.items) c.workers_of.new.workers.len (c.run_all.ensures.len ∙ c.as_mut_slice.ensures.len) in
    let H : P → W → Type 0 = λ p w. (w.fetcher ≡ p.0) × (w.share ≡ p.1) in
    let S : P → W → Type 0 = λ p w. Works g.F.Calls.fetches g.F.Calls.called c.args.desk.now p w in
    let idle = subst (λ (workers : List W). AllZip H pairs workers) (sym c.as_mut_slice.ensures.value) c.workers_of.ensures.idle in
    subst (λ (workers : List W). AllZip S pairs workers) (sym written)
    (all_from H (λ (v w : W). S (v.fetcher, v.share) w) S (λ p v w has works. subst (λ (q : P). S q w) (λ i. (has.0 i, has.1 i)) works)
    pairs c.as_mut_slice.result.now ended idle c.run_all.ensures.each)

pub returns-clause-parts : goal.returns-clause-parts
returns-clause-parts g c =
    let F = g.row.F.Denot in
    let W = WorkEnd F g.row.C.Denot in
    let P = F × ShareData in
    same_sums (λ (p : P) (w : W). Works g.F.Calls.fetches g.F.Calls.called c.args.desk.now p w) (λ (p : P). p.1.parts) (λ (w : W). w.share.parts)
    (λ p w works. works.same_parts) c.args.pairs.items _ (returns-clause-each g c)
