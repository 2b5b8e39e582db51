use Rattle.std.proofs.Common.{◌≡◌, ◌+◌, ◌-◌, ◌∙◌, List, ℕ, length, map, ap, subst, arith, count_by}
use Rattle.std.specs.Borrow.{Bor}
use Rattle.std.proofs.lemmas.List.{length-map}
use Rattle.gopher_check.specs.Coverage.{finds_root_twice, is_reached, texts_among, unreached_among, unreached_data}
use Rattle.gopher_check.proofs.Reasons.{counts_add_up}
use Rattle.gopher_check.proofs.coverage.coverage_of.Goals as goal

pub overflow_sub-result : goal.overflow_sub-result
overflow_sub-result c =
    let home = c.args.home.now in
    let record_ = c.args.crawl.now in
    let texts : List (List ℕ) = map (λ path. path.now) c.in_ok-texts.texts.items in
    let others : map unreached_data c.in_ok-unreached.unreached.items ≡ unreached_among home record_ texts =
    subst (λ r. map unreached_data c.in_ok-unreached.unreached.items ≡ unreached_among home r texts) c.in_ok-reach.ensures
    (c.in_ok-unreached.ensures ∙ ap (λ (ps : List (Bor (List ℕ))). unreached_among home c.in_ok-reach.reach (map (λ path. path.now) ps)) c.deref-2.ensures.value) in
    omega (arith, counts_add_up home record_ texts c.in_ok-unreached.unreached.items others, length-map c.in_ok-texts.texts.items (λ path. path.now), c.len-2.ensures, c.len-3.ensures)

pub returns : goal.returns
returns c =
    let files = c.args.tree.now in
    let home = c.args.home.now in
    let record_ = c.args.crawl.now in
    let paths : List (List ℕ) = map (λ path. path.now) c.in_ok-paths.paths.items in
    let texts : List (List ℕ) = map (λ path. path.now) c.in_ok-texts.texts.items in
    let texts_are : texts ≡ texts_among files paths = c.in_ok-texts.ensures ∙ ap (λ (ps : List (Bor (List ℕ))). texts_among files (map (λ path. path.now) ps)) c.deref.ensures.value in
    let others : map unreached_data c.in_ok-unreached.unreached.items ≡ unreached_among home record_ texts =
    subst (λ r. map unreached_data c.in_ok-unreached.unreached.items ≡ unreached_among home r texts) c.in_ok-reach.ensures
    (c.in_ok-unreached.ensures ∙ ap (λ (ps : List (Bor (List ℕ))). unreached_among home c.in_ok-reach.reach (map (λ path. path.now) ps)) c.deref-2.ensures.value) in
    let counts : count_by (is_reached home record_) texts + length c.in_ok-unreached.unreached.items ≡ length texts = counts_add_up home record_ texts c.in_ok-unreached.unreached.items others in
    let number : length texts ≡ length c.in_ok-texts.texts.items = length-map c.in_ok-texts.texts.items (λ path. path.now) in
    let reached : c.len-2.result - c.len-3.result ≡ count_by (is_reached home record_) texts = omega (arith, counts, number, c.len-2.ensures, c.len-3.ensures) in
    record {
      paths = paths;
      are_nodes = c.in_ok-paths.ensures;
      texts_is = omega (arith, c.len.ensures, number, ap length texts_are);
      reached_is = reached ∙ ap (count_by (is_reached home record_)) texts_are;
      unreached_is = others ∙ ap (unreached_among home record_) texts_are;
      root_is = subst (λ r. c.in_ok-root_twice.root_twice ≡ finds_root_twice home r) c.in_ok-reach.ensures c.in_ok-root_twice.ensures;
    }
