use Rattle.std.proofs.Common.{◌≡◌, ℕ, List, ap, sym, subst, ◌∙◌, rules}
use Rattle.std.proofs.lemmas.List.Sorted.{answers_always, ranks_by}
use Rattle.std.proofs.lemmas.Result.{IfOk-weaker}
use Rattle.std.specs.Cmp.Lexicographic.{nat_list_cmp_total}
use Rattle.gopher_page.specs.Counts.{is_before}
use Rattle.gopher_segment.specs.Rows.{AreRowsInOrder, TellAlike, joined_rows}
use Rattle.gopher_segment.proofs.JoinLemmas.{joined_in_order, sorted_alike, joined_alike}
use Rattle.gopher_segment.proofs.joining.join.Goals as goal

pub returns-clause-order : goal.returns-clause-order
returns-clause-order c =
    let rows : List (List ℕ × List (ℕ × ℕ)) = c.sort_by.new.self.items in
    let sorted = c.in_ok-sort_by.ensures.sorted (λ x y. is_before x.0 y.0) (ranks_by nat_list_cmp_total (λ (x : List ℕ × List (ℕ × ℕ)). x.0)) (answers_always _ _ _ (λ f a r g h. search rules)) in
    let same : joined_rows c.deref.result.now ≡ joined_rows rows = ap joined_rows c.deref.ensures.value in
    IfOk-weaker c.table_of.result (λ table. table ≡ joined_rows c.deref.result.now) (λ table. AreRowsInOrder table)
    (λ table whole. subst AreRowsInOrder (sym (whole ∙ same)) (joined_in_order rows sorted)) c.table_of.ensures

pub returns-clause-alike : goal.returns-clause-alike
returns-clause-alike c =
    let rows : List (List ℕ × List (ℕ × ℕ)) = c.sort_by.new.self.items in
    let stable = c.in_ok-sort_by.ensures.stable (λ x y. is_before x.0 y.0) (ranks_by nat_list_cmp_total (λ (x : List ℕ × List (ℕ × ℕ)). x.0)) (answers_always _ _ _ (λ f a r g h. search rules)) in
    let same : joined_rows c.deref.result.now ≡ joined_rows rows = ap joined_rows c.deref.ensures.value in
    IfOk-weaker c.table_of.result (λ table. table ≡ joined_rows c.deref.result.now) (λ table. TellAlike c.args.rows.items table)
    (λ table whole. subst (TellAlike c.args.rows.items) (sym (whole ∙ same)) (λ word. joined_alike rows word ∙ sorted_alike c.args.rows.items rows stable word)) c.table_of.ensures
