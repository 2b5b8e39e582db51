use Rattle.std.proofs.Common.{◌≡◌, List, ◌∷◌, ◌++◌, map, Err, Global, rules, sym, ap, subst, ◌∙◌}
use Rattle.std.specs.Vec.Iter.{into_iter_items}
use Rattle.gopher_tree.specs.Files.{File}
use Rattle.gopher_tree.specs.Fault.{fault_after, files_fault, AddsFile, RefusesFile, MakesTree}
use Rattle.gopher_tree.specs.Found.{file_data}
use Rattle.gopher_tree.proofs.FaultLemmas.{makes_refused, makes_on}
use Rattle.gopher_tree.proofs.tree.Tree.of_files.Goals as goal

pub returns-in_err-tree : goal.returns-in_err-tree
returns-in_err-tree c =
    let done : List File = c.loop-path.tree in
    let rest : List File = map (file_data {A = Global} {B = Global}) (into_iter_items c.next.new.self) in
    let file : File = (c.in-Some.path.items, c.in-Some.bytes.items) in
    let files : List File = map (file_data {A = Global} {B = Global}) c.args.files.items in
    let items : into_iter_items c.loop-path.path-iterator ≡ (c.in-Some.path, c.in-Some.bytes) ∷ into_iter_items c.next.new.self = search rules in
    let due = ap (λ l. fault_after done (map (file_data {A = Global} {B = Global}) l)) (sym items) ∙ c.loop-path.invariant.0 in
    let all = ap (λ l. done ++ map (file_data {A = Global} {B = Global}) l) (sym items) ∙ c.loop-path.invariant.2 in
    let adds : RefusesFile done file c.in_err-tree.field-0.0 = search rules in
    let result_is : c.from_residual.result ≡ Err c.in_err-tree.field-0.0 = search rules in
    subst (MakesTree files) (sym result_is) (makes_refused done rest file files c.in_err-tree.field-0.0 due all c.loop-path.invariant.1 adds)

pub loop-path-preserved : goal.loop-path-preserved
loop-path-preserved c =
    let done : List File = c.loop-path.tree in
    let rest : List File = map (file_data {A = Global} {B = Global}) (into_iter_items c.next.new.self) in
    let file : File = (c.in-Some.path.items, c.in-Some.bytes.items) in
    let files : List File = map (file_data {A = Global} {B = Global}) c.args.files.items in
    let items : into_iter_items c.loop-path.path-iterator ≡ (c.in-Some.path, c.in-Some.bytes) ∷ into_iter_items c.next.new.self = search rules in
    let due = ap (λ l. fault_after done (map (file_data {A = Global} {B = Global}) l)) (sym items) ∙ c.loop-path.invariant.0 in
    let all = ap (λ l. done ++ map (file_data {A = Global} {B = Global}) l) (sym items) ∙ c.loop-path.invariant.2 in
    let adds : AddsFile done file c.in_ok-tree.tree = search rules in
    let on = makes_on done rest file (files_fault files) c.in_ok-tree.tree due c.loop-path.invariant.1 adds in
    (on.0, on.1, on.2 ∙ all)
