use Rattle.std.proofs.Common.{rules, ◌≡◌, ◌<◌, true, length, string_bytes, ◌∷◌, Ok, refl, subst}
use Rattle.std.proofs.lemmas.List.Elements.{All-rest, All-head, All-same}
use Rattle.std.specs.Vec.Iter.{into_iter_items}
use Rattle.gopher_tree.specs.Load.{is_shown}
use Rattle.gopher_tree.specs.Leaving.{WalksOn}
use Rattle.gopher_tree.specs.declared.fault.TreeFault.TheVariants.{NoMemory}
use Rattle.gopher_tree.proofs.LoadLemmas.{lists_none, lists_more}
use Rattle.gopher_tree.proofs.LeavingLemmas.{left_none, left_more, left_unreadable, stops_full, stops_memory, walks_more, walks_err, walks_without, walks_unreadable, folder_out, folder_stops, noted_at, shown_some}
use Rattle.gopher_tree.proofs.tree.Tree.+walk.Goals as goal

-- ---- through_folder

pub through_folder-returns-in-Some : goal.through_folder-returns-in-Some
through_folder-returns-in-Some g t c =
    walks_without c.args.leaves_out c.args.self c.args.trail.now c.args.left.now.items c.without.new.left.items c.args.path.now c.in-Some.fault c.without.result
    c.without.ensures.same c.without.ensures.noted c.without.ensures.allowed c.without.ensures.kept c.without.ensures.refused
    (λ known. folder_out c.args.self c.args.leaves_out c.args.path.now c.in-Some.fault c.requires.below (search rules))
    (folder_stops c.args.self c.args.leaves_out c.args.trail.now c.args.path.now c.in-Some.fault c.requires.path (search rules))

pub through_folder-returns-in_err-enter : goal.through_folder-returns-in_err-enter
through_folder-returns-in_err-enter g t c =
    walks_err c.args.leaves_out c.args.self c.enter.new.self c.args.left.now.items c.args.left.now.items c.from_residual.result c.in_err-enter.field-0.0 (search rules) refl
    (stops_full c.args.leaves_out c.args.self c.enter.new.self c.number_of_files-number.result c.in_err-enter.field-0.0 c.number_of_files-number.ensures (search rules))

pub through_folder-returns-in_err-folder : goal.through_folder-returns-in_err-folder
through_folder-returns-in_err-folder g t c =
    walks_err c.args.leaves_out c.args.self c.enter.new.self c.args.left.now.items c.args.left.now.items c.from_residual-in_err-folder.result c.in_err-folder.field-0.0 (search rules) refl
    (stops_memory c.args.leaves_out c.args.self c.enter.new.self c.in_err-folder.field-0.0 (search rules))

-- ---- through_name

pub through_name-returns-in_default : goal.through_name-returns-in_default
through_name-returns-in_default g t c =
    (c.args.self, lists_none c.args.self, left_none c.args.self c.args.left.now.items c.args.left.now.items refl, stops_memory c.args.leaves_out c.args.self c.args.trail.now NoMemory refl)

pub through_name-returns-in_default-path_in : goal.through_name-returns-in_default-path_in
through_name-returns-in_default-path_in g t c =
    (c.args.self, lists_none c.args.self, left_none c.args.self c.args.left.now.items c.args.left.now.items refl, stops_memory c.args.leaves_out c.args.self c.args.trail.now NoMemory refl)

pub through_name-returns-in_default-reach : goal.through_name-returns-in_default-reach
through_name-returns-in_default-reach g t c =
    (c.args.self, lists_none c.args.self, left_none c.args.self c.args.left.now.items c.args.left.now.items refl, stops_memory c.args.leaves_out c.args.self c.reach.new.self NoMemory refl)

pub through_name-returns-in-Ok-Neither : goal.through_name-returns-in-Ok-Neither
through_name-returns-in-Ok-Neither g t c = (lists_none c.args.self, left_none c.args.self c.args.left.now.items c.args.left.now.items refl)

pub through_name-returns-in-Err : goal.through_name-returns-in-Err
through_name-returns-in-Err g t c =
    walks_unreadable c.args.leaves_out c.args.self c.reach.new.self c.args.left.now.items c.without.new.left.items c.in-Ok-path_in.path.items c.number_of_files.result c.in-Err.fault c.without.result c.number_of_files.ensures (search rules) c.without.ensures.same
    (noted_at c.args.left.now.items c.without.new.left.items c.deref-in-Err.result.now c.in-Ok-path_in.path.items c.in-Err.fault c.without.result (search rules) c.without.ensures.noted)
    c.without.ensures.allowed c.without.ensures.kept c.without.ensures.refused

-- ---- through_names

pub through_names-returns-in_default : goal.through_names-returns-in_default
through_names-returns-in_default g t c = (
  c.args.self,
  lists_none c.args.self,
  left_unreadable c.args.self c.args.left.now.items c.leave_out_nameless.new.left.items c.args.path.now c.number_of_files-number.result c.number_of_files-number.ensures c.leave_out_nameless.ensures.noted,
  stops_memory c.args.leaves_out c.args.self c.args.trail.now NoMemory refl,
)

pub through_names-loop-name-init : goal.through_names-loop-name-init
through_names-loop-name-init g t c = (
  search rules,
  lists_none c.args.self,
  left_unreadable c.args.self c.args.left.now.items c.leave_out_nameless.new.left.items c.args.path.now c.number_of_files-number.result c.number_of_files-number.ensures c.leave_out_nameless.ensures.noted,
)

pub through_names-through_name-requires : goal.through_names-through_name-requires
through_names-through_name-requires g t c =
    let items : c.in-Some.name ∷ into_iter_items c.next.new.self ≡ into_iter_items c.loop-name.name-iterator = search rules in
    let shown : is_shown (string_bytes c.in-Some.name) ≡ true =
    All-head (λ name. is_shown (string_bytes name) ≡ true) c.in-Some.name (into_iter_items c.next.new.self) (All-same (λ name. is_shown (string_bytes name) ≡ true) (c.in-Some.name ∷ into_iter_items c.next.new.self) (into_iter_items c.loop-name.name-iterator) items c.loop-name.invariant.0) in
    let text : string_bytes c.in-Some.name ≡ c.as_str.result.now = search rules in
    let named : 0 < length c.as_str.result.now = subst (λ n. 0 < length n) text (shown_some (string_bytes c.in-Some.name) shown) in
    search (rules, named, c.requires.short)

pub through_names-returns-in_err-tree : goal.through_names-returns-in_err-tree
through_names-returns-in_err-tree g t c =
    walks_more c.args.leaves_out c.args.self c.loop-name.tree c.through_name.new.trail c.args.left.now.items c.loop-name.left.items c.through_name.new.left.items _ c.loop-name.invariant.1 c.loop-name.invariant.2 (search rules)

pub through_names-loop-name-preserved : goal.through_names-loop-name-preserved
through_names-loop-name-preserved g t c =
    let walk : WalksOn c.args.leaves_out c.loop-name.tree c.through_name.new.trail c.loop-name.left.items c.through_name.new.left.items (Ok c.in_ok-tree.tree) = search rules in (
      All-rest (λ name. is_shown (string_bytes name) ≡ true) c.in-Some.name (into_iter_items c.next.new.self) (into_iter_items c.loop-name.name-iterator) (search rules) c.loop-name.invariant.0,
      lists_more c.args.self c.loop-name.tree c.in_ok-tree.tree c.loop-name.invariant.1 walk.0,
      left_more c.loop-name.tree c.in_ok-tree.tree c.args.left.now.items c.loop-name.left.items c.through_name.new.left.items walk.0 c.loop-name.invariant.2 walk.1,
    )

-- ---- through_visited

pub through_visited-returns-in-Err : goal.through_visited-returns-in-Err
through_visited-returns-in-Err g t c =
    walks_unreadable c.args.leaves_out c.args.self c.forget.new.self c.args.left.now.items c.without.new.left.items c.args.path.now c.number_of_files-number.result c.in-Err.fault c.without.result c.number_of_files-number.ensures (search rules) c.without.ensures.same
    c.without.ensures.noted c.without.ensures.allowed c.without.ensures.kept c.without.ensures.refused
