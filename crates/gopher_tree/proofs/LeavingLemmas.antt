-- What a walk that leaves files and folders out notes, step by step.
use Rattle.std.proofs.Common.{◌≡◌, ◌≢◌, ℕ, ◌<◌, ◌≤◌, Bool, true, false, cond, ◌&&◌, ◌||◌, ltb, List, [], ◌∷◌, ◌++◌, length, Option, None, Some, Result, Ok, Err, IfOk, IfErr, OnOk, refl, sym, ap, ◌∙◌, subst, inl, inr, arith}
use Rattle.std.specs.declared.vec.Vec.{Vec}
use Rattle.std.specs.Option.{option_or, option_map, option_and_then}
use Rattle.std.proofs.lemmas.List.{append_assoc, append-nil}
use Rattle.std.proofs.lemmas.List.Elements.{All-nil, All-cons, All-append, All-weaker}
use Rattle.std.proofs.lemmas.Bool.{ltb-false, ltb-true, and_parts}
use Rattle.gopher_tree.specs.Path.{names_of, has_bad_name, is_menu_path, path_in}
use Rattle.gopher_tree.specs.MenuFile.{bad_line}
use Rattle.gopher_tree.specs.Files.{File, nodes, total_bytes}
use Rattle.gopher_tree.specs.Fault.{path_fault, is_too_big, is_twice, menu_fault, file_fault, files_fault, AddsFile}
use Rattle.gopher_tree.specs.Load.{is_shown, Lists, StopsAt, StopsFull, IsUnreadable, LoadsTo, Refuses}
use Rattle.gopher_tree.specs.Leaving.{left_out_fault, is_left_out, is_bad_folder, folder_fault, LeavesOut, LeavesOutWithin, AreLeftOut, StopsWalk, WalksOn, LoadsLeaving, AddsLeftOut, AddsUnreadable, MayLeaveOut, RefusesToLeaveOut, Decides}
use Rattle.gopher_tree.specs.declared.fault.TreeFault.{TreeFault}
use Rattle.gopher_tree.specs.declared.fault.TreeFault.TheVariants.{BadName, LongSelector, TooBig, BadMenuLine, Twice, Unreadable, NoMemory}
use Rattle.gopher_tree.specs.declared.load.left_out.LeftOut.{LeftOut}
use Rattle.gopher_tree.specs.declared.load.trail.Trail.{Trail}
use Rattle.gopher_tree.proofs.LoadLemmas.{lists_none, lists_one, lists_more, stops_unreadable, stops_file}
use Rattle.gopher_tree.proofs.FaultLemmas.{cond-none}
use Rattle.gopher_tree.proofs.PathLemmas.{bad_below}

-- nothing was left out
pub left_none : (files : List File) (old new : List LeftOut) → new ≡ old → AreLeftOut files old new
left_none files old new same = ([], same ∙ sym (append-nil old), All-nil (LeavesOutWithin files))

-- what a walk left out before it listed more files
pub within_more : (between last : List File) → Lists between last → (left : LeftOut) → LeavesOutWithin between left → LeavesOutWithin last left
within_more between last (added, is_added, none) left (before, after, is, out) =
    (before, after ++ added, is_added ∙ ap (λ l. l ++ added) is ∙ append_assoc before after added, out)

pub left_more : (between last : List File) (old middle new : List LeftOut) → Lists between last → AreLeftOut between old middle → AreLeftOut last middle new → AreLeftOut last old new
left_more between last old middle new lists (first, is, all) (more, is_more, all_more) = (
  first ++ more,
  is_more ∙ ap (λ l. l ++ more) is ∙ append_assoc old first more,
  All-append (LeavesOutWithin last) first more (All-weaker (LeavesOutWithin between) (LeavesOutWithin last) (within_more between last lists) first all) all_more,
)

within_now : (files : List File) (left : LeftOut) (path : List ℕ) (fault : TreeFault) → left.path.items ≡ path → left.fault ≡ fault → LeavesOut files path fault → LeavesOutWithin files left
within_now files left path fault at is out =
    (files, [], sym (append-nil files), subst (λ f. LeavesOut files left.path.items f) (sym is) (subst (λ p. LeavesOut files p fault) (sym at) out))

-- one file or folder was left out
pub left_one : (files : List File) (old new : List LeftOut) (path : List ℕ) (fault : TreeFault) → AddsLeftOut old new path fault → LeavesOut files path fault → AreLeftOut files old new
left_one files old new path fault (left, added, at, is) out =
    (left ∷ [], added, All-cons (LeavesOutWithin files) left [] (within_now files left path fault at is out) (All-nil (LeavesOutWithin files)))

-- names of a folder that can't be read were left out
pub left_unreadable : (files : List File) (old new : List LeftOut) (path : List ℕ) (number : ℕ) → number ≡ length files → AddsUnreadable old new path number → AreLeftOut files old new
left_unreadable files old new path number same (added, is, all) =
    (added, is, All-weaker (λ left. (left.path.items ≡ path) × (left.fault ≡ Unreadable number)) (LeavesOutWithin files) (λ left each. within_now files left path (Unreadable number) each.0 each.1 (inr (inr (inr (ap Unreadable same))))) added all)

pub stops_full : (leaves_out : Bool) (files : List File) (trail : Trail) (number : ℕ) (fault : TreeFault) → number ≡ length files → StopsFull number trail fault → StopsWalk leaves_out files trail fault
stops_full true files trail number fault same stops = inr (subst (λ n. StopsFull n trail fault) same stops)
stops_full false files trail number fault same stops = inr (inl (inr (subst (λ n. StopsFull n trail fault) same stops)))

pub stops_memory : (leaves_out : Bool) (files : List File) (trail : Trail) (fault : TreeFault) → fault ≡ NoMemory → StopsWalk leaves_out files trail fault
stops_memory true files trail fault is = inr (inr is)
stops_memory false files trail fault is = inr (inr (inr is))

-- a walk that ends or stops here
pub walks_same : (leaves_out : Bool) (files : List File) (trail : Trail) (old new : List LeftOut) (result : Result (List File) TreeFault)
    → IfOk result (λ tree. tree ≡ files) → AreLeftOut files old new → IfErr result (StopsWalk leaves_out files trail) → WalksOn leaves_out files trail old new result
walks_same leaves_out files trail old new (Ok tree) same left stops = subst (λ t. Lists files t × AreLeftOut t old new) (sym same) (lists_none files, left)
walks_same leaves_out files trail old new (Err fault) same left stops = (files, lists_none files, left, stops)

-- a walk that goes on after the files listed so far
pub walks_more : (leaves_out : Bool) (first between : List File) (trail : Trail) (old middle new : List LeftOut) (result : Result (List File) TreeFault)
    → Lists first between → AreLeftOut between old middle → WalksOn leaves_out between trail middle new result → WalksOn leaves_out first trail old new result
walks_more leaves_out first between trail old middle new (Ok files) lists left (more, rest) =
    (lists_more first between files lists more, left_more between files old middle new more left rest)
walks_more leaves_out first between trail old middle new (Err fault) lists left (files, more, rest, stops) =
    (files, lists_more first between files lists more, left_more between files old middle new more left rest, stops)

-- a file or folder is left out, or a walk that leaves nothing out stops there
pub walks_without : (leaves_out : Bool) (files : List File) (trail : Trail) (old new : List LeftOut) (path : List ℕ) (fault : TreeFault) (result : Result (List File) TreeFault)
    → IfOk result (λ tree. tree ≡ files) → OnOk result (AddsLeftOut old new path fault) → OnOk result (MayLeaveOut leaves_out fault) → IfErr result (λ error. new ≡ old) → IfErr result (RefusesToLeaveOut leaves_out fault)
    → (fault ≢ NoMemory → LeavesOut files path fault) → (leaves_out ≡ false → StopsAt files trail fault) → WalksOn leaves_out files trail old new result
walks_without leaves_out files trail old new path fault (Ok tree) same added allowed kept refused out stops =
    walks_same leaves_out files trail old new (Ok tree) same (left_one files old new path fault added (out allowed.1)) tt
walks_without leaves_out files trail old new path fault (Err error) same added allowed kept refused out stops =
    (files, lists_none files, left_none files old new kept, refuses leaves_out refused stops)
  where
    refuses : (leaves_out : Bool) → RefusesToLeaveOut leaves_out fault error → (leaves_out ≡ false → StopsAt files trail fault) → StopsWalk leaves_out files trail error
    refuses leaves_out (inl is) stops = stops_memory leaves_out files trail error is
    refuses true (inr (never, is)) stops = absurd cc
    refuses false (inr (never, is)) stops = subst (StopsAt files trail) (sym is) (stops refl)

-- a walk whose only stop is out of memory, or too many nodes
pub walks_stop : (leaves_out : Bool) (files : List File) (trail : Trail) (old new : List LeftOut) (fault : TreeFault) → new ≡ old → StopsWalk leaves_out files trail fault → WalksOn leaves_out files trail old new (Err fault)
walks_stop leaves_out files trail old new fault same stops = (files, lists_none files, left_none files old new same, stops)

-- something that can't be read
pub walks_unreadable : (leaves_out : Bool) (files : List File) (trail : Trail) (old new : List LeftOut) (path : List ℕ) (number : ℕ) (fault : TreeFault) (result : Result (List File) TreeFault)
    → number ≡ length files → IsUnreadable number fault
    → IfOk result (λ tree. tree ≡ files) → OnOk result (AddsLeftOut old new path fault) → OnOk result (MayLeaveOut leaves_out fault) → IfErr result (λ error. new ≡ old) → IfErr result (RefusesToLeaveOut leaves_out fault) → WalksOn leaves_out files trail old new result
walks_unreadable leaves_out files trail old new path number fault result number_is unreadable same added allowed kept refused =
    walks_without leaves_out files trail old new path fault result same added allowed kept refused (out unreadable) (λ strict. stops_unreadable files trail number fault number_is unreadable)
  where
    out : IsUnreadable number fault → fault ≢ NoMemory → LeavesOut files path fault
    out (inl is) known = inr (inr (inr (is ∙ ap Unreadable number_is)))
    out (inr is) known = absurd (known is)

bad_file : (t : Bool) (fault : TreeFault) (others rest : Option TreeFault) → t ≡ true → option_or (cond t (Some fault) others) rest ≡ Some fault
bad_file true fault others rest h = refl
bad_file false fault others rest h = absurd cc

-- a folder with a fault of its own is left out
pub folder_out : (files : List File) (leaves_out : Bool) (path : List ℕ) (fault : TreeFault) → 0 < length path → folder_fault (length files) leaves_out path ≡ Some fault → LeavesOut files path fault
folder_out files leaves_out path fault below h = long (ltb 254 (length path)) refl h
  where
    bad : (t : Bool) → (leaves_out && is_bad_folder path) ≡ t → cond t (Some (BadName (length files))) None ≡ Some fault → LeavesOut files path fault
    bad true e h =
        let is : fault ≡ BadName (length files) = cc in
        inr (inr (inl (is, λ name bytes. bad_file (has_bad_name (names_of (path_in path name))) (BadName (length files)) _ _ (bad_below path name below (and_parts leaves_out (is_bad_folder path) e).1) ∙ h)))
    bad false e h = absurd cc

    long : (t : Bool) → ltb 254 (length path) ≡ t → cond t (Some (LongSelector (length files))) (cond (leaves_out && is_bad_folder path) (Some (BadName (length files))) None) ≡ Some fault → LeavesOut files path fault
    long true e h = let is : fault ≡ LongSelector (length files) = cc in inr (inl (ltb-true 254 (length path) e, is))
    long false e h = bad (leaves_out && is_bad_folder path) refl h

-- a walk that leaves nothing out stops at a folder with a fault of its own
pub folder_stops : (files : List File) (leaves_out : Bool) (trail : Trail) (path : List ℕ) (fault : TreeFault) → trail.path.items ≡ path → folder_fault (length files) leaves_out path ≡ Some fault → leaves_out ≡ false → StopsAt files trail fault
folder_stops files true trail path fault at h strict = absurd cc
folder_stops files false trail path fault at h strict = long (ltb 254 (length path)) refl h
  where
    long : (t : Bool) → ltb 254 (length path) ≡ t → cond t (Some (LongSelector (length files))) None ≡ Some fault → StopsAt files trail fault
    long true e h =
        let is : fault ≡ LongSelector (length files) = cc in
        inr (inl (inl (subst (λ p. 254 < length p) (sym at) (ltb-true 254 (length path) e), is)))
    long false e h = absurd cc

pub folder_short : (number : ℕ) (leaves_out : Bool) (path : List ℕ) → folder_fault number leaves_out path ≡ None → length path ≤ 254
folder_short number leaves_out path h = ltb-false 254 (length path) (cond-none (ltb 254 (length path)) _ _ h).0

-- a file that was settled
pub walks_settled : (leaves_out : Bool) (files : List File) (trail : Trail) (file : File) (old new : List LeftOut) (result : Result (List File) TreeFault)
    → IfOk result (AddsFile files file) → new ≡ old → IfErr result (StopsWalk leaves_out files trail) → WalksOn leaves_out files trail old new result
walks_settled leaves_out files trail file old new (Ok tree) added same stops =
    (lists_one files file tree added.0 added.1, left_none tree old new same)
walks_settled leaves_out files trail file old new (Err fault) added same stops = walks_stop leaves_out files trail old new fault same stops

-- a file with a fault for which it isn't left out
pub stops_listing : (leaves_out : Bool) (files : List File) (trail : Trail) (path bytes : List ℕ) (fault : TreeFault)
    → trail.path.items ≡ path → length bytes ≤ trail.size → trail.bytes ≡ total_bytes files → left_out_fault files (path, bytes) ≡ None → Refuses files trail (path, bytes) fault → StopsWalk leaves_out files trail fault
stops_listing false files trail path bytes fault at size total kept refused = stops_file files trail path bytes fault at size total refused
stops_listing true files trail path bytes fault at size total kept (inl (inl is)) =
    inl (bytes, size, total, ap (λ p. file_fault files (p, bytes)) at ∙ is, ap (λ p. left_out_fault files (p, bytes)) at ∙ kept)
stops_listing true files trail path bytes fault at size total kept (inl (inr memory)) = inr (inr memory.1)
stops_listing true files trail path bytes fault at size total kept (inr full) = inr (inl full)

-- a walk that stops, whatever it leaves out, stops as one that leaves nothing out
stops_at : (leaves_out : Bool) (files : List File) (trail : Trail) (fault : TreeFault) → StopsWalk leaves_out files trail fault → StopsAt files trail fault
stops_at false files trail fault stops = stops
stops_at true files trail fault (inl (bytes, size, total, is, kept)) = inl (bytes, size, total, is)
stops_at true files trail fault (inr full) = inr (inl (inr full))

pub loads_of : (leaves_out : Bool) (trail : Trail) (old new : List LeftOut) (result : Result (List File) TreeFault) → LoadsLeaving leaves_out trail old new result → LoadsTo trail result
loads_of leaves_out trail old new (Ok files) loads = loads.0
loads_of leaves_out trail old new (Err fault) (inl (files, none, left, stops)) = (files, none, stops_at leaves_out files trail fault stops)
loads_of leaves_out trail old new (Err fault) (inr (same, unreadable)) = ([], refl, inr (inr unreadable))

-- a walk from the root
pub loads_walk : (leaves_out : Bool) (trail : Trail) (old new : List LeftOut) (result : Result (List File) TreeFault) → WalksOn leaves_out [] trail old new result → LoadsLeaving leaves_out trail old new result
loads_walk leaves_out trail old new (Ok files) ((added, is, none), left) = (ap files_fault is ∙ none, left)
loads_walk leaves_out trail old new (Err fault) (files, (added, is, none), left, stops) = inl (files, ap files_fault is ∙ none, left, stops)

-- the names of the root can't be read
pub loads_none : (leaves_out : Bool) (trail : Trail) (old new : List LeftOut) (result : Result (List File) TreeFault) (fault : TreeFault) → result ≡ Err fault → new ≡ old → IsUnreadable 0 fault → LoadsLeaving leaves_out trail old new result
loads_none leaves_out trail old new result fault is same unreadable = subst (LoadsLeaving leaves_out trail old new) (sym is) (inr (same, unreadable))

-- the fault for its size of a file whose path has none
pub left_by_size : (files : List File) (path bytes : List ℕ) → path_fault (length files) path ≡ None → left_out_fault files (path, bytes) ≡ cond (ltb 16777216 (length bytes)) (Some (TooBig (length files))) None
left_by_size files path bytes none = ap (λ p. option_and_then filtered (option_or p after)) none ∙ large (ltb 16777216 (length bytes)) refl
  where
    filtered : TreeFault → Option TreeFault
    filtered fault = cond (is_left_out bytes fault) (Some fault) None

    menu : Option TreeFault
    menu = menu_fault (length files) (path, bytes)

    after : Option TreeFault
    after = cond (is_too_big files (path, bytes)) (Some (TooBig (length files))) (option_or menu (cond (is_twice files path) (Some (Twice (length files))) None))

    twice : (t : Bool) → option_and_then filtered (cond t (Some (Twice (length files))) None) ≡ None
    twice true = refl
    twice false = refl

    line : (found : Option ℕ) → option_and_then filtered (option_or (option_map (BadMenuLine (length files)) found) (cond (is_twice files path) (Some (Twice (length files))) None)) ≡ None
    line (Some number) = refl
    line None = twice (is_twice files path)

    named : (t : Bool) → option_and_then filtered (option_or (cond t (option_map (BadMenuLine (length files)) (bad_line bytes)) None) (cond (is_twice files path) (Some (Twice (length files))) None)) ≡ None
    named true = line (bad_line bytes)
    named false = twice (is_twice files path)

    others : (t : Bool) → ltb 16777216 (length bytes) ≡ false → option_and_then filtered (cond t (Some (TooBig (length files))) (option_or menu (cond (is_twice files path) (Some (Twice (length files))) None))) ≡ None
    others true small = ap (λ t. cond t (Some (TooBig (length files))) None) small
    others false small = named (is_menu_path path)

    large : (t : Bool) → ltb 16777216 (length bytes) ≡ t → option_and_then filtered after ≡ cond (ltb 16777216 (length bytes)) (Some (TooBig (length files))) None
    large true e =
        ap (λ t. option_and_then filtered (cond ((t || ltb 67108864 (total_bytes (files ++ (path, bytes) ∷ []))) || ltb 4096 (length (nodes (files ++ (path, bytes) ∷ [])))) (Some (TooBig (length files))) (option_or menu (cond (is_twice files path) (Some (Twice (length files))) None)))) e
    large false e = others (is_too_big files (path, bytes)) e ∙ sym (ap (λ t. cond t (Some (TooBig (length files))) None) e)

left_fault : (files : List File) (file : File) (fault : TreeFault) (found : Option TreeFault) → option_and_then (λ each. cond (is_left_out file.1 each) (Some each) None) found ≡ Some fault → found ≡ Some fault
left_fault files file fault None h = absurd cc
left_fault files file fault (Some each) h = by (is_left_out file.1 each) h
  where
    by : (t : Bool) → cond t (Some each) None ≡ Some fault → Some each ≡ Some fault
    by true h = h
    by false h = absurd cc

-- a file with a fault for which it is left out
pub walks_left_out : (leaves_out : Bool) (files : List File) (trail : Trail) (old new : List LeftOut) (path bytes : List ℕ) (fault : TreeFault) (result : Result (List File) TreeFault)
    → trail.path.items ≡ path → length bytes ≤ trail.size → trail.bytes ≡ total_bytes files → left_out_fault files (path, bytes) ≡ Some fault
    → IfOk result (λ tree. tree ≡ files) → OnOk result (AddsLeftOut old new path fault) → OnOk result (MayLeaveOut leaves_out fault) → IfErr result (λ error. new ≡ old) → IfErr result (RefusesToLeaveOut leaves_out fault) → WalksOn leaves_out files trail old new result
walks_left_out leaves_out files trail old new path bytes fault result at size total is same added allowed kept refused =
    walks_without leaves_out files trail old new path fault result same added allowed kept refused (λ known. inl (bytes, is))
    (λ strict. inl (bytes, size, total, ap (λ p. file_fault files (p, bytes)) at ∙ left_fault files (path, bytes) fault (file_fault files (path, bytes)) is))

pub settles_without : {A : Type 0} (files : List File) (path bytes : List ℕ) (fault : TreeFault) (old new : Vec LeftOut A) (result : Result (List File) TreeFault)
    → left_out_fault files (path, bytes) ≡ Some fault → IfOk result (λ tree. tree ≡ files) → OnOk result (AddsLeftOut old.items new.items path fault) → IfOk result (Decides files (path, bytes) old new)
settles_without files path bytes fault old new (Ok tree) is same added = inr (same, (fault, is, added))
settles_without files path bytes fault old new (Err error) is same added = tt

-- the path under which something was noted
pub noted_at : (old new : List LeftOut) (noted path : List ℕ) (fault : TreeFault) (result : Result (List File) TreeFault) → noted ≡ path → OnOk result (AddsLeftOut old new noted fault) → OnOk result (AddsLeftOut old new path fault)
noted_at old new noted path fault result same added = subst (λ p. OnOk result (AddsLeftOut old new p fault)) same added

-- a walk that stops without listing or noting more
pub walks_err : (leaves_out : Bool) (files : List File) (trail : Trail) (old new : List LeftOut) (result : Result (List File) TreeFault) (fault : TreeFault) → result ≡ Err fault → new ≡ old → StopsWalk leaves_out files trail fault → WalksOn leaves_out files trail old new result
walks_err leaves_out files trail old new result fault is same stops = subst (WalksOn leaves_out files trail old new) (sym is) (walks_stop leaves_out files trail old new fault same stops)

-- a listed name isn't empty
pub shown_some : (name : List ℕ) → is_shown name ≡ true → 0 < length name
shown_some [] h = absurd cc
shown_some (byte ∷ more) h = omega arith
