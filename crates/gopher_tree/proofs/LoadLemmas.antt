-- The files that a walk through a folder lists, step by step, and why it stops.
use Rattle.std.proofs.Common.{◌≡◌, ℕ, ◌≤◌, List, [], ◌∷◌, ◌++◌, length, take, Option, None, Some, Result, Ok, Err, IfSome, refl, sym, ap, ◌∙◌, subst, inl, inr}
use Rattle.std.proofs.lemmas.List.{append_assoc, append-nil}
use Rattle.std.specs.Option.{option_map}
use Rattle.std.specs.declared.io.traits.Take.{Take}
use Rattle.std.specs.Io.Take.{take_limit, take_inner, take_remaining}
use Rattle.gopher_tree.specs.Files.{File, total_bytes}
use Rattle.std.specs.Option.{option_or}
use Rattle.gopher_tree.specs.Fault.{file_fault, fault_after}
use Rattle.gopher_tree.specs.Load.{StopsAt, Lists, Loads, LoadsTo, IsUnreadable, Refuses}
use Rattle.gopher_tree.specs.declared.fault.TreeFault.{TreeFault}
use Rattle.gopher_tree.specs.declared.fault.TreeFault.TheVariants.{NoMemory}
use Rattle.gopher_tree.specs.declared.load.trail.Trail.{Trail}
use Rattle.gopher_tree.proofs.FaultLemmas.{option_or-none}

option_or-both : (a b : Option TreeFault) → a ≡ None → b ≡ None → option_or a b ≡ None
option_or-both a b h k = ap (λ t. option_or t b) h ∙ k

-- if neither a list nor the files after it have a fault, both together have none
pub fault_after-append : (done files more : List File) → fault_after done files ≡ None → fault_after (done ++ files) more ≡ None → fault_after done (files ++ more) ≡ None
fault_after-append done [] more first later = ap (λ l. fault_after l more) (sym (append-nil done)) ∙ later
fault_after-append done (file ∷ files) more first later =
    let both = option_or-none (file_fault done file) (fault_after (done ++ file ∷ []) files) first in
    option_or-both (file_fault done file) (fault_after (done ++ file ∷ []) (files ++ more)) both.0
    (fault_after-append (done ++ file ∷ []) files more both.1 (ap (λ l. fault_after l more) (append_assoc done (file ∷ []) files) ∙ later))

pub lists_none : (files : List File) → Lists files files
lists_none files = ([], sym (append-nil files), refl)

pub lists_one : (files : List File) (file : File) (after : List File) → file_fault files file ≡ None → after ≡ files ++ file ∷ [] → Lists files after
lists_one files file after none is = (file ∷ [], is, option_or-both (file_fault files file) None none refl)

pub lists_more : (first between last : List File) → Lists first between → Lists between last → Lists first last
lists_more first between last (added, is, none) (more, is_more, none_more) = (
  added ++ more,
  is_more ∙ ap (λ l. l ++ more) is ∙ append_assoc first added more,
  fault_after-append first added more none (ap (λ l. fault_after l more) (sym is) ∙ none_more),
)

-- a trail after a file was read
abbrev pub with_size : Trail → ℕ → Trail
with_size trail size =
    record { path = trail.path; size = size; bytes = trail.bytes; folders = trail.folders; nowhere = trail.nowhere; hidden = trail.hidden }

-- a trail after the names of a folder were read
abbrev pub with_hidden : Trail → ℕ → Trail
with_hidden trail hidden =
    record { path = trail.path; size = trail.size; bytes = trail.bytes; folders = trail.folders; nowhere = trail.nowhere; hidden = hidden }

pub stops_unreadable : (files : List File) (trail : Trail) (number : ℕ) (fault : TreeFault) → number ≡ length files → IsUnreadable number fault → StopsAt files trail fault
stops_unreadable files trail number fault same unreadable = inr (inr (subst (λ n. IsUnreadable n fault) same unreadable))

stops_memory : (files : List File) (trail : Trail) (fault : TreeFault) → fault ≡ NoMemory → StopsAt files trail fault
stops_memory files trail fault is = inr (inr (inr is))

pub stops_file : (files : List File) (trail : Trail) (path bytes : List ℕ) (fault : TreeFault) → trail.path.items ≡ path → length bytes ≤ trail.size → trail.bytes ≡ total_bytes files → Refuses files trail (path, bytes) fault → StopsAt files trail fault
stops_file files trail path bytes fault at size total (inl (inl is)) = inl (bytes, size, total, ap (λ p. file_fault files (p, bytes)) at ∙ is)
stops_file files trail path bytes fault at size total (inr full) = inr (inl (inr (inl full)))
stops_file files trail path bytes fault at size total (inl (inr memory)) = stops_memory files trail fault memory.1

-- what a walk leaves on a trail, on some trail
pub loads_on : (trail : Trail) (result : Result (List File) TreeFault) → LoadsTo trail result → Loads result
loads_on trail (Ok files) loads = loads
loads_on trail (Err fault) loads = (trail, loads)

-- the known bytes that a reader with a limit returns
pub taken : {R : Type 0} (remaining : R → Option (List ℕ)) (reader : R) (most : ℕ) (limited : Take R) (bytes : List ℕ) → take_limit limited ≡ most → take_inner limited ≡ reader
    → IfSome (take_remaining remaining limited) (λ all. bytes ≡ all) → IfSome (remaining reader) (λ all. bytes ≡ take most all)
taken remaining reader most limited bytes limit inner is =
    subst (λ r. IfSome (remaining r) (λ all. bytes ≡ take most all)) inner
    (subst (λ n. IfSome (remaining (take_inner limited)) (λ all. bytes ≡ take n all)) limit (within (remaining (take_inner limited)) is))
  where
    within : (known : Option (List ℕ)) → IfSome (option_map (take (take_limit limited)) known) (λ all. bytes ≡ all) → IfSome known (λ all. bytes ≡ take (take_limit limited) all)
    within None h = h
    within (Some all) h = h
