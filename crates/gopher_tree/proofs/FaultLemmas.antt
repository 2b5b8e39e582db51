-- A file without a fault, and the tree after it was added.
use Rattle.std.proofs.Common.{◌≡◌, ℕ, ◌+◌, ◌<◌, ◌≤◌, Bool, true, false, cond, ◌||◌, ltb, List, [], ◌∷◌, ◌++◌, length, sum_by, Option, None, Some, Err, inl, inr, refl, sym, ap, ◌∙◌, append_assoc, arith}
use Rattle.std.specs.Option.{option_or}
use Rattle.std.proofs.lemmas.Bool.{or_parts, ltb-false}
use Rattle.std.proofs.lemmas.List.Sums.{sum_by-append}
use Rattle.gopher_tree.specs.Path.{names_of, first_name, is_search_name, has_bad_name}
use Rattle.gopher_tree.specs.Files.{File, total_bytes}
use Rattle.gopher_tree.specs.Fault.{path_fault, is_too_big, is_twice, menu_fault, file_fault, fault_after, files_fault, first_fault, AddsFile, RefusesFile, MakesTree}
use Rattle.gopher_tree.specs.declared.fault.TreeFault.{TreeFault}

pub option_or-none : (a b : Option TreeFault) → option_or a b ≡ None → (a ≡ None) × (b ≡ None)
option_or-none None b h = (refl, h)
option_or-none (Some fault) b h = absurd cc

pub cond-none : (t : Bool) (fault : TreeFault) (rest : Option TreeFault) → cond t (Some fault) rest ≡ None → (t ≡ false) × (rest ≡ None)
cond-none true fault rest h = absurd cc
cond-none false fault rest h = (refl, h)

nonempty : (path : List ℕ) → has_bad_name (names_of path) ≡ false → 0 < length path
nonempty [] h = absurd cc
nonempty (b ∷ path) h = omega arith

-- a path without a fault of its own
pub path_fault-none : (number : ℕ) (path : List ℕ) → path_fault number path ≡ None → (0 < length path) × (length path ≤ 254)
path_fault-none number path h =
    let names = cond-none (has_bad_name (names_of path)) _ _ h in
    let search = cond-none (is_search_name (first_name (names_of path))) _ _ names.1 in
    let long = cond-none (ltb 254 (length path)) _ _ search.1 in
    (nonempty path names.0, ltb-false 254 (length path) long.0)

-- a file without a fault
pub record IsGood (files : List File) (file : File) : Type 0 where
  pub some : 0 < length file.0
  pub short : length file.0 ≤ 254
  pub large : is_too_big files file ≡ false
  pub once : is_twice files file.0 ≡ false

pub good_of : (files : List File) (file : File) → file_fault files file ≡ None → IsGood files file
good_of files file h =
    let path = option_or-none (path_fault (length files) file.0) _ h in
    let big = cond-none (is_too_big files file) _ _ path.1 in
    let menu = option_or-none (menu_fault (length files) file) _ big.1 in
    let twice = cond-none (is_twice files file.0) _ _ menu.1 in
    let lengths = path_fault-none (length files) file.0 path.0 in
    record { some = lengths.0; short = lengths.1; large = big.0; once = twice.0 }

pub total_bytes-push : (files : List File) (file : File) → total_bytes (files ++ file ∷ []) ≡ total_bytes files + length file.1
total_bytes-push files file = let one : sum_by (λ g. length g.1) (file ∷ []) ≡ length file.1 = omega arith in sum_by-append (λ g. length g.1) files (file ∷ []) ∙ ap (λ n. total_bytes files + n) one

-- a file without a fault keeps the limits
pub few_bytes : (files : List File) (file : File) → is_too_big files file ≡ false → total_bytes (files ++ file ∷ []) ≤ 67108864
few_bytes files file h = ltb-false 67108864 _ (or_parts (ltb 16777216 (length file.1)) _ (or_parts (ltb 16777216 (length file.1) || ltb 67108864 (total_bytes (files ++ file ∷ []))) _ h).0).1

-- the first file of a list has no fault
first_none : (done rest : List File) (file : File) → first_fault done ≡ None → file_fault done file ≡ None → first_fault (done ++ file ∷ rest) ≡ None
first_none [] rest file first none = none
first_none (f ∷ done) rest file first none = first

-- the fault of a file is the fault of the list whose rest it begins
pub makes_refused : (done rest : List File) (file : File) (files : List File) (fault : TreeFault)
    → fault_after done (file ∷ rest) ≡ files_fault files → done ++ file ∷ rest ≡ files → first_fault done ≡ None → RefusesFile done file fault → MakesTree files (Err fault)
makes_refused done rest file files fault is all first (inl due) = inl (sym is ∙ ap (λ f. option_or f (fault_after (done ++ file ∷ []) rest)) due)
makes_refused done rest file files fault is all first (inr memory) = inr (memory.1, ap first_fault (sym all) ∙ first_none done rest file first memory.0)

-- the next file has no fault
pub makes_on : (done rest : List File) (file : File) (all : Option TreeFault) (tree : List File)
    → fault_after done (file ∷ rest) ≡ all → first_fault done ≡ None → AddsFile done file tree
    → (fault_after tree rest ≡ all) × (first_fault tree ≡ None) × (tree ++ rest ≡ done ++ file ∷ rest)
makes_on done rest file all tree is first (none, one) = (
  ap (λ l. fault_after l rest) one ∙ sym (ap (λ f. option_or f (fault_after (done ++ file ∷ []) rest)) none) ∙ is,
  ap first_fault one ∙ first_none done [] file first none,
  ap (λ l. l ++ rest) one ∙ append_assoc done (file ∷ []) rest,
)
