-- The nodes of a list of files, and how many a path adds.
use Rattle.std.proofs.Common.{◌≡◌, ℕ, zero, suc, ◌+◌, ◌<◌, ◌≤◌, Bool, true, false, cond, ◌&&◌, ◌||◌, not, eqb, List, [], ◌∷◌, ◌++◌, length, get_or, take, fold, refl, sym, ap, subst, ◌∙◌, add-one, arith}
use Rattle.std.specs.List.{list_any, flat_map}
use Rattle.std.specs.Cmp.Lexicographic.{pointwise, bytes_decides}
use Rattle.std.proofs.Math.Bool.{or-true, or-false, or_assoc}
use Rattle.std.proofs.Math.Dec.{eqb-suc-zero}
use Rattle.std.proofs.lemmas.List.{append-nil, length-append, length-take}
use Rattle.std.proofs.lemmas.List.Concat.{flat_map-append, flat_map-cons}
use Rattle.std.proofs.lemmas.List.Folds.{list_any-append}
use Rattle.std.proofs.lemmas.List.Sums.{fold-append}
use Rattle.gopher_tree.specs.Path.{folders_within, folders_of}
use Rattle.gopher_tree.specs.Files.{File, is_file, is_folder, is_path_among, add_path, paths_of, nodes}

pub nodes-push : (files : List File) (f : File) → nodes (files ++ f ∷ []) ≡ fold add_path (nodes files) (paths_of f.0)
nodes-push files f =
    ap (fold add_path ([] ∷ [])) (flat_map-append (λ g. paths_of g.0) files (f ∷ []))
    ∙ fold-append add_path ([] ∷ []) (flat_map (λ g. paths_of g.0) files) (flat_map (λ g. paths_of g.0) (f ∷ []))
    ∙ ap (fold add_path (nodes files)) (flat_map-cons (λ g. paths_of g.0) f [] ∙ append-nil (paths_of f.0))

pub is_among-add : (paths : List (List ℕ)) (path q : List ℕ) → is_path_among (add_path paths path) q ≡ (is_path_among paths q || pointwise eqb q path)
is_among-add paths path q = by (is_path_among paths path) refl
  where
    known : (t : Bool) → pointwise eqb q path ≡ t → is_path_among paths path ≡ true → is_path_among paths q ≡ (is_path_among paths q || t)
    known true e h = subst (λ p. is_path_among paths p ≡ true) (sym ((bytes_decides q path).0 e)) h ∙ sym (or-true (is_path_among paths q))
    known false e h = sym (or-false (is_path_among paths q))

    by : (t : Bool) → is_path_among paths path ≡ t → is_path_among (cond t paths (paths ++ path ∷ [])) q ≡ (is_path_among paths q || pointwise eqb q path)
    by true h = known (pointwise eqb q path) refl h
    by false h = list_any-append (pointwise eqb q) paths (path ∷ []) ∙ ap (λ t. is_path_among paths q || t) (or-false (pointwise eqb q path))

is_among-fold : (known paths : List (List ℕ)) (q : List ℕ) → is_path_among (fold add_path known paths) q ≡ (is_path_among known q || is_path_among paths q)
is_among-fold known [] q = sym (or-false (is_path_among known q))
is_among-fold known (path ∷ paths) q =
    is_among-fold (add_path known path) paths q ∙ ap (λ t. t || is_path_among paths q) (is_among-add known path q) ∙ or_assoc (is_path_among known q) (pointwise eqb q path) (is_path_among paths q)

pub is_root : (path : List ℕ) → pointwise eqb path [] ≡ eqb (length path) 0
is_root [] = refl
is_root (c ∷ path) = sym (eqb-suc-zero (length path))

-- a node is a file or a folder
pub node_is : (files : List File) (q : List ℕ) → is_path_among (nodes files) q ≡ (is_file files q || is_folder files q)
node_is files q =
    is_among-fold ([] ∷ []) (flat_map (λ f. paths_of f.0) files) q ∙ each files
    ∙ ap (λ t. is_file files q || (t || list_any (λ f. is_path_among (folders_of f.0) q) files)) (is_root q)
  where
    turn : (r folder same rest file below : Bool) → ((r || false) || rest) ≡ (file || (r || below)) → ((r || false) || ((r || (folder || (same || false))) || rest)) ≡ ((same || file) || (r || (folder || below)))
    turn true folder same rest file below h = sym (or-true (same || file))
    turn false true same rest file below h = sym (or-true (same || file))
    turn false false true rest file below h = refl
    turn false false false rest file below h = h

    each : (some : List File) → ((pointwise eqb q [] || false) || is_path_among (flat_map (λ f. paths_of f.0) some) q) ≡ (is_file some q || (pointwise eqb q [] || list_any (λ f. is_path_among (folders_of f.0) q) some))
    each [] = or-false (pointwise eqb q [] || false)
    each (f ∷ some) =
        ap (λ t. (pointwise eqb q [] || false) || t) (ap (list_any (pointwise eqb q)) (flat_map-cons (λ g. paths_of g.0) f some) ∙ list_any-append (pointwise eqb q) (paths_of f.0) (flat_map (λ g. paths_of g.0) some))
        ∙ ap (λ t. (pointwise eqb q [] || false) || ((pointwise eqb q [] || t) || is_path_among (flat_map (λ g. paths_of g.0) some) q)) (list_any-append (pointwise eqb q) (folders_of f.0) (f.0 ∷ []))
        ∙ turn (pointwise eqb q []) (is_path_among (folders_of f.0) q) (pointwise eqb q f.0) (is_path_among (flat_map (λ g. paths_of g.0) some) q) (is_file some q) (list_any (λ g. is_path_among (folders_of g.0) q) some) (each some)

-- ---- the folders of a path, one position at a time

pub folders-slash : (n : ℕ) (path : List ℕ) → 0 < n → eqb (get_or path n 0) 47 ≡ true → folders_within (n + 1) path ≡ folders_within n path ++ take n path ∷ []
folders-slash zero path some slash = absurd (omega arith)
folders-slash (suc n) path some slash =
    ap (λ m. folders_within m path) (add-one (suc n)) ∙ ap (λ t. cond t (folders_within (suc n) path ++ take (suc n) path ∷ []) (folders_within (suc n) path)) slash

pub folders-other : (n : ℕ) (path : List ℕ) → 0 < n → eqb (get_or path n 0) 47 ≡ false → folders_within (n + 1) path ≡ folders_within n path
folders-other zero path some other = absurd (omega arith)
folders-other (suc n) path some other =
    ap (λ m. folders_within m path) (add-one (suc n)) ∙ ap (λ t. cond t (folders_within (suc n) path ++ take (suc n) path ∷ []) (folders_within (suc n) path)) other

-- one more position, for a test of the folders
pub any_step : (test : List ℕ → Bool) (n : ℕ) (path : List ℕ) → 0 < n → list_any test (folders_within (n + 1) path) ≡ (list_any test (folders_within n path) || (eqb (get_or path n 0) 47 && test (take n path)))
any_step test n path some = by (eqb (get_or path n 0) 47) refl
  where
    by : (t : Bool) → eqb (get_or path n 0) 47 ≡ t → list_any test (folders_within (n + 1) path) ≡ (list_any test (folders_within n path) || (t && test (take n path)))
    by true slash =
        ap (list_any test) (folders-slash n path some slash) ∙ list_any-append test (folders_within n path) (take n path ∷ [])
        ∙ ap (λ t. list_any test (folders_within n path) || t) (or-false (test (take n path)))
    by false other = ap (list_any test) (folders-other n path some other) ∙ sym (or-false (list_any test (folders_within n path)))

-- the folders within the first bytes of a path have fewer bytes
not_within : (n : ℕ) (path q : List ℕ) → n ≤ length q → is_path_among (folders_within n path) q ≡ false
not_within zero path q long = refl
not_within (suc zero) path q long = refl
not_within (suc (suc n)) path q long = by (eqb (get_or path (suc n) 0) 47) (not_within (suc n) path q (omega arith)) (pointwise eqb q (take (suc n) path)) refl
  where
    by : (t : Bool) → is_path_among (folders_within (suc n) path) q ≡ false → (s : Bool) → pointwise eqb q (take (suc n) path) ≡ s
        → is_path_among (cond t (folders_within (suc n) path ++ take (suc n) path ∷ []) (folders_within (suc n) path)) q ≡ false
    by false before s e = before
    by true before true e = let same = ap length ((bytes_decides q (take (suc n) path)).0 e) in absurd (omega (arith, same, long, length-take (suc n) path))
    by true before false e =
        list_any-append (pointwise eqb q) (folders_within (suc n) path) (take (suc n) path ∷ [])
        ∙ ap (λ t. t || (pointwise eqb q (take (suc n) path) || false)) before
        ∙ ap (λ t. t || false) e

-- ---- counting the nodes that a path adds

count_path : (known paths : List (List ℕ)) (path : List ℕ) (t : Bool) → is_path_among known path ≡ t → is_path_among paths path ≡ false
    → length (fold add_path known (paths ++ path ∷ [])) ≡ length (fold add_path known paths) + cond t 0 1
count_path known paths path t e new =
    ap length (fold-append add_path known paths (path ∷ [])) ∙ ap (λ s. length (cond s (fold add_path known paths) (fold add_path known paths ++ path ∷ []))) among ∙ by t (fold add_path known paths)
  where
    among : is_path_among (fold add_path known paths) path ≡ t
    among = is_among-fold known paths path ∙ ap (λ s. s || is_path_among paths path) e ∙ ap (λ s. t || s) new ∙ or-false t

    by : (s : Bool) (all : List (List ℕ)) → length (cond s all (all ++ path ∷ [])) ≡ length all + cond s 0 1
    by true all = omega arith
    by false all = omega (arith, length-append all (path ∷ []))

-- the folder before a position
pub count_step : (known : List (List ℕ)) (path : List ℕ) (n : ℕ) → 0 < n → n < length path
    → length (fold add_path known (folders_within (n + 1) path)) ≡ length (fold add_path known (folders_within n path)) + cond (eqb (get_or path n 0) 47 && not (is_path_among known (take n path))) 1 0
count_step known path n some low = by (eqb (get_or path n 0) 47) refl (is_path_among known (take n path)) refl
  where
    long : n ≤ length (take n path)
    long = omega (arith, low, length-take n path)

    more : eqb (get_or path n 0) 47 ≡ true → (t : Bool) → is_path_among known (take n path) ≡ t
        → length (fold add_path known (folders_within (n + 1) path)) ≡ length (fold add_path known (folders_within n path)) + cond t 0 1
    more slash t e = ap (λ paths. length (fold add_path known paths)) (folders-slash n path some slash) ∙ count_path known (folders_within n path) (take n path) t e (not_within n path (take n path) long)

    by : (s : Bool) → eqb (get_or path n 0) 47 ≡ s → (t : Bool) → is_path_among known (take n path) ≡ t
        → length (fold add_path known (folders_within (n + 1) path)) ≡ length (fold add_path known (folders_within n path)) + cond (s && not t) 1 0
    by true slash true e = more slash true e
    by true slash false e = more slash false e
    by false other t e = let same = ap (λ paths. length (fold add_path known paths)) (folders-other n path some other) in omega (arith, same)

-- the root, the folders and the path itself
pub count_all : (files : List File) (path : List ℕ) (t : Bool) (count : ℕ) → is_path_among (nodes files) path ≡ t
    → length (fold add_path (nodes files) (folders_of path)) ≡ length (nodes files) + count → length (fold add_path (nodes files) (paths_of path)) ≡ length (nodes files) + count + cond t 0 1
count_all files path t count e counted =
    ap (λ s. length (fold add_path (cond s (nodes files) (nodes files ++ [] ∷ [])) (folders_of path ++ path ∷ []))) root
    ∙ count_path (nodes files) (folders_of path) path t e (not_within (length path) path path (omega arith))
    ∙ ap (λ n. n + cond t 0 1) counted
  where
    root : is_path_among (nodes files) [] ≡ true
    root = is_among-fold ([] ∷ []) (flat_map (λ g. paths_of g.0) files) []
