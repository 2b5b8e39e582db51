-- The names of a path, one at a time.
use Rattle.std.proofs.Common.{◌≡◌, ℕ, ◌<◌, Bool, true, false, ◌||◌, ◌&&◌, not, eqb, List, [], ◌∷◌, ◌++◌, length, Some, refl, sym, ap, ◌∙◌, append_assoc, arith}
use Rattle.std.specs.Cmp.Lexicographic.{bytes_decides}
use Rattle.std.specs.List.{onto_first}
use Rattle.std.proofs.lemmas.List.Splits.{slice_split-cons_yes, slice_split-cons_no}
use Rattle.std.proofs.lemmas.Bool.{cond-false, ne_eqb}
use Rattle.gopher_bytes.proofs.Splits.{some_part}
use Rattle.gopher_tree.specs.Path.{names_of, last_name, menu_name, is_menu_name, is_bad_name, has_bad_name, prefix_of, path_in}
use Rattle.gopher_tree.specs.Leaving.{is_bad_folder}
use Rattle.gopher_tree.specs.Files.{child_of}

-- a path has a first name
pub names_of-some : (path : List ℕ) → (name : List ℕ) × (more : List (List ℕ)) × (names_of path ≡ name ∷ more)
names_of-some path = some_part (λ b. eqb b 47) path

pub last_name-more : (name after : List ℕ) → last_name (name ∷ names_of after) ≡ last_name (names_of after)
last_name-more name after =
    let some = names_of-some after in
    ap (λ names. last_name (name ∷ names)) some.2 ∙ sym (ap last_name some.2)

pub has_bad_name-more : (name after : List ℕ) → has_bad_name (name ∷ names_of after) ≡ (is_bad_name name || has_bad_name (names_of after))
has_bad_name-more name after =
    let some = names_of-some after in
    ap (λ names. has_bad_name (name ∷ names)) some.2 ∙ sym (ap (λ names. is_bad_name name || has_bad_name names) some.2)

-- a file further below gives a folder the child of the next name
pub child_of-more : (kind : ℕ) (name after : List ℕ) → child_of kind (name ∷ names_of after) ≡ Some (name, 49)
child_of-more kind name after = ap (λ names. child_of kind (name ∷ names)) (names_of-some after).2

-- a path of one name is that name
pub names_of-one : (r name : List ℕ) → names_of r ≡ name ∷ [] → r ≡ name
names_of-one [] name h = cc
names_of-one (b ∷ r) name h = by (eqb b 47) refl (names_of-some r) (names_of-one r)
  where
    by : (t : Bool) → eqb b 47 ≡ t → (first : List ℕ) × (more : List (List ℕ)) × (names_of r ≡ first ∷ more) → ((n : List ℕ) → names_of r ≡ n ∷ [] → r ≡ n) → b ∷ r ≡ name
    by true e some rest =
        let twice : [] ∷ some.0 ∷ some.1 ≡ name ∷ [] = ap (λ l. [] ∷ l) (sym some.2) ∙ sym (slice_split-cons_yes (λ x. eqb x 47) b r e) ∙ h in absurd cc
    by false e some rest =
        let one : (b ∷ some.0) ∷ some.1 ≡ name ∷ [] = ap (onto_first b) (sym some.2) ∙ sym (slice_split-cons_no (λ x. eqb x 47) b r e) ∙ h in
        let last : some.1 ≡ [] = cc in
        let named : b ∷ some.0 ≡ name = cc in
        ap (λ l. b ∷ l) (rest some.0 (some.2 ∙ ap (λ l. some.0 ∷ l) last)) ∙ named

-- the names of a path below a folder are those of the folder and those below it
names_below : (folder name : List ℕ) → names_of (folder ++ 47 ∷ name) ≡ names_of folder ++ names_of name
names_below [] name = slice_split-cons_yes (λ x. eqb x 47) 47 name refl
names_below (b ∷ folder) name = by (eqb b 47) refl (names_below folder name)
  where
    by : (t : Bool) → eqb b 47 ≡ t → names_of (folder ++ 47 ∷ name) ≡ names_of folder ++ names_of name → names_of ((b ∷ folder) ++ 47 ∷ name) ≡ names_of (b ∷ folder) ++ names_of name
    by true e rest =
        slice_split-cons_yes (λ x. eqb x 47) b (folder ++ 47 ∷ name) e ∙ ap (λ l. [] ∷ l) rest ∙ sym (ap (λ l. l ++ names_of name) (slice_split-cons_yes (λ x. eqb x 47) b folder e))
    by false e rest =
        let some = names_of-some folder in
        slice_split-cons_no (λ x. eqb x 47) b (folder ++ 47 ∷ name) e ∙ ap (onto_first b) (rest ∙ ap (λ l. l ++ names_of name) some.2)
        ∙ sym (ap (λ l. l ++ names_of name) (slice_split-cons_no (λ x. eqb x 47) b folder e ∙ ap (onto_first b) some.2))

-- `.menu` is a bad name of a folder
bad_menu : (name : List ℕ) → is_menu_name name ≡ true → is_bad_name name ≡ true
bad_menu name h = ap is_bad_name ((bytes_decides name menu_name).0 h)

either_bad : (menu bad : Bool) → ((not menu && bad) || menu) ≡ true → (menu ≡ true → bad ≡ true) → bad ≡ true
either_bad menu true h by_menu = refl
either_bad true false h by_menu = by_menu refl
either_bad false false h by_menu = absurd cc

bad_front : (names : List (List ℕ)) (next : List ℕ) (more : List (List ℕ)) → (has_bad_name names || is_menu_name (last_name names)) ≡ true → has_bad_name (names ++ next ∷ more) ≡ true
bad_front [] next more h = absurd cc
bad_front (name ∷ []) next more h = ap (λ t. t || has_bad_name (next ∷ more)) (either_bad (is_menu_name name) (is_bad_name name) h (bad_menu name))
bad_front (name ∷ second ∷ rest) next more h = by (is_bad_name name) refl (bad_front (second ∷ rest) next more)
  where
    by : (t : Bool) → is_bad_name name ≡ t → ((has_bad_name (second ∷ rest) || is_menu_name (last_name (second ∷ rest))) ≡ true → has_bad_name ((second ∷ rest) ++ next ∷ more) ≡ true) → (is_bad_name name || has_bad_name ((second ∷ rest) ++ next ∷ more)) ≡ true
    by true e below = ap (λ t. t || has_bad_name ((second ∷ rest) ++ next ∷ more)) e
    by false e below =
        let last : (has_bad_name (second ∷ rest) || is_menu_name (last_name (second ∷ rest))) ≡ true = sym (ap (λ t. (t || has_bad_name (second ∷ rest)) || is_menu_name (last_name (second ∷ rest))) e) ∙ h in
        ap (λ t. t || has_bad_name ((second ∷ rest) ++ next ∷ more)) e ∙ below last

-- each path below a folder with a bad name has a bad name
pub bad_below : (folder name : List ℕ) → 0 < length folder → is_bad_folder folder ≡ true → has_bad_name (names_of (path_in folder name)) ≡ true
bad_below folder name some bad =
    let more = names_of-some name in
    let prefix : prefix_of folder ≡ folder ++ 47 ∷ [] = cond-false (eqb (length folder) 0) [] (folder ++ 47 ∷ []) (ne_eqb (length folder) 0 (λ none. omega (arith, none))) in
    ap (λ p. has_bad_name (names_of (p ++ name))) prefix ∙ ap (λ p. has_bad_name (names_of p)) (append_assoc folder (47 ∷ []) name)
    ∙ ap has_bad_name (names_below folder name ∙ ap (λ l. names_of folder ++ l) more.2)
    ∙ bad_front (names_of folder) more.0 more.1 bad
