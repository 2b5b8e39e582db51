-- The names of a folder's listing and their order.
use Rattle.std.proofs.Common.{◌≡◌, ℕ, Bool, true, false, cond, ◌&&◌, ◌||◌, not, List, [], ◌∷◌, fold, Option, None, Some, is_some, refl, sym, ap, ◌∙◌}
use Rattle.std.specs.Prelude.{nat_eq}
use Rattle.std.specs.List.{list_any, filter_map, cons_option}
use Rattle.std.specs.Ordering.{is_eq, eq_by_cmp}
use Rattle.std.specs.Cmp.{eq_by_cmp_equiv}
use Rattle.std.specs.Cmp.Lexicographic.{pointwise, nat_list_cmp_total, texts_ties, bytes_decides}
use Rattle.std.specs.BTreeMap.{is_at}
use Rattle.std.proofs.lemmas.Map.Made.{is_some-lookup}
use Rattle.std.proofs.Math.Bool.{and-false, and-true, or-false}
use Rattle.std.proofs.lemmas.Map.Views.{list_any-from_Contains, Contains-from_any}
use Rattle.gopher_tree.specs.Path.{names_of, first_name, menu_name, is_menu_name, rest_below}
use Rattle.gopher_tree.specs.Kind.{kind_of}
use Rattle.gopher_tree.specs.Files.{File, Child, child_of, child_of_rest, child_below, add_child, children}
use Rattle.gopher_tree.specs.Laws.{listed_names, begins_with, leads_to_name, ListingsAscend, ListingsAreWhole}
use Rattle.gopher_tree.proofs.PathLemmas.{names_of-some, names_of-one}
use Rattle.gopher_tree.proofs.ListingLemmas.{order, at_name, same_name, at_name-insert, names_ascend, none_ascend}

pub listings_ascend : ListingsAscend
listings_ascend files folder = names_ascend [] (filter_map (child_below folder) files) none_ascend

-- ---- inserted names

abbrev is_named : List ℕ → Child → Bool
is_named name child = is_eq (order name child.0)

some_put : (name : List ℕ) (names put : List Child) → is_some (at_name name (fold add_child names put)) ≡ (is_some (at_name name names) || list_any (is_named name) put)
some_put name names [] = sym (or-false (is_some (at_name name names)))
some_put name names (c ∷ put) =
    some_put name (add_child names c) put
    ∙ ap (λ o. is_some o || list_any (is_named name) put) (at_name-insert names c.0 c.1 name)
    ∙ by (is_named name c) (at_name name names) (list_any (is_named name) put)
  where
    by : (t : Bool) (held : Option ℕ) (rest : Bool) → (is_some (cond t (Some c.1) held) || rest) ≡ (is_some held || (t || rest))
    by true None rest = refl
    by true (Some k) rest = refl
    by false None rest = refl
    by false (Some k) rest = refl

-- ---- the names that files give a folder

abbrev is_child : List ℕ → Option Child → Bool
is_child name None = false
is_child name (Some child) = is_named name child

same_test : (name other : List ℕ) → is_eq (order name other) ≡ pointwise nat_eq name other
same_test name other = sym (texts_ties name other)

no_menu : (rest n y : List ℕ) (ys : List (List ℕ)) → names_of rest ≡ n ∷ y ∷ ys → not (is_menu_name rest) ≡ true
no_menu rest n y ys names = by (is_menu_name rest) refl
  where
    by : (t : Bool) → is_menu_name rest ≡ t → not t ≡ true
    by false e = refl
    by true e = let one : menu_name ∷ [] ≡ n ∷ y ∷ ys = sym (ap names_of ((bytes_decides rest menu_name).0 e)) ∙ names in absurd cc

child_is : (kind : ℕ) (name rest n : List ℕ) (more : List (List ℕ)) → names_of rest ≡ n ∷ more → is_child name (child_of kind (n ∷ more)) ≡ (pointwise nat_eq name n && not (is_menu_name rest))
child_is kind name rest n [] names =
    by (is_menu_name n) ∙ ap (λ l. pointwise nat_eq name n && not (is_menu_name l)) (sym (names_of-one rest n names))
  where
    by : (t : Bool) → is_child name (cond {A = Option Child} t None (Some (n, kind))) ≡ (pointwise nat_eq name n && not t)
    by true = sym (and-false (pointwise nat_eq name n))
    by false = same_test name n ∙ sym (and-true (pointwise nat_eq name n))
child_is kind name rest n (y ∷ ys) names = same_test name n ∙ sym (and-true (pointwise nat_eq name n)) ∙ ap (λ t. pointwise nat_eq name n && t) (sym (no_menu rest n y ys names))

child_leads : (folder name : List ℕ) (file : File) → is_child name (child_below folder file) ≡ leads_to_name folder name file.0
child_leads folder name file = by (rest_below folder file.0)
  where
    by : (o : Option (List ℕ)) → is_child name (child_of_rest file o) ≡ begins_with name o
    by None = refl
    by (Some rest) =
        let some = names_of-some rest in
        ap (λ names. is_child name (child_of (kind_of file.0 file.1) names)) some.2
        ∙ child_is (kind_of file.0 file.1) name rest some.0 some.1 some.2
        ∙ ap (λ names. pointwise nat_eq name (first_name names) && not (is_menu_name rest)) (sym some.2)

any_child : (folder name : List ℕ) (files : List File) → list_any (is_named name) (filter_map (child_below folder) files) ≡ list_any (λ file. leads_to_name folder name file.0) files
any_child folder name [] = refl
any_child folder name (file ∷ files) =
    by (child_below folder file) ∙ ap (λ t. t || list_any (is_named name) (filter_map (child_below folder) files)) (child_leads folder name file)
    ∙ ap (λ t. leads_to_name folder name file.0 || t) (any_child folder name files)
  where
    by : (o : Option Child) → list_any (is_named name) (cons_option o (filter_map (child_below folder) files)) ≡ (is_child name o || list_any (is_named name) (filter_map (child_below folder) files))
    by None = refl
    by (Some c) = refl

is_listed : (files : List File) (folder name : List ℕ) → list_any (eq_by_cmp order name) (listed_names files folder) ≡ list_any (λ file. leads_to_name folder name file.0) files
is_listed files folder name =
    sym (is_some-lookup (is_at (order name)) (children files folder)) ∙ some_put name [] (filter_map (child_below folder) files) ∙ any_child folder name files

pub listings_are_whole : ListingsAreWhole
listings_are_whole files folder name = (
  λ there. sym (is_listed files folder name) ∙ list_any-from_Contains (eq_by_cmp_equiv nat_list_cmp_total) name (listed_names files folder) there,
  λ leads. Contains-from_any same_name name (listed_names files folder) (is_listed files folder name ∙ leads),
)
