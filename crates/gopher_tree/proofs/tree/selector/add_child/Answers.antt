use Rattle.std.proofs.Common.{◌≡◌, ℕ, List, [], ◌∷◌, map, Bor, refl, sym, ap, ◌∙◌}
use Rattle.std.specs.Ordering.{nat_cmp, match_ordering}
use Rattle.std.specs.declared.cmp.Ordering.{Ordering}
use Rattle.std.specs.declared.cmp.Ordering.TheVariants.{Less, Equal, Greater}
use Rattle.std.specs.Cmp.Lexicographic.{slice_cmp}
use Rattle.std.specs.BTreeMap.{insert_entry}
use Rattle.gopher_tree.specs.Files.{with_child}
use Rattle.gopher_tree.specs.Found.{child_data, lent_child}
use Rattle.gopher_tree.proofs.tree.selector.add_child.Goals as goal

abbrev put : List (Bor (List ℕ) × ℕ) → Bor (List ℕ) → ℕ → List (Bor (List ℕ) × ℕ)
put children name kind = insert_entry (λ a b. slice_cmp nat_cmp a.now b.now) children name kind

lent_put : (children : List (Bor (List ℕ) × ℕ)) (name : Bor (List ℕ)) (kind : ℕ) → map lent_child (put children name kind) ≡ insert_entry (slice_cmp nat_cmp) (map lent_child children) name.now kind
lent_put [] name kind = refl
lent_put (e ∷ es) name kind = by (slice_cmp nat_cmp name.now e.0.now) (lent_put es name kind)
  where
    by : (o : Ordering) → map lent_child (put es name kind) ≡ insert_entry (slice_cmp nat_cmp) (map lent_child es) name.now kind → map lent_child (match_ordering o ((name, kind) ∷ e ∷ es) ((e.0, kind) ∷ es) (e ∷ put es name kind))
        ≡ match_ordering o ((name.now, kind) ∷ map lent_child (e ∷ es)) ((e.0.now, kind) ∷ map lent_child es) (lent_child e ∷ insert_entry (slice_cmp nat_cmp) (map lent_child es) name.now kind)
    by Less rest = refl
    by Equal rest = refl
    by Greater rest = ap (λ l. lent_child e ∷ l) rest

pub returns-in_ok-insert : goal.returns-in_ok-insert
returns-in_ok-insert c =
    let old = c.args.out.now.entries in
    ap (map lent_child) c.in_ok-insert.ensures.entries ∙ lent_put old c.in-Some.name c.in-Some.kind ∙ sym (ap (λ child. with_child (map lent_child old) (child_data child)) c.in-Some.is)
