-- Entries, publications and new readers keep the rule of what is published.
use Rattle.std.proofs.Common.{◌≡◌, ◌≢◌, ℕ, List, [], ◌∷◌, refl, sym, subst, ⊎_elim}
use mathlib.Core.Option.{some}
use mathlib.Core.List.{IsPrefix}
use lib.ListN.{get_elem?}
use Rattle.left_right.specs.Register.{Admits, Turns, TurnsAt}
use Rattle.atomic_table.proofs.Lists.{at_set, at_snoc}
use Rattle.logbook.specs.Pages.{Book}
use Rattle.gopher_catalogue.specs.declared.event.EventData.{EventData}
use Rattle.gopher_crew.specs.Version.{VersionData, IsVersion, IsPublished, Sees, FollowsVersion}
use Rattle.gopher_crew.proofs.Prefixes.{prefix_self, prefix_none, prefix_trans}

-- a reader that has seen nothing may come at any time
pub admits : (history : Book) → Admits (IsPublished history) []
admits history x views h = record {
  is_version = h.is_version;
  begins = λ seat v at. ⊎_elim (h.begins seat v) (λ (e : [] ≡ v). subst (λ (z : List EventData). IsPrefix z x.prefix.events) e (prefix_none x.prefix.events)) (at_snoc views [] v seat at);
}

-- a first reader has seen nothing
pub first_shows : (history : Book) (x : VersionData) → IsVersion history x → IsPublished history x ([] ∷ [])
first_shows history x is = admits history x [] (record { is_version = is; begins = λ seat v at. absurd (cc (at)) })

-- a version that goes on may take the place of the published one, and the one who shows it, or looks, sees it
pub shows : (history : Book) (seat : ℕ) (v : List EventData) (x y : VersionData) → FollowsVersion history x y → TurnsAt (IsPublished history) seat v x y (Sees history)
shows history seat v x y on views h at = (
  y.prefix.events,
  record {
    is_version = on.0;
    begins = λ j u e. ⊎_elim (λ (t : (j ≡ seat) × (y.prefix.events ≡ u)). subst (λ (z : List EventData). IsPrefix z y.prefix.events) t.1 (prefix_self y.prefix.events))
        (λ (t : (j ≢ seat) × (get_elem? views j ≡ some u)). prefix_trans u x.prefix.events y.prefix.events (h.begins j u t.1) on.1) (at_set views seat j y.prefix.events u e);
  },
  record { began = h.begins seat v at; sees = refl; is_version = on.0 },
)

-- so may one that is equal to a version that goes on
pub shows_same : (history : Book) (seat : ℕ) (v : List EventData) (x next y : VersionData) → FollowsVersion history x next → y ≡ next → TurnsAt (IsPublished history) seat v x y (Sees history)
shows_same history seat v x next y on is = shows history seat v x y (subst (λ (z : VersionData). FollowsVersion history x z) (sym is) on)

-- an entry changes nothing that is published
pub looks : (history : Book) (seat : ℕ) (v : List EventData) → Turns (IsPublished history) seat v (λ x. x) (Sees history)
looks history seat v x views h at = shows history seat v x x (h.is_version, prefix_self x.prefix.events) views h at
