-- The arguments with which a crawl begins, as data.
use Rattle.std.specs.Prelude.{ℕ, List}
use Rattle.gopher_item.specs.Place.{PlaceData}
use Rattle.gopher_item.specs.Scope.{ScopeData}

-- the scope, the seeds, the most places that become known, and the most claims of a place
pub record OpeningData : Type 0 where
  pub scope : ScopeData
  pub seeds : List PlaceData
  pub limit : ℕ
  pub tries : ℕ

abbrev pub opening_of : ScopeData → List PlaceData → ℕ → ℕ → OpeningData
opening_of scope seeds limit tries =
    record { scope = scope; seeds = seeds; limit = limit; tries = tries }
