-- What becomes of the shares of a crew.
use Rattle.std.specs.Prelude.{ℕ, List, map}
use Rattle.gopher_crew.specs.Desk.{HasAll}
use Rattle.gopher_crew.specs.Share.{ShareData}
use Rattle.gopher_crew.specs.declared.working.WorkEnd.{WorkEnd}

-- the shares of these pairs of a fetcher and a share, in order
abbrev pub shares_with : {F : Type 0} → List (F × ShareData) → List ShareData
shares_with pairs = map (λ pair. pair.1) pairs

-- the shares of workers that have ended, in order
abbrev pub shares_after : {F C : Type 0} → List (WorkEnd F C) → List ShareData
shares_after ends = map (λ end. end.share) ends

-- if these pairs have all parts of a ledger, so have the workers that began with them
abbrev pub KeepsAllParts : {F C : Type 0} → List (F × ShareData) → List (WorkEnd F C) → Type 0
KeepsAllParts pairs ends =
    (parts : ℕ) → HasAll parts (shares_with pairs) → HasAll parts (shares_after ends)
