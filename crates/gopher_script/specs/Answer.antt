-- The answers of a script's commands, as bytes: lines that end in LF, with numbers in decimal.
use Rattle.std.specs.Prelude.{◌≡◌, ℕ, List, [], ◌∷◌, ◌++◌, codes, length, Result, IfOk}
use Rattle.std.specs.Global.{Vec}
use Rattle.std.specs.List.{flat_map}
use Rattle.std.specs.Fmt.{decimal}
use Rattle.gopher_item.specs.Place.{PlaceData}
use Rattle.gopher_catalogue.specs.declared.frontier.sizes.Added.{Added}
use Rattle.gopher_catalogue.specs.declared.frontier.sizes.Status.{Status}
use Rattle.gopher_index.specs.declared.hit.Hit.{Hit}

abbrev pub refused_line : ℕ → List ℕ
refused_line code = codes "refused " ++ decimal code ++ 10 ∷ []

-- a place: its type, host, port and selector, separated by TABs
abbrev pub place_fields : PlaceData → List ℕ
place_fields place = place.kind ∷ 9 ∷ place.host ++ 9 ∷ decimal place.port ++ 9 ∷ place.selector

-- a claimed place, after its number
abbrev pub take_line : ℕ → PlaceData → List ℕ
take_line number place = codes "take\t" ++ decimal number ++ 9 ∷ place_fields place ++ 10 ∷ []

abbrev pub added_line : Added → List ℕ
added_line added =
    codes "added " ++ decimal added.fresh ++ codes " " ++ decimal added.dropped ++ 10 ∷ []

abbrev pub status_line : Status → List ℕ
status_line status =
    codes "known " ++ decimal status.known ++ codes " waiting " ++ decimal status.waiting
    ++ codes " out " ++ decimal status.out ++ codes " done " ++ decimal status.done
    ++ codes " dropped " ++ decimal status.dropped ++ 10 ∷ []

-- a hit: its score, its place and its title
abbrev pub hit_row : Hit → List ℕ
hit_row hit =
    codes "hit\t" ++ decimal hit.score ++ 9 ∷ place_fields hit.place ++ 9 ∷ hit.title ++ 10 ∷ []

-- the number of hits, and each hit
abbrev pub hits_lines : List Hit → List ℕ
hits_lines hits = codes "hits " ++ decimal (length hits) ++ 10 ∷ [] ++ flat_map hit_row hits

-- a place whose page contains a word, after the number of times
abbrev pub at_line : PlaceData × ℕ → List ℕ
at_line occurrence =
    codes "at\t" ++ decimal occurrence.1 ++ 9 ∷ place_fields occurrence.0 ++ 10 ∷ []

-- the number of places with the word, and each place
abbrev pub places_lines : List (PlaceData × ℕ) → List ℕ
places_lines list = codes "places " ++ decimal (length list) ++ 10 ∷ [] ++ flat_map at_line list

-- a call returns these bytes, unless it fails
abbrev pub ReturnsBytes : {E : Type 0} → Result (Vec ℕ) E → List ℕ → Type 0
ReturnsBytes result bytes = IfOk result (λ answer. answer.items ≡ bytes)
