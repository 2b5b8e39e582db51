-- Two places are the same exactly if their parts are equal.
use Rattle.std.proofs.Common.{◌≡◌, true}
use Rattle.std.proofs.lemmas.Bool.{and_parts, eqb-true}
use Rattle.std.specs.Cmp.Lexicographic.{bytes_decides}
use Rattle.gopher_item.specs.Laws.{same_place_equiv}
use Rattle.gopher_item.specs.Place.{PlaceData, same_place}

-- a place is the same as itself
pub same_place-refl : (a : PlaceData) → same_place a a ≡ true
same_place-refl a = same_place_equiv.refl a

-- two places that are the same are equal
pub same_place-true : (a b : PlaceData) → same_place a b ≡ true → a ≡ b
same_place-true a b h =
    let last = and_parts _ _ h in
    let third = and_parts _ _ last.0 in
    let second = and_parts _ _ third.0 in
    let host : a.host ≡ b.host = (bytes_decides a.host b.host).0 second.0 in
    let port : a.port ≡ b.port = eqb-true _ _ second.1 in
    let selector : a.selector ≡ b.selector = (bytes_decides a.selector b.selector).0 third.1 in
    let kind : a.kind ≡ b.kind = eqb-true _ _ last.1 in
    λ i. record { host = host i; port = port i; selector = selector i; kind = kind i }
