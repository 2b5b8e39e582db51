-- The calls of the sequential catalogue on a legal record: their results, and that the record after
-- each is legal.
use Rattle.std.proofs.Common.{◌≡◌, ◌≢◌, ℕ, true, ◌&&◌, List, ◌∷◌, length, Option, Some, None, refl, ◌∙◌, ap, ltb, slice_get}
use Rattle.std.proofs.lemmas.Bool.{eq-eqb, ne_eqb}
use Rattle.gopher_item.proofs.PlaceLemmas.{same_place-true}
use Rattle.gopher_item.specs.Place.{PlaceData, same_place}
use Rattle.gopher_catalogue.specs.Event.{OpeningData, EventData, Opened}
use Rattle.gopher_catalogue.specs.Frontier.{known, waiting, out, is_out}
use Rattle.gopher_catalogue.specs.Step.{Take, Idle, Finished, turn_of, is_out_in, is_place_at}

-- ---- claim

pub turn-take : (opening : OpeningData) (events : List EventData) (n : ℕ) (place : PlaceData) → slice_get (waiting opening events) 0 ≡ Some n → slice_get (known opening events) n ≡ Some place → turn_of (Opened opening ∷ events) ≡ Take n place
unfolding turn_of
turn-take opening events n place first at' = rw (first, at') refl

pub turn-idle : (opening : OpeningData) (events : List EventData) → slice_get (waiting opening events) 0 ≡ None → length (out opening events) ≢ 0 → turn_of (Opened opening ∷ events) ≡ Idle
unfolding turn_of
turn-idle opening events none some = rw (none, ne_eqb (length (out opening events)) 0 some) refl

pub turn-finished : (opening : OpeningData) (events : List EventData) → slice_get (waiting opening events) 0 ≡ None → length (out opening events) ≡ 0 → turn_of (Opened opening ∷ events) ≡ Finished
unfolding turn_of
turn-finished opening events none no_more = rw (none, eq-eqb (length (out opening events)) 0 no_more) refl

-- ---- found and failed

pub is_out_in_is : (opening : OpeningData) (events : List EventData) (n : ℕ) → is_out_in (Opened opening ∷ events) n ≡ (ltb n (length (known opening events)) && is_out events n)
unfolding is_out_in
is_out_in_is opening events n = refl

pub place_from_test : (places : List PlaceData) (n : ℕ) (place : PlaceData) → is_place_at places n place ≡ true → slice_get places n ≡ Some place
place_from_test places n place h = cases (slice_get places n) refl where
  cases : (at' : Option PlaceData) → slice_get places n ≡ at' → slice_get places n ≡ Some place
  cases None e = let wrong = rw e at h in absurd (cc)
  cases (Some other) e =
      let right : same_place other place ≡ true = rw e at h in
      e ∙ ap Some (same_place-true other place right)
