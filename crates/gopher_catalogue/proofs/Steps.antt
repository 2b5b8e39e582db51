-- What one more event changes in a record.
use Rattle.std.proofs.Common.{◌≡◌, ◌≢◌, ℕ, ◌+◌, ◌≤◌, true, false, ◌||◌, cond, List, [], ◌∷◌, ◌++◌, length, sym, refl, ◌∙◌, ap, arith, eqb, ltb, leb, flat_map}
use Rattle.std.proofs.lemmas.Bool.{eqb-true, eq-eqb, ne_eqb}
use Rattle.std.proofs.lemmas.List.{append-nil, append_assoc, length-append}
use Rattle.std.proofs.lemmas.List.Concat.{flat_map-append}
use Rattle.std.proofs.lemmas.List.Sums.{sum_by_push}
use Rattle.gopher_item.specs.Place.{PlaceData}
use Rattle.gopher_catalogue.specs.Event.{OpeningData, EventData}
use Rattle.gopher_catalogue.specs.Frontier.{mentioned, mentions, known, dropped, is_claim_of, is_find_of, is_failure_of, claims, finds, failures, is_out, is_done}
use Rattle.gopher_catalogue.specs.Indexed.{standing_of}
use Rattle.gopher_catalogue.specs.Pages.{page_of_event, pages_found}
use Rattle.gopher_catalogue.proofs.Places.{known_of, dropped_of, length-known_of, known_of-append}

-- ---- how often a number was claimed, found and failed

module _ (events : List EventData) (e : EventData) (m : ℕ) where
  pub claims_push : claims (events ++ e ∷ []) m ≡ claims events m + cond (is_claim_of m e) 1 0
  unfolding claims
  claims_push = sum_by_push (λ x. cond (is_claim_of m x) 1 0) events e

  pub finds_push : finds (events ++ e ∷ []) m ≡ finds events m + cond (is_find_of m e) 1 0
  unfolding finds
  finds_push = sum_by_push (λ x. cond (is_find_of m x) 1 0) events e

  pub failures_push : failures (events ++ e ∷ []) m ≡ failures events m + cond (is_failure_of m e) 1 0
  unfolding failures
  failures_push = sum_by_push (λ x. cond (is_failure_of m x) 1 0) events e

pub pages_push : (events : List EventData) (e : EventData) → pages_found (events ++ e ∷ []) ≡ pages_found events ++ page_of_event e
unfolding pages_found
pages_push events e = flat_map-append page_of_event events (e ∷ []) ∙ ap (λ ps. flat_map page_of_event events ++ ps) (append-nil (page_of_event e))

-- ---- numbers that are out, and that are done

module _ (events : List EventData) (n : ℕ) where
  pub is_out_is : is_out events n ≡ eqb (claims events n) (finds events n + failures events n + 1)
  unfolding is_out
  is_out_is = refl

  pub is_out-claims : is_out events n ≡ true → claims events n ≡ finds events n + failures events n + 1
  is_out-claims h = eqb-true (claims events n) (finds events n + failures events n + 1) (sym is_out_is ∙ h)

  pub is_out_from_claims : claims events n ≡ finds events n + failures events n + 1 → is_out events n ≡ true
  is_out_from_claims h = is_out_is ∙ eq-eqb (claims events n) (finds events n + failures events n + 1) h

  pub not_out_from_claims : claims events n ≢ finds events n + failures events n + 1 → is_out events n ≡ false
  not_out_from_claims h = is_out_is ∙ ne_eqb (claims events n) (finds events n + failures events n + 1) h

  pub is_done_is : (opening : OpeningData) → is_done opening events n ≡ (ltb 0 (finds events n) || leb opening.tries (failures events n))
  unfolding is_done
  is_done_is opening = refl

-- an event of another number doesn't change the state of this one
pub standing_other : (events : List EventData) (e : EventData) (m : ℕ) → is_claim_of m e ≡ false → is_find_of m e ≡ false → is_failure_of m e ≡ false → standing_of (events ++ e ∷ []) m ≡ standing_of events m
standing_other events e m no_claim no_find no_failure =
    let c : claims (events ++ e ∷ []) m ≡ claims events m = claims_push events e m ∙ rw no_claim (omega arith) in
    let f : finds (events ++ e ∷ []) m ≡ finds events m = finds_push events e m ∙ rw no_find (omega arith) in
    let l : failures (events ++ e ∷ []) m ≡ failures events m = failures_push events e m ∙ rw no_failure (omega arith) in
    let o : is_out (events ++ e ∷ []) m ≡ is_out events m = rw (is_out_is (events ++ e ∷ []) m, is_out_is events m, c, f, l) refl in
    λ i. record { claims = c i; is_out = o i }

-- ---- known places and dropped mentions

pub mentions-nil : (opening : OpeningData) → mentions opening [] ≡ opening.seeds
unfolding mentions
mentions-nil opening = append-nil opening.seeds

module _ (opening : OpeningData) (events : List EventData) where
  pub known_is : known opening events ≡ known_of opening.limit (mentions opening events)
  unfolding known
  known_is = refl

  pub dropped_is : dropped opening events ≡ dropped_of opening.limit (mentions opening events)
  unfolding dropped known
  dropped_is = refl

  pub length-known : length (known opening events) ≤ opening.limit
  unfolding known
  length-known = length-known_of opening.limit (mentions opening events)

  pub mentions-append : (more : List EventData) → mentions opening (events ++ more) ≡ mentions opening events ++ flat_map (mentioned opening) more
  unfolding mentions
  mentions-append more =
      ap (λ ps. opening.seeds ++ ps) (flat_map-append (mentioned opening) events more)
      ∙ sym (append_assoc opening.seeds (flat_map (mentioned opening) events) (flat_map (mentioned opening) more))

  pub mentions_push : (e : EventData) → mentions opening (events ++ e ∷ []) ≡ mentions opening events ++ mentioned opening e
  mentions_push e = mentions-append (e ∷ []) ∙ ap (λ ps. mentions opening events ++ ps) (append-nil (mentioned opening e))

  -- the known places and the dropped mentions after the mentions of an event
  pub known-mentions : (e : EventData) → known opening (events ++ e ∷ []) ≡ known_of opening.limit (mentions opening events ++ mentioned opening e)
  unfolding known
  known-mentions e = ap (known_of opening.limit) (mentions_push e)

  pub dropped-mentions : (e : EventData) → dropped opening (events ++ e ∷ []) ≡ dropped_of opening.limit (mentions opening events ++ mentioned opening e)
  unfolding dropped known
  dropped-mentions e = ap (dropped_of opening.limit) (mentions_push e)

  -- an event without links
  pub known_same : (e : EventData) → mentioned opening e ≡ [] → known opening (events ++ e ∷ []) ≡ known opening events
  known_same e none = known-mentions e ∙ rw (none, append-nil (mentions opening events)) (sym known_is)

  pub dropped_same : (e : EventData) → mentioned opening e ≡ [] → dropped opening (events ++ e ∷ []) ≡ dropped opening events
  dropped_same e none = dropped-mentions e ∙ rw (none, append-nil (mentions opening events)) (sym dropped_is)

  pub length-known_push : (e : EventData) → length (known opening events) ≤ length (known opening (events ++ e ∷ []))
  length-known_push e =
      let more = ap length (known-mentions e ∙ known_of-append opening.limit (mentions opening events) (mentioned opening e)) in
      omega (arith, more, ap length known_is, length-append {A = PlaceData})
