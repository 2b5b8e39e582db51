-- The frontier of the catalogue after each call.
use Rattle.std.proofs.Common.{◌≡◌, ℕ, suc, zero, ◌+◌, ◌-◌, ◌≤◌, ◌<◌, true, false, cond, List, [], ◌∷◌, ◌++◌, map, filter, length, replicate, set, drop, Option, Some, slice_get, inl, inr, refl, sym, ◌∙◌, ap, arith, ltb}
use Rattle.std.specs.List.{range_with_len}
use Rattle.std.specs.Option.{option_map_or}
use Rattle.std.proofs.lemmas.Bool.{cases_Bool, cases_lt, lt-leb, le-leb, lt-ltb, le-ltb, ne_eqb}
use Rattle.std.proofs.lemmas.Option.{slice_get_within}
use Rattle.std.proofs.lemmas.List.{append-nil, append_assoc, length-append, length-drop, length_push}
use Rattle.std.proofs.lemmas.List.FromFn.{length-range_with_len, length-map-range_with_len}
use Rattle.gopher_item.specs.Place.{PlaceData, is_among}
use Rattle.gopher_item.specs.Scope.{allows}
use Rattle.gopher_page.specs.Page.{PageData}
use Rattle.gopher_catalogue.specs.declared.frontier.known.Standing.{Standing}
use Rattle.gopher_catalogue.specs.declared.event.Why.{Why}
use Rattle.gopher_catalogue.specs.Event.{OpeningData, EventData, Opened, Claimed, Found, Failed}
use Rattle.gopher_catalogue.specs.Frontier.{mentions, known, dropped, waiting, claims, finds, failures, is_out, done}
use Rattle.gopher_catalogue.specs.Legal.{IsOut, IsLegal}
use Rattle.gopher_catalogue.specs.Tables.{claims_at, unclaimed, ended, after_mention, after_mentions, drops, is_dropped}
use Rattle.gopher_catalogue.specs.FrontierTables.{FrontierData, Learned, Begins, after_claim, after_find, after_failure}
use Rattle.gopher_catalogue.specs.Indexed.{standing_of, Tells}
use Rattle.gopher_catalogue.proofs.Places.{known_of, dropped_of, known_of_old, known_of_new, known_of_full, dropped_of_old, dropped_of_new, dropped_of_full}
use Rattle.gopher_catalogue.proofs.Legal.{IsLegal-push}
use Rattle.gopher_catalogue.proofs.Steps.{claims_push, finds_push, failures_push, is_out_from_claims, not_out_from_claims, standing_other, mentions-nil, known_is, dropped_is, known-mentions, dropped-mentions, known_same, dropped_same, length-known_push}
use Rattle.gopher_catalogue.proofs.Counting.{one-same}
use Rattle.gopher_catalogue.proofs.Queue.{waiting-nil, waiting_push}
use Rattle.gopher_catalogue.proofs.States.{waits_at, out_at, unknown_at}
use Rattle.gopher_catalogue.proofs.LegalSizes.{state_sizes, out_counted, out_push}
use Rattle.gopher_catalogue.proofs.StandingLemmas.{replicate_map_range, set_map_range, slice_get-map_range, extend_map_range}

-- ---- mention by mention

module _ (limit : ℕ) where
  one_mention : (ms : List PlaceData) (m : PlaceData) → (after_mention limit (known_of limit ms) m ≡ known_of limit (ms ++ m ∷ [])) × (dropped_of limit (ms ++ m ∷ []) ≡ dropped_of limit ms + cond (is_dropped limit (known_of limit ms) m) 1 0)
  one_mention ms m =
      elim (cases_Bool (is_among (known_of limit ms) m)) as (λ b. (after_mention limit (known_of limit ms) m ≡ known_of limit (ms ++ m ∷ [])) × (dropped_of limit (ms ++ m ∷ []) ≡ dropped_of limit ms + cond (is_dropped limit (known_of limit ms) m) 1 0)) [
        | inl old ↦ (rw old (sym (known_of_old limit ms m old)), rw old (dropped_of_old limit ms m old ∙ omega arith))
        | inr new ↦
            elim (cases_lt (length (known_of limit ms)) limit) as (λ b. (after_mention limit (known_of limit ms) m ≡ known_of limit (ms ++ m ∷ [])) × (dropped_of limit (ms ++ m ∷ []) ≡ dropped_of limit ms + cond (is_dropped limit (known_of limit ms) m) 1 0)) [
              | inl room ↦ (rw (new, lt-leb limit (length (known_of limit ms)) room) (sym (known_of_new limit ms m new room)), rw (new, lt-leb limit (length (known_of limit ms)) room) (dropped_of_new limit ms m new room ∙ omega arith))
              | inr full ↦ (rw (new, le-leb limit (length (known_of limit ms)) full) (sym (known_of_full limit ms (m ∷ []) full)), rw (new, le-leb limit (length (known_of limit ms)) full) (dropped_of_full limit ms m new full))
            ]
      ]

  pub known_of-mentions : (ms more : List PlaceData) → after_mentions limit (known_of limit ms) more ≡ known_of limit (ms ++ more)
  known_of-mentions ms [] = ap (known_of limit) (sym (append-nil ms))
  known_of-mentions ms (m ∷ more) =
      ap (λ places. after_mentions limit places more) (one_mention ms m).0 ∙ known_of-mentions (ms ++ m ∷ []) more ∙ ap (known_of limit) (append_assoc ms (m ∷ []) more)

  pub dropped_of-mentions : (ms more : List PlaceData) → dropped_of limit (ms ++ more) ≡ dropped_of limit ms + drops limit (known_of limit ms) more
  dropped_of-mentions ms [] = ap (dropped_of limit) (append-nil ms) ∙ omega arith
  dropped_of-mentions ms (m ∷ more) =
      let rest = ap (dropped_of limit) (sym (append_assoc ms (m ∷ []) more)) ∙ dropped_of-mentions (ms ++ m ∷ []) more in
      let here = (one_mention ms m).1 in
      let places = ap (λ places. drops limit places more) (one_mention ms m).0 in
      omega (arith, rest, here, places)

-- ---- the beginning

nothing_known : (limit : ℕ) → known_of limit [] ≡ []
nothing_known zero = refl
nothing_known (suc limit) = refl

standing-nil : (k : ℕ) → standing_of [] k ≡ unclaimed
unfolding claims finds failures is_out
standing-nil k = refl

pub Tells-begin : (opening : OpeningData) (frontier : FrontierData) → IsLegal (Opened opening ∷ []) → Begins opening.limit opening.tries opening.seeds frontier → Tells opening [] frontier
Tells-begin opening frontier legal begins =
    let seeds = sym (mentions-nil opening) in
    let count : ℕ = length (known opening []) in
    let places : frontier.known.places ≡ known opening [] =
    begins.places ∙ ap (λ ps. after_mentions opening.limit ps opening.seeds) (sym (nothing_known opening.limit)) ∙ known_of-mentions opening.limit [] opening.seeds ∙ ap (known_of opening.limit) seeds ∙ sym (known_is opening []) in
    let dropped_now : frontier.dropped ≡ dropped opening [] =
    begins.dropped ∙ ap (λ ps. drops opening.limit ps opening.seeds) (sym (nothing_known opening.limit)) ∙ sym (dropped_of-mentions opening.limit [] opening.seeds ∙ omega arith) ∙ ap (dropped_of opening.limit) seeds ∙ sym (dropped_is opening []) in
    record {
      limit_is = begins.limit_is;
      tries_is = begins.tries_is;
      none_fresh = begins.fresh;
      places_is = places;
      standings_is = begins.standings ∙ ap (λ ps. replicate (length ps) unclaimed) places ∙ replicate_map_range (standing_of []) unclaimed 0 count (λ k l. standing-nil k);
      waiting_is = begins.waiting ∙ ap (λ ps. range_with_len 0 (length ps)) places ∙ sym (waiting-nil opening);
      out_is = omega (arith, begins.out, out_counted opening [] legal);
      done_is = omega (arith, begins.done, state_sizes opening [] legal, ap length (waiting-nil opening), length-range_with_len 0 count);
      dropped_is = dropped_now;
    }

-- ---- the state of a known place

some_same : {X : Type 0} (o : Option X) (x y : X) → o ≡ Some x → o ≡ Some y → x ≡ y
some_same o x y e f = cc

pub standing_at : (opening : OpeningData) (events : List EventData) (frontier : FrontierData) → Tells opening events frontier → (n : ℕ) → n < length (known opening events) → slice_get frontier.known.standings n ≡ Some (standing_of events n)
standing_at opening events frontier tells n h = ap (λ l. slice_get l n) tells.standings_is ∙ slice_get-map_range (standing_of events) (length (known opening events)) n h

standing_in : (events : List EventData) (size : ℕ) (standings : List Standing) (n : ℕ) (standing : Standing) → standings ≡ map (standing_of events) (range_with_len 0 size) → slice_get standings n ≡ Some standing → (n < size) × (standing ≡ standing_of events n)
standing_in events size standings n standing e h =
    let within : n < length standings = slice_get_within standings n standing h in
    let long : length standings ≡ size = ap length e ∙ length-map-range_with_len (standing_of events) 0 size in
    let below : n < size = omega arith in
    (below, some_same (slice_get standings n) standing (standing_of events n) h (ap (λ l. slice_get l n) e ∙ slice_get-map_range (standing_of events) size n below))

pub standing_known : (opening : OpeningData) (events : List EventData) (frontier : FrontierData) → Tells opening events frontier → (n : ℕ) (standing : Standing) → slice_get frontier.known.standings n ≡ Some standing → (n < length (known opening events)) × (standing ≡ standing_of events n)
standing_known opening events frontier tells n standing h = standing_in events (length (known opening events)) frontier.known.standings n standing tells.standings_is h

-- ---- a claim

pub claims_told : (opening : OpeningData) (events : List EventData) (frontier : FrontierData) → Tells opening events frontier → (n : ℕ) → n < length (known opening events) → claims_at frontier.known.standings n ≡ claims events n
claims_told opening events frontier tells n h = ap (λ o. option_map_or (λ s. s.claims) o 0) (standing_at opening events frontier tells n h)

pub Tells-claim : (opening : OpeningData) (events : List EventData) (frontier : FrontierData) (n : ℕ) → IsLegal (Opened opening ∷ events) → Tells opening events frontier → slice_get frontier.waiting 0 ≡ Some n
    → Tells opening (events ++ Claimed n ∷ []) (after_claim frontier n)
Tells-claim opening events frontier n legal tells first =
    let e : EventData = Claimed n in
    let after : List EventData = events ++ e ∷ [] in
    let first' = ap (λ l. slice_get l 0) (sym tells.waiting_is) ∙ first in
    let legal' = IsLegal-push opening events e legal first' in
    let waits = waits_at opening events legal 0 n first' in
    let some = slice_get_within (waiting opening events) 0 n first' in
    let same = known_same opening events e refl in
    let more : claims after n ≡ claims events n + 1 = omega (arith, claims_push events e n, one-same n n refl) in
    let now_out : is_out after n ≡ true = is_out_from_claims after n (omega (arith, finds_push events e n, failures_push events e n)) in
    let stood = claims_told opening events frontier tells n waits.is_known in
    let next : Standing = record { claims = claims_at frontier.known.standings n + 1; is_out = true } in
    let stands : next ≡ standing_of after n = λ i. record { claims = (ap (λ c. c + 1) stood ∙ sym more) i; is_out = sym now_out i } in
    let waiting_now : waiting opening after ≡ drop 1 (waiting opening events) = waiting_push opening events legal.1 e in
    let sizes = out_push opening events e legal legal' in
    record {
      limit_is = tells.limit_is;
      tries_is = tells.tries_is;
      none_fresh = tells.none_fresh;
      places_is = tells.places_is ∙ sym same;
      standings_is =
          ap (λ l. set l n next) tells.standings_is
          ∙ set_map_range (standing_of events) (standing_of after) (length (known opening events)) n next stands (λ k ne. sym (standing_other events e k (ne_eqb k n ne) refl refl))
          ∙ ap (λ ps. map (standing_of after) (range_with_len 0 (length ps))) (sym same);
      waiting_is = ap (drop 1) tells.waiting_is ∙ sym waiting_now;
      out_is = omega (arith, tells.out_is);
      done_is = omega (arith, tells.done_is, state_sizes opening events legal, state_sizes opening after legal', ap length same, ap length waiting_now, length-drop 1 (waiting opening events));
      dropped_is = tells.dropped_is ∙ sym (dropped_same opening events e refl);
    }

-- ---- a failure

module _ (opening : OpeningData) (events : List EventData) (frontier : FrontierData) (n : ℕ) (why : Why) where
  pub Tells-failure : IsLegal (Opened opening ∷ events) → Tells opening events frontier → IsOut opening events n → Tells opening (events ++ Failed n why ∷ []) (after_failure frontier n)
  Tells-failure legal tells is =
      let e : EventData = Failed n why in
      let after : List EventData = events ++ e ∷ [] in
      let legal' = IsLegal-push opening events e legal is in
      let old = out_at opening events legal n is.is_out in
      let same = known_same opening events e refl in
      let count : ℕ = claims_at frontier.known.standings n in
      let claimed : count ≡ claims events n = claims_told opening events frontier tells n is.is_known in
      let as_often : claims after n ≡ claims events n = claims_push events e n ∙ omega arith in
      let now_in : is_out after n ≡ false = not_out_from_claims after n (λ is. omega (arith, finds_push events e n, failures_push events e n, one-same n n refl)) in
      let next : Standing = ended count in
      let stands : next ≡ standing_of after n = λ i. record { claims = (claimed ∙ sym as_often) i; is_out = sym now_in i } in
      let waiting_now : waiting opening after ≡ cond (ltb (claims events n) opening.tries) (waiting opening events ++ n ∷ []) (waiting opening events) = waiting_push opening events legal.1 e in
      let sizes = out_push opening events e legal legal' in
      let states = state_sizes opening events legal in
      let states_now = state_sizes opening after legal' in
      record {
        limit_is = tells.limit_is;
        tries_is = tells.tries_is;
        none_fresh = tells.none_fresh;
        places_is = tells.places_is ∙ sym same;
        standings_is =
            ap (λ l. set l n next) tells.standings_is
            ∙ set_map_range (standing_of events) (standing_of after) (length (known opening events)) n next stands (λ k ne. sym (standing_other events e k refl refl (ne_eqb k n ne)))
            ∙ ap (λ ps. map (standing_of after) (range_with_len 0 (length ps))) (sym same);
        waiting_is =
            ap (λ t. cond (ltb count t) (frontier.waiting ++ n ∷ []) frontier.waiting) tells.tries_is
            ∙ ap (λ c. cond (ltb c opening.tries) (frontier.waiting ++ n ∷ []) frontier.waiting) claimed
            ∙ ap (λ l. cond (ltb (claims events n) opening.tries) (l ++ n ∷ []) l) tells.waiting_is ∙ sym waiting_now;
        out_is = omega (arith, tells.out_is);
        done_is =
            elim (cases_lt count frontier.tries) as (λ b. (after_failure frontier n).done ≡ length (done opening after)) [
              | inl left ↦
                  let long : length (waiting opening after) ≡ length (waiting opening events) + 1 = ap length waiting_now ∙ rw (lt-ltb (claims events n) opening.tries (omega (arith, tells.tries_is))) (length_push (waiting opening events) n) in
                  rw (lt-ltb count frontier.tries left) (omega (arith, tells.done_is, ap length same))
              | inr last ↦
                  let long : length (waiting opening after) ≡ length (waiting opening events) = ap length waiting_now ∙ rw (le-ltb (claims events n) opening.tries (omega (arith, tells.tries_is))) refl in
                  rw (le-ltb count frontier.tries last) (omega (arith, tells.done_is, ap length same))
            ];
        dropped_is = tells.dropped_is ∙ sym (dropped_same opening events e refl);
      }

-- ---- a find

module _ (opening : OpeningData) (events : List EventData) (before after : FrontierData) (n : ℕ) (page : PageData) (drops_now : ℕ) (learned : Learned (filter (allows opening.scope) page.links) before after drops_now) where
  pub places-found : Tells opening events before → after.known.places ≡ known opening (events ++ Found n page ∷ [])
  places-found tells =
      learned.mentions_are.places ∙ ap (λ limit. after_mentions limit before.known.places (filter (allows opening.scope) page.links)) tells.limit_is ∙ ap (λ ps. after_mentions opening.limit ps (filter (allows opening.scope) page.links)) (tells.places_is ∙ known_is opening events) ∙ known_of-mentions opening.limit (mentions opening events) (filter (allows opening.scope) page.links)
      ∙ sym (known-mentions opening events (Found n page))

  pub dropped-found : Tells opening events before → dropped opening (events ++ Found n page ∷ []) ≡ dropped opening events + drops_now
  dropped-found tells =
      let here : drops_now ≡ drops opening.limit (known_of opening.limit (mentions opening events)) (filter (allows opening.scope) page.links) =
      learned.mentions_are.dropped_is ∙ ap (λ limit. drops limit before.known.places (filter (allows opening.scope) page.links)) tells.limit_is ∙ ap (λ ps. drops opening.limit ps (filter (allows opening.scope) page.links)) (tells.places_is ∙ known_is opening events) in
      let old = dropped_is opening events in
      let new = dropped-mentions opening events (Found n page) ∙ dropped_of-mentions opening.limit (mentions opening events) (filter (allows opening.scope) page.links) in
      omega (arith, here, old, new)

  grown : length before.known.places ≤ length after.known.places
  grown = omega (arith, ap length learned.grows.places, length-append before.known.places learned.grows.more)

  standings-learned : IsLegal (Opened opening ∷ events) → Tells opening events before → after.known.standings ≡ map (standing_of events) (range_with_len 0 (length after.known.places))
  standings-learned legal tells =
      let size : length (known opening events) + length learned.grows.more ≡ length after.known.places =
      sym (ap length learned.grows.places ∙ length-append before.known.places learned.grows.more ∙ ap (λ ps. length ps + length learned.grows.more) tells.places_is) in
      let never : (k : ℕ) → length (known opening events) ≤ k → standing_of events k ≡ unclaimed =
      λ k beyond.
      let unknown = unknown_at opening events legal k beyond in
      let never_out : is_out events k ≡ false = not_out_from_claims events k (λ is. omega (arith, unknown.1)) in
      λ i. record { claims = unknown.1 i; is_out = never_out i } in
      learned.grows.standings ∙ ap (λ l. l ++ replicate (length learned.grows.more) unclaimed) tells.standings_is
      ∙ extend_map_range (standing_of events) unclaimed (length (known opening events)) (length learned.grows.more) never
      ∙ ap (λ size. map (standing_of events) (range_with_len 0 size)) size

  pub Tells-find : IsLegal (Opened opening ∷ events) → Tells opening events before → IsOut opening events n → slice_get (known opening events) n ≡ Some page.place → Tells opening (events ++ Found n page ∷ []) (after_find after n drops_now)
  Tells-find legal tells is right =
      let e : EventData = Found n page in
      let later : List EventData = events ++ e ∷ [] in
      let legal' = IsLegal-push opening events e legal (is, right) in
      let old = out_at opening events legal n is.is_out in
      let places = places-found tells in
      let count : ℕ = length (known opening events) in
      let settled : length after.known.places - after.fresh ≡ length before.known.places = omega (arith, learned.fresh, tells.none_fresh, grown) in
      let fresh : after.fresh ≡ length after.known.places - length before.known.places = omega (arith, learned.fresh, tells.none_fresh) in
      let within : n < length after.known.places = omega (arith, is.is_known, ap length tells.places_is, grown) in
      let stood : claims_at after.known.standings n ≡ claims events n = ap (λ l. claims_at l n) (standings-learned legal tells) ∙ ap (λ o. option_map_or (λ s. s.claims) o 0) (slice_get-map_range (standing_of events) (length after.known.places) n within) in
      let as_often : claims later n ≡ claims events n = claims_push events e n ∙ omega arith in
      let now_in : is_out later n ≡ false = not_out_from_claims later n (λ is. omega (arith, finds_push events e n, failures_push events e n, one-same n n refl)) in
      let next : Standing = ended (claims_at after.known.standings n) in
      let stands : next ≡ standing_of later n = λ i. record { claims = (stood ∙ sym as_often) i; is_out = sym now_in i } in
      let waiting_now : waiting opening later ≡ waiting opening events ++ range_with_len count (length (known opening later) - count) = waiting_push opening events legal.1 e in
      let long = ap length waiting_now ∙ length-append (waiting opening events) (range_with_len count (length (known opening later) - count)) in
      let sizes = out_push opening events e legal legal' in
      record {
        limit_is = learned.keeps.limit ∙ tells.limit_is;
        tries_is = learned.keeps.tries ∙ tells.tries_is;
        none_fresh = refl;
        places_is = places;
        standings_is =
            ap (λ l. set l n next) (standings-learned legal tells)
            ∙ set_map_range (standing_of events) (standing_of later) (length after.known.places) n next stands (λ k ne. sym (standing_other events e k refl (ne_eqb k n ne) refl))
            ∙ ap (λ ps. map (standing_of later) (range_with_len 0 (length ps))) places;
        waiting_is =
            ap (λ a. after.waiting ++ range_with_len a after.fresh) settled
            ∙ ap (λ k. after.waiting ++ range_with_len (length before.known.places) k) fresh
            ∙ ap (λ l. l ++ range_with_len (length before.known.places) (length after.known.places - length before.known.places)) (learned.keeps.waiting ∙ tells.waiting_is)
            ∙ ap (λ ps. waiting opening events ++ range_with_len (length ps) (length after.known.places - length ps)) tells.places_is
            ∙ ap (λ ps. waiting opening events ++ range_with_len count (length ps - count)) places ∙ sym waiting_now;
        out_is = omega (arith, learned.keeps.out, tells.out_is);
        done_is =
            omega (arith, learned.keeps.done, tells.done_is, state_sizes opening events legal, state_sizes opening later legal', length-range_with_len count (length (known opening later) - count), length-known_push opening events e);
        dropped_is = omega (arith, learned.keeps.dropped, tells.dropped_is, dropped-found tells);
      }
