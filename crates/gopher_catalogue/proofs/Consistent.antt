-- The tables of a frontier agree after each call.
use Rattle.std.proofs.Common.{◌≡◌, ◌≢◌, ℕ, suc, zero, ◌+◌, ◌-◌, ◌^◌, ◌≤◌, ◌<◌, Bool, true, false, cond, List, [], ◌∷◌, ◌++◌, length, replicate, take, drop, set, get_or, inl, inr, Some, slice_get, refl, sym, ◌∙◌, ap, arith, eqb, count_by}
use Rattle.std.specs.List.{range_with_len}
use Rattle.std.proofs.lemmas.Bool.{cases_Bool, cases_eq, cases_lt, true≢false}
use Rattle.std.proofs.lemmas.List.{length-append, length_push, length-set, length-replicate, length-take, take_at, get_or-set_same, get_or-set_other}
use Rattle.std.proofs.lemmas.List.FromFn.{length-range_with_len}
use Rattle.std.proofs.lemmas.List.Folds.{sum_by-replicate}
use Rattle.std.proofs.lemmas.List.Sums.{sum_by-append, sum_by-cons, sum_by-set}
use Rattle.gopher_item.specs.Place.{PlaceData}
use Rattle.gopher_catalogue.specs.declared.frontier.known.Standing.{Standing}
use Rattle.gopher_catalogue.specs.Legal.{times_listed}
use Rattle.gopher_catalogue.specs.Tables.{KnownData, Extends, known_with, claims_at, is_out_at, unclaimed, ended}
use Rattle.gopher_catalogue.specs.FrontierTables.{FrontierData, IsSettled, HasState, AreLimits, IsConsistent, Begins, Learned, without_fresh, after_claim, after_find}
use Rattle.gopher_catalogue.proofs.Counting.{times, times-nil, times-cons, times-append, times-range_outside, times-range_within, one-same, one-other}
use Rattle.gopher_catalogue.proofs.KnownLemmas.{length-after_mentions}

-- ---- the state of a number in a list of states

abbrev bit : Bool → ℕ
bit b = cond b 1 0

abbrev outs : List Standing → ℕ
outs ss = count_by (λ s. s.is_out) ss

out_is : (ss : List Standing) (n : ℕ) → is_out_at ss n ≡ (get_or ss n unclaimed).is_out
out_is [] n = refl
out_is (s ∷ ss) zero = refl
out_is (s ∷ ss) (suc n) = out_is ss n

claims_is : (ss : List Standing) (n : ℕ) → claims_at ss n ≡ (get_or ss n unclaimed).claims
claims_is [] n = refl
claims_is (s ∷ ss) zero = refl
claims_is (s ∷ ss) (suc n) = claims_is ss n

-- a state is replaced
module _ (ss : List Standing) (n : ℕ) (v : Standing) where
  out_same : n < length ss → is_out_at (set ss n v) n ≡ v.is_out
  out_same h = out_is (set ss n v) n ∙ ap (λ s. s.is_out) (get_or-set_same ss n v unclaimed h)

  claims_same : n < length ss → claims_at (set ss n v) n ≡ v.claims
  claims_same h = claims_is (set ss n v) n ∙ ap (λ s. s.claims) (get_or-set_same ss n v unclaimed h)

  out_other : (m : ℕ) → m ≢ n → is_out_at (set ss n v) m ≡ is_out_at ss m
  out_other m ne = out_is (set ss n v) m ∙ ap (λ s. s.is_out) (get_or-set_other ss n m v unclaimed ne) ∙ sym (out_is ss m)

  claims_other : (m : ℕ) → m ≢ n → claims_at (set ss n v) m ≡ claims_at ss m
  claims_other m ne = claims_is (set ss n v) m ∙ ap (λ s. s.claims) (get_or-set_other ss n m v unclaimed ne) ∙ sym (claims_is ss m)

  outs_set : n < length ss → outs (set ss n v) + bit (is_out_at ss n) ≡ outs ss + bit v.is_out
  outs_set h = ap (λ b. outs (set ss n v) + bit b) (out_is ss n) ∙ sum_by-set (λ s. bit s.is_out) ss n v unclaimed h

-- ---- more states of places that were never claimed

get_or_unclaimed : (k m : ℕ) → get_or (replicate k unclaimed) m unclaimed ≡ unclaimed
get_or_unclaimed zero m = refl
get_or_unclaimed (suc k) zero = refl
get_or_unclaimed (suc k) (suc m) = get_or_unclaimed k m

get_or_more : (ss : List Standing) (k m : ℕ) → get_or (ss ++ replicate k unclaimed) m unclaimed ≡ get_or ss m unclaimed
get_or_more [] k m = get_or_unclaimed k m
get_or_more (s ∷ ss) k zero = refl
get_or_more (s ∷ ss) k (suc m) = get_or_more ss k m

pub out_more : (ss : List Standing) (k m : ℕ) → is_out_at (ss ++ replicate k unclaimed) m ≡ is_out_at ss m
out_more ss k m = out_is (ss ++ replicate k unclaimed) m ∙ ap (λ s. s.is_out) (get_or_more ss k m) ∙ sym (out_is ss m)

claims_more : (ss : List Standing) (k m : ℕ) → claims_at (ss ++ replicate k unclaimed) m ≡ claims_at ss m
claims_more ss k m = claims_is (ss ++ replicate k unclaimed) m ∙ ap (λ s. s.claims) (get_or_more ss k m) ∙ sym (claims_is ss m)

outs_unclaimed : (k : ℕ) → outs (replicate k unclaimed) ≡ 0
outs_unclaimed k = sum_by-replicate (λ s. bit s.is_out) k unclaimed ∙ omega arith

outs_more : (ss : List Standing) (k : ℕ) → outs (ss ++ replicate k unclaimed) ≡ outs ss
outs_more ss k = sum_by-append (λ s. bit s.is_out) ss (replicate k unclaimed) ∙ omega (arith, outs_unclaimed k)

-- ---- states without the last ones

get_or_take : (ss : List Standing) (a m : ℕ) → m < a → get_or (take a ss) m unclaimed ≡ get_or ss m unclaimed
get_or_take ss zero m h = absurd (omega arith)
get_or_take [] (suc a) m h = refl
get_or_take (s ∷ ss) (suc a) zero h = refl
get_or_take (s ∷ ss) (suc a) (suc m) h = get_or_take ss a m (omega arith)

get_or_cut : (ss : List Standing) (a m : ℕ) → a ≤ m → get_or (take a ss) m unclaimed ≡ unclaimed
get_or_cut ss zero m h = refl
get_or_cut [] (suc a) m h = refl
get_or_cut (s ∷ ss) (suc a) zero h = absurd (omega arith)
get_or_cut (s ∷ ss) (suc a) (suc m) h = get_or_cut ss a m (omega arith)

outs_none : (ss : List Standing) → ((m : ℕ) → (get_or ss m unclaimed).is_out ≡ false) → outs ss ≡ 0
outs_none [] none = refl
outs_none (s ∷ ss) none = sum_by-cons (λ s. bit s.is_out) s ss ∙ omega (arith, ap bit (none 0), outs_none ss (λ m. none (suc m)))

outs_take : (ss : List Standing) (a : ℕ) → ((m : ℕ) → a ≤ m → (get_or ss m unclaimed).is_out ≡ false) → outs (take a ss) ≡ outs ss
outs_take ss zero none = sym (outs_none ss (λ m. none m (omega arith)))
outs_take [] (suc a) none = refl
outs_take (s ∷ ss) (suc a) none =
    sum_by-cons (λ s. bit s.is_out) s (take a ss) ∙ ap (λ rest. bit s.is_out + rest) (outs_take ss a (λ m h. none (suc m) (omega arith))) ∙ sym (sum_by-cons (λ s. bit s.is_out) s ss)

-- ---- waiting numbers

listed : (n : ℕ) (ns : List ℕ) → times_listed ns n ≡ times n ns
unfolding times
listed n ns = refl

first_rest : (ns : List ℕ) (n : ℕ) → slice_get ns 0 ≡ Some n → ns ≡ n ∷ drop 1 ns
first_rest [] n h = cc
first_rest (m ∷ ns) n h = let e : m ≡ n = cc in ap (λ k. k ∷ ns) e

listed_first : (ns : List ℕ) (n : ℕ) → slice_get ns 0 ≡ Some n → (m : ℕ) → times_listed ns m ≡ bit (eqb m n) + times_listed (drop 1 ns) m
listed_first ns n h m = listed m ns ∙ ap (times m) (first_rest ns n h) ∙ times-cons m n (drop 1 ns) ∙ omega (arith, listed m (drop 1 ns))

listed_push : (ns : List ℕ) (n m : ℕ) → times_listed (ns ++ n ∷ []) m ≡ times_listed ns m + bit (eqb m n)
listed_push ns n m = listed m (ns ++ n ∷ []) ∙ times-append m ns (n ∷ []) ∙ omega (arith, listed m ns, times-cons m n [], times-nil m)

listed_range : (ns : List ℕ) (a k m : ℕ) → times_listed (ns ++ range_with_len a k) m ≡ times_listed ns m + times m (range_with_len a k)
listed_range ns a k m = listed m (ns ++ range_with_len a k) ∙ times-append m ns (range_with_len a k) ∙ omega (arith, listed m ns)

-- ---- calls

module _ (f : FrontierData) (room : ℕ) (is : IsConsistent f room) where
  abbrev ss : List Standing
  ss = f.known.standings

  pub places_fit : length f.known.places ≤ 65536
  places_fit = omega (arith, is.few_places, is.limits.few_places)

  -- an equal frontier, with more room
  pub roomier : (g : FrontierData) (more : ℕ) → g ≡ f → room ≤ more → IsConsistent g more
  roomier g more e h =
      rw e (record {
        limits = is.limits;
        few_places = is.few_places;
        standings = is.standings;
        sizes = is.sizes;
        out_counted = is.out_counted;
        states = is.states;
        few_dropped = is.few_dropped;
        has_room = omega (arith, is.has_room);
      })

  module _ (n : ℕ) (settled : IsSettled f n) where
    pub settled_known : n < length ss
    settled_known = omega (arith, settled, is.standings)

  -- ---- the first waiting number

  module _ (n : ℕ) (first : slice_get f.waiting 0 ≡ Some n) where
    some_listed : 1 ≤ times_listed f.waiting n
    some_listed = omega (arith, listed_first f.waiting n first n, one-same n n refl)

    first_settled : IsSettled f n
    first_settled = ((is.states n).if_waits some_listed).0

    pub first_known : n < length ss
    first_known = settled_known n first_settled

    pub first_place : n < length f.known.places
    first_place = omega (arith, first_settled)

    pub first_tries : claims_at ss n < f.tries
    first_tries = ((is.states n).if_waits some_listed).1

    abbrev next : Standing
    next = record { claims = claims_at ss n + 1; is_out = true }

    pub claimed : (room' : ℕ) → f.fresh + f.out + 1 ≤ room' → IsConsistent (after_claim f n) room'
    claimed room' enough =
        let once = (is.states n).once in
        let here = listed_first f.waiting n first n in
        let one = one-same n n refl in
        let counted = outs_set ss n next first_known in
        record {
          limits = is.limits;
          few_places = is.few_places;
          standings = length-set ss n next ∙ is.standings;
          sizes = omega (arith, is.sizes, ap length (first_rest f.waiting n first));
          out_counted = omega (arith, is.out_counted, some_listed, once, counted);
          states = state;
          few_dropped = is.few_dropped;
          has_room = omega (arith, enough);
        }
      where
        state : (m : ℕ) → HasState (after_claim f n) m
        state m =
            elim (cases_eq m n) as (λ c. HasState (after_claim f n) m) [
              | inl same ↦
                  let here = listed_first f.waiting n first n in
                  let none : times_listed (drop 1 f.waiting) n ≡ 0 = omega (arith, here, one-same n n refl, (is.states n).once) in
                  let out : bit (is_out_at (set ss n next) n) ≡ 1 = ap bit (out_same ss n next first_known) in
                  rw same (record {
                    once = omega (arith, none, out);
                    if_waits = λ some. absurd (omega (arith, none));
                    if_out = λ e. first_settled;
                    if_fresh = λ beyond. absurd (omega (arith, first_settled));
                  })
              | inr ne ↦
                  let old = is.states m in
                  let here : times_listed f.waiting m ≡ times_listed (drop 1 f.waiting) m = listed_first f.waiting n first m ∙ omega (arith, one-other m n ne) in
                  let out = out_other ss n next m ne in
                  let claims = claims_other ss n next m ne in
                  record {
                    once = omega (arith, old.once, here, ap bit out);
                    if_waits = λ some. let was = old.if_waits (omega (arith, here)) in (was.0, omega (arith, was.1, claims));
                    if_out = λ e. old.if_out (sym out ∙ e);
                    if_fresh = λ beyond. claims ∙ old.if_fresh beyond;
                  }
            ]

  -- ---- a number that is out

  module _ (n : ℕ) (out : is_out_at ss n ≡ true) where
    out_settled : IsSettled f n
    out_settled = (is.states n).if_out out

    pub out_known : n < length ss
    out_known = settled_known n out_settled

    none_listed : times_listed f.waiting n ≡ 0
    none_listed = omega (arith, (is.states n).once, ap bit out)

    abbrev pub over : Standing
    over = ended (claims_at ss n)

    fewer : outs (set ss n over) + 1 ≡ outs ss
    fewer = omega (arith, outs_set ss n over out_known, ap bit out)

    pub some_out : 1 ≤ f.out
    some_out = omega (arith, fewer, is.out_counted)

    -- another number has its state, in tables where it waits as often
    other_state : (g : FrontierData) (m : ℕ) → m ≢ n → g.known.places ≡ f.known.places → g.known.standings ≡ set ss n over → g.fresh ≡ f.fresh → g.tries ≡ f.tries → times_listed g.waiting m ≡ times_listed f.waiting m → HasState g m
    other_state g m ne places standings fresh tries as_often =
        let old = is.states m in
        let out' : is_out_at g.known.standings m ≡ is_out_at ss m = ap (λ l. is_out_at l m) standings ∙ out_other ss n over m ne in
        let claims : claims_at g.known.standings m ≡ claims_at ss m = ap (λ l. claims_at l m) standings ∙ claims_other ss n over m ne in
        record {
          once = omega (arith, old.once, as_often, ap bit out');
          if_waits = λ some. let was = old.if_waits (omega (arith, as_often)) in (omega (arith, was.0, ap length places, fresh), omega (arith, was.1, claims, tries));
          if_out = λ e. omega (arith, old.if_out (sym out' ∙ e), ap length places, fresh);
          if_fresh = λ beyond. claims ∙ old.if_fresh (omega (arith, ap length places, fresh));
        }

    is_over : bit (is_out_at (set ss n over) n) ≡ 0
    is_over = ap bit (out_same ss n over out_known)

    never_out : is_out_at (set ss n over) n ≡ true → ⊥
    never_out e = true≢false (sym e ∙ out_same ss n over out_known)

    -- ---- a failure

    abbrev pub again : FrontierData
    again =
        record f {
          known = known_with f.known.places (set ss n over);
          out = f.out - 1;
          waiting = f.waiting ++ n ∷ [];
        }

    abbrev pub given_up : FrontierData
    given_up =
        record f {
          known = known_with f.known.places (set ss n over);
          out = f.out - 1;
          done = f.done + 1;
        }

    pub waits_again : claims_at ss n < f.tries → (room' : ℕ) → room' + 1 ≡ room → IsConsistent again room'
    waits_again left room' less =
        record {
          limits = is.limits;
          few_places = is.few_places;
          standings = length-set ss n over ∙ is.standings;
          sizes = omega (arith, is.sizes, length_push f.waiting n, some_out);
          out_counted = omega (arith, is.out_counted, fewer);
          states = state;
          few_dropped = is.few_dropped;
          has_room = omega (arith, is.has_room, some_out);
        }
      where
        state : (m : ℕ) → HasState again m
        state m =
            elim (cases_eq m n) as (λ c. HasState again m) [
              | inl same ↦
                  rw same (record {
                    once = omega (arith, listed_push f.waiting n n, none_listed, is_over, one-same n n refl);
                    if_waits = λ some. (out_settled, omega (arith, claims_same ss n over out_known));
                    if_out = λ e. out_settled;
                    if_fresh = λ beyond. absurd (omega (arith, out_settled));
                  })
              | inr ne ↦ other_state again m ne refl refl refl refl (listed_push f.waiting n m ∙ omega (arith, one-other m n ne))
            ]

    pub gives_up : IsConsistent given_up room
    gives_up =
        record {
          limits = is.limits;
          few_places = is.few_places;
          standings = length-set ss n over ∙ is.standings;
          sizes = omega (arith, is.sizes, some_out);
          out_counted = omega (arith, is.out_counted, fewer);
          states = state;
          few_dropped = omega (arith, is.few_dropped);
          has_room = omega (arith, is.has_room);
        }
      where
        state : (m : ℕ) → HasState given_up m
        state m =
            elim (cases_eq m n) as (λ c. HasState given_up m) [
              | inl same ↦
                  rw same (record {
                    once = omega (arith, none_listed, is_over);
                    if_waits = λ some. absurd (omega (arith, none_listed));
                    if_out = λ e. out_settled;
                    if_fresh = λ beyond. absurd (omega (arith, out_settled));
                  })
              | inr ne ↦ other_state given_up m ne refl refl refl refl refl
            ]

    -- ---- a find

    abbrev pub before : ℕ
    before = length f.known.places - f.fresh

    pub fresh_fits : f.fresh ≤ length f.known.places
    fresh_fits = omega (arith, is.sizes)

    pub found : (dropped room' : ℕ) → dropped < 2 ^ 32 → room' + f.fresh ≡ room → IsConsistent (after_find f n dropped) room'
    found dropped room' few less =
        record {
          limits = is.limits;
          few_places = is.few_places;
          standings = length-set ss n over ∙ is.standings;
          sizes = omega (arith, is.sizes, length-append f.waiting (range_with_len before f.fresh), length-range_with_len before f.fresh, some_out);
          out_counted = omega (arith, is.out_counted, fewer);
          states = state;
          few_dropped = omega (arith, is.few_dropped, few);
          has_room = omega (arith, is.has_room);
        }
      where
        after : FrontierData
        after = after_find f n dropped

        waits_now : (m : ℕ) → times_listed after.waiting m ≡ times_listed f.waiting m + times m (range_with_len before f.fresh)
        waits_now m = listed_range f.waiting before f.fresh m

        state : (m : ℕ) → HasState after m
        state m =
            elim (cases_eq m n) as (λ c. HasState after m) [
              | inl same ↦
                  let outside = times-range_outside n before f.fresh (inl (omega (arith, out_settled))) in
                  rw same (record {
                    once = omega (arith, waits_now n, outside, none_listed, is_over);
                    if_waits = λ some. absurd (omega (arith, waits_now n, outside, none_listed));
                    if_out = λ e. omega (arith, out_settled);
                    if_fresh = λ beyond. absurd (omega (arith, out_settled));
                  })
              | inr ne ↦
                  let old = is.states m in
                  let out' = out_other ss n over m ne in
                  let claims = claims_other ss n over m ne in
                  elim (cases_lt (m + f.fresh) (length f.known.places)) as (λ c. HasState after m) [
                    | inl earlier ↦
                        let outside = times-range_outside m before f.fresh (inl (omega arith)) in
                        record {
                          once = omega (arith, old.once, waits_now m, outside, ap bit out');
                          if_waits = λ some. let was = old.if_waits (omega (arith, waits_now m, outside)) in (omega arith, omega (arith, was.1, claims));
                          if_out = λ e. omega arith;
                          if_fresh = λ beyond. absurd (omega arith);
                        }
                    | inr later ↦
                        let never = old.if_fresh later in
                        let not_waiting : times_listed f.waiting m ≡ 0 = elim (cases_lt 0 (times_listed f.waiting m)) as (λ c. times_listed f.waiting m ≡ 0) [ inl some ↦ let was = old.if_waits (omega arith) in absurd (omega (arith, was.0)) | inr none ↦ omega arith ] in
                        let not_out : is_out_at ss m ≡ false = elim (cases_Bool (is_out_at ss m)) as (λ c. is_out_at ss m ≡ false) [ inl yes' ↦ absurd (omega (arith, old.if_out yes')) | inr no' ↦ no' ] in
                        let gone : bit (is_out_at (set ss n over) m) ≡ 0 = ap bit (out' ∙ not_out) in
                        elim (cases_lt m (length f.known.places)) as (λ c. HasState after m) [
                          | inl fresh ↦
                              let inside = times-range_within m before f.fresh (omega arith) (omega (arith, fresh_fits)) in
                              record {
                                once = omega (arith, waits_now m, inside, not_waiting, gone);
                                if_waits = λ some. (omega arith, omega (arith, never, claims, is.limits.some_try));
                                if_out = λ e. omega arith;
                                if_fresh = λ beyond. absurd (omega arith);
                              }
                          | inr unknown ↦
                              let outside = times-range_outside m before f.fresh (inr (omega (arith, fresh_fits))) in
                              record {
                                once = omega (arith, waits_now m, outside, not_waiting, gone);
                                if_waits = λ some. absurd (omega (arith, waits_now m, outside, not_waiting));
                                if_out = λ e. absurd (true≢false (sym e ∙ out' ∙ not_out));
                                if_fresh = λ beyond. claims ∙ never;
                              }
                        ]
                  ]
            ]

  -- ---- learning and forgetting

  module _ (g : FrontierData) (mentions : List PlaceData) (dropped : ℕ) (learned_are : Learned mentions f g dropped) where
    abbrev pub more : ℕ
    more = length learned_are.grows.more

    grown : length g.known.places ≡ length f.known.places + more
    grown = ap length learned_are.grows.places ∙ length-append f.known.places learned_are.grows.more

    pub learned_few : length g.known.places ≤ f.limit
    learned_few = omega (arith, ap length learned_are.mentions_are.places, length-after_mentions f.limit f.known.places mentions is.few_places)

    pub learned : (room' : ℕ) → g.fresh + g.out ≤ room' → IsConsistent g room'
    learned room' enough =
        let keeps = learned_are.keeps in
        let outs_same : outs g.known.standings ≡ outs ss = ap outs learned_are.grows.standings ∙ outs_more ss more in
        record {
          limits = rw (keeps.limit, keeps.tries) is.limits;
          few_places = omega (arith, learned_few, keeps.limit);
          standings = omega (arith, grown, is.standings, ap length learned_are.grows.standings, length-append ss (replicate more unclaimed), length-replicate more unclaimed);
          sizes = omega (arith, is.sizes, grown, learned_are.fresh, ap length keeps.waiting, keeps.out, keeps.done);
          out_counted = omega (arith, is.out_counted, outs_same, keeps.out);
          states = state;
          few_dropped = omega (arith, is.few_dropped, keeps.dropped, keeps.done);
          has_room = enough;
        }
      where
        state : (m : ℕ) → HasState g m
        state m =
            let keeps = learned_are.keeps in
            let old = is.states m in
            let out' : is_out_at g.known.standings m ≡ is_out_at ss m = ap (λ l. is_out_at l m) learned_are.grows.standings ∙ out_more ss more m in
            let claims : claims_at g.known.standings m ≡ claims_at ss m = ap (λ l. claims_at l m) learned_are.grows.standings ∙ claims_more ss more m in
            let as_often : times_listed g.waiting m ≡ times_listed f.waiting m = ap (λ l. times_listed l m) keeps.waiting in
            record {
              once = omega (arith, old.once, as_often, ap bit out');
              if_waits = λ some. let was = old.if_waits (omega (arith, as_often)) in (omega (arith, was.0, learned_are.fresh, grown), omega (arith, was.1, claims, keeps.tries));
              if_out = λ e. omega (arith, old.if_out (sym out' ∙ e), learned_are.fresh, grown);
              if_fresh = λ beyond. claims ∙ old.if_fresh (omega (arith, learned_are.fresh, grown));
            }

  pub forgotten : IsConsistent (without_fresh f) room
  forgotten =
      record {
        limits = is.limits;
        few_places = omega (arith, is.few_places, cut f.known.places);
        standings = omega (arith, cut f.known.places, length-take settled ss, is.standings);
        sizes = omega (arith, is.sizes, cut f.known.places);
        out_counted = is.out_counted ∙ sym (outs_take ss settled not_out);
        states = state;
        few_dropped = is.few_dropped;
        has_room = omega (arith, is.has_room);
      }
    where
      settled : ℕ
      settled = length f.known.places - f.fresh

      cut : (ps : List PlaceData) → length (take settled f.known.places) + f.fresh ≡ length f.known.places
      cut ps = omega (arith, length-take settled f.known.places, is.sizes)

      not_out : (m : ℕ) → settled ≤ m → (get_or ss m unclaimed).is_out ≡ false
      not_out m beyond =
          elim (cases_Bool (is_out_at ss m)) as (λ c. (get_or ss m unclaimed).is_out ≡ false) [
            | inl yes' ↦ absurd (omega (arith, (is.states m).if_out yes', is.sizes))
            | inr no' ↦ sym (out_is ss m) ∙ no'
          ]

      state : (m : ℕ) → HasState (without_fresh f) m
      state m =
          let old = is.states m in
          elim (cases_lt m settled) as (λ c. HasState (without_fresh f) m) [
            | inl below ↦
                let out' : is_out_at (take settled ss) m ≡ is_out_at ss m = out_is (take settled ss) m ∙ ap (λ s. s.is_out) (get_or_take ss settled m below) ∙ sym (out_is ss m) in
                let claims : claims_at (take settled ss) m ≡ claims_at ss m = claims_is (take settled ss) m ∙ ap (λ s. s.claims) (get_or_take ss settled m below) ∙ sym (claims_is ss m) in
                record {
                  once = omega (arith, old.once, ap bit out');
                  if_waits = λ some. let was = old.if_waits some in (omega (arith, cut f.known.places), omega (arith, was.1, claims));
                  if_out = λ e. omega (arith, cut f.known.places);
                  if_fresh = λ beyond. absurd (omega (arith, cut f.known.places));
                }
            | inr beyond ↦
                let out' : is_out_at (take settled ss) m ≡ false = out_is (take settled ss) m ∙ ap (λ s. s.is_out) (get_or_cut ss settled m beyond) in
                let claims : claims_at (take settled ss) m ≡ 0 = claims_is (take settled ss) m ∙ ap (λ s. s.claims) (get_or_cut ss settled m beyond) in
                record {
                  once = omega (arith, old.once, ap bit out');
                  if_waits = λ some. let was = old.if_waits some in absurd (omega (arith, was.0, is.sizes));
                  if_out = λ e. absurd (true≢false (sym e ∙ out'));
                  if_fresh = λ h. claims;
                }
          ]

-- what is left of more places after they are cut back
pub cut_back : (old new cut : KnownData) (k : ℕ) → Extends old new → k ≡ length old.places → k ≡ length old.standings → cut.places ≡ take k new.places → cut.standings ≡ take k new.standings → cut ≡ old
cut_back old new cut k grows as_places as_standings places standings =
    let left = places ∙ ap (take k) grows.places ∙ take_at old.places grows.more k (sym as_places) in
    let right = standings ∙ ap (take k) grows.standings ∙ take_at old.standings (replicate (length grows.more) unclaimed) k (sym as_standings) in
    λ i. known_with (left i) (right i)

-- ---- the beginning

pub begun : (limit tries : ℕ) (seeds : List PlaceData) (f : FrontierData) (room : ℕ) → AreLimits limit tries → length seeds < 2 ^ 63 → Begins limit tries seeds f → IsConsistent f room
begun limit tries seeds f room limits few begins =
    record {
      limits = rw (begins.limit_is, begins.tries_is) limits;
      few_places = omega (arith, begins.limit_is, ap length begins.places, length-after_mentions limit [] seeds (omega arith));
      standings = ap length begins.standings ∙ length-replicate size unclaimed;
      sizes = omega (arith, ap length begins.waiting, length-range_with_len 0 size, begins.out, begins.done, begins.fresh);
      out_counted = omega (arith, begins.out, ap outs begins.standings, outs_unclaimed size);
      states = state;
      few_dropped = omega (arith, begins.few_dropped, begins.done);
      has_room = omega (arith, begins.out, begins.fresh);
    }
  where
    size : ℕ
    size = length f.known.places

    state : (m : ℕ) → HasState f m
    state m =
        let out' : is_out_at f.known.standings m ≡ false = ap (λ l. is_out_at l m) begins.standings ∙ out_is (replicate size unclaimed) m ∙ ap (λ s. s.is_out) (get_or_unclaimed size m) in
        let claims : claims_at f.known.standings m ≡ 0 = ap (λ l. claims_at l m) begins.standings ∙ claims_is (replicate size unclaimed) m ∙ ap (λ s. s.claims) (get_or_unclaimed size m) in
        let here : times_listed f.waiting m ≡ times m (range_with_len 0 size) = listed m f.waiting ∙ ap (times m) begins.waiting in
        elim (cases_lt m size) as (λ c. HasState f m) [
          | inl below ↦
              let inside = times-range_within m 0 size (omega arith) (omega arith) in
              record {
                once = omega (arith, here, inside, ap bit out');
                if_waits = λ some. (omega (arith, begins.fresh), omega (arith, claims, begins.tries_is, limits.some_try));
                if_out = λ e. omega (arith, begins.fresh);
                if_fresh = λ beyond. claims;
              }
          | inr beyond ↦
              let outside = times-range_outside m 0 size (inr (omega arith)) in
              record {
                once = omega (arith, here, outside, ap bit out');
                if_waits = λ some. absurd (omega (arith, here, outside));
                if_out = λ e. absurd (true≢false (sym e ∙ out'));
                if_fresh = λ h. claims;
              }
        ]
