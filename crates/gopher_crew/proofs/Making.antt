-- Who made the events of a record.
use Rattle.std.proofs.Common.{◌≡◌, ℕ, zero, suc, ◌+◌, ◌-◌, ◌≤◌, List, [], ◌∷◌, ◌++◌, length, slice_get, Some, replicate, refl, ap, sym, ◌∙◌, arith, append_assoc, length-append}
use Rattle.std.proofs.lemmas.List.{append-nil, length-replicate, replicate-append-replicate}
use Rattle.std.proofs.lemmas.Option.{slice_get_within}
use mathlib.Core.List.{IsPrefix}
use Rattle.gopher_catalogue.specs.declared.event.EventData.{EventData}
use Rattle.gopher_catalogue.specs.declared.event.EventData.TheVariants.{Claimed}
use Rattle.gopher_catalogue.specs.Step.{TurnData, Take, Idle, Finished, after_turn}
use Rattle.gopher_catalogue.specs.Turn.{IsTake}
use Rattle.gopher_catalogue.proofs.Lists.{slice_get-append_left, slice_get_last}
use Rattle.gopher_crew.specs.Desk.{share_at, others_at}
use Rattle.gopher_crew.specs.History.{RecordPrefixData, IsMadeBy}
use Rattle.gopher_crew.specs.Share.{ShareData, HasSeen, MadeNext, NoEventHasTwoMakers}

-- ---- the events of a history and their makers

prefix_length : {A : Type 0} (xs ys : List A) → IsPrefix xs ys → length xs ≤ length ys
prefix_length {A = A} xs ys p = omega (arith, length-append xs p.0, ap (λ (list : List A). length list) p.1)

-- nothing more was made
pub made_none : (maker : ℕ) (it : RecordPrefixData) → IsMadeBy maker it it
made_none maker it =
    let zero : length it.events - length it.events ≡ 0 = omega arith in
    sym (ap (λ n. it.makers ++ replicate n maker) zero ∙ append-nil it.makers)

-- more was made by the same share
pub made_on : (maker : ℕ) (a b c : RecordPrefixData) → IsMadeBy maker a b → IsMadeBy maker b c → IsPrefix a.events b.events → IsPrefix b.events c.events → IsMadeBy maker a c
made_on maker a b c first next begins goes_on =
    let few : length a.events ≤ length b.events = prefix_length a.events b.events begins in
    let more : length b.events ≤ length c.events = prefix_length b.events c.events goes_on in
    let sum : (length b.events - length a.events) + (length c.events - length b.events) ≡ length c.events - length a.events = omega (arith, few, more) in
    next
    ∙ ap (λ l. l ++ replicate (length c.events - length b.events) maker) first
    ∙ append_assoc a.makers (replicate (length b.events - length a.events) maker) (replicate (length c.events - length b.events) maker)
    ∙ ap (λ l. a.makers ++ l) (replicate-append-replicate (length b.events - length a.events) (length c.events - length b.events) maker)
    ∙ ap (λ n. a.makers ++ replicate n maker) sum

-- one event was made
pub made_one : (maker : ℕ) (a b : RecordPrefixData) (event : EventData) → b.events ≡ a.events ++ event ∷ [] → b.makers ≡ a.makers ++ maker ∷ [] → IsMadeBy maker a b
made_one maker a b event events makers =
    let one : 1 ≡ length b.events - length a.events = omega (arith, ap length events, length-append a.events (event ∷ [])) in
    makers ∙ ap (λ n. a.makers ++ replicate n maker) one

-- all that one share made
pub made_all : (maker : ℕ) (a b : RecordPrefixData) → a.makers ≡ replicate (length a.events) maker → IsMadeBy maker a b → IsPrefix a.events b.events → b.makers ≡ replicate (length b.events) maker
made_all maker a b all made begins =
    let few : length a.events ≤ length b.events = prefix_length a.events b.events begins in
    let sum : length a.events + (length b.events - length a.events) ≡ length b.events = omega (arith, few) in
    made
    ∙ ap (λ l. l ++ replicate (length b.events - length a.events) maker) all
    ∙ replicate-append-replicate (length a.events) (length b.events - length a.events) maker
    ∙ ap (λ n. replicate n maker) sum

-- ---- a record and its makers

-- each event of a longer record has a maker
pub makers_grow : (maker : ℕ) (before after : List EventData) (makers makers' : List ℕ) → makers' ≡ makers ++ replicate (length after - length before) maker
    → length makers ≡ length before → length before ≤ length after → length makers' ≡ length after
makers_grow maker before after makers makers' made even more =
    omega (arith, ap (λ (l : List ℕ). length l) made, length-append makers (replicate (length after - length before) maker), length-replicate (length after - length before) maker, even, more)

-- the maker of one more event
pub makes_last : (before after : List EventData) (event : EventData) (makers : List ℕ) (number : ℕ) (share : ShareData) → after ≡ before ++ event ∷ []
    → share.makers ≡ makers ++ replicate (length after - length before) number → length makers ≡ length before → share.number ≡ number → MadeNext share before
makes_last before after event makers number share adds made even same =
    let one : length after - length before ≡ 1 = omega (arith, ap (λ (l : List EventData). length l) adds, length-append before (event ∷ [])) in
    ap (λ l. slice_get l (length before)) (made ∙ ap (λ n. makers ++ replicate n number) one)
    ∙ ap (λ k. slice_get (makers ++ number ∷ []) k) (sym even)
    ∙ slice_get_last makers number
    ∙ ap Some (sym same)

-- the maker of a claim
pub makes_turn : (before after : List EventData) (turn : TurnData) (makers : List ℕ) (number : ℕ) (share : ShareData) → after ≡ after_turn before turn
    → share.makers ≡ makers ++ replicate (length after - length before) number → length makers ≡ length before → share.number ≡ number
    → IsTake turn → MadeNext share before
makes_turn before after (Take n place) makers number share adds made even same takes = makes_last before after (Claimed n) makers number share adds made even same
makes_turn before after Idle makers number share adds made even same takes = absurd takes
makes_turn before after Finished makers number share adds made even same takes = absurd takes

-- ---- the shares of a desk that opens

pub others_many : (record_ : List EventData) (count : ℕ) → length (others_at record_ count) ≡ count
others_many record_ zero = refl
others_many record_ (suc count) = omega (arith, length-append (others_at record_ count) (share_at record_ (suc count) 0 1 ∷ []), others_many record_ count)

-- ---- the law

maker_there : (record_ : List EventData) (makers : List ℕ) (share : ShareData) (before : List EventData) → HasSeen record_ makers share → MadeNext share before
    → slice_get makers (length before) ≡ Some share.number
maker_there record_ makers share before seen makes =
    ap (λ l. slice_get l (length before)) (sym seen.made.1)
    ∙ slice_get-append_left share.makers seen.made.0 (length before) (slice_get_within share.makers (length before) share.number makes)
    ∙ makes

pub one_maker : NoEventHasTwoMakers
one_maker record_ makers one other before before' sees sees' makes makes' same =
    let here : slice_get makers (length before) ≡ Some one.number = maker_there record_ makers one before sees makes in
    let there : slice_get makers (length before) ≡ Some other.number = ap (slice_get makers) same ∙ maker_there record_ makers other before' sees' makes' in
    cc (here, there)
