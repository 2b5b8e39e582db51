-- A conversation after steps agrees with the bytes that came in, the reply that was given, and the bytes that went out.
use Rattle.std.proofs.Common.{◌≡◌, ℕ, ◌⊎◌, inl, inr, Bool, true, false, List, [], ◌++◌, length, take, drop, nat_le, Option, None, Some, IfSome, refl, sym, ap, ◌∙◌, subst, append-nil, append_assoc}
use Rattle.std.specs.Io.BufRead.{first_line}
use Rattle.std.specs.Io.KnownBytes.{Consumes, IsAtEnd}
use Rattle.std.proofs.KnownBytes.{Appends-nil, Appends-trans, Appends-kept, Consumes-trans, Consumes-kept}
use Rattle.std.proofs.Math.Seq.{take-add}
use Rattle.gopher_text.specs.Watched.{WatchedData}
use Rattle.gopher_item.specs.Leads.{Leads}
use Rattle.gopher_serve.specs.Talk.{Talk, Gathers, Asks, IsTooLong, LacksMemory, Responds, Hears, HasHeard, HoldsReply, is_known, spoken_of, talk_of}
use Rattle.gopher_serve.specs.Advance.{HearsPiece, HearsEnd, HasTaken, HearsOn, HearsOnce, AsksOnce, SaysOnce, IsGiven, GivesOn, SaysOn}
use Rattle.gopher_serve.specs.declared.advancing.Progress.{Progress}
use Rattle.gopher_serve.proofs.LeadsLemmas.{leads_stays, leads_joins}

-- ---- what came in decides the state before anything goes out

talk_cases : (ended : Bool) (taken : List ℕ) → (talk_of ended taken ≡ Gathers taken) ⊎ ((talk_of ended taken ≡ Asks (first_line taken)) ⊎ (talk_of ended taken ≡ IsTooLong))
talk_cases ended taken = by (is_known ended taken) refl (nat_le (length (first_line taken)) 1024) refl
  where
    by : (known : Bool) → is_known ended taken ≡ known → (short : Bool) → nat_le (length (first_line taken)) 1024 ≡ short
        → (talk_of ended taken ≡ Gathers taken) ⊎ ((talk_of ended taken ≡ Asks (first_line taken)) ⊎ (talk_of ended taken ≡ IsTooLong))
    by false e short s = inl (rw e refl)
    by true e true s = inr (inl (rw (e, s) refl))
    by true e false s = inr (inr (rw (e, s) refl))

-- the state agrees with what came in, and there is no reply yet
abbrev pub IsBefore : Bool → List ℕ → Talk → Type 0
IsBefore ended taken talk = HasHeard ended taken talk × (spoken_of talk ≡ []) × ((line reply : List ℕ) → HoldsReply talk line reply → ⊥)

before_at : (ended : Bool) (taken : List ℕ) (talk : Talk) → talk ≡ talk_of ended taken → IsBefore ended taken talk
before_at ended taken talk is = by (talk_cases ended taken)
  where
    by : (talk_of ended taken ≡ Gathers taken) ⊎ ((talk_of ended taken ≡ Asks (first_line taken)) ⊎ (talk_of ended taken ≡ IsTooLong)) → IsBefore ended taken talk
    by (inl all) = rw (is ∙ all) (all, refl, λ line reply never. never)
    by (inr (inl asks)) = rw (is ∙ asks) (asks, refl, λ line reply never. never)
    by (inr (inr long)) = rw (is ∙ long) (long, refl, λ line reply never. never)

-- what it gathered is all that came in
all_gathered : (ended : Bool) (taken bytes : List ℕ) → talk_of ended taken ≡ Gathers bytes → taken ≡ bytes
all_gathered ended taken bytes is = by (talk_cases ended taken)
  where
    by : (talk_of ended taken ≡ Gathers taken) ⊎ ((talk_of ended taken ≡ Asks (first_line taken)) ⊎ (talk_of ended taken ≡ IsTooLong)) → taken ≡ bytes
    by (inl all) = cc
    by (inr (inl asks)) = absurd cc
    by (inr (inr long)) = absurd cc

-- what was read up to the end is all that there was
all_consumed : (a b : Option (List ℕ)) (bytes : List ℕ) → Consumes a b bytes → IsAtEnd b → IfSome a (λ all. all ≡ bytes)
all_consumed None b bytes read end = tt
all_consumed (Some all) None bytes read end = absurd read
all_consumed (Some all) (Some left) bytes read end = read ∙ ap (λ l. bytes ++ l) end ∙ append-nil bytes

-- a piece came in, or the conversation is out of memory for it
heard_piece : (bytes piece : List ℕ) (next : Talk) → Hears (Gathers bytes) piece next → IsBefore false (bytes ++ piece) next
heard_piece bytes piece next (inl is) = before_at false (bytes ++ piece) next is
heard_piece bytes piece next (inr (held, lacks)) = rw lacks (tt, refl, λ line reply never. never)

-- ---- one step

module _ {R A W : Type 0} (remaining : R → Option (List ℕ)) (gives : A → A → List ℕ → List ℕ → Type 0) (contents : W → Option (List ℕ)) where
  -- one step, by what it does with the reader, the answers and the writer
  abbrev pub Steps : Talk → Talk → WatchedData R → WatchedData R → A → A → WatchedData W → WatchedData W → Progress → Type 0
  Steps talk next had left a b before after turn =
      HearsOnce remaining talk next had left turn × AsksOnce gives talk next a b turn × SaysOnce contents talk next before after turn

  -- the same bytes came in
  taken_else : (first : Option (List ℕ)) (had left : WatchedData R) (talk next : Talk) (so_far : HasTaken remaining first had talk)
      → Consumes first (remaining left.device) so_far.taken → HasHeard so_far.ended so_far.taken next → HasTaken remaining first left next
  taken_else first had left talk next so_far consumed heard =
      record { taken = so_far.taken; ended = so_far.ended; consumed = consumed; all_taken = so_far.all_taken; heard = heard }

  taken_piece : (first : Option (List ℕ)) (bytes : List ℕ) (next : Talk) (had left : WatchedData R)
      → HearsPiece remaining (Gathers bytes) next had left → HasTaken remaining first had (Gathers bytes) → HasTaken remaining first left next
  taken_piece first bytes next had left heard so_far = record {
    taken = so_far.taken ++ heard.piece;
    ended = false;
    consumed = Consumes-trans _ _ _ _ _ so_far.consumed heard.read;
    all_taken = λ e. absurd cc;
    heard = rw (all_gathered so_far.ended so_far.taken bytes so_far.heard) ((heard_piece bytes heard.piece next heard.hears).0);
  }

  taken_end : (first : Option (List ℕ)) (bytes : List ℕ) (next : Talk) (had left : WatchedData R)
      → HearsEnd remaining (Gathers bytes) next had left → HasTaken remaining first had (Gathers bytes) → HasTaken remaining first left next
  taken_end first bytes next had left heard so_far = record {
    taken = so_far.taken ++ [];
    ended = true;
    consumed = read;
    all_taken = λ e. all_consumed _ _ _ read heard.ended;
    heard = rw (all_gathered so_far.ended so_far.taken bytes so_far.heard) ((before_at true (bytes ++ []) next heard.hears).0);
  }
    where
      read : Consumes first (remaining left.device) (so_far.taken ++ [])
      read = Consumes-trans _ _ _ _ _ so_far.consumed heard.read

  -- the state after a step that reads nothing agrees with the same bytes
  kept : (ended : Bool) (taken : List ℕ) (talk next : Talk) → next ≡ talk → HasHeard ended taken talk → HasHeard ended taken next
  kept ended taken talk next same heard = rw same heard

  pub hears_on : (talk next : Talk) (had left : WatchedData R) (a b : A) (before after : WatchedData W) (turn : Progress)
      → Steps talk next had left a b before after turn → HearsOn remaining talk next had left
  hears_on (Gathers bytes) next had left a b before after turn (inl (piece, how), answers, writer) first so_far = taken_piece first bytes next had left piece so_far
  hears_on (Gathers bytes) next had left a b before after turn (inr (inl (end, how)), answers, writer) first so_far = taken_end first bytes next had left end so_far
  hears_on (Gathers bytes) next had left a b before after turn (inr (inr (still, how)), answers, writer) first so_far =
      taken_else first had left (Gathers bytes) next so_far (Consumes-kept _ _ _ _ so_far.consumed still.bytes) (kept so_far.ended so_far.taken (Gathers bytes) next still.talk so_far.heard)
  hears_on (Asks line) next had left a b before after turn (reader, inl (reply, steps, gave, is, how), writer) first so_far =
      rw reader (taken_else first had had (Asks line) next so_far so_far.consumed (rw is so_far.heard))
  hears_on (Asks line) next had left a b before after turn (reader, inr (same, how), writer) first so_far =
      rw reader (taken_else first had had (Asks line) next so_far so_far.consumed (kept so_far.ended so_far.taken (Asks line) next same so_far.heard))
  hears_on IsTooLong next had left a b before after turn (reader, (fails, same, answers), writer) first so_far = rw (same, reader) so_far
  hears_on LacksMemory next had left a b before after turn (reader, (fails, same, answers), writer) first so_far = rw (same, reader) so_far
  hears_on (Responds line reply steps count) next had left a b before after turn (reader, answers, inl (same, ready, none, writer, how)) first so_far = rw (same, reader) so_far
  hears_on (Responds line reply steps count) next had left a b before after turn (reader, answers, inr (inl (some, how))) first so_far =
      rw reader (taken_else first had had (Responds line reply steps count) next so_far so_far.consumed (rw some.is so_far.heard))
  hears_on (Responds line reply steps count) next had left a b before after turn (reader, answers, inr (inr (inl (some, searches, writer, how)))) first so_far =
      rw reader (taken_else first had had (Responds line reply steps count) next so_far so_far.consumed
      (subst (HasHeard so_far.ended so_far.taken) (sym searches) so_far.heard))
  hears_on (Responds line reply steps count) next had left a b before after turn (reader, answers, inr (inr (inr (still, how)))) first so_far = rw (still.talk, reader) so_far

  -- the reply stays, or none comes
  stays : (leads_to : A → A → Type 0) (a b : A) (talk next : Talk) → next ≡ talk → GivesOn gives leads_to talk next a b
  stays leads_to a b talk next same line reply has = inl (subst (λ (t : Talk). HoldsReply t line reply) same has)

  comes_none : (leads_to : A → A → Type 0) (a b : A) (talk next : Talk) (ended : Bool) (taken : List ℕ) → IsBefore ended taken next → GivesOn gives leads_to talk next a b
  comes_none leads_to a b talk next ended taken before line reply has = absurd (before.2 line reply has)

  pub gives_on : (leads_to : A → A → Type 0) (talk next : Talk) (had left : WatchedData R) (a b : A) (before after : WatchedData W) (turn : Progress)
      → Steps talk next had left a b before after turn → GivesOn gives leads_to talk next a b
  gives_on leads_to (Gathers bytes) next had left a b before after turn (inl (piece, how), answers, writer) =
      comes_none leads_to a b (Gathers bytes) next false (bytes ++ piece.piece) (heard_piece bytes piece.piece next piece.hears)
  gives_on leads_to (Gathers bytes) next had left a b before after turn (inr (inl (end, how)), answers, writer) =
      comes_none leads_to a b (Gathers bytes) next true (bytes ++ []) (before_at true (bytes ++ []) next end.hears)
  gives_on leads_to (Gathers bytes) next had left a b before after turn (inr (inr (still, how)), answers, writer) = stays leads_to a b (Gathers bytes) next still.talk
  gives_on leads_to (Asks line) next had left a b before after turn (reader, inl (reply, steps, gave, is, how), writer) = λ asked given has.
      let same : HoldsReply (Responds line reply steps 0) asked given = subst (λ (t : Talk). HoldsReply t asked given) is has in
      inr (rw (same.0, same.1) (record { before = a; after = b; begins = leads_stays leads_to a; given = gave; ends = leads_stays leads_to b }))
  gives_on leads_to (Asks line) next had left a b before after turn (reader, inr (same, how), writer) = stays leads_to a b (Asks line) next same
  gives_on leads_to IsTooLong next had left a b before after turn (reader, (fails, same, answers), writer) = stays leads_to a b IsTooLong next same
  gives_on leads_to LacksMemory next had left a b before after turn (reader, (fails, same, answers), writer) = stays leads_to a b LacksMemory next same
  gives_on leads_to (Responds line reply steps count) next had left a b before after turn (reader, answers, inl (same, ready, none, writer, how)) =
      stays leads_to a b (Responds line reply steps count) next same
  gives_on leads_to (Responds line reply steps count) next had left a b before after turn (reader, answers, inr (inl (some, how))) =
      λ asked given has. inl (subst (λ (t : Talk). HoldsReply t asked given) some.is has)
  gives_on leads_to (Responds line reply steps count) next had left a b before after turn (reader, answers, inr (inr (inl (some, searches, writer, how)))) =
      λ asked given has. inl (subst (λ (t : Talk). HoldsReply t asked given) searches has)
  gives_on leads_to (Responds line reply steps count) next had left a b before after turn (reader, answers, inr (inr (inr (still, how)))) =
      stays leads_to a b (Responds line reply steps count) next still.talk

  -- nothing was written, and as much of the reply counts as sent
  writes_none : (talk next : Talk) (before after : WatchedData W) → after ≡ before → spoken_of next ≡ spoken_of talk → SaysOn contents talk next before after
  writes_none talk next before after writer same = ([], rw writer (Appends-nil (contents before.device)), same ∙ sym (append-nil (spoken_of talk)))

  pub says_on : (talk next : Talk) (had left : WatchedData R) (a b : A) (before after : WatchedData W) (turn : Progress)
      → Steps talk next had left a b before after turn → SaysOn contents talk next before after
  says_on (Gathers bytes) next had left a b before after turn (inl (piece, how), answers, writer) =
      writes_none (Gathers bytes) next before after writer ((heard_piece bytes piece.piece next piece.hears).1)
  says_on (Gathers bytes) next had left a b before after turn (inr (inl (end, how)), answers, writer) =
      writes_none (Gathers bytes) next before after writer ((before_at true (bytes ++ []) next end.hears).1)
  says_on (Gathers bytes) next had left a b before after turn (inr (inr (still, how)), answers, writer) = writes_none (Gathers bytes) next before after writer (ap spoken_of still.talk)
  says_on (Asks line) next had left a b before after turn (reader, inl (reply, steps, gave, is, how), writer) = writes_none (Asks line) next before after writer (ap spoken_of is)
  says_on (Asks line) next had left a b before after turn (reader, inr (same, how), writer) = writes_none (Asks line) next before after writer (ap spoken_of same)
  says_on IsTooLong next had left a b before after turn (reader, (fails, same, answers), writer) = writes_none IsTooLong next before after writer (ap spoken_of same)
  says_on LacksMemory next had left a b before after turn (reader, (fails, same, answers), writer) = writes_none LacksMemory next before after writer (ap spoken_of same)
  says_on (Responds line reply steps count) next had left a b before after turn (reader, answers, inl (same, ready, none, writer, how)) =
      writes_none (Responds line reply steps count) next before after writer (ap spoken_of same)
  says_on (Responds line reply steps count) next had left a b before after turn (reader, answers, inr (inl (some, how))) =
      (take some.count (drop count reply), some.written, ap spoken_of some.is ∙ take-add count some.count reply)
  says_on (Responds line reply steps count) next had left a b before after turn (reader, answers, inr (inr (inl (some, searches, writer, how)))) =
      writes_none (Responds line reply steps count) next before after writer (ap spoken_of searches)
  says_on (Responds line reply steps count) next had left a b before after turn (reader, answers, inr (inr (inr (still, how)))) =
      ([], Appends-kept _ _ _ _ (Appends-nil (contents before.device)) still.bytes, ap spoken_of still.talk ∙ sym (append-nil (take count reply)))

-- ---- any number of steps

pub says_stays : {W : Type 0} (contents : W → Option (List ℕ)) (talk : Talk) (writer : WatchedData W) → SaysOn contents talk talk writer writer
says_stays contents talk writer = ([], Appends-nil (contents writer.device), sym (append-nil (spoken_of talk)))

pub says_joins : {W : Type 0} (contents : W → Option (List ℕ)) (talk next last : Talk) (w0 w1 w2 : WatchedData W)
    → SaysOn contents talk next w0 w1 → SaysOn contents next last w1 w2 → SaysOn contents talk last w0 w2
says_joins contents talk next last w0 w1 w2 (bytes, sent, said) (more, sent_on, said_on) =
    (bytes ++ more, Appends-trans _ _ _ _ _ sent sent_on, said_on ∙ ap (λ l. l ++ more) said ∙ append_assoc (spoken_of talk) bytes more)

pub gives_joins : {A : Type 0} (gives : A → A → List ℕ → List ℕ → Type 0) (leads_to : A → A → Type 0) (talk next last : Talk) (a b c : A)
    → Leads leads_to a b → Leads leads_to b c → GivesOn gives leads_to talk next a b → GivesOn gives leads_to next last b c → GivesOn gives leads_to talk last a c
gives_joins gives leads_to talk next last a b c first second one more line reply has = by (more line reply has)
  where
    since : (HoldsReply talk line reply) ⊎ (IsGiven gives leads_to a b line reply) → (HoldsReply talk line reply) ⊎ (IsGiven gives leads_to a c line reply)
    since (inl had) = inl had
    since (inr it) = inr (record { before = it.before; after = it.after; begins = it.begins; given = it.given; ends = leads_joins leads_to _ _ _ it.ends second })

    by : (HoldsReply next line reply) ⊎ (IsGiven gives leads_to b c line reply) → (HoldsReply talk line reply) ⊎ (IsGiven gives leads_to a c line reply)
    by (inl had) = since (one line reply had)
    by (inr it) = inr (record { before = it.before; after = it.after; begins = leads_joins leads_to _ _ _ first it.begins; given = it.given; ends = it.ends })
