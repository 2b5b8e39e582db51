-- A client has received a prefix of a reply to its first line, whatever calls its conversation went through.
use Rattle.std.proofs.Common.{◌≡◌, ℕ, ◌⊎◌, inl, inr, false, List, [], ◌++◌, Option, refl, sym, ap, ◌∙◌, subst, append-nil}
use Rattle.std.proofs.KnownBytes.{Appends-nil, Consumes-nil}
use Rattle.gopher_item.specs.Leads.{Leads, stays, goes}
use Rattle.gopher_serve.specs.Talk.{Talk, Gathers, Asks, IsTooLong, LacksMemory, Responds, HasHeard, HoldsReply, spoken_of}
use Rattle.gopher_serve.specs.Advance.{GivesOn, HasTaken, HearsOn, IsGiven, SaysOn}
use Rattle.gopher_serve.specs.Served.{SessionData, Calls, Converses, HasAsked, ReceivesPrefix, IsServed, ClientsReceivePrefixes}
use Rattle.gopher_serve.proofs.LeadsLemmas.{leads_stays, leads_joins}
use Rattle.gopher_serve.proofs.StepLemmas.{says_stays, says_joins, says_on, gives_joins, gives_on, hears_on}

module _ {A R W : Type 0} (gives : A → A → List ℕ → List ℕ → Type 0) (leads_to : A → A → Type 0) (remaining : R → Option (List ℕ)) (contents : W → Option (List ℕ)) where
  abbrev Session : Type 0
  Session = SessionData A R W

  abbrev Goes : Session → Session → Type 0
  Goes = Converses gives leads_to remaining contents

  goes_stays : (a : Session) → Goes a a
  goes_stays a = record {
    hears = λ had taken. taken;
    answers = λ line reply has. inl has;
    says = says_stays contents a.talk a.writer;
    leads = leads_stays leads_to a.answers;
  }

  goes_joins : (a b c : Session) → Goes a b → Goes b c → Goes a c
  goes_joins a b c first second = record {
    hears = λ had taken. second.hears had (first.hears had taken);
    answers = gives_joins gives leads_to a.talk b.talk c.talk a.answers b.answers c.answers first.leads second.leads first.answers second.answers;
    says = says_joins contents a.talk b.talk c.talk a.writer b.writer c.writer first.says second.says;
    leads = leads_joins leads_to a.answers b.answers c.answers first.leads second.leads;
  }

  goes_by : (a b : Session) → Calls gives leads_to remaining contents a b → Goes a b
  goes_by a b (inl it) = record {
    hears = hears_on remaining gives contents a.talk b.talk a.reader b.reader a.answers b.answers a.writer b.writer it.progress (it.hears, it.asks, it.says);
    answers = gives_on remaining gives contents leads_to a.talk b.talk a.reader b.reader a.answers b.answers a.writer b.writer it.progress (it.hears, it.asks, it.says);
    says = says_on remaining gives contents a.talk b.talk a.reader b.reader a.answers b.answers a.writer b.writer it.progress (it.hears, it.asks, it.says);
    leads = it.leads;
  }
  goes_by a b (inr (inl it)) = it
  goes_by a b (inr (inr it)) = record { hears = hears; answers = answers; says = says; leads = leads }
    where
      hears : HearsOn remaining a.talk b.talk a.reader b.reader
      hears had so_far = rw it.reader (record {
        taken = so_far.taken;
        ended = so_far.ended;
        consumed = so_far.consumed;
        all_taken = so_far.all_taken;
        heard = it.talk.heard so_far.ended so_far.taken so_far.heard;
      })

      answers : GivesOn gives leads_to a.talk b.talk a.answers b.answers
      answers line reply has = inl (it.talk.given line reply has)

      says : SaysOn contents a.talk b.talk a.writer b.writer
      says = ([], rw it.writer (Appends-nil (contents a.writer.device)), it.talk.said ∙ sym (append-nil (spoken_of a.talk)))

      leads : Leads leads_to a.answers b.answers
      leads = rw it.answers (leads_stays leads_to a.answers)

  goes_all : (a b : Session) → Leads (Calls gives leads_to remaining contents) a b → Goes a b
  goes_all a b stays = goes_stays a
  goes_all a b (goes {middle} more one) = goes_joins a middle b (goes_all a middle more) (goes_by middle b one)

  -- what the reader had, and what of it was read
  taken_of : (old new : Session) → old.talk ≡ Gathers [] → Goes old new → HasTaken remaining (remaining old.reader.device) new.reader new.talk
  taken_of old new first on = on.hears (remaining old.reader.device) (record {
    taken = [];
    ended = false;
    consumed = Consumes-nil (remaining old.reader.device);
    all_taken = λ e. absurd cc;
    heard = subst (HasHeard false []) (sym first) refl;
  })

  given_of : (old new : Session) (line reply : List ℕ) → old.talk ≡ Gathers [] → HoldsReply old.talk line reply ⊎ IsGiven gives leads_to old.answers new.answers line reply
      → IsGiven gives leads_to old.answers new.answers line reply
  given_of old new line reply first (inl held) = absurd (subst (λ (t : Talk). HoldsReply t line reply) first held)
  given_of old new line reply first (inr given) = given

  received : (old new : Session) (talk : Talk) (bytes : List ℕ) → old.talk ≡ Gathers [] → Goes old new → new.talk ≡ talk → bytes ≡ spoken_of talk
      → (bytes ≡ []) ⊎ ReceivesPrefix gives leads_to remaining contents old new bytes
  received old new (Gathers gathered) bytes first on is said = inl said
  received old new (Asks line) bytes first on is said = inl said
  received old new IsTooLong bytes first on is said = inl said
  received old new LacksMemory bytes first on is said = inl said
  received old new (Responds line reply steps sent) bytes first on is said = inr (record { line = line; reply = reply; sent = sent; prefix = said; asked = asked; given = given })
    where
      taken : HasTaken remaining (remaining old.reader.device) new.reader new.talk
      taken = taken_of old new first on

      asked : HasAsked gives leads_to remaining contents old new line
      asked = record { taken = taken.taken; ended = taken.ended; consumed = taken.consumed; asked = subst (HasHeard taken.ended taken.taken) is taken.heard }

      given : IsGiven gives leads_to old.answers new.answers line reply
      given = given_of old new line reply first (on.answers line reply (subst (λ (t : Talk). HoldsReply t line reply) (sym is) (refl, refl)))

  served : (old new : Session) → old.talk ≡ Gathers [] → Goes old new → IsServed gives leads_to remaining contents old new
  served old new first on =
      (on.says.0, on.says.1, received old new new.talk on.says.0 first on refl (sym (on.says.2 ∙ ap (λ (t : Talk). spoken_of t ++ on.says.0) first)))

  pub clients_receive_prefixes : ClientsReceivePrefixes gives leads_to remaining contents
  clients_receive_prefixes old new first all = served old new first (goes_all old new all)
