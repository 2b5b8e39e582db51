use Rattle.std.proofs.Common.{◌≡◌, ℕ, zero, suc, ◌+◌, ◌-◌, ◌≤◌, List, [], ◌∷◌, ◌++◌, length, refl, arith, rules, subst, sym}
use Rattle.std.proofs.lemmas.List.Sums.{sum_by-append, sum_by-cons}
use Rattle.gopher_catalogue.specs.declared.event.EventData.{EventData}
use Rattle.gopher_crew.specs.Share.{ShareData}
use Rattle.gopher_crew.specs.Desk.{share_at, others_at, shares_at, parts_of, HasAll}
use Rattle.gopher_crew.proofs.desk.start.Goals as goal

other_parts : (record_ : List EventData) (count : ℕ) → parts_of (others_at record_ count) ≡ count
other_parts record_ zero = refl
other_parts record_ (suc count) =
    let last = share_at record_ (suc count) 0 1 in
    let more : parts_of (others_at record_ count ++ last ∷ []) ≡ parts_of (others_at record_ count) + parts_of (last ∷ []) = sum_by-append (λ (s : ShareData). s.parts) (others_at record_ count) (last ∷ []) in
    let one : parts_of (last ∷ []) ≡ 1 + 0 = sum_by-cons (λ (s : ShareData). s.parts) last [] in
    omega (arith, more, one, other_parts record_ count)

have_all : (record_ : List EventData) (shares : ℕ) → 1 ≤ shares → shares ≤ 16 → HasAll 16 (shares_at record_ shares)
have_all record_ shares some few =
    let others = others_at record_ (shares - 1) in
    let first : parts_of (shares_at record_ shares) ≡ (17 - shares) + parts_of others = sum_by-cons (λ (s : ShareData). s.parts) (share_at record_ 0 (length record_ - 1) (17 - shares)) others in
    record { some = omega arith; whole = omega (arith, first, other_parts record_ (shares - 1), some, few) }

pub returns-clause-whole : goal.returns-clause-whole
returns-clause-whole g c =
    let parts : 16 ≡ g.C.Ledger.parts = search rules in
    subst (λ (parts : ℕ). HasAll parts c.cut.new.list.items) parts
    (subst (λ (shares : List ShareData). HasAll 16 shares) (sym {A = List ShareData} c.cut.ensures) (have_all _ c.args.shares c.requires.counts.0 c.requires.counts.1))
