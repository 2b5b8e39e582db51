use Rattle.std.proofs.Common.{◌≡◌, ℕ, List, ◌+◌, ◌++◌, ◌∷◌, [], append_assoc, length, sym, ap, ◌∙◌, arith}
use Rattle.std.proofs.lemmas.Bool.{eqb-true}
use Rattle.std.proofs.lemmas.List.{append-nil, nil_from_length}
use Rattle.gopher_bytes.proofs.PartLemmas.{packed_push, parts_added}
use Rattle.gopher_bytes.proofs.byte_strings.ByteStrings.push.Goals as goal

-- a low end, if there is no high one
low_pushed : (low high : List ℕ) (end : ℕ) → length high ≡ 0 → (low ++ end ∷ []) ++ high ≡ (low ++ high) ++ end ∷ []
low_pushed low high end none =
    let empty : high ≡ [] = nil_from_length high none in
    ap (λ l. (low ++ end ∷ []) ++ l) empty ∙ append-nil (low ++ end ∷ []) ∙ ap (λ l. l ++ end ∷ []) (sym (append-nil low) ∙ ap (λ l. low ++ l) (sym empty))

pub invariant_of-self-then-is_empty : goal.invariant_of-self-then-is_empty
invariant_of-self-then-is_empty c =
    let low : List ℕ = c.self.inside.low.items in
    let high : List ℕ = c.self.inside.high.items in
    let end : ℕ = c.len-2.result + length c.args.string.now in
    let is : end ≡ length c.self.inside.bytes.items + length c.args.string.now = omega arith in
    let none : length high ≡ 0 = sym c.self.inside.high.ok.0 ∙ eqb-true _ 0 (sym c.is_empty.ensures ∙ c.if-is_empty.true) in
    rw (c.push_reserved.ensures.items, c.in_ok-extend_from_slice.ensures.items, c.reserve.ensures.items, low_pushed low high end none)
    (packed_push c.self.inside.bytes.items c.args.string.now (low ++ high) end c.self.invariant is)

pub invariant_of-self-else-end-lt-LOW_ENDS : goal.invariant_of-self-else-end-lt-LOW_ENDS
invariant_of-self-else-end-lt-LOW_ENDS c =
    let low : List ℕ = c.self.inside.low.items in
    let high : List ℕ = c.self.inside.high.items in
    let end : ℕ = c.len-2.result + length c.args.string.now in
    let is : end ≡ length c.self.inside.bytes.items + length c.args.string.now = omega arith in
    rw (c.push_reserved-else-end-lt-LOW_ENDS.ensures.items, c.in_ok-extend_from_slice-2.ensures.items, c.reserve-else-end-lt-LOW_ENDS.ensures.items, ← append_assoc low high (end ∷ []))
    (packed_push c.self.inside.bytes.items c.args.string.now (low ++ high) end c.self.invariant is)

pub returns-in_ok-extend_from_slice-clause-added : goal.returns-in_ok-extend_from_slice-clause-added
returns-in_ok-extend_from_slice-clause-added c =
    let low : List ℕ = c.self.inside.low.items in
    let high : List ℕ = c.self.inside.high.items in
    let end : ℕ = c.len-2.result + length c.args.string.now in
    let is : end ≡ length c.self.inside.bytes.items + length c.args.string.now = omega arith in
    let none : length high ≡ 0 = sym c.self.inside.high.ok.0 ∙ eqb-true _ 0 (sym c.is_empty.ensures ∙ c.if-is_empty.true) in
    rw (c.push_reserved.ensures.items, c.in_ok-extend_from_slice.ensures.items, c.reserve.ensures.items, low_pushed low high end none)
    (parts_added c.self.inside.bytes.items c.args.string.now (low ++ high) end c.self.invariant is)
    ∙ ap (λ l. l ++ c.args.string.now ∷ []) c.self.view_is

pub returns-in_ok-extend_from_slice-2-clause-added : goal.returns-in_ok-extend_from_slice-2-clause-added
returns-in_ok-extend_from_slice-2-clause-added c =
    let low : List ℕ = c.self.inside.low.items in
    let high : List ℕ = c.self.inside.high.items in
    let end : ℕ = c.len-2.result + length c.args.string.now in
    let is : end ≡ length c.self.inside.bytes.items + length c.args.string.now = omega arith in
    rw (c.push_reserved-else-end-lt-LOW_ENDS.ensures.items, c.in_ok-extend_from_slice-2.ensures.items, c.reserve-else-end-lt-LOW_ENDS.ensures.items, ← append_assoc low high (end ∷ []))
    (parts_added c.self.inside.bytes.items c.args.string.now (low ++ high) end c.self.invariant is)
    ∙ ap (λ l. l ++ c.args.string.now ∷ []) c.self.view_is
