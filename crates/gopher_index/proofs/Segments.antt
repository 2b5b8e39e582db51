-- The pages of parts.
use Rattle.std.proofs.Common.{◌≡◌, ℕ, ◌+◌, ◌-◌, ◌<◌, List, [], ◌∷◌, ◌++◌, Some, length, take, get_or, slice_get, sym, ap, ◌∙◌, arith}
use Rattle.std.proofs.lemmas.List.{append-nil, take_more, take_all}
use Rattle.std.proofs.lemmas.Option.{slice_get_within, get_or_from_slice_get}
use Rattle.std.proofs.lemmas.List.Concat.{flat_map-append}
use Rattle.gopher_segment.specs.Segment.{SegmentData, pages_of}

pub pages_of-append : (a b : List SegmentData) → pages_of (a ++ b) ≡ pages_of a ++ pages_of b
pages_of-append a b = flat_map-append (λ (part : SegmentData). part.pages) a b

pub pages-next : (parts : List SegmentData) (i : ℕ) (part : SegmentData) → i < length parts → part ≡ get_or parts i part → pages_of (take (i + 1) parts) ≡ pages_of (take i parts) ++ part.pages
pages-next parts i part within is =
    ap pages_of (take_more parts i part within ∙ ap (λ p. take i parts ++ p ∷ []) (sym is)) ∙ pages_of-append (take i parts) (part ∷ [])
    ∙ ap (λ l. pages_of (take i parts) ++ l) (append-nil part.pages)

-- a list is what stands before its last element, and this
before_last : {X : Type 0} (xs : List X) (x : X) → slice_get xs (length xs - 1) ≡ Some x → xs ≡ take (length xs - 1) xs ++ x ∷ []
before_last xs x is =
    let within = slice_get_within xs (length xs - 1) x is in
    sym (take_all (length xs - 1 + 1) xs (omega (arith, within)))
    ∙ take_more xs (length xs - 1) x within
    ∙ ap (λ y. take (length xs - 1) xs ++ y ∷ []) (get_or_from_slice_get xs (length xs - 1) x x is)

pub pages_end : (parts : List SegmentData) (part : SegmentData) → slice_get parts (length parts - 1) ≡ Some part → pages_of (take (length parts - 1) parts) ++ part.pages ≡ pages_of parts
pages_end parts part is =
    let first : List SegmentData = take (length parts - 1) parts in
    ap (λ l. pages_of first ++ l) (sym (append-nil part.pages)) ∙ sym (pages_of-append first (part ∷ [])) ∙ ap pages_of (sym (before_last parts part is))
