-- Packed lists by index, and after one more list.
use Rattle.std.proofs.Common.{◌≡◌, ℕ, zero, suc, ◌+◌, ◌-◌, ◌<◌, ◌≤◌, List, [], ◌∷◌, ◌++◌, length, take, drop, get_or, slice_get, Some, refl, sym, ap, subst, ◌∙◌, arith}
use Rattle.std.specs.Prelude.{sum_by}
use Rattle.std.proofs.lemmas.List.Sums.{sum_by-cons}
use Rattle.std.proofs.lemmas.List.{length-take, length-append, length-drop, drop-append-le, take-append-le, drop_at, take_all}
use Rattle.gopher_bytes.specs.Parts.{parts, start_at, last_end, AreEnds, ArePacked}

pub length-parts : {A : Type 0} (items : List A) (start : ℕ) (ends : List ℕ) → length (parts items start ends) ≡ length ends
length-parts items start [] = refl
length-parts items start (end ∷ ends) = ap suc (length-parts items end ends)

-- ---- by index

-- each list after the first starts at the end of the one before
pub start_at-suc : (start : ℕ) (ends : List ℕ) (index d : ℕ) → index < length ends → get_or ends index d ≡ start_at start ends (suc index)
start_at-suc start [] index d within = absurd (omega arith)
start_at-suc start (end ∷ ends) zero d within = refl
start_at-suc start (end ∷ ends) (suc index) d within = start_at-suc end ends index d (omega arith)

-- the list at an index
pub parts-get : {A : Type 0} (items : List A) (start : ℕ) (ends : List ℕ) (index d : ℕ) → index < length ends
    → slice_get (parts items start ends) index ≡ Some (take (get_or ends index d - start_at start ends index) (drop (start_at start ends index) items))
parts-get items start [] index d within = absurd (omega arith)
parts-get items start (end ∷ ends) zero d within = refl
parts-get items start (end ∷ ends) (suc index) d within = parts-get items end ends index d (omega arith)

pub last_le_limit : (start : ℕ) (ends : List ℕ) (limit : ℕ) → AreEnds start ends limit → last_end start ends ≤ limit
last_le_limit start [] limit chain = chain
last_le_limit start (end ∷ ends) limit chain = last_le_limit end ends limit chain.1

-- ---- spans

pub start_le_at : (start : ℕ) (ends : List ℕ) (limit i : ℕ) → AreEnds start ends limit → start ≤ start_at start ends i
start_le_at start ends limit zero chain = omega arith
start_le_at start [] limit (suc i) chain = omega arith
start_le_at start (end ∷ ends) limit (suc i) chain = omega (arith, chain.0, start_le_at end ends limit i chain.1)

-- no list starts before an earlier one
pub starts_forward : (start : ℕ) (ends : List ℕ) (limit i j : ℕ) → AreEnds start ends limit → i ≤ j → start_at start ends i ≤ start_at start ends j
starts_forward start ends limit zero j chain forward = start_le_at start ends limit j chain
starts_forward start [] limit (suc i) zero chain forward = omega arith
starts_forward start [] limit (suc i) (suc j) chain forward = omega arith
starts_forward start (end ∷ ends) limit (suc i) zero chain forward = absurd (omega arith)
starts_forward start (end ∷ ends) limit (suc i) (suc j) chain forward = starts_forward end ends limit i j chain.1 (omega arith)

-- no list starts past the limit
pub start_within : (start : ℕ) (ends : List ℕ) (limit i : ℕ) → AreEnds start ends limit → start_at start ends i ≤ limit
start_within start [] limit zero chain = chain
start_within start [] limit (suc i) chain = chain
start_within start (end ∷ ends) limit zero chain = omega (arith, chain.0, start_within end ends limit 0 chain.1)
start_within start (end ∷ ends) limit (suc i) chain = start_within end ends limit i chain.1

-- no list starts after its end, and none ends past the limit
pub start_le_end : (start : ℕ) (ends : List ℕ) (limit index d : ℕ) → AreEnds start ends limit → index < length ends → start_at start ends index ≤ get_or ends index d
start_le_end start ends limit index d chain within = omega (arith, start_at-suc start ends index d within, starts_forward start ends limit index (suc index) chain (omega arith))

pub end_le_limit : (start : ℕ) (ends : List ℕ) (limit index d : ℕ) → AreEnds start ends limit → index < length ends → get_or ends index d ≤ limit
end_le_limit start ends limit index d chain within = omega (arith, start_at-suc start ends index d within, start_within start ends limit (suc index) chain)

-- ---- one more list

pub ends_grow : (start : ℕ) (ends : List ℕ) (limit more : ℕ) → AreEnds start ends limit → limit ≤ more → AreEnds start ends more
ends_grow start [] limit more chain grows = omega arith
ends_grow start (end ∷ ends) limit more chain grows = (chain.0, ends_grow end ends limit more chain.1 grows)

pub ends_push : (start : ℕ) (ends : List ℕ) (limit end : ℕ) → AreEnds start ends limit → limit ≤ end → AreEnds start (ends ++ end ∷ []) end
ends_push start [] limit end chain grows = (omega arith, omega arith)
ends_push start (first ∷ ends) limit end chain grows = (chain.0, ends_push first ends limit end chain.1 grows)

pub last_push : (start : ℕ) (ends : List ℕ) (end : ℕ) → last_end start (ends ++ end ∷ []) ≡ end
last_push start [] end = refl
last_push start (first ∷ ends) end = last_push first ends end

-- the lists contain no item past the limit
pub parts_more : {A : Type 0} (items more : List A) (start : ℕ) (ends : List ℕ) → AreEnds start ends (length items) → parts (items ++ more) start ends ≡ parts items start ends
parts_more items more start [] chain = refl
parts_more items more start (end ∷ ends) chain =
    let within : end ≤ length items = start_within end ends (length items) 0 chain.1 in
    let from : drop start (items ++ more) ≡ drop start items ++ more = drop-append-le start items more (omega (arith, chain.0)) in
    let short : end - start ≤ length (drop start items) = omega (arith, length-drop start items) in
    let kept : take (end - start) (drop start (items ++ more)) ≡ take (end - start) (drop start items) = ap (take (end - start)) from ∙ take-append-le (end - start) (drop start items) more short in
    λ i. kept i ∷ parts_more items more end ends chain.1 i

pub parts_push : {A : Type 0} (items : List A) (start : ℕ) (ends : List ℕ) (end : ℕ)
    → parts items start (ends ++ end ∷ []) ≡ parts items start ends ++ take (end - last_end start ends) (drop (last_end start ends) items) ∷ []
parts_push items start [] end = refl
parts_push items start (first ∷ ends) end = ap (λ l. take (first - start) (drop start items) ∷ l) (parts_push items first ends end)

pub packed_push : {A : Type 0} (items more : List A) (ends : List ℕ) (end : ℕ) → ArePacked items ends → end ≡ length items + length more → ArePacked (items ++ more) (ends ++ end ∷ [])
packed_push items more ends end packed is =
    let whole : end ≡ length (items ++ more) = is ∙ sym (length-append items more) in
    record {
      chain = subst (AreEnds 0 (ends ++ end ∷ [])) whole (ends_push 0 ends (length items) end packed.chain (omega arith));
      whole = last_push 0 ends end ∙ whole;
    }

pub parts_added : {A : Type 0} (items more : List A) (ends : List ℕ) (end : ℕ) → ArePacked items ends → end ≡ length items + length more → parts (items ++ more) 0 (ends ++ end ∷ []) ≡ parts items 0 ends ++ more ∷ []
parts_added items more ends end packed is =
    let size : end - last_end 0 ends ≡ length more = omega (arith, packed.whole) in
    let from : drop (last_end 0 ends) (items ++ more) ≡ more = drop_at items more (last_end 0 ends) (sym packed.whole) in
    let last : take (end - last_end 0 ends) (drop (last_end 0 ends) (items ++ more)) ≡ more = (λ i. take (size i) (from i)) ∙ take_all (length more) more (omega arith) in
    parts_push (items ++ more) 0 ends end ∙ (λ i. parts_more items more 0 ends packed.chain i ++ last i ∷ [])

-- ---- their sizes

-- the strings contain all bytes up to the end of the last
parts_length : (bytes : List ℕ) (start : ℕ) (ends : List ℕ) → AreEnds start ends (length bytes) → start + sum_by length (parts bytes start ends) ≡ last_end start ends
parts_length bytes start [] chain = omega arith
parts_length bytes start (end ∷ ends) chain =
    let within : end ≤ length bytes = start_within end ends (length bytes) 0 chain.1 in
    let size : length (take (end - start) (drop start bytes)) ≡ end - start = omega (arith, chain.0, length-take (end - start) (drop start bytes), length-drop start bytes) in
    omega (arith, chain.0, size, parts_length bytes end ends chain.1, sum_by-cons length (take (end - start) (drop start bytes)) (parts bytes end ends))

pub packed_length : (bytes ends : List ℕ) → ArePacked bytes ends → sum_by length (parts bytes 0 ends) ≡ length bytes
packed_length bytes ends packed = omega (arith, parts_length bytes 0 ends packed.chain, packed.whole)
