-- Packed lists: the items of all lists in one list, and the end of each.
use Rattle.std.specs.Prelude.{ℕ, zero, suc, ◌≡◌, ◌-◌, ◌≤◌, List, [], ◌∷◌, length, take, drop}

-- the lists from `start` on
abbrev pub parts : {A : Type 0} → List A → ℕ → List ℕ → List (List A)
parts items start [] = []
parts items start (end ∷ ends) = take (end - start) (drop start items) ∷ parts items end ends

-- the start of the list at an index
abbrev pub start_at : ℕ → List ℕ → ℕ → ℕ
start_at start ends zero = start
start_at start [] (suc index) = start
start_at start (end ∷ ends) (suc index) = start_at end ends index

-- the end of the last list
abbrev pub last_end : ℕ → List ℕ → ℕ
last_end start [] = start
last_end start (end ∷ ends) = last_end end ends

-- no list ends before its start, and none past the limit
abbrev pub AreEnds : ℕ → List ℕ → ℕ → Type 0
AreEnds start [] limit = start ≤ limit
AreEnds start (end ∷ ends) limit = (start ≤ end) × AreEnds end ends limit

-- the last list ends with the last item
pub record ArePacked {A : Type 0} (items : List A) (ends : List ℕ) : Type 0 where
  pub chain : AreEnds 0 ends (length items)
  pub whole : last_end 0 ends ≡ length items
