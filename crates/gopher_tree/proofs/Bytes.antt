-- Tests of bytes.
use Rattle.std.proofs.Common.{◌≡◌, ℕ, Bool, true, false, eqb, List, refl, sym}
use Rattle.std.specs.Prelude.{IsTrue, ◌↔◌}
use Rattle.std.specs.Cmp.Lexicographic.{pointwise, bytes_decides}

-- a test that decides whether two lists are equal is their comparison
pub test_is_pointwise : (r : Bool) (a b : List ℕ) → IsTrue r ↔ (a ≡ b) → r ≡ pointwise eqb a b
test_is_pointwise true a b h = sym ((bytes_decides a b).1 (h.0 refl))
test_is_pointwise false a b h = by (pointwise eqb a b) refl
  where
    by : (t : Bool) → pointwise eqb a b ≡ t → false ≡ t
    by true e = h.1 ((bytes_decides a b).0 e)
    by false e = refl
