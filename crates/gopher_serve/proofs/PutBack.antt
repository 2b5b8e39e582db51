-- A conversation whose search is dropped stands as it stood before.
use Rattle.std.proofs.Common.{◌≡◌, ◌==◌, zero, suc, Bool, true, false, take, refl, sym, ap, arith, if◌then◌else◌}
use Rattle.std.proofs.lemmas.Bool.Decides.{nat_tests}
use Rattle.gopher_serve.specs.Talk.{Talk, Gathers, Asks, IsTooLong, LacksMemory, Responds, put_back}
use Rattle.gopher_serve.specs.Advance.{Upholds}

kept : (talk : Talk) → Upholds talk talk
kept talk = record { heard = λ ended taken heard. heard; said = refl; given = λ line reply has. has }

pub upholds : (old new : Talk) → new ≡ put_back old → Upholds old new
upholds (Gathers bytes) new is = rw is (kept (Gathers bytes))
upholds (Asks line) new is = rw is (kept (Asks line))
upholds IsTooLong new is = rw is (kept IsTooLong)
upholds LacksMemory new is = rw is (kept LacksMemory)
upholds (Responds line reply zero count) new is = rw is (kept (Responds line reply zero count))
upholds (Responds line reply (suc steps) count) new is = rw is (by (count == 0) refl)
  where
    by : (none : Bool) → (count == 0) ≡ none → Upholds (Responds line reply (suc steps) count) (if none then Asks line else Responds line reply (suc steps) count)
    by true e =
        let none : count ≡ 0 = grind (arith, nat_tests) in
        record { heard = λ ended taken heard. heard; said = ap (λ n. take n reply) (sym none); given = λ asked given has. absurd has }
    by false e = kept (Responds line reply (suc steps) count)
