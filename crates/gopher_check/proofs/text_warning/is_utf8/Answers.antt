use Rattle.std.proofs.Common.{◌≡◌, ◌∙◌, ℕ, Bool, true, false, List, refl, sym}
use Rattle.std.specs.Prelude.{IsUtf8, MatchResult, Result, Ok, Err, is_ok}
use Rattle.std.specs.Str.{is_utf8}
use Rattle.std.proofs.lemmas.Str.{IsUtf8-from_is_utf8, is_utf8-from_IsUtf8}
use Rattle.gopher_check.proofs.text_warning.is_utf8.Goals as goal

false_unless_true : (b : Bool) → ¬ (b ≡ true) → false ≡ b
false_unless_true true h = absurd (h refl)
false_unless_true false h = refl

-- a test that succeeds if the bytes are UTF-8 is `is_utf8`
same_test : {A E : Type 0} (P : A → Type 0) (Q : E → Type 0) (bytes : List ℕ) (r : Result A E)
    → MatchResult r (λ s. P s × IsUtf8 bytes) (λ e. ¬ (IsUtf8 bytes) × Q e)
    → is_ok r ≡ is_utf8 bytes
same_test P Q bytes (Ok s) h = sym (is_utf8-from_IsUtf8 bytes h.1)
same_test P Q bytes (Err e) h = false_unless_true _ (λ t. h.0 (IsUtf8-from_is_utf8 bytes t))

pub returns : goal.returns
returns c = c.is_ok.ensures.value ∙ same_test _ _ _ _ c.from_utf8.ensures.cases
