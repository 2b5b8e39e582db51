-- Words with their first bytes as a number.
use Rattle.std.specs.Prelude.{◌≡◌, ℕ, zero, suc, ◌+◌, ◌*◌, ◌^◌, ◌<◌, List, [], ◌∷◌, slice_index}

-- the first `count` bytes as one big-endian number; a missing byte counts as 0
unfoldable pub leading : ℕ → List ℕ → ℕ
leading zero bytes = 0
leading (suc count) [] = 0
leading (suc count) (byte ∷ bytes) = byte * 256 ^ count + leading count bytes

abbrev pub AreBytes : List ℕ → Type 0
AreBytes word = (i : ℕ) → slice_index word i < 256

-- the number is that of the word's first eight bytes
pub record IsNumbered (number : ℕ) (word : List ℕ) : Type 0 where
  pub bytes : AreBytes word
  pub number_is : number ≡ leading 8 word
