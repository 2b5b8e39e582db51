-- Bytes without the spaces at their ends.
use Rattle.std.specs.Prelude.{ℕ, ◌==◌, List, [], ◌∷◌, reverse, if◌then◌else◌}

-- the bytes without the spaces (32) at their front
abbrev pub trim_front : List ℕ → List ℕ
trim_front [] = []
trim_front (byte ∷ bytes) = if byte == 32 then trim_front bytes else byte ∷ bytes

-- the bytes without the spaces (32) at both ends
abbrev pub trim_spaces : List ℕ → List ℕ
trim_spaces bytes = reverse (trim_front (reverse (trim_front bytes)))
