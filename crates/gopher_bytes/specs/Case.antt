-- Bytes in lower case.
use Rattle.std.specs.Prelude.{ℕ, ◌+◌, ◌&&◌, nat_le, if◌then◌else◌}

-- an ASCII letter in lower case, any other byte unchanged
abbrev pub lower_case : ℕ → ℕ
lower_case byte = if nat_le 65 byte && nat_le byte 90 then byte + 32 else byte
