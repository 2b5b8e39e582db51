-- The bytes that RFC 1436 keeps out of fields.
use Rattle.std.specs.Prelude.{ℕ, Bool, ◌==◌, ◌||◌, nat_lt, List}
use Rattle.std.specs.List.{list_any}

-- a TAB, an LF, a CR or a NUL, which no field contains (RFC 1436, appendix: UNASCII)
abbrev pub is_special : ℕ → Bool
is_special byte = (byte == 9) || (byte == 10) || (byte == 13) || (byte == 0)

-- an ASCII control byte
abbrev pub is_control : ℕ → Bool
is_control byte = nat_lt byte 32 || (byte == 127)

abbrev pub has_special : List ℕ → Bool
has_special bytes = list_any is_special bytes
