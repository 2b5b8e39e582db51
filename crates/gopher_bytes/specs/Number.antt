-- Numbers written in ASCII digits.
use Rattle.std.specs.Prelude.{ℕ, Bool, ◌&&◌, List, length, Option, None, Some, nat_lt, nat_le, if◌then◌else◌}
use Rattle.std.specs.List.{list_all}
use Rattle.std.specs.Char.{is_ascii_digit}
use Rattle.std.specs.Str.Parse.{digits_value}

-- one or more digits, and nothing else
abbrev pub is_number : List ℕ → Bool
is_number digits = nat_lt 0 (length digits) && list_all is_ascii_digit digits

-- the number that the digits spell, if it is at most `limit`
abbrev pub number_of : ℕ → List ℕ → Option ℕ
number_of limit digits =
    if is_number digits && nat_le (digits_value 10 digits) limit
    then Some (digits_value 10 digits) else None

-- the value of these digits, if it is at most `limit`
abbrev pub value_up_to : ℕ → List ℕ → Option ℕ
value_up_to limit digits =
    if nat_le (digits_value 10 digits) limit then Some (digits_value 10 digits) else None
