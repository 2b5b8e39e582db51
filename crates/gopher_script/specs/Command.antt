-- The commands of a script, read from its lines.
use Rattle.std.specs.Prelude.{ℕ, Bool, true, List, [], ◌∷◌, length, codes, map, nat_eq, Option, None, Some, ◌==◌, nat_le, if◌then◌else◌}
use Rattle.std.specs.Borrow.{Bor}
use Rattle.std.specs.Option.{option_map, option_and_then}
use Rattle.std.specs.Cmp.Lexicographic.{pointwise}
use Rattle.gopher_item.specs.Menu.{fields_of}
use Rattle.gopher_bytes.specs.Number.{number_of}
use Rattle.gopher_item.specs.Place.{PlaceData}
use Rattle.gopher_bytes.specs.declared.line.TheConstants.{MAX_LINE}
use Rattle.gopher_item.specs.Rule.{RuleData}
use Rattle.gopher_catalogue.specs.declared.event.Why.{Why}
use Rattle.gopher_catalogue.specs.declared.event.Why.TheVariants.{Connect, Read, Write, TooLong, NoMemory}
use Rattle.gopher_script.specs.declared.command.Command.{Command}
use Rattle.gopher_script.specs.declared.command.Command.TheVariants.{Nothing, Allow, Deny, Seed, Start, Claim, Found, Fail, Search, Occurs, Status}

-- ---- fields

-- the number of a field of at most `width` digits, if it is at most `limit`
abbrev pub short_number : ℕ → ℕ → List ℕ → Option ℕ
short_number width limit digits =
    if nat_le (length digits) width then number_of limit digits else None

-- a port: 1 to 5 digits
abbrev pub port_in : List ℕ → Option ℕ
port_in digits = short_number 5 65535 digits

-- any other number: 1 to 10 digits, with a value that fits into 32 bits
abbrev pub number_in : List ℕ → Option ℕ
number_in digits = short_number 10 4294967295 digits

-- a type: any one byte
abbrev pub kind_in : List ℕ → Option ℕ
kind_in (kind ∷ []) = Some kind
kind_in field = None

-- the reason why a place could not be fetched: its number, as one digit
abbrev pub why_by_digit : ℕ → Option Why
why_by_digit digit =
    if digit == 49 then Some Connect
    else if digit == 50 then Some Read
    else if digit == 51 then Some Write
    else if digit == 52 then Some TooLong
    else if digit == 53 then Some NoMemory
    else None

abbrev pub why_in : List ℕ → Option Why
why_in (digit ∷ []) = why_by_digit digit
why_in field = None

-- ---- the fields after a command's name

-- the bytes of fields
abbrev pub bytes_of : List (Bor (List ℕ)) → List (List ℕ)
bytes_of fields = map (λ field. field.now) fields

-- a host, a port and a prefix
abbrev pub rule_in : List (List ℕ) → Option RuleData
rule_in (host ∷ port ∷ prefix ∷ []) =
    option_map (λ number. record { host = host; port = number; prefix = prefix }) (port_in port)
rule_in fields = None

-- a type, a host, a port and a selector
abbrev pub place_in : List (List ℕ) → Option PlaceData
place_in (kind ∷ host ∷ port ∷ selector ∷ []) =
    option_and_then (λ byte. option_map (λ number.
    record { host = host; port = number; selector = selector; kind = byte })
    (port_in port)) (kind_in kind)
place_in fields = None

-- the limits of places and of tries; without the second, one try
abbrev pub start_in : List (List ℕ) → Option Command
start_in (places ∷ []) = option_map (λ limit. Start limit 1) (number_in places)
start_in (places ∷ tries ∷ []) =
    option_and_then (λ limit. option_map (λ number. Start limit number) (number_in tries))
    (number_in places)
start_in fields = None

-- a place's number, and the place
abbrev pub found_in : List (List ℕ) → Option Command
found_in [] = None
found_in (number ∷ place) =
    option_and_then (λ n. option_map (λ p. Found n p) (place_in place)) (number_in number)

-- a place's number, and the reason why it failed
abbrev pub fail_in : List (List ℕ) → Option Command
fail_in (number ∷ why ∷ []) =
    option_and_then (λ n. option_map (λ w. Fail n w) (why_in why)) (number_in number)
fail_in fields = None

-- a query's text, of at most 1,024 bytes (`MAX_LINE`)
abbrev pub search_in : List (List ℕ) → Option Command
search_in (text ∷ []) = if nat_le (length text) MAX_LINE then Some (Search text) else None
search_in fields = None

-- a word
abbrev pub occurs_in : List (List ℕ) → Option Command
occurs_in (word ∷ []) = Some (Occurs word)
occurs_in fields = None

-- a command without fields after its name
abbrev pub alone : Command → List (List ℕ) → Option Command
alone command [] = Some command
alone command fields = None

-- ---- a line

abbrev pub is_name : List ℕ → List ℕ → Bool
is_name field name = pointwise nat_eq field name

-- the command with this name and these further fields, if they make one
abbrev pub command_in : List (List ℕ) → Option Command
command_in [] = None
command_in (name ∷ fields) =
    if is_name name (codes "allow") then option_map Allow (rule_in fields)
    else if is_name name (codes "deny") then option_map Deny (rule_in fields)
    else if is_name name (codes "seed") then option_map Seed (place_in fields)
    else if is_name name (codes "start") then start_in fields
    else if is_name name (codes "claim") then alone Claim fields
    else if is_name name (codes "found") then found_in fields
    else if is_name name (codes "fail") then fail_in fields
    else if is_name name (codes "search") then search_in fields
    else if is_name name (codes "occurs") then occurs_in fields
    else if is_name name (codes "status") then alone Status fields else None

-- an empty line or a comment, which begins with `#`, does nothing
abbrev pub is_idle_line : List ℕ → Bool
is_idle_line [] = true
is_idle_line (byte ∷ bytes) = byte == 35

-- the command of a line, if it is one: TABs separate its fields
abbrev pub command_of : List ℕ → Option Command
command_of line = if is_idle_line line then Some Nothing else command_in (fields_of line)

-- a statement: its line's number from 1 and command, if it is one, and the reply of its block
pub record StatementData : Type 0 where
  pub number : ℕ
  pub command : Option Command
  pub reply : List ℕ
