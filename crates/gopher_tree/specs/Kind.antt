-- The type of a file. RFC 1436, section 3.8, lists the types; how a file gets its type is this
-- profile's.
use Rattle.std.specs.Prelude.{ℕ, ◌-◌, Bool, ◌||◌, nat_eq, ◌==◌, List, codes, length, map, drop, if◌then◌else◌}
use Rattle.std.specs.List.{list_any}
use Rattle.std.specs.Cmp.Lexicographic.{pointwise}
use Rattle.std.specs.Char.{to_ascii_lowercase}

-- the name ends with these bytes, with ASCII letters in any case
abbrev pub has_ending : List ℕ → List ℕ → Bool
has_ending ending name =
    pointwise nat_eq (map to_ascii_lowercase (drop (length name - length ending) name))
    (map to_ascii_lowercase ending)

abbrev pub is_image : List ℕ → Bool
is_image name =
    has_ending (codes ".png") name || has_ending (codes ".jpg") name
    || has_ending (codes ".jpeg") name

-- the type of a file by its name and bytes: `g`, `I`, `9` or `0`
abbrev pub kind_of : List ℕ → List ℕ → ℕ
kind_of name bytes =
    if has_ending (codes ".gif") name then 103
    else (if is_image name then 73 else (if list_any (λ byte. byte == 0) bytes then 57 else 48))
