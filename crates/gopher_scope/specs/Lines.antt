-- Bytes in their shown form, and which lines of menus lead to their own server.
use Rattle.std.specs.Prelude.{◌≡◌, ℕ, ◌==◌, List, None, Bool, true, ◌∷◌, [], ◌++◌, codes, Option, Some, ◌&&◌, ◌||◌, not, nat_eq, map, Result, OnOk, if◌then◌else◌}
use Rattle.std.specs.List.{flat_map}
use Rattle.gopher_item.specs.Place.{HomeData}
use Rattle.gopher_item.specs.Special.{is_control}
use Rattle.std.specs.Char.{to_ascii_lowercase}
use Rattle.std.specs.Cmp.Lexicographic.{pointwise}
use Rattle.std.specs.Global.{Vec}

-- a call that succeeds appends these items to a list
abbrev pub Puts : {A T E : Type 0} → List A → Vec A → Vec A → Result T E → Type 0
Puts items old new result = OnOk result (new.items ≡ old.items ++ items)

-- the shown form of a byte: a TAB, LF, CR and backslash as `\t`, `\n`, `\r` and `\\`, any other
-- control byte as `\?`
abbrev pub shown_byte : ℕ → List ℕ
shown_byte byte =
    if byte == 9 then 92 ∷ 116 ∷ []
    else (if byte == 10 then 92 ∷ 110 ∷ []
    else (if byte == 13 then 92 ∷ 114 ∷ []
    else (if byte == 92 then 92 ∷ 92 ∷ []
    else (if is_control byte then 92 ∷ 63 ∷ [] else byte ∷ []))))

abbrev pub shown : List ℕ → List ℕ
shown bytes = flat_map shown_byte bytes

-- a client asks a Gopher server for items of this type; not for texts (`i`), errors (`3`), and
-- sessions of other protocols (`2`, `8`, `T`: RFC 1436, section 3.8)
abbrev pub is_asked : ℕ → Bool
is_asked kind =
    not ((kind == 105) || (kind == 51) || (kind == 50) || (kind == 56) || (kind == 84))

abbrev pub leads_to_search : List ℕ → Bool
leads_to_search selector = pointwise nat_eq selector (codes "/search")

-- the line is of the server with this address, whose host may be written with letters in any case
abbrev pub is_own : HomeData → Option HomeData → Bool
is_own home None = true
is_own home (Some server) =
    (server.port == home.port)
    && pointwise nat_eq (map to_ascii_lowercase server.host) (map to_ascii_lowercase home.host)
