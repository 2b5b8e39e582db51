-- What the values of options name: addresses, and numbers of bytes.
use Rattle.std.specs.Prelude.{◌≡◌, ◌≢◌, ℕ, ◌*◌, ◌^◌, ◌⊎◌, List, ◌++◌, codes}
use Rattle.std.specs.Str.Parse.{IsNumeral, digits_value, without_leading_plus}
use Rattle.std.specs.Net.Addr.{IsV6And}
use Rattle.std.specs.Net.Grammar.{IsIpText, IsIpv6Text, IsSocketText}
use Rattle.std.specs.Net.Socket.{IsPlainSocket, socket_ip, socket_port}
use Rattle.std.specs.declared.net.ip_addr.IpAddr.{IpAddr}
use Rattle.std.specs.declared.net.socket_addr.SocketAddr.{SocketAddr}

-- a text is an IPv6 address in brackets
abbrev pub IsInBrackets : List ℕ → IpAddr → Type 0
IsInBrackets text address =
    (inside : List ℕ) × (text ≡ codes "[" ++ inside ++ codes "]")
    × IsV6And address (IsIpv6Text inside)

-- a text names an address without a port
abbrev pub NamesIp : List ℕ → IpAddr → Type 0
NamesIp text address = IsIpText text address ⊎ IsInBrackets text address

abbrev pub NamesNoIp : List ℕ → Type 0
NamesNoIp text = (address : IpAddr) → ¬ (NamesIp text address)

-- a text names an address: one with a port above 0, or one without a port, which has port 0
abbrev pub NamesAddress : List ℕ → SocketAddr → Type 0
NamesAddress text address =
    (IsSocketText text address × (socket_port address ≢ 0))
    ⊎ (IsPlainSocket address 0 × NamesIp text (socket_ip address))

-- a text names no address that a server may have: it is one with port 0, or none with or without a
-- port
abbrev pub NamesNoAddress : List ℕ → Type 0
NamesNoAddress text =
    ((address : SocketAddr) × IsSocketText text address × (socket_port address ≡ 0))
    ⊎ (((address : SocketAddr) → ¬ (IsSocketText text address)) × NamesNoIp text)

-- a text is a decimal number, perhaps with a plus sign before it
abbrev pub IsDecimal : List ℕ → Type 0
IsDecimal text = IsNumeral 10 (without_leading_plus text)

-- the number
abbrev pub decimal_value : List ℕ → ℕ
decimal_value text = digits_value 10 (without_leading_plus text)

-- a text is a decimal number before a letter that stands for this number of bytes
abbrev pub IsMultiple : List ℕ → List ℕ → ℕ → ℕ → Type 0
IsMultiple text letter unit bytes =
    (digits : List ℕ) × (text ≡ digits ++ letter) × IsDecimal digits
    × (bytes ≡ decimal_value digits * unit)

-- a text names this number of bytes: a decimal number of them or, with `K`, `M` or `G` behind it,
-- of 2 ^ 10, 2 ^ 20 or 2 ^ 30 bytes
abbrev pub NamesBytes : List ℕ → ℕ → Type 0
NamesBytes text bytes =
    (IsDecimal text × (bytes ≡ decimal_value text))
    ⊎ (IsMultiple text (codes "K") (2 ^ 10) bytes
    ⊎ (IsMultiple text (codes "M") (2 ^ 20) bytes
    ⊎ IsMultiple text (codes "G") (2 ^ 30) bytes))

-- a text doesn't end with this letter
abbrev pub LacksLetter : List ℕ → List ℕ → Type 0
LacksLetter text letter = (front : List ℕ) → text ≢ front ++ letter

-- a text is cut into what stands before its letter, and how many bytes the letter stands for
abbrev pub IsCut : List ℕ → List ℕ → ℕ → Type 0
IsCut text front unit =
    ((text ≡ front) × (unit ≡ 1) × LacksLetter text (codes "K") × LacksLetter text (codes "M")
    × LacksLetter text (codes "G"))
    ⊎ (((text ≡ front ++ codes "K") × (unit ≡ 2 ^ 10))
    ⊎ (((text ≡ front ++ codes "M") × (unit ≡ 2 ^ 20))
    ⊎ ((text ≡ front ++ codes "G") × (unit ≡ 2 ^ 30))))
