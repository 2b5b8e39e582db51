-- Places and servers as URLs.
use Rattle.std.specs.Prelude.{ℕ, Bool, List, [], ◌∷◌, ◌++◌, ◌==◌, codes, if◌then◌else◌}
use Rattle.std.specs.List.{list_any}
use Rattle.std.specs.Fmt.{decimal}
use Rattle.percent_encoding.specs.Percent.{percent_encode}
use Rattle.gopher_item.specs.Place.{PlaceData}
use Rattle.gopher_hole.specs.declared.progress.urls.TheConstants.{ESCAPED}

-- the bytes with `%` and two digits in place of each byte that is escaped in a URL
abbrev pub percent_escaped : List ℕ → List ℕ
percent_escaped bytes = percent_encode ESCAPED bytes

-- the host has a colon, as an IPv6 address does
abbrev pub has_colon : List ℕ → Bool
has_colon host = list_any (λ byte. byte == 58) host

-- a host in a URL, in brackets if it has a colon: RFC 3986, section 3.2.2
abbrev pub url_host : List ℕ → List ℕ
url_host host =
    if has_colon host then codes "[" ++ percent_escaped host ++ codes "]" else percent_escaped host

-- the server of a place
abbrev pub host_port : PlaceData → List ℕ
host_port place = url_host place.host ++ codes ":" ++ decimal place.port

-- the URL of a place: RFC 4266
abbrev pub url_of : PlaceData → List ℕ
url_of place =
    codes "gopher://" ++ host_port place ++ codes "/" ++ percent_escaped (place.kind ∷ [])
    ++ percent_escaped place.selector
