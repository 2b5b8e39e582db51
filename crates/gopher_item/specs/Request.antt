-- A request line without its CR LF (RFC 1436, section 2, and appendix: Full-Text Search
-- Transaction; the limit of 1,024 bytes is this profile's).
use Rattle.std.specs.Prelude.{◌≡◌, ℕ, not, List, Option, None, Some, MatchOption, Result, Err, MatchResult, length, slice_get, nat_lt, if◌then◌else◌}
use Rattle.gopher_item.specs.Place.{is_selector}
use Rattle.gopher_item.specs.Menu.{fields_of, first_field}
use Rattle.gopher_item.specs.declared.request.RequestFault.{RequestFault}
use Rattle.gopher_item.specs.declared.request.RequestFault.TheVariants.{BadSelector, LineTooLong, NoMemory}
use Rattle.gopher_item.specs.declared.request.Request.{Request}
use Rattle.gopher_bytes.specs.declared.line.TheConstants.{MAX_LINE}

abbrev pub request_fault_code : RequestFault → ℕ
request_fault_code BadSelector = 2
request_fault_code LineTooLong = 7
request_fault_code NoMemory = 90

-- the first fault of a line, if it has one
abbrev pub request_fault : List ℕ → Option RequestFault
request_fault line =
    if nat_lt MAX_LINE (length line) then Some LineTooLong else
    (if not (is_selector (first_field (fields_of line))) then Some BadSelector else None)

-- the first field is the selector; the second, if there is one, is the search string
abbrev pub request_of : List ℕ → Request
request_of line =
    record { selector = first_field (fields_of line); search = slice_get (fields_of line) 1 }

-- reading a line fails with the line's fault, returns its request, or is out of memory
abbrev pub ReadsRequest : List ℕ → Result Request RequestFault → Type 0
ReadsRequest line result =
    MatchOption (request_fault line)
    (MatchResult result (λ read. read ≡ request_of line) (λ fault. fault ≡ NoMemory))
    (λ fault. result ≡ Err fault)
