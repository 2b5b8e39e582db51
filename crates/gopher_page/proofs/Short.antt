-- The lines of a page have at most as many bytes as its reply.
use Rattle.std.proofs.Common.{◌≡◌, ℕ, suc, ◌-◌, ◌<◌, ◌≤◌, Bool, true, false, ◌&&◌, ◌||◌, cond, eqb, not, List, [], ◌∷◌, length, map, filter, take, get_or, Option, None, Some, sum_by, refl, arith}
use Rattle.std.proofs.lemmas.List.{length-take}
use Rattle.std.proofs.lemmas.List.Filters.{sum_by-filter_both}
use Rattle.std.proofs.lemmas.List.Sums.{sum_by-cons, sum_by-take-le}
use Rattle.std.specs.List.{slice_split, onto_first, prefix_len, list_any}
use Rattle.std.specs.Option.{option_map, option_map_or}
use Rattle.std.specs.Str.Lines.{lines_of_parts, strip_carriage_return}
use Rattle.gopher_bytes.specs.Lines.{is_last_line, lines_before_last, lines_of}
use Rattle.gopher_item.specs.Menu.{entry_of, item_of_list, fields_of, first_field}
use Rattle.gopher_item.specs.declared.menu.Entry.TheVariants.{Item, Odd}
use Rattle.gopher_bytes.specs.Trim.{trim_spaces}
use Rattle.gopher_bytes.specs.Number.{number_of}
use Rattle.gopher_text.specs.Text.{text_lines, line_read, begins_with_period}
use Rattle.gopher_page.specs.Page.{menu_page_lines, line_of_entry}

-- ---- lines

pub split_size : (test : ℕ → Bool) (bytes : List ℕ) → sum_by length (slice_split test bytes) ≤ length bytes
split_size test [] = omega arith
split_size test (byte ∷ bytes) = by (test byte) (slice_split test bytes) (split_size test bytes)
  where
    by : (b : Bool) (parts : List (List ℕ)) → sum_by length parts ≤ length bytes → sum_by length (cond b ([] ∷ parts) (onto_first byte parts)) ≤ suc (length bytes)
    by true parts rest = omega (arith, rest, sum_by-cons (length {A = ℕ}) [] parts)
    by false [] rest = omega arith
    by false (part ∷ parts) rest = omega (arith, rest, sum_by-cons (length {A = ℕ}) (byte ∷ part) parts, sum_by-cons (length {A = ℕ}) part parts)

strip_short : (line : List ℕ) → length (strip_carriage_return line) ≤ length line
strip_short line = by (eqb (get_or line (length line - 1) 0) 13)
  where
    by : (b : Bool) → length (cond b (take (length line - 1) line) line) ≤ length line
    by true = omega (arith, length-take (length line - 1) line)
    by false = omega arith

lines_size : (parts : List (List ℕ)) → sum_by length (lines_of_parts parts) ≤ sum_by length parts
lines_size [] = omega arith
lines_size (part ∷ []) = by (eqb (length part) 0)
  where
    by : (b : Bool) → sum_by length (cond b [] (part ∷ [])) ≤ sum_by length (part ∷ [])
    by true = omega arith
    by false = omega arith
lines_size (part ∷ next ∷ parts) =
    omega (arith, lines_size (next ∷ parts), strip_short part, sum_by-cons (length {A = ℕ}) (strip_carriage_return part) (lines_of_parts (next ∷ parts)), sum_by-cons (length {A = ℕ}) part (next ∷ parts))

lines_of_size : (bytes : List ℕ) → sum_by length (lines_of bytes) ≤ length bytes
lines_of_size bytes = omega (arith, lines_size (slice_split (λ b. eqb b 10) bytes), split_size (λ b. eqb b 10) bytes)

pub filter_size : (test : List ℕ → Bool) (lines : List (List ℕ)) → sum_by length (filter test lines) ≤ sum_by length lines
filter_size test lines = omega (arith, sum_by-filter_both test (λ line. not (test line)) (λ line. refl) (length {A = ℕ}) lines)

-- lines that pass a test are no more than the bytes if each has one
pub filter_count : (test : List ℕ → Bool) → ((line : List ℕ) → test line ≡ true → 0 < length line) → (lines : List (List ℕ)) → length (filter test lines) ≤ sum_by length lines
filter_count test some [] = omega arith
filter_count test some (line ∷ lines) = by (test line) refl (filter_count test some lines)
  where
    by : (b : Bool) → test line ≡ b → length (filter test lines) ≤ sum_by length lines → length (cond b (line ∷ filter test lines) (filter test lines)) ≤ sum_by length (line ∷ lines)
    by true e rest = omega (arith, rest, some line e, sum_by-cons (length {A = ℕ}) line lines)
    by false e rest = omega (arith, rest, sum_by-cons (length {A = ℕ}) line lines)

pub map_size : (f : List ℕ → List ℕ) → ((line : List ℕ) → length (f line) ≤ length line) → (lines : List (List ℕ)) → sum_by length (map f lines) ≤ sum_by length lines
map_size f shorter [] = omega arith
map_size f shorter (line ∷ lines) = omega (arith, shorter line, map_size f shorter lines, sum_by-cons (length {A = ℕ}) (f line) (map f lines), sum_by-cons (length {A = ℕ}) line lines)

pub before_last_size : (bytes : List ℕ) → sum_by length (lines_before_last (lines_of bytes)) ≤ length bytes
before_last_size bytes =
    omega (arith, lines_of_size bytes, sum_by-take-le (length {A = ℕ}) (lines_of bytes) (prefix_len (λ line. not (is_last_line line)) (lines_of bytes)))

-- ---- texts

read_short : (line : List ℕ) → length (line_read line) ≤ length line
read_short [] = omega arith
read_short (byte ∷ bytes) = by (eqb byte 46 && begins_with_period bytes)
  where
    by : (b : Bool) → length (cond b bytes (byte ∷ bytes)) ≤ suc (length bytes)
    by true = omega arith
    by false = omega arith

pub short_text : (bytes : List ℕ) → sum_by length (text_lines bytes) ≤ length bytes
short_text bytes = omega (arith, before_last_size bytes, map_size line_read read_short (lines_before_last (lines_of bytes)))

-- ---- menus

first_size : (fields : List (List ℕ)) → length (first_field fields) ≤ sum_by length fields
first_size [] = omega arith
first_size (first ∷ fields) = omega (arith, sum_by-cons (length {A = ℕ}) first fields)

-- the line of an entry is part of the first field
item_size : (fields : List (List ℕ)) → length (line_of_entry (option_map_or Item (item_of_list fields) (Odd (first_field fields)))) ≤ sum_by length fields
item_size [] = omega arith
item_size (first ∷ []) = first_size (first ∷ [])
item_size (first ∷ second ∷ []) = first_size (first ∷ second ∷ [])
item_size (first ∷ second ∷ third ∷ []) = first_size (first ∷ second ∷ third ∷ [])
item_size ([] ∷ second ∷ third ∷ port ∷ fields) = omega arith
item_size ((kind ∷ display) ∷ second ∷ third ∷ port ∷ fields) = by (number_of 65535 (trim_spaces port))
  where
    by : (number : Option ℕ) → length (line_of_entry (option_map_or Item (option_map (λ n. record { kind = kind; display = display; selector = second; host = trim_spaces third; port = n }) number) (Odd (kind ∷ display)))) ≤ sum_by length ((kind ∷ display) ∷ second ∷ third ∷ port ∷ fields)
    by None = first_size ((kind ∷ display) ∷ second ∷ third ∷ port ∷ fields)
    by (Some n) = omega (arith, first_size ((kind ∷ display) ∷ second ∷ third ∷ port ∷ fields))

entry_short : (line : List ℕ) → length (line_of_entry (entry_of line)) ≤ length line
entry_short line = by (list_any (λ byte. eqb byte 13 || eqb byte 0) line)
  where
    by : (b : Bool) → length (line_of_entry (option_map_or Item (cond b None (item_of_list (fields_of line))) (Odd (first_field (fields_of line))))) ≤ length line
    by true = omega (arith, first_size (fields_of line), split_size (λ byte. eqb byte 9) line)
    by false = omega (arith, item_size (fields_of line), split_size (λ byte. eqb byte 9) line)

entries_size : (lines : List (List ℕ)) → sum_by length (map line_of_entry (map entry_of lines)) ≤ sum_by length lines
entries_size [] = omega arith
entries_size (line ∷ lines) =
    omega (arith, entry_short line, entries_size lines, sum_by-cons (length {A = ℕ}) (line_of_entry (entry_of line)) (map line_of_entry (map entry_of lines)), sum_by-cons (length {A = ℕ}) line lines)

pub short_menu : (bytes : List ℕ) → sum_by length (menu_page_lines bytes) ≤ length bytes
short_menu bytes =
    omega (arith, before_last_size bytes, filter_size (λ line. not (eqb (length line) 0)) (lines_before_last (lines_of bytes)), entries_size (filter (λ line. not (eqb (length line) 0)) (lines_before_last (lines_of bytes))))
