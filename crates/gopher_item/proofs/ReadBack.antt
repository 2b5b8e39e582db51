-- Written menu lines are read back as the same lines.
use Rattle.std.proofs.Common.{◌≡◌, ℕ, ◌-◌, ◌<◌, ◌≤◌, ◌^◌, Bool, true, false, ◌||◌, eqb, ltb, leb, cond, List, [], ◌∷◌, ◌++◌, length, get_or, map, reverse, Some, refl, sym, ap, ◌∙◌, append_assoc, arith}
use Rattle.std.specs.Prelude.{decimal}
use Rattle.std.specs.List.{list_any, list_all, slice_split, flat_map, AllByRecursion}
use Rattle.std.specs.Char.{is_ascii_digit}
use Rattle.std.specs.Int.{IsInRange}
use Rattle.std.specs.Str.Lines.{strip_carriage_return}
use Rattle.std.specs.Str.Parse.{digits_value, AllDigits}
use Rattle.std.specs.Cmp.Lexicographic.{unequal}
use Rattle.std.proofs.lemmas.Bool.{or_from, or_parts}
use Rattle.std.proofs.lemmas.Bool.Decides.{nat_tests}
use Rattle.std.proofs.lemmas.Fmt.{decimal_is_IsNumeral}
use Rattle.std.proofs.lemmas.Str.Parse.{digit_from_value}
use Rattle.std.proofs.lemmas.List.{length-append, take_at, reverse-reverse}
use Rattle.std.proofs.lemmas.List.Concat.{flat_map-cons}
use Rattle.std.proofs.lemmas.List.Folds.{list_any-append}
use Rattle.std.proofs.lemmas.List.Splits.{slice_split-cons_yes, slice_split-cons_no}
use Rattle.std.proofs.Math.Seq.{get_or-append_seam}
use Rattle.gopher_item.specs.Special.{is_special, has_special}
use Rattle.gopher_bytes.specs.Lines.{any_last_line, is_last_line, lines_of}
use Rattle.gopher_bytes.specs.Number.{number_of}
use Rattle.gopher_bytes.specs.Trim.{trim_front, trim_spaces}
use Rattle.gopher_item.specs.MenuLine.{MenuLineData, IsMenuLine, menu_line_bytes, menu_bytes}
use Rattle.gopher_item.specs.declared.menu.Entry.TheVariants.{Item}
use Rattle.gopher_item.specs.Menu.{ReadsMenu, fields_of, item_of, entry_of, entries_of}
use Rattle.gopher_bytes.proofs.Splits.{any_last_line-line, lines_of_cut}
use Rattle.gopher_bytes.proofs.Trims.{none_in_reverse}
use Rattle.gopher_item.proofs.MenuLemmas.{entries_of-line}

-- ---- tests that no byte passes

none_of_fewer : (p q : ℕ → Bool) → ((b : ℕ) → p b ≡ false → q b ≡ false) → (xs : List ℕ) → list_any p xs ≡ false → list_any q xs ≡ false
none_of_fewer p q fewer [] h = refl
none_of_fewer p q fewer (x ∷ xs) h = let both = or_parts _ _ h in or_from _ _ (fewer x both.0) (none_of_fewer p q fewer xs both.1)

none_in_both : (p : ℕ → Bool) (xs ys : List ℕ) → list_any p xs ≡ false → list_any p ys ≡ false → list_any p (xs ++ ys) ≡ false
none_in_both p xs ys a b = list_any-append p xs ys ∙ or_from _ _ a b

plain_tab : (b : ℕ) → is_special b ≡ false → eqb b 9 ≡ false
plain_tab b h = (or_parts _ _ (or_parts _ _ (or_parts _ _ h).0).0).0

plain_feed : (b : ℕ) → is_special b ≡ false → eqb b 10 ≡ false
plain_feed b h = (or_parts _ _ (or_parts _ _ (or_parts _ _ h).0).0).1

plain_return : (b : ℕ) → is_special b ≡ false → (eqb b 13 || eqb b 0) ≡ false
plain_return b h =
    let both = or_parts ((eqb b 9 || eqb b 10) || eqb b 13) (eqb b 0) h in
    or_from (eqb b 13) (eqb b 0) (or_parts (eqb b 9 || eqb b 10) (eqb b 13) both.0).1 both.1

-- ---- cuts

cut_at : (c : ℕ) (xs ys : List ℕ) → list_any (λ b. eqb b c) xs ≡ false → slice_split (λ b. eqb b c) (xs ++ c ∷ ys) ≡ xs ∷ slice_split (λ b. eqb b c) ys
cut_at c [] ys h = slice_split-cons_yes (λ b. eqb b c) c ys (grind (arith, nat_tests))
cut_at c (x ∷ xs) ys h =
    let both = or_parts _ _ h in
    slice_split-cons_no (λ b. eqb b c) x (xs ++ c ∷ ys) both.0 ∙ rw (cut_at c xs ys both.1) refl

cut_nowhere : (c : ℕ) (xs : List ℕ) → list_any (λ b. eqb b c) xs ≡ false → slice_split (λ b. eqb b c) xs ≡ xs ∷ []
cut_nowhere c [] h = refl
cut_nowhere c (x ∷ xs) h =
    let both = or_parts _ _ h in
    slice_split-cons_no (λ b. eqb b c) x xs both.0 ∙ rw (cut_nowhere c xs both.1) refl

strip_return : (xs : List ℕ) → strip_carriage_return (xs ++ 13 ∷ []) ≡ xs
strip_return xs =
    let size : length (xs ++ 13 ∷ []) - 1 ≡ length xs = omega (arith, length-append xs (13 ∷ [])) in
    let last : get_or (xs ++ 13 ∷ []) (length xs) 0 ≡ 13 = get_or-append_seam xs 13 [] 0 in
    rw (size, last) (take_at xs (13 ∷ []) (length xs) refl)

-- ---- ports

in_digits : (b : ℕ) → IsInRange 48 57 b → (is_special b ≡ false) × (eqb b 32 ≡ false) × (is_ascii_digit b ≡ true)
in_digits b range = (grind (arith, nat_tests), grind (arith, nat_tests), grind (arith, nat_tests))

digits_plain : (ds : List ℕ) → AllDigits 10 ds → (list_any is_special ds ≡ false) × (list_any (λ b. eqb b 32) ds ≡ false) × (list_all is_ascii_digit ds ≡ true)
digits_plain [] h = (refl, refl, refl)
digits_plain (d ∷ ds) h =
    let first = in_digits d (digit_from_value d h.0) in
    let rest = digits_plain ds h.1 in
    (or_from _ _ first.0 rest.0, or_from _ _ first.1 rest.1, rw first.2 rest.2)

trim_front_none : (xs : List ℕ) → list_any (λ b. eqb b 32) xs ≡ false → trim_front xs ≡ xs
trim_front_none [] h = refl
trim_front_none (x ∷ xs) h = ap (λ t. cond t (trim_front xs) (x ∷ xs)) (or_parts (eqb x 32) (list_any (λ b. eqb b 32) xs) h).0

trim_none : (xs : List ℕ) → list_any (λ b. eqb b 32) xs ≡ false → trim_spaces xs ≡ xs
trim_none xs h =
    ap (λ l. reverse (trim_front (reverse l))) (trim_front_none xs h)
    ∙ ap reverse (trim_front_none (reverse xs) (none_in_reverse (λ b. eqb b 32) xs h))
    ∙ reverse-reverse xs

port_read : (port : ℕ) → port < 2 ^ 16 → number_of 65535 (trim_spaces (decimal port)) ≡ Some port
port_read port few =
    let numeral = decimal_is_IsNumeral port (omega arith) in
    let plain = digits_plain (decimal port) numeral.0.1 in
    let some : ltb 0 (length (decimal port)) ≡ true = grind (arith, nat_tests, numeral.0.0) in
    let small : leb (digits_value 10 (decimal port)) 65535 ≡ true = rw numeral.1 (grind (arith, nat_tests)) in
    ap (number_of 65535) (trim_none (decimal port) plain.1) ∙ rw (some, plain.2, small, numeral.1) refl

-- ---- one line

-- the bytes of a line without its CR LF
abbrev body : MenuLineData → List ℕ
body line = line.kind ∷ line.display ++ 9 ∷ (line.selector ++ 9 ∷ (line.host ++ 9 ∷ decimal line.port))

body-line : (line : MenuLineData) → menu_line_bytes line ≡ (body line ++ 13 ∷ []) ++ 10 ∷ []
body-line line = simp append_assoc

module _ (line : MenuLineData) (is : IsMenuLine line) where
  port_plain : (list_any is_special (decimal line.port) ≡ false) × (list_any (λ b. eqb b 32) (decimal line.port) ≡ false) × (list_all is_ascii_digit (decimal line.port) ≡ true)
  port_plain = digits_plain (decimal line.port) (decimal_is_IsNumeral line.port (omega (arith, is.port))).0.1

  -- if the fields' bytes and a TAB fail a test, so does every byte of the line
  none_in_body : (q : ℕ → Bool) → ((b : ℕ) → is_special b ≡ false → q b ≡ false) → q 9 ≡ false → list_any q (body line) ≡ false
  none_in_body q fewer tab =
      let none : (xs : List ℕ) → has_special xs ≡ false → list_any q xs ≡ false = λ xs h. none_of_fewer is_special q fewer xs h in
      let after_host = none_in_both q line.host (9 ∷ decimal line.port) (none line.host is.host) (or_from _ _ tab (none (decimal line.port) port_plain.0)) in
      let after_selector = none_in_both q line.selector (9 ∷ (line.host ++ 9 ∷ decimal line.port)) (none line.selector is.selector) (or_from _ _ tab after_host) in
      none_in_both q (line.kind ∷ line.display) (9 ∷ (line.selector ++ 9 ∷ (line.host ++ 9 ∷ decimal line.port)))
      (or_from _ _ (fewer line.kind is.kind) (none line.display is.display)) (or_from _ _ tab after_selector)

  tab_free : (xs : List ℕ) → has_special xs ≡ false → list_any (λ b. eqb b 9) xs ≡ false
  tab_free xs h = none_of_fewer is_special (λ b. eqb b 9) plain_tab xs h

  fields_of_body : fields_of (body line) ≡ (line.kind ∷ line.display) ∷ line.selector ∷ line.host ∷ decimal line.port ∷ []
  fields_of_body =
      cut_at 9 (line.kind ∷ line.display) _ (or_from _ _ (plain_tab line.kind is.kind) (tab_free line.display is.display))
      ∙ ap (λ (l : List (List ℕ)). (line.kind ∷ line.display) ∷ l)
      (cut_at 9 line.selector _ (tab_free line.selector is.selector)
      ∙ ap (λ (l : List (List ℕ)). line.selector ∷ l)
      (cut_at 9 line.host _ (tab_free line.host is.host)
      ∙ ap (λ (l : List (List ℕ)). line.host ∷ l) (cut_nowhere 9 (decimal line.port) (tab_free (decimal line.port) port_plain.0))))

  item_of_body : item_of (body line) ≡ Some line
  item_of_body =
      let no_return = none_in_body (λ b. eqb b 13 || eqb b 0) plain_return refl in
      rw (no_return, fields_of_body, port_read line.port is.port, is.host_trimmed) refl

  entry_of_body : entry_of (body line) ≡ Item line
  entry_of_body = rw item_of_body refl

  long : 2 ≤ length (body line)
  long = omega (arith, length-append (line.kind ∷ line.display) (9 ∷ (line.selector ++ 9 ∷ (line.host ++ 9 ∷ decimal line.port))))

  not_last : is_last_line (body line) ≡ false
  not_last = unequal eqb (body line) (46 ∷ []) (λ same. omega (arith, long))

  lines_of_body : (rest : List ℕ) → lines_of (menu_line_bytes line ++ rest) ≡ body line ∷ lines_of rest
  lines_of_body rest =
      let whole : menu_line_bytes line ++ rest ≡ (body line ++ 13 ∷ []) ++ 10 ∷ rest =
      ap (λ l. l ++ rest) (body-line line) ∙ append_assoc (body line ++ 13 ∷ []) (10 ∷ []) rest in
      let no_feed = none_in_both (λ b. eqb b 10) (body line) (13 ∷ []) (none_in_body (λ b. eqb b 10) plain_feed refl) refl in
      ap lines_of whole
      ∙ lines_of_cut ((body line ++ 13 ∷ []) ++ 10 ∷ rest) (body line ++ 13 ∷ []) rest (cut_at 10 (body line ++ 13 ∷ []) rest no_feed)
      ∙ ap (λ (l : List ℕ). l ∷ lines_of rest) (strip_return (body line))

-- ---- whole menus

read_lines : (lines : List MenuLineData) → AllByRecursion IsMenuLine lines
    → (entries_of (lines_of (menu_bytes lines)) ≡ map Item lines) × (any_last_line (lines_of (menu_bytes lines)) ≡ true)
read_lines [] h = (refl, refl)
read_lines (line ∷ lines) h =
    let rest = read_lines lines h.1 in
    let split : lines_of (menu_bytes (line ∷ lines)) ≡ body line ∷ lines_of (menu_bytes lines) =
    ap lines_of (ap (λ l. l ++ 46 ∷ 13 ∷ 10 ∷ []) (flat_map-cons menu_line_bytes line lines) ∙ append_assoc (menu_line_bytes line) (flat_map menu_line_bytes lines) (46 ∷ 13 ∷ 10 ∷ []))
    ∙ lines_of_body line h.0 (menu_bytes lines) in
    let some : eqb (length (body line)) 0 ≡ false = grind (arith, nat_tests, long line h.0) in (
      ap entries_of split ∙ entries_of-line (body line) (lines_of (menu_bytes lines)) (not_last line h.0) some ∙ rw (entry_of_body line h.0, rest.0) refl,
      ap any_last_line split ∙ any_last_line-line (body line) (lines_of (menu_bytes lines)) (not_last line h.0) ∙ rest.1,
    )

-- the bytes of these lines are read back as the same lines, ended
pub read_back : (lines : List MenuLineData) → AllByRecursion IsMenuLine lines → ReadsMenu (menu_bytes lines) (map Item lines) true
read_back lines h = let both = read_lines lines h in record { all_entries = sym both.0; is_ended = sym both.1 }

-- ---- lines that are made

printed : (b : ℕ) → ltb b 32 ≡ false → is_special b ≡ false
printed b high = by (is_special b) refl
  where
    by : (t : Bool) → is_special b ≡ t → t ≡ false
    by true e = absurd (grind (arith, nat_tests))
    by false e = refl

-- a valid host contains no special byte, and has no space at its ends
pub host_is_plain : (host : List ℕ) → list_any (λ b. eqb b 32 || (ltb b 32 || eqb b 127)) host ≡ false → (has_special host ≡ false) × (trim_spaces host ≡ host)
host_is_plain host h =
    let parts : (b : ℕ) → (eqb b 32 || (ltb b 32 || eqb b 127)) ≡ false → (eqb b 32 ≡ false) × ((ltb b 32 || eqb b 127) ≡ false) = λ b e. or_parts _ _ e in (
      none_of_fewer (λ b. eqb b 32 || (ltb b 32 || eqb b 127)) is_special (λ b e. printed b (or_parts _ _ (parts b e).1).0) host h,
      trim_none host (none_of_fewer (λ b. eqb b 32 || (ltb b 32 || eqb b 127)) (λ b. eqb b 32) (λ b e. (parts b e).0) host h),
    )

-- a type that isn't a control byte isn't special
pub kind_is_plain : (kind : ℕ) → (ltb kind 32 || eqb kind 127) ≡ false → is_special kind ≡ false
kind_is_plain kind h = printed kind (or_parts (ltb kind 32) (eqb kind 127) h).0
