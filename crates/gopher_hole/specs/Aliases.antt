-- Aliases: old selectors that go on working. The format of their text is this profile's.
use Rattle.std.specs.Prelude.{◌≡◌, ℕ, ◌+◌, ◌==◌, ◌&&◌, ◌||◌, not, Bool, true, false, List, [], ◌∷◌, map, nat_eq, Option, None, Some, is_some, MatchOption, Result, MatchResult, if◌then◌else◌}
use Rattle.std.specs.Borrow.{Bor}
use Rattle.std.specs.BTreeMap.{BTreeMap, get_by}
use Rattle.std.specs.Cmp.Lexicographic.{pointwise, slice_cmp}
use Rattle.std.specs.List.{filter_map}
use Rattle.std.specs.Map.{lookup}
use Rattle.std.specs.Option.{option_or, unwrap_or}
use Rattle.std.specs.Ordering.{nat_cmp}
use Rattle.std.specs.declared.vec.Vec.{Vec}
use Rattle.std.specs.Str.Lines.{lines}
use Rattle.gopher_item.specs.Menu.{fields_of}
use Rattle.gopher_item.specs.Place.{is_selector}
use Rattle.gopher_hole.specs.declared.aliases.AliasFault.{AliasFault}
use Rattle.gopher_hole.specs.declared.aliases.AliasFault.TheVariants.{BadLine, NoMemory}

-- an old selector, and the selector whose reply it gets
abbrev pub Alias : Type 0
Alias = List ℕ × List ℕ

-- ---- looking up

-- the selector of the first alias with an old selector
abbrev pub selector_for : List Alias → List ℕ → Option (List ℕ)
selector_for aliases old = lookup (pointwise nat_eq old) aliases

-- the selector whose reply a selector gets: its alias, or itself without one
abbrev pub answered_selector : List Alias → List ℕ → List ℕ
answered_selector aliases selector = unwrap_or (selector_for aliases selector) selector

-- ---- reading

-- a line that says nothing: it is empty, or begins with `#`
abbrev pub is_skipped : List ℕ → Bool
is_skipped [] = true
is_skipped (byte ∷ bytes) = byte == 35

-- the fields of a line, if there are two
abbrev pub two_fields : List (List ℕ) → Option Alias
two_fields (old ∷ selector ∷ []) = Some (old, selector)
two_fields _ = None

-- two fields as an alias, if both are selectors
abbrev pub alias_if_valid : Option Alias → Option Alias
alias_if_valid None = None
alias_if_valid (Some alias) =
    if is_selector alias.0 && is_selector alias.1 then Some alias else None

-- the alias of a line: an old selector, a TAB and a selector; none if it is skipped
abbrev pub alias_of : List ℕ → Option Alias
alias_of line = if is_skipped line then None else alias_if_valid (two_fields (fields_of line))

-- the aliases of a text, in its order
abbrev pub aliases_of : List ℕ → List Alias
aliases_of text = filter_map alias_of (lines text)

-- a line that isn't skipped has no alias
abbrev pub is_bad_alias : List ℕ → Bool
is_bad_alias line = not (is_skipped line || is_some (alias_of line))

-- the number, counted on from `number`, of the first bad line
abbrev pub bad_alias_from : ℕ → List (List ℕ) → Option ℕ
bad_alias_from number [] = None
bad_alias_from number (line ∷ others) =
    if is_bad_alias line then Some number else bad_alias_from (number + 1) others

abbrev pub bad_alias : List ℕ → Option ℕ
bad_alias text = bad_alias_from 1 (lines text)

-- each old selector has the same alias in both
abbrev pub AreSameAliases : List Alias → List Alias → Type 0
AreSameAliases some others = (old : List ℕ) → selector_for some old ≡ selector_for others old

abbrev pub alias_fault_code : AliasFault → ℕ
alias_fault_code (BadLine line) = 35
alias_fault_code NoMemory = 90

-- an error of a text: its first bad line, or out of memory
abbrev pub IsAliasFault : List ℕ → AliasFault → Type 0
IsAliasFault text (BadLine line) = bad_alias text ≡ Some line
IsAliasFault text NoMemory = Unit {0}

-- reading a text returns its aliases if no line is bad
abbrev pub AliasesRead : List ℕ → Result (List Alias) AliasFault → Type 0
AliasesRead text result =
    MatchResult result
    (λ aliases. (bad_alias text ≡ None) × AreSameAliases aliases (aliases_of text))
    (IsAliasFault text)

-- the aliases of some text without a bad line
abbrev pub AreAliases : List Alias → Type 0
AreAliases aliases =
    (text : List ℕ) × (bad_alias text ≡ None) × AreSameAliases aliases (aliases_of text)

-- the aliases of a file, if one is named; otherwise none
abbrev pub AreAliasesOf : {P : Type 0} → Option P → List Alias → Type 0
AreAliasesOf path aliases = MatchOption path (aliases ≡ []) (λ _. AreAliases aliases)

-- ---- steps

abbrev pub alias_data : Bor (List ℕ) × Bor (List ℕ) → Alias
alias_data alias = (alias.0.now, alias.1.now)

-- the aliases in a map
abbrev pub held_aliases : {A : Type 0} → BTreeMap (Vec ℕ A) (List ℕ) → List Alias
held_aliases held = map (λ entry. (entry.0.items, entry.1)) held.entries

-- the selector of an old selector in a map
abbrev pub held_for : {A : Type 0} → BTreeMap (Vec ℕ A) (List ℕ) → List ℕ → Option (List ℕ)
held_for held old = get_by (λ key. slice_cmp nat_cmp old key.items) held

-- these aliases were added, behind those that were there
abbrev pub AddsAliases : {A : Type 0} → BTreeMap (Vec ℕ A) (List ℕ) → BTreeMap (Vec ℕ A) (List ℕ)
    → List Alias → Type 0
AddsAliases before after more =
    (old : List ℕ) → held_for after old ≡ option_or (held_for before old) (selector_for more old)

abbrev pub AddsAlias : {A : Type 0} → BTreeMap (Vec ℕ A) (List ℕ) → BTreeMap (Vec ℕ A) (List ℕ)
    → List ℕ → List ℕ → Type 0
AddsAlias before after old selector = AddsAliases before after ((old, selector) ∷ [])

-- a line that isn't bad was added
abbrev pub TakesLine : {A : Type 0} → BTreeMap (Vec ℕ A) (List ℕ) → BTreeMap (Vec ℕ A) (List ℕ)
    → List ℕ → Type 0
TakesLine before after line =
    (is_bad_alias line ≡ false) × AddsAliases before after (filter_map alias_of (line ∷ []))

-- an error of the line with this number
abbrev pub IsFaultOfLine : ℕ → List ℕ → AliasFault → Type 0
IsFaultOfLine number line (BadLine bad) = (bad ≡ number) × (is_bad_alias line ≡ true)
IsFaultOfLine number line NoMemory = Unit {0}

-- a map has the aliases of a text without a bad line
abbrev pub HoldsAliases : {A : Type 0} → List ℕ → BTreeMap (Vec ℕ A) (List ℕ) → Type 0
HoldsAliases text held =
    (bad_alias text ≡ None)
    × ((old : List ℕ) → held_for held old ≡ selector_for (aliases_of text) old)

abbrev pub ReadsAliases : {A : Type 0} → List ℕ → BTreeMap (Vec ℕ A) (List ℕ)
    → Result Unit AliasFault → Type 0
ReadsAliases text held result =
    MatchResult result (λ _. HoldsAliases text held) (IsAliasFault text)
