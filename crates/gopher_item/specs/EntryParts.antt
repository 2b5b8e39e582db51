-- The entries of a menu, read one at a time.
use Rattle.std.specs.Prelude.{◌≡◌, ℕ, List, [], ◌∷◌, Option, MatchOption}
use Rattle.std.specs.Borrow.{Bor}
use Rattle.gopher_bytes.specs.Lines.{lines_of}
use Rattle.gopher_item.specs.Menu.{entries_of}
use Rattle.gopher_item.specs.declared.menu.Entry.{Entry}
use Rattle.gopher_item.specs.declared.entry_parts.EntryParts.{EntryParts}

-- the entry that is lent
abbrev pub entry_lent : EntryParts → Entry
entry_lent (EntryParts.Item line) = Entry.Item line
entry_lent (EntryParts.Odd bytes) = Entry.Odd bytes.now

-- the first entry of a menu, and the bytes after its line, which have the other entries
abbrev pub IsFirstEntry : List ℕ → EntryParts × Bor (List ℕ) → Type 0
IsFirstEntry menu found =
    entries_of (lines_of menu) ≡ entry_lent found.0 ∷ entries_of (lines_of found.1.now)

-- the first entry of a menu, and the bytes after its line; nothing exactly if it has no entries
abbrev pub FindsFirstEntry : List ℕ → Option (EntryParts × Bor (List ℕ)) → Type 0
FindsFirstEntry menu found =
    MatchOption found (entries_of (lines_of menu) ≡ []) (IsFirstEntry menu)
