-- The list of the places that a crawl has found.
use Rattle.std.specs.Prelude.{◌≡◌, ℕ, List, ◌++◌, map, codes, if◌then◌else◌}
use Rattle.std.specs.Fmt.{decimal}
use Rattle.gopher_item.specs.Places.{IsSum}
use Rattle.gopher_item.specs.Special.{is_control}
use Rattle.gopher_page.specs.Page.{PageData, page_size}
use Rattle.gopher_hole.specs.Url.{url_of}

-- a byte of a title as the list shows it: `?` for a control byte
abbrev pub title_byte : ℕ → ℕ
title_byte byte = if is_control byte then 63 else byte

-- the line of a page that takes `size` bytes of memory
abbrev pub list_line : PageData → ℕ → List ℕ
list_line page size =
    url_of page.place ++ codes "\t" ++ decimal size ++ codes "\t" ++ map title_byte page.title
    ++ codes "\n"

-- the line of a page: the URL of its place, the bytes of memory that it takes, and its title
abbrev pub IsFoundLine : PageData → List ℕ → Type 0
IsFoundLine page line =
    (size : ℕ) × IsSum (page_size page) size × (line ≡ list_line page size)
