-- The page of a directory, and the page of a file.
use Rattle.std.proofs.Common.{◌≡◌, ℕ, true, false, cond, eqb, List, ap}
use Rattle.gopher_item.specs.Place.{PlaceData}
use Rattle.gopher_item.specs.Scope.{ScopeData}
use Rattle.gopher_page.specs.Page.{page_of, menu_page, text_page}

pub page_of-menu : (scope : ScopeData) (place : PlaceData) (bytes : List ℕ) → eqb place.kind 49 ≡ true → page_of scope place bytes ≡ menu_page scope place bytes
unfolding page_of
page_of-menu scope place bytes e = ap (λ b. cond b (menu_page scope place bytes) (text_page place bytes)) e

pub page_of-text : (scope : ScopeData) (place : PlaceData) (bytes : List ℕ) → eqb place.kind 49 ≡ false → page_of scope place bytes ≡ text_page place bytes
unfolding page_of
page_of-text scope place bytes e = ap (λ b. cond b (menu_page scope place bytes) (text_page place bytes)) e

pub ruleset pages = (page_of-menu, page_of-text)
