-- The warnings of a site without a fault: lines of menus that lead nowhere, what isn't served, and
-- a search without seeds.
use Rattle.std.specs.Prelude.{ℕ, ◌+◌, ◌==◌, List, [], zero, Bool, true, false, ◌∷◌, ◌++◌, codes, Option, None, Some, ◌&&◌, ◌||◌, not, nat_eq, is_some, if◌then◌else◌}
use Rattle.std.specs.List.{flat_map, list_any, starts_with}
use Rattle.std.specs.Option.{option_map_or}
use Rattle.gopher_bytes.specs.Lines.{lines_of}
use Rattle.gopher_item.specs.Place.{PlaceData, HomeData}
use Rattle.gopher_tree.specs.Files.{File, menu_files}
use Rattle.gopher_tree.specs.MenuFile.{WrittenLineData, written_line}
use Rattle.gopher_tree.specs.Reply.{menu_file, named}
use Rattle.gopher_scope.specs.Lines.{is_asked, is_own, leads_to_search}
use Rattle.gopher_scope.specs.declared.report.site_warning.Unserved.{Unserved}
use Rattle.gopher_scope.specs.declared.report.sound_site.SoundSite.{SoundSite}
use Rattle.gopher_scope.specs.declared.report.site_warning.SiteMistake.{SiteMistake}
use Rattle.gopher_scope.specs.declared.report.site_warning.SiteMistake.TheVariants as mistake

-- a warning of the line with this number, from 1, and this selector of the menu file at a path; or,
-- with 0 and empty lists, one of the whole site
pub record SiteWarningData : Type 0 where
  pub path : List ℕ
  pub line : ℕ
  pub selector : List ℕ
  pub mistake : SiteMistake

-- the server's address, and its files
pub record CheckedSite : Type 0 where
  pub home : HomeData
  pub files : List File

abbrev pub whole_warning : SiteMistake → SiteWarningData
whole_warning found = record { path = []; line = 0; selector = []; mistake = found }

-- the server answers the line's selector with `Not found`; a client opens the address after `URL:`
-- itself
abbrev pub is_dead : CheckedSite → WrittenLineData → Bool
is_dead site line =
    is_asked line.kind && is_own site.home line.server
    && not (starts_with nat_eq line.selector (codes "URL:"))
    && not (leads_to_search line.selector) && not (is_some (named site.files line.selector))

abbrev pub dead_line : List ℕ → ℕ → List ℕ → SiteWarningData
dead_line path number selector =
    record { path = path; line = number; selector = selector; mistake = mistake.LeadsNowhere }

-- the warning of the line with this number of the menu file at a path, if it leads nowhere
abbrev pub line_warning : CheckedSite → List ℕ → ℕ → List ℕ → List SiteWarningData
line_warning site path number line =
    option_map_or (λ l. if is_dead site l then dead_line path number l.selector ∷ [] else [])
    (written_line line) []

-- the warnings of these lines, whose numbers begin at `number`
abbrev pub lines_warnings : CheckedSite → List ℕ → ℕ → List (List ℕ) → List SiteWarningData
lines_warnings site path number [] = []
lines_warnings site path number (line ∷ lines) =
    line_warning site path number line ++ lines_warnings site path (number + 1) lines

abbrev pub menu_warnings : CheckedSite → File → List SiteWarningData
menu_warnings site menu = lines_warnings site menu.0 1 (lines_of menu.1)

-- the warnings of all menu files
abbrev pub dead_lines : CheckedSite → List SiteWarningData
dead_lines site = flat_map (menu_warnings site) (menu_files site.files)

-- the line is one of type `7` that leads to the server's search
abbrev pub offers : HomeData → Option WrittenLineData → Bool
offers home None = false
offers home (Some line) =
    (line.kind == 55) && is_own home line.server && leads_to_search line.selector

abbrev pub menu_offers : HomeData → List ℕ → Bool
menu_offers home menu = list_any (λ line. offers home (written_line line)) (lines_of menu)

-- some menu offers a search: the root's listing does, if the root has no menu file
abbrev pub offers_search : CheckedSite → Bool
offers_search site =
    not (is_some (menu_file site.files []))
    || list_any (λ menu. menu_offers site.home menu.1) (menu_files site.files)

-- the warning of what isn't served, if there is something: numbers of empty folders, of links to
-- nothing and devices, and of hidden names
abbrev pub not_served : ℕ → ℕ → ℕ → List SiteWarningData
not_served zero zero zero = []
not_served empty nowhere hidden =
    whole_warning (mistake.NotServed
    (record { empty = empty; nowhere = nowhere; hidden = hidden })) ∷ []

abbrev pub unserved_warning : Unserved → List SiteWarningData
unserved_warning unserved = not_served unserved.empty unserved.nowhere unserved.hidden

-- searches find nothing, because the crawl has no seeds
abbrev pub seeds_warning : List PlaceData → Bool → List SiteWarningData
seeds_warning [] true = whole_warning mistake.NoSeeds ∷ []
seeds_warning seeds offered = []

-- the lines of menus that lead nowhere, what isn't served, and a search without seeds
abbrev pub warnings : CheckedSite → List PlaceData → Unserved → List SiteWarningData
warnings site seeds unserved =
    dead_lines site ++ unserved_warning unserved ++ seeds_warning seeds (offers_search site)

-- the warnings of a site without a fault
abbrev pub site_warnings : SoundSite → List SiteWarningData
site_warnings site =
    warnings (record { home = site.settings.home; files = site.tree })
    site.settings.seeds.items site.unserved
