-- Definitions on worked bytes: each row computes.
use Rattle.std.specs.Prelude.{◌≡◌, refl, [], ◌∷◌, codes, None, Some, true, false}
use Rattle.gopher_bytes.specs.Lines.{any_last_line, lines_of}
use Rattle.std.specs.declared.cmp.Ordering.TheVariants.{Less, Greater}
use Rattle.gopher_item.specs.Place.{address_fault, place_cmp, place_of}
use Rattle.gopher_item.specs.Menu.{entries_of}
use Rattle.gopher_item.specs.MenuLine.{menu_line_fault, menu_line_of}
use Rattle.gopher_item.specs.Request.{request_of}
use Rattle.gopher_item.specs.declared.fault.ItemFault.TheVariants.{BadDisplay, BadHost, BadPort, BadSelector, BadType}
use Rattle.gopher_item.specs.declared.menu.Entry.TheVariants.{Item, Odd}
use Rattle.gopher_text.specs.Text.{text_bytes, text_lines}
use Rattle.gopher_page.specs.Page.{title_of}
use Rattle.gopher_tree.specs.Fault.{files_fault}
use Rattle.gopher_tree.specs.declared.fault.TreeFault.TheVariants.{BadMenuLine, BadName, Reserved, Twice}

home_without_host : address_fault (codes "") 0 ≡ Some BadHost
home_without_host = refl

home_without_port : address_fault (codes "h") 0 ≡ Some BadPort
home_without_port = refl

home : address_fault (codes "LocalHost") 7070 ≡ None
home = refl

places_by_host : place_cmp (place_of 49 (codes "/z") (codes "a") 70) (place_of 48 (codes "/a") (codes "H") 70) ≡ Less
places_by_host = refl

places_by_port : place_cmp (place_of 48 (codes "") (codes "h") 7070) (place_of 48 (codes "/b") (codes "h") 70) ≡ Greater
places_by_port = refl

places_by_selector : place_cmp (place_of 49 (codes "/a") (codes "h") 70) (place_of 48 (codes "/b") (codes "h") 70) ≡ Less
places_by_selector = refl

places_by_type : place_cmp (place_of 49 (codes "/a") (codes "h") 70) (place_of 48 (codes "/a") (codes "h") 70) ≡ Greater
places_by_type = refl

line_of_a_space : menu_line_fault 32 (codes "x") (codes "") (codes "h") ≡ Some BadType
line_of_a_space = refl

line_of_a_period : menu_line_fault 46 (codes "x") (codes "") (codes "h") ≡ Some BadType
line_of_a_period = refl

line_of_a_bell : menu_line_fault 7 (codes "x") (codes "") (codes "h") ≡ Some BadType
line_of_a_bell = refl

line_with_a_tab : menu_line_fault 32 (codes "x\t") (codes "") (codes "h") ≡ Some BadDisplay
line_with_a_tab = refl

line_without_host : menu_line_fault 32 (codes "x\t") (codes "") (codes "") ≡ Some BadHost
line_without_host = refl

line_with_a_bad_selector : menu_line_fault 32 (codes "x\t") (codes "\t") (codes "") ≡ Some BadSelector
line_with_a_bad_selector = refl

request_of_three_fields : request_of (codes "a\tb\tc") ≡ record { selector = codes "a"; search = Some (codes "b") }
request_of_three_fields = refl

request_of_nothing : request_of (codes "") ≡ record { selector = codes ""; search = None }
request_of_nothing = refl

lines : lines_of (codes "a\r\n\nb\r\r\nc\r") ≡ codes "a" ∷ codes "" ∷ codes "b\r" ∷ codes "c\r" ∷ []
lines = refl

menu_of_one_item : entries_of (lines_of (codes "0About internet Gopher\tStuff:About us\trawBits.micro.umn.edu\t70\r\n"))
    ≡ Item (menu_line_of 48 (codes "About internet Gopher") (codes "Stuff:About us") (codes "rawBits.micro.umn.edu") 70) ∷ []
menu_of_one_item = refl

menu_with_spaces : entries_of (lines_of (codes "iWelcome\tfake\t(NULL)\t0\r\nhSite\tURL:http://x/\th\t70\r\n1Dir\t/d\t h \t 70 \t+\nbroken\r\n\r\n0T\t/t\th\t70"))
    ≡ Item (menu_line_of 105 (codes "Welcome") (codes "fake") (codes "(NULL)") 0)
    ∷ Item (menu_line_of 104 (codes "Site") (codes "URL:http://x/") (codes "h") 70)
    ∷ Item (menu_line_of 49 (codes "Dir") (codes "/d") (codes "h") 70)
    ∷ Odd (codes "broken")
    ∷ Item (menu_line_of 48 (codes "T") (codes "/t") (codes "h") 70) ∷ []
menu_with_spaces = refl

menu_of_ports : entries_of (lines_of (codes "0A\t/a\th\t65535\n0A\t/a\th\t00070\n0A\t/a\th\t65536\n0A\t/a\th\t7o\n0A\t/a\th\t\n1A\t/a\th\t0"))
    ≡ Item (menu_line_of 48 (codes "A") (codes "/a") (codes "h") 65535)
    ∷ Item (menu_line_of 48 (codes "A") (codes "/a") (codes "h") 70)
    ∷ Odd (codes "0A") ∷ Odd (codes "0A") ∷ Odd (codes "0A")
    ∷ Item (menu_line_of 49 (codes "A") (codes "/a") (codes "h") 0) ∷ []
menu_of_ports = refl

menu_with_an_end : entries_of (lines_of (codes ".x\r\n.x\ts\th\t70\r\n.\r\n1Z\t\th\t70\r\n"))
    ≡ Odd (codes ".x") ∷ Item (menu_line_of 46 (codes "x") (codes "s") (codes "h") 70) ∷ []
menu_with_an_end = refl

that_menu_ended : any_last_line (lines_of (codes ".x\r\n.x\ts\th\t70\r\n.\r\n1Z\t\th\t70\r\n")) ≡ true
that_menu_ended = refl

menu_without_an_end : any_last_line (lines_of (codes "1Mo")) ≡ false
menu_without_an_end = refl

odd_lines : entries_of (lines_of (codes "1Mo\n\t/a\th\t70\n0A\t/a\0\th\t70\r\n0A\t/a\th\t70\r"))
    ≡ Odd (codes "1Mo") ∷ Odd (codes "") ∷ Odd (codes "0A") ∷ Odd (codes "0A") ∷ []
odd_lines = refl

text_with_an_end : text_lines (codes "..\r\nhi\r\n.\r\nrest") ≡ codes "." ∷ codes "hi" ∷ []
text_with_an_end = refl

text_without_an_end : text_lines (codes ".x\na\r\r\n..") ≡ codes ".x" ∷ codes "a\r" ∷ codes "." ∷ []
text_without_an_end = refl

text_that_did_not_end : any_last_line (lines_of (codes ".x\na\r\r\n..")) ≡ false
text_that_did_not_end = refl

text_of_periods : text_lines (codes "...\r\n\n. \n.") ≡ codes ".." ∷ codes "" ∷ codes ". " ∷ []
text_of_periods = refl

text_written : text_bytes (codes "." ∷ codes "hi" ∷ []) ≡ codes "..\r\nhi\r\n.\r\n"
text_written = refl

name_between_slashes : files_fault ((codes "a//b", codes "") ∷ []) ≡ Some (BadName 0)
name_between_slashes = refl

name_with_a_period : files_fault ((codes ".a", codes "") ∷ []) ≡ Some (BadName 0)
name_with_a_period = refl

folder_named_as_a_menu : files_fault ((codes "a", codes "") ∷ (codes ".menu/a", codes "") ∷ []) ≡ Some (BadName 1)
folder_named_as_a_menu = refl

reserved_name : files_fault ((codes "search", codes "") ∷ []) ≡ Some (Reserved 0)
reserved_name = refl

bad_name_in_a_reserved_folder : files_fault ((codes "search//a", codes "") ∷ []) ≡ Some (BadName 0)
bad_name_in_a_reserved_folder = refl

menu_line_of_three_fields : files_fault ((codes ".menu", codes "0x\ta\tb") ∷ []) ≡ Some (BadMenuLine 0 1)
menu_line_of_three_fields = refl

file_twice : files_fault ((codes "a", codes "") ∷ (codes "a", codes "") ∷ []) ≡ Some (Twice 1)
file_twice = refl

file_and_folder : files_fault ((codes "a", codes "") ∷ (codes "a/b", codes "") ∷ []) ≡ Some (Twice 1)
file_and_folder = refl

folder_and_file : files_fault ((codes "a/b/c", codes "") ∷ (codes "a/b", codes "") ∷ []) ≡ Some (Twice 1)
folder_and_file = refl

title_of_a_host : title_of (place_of 48 (codes "") (codes "h") 70) [] ≡ codes "h"
title_of_a_host = refl
