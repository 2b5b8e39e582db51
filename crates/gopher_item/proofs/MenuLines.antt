-- The positions of a menu line's fields in a text, one byte apart.
use Rattle.std.proofs.Common.{◌≡◌, ℕ, ◌+◌, ◌-◌, ◌≤◌, List, [], ◌∷◌, ◌++◌, length, drop, refl, sym, ap, ◌∙◌, append_assoc, arith}
use Rattle.std.specs.Prelude.{slice_range}
use Rattle.std.proofs.lemmas.List.{take_at, drop_at, drop-drop, length-append, length-drop}
use Rattle.gopher_item.specs.MenuLine.{Cuts, AreCuts, line_in, menu_line_of, StandsAt, tabbed}

pub joined-append : (display selector host after : List ℕ) → tabbed display selector host ++ after ≡ display ++ 9 ∷ (selector ++ 9 ∷ (host ++ after))
joined-append display selector host after =
    append_assoc display (9 ∷ (selector ++ 9 ∷ host)) after
    ∙ ap (λ (l : List ℕ). display ++ 9 ∷ l) (append_assoc selector (9 ∷ host) after)

-- if a text contains bytes at `start`, it contains each prefix of them there
pub stands_within : (text bytes front : List ℕ) (start : ℕ) → StandsAt text start bytes → StandsAt bytes 0 front → StandsAt text start front
stands_within text bytes front start outer inner = (
  inner.0 ++ outer.0,
  outer.1 ∙ ap (λ l. l ++ outer.0) inner.1 ∙ append_assoc front inner.0 outer.0,
)

-- the bytes at `start` are the text's range from there to their end
range_at : (text bytes after : List ℕ) (start end : ℕ) → drop start text ≡ bytes ++ after → end ≡ start + length bytes
    → slice_range text start end ≡ bytes
range_at text bytes after start end stands size = rw stands (take_at bytes after (end - start) (omega arith))

-- the bytes after a range begin at its end
follows : (text bytes after : List ℕ) (start end : ℕ) → drop start text ≡ bytes ++ after → end ≡ start + length bytes
    → drop end text ≡ after
follows text bytes after start end stands size =
    ap (λ n. drop n text) size
    ∙ sym (drop-drop (length bytes) start text)
    ∙ ap (drop (length bytes)) stands
    ∙ drop_at bytes after (length bytes) refl

-- the positions of the fields of a line whose type is at `start`
abbrev pub cuts_of : ℕ → List ℕ → List ℕ → List ℕ → Cuts
cuts_of start display selector host = record {
  start = start + 1;
  display_end = start + 1 + length display;
  selector_end = start + 1 + length display + 1 + length selector;
  end = start + 1 + length display + 1 + length selector + 1 + length host;
}

from_display : (kind start : ℕ) (display selector host text : List ℕ) (stands : StandsAt text start (tabbed (kind ∷ display) selector host))
    → drop (start + 1) text ≡ display ++ 9 ∷ (selector ++ 9 ∷ (host ++ stands.0))
from_display kind start display selector host text stands =
    follows text (kind ∷ []) _ start (start + 1) (stands.1 ∙ joined-append (kind ∷ display) selector host stands.0) refl

from_selector : (kind start : ℕ) (display selector host text : List ℕ) (stands : StandsAt text start (tabbed (kind ∷ display) selector host))
    → drop (start + 1 + length display + 1) text ≡ selector ++ 9 ∷ (host ++ stands.0)
from_selector kind start display selector host text stands =
    let rest = selector ++ 9 ∷ (host ++ stands.0) in
    let tab = follows text display (9 ∷ rest) (start + 1) (start + 1 + length display) (from_display kind start display selector host text stands) refl in
    follows text (9 ∷ []) rest (start + 1 + length display) (start + 1 + length display + 1) tab refl

from_host : (kind start : ℕ) (display selector host text : List ℕ) (stands : StandsAt text start (tabbed (kind ∷ display) selector host))
    → drop (start + 1 + length display + 1 + length selector + 1) text ≡ host ++ stands.0
from_host kind start display selector host text stands =
    let rest = host ++ stands.0 in
    let begin = start + 1 + length display + 1 in
    let tab = follows text selector (9 ∷ rest) begin (begin + length selector) (from_selector kind start display selector host text stands) refl in
    follows text (9 ∷ []) rest (begin + length selector) (begin + length selector + 1) tab refl

pub line_in-cuts_of : (kind port start : ℕ) (display selector host text : List ℕ) → StandsAt text start (tabbed (kind ∷ display) selector host)
    → line_in kind port (cuts_of start display selector host) text ≡ menu_line_of kind display selector host port
line_in-cuts_of kind port start display selector host text stands =
    let first : slice_range text (start + 1) (start + 1 + length display) ≡ display =
    range_at text display _ (start + 1) (start + 1 + length display) (from_display kind start display selector host text stands) refl in
    let begin = start + 1 + length display + 1 in
    let second : slice_range text begin (begin + length selector) ≡ selector =
    range_at text selector _ begin (begin + length selector) (from_selector kind start display selector host text stands) refl in
    let last = begin + length selector + 1 in
    let third : slice_range text last (last + length host) ≡ host =
    range_at text host stands.0 last (last + length host) (from_host kind start display selector host text stands) refl in
    λ i. record { kind = kind; display = first i; selector = second i; host = third i; port = port }

pub within : (kind start : ℕ) (display selector host text : List ℕ) → StandsAt text start (tabbed (kind ∷ display) selector host)
    → start + 1 + length display + 1 + length selector + 1 + length host ≤ length text
within kind start display selector host text stands = omega (
  arith,
  ap length (from_display kind start display selector host text stands),
  length-drop (start + 1) text,
  length-append display (9 ∷ (selector ++ 9 ∷ (host ++ stands.0))),
  length-append selector (9 ∷ (host ++ stands.0)),
  length-append host stands.0,
)

pub are_cuts : (kind start : ℕ) (display selector host text : List ℕ) → StandsAt text start (tabbed (kind ∷ display) selector host)
    → AreCuts (cuts_of start display selector host) text
are_cuts kind start display selector host text stands = record {
  display = omega arith;
  selector = omega arith;
  host = omega arith;
  within = within kind start display selector host text stands;
}
