use Rattle.std.proofs.Common.{◌≡◌, ℕ, List, Bool, cond, ◌+◌, ◌++◌, ◌∷◌, [], ◌<◌, length, map, drop, get_or, sym, ap, ◌∙◌, append_assoc, arith}
use Rattle.std.proofs.lemmas.List.{drop_more, drop_all, get_or-map, length-map, append-nil}
use Rattle.std.specs.Arc.{arc_value}
use Rattle.gopher_page.specs.Page.{PageData, is_large}
use Rattle.gopher_segment.specs.Large.{large_from}
use Rattle.gopher_segment.proofs.large.large_of.Goals as goal
use Rattle.gopher_segment.proofs.large.large_of.Goals.{then-is_large+in_ok-push, else-is_large}

pub loop-index-preserved : goal.loop-index-preserved
loop-index-preserved c =
    let within : c.loop-index.index < length c.args.pages.now = omega arith in
    let page : PageData = c.deref.result.now in
    let all : List PageData = map arc_value c.args.pages.now in
    let large : List ℕ = c.loop-index.large.items in
    let here : get_or all c.loop-index.index page ≡ page =
    get_or-map arc_value c.args.pages.now c.loop-index.index c.index-pages-index.result page within ∙ ap arc_value (sym c.index-pages-index.is) ∙ sym c.deref.ensures in
    let left : List ℕ = large_from (c.loop-index.index + 1) (drop (c.loop-index.index + 1) all) in
    let found : Bool → List ℕ = λ is. large ++ cond is (c.loop-index.index ∷ left) left in
    let opened : found (is_large page) ≡ large_from 0 all =
    sym (ap (λ l. large ++ large_from c.loop-index.index l)
    (drop_more all c.loop-index.index page (omega (arith, within, length-map c.args.pages.now arc_value)) ∙ ap (λ p. p ∷ drop (c.loop-index.index + 1) all) here))
    ∙ c.loop-index.invariant
    in elim c.if-is_large.branch [
      | then-is_large+in_ok-push w ↦
          ap (λ l. l.items ++ left) w.large-is
          ∙ ap (λ l. l ++ left) w.in_ok-push.ensures.items
          ∙ append_assoc large (c.loop-index.index ∷ []) left
          ∙ ap found (sym w.if-is_large.true ∙ c.is_large.ensures)
          ∙ opened
      | else-is_large w ↦ ap (λ l. l.items ++ left) w.large-is ∙ ap found (sym w.if-is_large.false ∙ c.is_large.ensures) ∙ opened
    ]

pub returns : goal.returns
returns c =
    let all : List PageData = map arc_value c.args.pages.now in
    let done : length all ≡ length c.args.pages.now = length-map c.args.pages.now arc_value in
    sym (append-nil c.loop-index.large.items)
    ∙ ap (λ l. c.loop-index.large.items ++ large_from c.loop-index.index l) (sym (drop_all c.loop-index.index all (omega (arith, done))))
    ∙ c.loop-index.invariant
