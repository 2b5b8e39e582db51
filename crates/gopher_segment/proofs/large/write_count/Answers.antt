use Rattle.std.proofs.Common.{◌≡◌, ℕ, List, ◌<◌, get_or, length, map, slice_set, ap, sym, ◌∙◌, arith}
use Rattle.std.proofs.lemmas.List.{get_or-map, length-map}
use Rattle.std.specs.Arc.{arc_value}
use Rattle.gopher_page.specs.Counts.{count_meant}
use Rattle.gopher_page.specs.Page.{PageData}
use Rattle.gopher_segment.proofs.large.write_count.Goals as goal

pub returns : goal.returns
returns c =
    let pages : List PageData = map arc_value c.args.pages.now in
    let page : PageData = arc_value c.index-pages-at.result in
    let counted : PageData → ℕ = λ page. count_meant c.args.is_prefix c.args.sought.now page.counts in
    let within : c.args.at < length pages = omega (arith, c.requires.within, length-map c.args.pages.now arc_value) in
    let here : get_or pages c.args.at page ≡ page =
    get_or-map arc_value c.args.pages.now c.args.at c.index-pages-at.result page c.requires.within ∙ ap arc_value (sym c.index-pages-at.is)
    in
    ap (slice_set c.args.cells.now c.args.at)
    (c.count_meant.ensures
    ∙ ap (count_meant c.args.is_prefix c.args.sought.now) (c.counts.ensures ∙ ap (λ p. p.counts) (c.deref.ensures ∙ sym here))
    ∙ sym (get_or-map counted pages c.args.at page 0 within))
