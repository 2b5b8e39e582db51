use Rattle.std.proofs.Common.{◌≡◌, ◌+◌, ◌++◌, ◌∷◌, [], ◌<◌, ◌≤◌, List, length, map, take, refl, sym, ap, subst, ◌∙◌, arith}
use Rattle.std.proofs.lemmas.List.{map_more, map-append, length-map, length-take-le}
use Rattle.std.specs.Arc.{arc_value}
use Rattle.std.specs.List.{sum_by}
use Rattle.gopher_page.specs.Packed.{AreCounts}
use Rattle.gopher_page.specs.Page.{PageData}
use Rattle.gopher_segment.specs.Large.{in_table, table_pages}
use Rattle.gopher_segment.specs.SegmentRows.{AreSmall, Tell}
use Rattle.gopher_segment.proofs.Each.{all_both}
use Rattle.gopher_segment.proofs.LargeLemmas.{length_in_table, sound_in_table}
use Rattle.gopher_segment.proofs.SegmentLemmas.{page_behind}
use Rattle.gopher_segment.proofs.gathering.rows_of.Goals as goal

pub loop-index-init : goal.loop-index-init
loop-index-init c = record {
  tell = subst (Tell c.args.first []) (sym c.in_ok-rows.ensures.items) (λ word. refl);
  small = tt;
}

pub loop-index-preserved : goal.loop-index-preserved
loop-index-preserved c =
    let within : c.loop-index.index < length c.args.pages.now = omega arith in
    let page : PageData = c.deref.result.now in
    let so_far : List PageData = map arc_value (take c.loop-index.index c.args.pages.now) in
    let grown : map arc_value (take (c.loop-index.index + 1) c.args.pages.now) ≡ so_far ++ page ∷ [] =
    map_more arc_value c.args.pages.now c.loop-index.index c.index-pages-index.result within
    ∙ ap (λ p. so_far ++ arc_value p ∷ []) (sym c.index-pages-index.is) ∙ ap (λ p. so_far ++ p ∷ []) (sym c.deref.ensures)
    in
    let sound : AreCounts page.counts = c.add_page.ensures.sound in
    let at : c.args.first + c.loop-index.index ≡ c.args.first + length (table_pages so_far) =
    omega (arith, length_in_table so_far, length-map (take c.loop-index.index c.args.pages.now) arc_value, length-take-le c.loop-index.index c.args.pages.now (omega arith)) in
    record {
      tell = subst (λ l. Tell c.args.first l c.add_page.new.rows.items) (sym (ap table_pages grown ∙ map-append in_table so_far (page ∷ [])))
          (page_behind c.args.first (table_pages so_far) (in_table page) (c.args.first + c.loop-index.index) c.loop-index.rows.items c.add_page.new.rows.items c.loop-index.invariant.tell (sound_in_table page sound) at c.in_ok-add_page.ensures.rows);
      small = subst AreSmall (sym grown) (all_both (λ (page : PageData). sum_by (λ entry. entry.1) page.counts ≤ 1048576) so_far (page ∷ []) c.loop-index.invariant.small (sound.few, tt));
    }
