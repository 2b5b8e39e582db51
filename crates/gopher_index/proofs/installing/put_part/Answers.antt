use Rattle.std.proofs.Common.{◌≡◌, ◌+◌, [], ◌∷◌, ◌++◌, length, take, drop, sym, ap, subst, ◌∙◌, append_assoc, arith}
use Rattle.std.proofs.lemmas.List.{length-map, take_rest}
use Rattle.std.specs.List.{each_same}
use Rattle.std.specs.Arc.{arc_value}
use Rattle.gopher_segment.specs.Segment.{pages_of}
use Rattle.gopher_segment.specs.SegmentRows.{AreConsecutive}
use Rattle.gopher_index.proofs.SettlingLemmas.{put_consecutive, put_pages}
use Rattle.gopher_index.proofs.installing.put_part.Goals as goal

pub returns : goal.returns
returns c =
    let merged = c.args.merged in
    let start = c.in-Some.start in
    let end = c.in-Some-border.end in
    let parts = c.args.parts.now.items in
    let size : length c.pages.result.now ≡ length merged.pages = sym (length-map c.pages.result.now arc_value) ∙ ap length c.pages.ensures in
    let more = c.in_ok-extend_from_slice.ensures.items in
    let front : c.push.new.self.items ≡ take start parts ++ merged ∷ [] = c.in_ok-push.ensures.items ∙ ap (λ l. l ++ merged ∷ []) (c.in_ok-list.ensures.items_if_clones_equal (λ copy item is. is) ∙ ap (take start) c.deref-3.ensures.value) in
    let back : more.0 ≡ drop end parts = each_same _ more.0 more.2 ∙ take_rest c.deref-4.result.now end ∙ ap (drop end) c.deref-4.ensures.value in
    let seen : c.extend_from_slice.new.self.items ≡ take start parts ++ merged ∷ drop end parts = more.1 ∙ (λ i. front i ++ back i) ∙ append_assoc (take start parts) (merged ∷ []) (drop end parts) in
    let here : length (pages_of (take start parts)) ≡ merged.first = ap (λ l. length (pages_of (take start l))) (sym c.deref.ensures.value) ∙ c.in-Some.ensures.1 ∙ c.first.ensures in
    let there : length (pages_of (take end parts)) ≡ c.first-2.result + length c.pages.result.now = ap (λ l. length (pages_of (take end l))) (sym c.deref-2.ensures.value) ∙ c.in-Some-border.ensures.1 in
    let after : length (pages_of (take end parts)) ≡ merged.first + length merged.pages = omega (arith, there, size, c.first-2.ensures) in
    record {
      consecutive = subst (AreConsecutive 0) (sym seen) (put_consecutive parts start end merged here after c.requires.consecutive);
      pages = λ stands. ap pages_of seen ∙ put_pages parts start end merged here after stands;
    }
