use Rattle.std.proofs.Common.{◌≡◌, List, [], ◌∷◌, ◌++◌, map, refl, ap, ◌∙◌}
use Rattle.std.proofs.lemmas.List.{map-append}
use Rattle.std.specs.Arc.{arc_value}
use Rattle.std.specs.Global.{Global}
use Rattle.std.specs.List.{AllZip}
use Rattle.std.specs.declared.sync.Arc.{Arc}
use Rattle.gopher_segment.proofs.sharing.share.Goals as goal

same_values : {T : Type 0} (items clones : List (Arc T Global)) → AllZip (λ c d. arc_value d ≡ arc_value c) items clones → map arc_value clones ≡ map arc_value items
same_values [] [] same = refl
same_values [] (clone ∷ clones) same = absurd same
same_values (item ∷ items) [] same = absurd same
same_values (item ∷ items) (clone ∷ clones) same = λ i. same.0 i ∷ same_values items clones same.1 i

pub returns-clause-shared : goal.returns-clause-shared
returns-clause-shared g c =
    let added = c.in_ok-extend_from_slice.ensures.items in
    ap (map arc_value) added.1 ∙ map-append arc_value c.args.list.now.items added.0 ∙ ap (λ l. map arc_value c.args.list.now.items ++ l) (same_values c.args.items.now added.0 added.2)
