use Rattle.std.proofs.Common.{◌≡◌, false, List, ℕ, [], ◌∷◌, ◌++◌, append_assoc, sym, ap, subst, ◌∙◌}
use Rattle.std.proofs.lemmas.List.Elements.{All-push}
use Rattle.gopher_text.specs.Line.{has_feed}
use Rattle.gopher_text.specs.Text.{text_lines, HoldNoFeed}
use Rattle.gopher_text.proofs.text.read_text.Goals as goal

pub loop-line-preserved : goal.loop-line-preserved
loop-line-preserved c =
    let lines : List (List ℕ) = c.loop-line.lines in
    let line : List ℕ = c.in-Some.line.now in
    let after : List (List ℕ) = text_lines c.in-Some.after.now in
    let added : c.push.new.self ≡ lines ++ line ∷ [] = c.in_ok-push.ensures.added in (
      ap (λ l. l ++ after) added ∙ append_assoc lines (line ∷ []) after ∙ ap (λ l. lines ++ l) (sym c.in-Some.ensures.line) ∙ c.loop-line.invariant.0,
      sym c.in-Some.ensures.ended ∙ c.loop-line.invariant.1,
      subst HoldNoFeed (sym added) (All-push (λ l. has_feed l ≡ false) lines line c.loop-line.invariant.2 c.in-Some.ensures.no_feed),
    )
