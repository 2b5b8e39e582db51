use Rattle.std.proofs.Common.{◌-◌, ◌++◌, ◌∙◌, length, drop, take, ap, sym}
use Rattle.std.proofs.lemmas.List.{append-nil, take-append-drop}
use Rattle.gopher_bytes.proofs.line.without_carriage_return.Goals as goal

pub returns-in-13-clause-whole : goal.returns-in-13-clause-whole
returns-in-13-clause-whole c =
    let line = c.args.line.now in
    let front = length line - 1 in (
      drop front line,
      sym (take-append-drop front line) ∙ ap (λ l. take front line ++ l) (sym (append-nil (drop front line))),
    )
