use Rattle.std.proofs.Common.{◌≡◌, take, flat_map}
use Rattle.gopher_item.specs.MenuLine.{menu_line_bytes}
use Rattle.gopher_serve.specs.Answer.{hit_line}
use Rattle.gopher_serve.proofs.hits.hits_menu.Given as goal

abbrev pub invariant-loop-hit : goal.invariant-loop-hit
invariant-loop-hit l = l.out.items ≡ flat_map (λ hit. menu_line_bytes (hit_line hit)) (take l.hit-index l.hits)
