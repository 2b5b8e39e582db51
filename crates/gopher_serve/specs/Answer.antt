-- What a line is answered with, by its bytes and the steps that are left until they are there.
use Rattle.std.specs.Prelude.{◌≡◌, ℕ, suc, ◌<◌, ◌⊎◌, List, Option, None, Some, Result, IfOk, codes, ◌++◌, flat_map}
use Rattle.gopher_serve.specs.declared.answer.Answer.{Answer}
use Rattle.gopher_item.specs.MenuLine.{MenuLineData, menu_line_bytes}
use Rattle.gopher_index.specs.declared.hit.Hit.{Hit}
use Rattle.gopher_serve.specs.declared.answer.Answer.TheVariants as answer

-- a hit as a line of a menu: the type, title, selector, host and port of the page that was found
abbrev pub hit_line : Hit → MenuLineData
hit_line hit =
    record {
      kind = hit.place.kind;
      display = hit.title;
      selector = hit.place.selector;
      host = hit.place.host;
      port = hit.place.port;
    }

-- the line of each hit, and the last line
abbrev pub hits_bytes : List Hit → List ℕ
hits_bytes hits = flat_map (λ hit. menu_line_bytes (hit_line hit)) hits ++ codes ".\r\n"

-- the bytes of an answer, also if its search isn't at its end
abbrev pub answer_bytes : Answer → List ℕ
answer_bytes (answer.Kept bytes) = bytes.now
answer_bytes (answer.Made bytes) = bytes.items
answer_bytes (answer.Searching search) = hits_bytes search.hits

-- if there is an answer, its bytes are such
abbrev pub IfAnswered : {E : Type 0} → Result Answer E → (List ℕ → Type 0) → Type 0
IfAnswered result P = IfOk result (λ answer. P (answer_bytes answer))

-- the bytes of an answer; `None` if its search isn't at its end
abbrev pub ready_bytes : Answer → Option (List ℕ)
ready_bytes (answer.Searching search) = None
ready_bytes reply = Some (answer_bytes reply)

-- a bound of the steps that are left until the reply is there; 0 once it is there
abbrev pub steps_to_reply : Answer → ℕ
steps_to_reply (answer.Searching search) = suc search.left
steps_to_reply reply = 0

-- the reply is there, or fewer steps are left until it is there: the steps before and after
abbrev pub Nears : ℕ → ℕ → Type 0
Nears old new = (new ≡ 0) ⊎ (new < old)
