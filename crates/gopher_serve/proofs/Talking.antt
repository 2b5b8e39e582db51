-- A conversation as it hears and says more.
use Rattle.std.proofs.Common.{◌≡◌, ℕ, ◌+◌, true, false, List, ◌++◌, take, refl, sym, ap, ◌∙◌, subst}
use Rattle.std.specs.Io.BufRead.{first_line}
use Rattle.gopher_serve.specs.Talk.{Talk, Gathers, Asks, heard, is_known, known_line, said, talk_in}
use Rattle.gopher_serve.specs.declared.conversation.Phase.{Phase}
use Rattle.gopher_serve.specs.declared.conversation.Phase.TheVariants as phase
use Rattle.gopher_serve.proofs.FirstLines.{heard_known}

-- a piece of which so many bytes were gathered, after which the line is known
pub heard_is : (gathered piece items : List ℕ) (count sent : ℕ) (before after : Phase) (old new : Talk)
    → talk_in gathered before sent ≡ old → before ≡ phase.Gathering → items ≡ gathered ++ take count piece
    → is_known false items ≡ true → ((n : ℕ) → talk_in items after n ≡ known_line (first_line items)) → new ≡ talk_in items after sent
    → new ≡ heard false old piece
heard_is gathered piece items count sent before after old new view gathering grown known settled is =
    let was : old ≡ Gathers gathered = sym view ∙ ap (λ p. talk_in gathered p sent) gathering in
    let test : is_known false (gathered ++ take count piece) ≡ true = ap (is_known false) (sym grown) ∙ known in
    is ∙ settled sent ∙ ap (λ l. known_line (first_line l)) grown ∙ sym (heard_known gathered piece count test)
    ∙ ap (λ t. heard false t piece) (sym was)

-- a conversation that asks a line holds that line
pub asked_is : (gathered line : List ℕ) (before : Phase) (sent : ℕ) → talk_in gathered before sent ≡ Asks line → first_line gathered ≡ line
asked_is gathered line phase.Gathering sent view = absurd cc
asked_is gathered line phase.Asked sent view = cc
asked_is gathered line phase.TooLong sent view = absurd cc
asked_is gathered line phase.LacksMemory sent view = absurd cc
asked_is gathered line (phase.Answering answer) sent view = absurd cc

-- `count` more bytes of its reply were sent
pub said_is : (gathered : List ℕ) (before : Phase) (sent count : ℕ) (old : Talk) → talk_in gathered before sent ≡ old
    → talk_in gathered before (sent + count) ≡ said old count
said_is gathered before sent count old view = subst (λ (t : Talk). talk_in gathered before (sent + count) ≡ said t count) view (by before)
  where
    by : (p : Phase) → talk_in gathered p (sent + count) ≡ said (talk_in gathered p sent) count
    by phase.Gathering = refl
    by phase.Asked = refl
    by phase.TooLong = refl
    by phase.LacksMemory = refl
    by (phase.Answering answer) = refl
