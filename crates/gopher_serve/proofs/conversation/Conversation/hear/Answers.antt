use Rattle.std.proofs.Common.{◌≡◌, ℕ, ◌++◌, true, false, take, subst, inl, sym, arith}
use Rattle.std.specs.Io.BufRead.{first_line}
use Rattle.std.proofs.lemmas.Grind.{common_steps}
use Rattle.gopher_serve.specs.Talk.{is_known, known_line, talk_in}
use Rattle.gopher_serve.proofs.Talking.{heard_is}
use Rattle.gopher_serve.proofs.conversation.Conversation.hear.Goals.{in-Answering+in-Made-2, in-Answering+in-Kept-2, in-Answering+in-Searching-2, in-Gathering-2}
use Rattle.gopher_serve.proofs.conversation.Conversation.hear.Goals as goal

pub returns-then-is_known : goal.returns-then-is_known
returns-then-is_known c =
    let inside = c.self.inside in
    let items = c.extend_from_slice.new.self.items in
    let grown : items ≡ inside.gathered.items ++ take c.min.result c.args.piece.now = grind (arith, common_steps) in
    let known : is_known false items ≡ true = subst (λ l. is_known false l ≡ true) c.deref.ensures.value (sym c.if-is_known.ensures) in
    let settled : (n : ℕ) → talk_in items c.phase_of.result n ≡ known_line (first_line items) =
    subst (λ l. (n : ℕ) → talk_in l c.phase_of.result n ≡ known_line (first_line l)) c.deref-then-is_known.ensures.value c.phase_of.ensures.talk in
    let heard = heard_is inside.gathered.items c.args.piece.now items c.min.result inside.sent inside.phase c.phase_of.result c.args.self.now c.match-self-phase_of.self
    c.self.view_is c.in-Gathering.is grown known settled in
    elim c.match-self-phase_of.branch [ in-Answering+in-Made-2 w ↦ inl (heard w.self-is) | in-Answering+in-Kept-2 w ↦ inl (heard w.self-is) | in-Answering+in-Searching-2 w ↦ inl (heard w.self-is) | in-Gathering-2 w ↦ inl (heard w.self-is) ]
