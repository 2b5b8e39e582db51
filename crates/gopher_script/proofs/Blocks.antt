-- Reading the lines of a block one by one.
use Rattle.std.proofs.Common.{◌≡◌, ℕ, ◌+◌, true, false, List, [], ◌∷◌, ◌++◌, Option, refl, sym, ap, subst, ◌∙◌, append_assoc}
use Rattle.std.proofs.lemmas.List.Sums.{take_while-cons}
use Rattle.gopher_script.specs.Command.{StatementData, command_of}
use Rattle.gopher_bytes.specs.Lines.{lines_of}
use Rattle.gopher_script.specs.declared.command.Command.{Command}
use Rattle.gopher_script.specs.Script.{is_block_line, begins_block, block_of, block_reply, reply_after, takes_block, statements_of}

reply-more : (text : List ℕ) (lines : List (List ℕ)) → block_reply (block_of ((124 ∷ text) ∷ lines)) ≡ (text ++ 13 ∷ 10 ∷ []) ++ block_reply (block_of lines)
reply-more text lines = ap block_reply (take_while-cons is_block_line (124 ∷ text) lines)

-- after one more line of a block, with its text and CR LF
pub reply-step : (done mid new text all : List ℕ) (now lines : List (List ℕ)) → now ≡ (124 ∷ text) ∷ lines → mid ≡ done ++ text → new ≡ mid ++ 13 ∷ 10 ∷ []
    → done ++ block_reply (block_of now) ≡ all → new ++ block_reply (block_of lines) ≡ all
reply-step done mid new text all now lines is first second whole =
    let taken : new ≡ done ++ (text ++ 13 ∷ 10 ∷ []) = second ∙ ap (λ l. l ++ 13 ∷ 10 ∷ []) first ∙ append_assoc done text (13 ∷ 10 ∷ []) in
    ap (λ l. l ++ block_reply (block_of lines)) taken ∙ append_assoc done (text ++ 13 ∷ 10 ∷ []) (block_reply (block_of lines))
    ∙ ap (λ l. done ++ l) (sym (ap (λ ls. block_reply (block_of ls)) is ∙ reply-more text lines)) ∙ whole

pub statements-step : (number : ℕ) (text : List ℕ) (now lines : List (List ℕ)) (all : List StatementData) → now ≡ (124 ∷ text) ∷ lines
    → statements_of number true now ≡ all → statements_of (number + 1) true lines ≡ all
unfolding statements_of
statements-step number text now lines all is whole = sym (ap (statements_of number true) is) ∙ whole

-- after the last line of a block
pub statements-end : (number : ℕ) (lines : List (List ℕ)) → begins_block lines ≡ false → statements_of number true lines ≡ statements_of number false lines
unfolding statements_of
statements-end number [] e = refl
statements-end number (line ∷ lines) e = rw e refl

-- no bytes contain no statements
pub statements-none : (number : ℕ) (bytes : List ℕ) → bytes ≡ [] → statements_of number false (lines_of bytes) ≡ []
unfolding statements_of
statements-none number bytes e = ap (λ (b : List ℕ). statements_of number false (lines_of b)) e

-- the first line and the block after it are a statement, and the others follow
pub statements-next : (number : ℕ) (line reply : List ℕ) (now lines : List (List ℕ)) (command : Option Command) (others : List StatementData)
    → now ≡ line ∷ lines → command ≡ command_of line → reply ≡ reply_after command lines → others ≡ statements_of (number + 1) (takes_block command) lines
    → statements_of number false now ≡ (record { number = number; command = command; reply = reply }) ∷ others
unfolding statements_of
statements-next number line reply now lines command others is read taken next =
    let here = ap (statements_of number false) is in
    let P : Option Command → Type 0 = λ c. reply ≡ reply_after c lines → others ≡ statements_of (number + 1) (takes_block c) lines
    → statements_of number false now ≡ (record { number = number; command = c; reply = reply }) ∷ others in
    subst P (sym read) (λ r o. here ∙ ap (λ x. (record { number = number; command = command_of line; reply = x }) ∷ statements_of (number + 1) (takes_block (command_of line)) lines) (sym r)
    ∙ ap (λ x. (record { number = number; command = command_of line; reply = reply }) ∷ x) (sym o)) taken next
