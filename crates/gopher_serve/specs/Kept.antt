-- The replies of a tree, most of which are kept.
use Rattle.std.specs.Prelude.{◌≡◌, ℕ, List, Option, IfSome, All}
use Rattle.std.specs.Borrow.{Bor}
use Rattle.std.specs.Global.{Vec}
use Rattle.gopher_item.specs.Place.{HomeData}
use Rattle.gopher_tree.specs.Files.{File}
use Rattle.gopher_tree.specs.Reply.{tree_reply, not_found_bytes}
use Rattle.gopher_serve.specs.Answer.{answer_bytes, steps_to_reply}
use Rattle.gopher_serve.specs.declared.answer.Answer.{Answer}
use Rattle.gopher_serve.specs.declared.kept.KeptReply.{KeptReply}
use Rattle.gopher_serve.specs.declared.replies.RepliesRefused.{RepliesRefused}

-- the bytes are the reply to the selector
abbrev pub IsReply : List File → HomeData → KeptReply → Type 0
IsReply files home kept = kept.bytes ≡ tree_reply files home kept.selector

-- if these are kept replies of a tree, then the bytes found are the reply to the selector
abbrev pub FindsReply : List KeptReply → List ℕ → Option (Bor (List ℕ)) → Type 0
FindsReply kept selector found =
    (files : List File) (home : HomeData) → All (IsReply files home) kept
    → IfSome found (λ bytes. bytes.now ≡ tree_reply files home selector)

-- two selectors have the same reply in each tree
abbrev pub HaveSameReply : List ℕ → List ℕ → Type 0
HaveSameReply selector other =
    (files : List File) (home : HomeData)
    → tree_reply files home other ≡ tree_reply files home selector

-- the kept replies, and the reply to a selector that names nothing
abbrev pub AreReplies : List File → HomeData → Vec KeptReply → List ℕ → Type 0
AreReplies files home kept not_found =
    All (IsReply files home) kept.items × (not_found ≡ not_found_bytes home)

-- the replies of a tree: its files, and the server's address
pub record RepliesData : Type 0 where
  pub files : List File
  pub home : HomeData

-- the replies are those of this tree and this address
abbrev pub AreRepliesOf : List File → HomeData → RepliesData → Type 0
AreRepliesOf files home replies = (replies.files ≡ files) × (replies.home ≡ home)

-- the error has the tree and the address that were passed in
abbrev pub GivesBack : List File → HomeData → RepliesRefused → Type 0
GivesBack files home refused = (refused.tree ≡ files) × (refused.home ≡ home)

-- the answer is there, and is the reply of the tree to the selector
abbrev pub IsReplyOf : RepliesData → List ℕ → Answer → Type 0
IsReplyOf replies selector answer =
    (answer_bytes answer ≡ tree_reply replies.files replies.home selector)
    × (steps_to_reply answer ≡ 0)
