use Rattle.std.proofs.Common.{◌≡◌, None, Some, IfOk, sym, subst}
use Rattle.gopher_tree.specs.Files.{file_at}
use Rattle.gopher_tree.specs.Reply.{named_by}
use Rattle.gopher_tree.specs.Found.{Shows}
use Rattle.gopher_tree.proofs.ReplyLemmas.{reply-no_path, reply_at}
use Rattle.gopher_tree.proofs.tree.Tree.reply.Goals as goal

pub returns-in_default : goal.returns-in_default
returns-in_default c =
    subst (λ sent. IfOk c.not_found.result (λ bytes. bytes.items ≡ sent)) (reply-no_path c.args.self.now c.args.home.now c.args.selector.now (sym c.in_default.ensures)) c.not_found.ensures

pub returns-in-Some-File : goal.returns-in-Some-File
returns-in-Some-File c =
    let files = c.args.self.now in
    let path = c.in-Some.path.now in
    let shows = subst (λ node. Shows (named_by files path (file_at files path)) (Some node)) c.in-Some-File.field-0-is c.in-Some-File.ensures in
    subst (λ sent. IfOk c.file_reply.result (λ bytes. bytes.items ≡ sent)) (reply_at files c.args.home.now c.args.selector.now path _ (sym c.in-Some.ensures) shows) c.file_reply.ensures

pub returns-in-Some-Folder : goal.returns-in-Some-Folder
returns-in-Some-Folder c =
    let files = c.args.self.now in
    let path = c.in-Some.path.now in
    let shows = subst (λ node. Shows (named_by files path (file_at files path)) (Some node)) c.in-Some-Folder.field-0-is c.in-Some-Folder.ensures in
    subst (λ sent. IfOk c.folder_reply.result (λ bytes. bytes.items ≡ sent)) (reply_at files c.args.home.now c.args.selector.now path _ (sym c.in-Some.ensures) shows) c.folder_reply.ensures

pub returns-in-None : goal.returns-in-None
returns-in-None c =
    subst (λ sent. IfOk c.not_found-in-None.result (λ bytes. bytes.items ≡ sent))
    (reply_at c.args.self.now c.args.home.now c.args.selector.now c.in-Some.path.now None (sym c.in-Some.ensures) c.in-None.ensures) c.not_found-in-None.ensures
