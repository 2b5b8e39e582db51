-- How searches are answered.
use Rattle.std.proofs.Common.{◌≡◌, ℕ, ◌<◌, List, [], ◌∷◌, length, None, Some, arith}
use Rattle.std.specs.Prelude.{codes}
use Rattle.gopher_item.specs.Place.{HomeData}
use Rattle.gopher_text.specs.Watched.{HasFailed}
use Rattle.gopher_page.specs.Query.{TermData}
use Rattle.gopher_index.specs.declared.hit.Hit.{Hit}
use Rattle.gopher_crew.specs.Pass.{PassData, SeesOn}
use Rattle.gopher_tree.specs.Reply.{error_bytes}
use Rattle.gopher_serve.specs.Answer.{hits_bytes}
use Rattle.gopher_hole.specs.Answer.{AnswersTerms, FindsHits}

-- a search that ended
pub answers_hits : (home : HomeData) (old new : PassData) (terms : List TermData) (hits : List Hit) (reply : List ℕ)
    → 0 < length terms → FindsHits old new terms hits → reply ≡ hits_bytes hits → AnswersTerms home old new terms reply
answers_hits home old new [] hits reply some found is = absurd (omega arith)
answers_hits home old new (term ∷ terms) hits reply some found is = record { outcome = Some hits; searched = found; reply_is = is }

pub answers_none : (home : HomeData) (old new : PassData) (terms : List TermData) (reply : List ℕ)
    → 0 < length terms → SeesOn old new → HasFailed old.failed_entries new.failed_entries → reply ≡ error_bytes (codes "No catalogue") home
    → AnswersTerms home old new terms reply
answers_none home old new [] reply some seen failed is = absurd (omega arith)
answers_none home old new (term ∷ terms) reply some seen failed is = record { outcome = None; searched = (seen, failed); reply_is = is }
