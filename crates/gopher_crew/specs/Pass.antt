-- What contracts see of a pass, and what its searches leave.
use Rattle.std.specs.Prelude.{ℕ, ◌≡◌, List, Result, Ok, Err}
use mathlib.Core.List.{IsPrefix}
use Rattle.gopher_catalogue.specs.declared.event.EventData.{EventData}
use Rattle.gopher_catalogue.specs.Pages.{pages_found}
use Rattle.gopher_page.specs.Query.{TermData}
use Rattle.gopher_index.specs.Answer.{answer_of}
use Rattle.gopher_index.specs.declared.hit.Hit.{Hit}
use Rattle.gopher_text.specs.Watched.{CountsFailure}
use Rattle.gopher_crew.specs.declared.fault.SearchFault.{SearchFault}
use Rattle.gopher_crew.specs.declared.fault.SearchFault.TheVariants.{NoEntry, NoMemory}

-- `seen`: the published record that a pass took last. `told`: the longest of the notes that it
-- heard and of the records that it searched; its next answer's record begins with it. After a
-- search that failed, it may be shorter than what the pass has seen. `failed_entries`: how many of
-- its searches couldn't enter the published version, counted up to 2^64 - 1
pub record PassData : Type 0 where
  pub seen : List EventData
  pub told : List EventData
  pub failed_entries : ℕ

-- the records that a pass has seen and was told only become longer
pub record SeesOn (old new : PassData) : Type 0 where
  pub seen : IsPrefix old.seen new.seen
  pub told : IsPrefix old.told new.told

-- the failed entries of a pass before and after a search: one more if it fails with 61
abbrev pub CountsEntry : {T : Type 0} → ℕ → ℕ → Result T SearchFault → Type 0
CountsEntry before after (Ok found) = after ≡ before
CountsEntry before after (Err NoEntry) = CountsFailure before after
CountsEntry before after (Err NoMemory) = after ≡ before

-- the answer to a query over the pages that a record found
abbrev pub hits_of : List EventData → List TermData → List Hit
hits_of record_ query = answer_of (pages_found record_) query
