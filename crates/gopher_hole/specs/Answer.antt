-- The reply to a request line: a function of the tree's files, the server's address, the line, and
-- the hits of its search.
use Rattle.std.specs.Prelude.{◌≡◌, ℕ, ◌<◌, Bool, nat_eq, codes, List, [], ◌∷◌, length, Option, None, Some, MatchOption, Result, IfOk, if◌then◌else◌}
use Rattle.std.specs.Option.{option_map_or}
use Rattle.std.specs.Cmp.Lexicographic.{pointwise}
use Rattle.std.specs.Global.{Vec}
use Rattle.gopher_item.specs.Place.{HomeData}
use Rattle.gopher_item.specs.Request.{request_fault, request_of}
use Rattle.gopher_item.specs.declared.request.Request.{Request}
use Rattle.gopher_text.specs.Watched.{HasFailed}
use Rattle.gopher_page.specs.Query.{TermData, query_of}
use Rattle.gopher_index.specs.declared.hit.Hit.{Hit}
use Rattle.gopher_tree.specs.Files.{File}
use Rattle.gopher_tree.specs.Reply.{error_bytes, tree_reply}
use Rattle.gopher_serve.specs.Answer.{hits_bytes}
use Rattle.gopher_serve.specs.Kept.{RepliesData}
use Rattle.gopher_catalogue.specs.Legal.{IsLegal}
use Rattle.gopher_crew.specs.Pass.{PassData, SeesOn, hits_of}
use mathlib.Core.List.{IsPrefix}
use Rattle.gopher_item.specs.Leads.{Leads}
use Rattle.gopher_hole.specs.Aliases.{Alias, answered_selector}

-- the selector is `/search`
abbrev pub is_search : List ℕ → Bool
is_search selector = pointwise nat_eq selector (codes "/search")

-- the terms of a search string; none if there is no string
abbrev pub asked : Option (List ℕ) → List TermData
asked None = []
asked (Some text) = query_of text

-- a query that asks for these terms; there is none if there are no terms
abbrev pub IsQueryFor : List TermData → Option (List TermData) → Type 0
IsQueryFor terms query =
    MatchOption query (terms ≡ []) (λ found. (found ≡ terms) × (0 < length found))

-- the reply to a search for these terms; `None` if the published version couldn't be entered
abbrev pub search_reply : HomeData → List TermData → Option (List Hit) → List ℕ
search_reply home [] outcome = error_bytes (codes "No words") home
search_reply home (term ∷ terms) None = error_bytes (codes "No catalogue") home
search_reply home (term ∷ terms) (Some hits) = hits_bytes hits

-- the reply to a request
abbrev pub reply_to_request : List File → HomeData → Request → Option (List Hit) → List ℕ
reply_to_request files home request outcome =
    if is_search request.selector
    then search_reply home (asked request.search) outcome
    else tree_reply files home request.selector

-- the reply to a line, given without its end
abbrev pub reply_of : List File → HomeData → List ℕ → Option (List Hit) → List ℕ
reply_of files home line outcome =
    option_map_or (λ fault. error_bytes (codes "Bad request") home) (request_fault line)
    (reply_to_request files home (request_of line) outcome)

-- the request whose reply a request gets: that for the alias of its selector, if there is one
abbrev pub aliased : List Alias → Request → Request
aliased aliases request =
    record { selector = answered_selector aliases request.selector; search = request.search }

-- the reply of a site with aliases to a line; an invalid line has none
abbrev pub reply_with : List Alias → List File → HomeData → List ℕ → Option (List Hit) → List ℕ
reply_with aliases files home line outcome =
    option_map_or (λ fault. error_bytes (codes "Bad request") home) (request_fault line)
    (reply_to_request files home (aliased aliases (request_of line)) outcome)

-- the terms for which a request searches; none if it is no search, or has no words
abbrev pub terms_of_request : Request → List TermData
terms_of_request request = if is_search request.selector then asked request.search else []

-- the terms for which a line searches; none if it is invalid, is no search, or has no words
abbrev pub terms_of_line : List ℕ → List TermData
terms_of_line line =
    option_map_or (λ fault. []) (request_fault line) (terms_of_request (request_of line))

-- the same for a site with aliases
abbrev pub terms_with : List Alias → List ℕ → List TermData
terms_with aliases line =
    option_map_or (λ fault. []) (request_fault line)
    (terms_of_request (aliased aliases (request_of line)))

-- the hits are the answer over one legal record, which begins with the records that the pass had
-- seen and was told
pub record FindsHits (old new : PassData) (terms : List TermData) (hits : List Hit) : Type 0 where
  pub legal : IsLegal new.seen
  pub hits_are : hits ≡ hits_of new.seen terms
  pub sees_on : SeesOn old new
  pub none_told : new.told ≡ new.seen

-- the pass before and after a search, by the outcome of the search; without terms there is none.
-- `None` says that an entry to the published version failed meanwhile
abbrev pub Searches : PassData → PassData → List TermData → Option (List Hit) → Type 0
Searches old new [] outcome = new ≡ old
Searches old new (term ∷ terms) None =
    SeesOn old new × HasFailed old.failed_entries new.failed_entries
Searches old new (term ∷ terms) (Some hits) = FindsHits old new (term ∷ terms) hits

-- the reply to a search for these terms
pub record AnswersTerms (home : HomeData) (old new : PassData) (terms : List TermData)
    (reply : List ℕ) : Type 0 where
  pub outcome : Option (List Hit)
  pub searched : Searches old new terms outcome
  pub reply_is : reply ≡ search_reply home terms outcome

-- the reply to a line, and the pass before and after
pub record AnswersLine (files : List File) (home : HomeData) (old new : PassData)
    (line reply : List ℕ) : Type 0 where
  pub outcome : Option (List Hit)
  pub searched : Searches old new (terms_of_line line) outcome
  pub reply_is : reply ≡ reply_of files home line outcome

-- the reply to a request, and the pass before and after
pub record AnswersRequest (files : List File) (home : HomeData) (old new : PassData)
    (request : Request) (reply : List ℕ) : Type 0 where
  pub outcome : Option (List Hit)
  pub searched : Searches old new (terms_of_request request) outcome
  pub reply_is : reply ≡ reply_to_request files home request outcome

-- the reply of a site with aliases to a line, and the pass before and after
pub record AnswersAliased (aliases : List Alias) (files : List File) (home : HomeData)
    (old new : PassData) (line reply : List ℕ) : Type 0 where
  pub outcome : Option (List Hit)
  pub searched : Searches old new (terms_with aliases line) outcome
  pub reply_is : reply ≡ reply_with aliases files home line outcome

-- if bytes are returned, they are such
abbrev pub IfBytes : {E : Type 0} → Result (Vec ℕ) E → (List ℕ → Type 0) → Type 0
IfBytes result P = IfOk result (λ bytes. P bytes.items)

-- the reply to a line, from replies of a tree
abbrev pub AnswersFrom : RepliesData → PassData → PassData → List ℕ → List ℕ → Type 0
AnswersFrom replies old new line reply = AnswersLine replies.files replies.home old new line reply

-- the reply to a line, from replies of a tree and aliases
abbrev pub AnswersWith : RepliesData → List Alias → PassData → PassData → List ℕ → List ℕ → Type 0
AnswersWith replies aliases old new line reply =
    AnswersAliased aliases replies.files replies.home old new line reply

-- the replies of a tree, the aliases, and the records that a pass has seen and was told
pub record SiteData : Type 0 where
  pub replies : RepliesData
  pub aliases : List Alias
  pub pass : PassData

-- the site is the same, except that its pass may have seen a longer record
pub record LeadsOn (old new : SiteData) : Type 0 where
  pub replies : new.replies ≡ old.replies
  pub aliases : new.aliases ≡ old.aliases
  pub pass : SeesOn old.pass new.pass

-- the reply that a site gives to a line
abbrev pub GivesReply : SiteData → SiteData → List ℕ → List ℕ → Type 0
GivesReply old new line reply =
    AnswersWith old.replies old.aliases old.pass new.pass line reply

-- without aliases, a line has the reply of `reply_of`
abbrev pub NoAliasesChangeNothing : Type 0
NoAliasesChangeNothing =
    (files : List File) (home : HomeData) (old new : PassData) (line reply : List ℕ)
    → AnswersAliased [] files home old new line reply → AnswersLine files home old new line reply

-- a search after any number of answers finds its hits in a record that begins with everything that
-- the site's pass saw and was told of before them
abbrev pub SearchesTakeNothingBack : Type 0
SearchesTakeNothingBack =
    (before asked after : SiteData) (terms : List TermData) (hits : List Hit)
    → Leads LeadsOn before asked → FindsHits asked.pass after.pass terms hits
    → IsPrefix before.pass.seen after.pass.seen × IsPrefix before.pass.told after.pass.seen
