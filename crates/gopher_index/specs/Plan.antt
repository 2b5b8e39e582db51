-- The terms of a query in groups of equal terms.
use Rattle.std.specs.Prelude.{◌≡◌, ℕ, ◌+◌, ◌*◌, ◌%◌, ◌≤◌, ◌<◌, Bool, true, false, List, [], ◌∷◌, length, map, max, nat_lt, slice_index_or, ◌==◌, if◌then◌else◌}
use Rattle.gopher_page.specs.Page.{PageData}
use Rattle.gopher_page.specs.Query.{TermData, IsQuery, count_of_term, is_not, matches, score}
use Rattle.gopher_page.specs.declared.query.Operator.{Operator}
use Rattle.gopher_page.specs.declared.query.Operator.TheVariants.{And, Or, Not}
use Rattle.gopher_index.specs.declared.plan.Group.{Group}
use Rattle.std.specs.List.{All}

-- the verdict of the term with this number on a page; `holds` says whether the page contains a word
-- that the term matches. 0 if the term changes nothing, otherwise an odd number if the page matches
-- and an even one if it doesn't; a later term has a higher verdict
abbrev pub verdict_of : Operator → ℕ → Bool → ℕ
verdict_of And number holds = if holds then 0 else 2 * number + 2
verdict_of Or number holds = if holds then 2 * number + 3 else 0
verdict_of Not number holds = if holds then 2 * number + 2 else 0

-- whether a page with this highest verdict matches
abbrev pub is_match : ℕ → Bool
is_match verdict = verdict % 2 == 1

-- how often a term counts for the score: once, or never after `not`
abbrev pub wanted_once : Operator → ℕ
wanted_once operator = if is_not operator then 0 else 1

-- the highest verdict of the terms of a group on a page that contains their words `count` times
abbrev pub verdict_by : Group → ℕ → ℕ
verdict_by group count = if nat_lt 0 count then group.holds else group.fails

-- the highest verdict of all groups; without a group, a page matches
abbrev pub verdict : List Group → List (List ℕ × ℕ) → ℕ
verdict [] counts = 1
verdict (group ∷ groups) counts =
    max (verdict_by group (count_of_term counts group.term)) (verdict groups counts)

-- the score of a page by groups: each group's count, once for each of its terms that counts
abbrev pub total : List Group → List (List ℕ × ℕ) → ℕ
total [] counts = 0
total (group ∷ groups) counts = group.wanted * count_of_term counts group.term + total groups counts

-- the number of terms in groups that count for the score
abbrev pub wanted_in : List Group → ℕ
wanted_in [] = 0
wanted_in (group ∷ groups) = group.wanted + wanted_in groups

-- the groups match and score each page as the terms do
pub record AreTermGroups (terms : List TermData) (groups : List Group) : Type 0 where
  pub matching : (counts : List (List ℕ × ℕ))
      → matches terms counts ≡ is_match (verdict groups counts)
  pub scoring : (counts : List (List ℕ × ℕ)) → score terms counts ≡ total groups counts
  pub highest : (counts : List (List ℕ × ℕ)) → verdict groups counts ≤ 2 * length terms + 1
  pub few : wanted_in groups ≤ length terms

-- the groups of a query's terms: at least one, and at most as many as there are terms
pub record IsPlan (terms : List TermData) (groups : List Group) : Type 0 where
  pub query : IsQuery terms
  pub groups_are : AreTermGroups terms groups
  pub some : 0 < length groups
  pub most : length groups ≤ length terms

-- a group with one more term
pub record Joins (term : TermData) (number : ℕ) (old new : Group) : Type 0 where
  pub same : new.term ≡ old.term
  pub wanted : new.wanted ≡ old.wanted + wanted_once term.operator
  pub holds : new.holds ≡ max old.holds (verdict_of term.operator number true)
  pub fails : new.fails ≡ max old.fails (verdict_of term.operator number false)

-- the group at an index is that of a term
pub record IsGroupOf (term : TermData) (groups : List Group) (index : ℕ) : Type 0 where
  pub group : Group
  pub within : index < length groups
  pub at : group ≡ slice_index_or groups index group
  pub word : group.term.word ≡ term.word
  pub prefix : group.term.is_prefix ≡ term.is_prefix

-- both groups have equal verdicts and scores on each page
pub record SayAlike (old new : List Group) : Type 0 where
  pub verdicts : (counts : List (List ℕ × ℕ)) → verdict new counts ≡ verdict old counts
  pub totals : (counts : List (List ℕ × ℕ)) → total new counts ≡ total old counts
  pub wanted : wanted_in new ≡ wanted_in old

-- groups with one more term
pub record AddsTerm (term : TermData) (number : ℕ) (old new : List Group) : Type 0 where
  pub verdicts : (counts : List (List ℕ × ℕ))
      → verdict new counts ≡ max (verdict old counts)
      (verdict_of term.operator number (nat_lt 0 (count_of_term counts term)))
  pub totals : (counts : List (List ℕ × ℕ))
      → total new counts ≡ total old counts + wanted_once term.operator * count_of_term counts term
  pub wanted : wanted_in new ≡ wanted_in old + wanted_once term.operator

-- the verdicts and scores of the pages of a segment by groups
pub record AreGroupCells (groups : List Group) (pages : List PageData) (verdicts scores : List ℕ)
    : Type 0 where
  pub deciding : verdicts ≡ map (λ page. verdict groups page.counts) pages
  pub scoring : scores ≡ map (λ page. total groups page.counts) pages

-- each element after a step with the count at its index; elements past the counts are unchanged
abbrev pub zipped : {X : Type 0} → (X → ℕ → X) → List X → List ℕ → List X
zipped step [] counts = []
zipped step (x ∷ xs) [] = x ∷ xs
zipped step (x ∷ xs) (count ∷ counts) = step x count ∷ zipped step xs counts

-- how often the words that a term matches occur in each page
abbrev pub term_counts : TermData → List PageData → List ℕ
term_counts term pages = map (λ page. count_of_term page.counts term) pages

-- if no score was above a bound, none is more than `rise` above it
abbrev pub RisesAtMost : ℕ → List ℕ → List ℕ → Type 0
RisesAtMost rise old new =
    (bound : ℕ) → All (λ score. score ≤ bound) old → All (λ score. score ≤ bound + rise) new

-- the matches and the scores of the pages of a segment
pub record AreCells (terms : List TermData) (pages : List PageData) (truths : List Bool)
    (scores : List ℕ) : Type 0 where
  pub matching : truths ≡ map (λ page. matches terms page.counts) pages
  pub scoring : scores ≡ map (λ page. score terms page.counts) pages
