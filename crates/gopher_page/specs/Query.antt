-- Queries: which pages they match, and the scores of these.
use Rattle.std.specs.Prelude.{◌≡◌, ◌≤◌, ℕ, Bool, IsTrue, true, false, ◌&&◌, ◌||◌, not, List, [], ◌∷◌, codes, length, filter, nat_lt, Option, None, Some, Result, Ok, Err, if◌then◌else◌}
use Rattle.std.specs.List.{fold, sum_by, list_any}
use Rattle.std.specs.Option.{option_map_or}
use Rattle.gopher_bytes.specs.declared.line.TheConstants.{MAX_LINE}
use Rattle.gopher_page.specs.Words.{Token, same_word, token_of, tokens_of}
use Rattle.gopher_page.specs.Counts.{count_meant}
use Rattle.gopher_page.specs.declared.fault.QueryFault.{QueryFault}
use Rattle.gopher_page.specs.declared.fault.QueryFault.TheVariants.{NoWords, NoMemory}
use Rattle.gopher_page.specs.declared.query.Operator.{Operator}
use Rattle.gopher_page.specs.declared.query.Operator.TheVariants.{And, Or, Not}

-- a term of a query: a word, or a prefix that matches every word that begins with it, and the
-- operator that joins it to the terms before (`and` joins the first to a query that matches every
-- page)
pub record TermData : Type 0 where
  pub operator : Operator
  pub word : List ℕ
  pub is_prefix : Bool

-- the operator of a token: the word `and`, `or` or `not`; a prefix is none
abbrev pub operator_of : Token → Option Operator
operator_of token =
    if token.is_prefix then None
    else (if same_word token.word (codes "and") then Some And
    else (if same_word token.word (codes "or") then Some Or
    else (if same_word token.word (codes "not") then Some Not else None)))

abbrev pub term_of : Operator → Token → TermData
term_of operator token =
    record { operator = operator; word = token.word; is_prefix = token.is_prefix }

-- the terms of the tokens after a term and this operator: of several operators in a row the last
-- counts, and operators after the last term are ignored
abbrev pub terms_after : Operator → List Token → List TermData
terms_after operator [] = []
terms_after operator (token ∷ tokens) =
    option_map_or (λ next. terms_after next tokens) (operator_of token)
    (term_of operator token ∷ terms_after And tokens)

-- the first token is always a term; terms without an operator between them are joined by `and`
abbrev pub terms_of : List Token → List TermData
terms_of [] = []
terms_of (token ∷ tokens) = term_of And token ∷ terms_after And tokens

unfoldable pub query_of : List ℕ → List TermData
query_of text = terms_of (tokens_of text)

-- the terms of a text that follows a term
abbrev pub later_terms : List ℕ → List TermData
later_terms text = terms_after And (tokens_of text)

-- the terms of a query with this word as its first token and the text after it
abbrev pub terms_from : List ℕ → Bool → List ℕ → List TermData
terms_from word is_prefix after = terms_of (token_of (word, is_prefix) ∷ tokens_of after)

-- how often the words that a term matches occur in a page with these counts
unfoldable pub count_of_term : List (List ℕ × ℕ) → TermData → ℕ
count_of_term counts term = count_meant term.is_prefix term.word counts

-- the terms before, joined to a term that matches or doesn't
abbrev pub joined : Operator → Bool → Bool → Bool
joined And truth holds = truth && holds
joined Or truth holds = truth || holds
joined Not truth holds = truth && not holds

-- a page with these counts matches: its terms are joined from left to right
unfoldable pub matches : List TermData → List (List ℕ × ℕ) → Bool
matches terms counts =
    fold (λ truth term. joined term.operator truth (nat_lt 0 (count_of_term counts term)))
    true terms

abbrev pub is_not : Operator → Bool
is_not Not = true
is_not operator = false

-- the terms without `not`
unfoldable pub wanted : List TermData → List TermData
wanted terms = filter (λ term. not (is_not term.operator)) terms

-- the score of a page with these counts; a word of two terms counts twice
unfoldable pub score : List TermData → List (List ℕ × ℕ) → ℕ
score terms counts = sum_by (count_of_term counts) (wanted terms)

-- reading a query fails because it has no words, returns its terms, or is out of memory
abbrev pub ReadsQuery : List TermData → Result (List TermData) QueryFault → Type 0
ReadsQuery [] result = result ≡ Err NoWords
ReadsQuery (term ∷ terms) (Ok query) = query ≡ term ∷ terms
ReadsQuery (term ∷ terms) (Err fault) = fault ≡ NoMemory

-- there is a first term, joined by `and`
abbrev pub BeginsWithAnd : List TermData → Type 0
BeginsWithAnd [] = ⊥
BeginsWithAnd (term ∷ terms) = term.operator ≡ And

-- the terms of a query: 1 to 1,024, the first joined by `and`
pub record IsQuery (terms : List TermData) : Type 0 where
  pub first : BeginsWithAnd terms
  pub few : length terms ≤ MAX_LINE

abbrev pub query_fault_code : QueryFault → ℕ
query_fault_code NoWords = 40
query_fault_code NoMemory = 90

-- the page contains a word that a term without `not` matches
abbrev pub HasWanted : List TermData → List (List ℕ × ℕ) → Type 0
HasWanted terms counts =
    IsTrue (list_any (λ term. nat_lt 0 (count_of_term counts term)) (wanted terms))
