-- Words with their counts, and numbers in two parts.
use Rattle.std.specs.Prelude.{ℕ, ◌≡◌, ◌+◌, ◌*◌, ◌<◌, ◌≤◌, ◌==◌, ◌&&◌, List, [], ◌∷◌, length, map, nat_lt, if◌then◌else◌}
use Rattle.std.specs.List.{sum_by, zip, AllByRecursion}
use Rattle.gopher_page.specs.Counts.{AreInOrder}
use Rattle.gopher_text.specs.declared.reply_reader.TheConstants.{MAX_REPLY}

-- the numbers of these remainders and quotients by a base; quotients of 0 at the end can be left
-- out
abbrev pub joined_parts : ℕ → List ℕ → List ℕ → List ℕ
joined_parts base lows [] = lows
joined_parts base [] (high ∷ highs) = []
joined_parts base (low ∷ lows) (high ∷ highs) = (low + base * high) ∷ joined_parts base lows highs

-- how many numbers there are up to the last one of `base` or more; none if all are below it
abbrev pub len_to_last : ℕ → List ℕ → ℕ
len_to_last base [] = 0
len_to_last base (number ∷ numbers) =
    if nat_lt number base && (len_to_last base numbers == 0) then 0
    else len_to_last base numbers + 1

-- all quotients are there up to the last one that isn't 0, and no more
abbrev pub AreParts : ℕ → List ℕ → List ℕ → Type 0
AreParts base lows highs = length highs ≡ len_to_last base (joined_parts base lows highs)

-- distinct words in byte order, each counted at least once, and at most `MAX_REPLY` times in all
pub record AreCounts (counts : List (List ℕ × ℕ)) : Type 0 where
  pub ordered : AreInOrder (map (λ entry. entry.0) counts)
  pub positive : AllByRecursion (λ entry. 0 < entry.1) counts
  pub few : sum_by (λ entry. entry.1) counts ≤ MAX_REPLY

-- words side by side with their counts
pub record AreCounted (words : List (List ℕ)) (counts : List ℕ) : Type 0 where
  pub same : length counts ≡ length words
  pub sound : AreCounts (zip words counts)
