-- Cutting bytes at the first occurrence of a byte, and the lines of bytes.
use Rattle.std.proofs.Common.{◌≡◌, ℕ, suc, ◌+◌, ◌-◌, ◌<◌, ◌≤◌, Bool, true, false, eqb, cond, List, [], ◌∷◌, ◌++◌, add-one, one-add, append_assoc, length, get_or, take, drop, Option, None, Some, is_some, refl, sym, ap, subst, ◌∙◌, arith}
use Rattle.std.specs.List.{All, list_any, slice_split}
use Rattle.std.proofs.lemmas.Bool.{eqb-true, false_from_ne_true}
use Rattle.std.proofs.lemmas.List.{append-nil, get_or-take, get_or_default, length-drop, length-take, take_all}
use Rattle.std.proofs.Math.Seq.{split_at}
use Rattle.std.proofs.lemmas.List.Folds.{list_any_at, list_any_none}
use Rattle.std.specs.Io.BufRead.{drop_through}
use Rattle.std.specs.Str.Lines.{lines_of_parts, strip_carriage_return}
use Rattle.std.proofs.lemmas.List.Splits.{length-slice_split, slice_split_at, slice_split_none}
use Rattle.memchr.specs.Find.{Nowhere, Passes, IsFirstByte, is_byte}
use Rattle.gopher_bytes.specs.Lines.{IsAround, any_last_line, is_last_line, lines_before_last, lines_of}

-- the test of a byte by which `memchr` searches
abbrev is_cut : ℕ → ℕ → Bool
is_cut c b = eqb b c

-- if no byte before k passes a test, none of the first k does
none_before : (test : ℕ → Bool) (bs : List ℕ) (k : ℕ) → k ≤ length bs → Nowhere (Passes test bs) 0 k → All (λ b. test b ≡ false) (take k bs)
none_before test bs k within none j d low =
    let less : j < k = omega (arith, length-take k bs) in
    let same : get_or (take k bs) j d ≡ get_or bs j 0 = get_or-take k bs j d less ∙ get_or_default bs j d 0 (omega arith) in
    false_from_ne_true (test (get_or (take k bs) j d)) (λ passes. none j (omega arith) less (ap test (sym same) ∙ passes))

none_of : (test : ℕ → Bool) (bs : List ℕ) → Nowhere (Passes test bs) 0 (length bs) → All (λ b. test b ≡ false) bs
none_of test bs none = subst (All (λ b. test b ≡ false)) (take_all (length bs) bs (omega arith)) (none_before test bs (length bs) (omega arith) none)

pub list_any_before : (test : ℕ → Bool) (bs : List ℕ) (k : ℕ) → k ≤ length bs → Nowhere (Passes test bs) 0 k → list_any test (take k bs) ≡ false
list_any_before test bs k within none = list_any_none test (take k bs) (none_before test bs k within none)

pub list_any_nowhere : (test : ℕ → Bool) (bs : List ℕ) → Nowhere (Passes test bs) 0 (length bs) → list_any test bs ≡ false
list_any_nowhere test bs none = list_any_none test bs (none_of test bs none)

-- a search finds a byte exactly if one passes its test
pub list_any_found : (test : ℕ → Bool) (bs : List ℕ) (found : Option ℕ) → IsFirstByte test bs found → list_any test bs ≡ is_some found
list_any_found test bs None none = list_any_nowhere test bs none
list_any_found test bs (Some k) first = list_any_at test bs k 0 first.0.high first.1

-- bytes are cut at their first `c`
pub slice_split_at_first : (c : ℕ) (bs : List ℕ) (k : ℕ) → k < length bs → Nowhere (Passes (is_byte c) bs) 0 k → eqb (get_or bs k 0) c ≡ true
    → slice_split (is_cut c) bs ≡ take k bs ∷ slice_split (is_cut c) (drop (suc k) bs)
slice_split_at_first c bs k within none here =
    ap (slice_split (is_cut c)) (split_at bs k 0 within)
    ∙ slice_split_at (is_cut c) (take k bs) (get_or bs k 0) (drop (suc k) bs) (none_before (is_cut c) bs k (omega arith) none) here

-- bytes without `c` are one part
pub slice_split_nowhere : (c : ℕ) (bs : List ℕ) → Nowhere (Passes (is_byte c) bs) 0 (length bs) → slice_split (is_cut c) bs ≡ bs ∷ []
slice_split_nowhere c bs none = slice_split_none (is_cut c) bs (none_of (is_cut c) bs none)

-- the bytes after the first `c`
drop_through-append : (c : ℕ) (front bs : List ℕ) → All (λ b. is_cut c b ≡ false) front → drop_through c (front ++ bs) ≡ drop_through c bs
drop_through-append c [] bs none = refl
drop_through-append c (b ∷ front) bs none =
    ap (λ t. cond t (front ++ bs) (drop_through c (front ++ bs))) (none 0 b (omega arith))
    ∙ drop_through-append c front bs (λ k d low. none (suc k) d (omega arith))

pub drop_through_at_first : (c : ℕ) (bs : List ℕ) (k : ℕ) → k < length bs → Nowhere (Passes (is_byte c) bs) 0 k → eqb (get_or bs k 0) c ≡ true
    → drop_through c bs ≡ drop (suc k) bs
drop_through_at_first c bs k within none here =
    ap (drop_through c) (split_at bs k 0 within)
    ∙ drop_through-append c (take k bs) (get_or bs k 0 ∷ drop (suc k) bs) (none_before (is_cut c) bs k (omega arith) none)
    ∙ ap (λ t. cond t (drop (suc k) bs) (drop_through c (drop (suc k) bs))) here

pub drop_through_nowhere : (c : ℕ) (bs : List ℕ) → Nowhere (Passes (is_byte c) bs) 0 (length bs) → drop_through c bs ≡ []
drop_through_nowhere c bs none = ap (drop_through c) (sym (append-nil bs)) ∙ drop_through-append c bs [] (none_of (is_cut c) bs none)

-- a split has at least one part
pub some_part : {X : Type 0} (p : X → Bool) (xs : List X) → (first : List X) × (more : List (List X)) × (slice_split p xs ≡ first ∷ more)
some_part {X} p xs = by (slice_split p xs) (omega (arith, length-slice_split p xs))
  where
    by : (parts : List (List X)) → 0 < length parts → (first : List X) × (more : List (List X)) × (parts ≡ first ∷ more)
    by [] some = absurd (omega arith)
    by (part ∷ parts) some = (part, parts, refl)

-- the line before the first LF, and the lines after it
pub lines_of_cut : (bs line rest : List ℕ) → slice_split (is_cut 10) bs ≡ line ∷ slice_split (is_cut 10) rest → lines_of bs ≡ strip_carriage_return line ∷ lines_of rest
lines_of_cut bs line rest e =
    let s = some_part (is_cut 10) rest in
    let whole : slice_split (is_cut 10) bs ≡ line ∷ s.0 ∷ s.1 = e ∙ ap (λ (l : List (List ℕ)). line ∷ l) s.2 in
    ap lines_of_parts whole ∙ ap (λ (l : List (List ℕ)). strip_carriage_return line ∷ lines_of_parts l) (sym s.2)

-- the bytes after a cut, as the code slices them
pub after_cut : (bytes : List ℕ) (end : ℕ) → take (length bytes - (end + 1)) (drop (end + 1) bytes) ≡ drop (suc end) bytes
after_cut bytes end = take_all _ _ (omega (arith, length-drop (end + 1) bytes)) ∙ ap (λ k. drop k bytes) (add-one end)

-- the bytes before a `c`, the `c`, and the bytes after it are all bytes
pub cut_whole : (c : ℕ) (bytes : List ℕ) (end : ℕ) → end < length bytes → eqb (get_or bytes end 0) c ≡ true
    → bytes ≡ take end bytes ++ c ∷ take (length bytes - (end + 1)) (drop (end + 1) bytes)
cut_whole c bytes end within here =
    split_at bytes end 0 within
    ∙ ap (λ b. take end bytes ++ b ∷ drop (suc end) bytes) (eqb-true _ _ here)
    ∙ ap (λ tail. take end bytes ++ c ∷ tail) (sym (after_cut bytes end))

-- a line without its CR and the bytes after its LF don't overlap
pub around_feed : (bytes line front rest : List ℕ) → bytes ≡ line ++ 10 ∷ rest → IsAround line front [] → IsAround bytes front rest
around_feed bytes line front rest whole stripped = (
  stripped.0 ++ 10 ∷ [],
  whole
      ∙ ap (λ l. l ++ 10 ∷ rest) (stripped.1 ∙ ap (λ l. front ++ l) (append-nil stripped.0))
      ∙ append_assoc front stripped.0 (10 ∷ rest)
      ∙ ap (λ l. front ++ l) (sym (append_assoc stripped.0 (10 ∷ []) rest)),
)

-- a line that isn't the last line stays
pub lines_before_last-line : (line : List ℕ) (lines : List (List ℕ)) → is_last_line line ≡ false → lines_before_last (line ∷ lines) ≡ line ∷ lines_before_last lines
lines_before_last-line line lines other = rw other (ap (λ n. take n (line ∷ lines)) (one-add _))

pub any_last_line-line : (line : List ℕ) (lines : List (List ℕ)) → is_last_line line ≡ false → any_last_line (line ∷ lines) ≡ any_last_line lines
any_last_line-line line lines other = rw other refl
