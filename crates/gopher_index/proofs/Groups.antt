-- Terms of a query in groups of equal ones.
use Rattle.std.proofs.Common.{◌≡◌, ℕ, zero, suc, ◌+◌, ◌*◌, ◌%◌, ◌≤◌, ◌<◌, Bool, true, false, cond, List, [], ◌∷◌, ◌++◌, length, max, take, get_or, set, refl, sym, ap, subst, ◌∙◌, arith, length-append, mul-le-mul_left}
use Rattle.std.specs.Prelude.{◌==◌, nat_lt}
use Rattle.std.proofs.lemmas.List.{get_or_default, take_more}
use Rattle.gopher_page.specs.Counts.{count_meant}
use Rattle.gopher_page.specs.Query.{TermData, count_of_term, is_not, joined}
use Rattle.gopher_page.specs.declared.query.Operator.{Operator}
use Rattle.gopher_page.specs.declared.query.Operator.TheVariants.{And, Or, Not}
use Rattle.gopher_page.proofs.OneMoreTerm.{matches_one_more, score_one_more, score_of_none, all_match}
use Rattle.gopher_index.specs.Plan.{verdict_of, is_match, wanted_once, verdict_by, verdict, total, wanted_in, AreTermGroups, Joins, IsGroupOf, SayAlike, AddsTerm}
use Rattle.gopher_index.specs.declared.plan.Group.{Group}

-- ---- the highest verdict decides

match_even : (n : ℕ) → is_match (2 * n + 2) ≡ false
match_even n = let even : (2 * n + 2) % 2 ≡ 0 = omega arith in ap (λ m. m == 1) even

match_odd : (n : ℕ) → is_match (2 * n + 3) ≡ true
match_odd n = let odd : (2 * n + 3) % 2 ≡ 1 = omega arith in ap (λ m. m == 1) odd

module _ (number last : ℕ) (before : last ≤ 2 * number + 1) where
  open_left : is_match last ≡ is_match (max last 0)
  open_left = let kept : last ≡ max last 0 = omega arith in ap is_match kept

  no_match : is_match (max last (2 * number + 2)) ≡ false
  no_match = let later : max last (2 * number + 2) ≡ 2 * number + 2 = omega arith in ap is_match later ∙ match_even number

  is_now : is_match (max last (2 * number + 3)) ≡ true
  is_now = let later : max last (2 * number + 3) ≡ 2 * number + 3 = omega arith in ap is_match later ∙ match_odd number

  decides : (operator : Operator) (truth holds : Bool) → is_match last ≡ truth → joined operator truth holds ≡ is_match (max last (verdict_of operator number holds))
  decides And true true is = sym is ∙ open_left
  decides And false true is = sym is ∙ open_left
  decides And true false is = sym no_match
  decides And false false is = sym no_match
  decides Or true true is = sym is_now
  decides Or false true is = sym is_now
  decides Or true false is = sym is ∙ open_left
  decides Or false false is = sym is ∙ open_left
  decides Not true true is = sym no_match
  decides Not false true is = sym no_match
  decides Not true false is = sym is ∙ open_left
  decides Not false false is = sym is ∙ open_left

verdict_below : (operator : Operator) (number : ℕ) (holds : Bool) → verdict_of operator number holds ≤ 2 * number + 3
verdict_below And number true = omega arith
verdict_below And number false = omega arith
verdict_below Or number true = omega arith
verdict_below Or number false = omega arith
verdict_below Not number true = omega arith
verdict_below Not number false = omega arith

wanted_at_most : (operator : Operator) → wanted_once operator ≤ 1
wanted_at_most And = omega arith
wanted_at_most Or = omega arith
wanted_at_most Not = omega arith

once_times : (operator : Operator) (count : ℕ) → wanted_once operator * count ≡ cond (is_not operator) 0 count
once_times And count = grind arith
once_times Or count = grind arith
once_times Not count = grind arith

-- ---- one term more

pub no_groups : AreTermGroups [] []
no_groups = record {
  matching = λ counts. all_match counts;
  scoring = λ counts. score_of_none counts;
  highest = λ counts. omega arith;
  few = omega arith;
}

pub one_term_more : (terms : List TermData) (term : TermData) (number : ℕ) (old new : List Group) → number ≡ length terms → AreTermGroups terms old → AddsTerm term number old new → AreTermGroups (terms ++ term ∷ []) new
one_term_more terms term number old new is groups adds =
    let long : length (terms ++ term ∷ []) ≡ length terms + 1 = omega (arith, length-append terms (term ∷ [])) in
    record {
      matching = λ counts.
          matches_one_more counts terms term
          ∙ ap (λ truth. joined term.operator truth (nat_lt 0 (count_of_term counts term))) (groups.matching counts)
          ∙ decides number (verdict old counts) (omega (arith, groups.highest counts, is)) term.operator (is_match (verdict old counts)) (nat_lt 0 (count_of_term counts term)) refl
          ∙ ap is_match (sym (adds.verdicts counts));
      scoring = λ counts.
          score_one_more counts terms term
          ∙ ap (λ n. n + cond (is_not term.operator) 0 (count_of_term counts term)) (groups.scoring counts)
          ∙ ap (λ n. total old counts + n) (sym (once_times term.operator (count_of_term counts term)))
          ∙ sym (adds.totals counts);
      highest = λ counts. omega (arith, adds.verdicts counts, groups.highest counts, verdict_below term.operator number (nat_lt 0 (count_of_term counts term)), is, long);
      few = omega (arith, adds.wanted, groups.few, wanted_at_most term.operator, long);
    }

-- ---- one group more

pub verdict_push : (groups : List Group) (group : Group) (counts : List (List ℕ × ℕ)) → verdict (groups ++ group ∷ []) counts ≡ max (verdict groups counts) (verdict_by group (count_of_term counts group.term))
verdict_push [] group counts = omega arith
verdict_push (g ∷ groups) group counts = omega (arith, verdict_push groups group counts)

pub total_push : (groups : List Group) (group : Group) (counts : List (List ℕ × ℕ)) → total (groups ++ group ∷ []) counts ≡ total groups counts + group.wanted * count_of_term counts group.term
total_push [] group counts = omega arith
total_push (g ∷ groups) group counts = omega (arith, total_push groups group counts)

pub wanted_push : (groups : List Group) (group : Group) → wanted_in (groups ++ group ∷ []) ≡ wanted_in groups + group.wanted
wanted_push [] group = omega arith
wanted_push (g ∷ groups) group = omega (arith, wanted_push groups group)

-- ---- what the first groups say, and the next

pub next_group : (groups : List Group) (index : ℕ) (group : Group) → index < length groups → group ≡ get_or groups index group → take (index + 1) groups ≡ take index groups ++ group ∷ []
next_group groups index group within is = take_more groups index group within ∙ ap (λ g. take index groups ++ g ∷ []) (sym is)

module _ (groups : List Group) (index : ℕ) (group : Group) (within : index < length groups) (is : group ≡ get_or groups index group) where
  pub next_wanted : wanted_in (take (index + 1) groups) ≡ wanted_in (take index groups) + group.wanted
  next_wanted = ap wanted_in (next_group groups index group within is) ∙ wanted_push (take index groups) group

-- a group of no terms says nothing
pub say_alike_push : (groups : List Group) (group : Group) → group.wanted ≡ 0 → group.holds ≡ 0 → group.fails ≡ 0 → SayAlike groups (groups ++ group ∷ [])
say_alike_push groups group none holds fails = record {
  verdicts = λ counts. omega (arith, verdict_push groups group counts, nothing (nat_lt 0 (count_of_term counts group.term)));
  totals = λ counts. total_push groups group counts ∙ ap (λ n. total groups counts + n * count_of_term counts group.term) none ∙ plain (total groups counts) (count_of_term counts group.term);
  wanted = omega (arith, wanted_push groups group, none);
}
  where
    nothing : (b : Bool) → cond b group.holds group.fails ≡ 0
    nothing true = holds
    nothing false = fails

    plain : (n c : ℕ) → n + 0 * c ≡ n
    plain n c = grind arith

-- ---- the group of a term takes it in

joined_verdict : (term : TermData) (number : ℕ) (old new : Group) → Joins term number old new → (holds : Bool) → cond holds new.holds new.fails ≡ max (cond holds old.holds old.fails) (verdict_of term.operator number holds)
joined_verdict term number old new joins true = joins.holds
joined_verdict term number old new joins false = joins.fails

pub wanted_of : (groups : List Group) (index : ℕ) (d : Group) → index < length groups → (get_or groups index d).wanted ≤ wanted_in groups
wanted_of [] index d within = absurd (omega (arith, within))
wanted_of (g ∷ groups) zero d within = omega arith
wanted_of (g ∷ groups) (suc index) d within = omega (arith, wanted_of groups index d (omega (arith, within)))

pub wanted_at : (groups : List Group) (index : ℕ) (group : Group) → index < length groups → group ≡ get_or groups index group → group.wanted ≤ wanted_in groups
wanted_at groups index group within is = omega (arith, wanted_of groups index group within, ap (λ (g : Group). g.wanted) is)

module _ (term : TermData) (number : ℕ) (new : Group) where
  pub set_verdict : (groups : List Group) (index : ℕ) (old : Group) (counts : List (List ℕ × ℕ)) → index < length groups → old ≡ get_or groups index old → count_of_term counts old.term ≡ count_of_term counts term → Joins term number old new
      → verdict (set groups index new) counts ≡ max (verdict groups counts) (verdict_of term.operator number (nat_lt 0 (count_of_term counts term)))
  set_verdict [] index old counts within at means joins = absurd (omega (arith, within))
  set_verdict (g ∷ groups) zero old counts within at means joins =
      let holds : Bool = nat_lt 0 (count_of_term counts term) in
      let here : verdict_by new (count_of_term counts new.term) ≡ max (verdict_by g (count_of_term counts g.term)) (verdict_of term.operator number holds) =
      (λ i. cond (nat_lt 0 (count_of_term counts (joins.same i))) new.holds new.fails)
      ∙ (λ i. cond (nat_lt 0 (means i)) new.holds new.fails)
      ∙ joined_verdict term number old new joins holds
      ∙ (λ i. max (cond (nat_lt 0 (sym means i)) old.holds old.fails) (verdict_of term.operator number holds))
      ∙ (λ i. max (verdict_by (at i) (count_of_term counts (at i).term)) (verdict_of term.operator number holds)) in
      omega (arith, here)
  set_verdict (g ∷ groups) (suc index) old counts within at means joins = omega (arith, set_verdict groups index old counts (omega (arith, within)) at means joins)

  pub set_total : (groups : List Group) (index : ℕ) (old : Group) (counts : List (List ℕ × ℕ)) → index < length groups → old ≡ get_or groups index old → count_of_term counts old.term ≡ count_of_term counts term → Joins term number old new
      → total (set groups index new) counts ≡ total groups counts + wanted_once term.operator * count_of_term counts term
  set_total [] index old counts within at means joins = absurd (omega (arith, within))
  set_total (g ∷ groups) zero old counts within at means joins =
      let here : new.wanted * count_of_term counts new.term ≡ g.wanted * count_of_term counts g.term + wanted_once term.operator * count_of_term counts term =
      (λ i. joins.wanted i * count_of_term counts (joins.same i))
      ∙ apart old.wanted (wanted_once term.operator) (count_of_term counts old.term)
      ∙ (λ i. (at i).wanted * count_of_term counts (at i).term + wanted_once term.operator * means i) in
      omega (arith, here)
    where
      apart : (a b c : ℕ) → (a + b) * c ≡ a * c + b * c
      apart a b c = grind arith
  set_total (g ∷ groups) (suc index) old counts within at means joins = omega (arith, set_total groups index old counts (omega (arith, within)) at means joins)

  pub set_wanted : (groups : List Group) (index : ℕ) (old : Group) → index < length groups → old ≡ get_or groups index old → Joins term number old new → wanted_in (set groups index new) ≡ wanted_in groups + wanted_once term.operator
  set_wanted [] index old within at joins = absurd (omega (arith, within))
  set_wanted (g ∷ groups) zero old within at joins = omega (arith, joins.wanted, ap (λ (o : Group). o.wanted) at)
  set_wanted (g ∷ groups) (suc index) old within at joins = omega (arith, set_wanted groups index old (omega (arith, within)) at joins)

-- terms of one word, or one prefix, count alike
means_same : (a b : TermData) (counts : List (List ℕ × ℕ)) → a.word ≡ b.word → a.is_prefix ≡ b.is_prefix → count_of_term counts a ≡ count_of_term counts b
unfolding count_of_term
means_same a b counts word prefix = λ i. count_meant (prefix i) (word i) counts

pub adds_term : (term : TermData) (number index : ℕ) (old found new : List Group) (here : Group) → SayAlike old found → IsGroupOf term found index → (read : Group) → read ≡ get_or found index read → Joins term number read here → new ≡ set found index here → AddsTerm term number old new
adds_term term number index old found new here alike group read at joins is =
    let same : (counts : List (List ℕ × ℕ)) → count_of_term counts group.group.term ≡ count_of_term counts term = λ counts. means_same group.group.term term counts group.word group.prefix in
    let joined : Joins term number group.group here = subst (λ g. Joins term number g here) (at ∙ get_or_default found index read group.group group.within ∙ sym group.at) joins in
    record {
      verdicts = λ counts. ap (λ l. verdict l counts) is ∙ set_verdict term number here found index group.group counts group.within group.at (same counts) joined ∙ ap (λ n. max n (verdict_of term.operator number (nat_lt 0 (count_of_term counts term)))) (alike.verdicts counts);
      totals = λ counts. ap (λ l. total l counts) is ∙ set_total term number here found index group.group counts group.within group.at (same counts) joined ∙ ap (λ n. n + wanted_once term.operator * count_of_term counts term) (alike.totals counts);
      wanted = ap wanted_in is ∙ set_wanted term number here found index group.group group.within group.at joined ∙ ap (λ n. n + wanted_once term.operator) alike.wanted;
    }

-- the first groups want no more than all
pub wanted_first : (groups : List Group) (n : ℕ) → wanted_in (take n groups) ≤ wanted_in groups
wanted_first groups zero = omega arith
wanted_first [] (suc n) = omega arith
wanted_first (g ∷ groups) (suc n) = omega (arith, wanted_first groups n)

pub times_few : (times count bound : ℕ) → count ≤ bound → times * count ≤ bound * times
times_few times count bound few = omega (arith, mul-le-mul_left times few, swapped times bound)
  where
    swapped : (a b : ℕ) → a * b ≡ b * a
    swapped a b = grind arith
