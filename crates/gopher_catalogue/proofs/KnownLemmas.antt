-- Lists of entries and of places, as `KnownPlaces` keeps them.
use Rattle.std.proofs.Common.{◌≡◌, ℕ, suc, zero, Bool, true, false, ◌||◌, List, [], ◌∷◌, ◌++◌, map, take, length, replicate, arith, inl, inr, ◌+◌, ◌-◌, ◌<◌, ◌≤◌, cond, drop, filter, get_or, add-one, Option, None, Some, is_some, set, refl, ap, sym, ◌∙◌, true≢false}
use Rattle.std.specs.List.{list_any, range_with_len}
use Rattle.gopher_catalogue.proofs.Ranges.{range-append}
use Rattle.std.specs.Map.{keys_of, values_of, lookup}
use Rattle.std.proofs.lemmas.List.{map-append, take-map, append_assoc, length-append, replicate-append-replicate}
use Rattle.std.proofs.lemmas.Map.Made.{is_some-lookup}
use Rattle.std.proofs.lemmas.Bool.{cases_Bool, cases_lt, lt-leb, le-leb}
use Rattle.std.proofs.Math.Seq.{drop-cons}
use Rattle.gopher_item.specs.Place.{PlaceData, is_among}
use Rattle.gopher_item.specs.Scope.{ScopeData, allows}
use Rattle.gopher_catalogue.specs.Tables.{KnownData, Extends, unclaimed, after_mention, after_mentions, drops, is_dropped}
use Rattle.indexmap.specs.IndexMap.{IndexMap, get, insert_entry, set_value_at}
use Rattle.indexmap.proofs.CallerLemmas.{insert_entry-new}

-- a test of the images of elements
pub list_any-map : {X Y : Type 0} (show : X → Y) (test : Y → Bool) (xs : List X) → list_any (λ x. test (show x)) xs ≡ list_any test (map show xs)
list_any-map show test [] = refl
list_any-map show test (x ∷ xs) = ap (λ rest. test (show x) || rest) (list_any-map show test xs)

-- a look-up finds a key exactly if the list of the keys' images contains its image
pub lookup-shown : {K X Y : Type 0} (show : K → Y) (test : Y → Bool) (es : List (K × X)) (ys : List Y) → map show (keys_of es) ≡ ys → is_some (lookup (λ k. test (show k)) es) ≡ list_any test ys
lookup-shown show test es ys h = is_some-lookup (λ k. test (show k)) es ∙ list_any-map show test (keys_of es) ∙ ap (list_any test) h

none-from-is_some : {X : Type 0} (o : Option X) → is_some o ≡ false → o ≡ None
none-from-is_some None h = refl
none-from-is_some (Some x) h = absurd (true≢false h)

-- writing by index changes one of the values
pub values_set_value_at : {K X : Type 0} (es : List (K × X)) (i : ℕ) (w : X) → values_of (set_value_at es i w) ≡ set (values_of es) i w
values_set_value_at [] i w = refl
values_set_value_at (e ∷ es) zero w = refl
values_set_value_at (e ∷ es) (suc i) w = ap (λ l. e.1 ∷ l) (values_set_value_at es i w)

-- keys whose images are a list still match it after both are truncated
pub shown-take : {K X Y : Type 0} (show : K → Y) (n : ℕ) (es es' : List (K × X)) (ks ks' : List K) → es' ≡ take n es → ks' ≡ take n ks → map show (keys_of es) ≡ map show ks → map show (keys_of es') ≡ map show ks'
shown-take show n es es' ks ks' cut_entries cut_keys h =
    ap (λ l. map show (keys_of l)) cut_entries ∙ ap (map show) (sym (take-map (λ e. e.0) n es)) ∙ sym (take-map show n (keys_of es)) ∙ ap (take n) h ∙ take-map show n ks ∙ ap (map show) (sym cut_keys)

-- keys whose images are a list still match it after both get one more with the same image
pub shown-push : {K X Y : Type 0} (show : K → Y) (es es' : List (K × X)) (ks ks' : List K) (k l : K) (w : X) → es' ≡ es ++ (k, w) ∷ [] → ks' ≡ ks ++ l ∷ [] → show k ≡ show l → map show (keys_of es) ≡ map show ks → map show (keys_of es') ≡ map show ks'
shown-push show es es' ks ks' k l w more_entries more_keys same h =
    ap (λ l. map show (keys_of l)) more_entries ∙ ap (map show) (map-append (λ e. e.0) es ((k, w) ∷ [])) ∙ map-append show (keys_of es) (k ∷ [])
    ∙ ap (λ l. l ++ show k ∷ []) h ∙ ap (λ s. map show ks ++ s ∷ []) same ∙ sym (map-append show ks (l ∷ [])) ∙ ap (map show) (sym more_keys)

-- a key with a new image is inserted last
pub insert-unshown : {K X Y S : Type 0} (show : K → Y) (eq : Y → Y → Bool) (m : IndexMap K X S) (ys : List Y) (k : K) (w : X) → map show (keys_of m.entries) ≡ ys → list_any (eq (show k)) ys ≡ false
    → insert_entry (λ a b. eq (show a) (show b)) m.entries k w ≡ m.entries ++ (k, w) ∷ []
insert-unshown show eq m ys k w h absent =
    insert_entry-new (λ a b. eq (show a) (show b)) m k w (none-from-is_some (get (λ a b. eq (show a) (show b)) m k) (lookup-shown show (eq (show k)) m.entries ys h ∙ absent))

-- ---- more known places

pub Extends-trans : (a b c : KnownData) → Extends a b → Extends b c → Extends a c
Extends-trans a b c h k =
    record {
      more = h.more ++ k.more;
      places = k.places ∙ ap (λ l. l ++ k.more) h.places ∙ append_assoc a.places h.more k.more;
      standings =
          k.standings ∙ ap (λ l. l ++ replicate (length k.more) unclaimed) h.standings ∙ append_assoc a.standings (replicate (length h.more) unclaimed) (replicate (length k.more) unclaimed)
          ∙ ap (λ l. a.standings ++ l) (replicate-append-replicate (length h.more) (length k.more) unclaimed ∙ ap (λ n. replicate n unclaimed) (sym (length-append h.more k.more)));
    }

-- ---- no more than the limit

length-after_mention : (limit : ℕ) (places : List PlaceData) (place : PlaceData) → length places ≤ limit → length (after_mention limit places place) ≤ limit
length-after_mention limit places place h =
    elim (cases_Bool (is_among places place)) as (λ b. length (after_mention limit places place) ≤ limit) [
      | inl known ↦ rw known h
      | inr new ↦
          elim (cases_lt (length places) limit) as (λ b. length (after_mention limit places place) ≤ limit) [
            | inl room ↦ rw (new, lt-leb limit (length places) room) (omega (arith, length-append places (place ∷ [])))
            | inr full ↦ rw (new, le-leb limit (length places) full) h
          ]
    ]

pub length-after_mentions : (limit : ℕ) (places mentions : List PlaceData) → length places ≤ limit → length (after_mentions limit places mentions) ≤ limit
length-after_mentions limit places [] h = h
length-after_mentions limit places (mention ∷ mentions) h = length-after_mentions limit (after_mention limit places mention) mentions (length-after_mention limit places mention h)

-- ---- mention by mention

pub few-dropped : (dropped : Bool) (n : ℕ) → n ≡ cond dropped 1 0 + 0 → n ≤ 1
few-dropped true n e = omega (arith, e)
few-dropped false n e = omega (arith, e)

pub drop-next : (places : List PlaceData) (i : ℕ) (place : PlaceData) → i < length places → place ≡ get_or places i place → drop i places ≡ place ∷ drop (i + 1) places
drop-next places i place within is = rw (add-one, drop-cons places i place within, ← is) refl

-- the links after one that the scope allows, and after one that it doesn't
pub allowed-next : (scope : ScopeData) (rest later : List PlaceData) (link : PlaceData) → rest ≡ link ∷ later → allows scope link ≡ true → filter (allows scope) rest ≡ link ∷ filter (allows scope) later
allowed-next scope rest later link is yes' = ap (filter (allows scope)) is ∙ rw yes' refl

pub allowed-skip : (scope : ScopeData) (rest later : List PlaceData) (link : PlaceData) → rest ≡ link ∷ later → allows scope link ≡ false → filter (allows scope) rest ≡ filter (allows scope) later
allowed-skip scope rest later link is no' = ap (filter (allows scope)) is ∙ rw no' refl

module _ (limit : ℕ) (rest later : List PlaceData) (place : PlaceData) (is : rest ≡ place ∷ later) (places next : List PlaceData) (e : next ≡ after_mention limit places place) where
  pub after_mentions-next : (all : List PlaceData) → after_mentions limit places rest ≡ all → after_mentions limit next later ≡ all
  after_mentions-next all h = ap (λ p. after_mentions limit p later) e ∙ ap (after_mentions limit places) (sym is) ∙ h

  pub drops-next : (before taken all : ℕ) → taken ≡ cond (is_dropped limit places place) 1 0 + 0 → before + drops limit places rest ≡ all → before + taken + drops limit next later ≡ all
  drops-next before taken all t h =
      let here = ap (λ p. drops limit p later) e in
      let one = ap (drops limit places) is in
      omega (arith, here, one, t)

-- ---- ranges

pub range-next : (first number : ℕ) → first ≤ number → range_with_len first (number - first) ++ number ∷ [] ≡ range_with_len first (number + 1 - first)
range-next first number h =
    let one : number + 1 - first ≡ number - first + 1 = omega arith in
    let at : first + (number - first) ≡ number = omega arith in
    sym (ap (λ n. range_with_len first n) one ∙ range-append first (number - first) 1 ∙ ap (λ n. range_with_len first (number - first) ++ n ∷ []) at)
