-- Parts one after another, and one in the place of some of them.
use Rattle.std.proofs.Common.{◌≡◌, ℕ, zero, suc, ◌+◌, ◌<◌, List, [], ◌∷◌, ◌++◌, ◌-◌, Some, length, take, drop, get_or, slice_get, refl, sym, ap, subst, ◌∙◌, append_assoc, arith}
use Rattle.std.proofs.lemmas.List.{length-append, take-append-drop, take_all}
use Rattle.std.proofs.lemmas.Option.{slice_get_within, get_or_from_slice_get}
use Rattle.std.proofs.Math.Seq.{take-append_seam, drop-append_seam}
use Rattle.gopher_page.specs.Page.{PageData}
use Rattle.gopher_segment.specs.Segment.{SegmentData, pages_of}
use Rattle.gopher_segment.specs.SegmentRows.{AreConsecutive}
use Rattle.gopher_index.specs.Index.{IsBorder, IsIndex, IsIndexRun, run_data, IsSliceOf}
use Rattle.gopher_index.proofs.Segments.{pages_end, pages_of-append}

pub consecutive_append : (first : ℕ) (a b : List SegmentData) → AreConsecutive first a → AreConsecutive (first + length (pages_of a)) b → AreConsecutive first (a ++ b)
consecutive_append first [] b front back =
    let same : first + 0 ≡ first = omega arith in
    subst (λ n. AreConsecutive n b) same back
consecutive_append first (segment ∷ a) b front back =
    let same : first + length (segment.pages ++ pages_of a) ≡ first + length segment.pages + length (pages_of a) = omega (arith, length-append segment.pages (pages_of a)) in
    (front.0, consecutive_append (first + length segment.pages) a b front.1 (subst (λ n. AreConsecutive n b) same back))

pub consecutive_rest : (first : ℕ) (a b : List SegmentData) → AreConsecutive first (a ++ b) → AreConsecutive (first + length (pages_of a)) b
consecutive_rest first [] b all =
    let same : first ≡ first + 0 = omega arith in
    subst (λ n. AreConsecutive n b) same all
consecutive_rest first (segment ∷ a) b all =
    let same : first + length segment.pages + length (pages_of a) ≡ first + length (segment.pages ++ pages_of a) = omega (arith, length-append segment.pages (pages_of a)) in
    subst (λ n. AreConsecutive n b) same (consecutive_rest (first + length segment.pages) a b all.1)

pub consecutive_front : (first : ℕ) (a b : List SegmentData) → AreConsecutive first (a ++ b) → AreConsecutive first a
consecutive_front first [] b all = tt
consecutive_front first (segment ∷ a) b all = (all.0, consecutive_front (first + length segment.pages) a b all.1)

-- where a list is cut at the same length in two ways, both parts are the same
pub cut_same : {X : Type 0} (a b c d : List X) → a ++ b ≡ c ++ d → length a ≡ length c → (a ≡ c) × (b ≡ d)
cut_same a b c d same long = (
  sym (take-append_seam a b) ∙ (λ i. take (long i) (same i)) ∙ take-append_seam c d,
  sym (drop-append_seam a b) ∙ (λ i. drop (long i) (same i)) ∙ drop-append_seam c d,
)

pages_at : (segments : List SegmentData) (n : ℕ) → pages_of segments ≡ pages_of (take n segments) ++ pages_of (drop n segments)
pages_at segments n = ap pages_of (sym (take-append-drop n segments)) ∙ pages_of-append (take n segments) (drop n segments)

module _ (segments : List SegmentData) (start end : ℕ) (merged : SegmentData) where
  module _ (here : length (pages_of (take start segments)) ≡ merged.first) (there : length (pages_of (take end segments)) ≡ merged.first + length merged.pages) where
    -- a segment stands in the place of those from one index to another
    pub put_consecutive : AreConsecutive 0 segments → AreConsecutive 0 (take start segments ++ merged ∷ drop end segments)
    put_consecutive consecutive =
        let front = consecutive_front 0 (take start segments) (drop start segments) (subst (AreConsecutive 0) (sym (take-append-drop start segments)) consecutive) in
        let back = consecutive_rest 0 (take end segments) (drop end segments) (subst (AreConsecutive 0) (sym (take-append-drop end segments)) consecutive) in
        let from : merged.first ≡ 0 + length (pages_of (take start segments)) = omega (arith, here) in
        let on : 0 + length (pages_of (take end segments)) ≡ 0 + length (pages_of (take start segments)) + length merged.pages = omega (arith, here, there) in
        consecutive_append 0 (take start segments) (merged ∷ drop end segments) front (from, subst (λ n. AreConsecutive n (drop end segments)) on back)

    pub put_pages : IsSliceOf merged (pages_of segments) → pages_of (take start segments ++ merged ∷ drop end segments) ≡ pages_of segments
    put_pages stands =
        let first = pages_of (take start segments) in
        let last = pages_of (drop end segments) in
        let fore = cut_same first (pages_of (drop start segments)) stands.before (merged.pages ++ stands.after) (sym (pages_at segments start) ∙ stands.at) (here ∙ sym stands.number) in
        let long : length (pages_of (take end segments)) ≡ length (stands.before ++ merged.pages) = omega (arith, there, stands.number, length-append stands.before merged.pages) in
        let through = cut_same (pages_of (take end segments)) last (stands.before ++ merged.pages) stands.after (sym (pages_at segments end) ∙ stands.at ∙ sym (append_assoc stands.before merged.pages stands.after)) long in
        pages_of-append (take start segments) (merged ∷ drop end segments)
        ∙ sym (append_assoc first merged.pages last)
        ∙ ap (λ l. (l ++ merged.pages) ++ last) fore.0
        ∙ ap (λ l. l ++ last) (sym through.0)
        ∙ sym (pages_at segments end)

-- a part begins where those before it end
pub number_at : (first : ℕ) (parts : List SegmentData) (at : ℕ) (part : SegmentData) → AreConsecutive first parts → at < length parts → part ≡ get_or parts at part → part.first ≡ first + length (pages_of (take at parts))
number_at first [] at part consecutive within is = absurd (omega (arith, within))
number_at first (here ∷ parts) zero part consecutive within is =
    let plain : first ≡ first + 0 = omega arith in
    ap (λ (p : SegmentData). p.first) is ∙ consecutive.0 ∙ plain
number_at first (here ∷ parts) (suc at) part consecutive within is =
    let rest = number_at (first + length here.pages) parts at part consecutive.1 (omega (arith, within)) is in
    omega (arith, rest, length-append here.pages (pages_of (take at parts)))

-- all pages are those up to the end of the last part
pub number_after : (parts : List SegmentData) (part : SegmentData) → AreConsecutive 0 parts → slice_get parts (length parts - 1) ≡ Some part → length (pages_of parts) ≡ part.first + length part.pages
number_after parts part consecutive is =
    let within = slice_get_within parts (length parts - 1) part is in
    let number = number_at 0 parts (length parts - 1) part consecutive within (sym (get_or_from_slice_get parts (length parts - 1) part part is)) in
    omega (arith, number, ap length (pages_end parts part is), length-append (pages_of (take (length parts - 1) parts)) part.pages)

pub border_end : (parts : List SegmentData) (pages at : ℕ) → at ≡ length parts → length (pages_of parts) ≡ pages → IsBorder parts pages at
border_end parts pages at all long = (omega (arith, all), ap (λ l. length (pages_of l)) (take_all at parts (omega (arith, all))) ∙ long)

-- so many parts from an index on are a run, and stand in the pages
module _ (parts : List SegmentData) (all start count : ℕ) (index : IsIndex parts all) where
  pub part_run : IsIndexRun (length (pages_of (take start parts))) (take count (drop start parts))
  part_run =
      let rest : List SegmentData = drop start parts in
      let from : ℕ = length (pages_of (take start parts)) in
      let back = consecutive_rest 0 (take start parts) rest (subst (AreConsecutive 0) (sym (take-append-drop start parts)) index.is_run.consecutive) in
      let plain : 0 + from ≡ from = omega arith in
      let whole = ap length (pages_at parts start) ∙ length-append (pages_of (take start parts)) (pages_of rest) in
      let long = ap length (pages_at rest count) ∙ length-append (pages_of (take count rest)) (pages_of (drop count rest)) in
      record {
        consecutive = consecutive_front from (take count rest) (drop count rest) (subst (AreConsecutive from) (sym (take-append-drop count rest)) (subst (λ n. AreConsecutive n rest) plain back));
        bound = omega (arith, index.is_run.bound, whole, long);
      }

  pub part_stands : IsSliceOf (run_data (length (pages_of (take start parts))) (take count (drop start parts))) (pages_of parts)
  part_stands =
      let rest : List SegmentData = drop start parts in
      record {
        before = pages_of (take start parts);
        after = pages_of (drop count rest);
        at = pages_at parts start ∙ ap (λ l. pages_of (take start parts) ++ l) (pages_at rest count);
        number = refl;
      }

-- one page more
pub pushed_index : (parts parts' : List SegmentData) (part : SegmentData) (page : PageData) (count : ℕ)
    → parts' ≡ parts ++ part ∷ [] → part.first ≡ count → part.pages ≡ page ∷ [] → count < 65536 → IsIndex parts count → IsIndex parts' (count + 1) × (pages_of parts' ≡ pages_of parts ++ page ∷ [])
pushed_index parts parts' part page count more first one few index =
    let pages : pages_of parts' ≡ pages_of parts ++ page ∷ [] = ap pages_of more ∙ pages_of-append parts (part ∷ []) ∙ ap (λ l. pages_of parts ++ (l ++ [])) one in
    let long : length (pages_of parts') ≡ count + 1 = omega (arith, ap length pages, length-append (pages_of parts) (page ∷ []), index.count_is) in
    let from : part.first ≡ 0 + length (pages_of parts) = omega (arith, first, index.count_is) in (
      record {
        is_run = record {
          consecutive = subst (AreConsecutive 0) (sym more) (consecutive_append 0 parts (part ∷ []) index.is_run.consecutive (from, tt));
          bound = omega (arith, long, few);
        };
        count_is = sym long;
      },
      pages,
    )
