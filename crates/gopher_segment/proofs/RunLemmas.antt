-- Runs of postings packed: page numbers beside counts.
use Rattle.std.proofs.Common.{◌≡◌, ℕ, ◌-◌, ◌<◌, ◌≤◌, List, [], ◌+◌, ◌∷◌, ◌++◌, length, take, drop, get_or, slice_get, Some, sym, ap, subst, ◌∙◌, arith}
use Rattle.std.proofs.lemmas.List.{length-append, length-drop, drop-append-le, take_rest, drop_all}
use Rattle.std.proofs.lemmas.List.Elements.{All-from_recursion}
use Rattle.std.specs.List.{zip}
use Rattle.gopher_bytes.specs.Parts.{parts, start_at, last_end, AreEnds}
use Rattle.gopher_bytes.proofs.Zips.{get_or-zip, length-zip, zip-append, zip-drop, zip-take}
use Rattle.gopher_segment.specs.Postings.{ArePackedRuns, AreWithin}
use Rattle.gopher_bytes.proofs.PartLemmas.{parts-get, parts_more, parts_push, ends_push, ends_grow, last_push, last_le_limit}

-- ---- runs

-- the run at an index
pub run_at : (pages counts ends : List ℕ) (index start end d : ℕ) → ArePackedRuns pages counts ends → index < length ends → start ≡ start_at 0 ends index → end ≡ get_or ends index d
    → slice_get (parts (zip pages counts) 0 ends) index ≡ Some (zip (take (end - start) (drop start pages)) (take (end - start) (drop start counts)))
run_at pages counts ends index start end d packed within from to =
    let size : length (drop start counts) ≡ length (drop start pages) = omega (arith, packed.same, length-drop start counts, length-drop start pages) in
    parts-get (zip pages counts) 0 ends index d within
    ∙ (λ i. Some (take (sym to i - sym from i) (drop (sym from i) (zip pages counts))))
    ∙ ap (λ l. Some (take (end - start) l)) (sym (zip-drop pages counts start packed.same))
    ∙ ap Some (sym (zip-take (drop start pages) (drop start counts) (end - start) size))

module _ (pages counts ends more_pages more_counts : List ℕ) (packed : ArePackedRuns pages counts ends) where
  chain : AreEnds 0 ends (length (zip pages counts))
  chain = subst (AreEnds 0 ends) (sym (length-zip pages counts packed.same)) packed.chain

  pub packed_more : length more_counts ≡ length more_pages → ArePackedRuns (pages ++ more_pages) (counts ++ more_counts) ends
  packed_more same =
      record {
        same = omega (arith, packed.same, length-append pages more_pages, length-append counts more_counts);
        chain = ends_grow 0 ends (length pages) (length (pages ++ more_pages)) packed.chain (omega (arith, length-append pages more_pages));
      }

  -- more postings leave the runs as they are
  pub whole_more : parts (zip (pages ++ more_pages) (counts ++ more_counts)) 0 ends ≡ parts (zip pages counts) 0 ends
  whole_more = ap (λ items. parts items 0 ends) (zip-append pages more_pages counts more_counts packed.same) ∙ parts_more (zip pages counts) (zip more_pages more_counts) 0 ends chain

  -- and stand in the one that isn't ended
  pub begun_more : drop (last_end 0 ends) (zip (pages ++ more_pages) (counts ++ more_counts)) ≡ drop (last_end 0 ends) (zip pages counts) ++ zip more_pages more_counts
  begun_more =
      ap (drop (last_end 0 ends)) (zip-append pages more_pages counts more_counts packed.same)
      ∙ drop-append-le (last_end 0 ends) (zip pages counts) (zip more_pages more_counts) (last_le_limit 0 ends (length (zip pages counts)) chain)

module _ (pages counts ends : List ℕ) (end : ℕ) (packed : ArePackedRuns pages counts ends) (is : end ≡ length pages) where
  pub packed_ended : ArePackedRuns pages counts (ends ++ end ∷ [])
  packed_ended =
      record {
        same = packed.same;
        chain = subst (AreEnds 0 (ends ++ end ∷ [])) is (ends_push 0 ends (length pages) end packed.chain (omega arith));
      }

  pub whole_ended : parts (zip pages counts) 0 (ends ++ end ∷ []) ≡ parts (zip pages counts) 0 ends ++ drop (last_end 0 ends) (zip pages counts) ∷ []
  whole_ended =
      let size : end ≡ length (zip pages counts) = is ∙ sym (length-zip pages counts packed.same) in
      parts_push (zip pages counts) 0 ends end
      ∙ ap (λ n. parts (zip pages counts) 0 ends ++ take (n - last_end 0 ends) (drop (last_end 0 ends) (zip pages counts)) ∷ []) size
      ∙ ap (λ run. parts (zip pages counts) 0 ends ++ run ∷ []) (take_rest (zip pages counts) (last_end 0 ends))

  pub begun_ended : drop (last_end 0 (ends ++ end ∷ [])) (zip pages counts) ≡ []
  begun_ended =
      let size : length (zip pages counts) ≤ last_end 0 (ends ++ end ∷ []) = omega (arith, is, length-zip pages counts packed.same, last_push 0 ends end) in
      drop_all (last_end 0 (ends ++ end ∷ [])) (zip pages counts) size

-- ---- numbers of pages

-- the number of a posting is that of one of the pages
pub number_at : (first size : ℕ) (pages counts : List ℕ) (i : ℕ) → length counts ≡ length pages → AreWithin first size (zip pages counts) → i < length pages → (first ≤ get_or pages i 0) × (get_or pages i 0 < first + size)
number_at first size pages counts i same all inside =
    subst (λ (posting : ℕ × ℕ). (first ≤ posting.0) × (posting.0 < first + size)) (get_or-zip pages counts i 0 0 same inside)
    (All-from_recursion (λ (posting : ℕ × ℕ). (first ≤ posting.0) × (posting.0 < first + size)) (zip pages counts) all i (0, 0) (omega (arith, length-zip pages counts same)))
