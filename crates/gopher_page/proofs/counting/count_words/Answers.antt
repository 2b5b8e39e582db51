use Rattle.std.proofs.Common.{◌≡◌, ◌∙◌, List, ℕ, length, map, ap, sym, subst, arith}
use Rattle.std.proofs.lemmas.List.Sorted.{length_permutation}
use Rattle.std.proofs.lemmas.Result.{IfOk-weaker}
use Rattle.std.specs.List.{flat_map}
use Rattle.std.specs.List.Sorted.{IsSorted}
use Rattle.gopher_bytes.specs.Case.{lower_case}
use Rattle.gopher_page.specs.Words.{bare_words, words_of}
use Rattle.gopher_page.specs.Counts.{counts_of}
use Rattle.gopher_page.proofs.Lengths.{counted_sorted}
use Rattle.gopher_page.proofs.AddedWords.{compare}
use Rattle.gopher_page.proofs.Lowered.{words_of_lines, lines_words_count}
use Rattle.gopher_page.proofs.counting.count_words.Goals as goal

pub packed-requires : goal.packed-requires
packed-requires c =
    let lines : List (List ℕ) = c.args.lines.now in
    let words : List (List ℕ) = c.in_ok-words.words.items in
    let sorted : List (List ℕ) = c.sort_unstable.new.self.items in
    let found : words ≡ flat_map words_of lines = c.in_ok-words.ensures ∙ ap bare_words (c.deref.ensures.value ∙ c.lower.ensures ∙ ap (map lower_case) c.in_ok-text.ensures) ∙ words_of_lines lines in
    let behind : c.deref-2.result.now ≡ sorted = c.deref-2.ensures.value in
    let count : length c.deref-2.result.now ≡ length (flat_map words_of lines) =
    ap length behind ∙ length_permutation words sorted c.sort_unstable.ensures.permutation ∙ ap length found
    in
    record {
      sorted = subst (IsSorted compare) (sym behind) c.sort_unstable.ensures.sorted;
      few = omega (arith, count, lines_words_count lines, c.requires);
    }

pub returns : goal.returns
returns c =
    let lines : List (List ℕ) = c.args.lines.now in
    let words : List (List ℕ) = c.in_ok-words.words.items in
    let sorted : List (List ℕ) = c.sort_unstable.new.self.items in
    let found : words ≡ flat_map words_of lines = c.in_ok-words.ensures ∙ ap bare_words (c.deref.ensures.value ∙ c.lower.ensures ∙ ap (map lower_case) c.in_ok-text.ensures) ∙ words_of_lines lines in
    let all : counts_of c.deref-2.result.now ≡ counts_of (flat_map words_of lines) =
    ap counts_of c.deref-2.ensures.value ∙ counted_sorted words sorted c.sort_unstable.ensures.permutation c.sort_unstable.ensures.sorted ∙ ap counts_of found
    in
    IfOk-weaker c.packed.result (λ counts. counts ≡ counts_of c.deref-2.result.now) (λ counts. counts ≡ counts_of (flat_map words_of lines)) (λ counts is. is ∙ all) c.packed.ensures
