use Rattle.std.proofs.Common.{◌∷◌, take, arith, ap, sym, ◌∙◌}
use Rattle.std.specs.List.{slice_split}
use Rattle.std.specs.Prelude.{◌==◌}
use Rattle.gopher_bytes.proofs.Splits.{after_cut, cut_whole, slice_split_at_first, slice_split_nowhere, drop_through_at_first, drop_through_nowhere, list_any_before, list_any_nowhere}
use Rattle.gopher_bytes.proofs.split.split_once.Goals as goal

pub returns-in-Some-clause-parts : goal.returns-in-Some-clause-parts
returns-in-Some-clause-parts c =
    let bytes = c.args.bytes.now in
    let end = c.in-Some.end in
    let found = c.in-Some.ensures in
    let cut = slice_split_at_first c.args.byte bytes end found.0.high found.0.before found.1 in
    cut ∙ ap (λ tail. take end bytes ∷ slice_split (λ b. b == c.args.byte) tail) (sym (after_cut bytes end))

pub returns-in-None-clause-parts : goal.returns-in-None-clause-parts
returns-in-None-clause-parts c = slice_split_nowhere c.args.byte c.args.bytes.now c.in-None.ensures

pub returns-in-Some-clause-none : goal.returns-in-Some-clause-none
returns-in-Some-clause-none c =
    let found = c.in-Some.ensures in
    list_any_before (λ b. b == c.args.byte) c.args.bytes.now c.in-Some.end (omega (arith, found.0.high)) found.0.before

pub returns-in-None-clause-none : goal.returns-in-None-clause-none
returns-in-None-clause-none c = list_any_nowhere (λ b. b == c.args.byte) c.args.bytes.now c.in-None.ensures

pub returns-in-Some-clause-rest : goal.returns-in-Some-clause-rest
returns-in-Some-clause-rest c =
    let bytes = c.args.bytes.now in
    let end = c.in-Some.end in
    let found = c.in-Some.ensures in
    after_cut bytes end ∙ sym (drop_through_at_first c.args.byte bytes end found.0.high found.0.before found.1)

pub returns-in-None-clause-rest : goal.returns-in-None-clause-rest
returns-in-None-clause-rest c = drop_through_nowhere c.args.byte c.args.bytes.now c.in-None.ensures

pub returns-in-Some-clause-whole : goal.returns-in-Some-clause-whole
returns-in-Some-clause-whole c =
    let found = c.in-Some.ensures in
    cut_whole c.args.byte c.args.bytes.now c.in-Some.end found.0.high found.1
