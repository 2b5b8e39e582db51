use Rattle.std.proofs.Common.{rules, refl}
use Rattle.std.proofs.lemmas.Result.{IfErr-weaker}
use Rattle.gopher_tree.specs.Files.{File}
use Rattle.gopher_tree.specs.Load.{Refuses}
use Rattle.gopher_tree.specs.Leaving.{StopsWalk}
use Rattle.gopher_tree.proofs.LeavingLemmas.{walks_left_out, walks_settled, noted_at, settles_without, stops_listing}
use Rattle.gopher_tree.proofs.tree.Tree.with_served.Goals as goal

pub returns-in-Some-clause-walks : goal.returns-in-Some-clause-walks
returns-in-Some-clause-walks c =
    walks_left_out c.args.leaves_out c.args.self c.args.trail.now c.args.left.now.items c.without.new.left.items c.args.path.items c.args.bytes.items c.in-Some.fault c.without.result
    c.requires.path c.requires.size c.requires.bytes (search rules) c.without.ensures.same (noted_at c.args.left.now.items c.without.new.left.items c.deref-in-Some.result.now c.args.path.items c.in-Some.fault c.without.result (search rules) c.without.ensures.noted) c.without.ensures.allowed c.without.ensures.kept c.without.ensures.refused

pub returns-in-Some-clause-noted : goal.returns-in-Some-clause-noted
returns-in-Some-clause-noted c =
    settles_without c.args.self c.args.path.items c.args.bytes.items c.in-Some.fault c.args.left.now c.without.new.left c.without.result (search rules) c.without.ensures.same (noted_at c.args.left.now.items c.without.new.left.items c.deref-in-Some.result.now c.args.path.items c.in-Some.fault c.without.result (search rules) c.without.ensures.noted)

pub returns-in-None-clause-walks : goal.returns-in-None-clause-walks
returns-in-None-clause-walks c =
    let file : File = (c.args.path.items, c.args.bytes.items) in
    walks_settled c.args.leaves_out c.args.self c.args.trail.now file c.args.left.now.items c.args.left.now.items c.with_listed.result c.with_listed.ensures.listed refl
    (IfErr-weaker c.with_listed.result (Refuses c.args.self c.args.trail.now file) (StopsWalk c.args.leaves_out c.args.self c.args.trail.now)
    (λ fault refused. stops_listing c.args.leaves_out c.args.self c.args.trail.now c.args.path.items c.args.bytes.items fault c.requires.path c.requires.size c.requires.bytes (search rules) refused) c.with_listed.ensures.refused)
