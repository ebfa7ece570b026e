use Rattle.std.proofs.Common.{ap, map, length, arith}
use Rattle.std.specs.Arc.{arc_value}
use Rattle.r4_content.specs.Held.{edits_of}
use Rattle.r4_extent_build.proofs.EachTurn.{all_turned, first_can, first_twig, rest_can}
use Rattle.r4_extent_build.proofs.turning.+regraft_each.Goals as goal

pub regraft_one-requires-clause-twig : goal.regraft_one-requires-clause-twig
regraft_one-requires-clause-twig t c =
    let (s, (r, can)) = c.requires.can in
    first_twig c.args.body.now (edits_of c.args.edits.now) s r _ _ _ c.deref.result.now c.args.fresh.now c.args.set.now (ap (map (λ x. arc_value x)) c.in-Some.ensures.cases.0) c.deref.ensures can

pub regraft_each-requires : goal.regraft_each-requires
regraft_each-requires t c =
    let (s, (r, can)) = c.requires.can in
    let is = ap (map (λ x. arc_value x)) c.in-Some.ensures.cases.0 in
    let (after, turned) = c.in_ok-regraft_one-in-Some.ensures.turned s r (first_can c.args.body.now (edits_of c.args.edits.now) s r _ _ _ c.deref.result.now c.args.fresh.now c.args.set.now is c.deref.ensures can) in
    let n = ap length c.in-Some.ensures.cases.0 in
    (omega (arith, n), (c.requires.sized, (s, (r, rest_can c.args.body.now (edits_of c.args.edits.now) s r _ _ _ c.deref.result.now c.args.fresh.now c.args.set.now is c.deref.ensures c.regraft_one.new.fresh after c.regraft_one.new.set c.in_ok-regraft_one-in-Some.ensures.left turned can))))

pub returns-in_ok-regraft_each-in-Some-clause-turned :
    goal.returns-in_ok-regraft_each-in-Some-clause-turned
returns-in_ok-regraft_each-in-Some-clause-turned t c = λ s r can.
    let is = ap (map (λ x. arc_value x)) c.in-Some.ensures.cases.0 in
    let first = first_can c.args.body.now (edits_of c.args.edits.now) s r _ _ _ c.deref.result.now c.args.fresh.now c.args.set.now is c.deref.ensures can in
    let (after, turned) = c.in_ok-regraft_one-in-Some.ensures.turned s r first in
    let left = c.in_ok-regraft_one-in-Some.ensures.left in
    let rest = rest_can c.args.body.now (edits_of c.args.edits.now) s r _ _ _ c.deref.result.now c.args.fresh.now c.args.set.now is c.deref.ensures c.regraft_one.new.fresh after c.regraft_one.new.set left turned can in
    all_turned c.args.body.now (edits_of c.args.edits.now) s r _ _ _ c.deref.result.now c.args.fresh.now c.args.set.now is c.deref.ensures c.regraft_one.new.fresh after c.regraft_one.new.set c.regraft_each.new.set left turned (c.in_ok-regraft_one-in-Some.ensures.does s r first)
    (c.in_ok-regraft_each-in-Some.ensures.turned s r rest)
