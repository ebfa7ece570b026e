use Rattle.std.proofs.Common.{map, ap, sym, ◌∙◌, length, arith}
use Rattle.r4_content.specs.Held.{edits_of}
use Rattle.r4_extent_build.specs.Looping.{behind_all}
use Rattle.r4_extent_loss.specs.LosingEach.{loss_of, losing_turns}
use Rattle.r4_extent_loss.proofs.EachLoss.{all_turned, first_can, first_loss, first_numbers, rest_can}
use Rattle.r4_extent_loss.proofs.losing.+regraft_without.Goals as goal

pub regraft_one-requires : goal.regraft_one-requires
regraft_one-requires t c =
    let (s, (r, can)) = c.requires.can in
    let is = ap (map (λ y. loss_of y)) c.in-Some.ensures.cases.0 in
    record {
      sized = c.requires.sized;
      losing = (can.first, can.losing);
      loss = first_loss c.args.body.now (edits_of c.args.edits.now) s r _ _ _ c.args.fresh.now c.args.set.now is can;
      can = (s, (r, first_can c.args.body.now (edits_of c.args.edits.now) s r _ _ _ c.args.fresh.now c.args.set.now is can));
      low = can.low;
      numbers = first_numbers c.args.body.now (edits_of c.args.edits.now) s r _ _ _ c.args.fresh.now c.args.set.now is can;
    }

pub regraft_without-requires : goal.regraft_without-requires
regraft_without-requires t c =
    let (s, (r, can)) = c.requires.can in
    let is = ap (map (λ y. loss_of y)) c.in-Some.ensures.cases.0 in
    let (after, turned) = c.in_ok-regraft_one-in-Some.ensures.turned s r (first_can c.args.body.now (edits_of c.args.edits.now) s r _ _ _ c.args.fresh.now c.args.set.now is can) in
    let n = ap length c.in-Some.ensures.cases.0 in
    (omega (arith, n), (c.requires.sized, (s, (r, rest_can c.args.body.now (edits_of c.args.edits.now) s r _ _ _ c.args.fresh.now c.args.set.now is c.regraft_one.new.fresh after c.regraft_one.new.set c.in_ok-regraft_one-in-Some.ensures.left turned can))))

pub returns-in_ok-regraft_without-in-Some-clause-turned : goal.returns-in_ok-regraft_without-in-Some-clause-turned
returns-in_ok-regraft_without-in-Some-clause-turned t c = λ s r can.
    let is = ap (map (λ y. loss_of y)) c.in-Some.ensures.cases.0 in
    let first = first_can c.args.body.now (edits_of c.args.edits.now) s r _ _ _ c.args.fresh.now c.args.set.now is can in
    let (after, turned) = c.in_ok-regraft_one-in-Some.ensures.turned s r first in
    let left = c.in_ok-regraft_one-in-Some.ensures.left in
    let rest = rest_can c.args.body.now (edits_of c.args.edits.now) s r _ _ _ c.args.fresh.now c.args.set.now is c.regraft_one.new.fresh after c.regraft_one.new.set left turned can in
    all_turned c.args.body.now (edits_of c.args.edits.now) s r _ _ _ c.args.fresh.now c.args.set.now is c.regraft_one.new.fresh after c.regraft_one.new.set c.regraft_without.new.set left turned (c.in_ok-regraft_one-in-Some.ensures.does s r first)
    (c.in_ok-regraft_without-in-Some.ensures.turned s r rest)

pub returns-in_ok-regraft_without-in-Some-clause-left : goal.returns-in_ok-regraft_without-in-Some-clause-left
returns-in_ok-regraft_without-in-Some-clause-left t c =
    let b = c.args.body.now in
    let e = edits_of c.args.edits.now in
    let is = ap (map (λ y. loss_of y)) c.in-Some.ensures.cases.0 in
    c.in_ok-regraft_without-in-Some.ensures.left
    ∙ (ap (behind_all (losing_turns b e (map (λ y. loss_of y) c.in-Some.rest.now))) c.in_ok-regraft_one-in-Some.ensures.left
    ∙ ap (λ xs. behind_all (losing_turns b e xs) c.args.fresh.now) (sym is))
