use Rattle.std.proofs.Common.{length, arith, ap, rules}
use Rattle.std.specs.List.{flat_map}
use Rattle.std.proofs.lemmas.Result.{on_ok_weaker}
use Rattle.r4_base.specs.Key.{rank}
use Rattle.r4_content.specs.Held.{fill_pairs}
use Rattle.r4_leaf_edits.specs.Suiting.{IsBefore}
use Rattle.r4_leaf_edits.proofs.Few.{grows_both, grows_none}
use Rattle.r4_leaf_edits.proofs.OneByOne.{rest_of, sets_all}
use Rattle.r4_leaf_edits.proofs.making.+fill_each.Goals as goal

pub fill_each-requires : goal.fill_each-requires
fill_each-requires t c = (
  search rules,
  rest_of (IsBefore 16384) (fill_pairs c.in-Some.first.now) (flat_map fill_pairs c.in-Some.rest.now) (flat_map fill_pairs c.args.fills.now) (ap (flat_map fill_pairs) c.in-Some.ensures.cases.0) c.requires,
)

pub returns-in_ok-fill-in-Some-clause-gains : goal.returns-in_ok-fill-in-Some-clause-gains
returns-in_ok-fill-in-Some-clause-gains t c =
    on_ok_weaker c.fill_each.result
    (sets_all (rank c.args.range.now.from) (rank c.args.range.now.to) (fill_pairs c.in-Some.first.now) (flat_map fill_pairs c.in-Some.rest.now) (flat_map fill_pairs c.args.fills.now) c.args.made.now c.fill.new.edits c.fill_each.new.made
    (ap (flat_map fill_pairs) c.in-Some.ensures.cases.0) c.in_ok-fill-in-Some.ensures.gains) c.fill_each.ensures.gains

pub returns-in_ok-fill-in-Some-clause-few : goal.returns-in_ok-fill-in-Some-clause-few
returns-in_ok-fill-in-Some-clause-few t c =
    let n = c.in-Some.ensures.cases.1 in
    on_ok_weaker c.fill_each.result
    (grows_both 1 (length c.in-Some.rest.now) (length c.args.fills.now) c.args.made.now c.fill.new.edits c.fill_each.new.made (omega (arith, n)) c.in_ok-fill-in-Some.ensures.few) c.fill_each.ensures.few

pub returns-in-None-clause-few : goal.returns-in-None-clause-few
returns-in-None-clause-few t c = grows_none (length c.args.fills.now) c.args.made.now
