use Rattle.std.proofs.Common.{length, arith, List, map, ap, rules}
use Rattle.std.specs.List.{flat_map}
use Rattle.std.proofs.lemmas.Result.{on_ok_weaker}
use Rattle.r4_base.specs.Key.{rank}
use Rattle.r4_content.specs.Edited.{Pairs}
use Rattle.r4_content.specs.Held.{interval_of}
use Rattle.r4_content.specs.declared.edits.Interval.{Interval}
use Rattle.r4_leaf_edits.specs.Suiting.{IsBefore, zero_pairs}
use Rattle.r4_leaf_edits.proofs.Few.{grows_both, grows_none}
use Rattle.r4_leaf_edits.proofs.OneByOne.{rest_of, sets_all}
use Rattle.r4_leaf_edits.proofs.making.+zero_each.Goals as goal

abbrev zeros_of : List Interval → Pairs
zeros_of is = flat_map zero_pairs (map interval_of is)

pub zero_each-requires : goal.zero_each-requires
zero_each-requires t c = (
  search rules,
  rest_of (IsBefore 16384) (zero_pairs (interval_of c.in-Some.first.now)) (zeros_of c.in-Some.rest.now) (zeros_of c.args.zeros.now) (ap zeros_of c.in-Some.ensures.cases.0) c.requires,
)

pub returns-in_ok-fill-in-Some-clause-gains : goal.returns-in_ok-fill-in-Some-clause-gains
returns-in_ok-fill-in-Some-clause-gains t c =
    on_ok_weaker c.zero_each.result
    (sets_all (rank c.args.range.now.from) (rank c.args.range.now.to) (zero_pairs (interval_of c.in-Some.first.now)) (zeros_of c.in-Some.rest.now) (zeros_of c.args.zeros.now) c.args.made.now c.fill.new.edits c.zero_each.new.made
    (ap zeros_of c.in-Some.ensures.cases.0) c.in_ok-fill-in-Some.ensures.gains) c.zero_each.ensures.gains

pub returns-in_ok-fill-in-Some-clause-few : goal.returns-in_ok-fill-in-Some-clause-few
returns-in_ok-fill-in-Some-clause-few t c =
    let n = c.in-Some.ensures.cases.1 in
    on_ok_weaker c.zero_each.result
    (grows_both 1 (length c.in-Some.rest.now) (length c.args.zeros.now) c.args.made.now c.fill.new.edits c.zero_each.new.made (omega (arith, n)) c.in_ok-fill-in-Some.ensures.few) c.zero_each.ensures.few

pub returns-in-None-clause-few : goal.returns-in-None-clause-few
returns-in-None-clause-few t c = grows_none (length c.args.zeros.now) c.args.made.now
