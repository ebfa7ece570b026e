use Rattle.std.proofs.Common.{arith}
use Rattle.r4_leaf_edits.proofs.Few.{grows_item, grows_none}
use Rattle.r4_leaf_edits.proofs.Added.{both_ok}
use Rattle.r4_base.specs.Key.{rank}
use Rattle.r4_leaf_edits.proofs.Added.{fill_added, fill_ends, fill_nothing}
use Rattle.r4_leaf_edits.proofs.Spelled.{offset_is}
use Rattle.r4_leaf_edits.proofs.adding.fill.Goals as goal

pub distance-count-requires-clause-near : goal.distance-count-requires-clause-near
distance-count-requires-clause-near c =
    let is = c.in-Some.ensures.key in
    let (from, to, lt) = c.in-Some.ensures.part in
    let end = fill_ends (rank c.args.range.now.from) (rank c.args.range.now.to) (rank c.args.from) (rank c.args.to) c.args.byte (rank c.in-Some.part.from) (rank c.in-Some.part.to) from to lt c.requires in
    let offset = offset_is c.in-Some.part.from is in
    omega (arith, end, offset)

pub overflow_cast-count : goal.overflow_cast-count
overflow_cast-count c =
    let (from, to, lt) = c.in-Some.ensures.part in
    let end = fill_ends (rank c.args.range.now.from) (rank c.args.range.now.to) (rank c.args.from) (rank c.args.to) c.args.byte (rank c.in-Some.part.from) (rank c.in-Some.part.to) from to lt c.requires in
    let n = c.distance-count.ensures in
    omega (arith, end, n)

pub returns-in-Some-clause-gains : goal.returns-in-Some-clause-gains
returns-in-Some-clause-gains c =
    let is = c.in-Some.ensures.key in
    let (from, to, lt) = c.in-Some.ensures.part in
    let n = c.distance-count.ensures in
    both_ok c.replace.result
    (λ cuts items. fill_added (rank c.args.range.now.from) (rank c.args.range.now.to) (rank c.args.from) (rank c.args.to) c.args.byte c.args.edits.now c.replace.new.self c.in-Some.part c.distance-count.result
    from to lt c.requires is n cuts items) c.replace.ensures.cuts c.replace.ensures.items

pub returns-in-None-clause-gains : goal.returns-in-None-clause-gains
returns-in-None-clause-gains c = fill_nothing (rank c.args.range.now.from) (rank c.args.range.now.to) (rank c.args.from) (rank c.args.to) c.args.byte c.args.edits.now c.in-None.ensures.part

pub returns-in-Some-clause-few : goal.returns-in-Some-clause-few
returns-in-Some-clause-few c = both_ok c.replace.result (λ cut items. grows_item c.args.edits.now c.replace.new.self c.in-Some.part _ cut items) c.replace.ensures.cuts c.replace.ensures.items

pub returns-in-None-clause-few : goal.returns-in-None-clause-few
returns-in-None-clause-few c = grows_none 1 c.args.edits.now
