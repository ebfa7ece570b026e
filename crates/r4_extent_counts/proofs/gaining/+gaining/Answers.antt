use Rattle.std.proofs.Common.{◌+◌, ◌*◌, ◌/◌, ap, arith, sym, ◌∙◌}
use Rattle.r4_base.specs.Key.{rank}
use Rattle.r4_content.specs.Held.{edits_of}
use Rattle.r4_extent_demands.proofs.r4_graft.Halves.{later_rank}
use Rattle.r4_extent_demands.specs.r4_reach.Needs.{gets_bytes}
use Rattle.r4_extent_demands.proofs.Gains.{none_gets}
use Rattle.r4_extent_counts.proofs.Counts.{in_halves, none_gaining}
use Rattle.r4_extent_counts.proofs.gaining.+gaining.Goals as goal

pub returns-then-not-gets_some-clause-is : goal.returns-then-not-gets_some-clause-is
returns-then-not-gets_some-clause-is t c =
    let b = c.args.body.now in
    let e = edits_of c.args.edits.now in
    sym (none_gaining (gets_bytes b e) (rank c.args.from) c.args.count
    (λ i lt. none_gets b e (rank c.args.from) c.args.count i (sym c.gets_some.ensures ∙ c.if-not-gets_some.true) lt))

pub returns-clause-is : goal.returns-clause-is
returns-clause-is t c =
    let gets = gets_bytes c.args.body.now (edits_of c.args.edits.now) in
    let some = c.if-count-eq0.false in
    let more = c.if-count-eq1.false in
    let at = ap rank c.behind.ensures ∙ later_rank c.args.from (4096 * (c.args.count / 2)) in
    (λ i. c.gaining-first.ensures.is i + c.gaining-behind.ensures.is i)
    ∙ in_halves gets (rank c.args.from) c.args.count (c.args.count / 2) (rank c.behind.result)
    (omega (arith, some, more)) at
