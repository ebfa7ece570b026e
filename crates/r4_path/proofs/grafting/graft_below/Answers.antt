use Rattle.std.proofs.Common.{map}
use Rattle.std.proofs.lemmas.Result.{IfOk-weaker}
use Rattle.std.specs.Prelude.{reverse}
use Rattle.std.specs.Arc.{arc_value}
use Rattle.r4_path.proofs.GraftBelow.{below_change, below_meets}
use Rattle.r4_path.proofs.grafting.graft_below.Goals as goal

pub returns-clause-change : goal.returns-clause-change
returns-clause-change c =
    IfOk-weaker c.with_below.result _ _ (λ d has t r blocks first below.
    below_change t r c.args.pieces.now
    (record { old = map arc_value c.args.old.items; new = map arc_value c.args.new.items }) blocks first c.args.fresh.now
    c.graft.new.fresh c.in_ok-change.change (reverse (map arc_value c.args.path.now)) d
    c.in_ok-change.ensures.grafts has below) c.with_below.ensures

pub returns-clause-meets : goal.returns-clause-meets
returns-clause-meets c =
    IfOk-weaker c.with_below.result _ _ (λ d has t r blocks first below.
    below_meets t r c.args.pieces.now
    (record { old = map arc_value c.args.old.items; new = map arc_value c.args.new.items }) blocks first c.args.fresh.now
    c.graft.new.fresh c.in_ok-change.change (reverse (map arc_value c.args.path.now)) d
    c.in_ok-change.ensures.grafts has below) c.with_below.ensures

pub returns-clause-grafts : goal.returns-clause-grafts
returns-clause-grafts c =
    IfOk-weaker c.with_below.result _ _ (λ d has. record {
      change = c.in_ok-change.change;
      grafts = c.in_ok-change.ensures.grafts;
      below = has;
    }) c.with_below.ensures
