use Rattle.std.proofs.Common.{◌∙◌, refl, sym, ap, subst}
use Rattle.r4_base.specs.Tree.{Node}
use Rattle.r4_base.specs.Value.{Value}
use Rattle.r4_check.specs.Looking.{Gathers, name_of}
use Rattle.r4_cell.specs.Seen.{CellSeen, node_of}
use Rattle.r4_check.specs.Walk.{meet, with_reached}
use Rattle.r4_check.proofs.Meets.{Reaches, below_accepted, below_again, below_refused, is_no, is_yes, read_cell_as, read_refused_as, marked_is, reached_by, steps_accepted, steps_again, steps_refused}
use Rattle.r4_check.proofs.Steps.{extends_same, steps_ended, steps_none, steps_ok}
use Rattle.r4_check.proofs.Tallies.{tally_gap}
use Rattle.r4_check.proofs.Walks.{meet_extends}
use Rattle.r4_check.proofs.look.meet_node.Goals as goal

pub returns-in_err-look_again-clause-steps : goal.returns-in_err-look_again-clause-steps
returns-in_err-look_again-clause-steps g c image ground =
    let blocks = c.args.settled.now.found.super40.block_count in
    let e = c.if-not-reach.ensures in
    let reaches : Reaches blocks c.args.named.now.id c.args.tally.now c.reach.new.self = record { within = c.requires.within; reached = e.reached blocks (sym c.requires.size); gathered = e.gathered; faults = e.faults; whole = e.whole } in
    steps_ended blocks _ _ _ _ _ c.from_residual.result (λ w. meet blocks image w (name_of c.args.named.now)) (λ w. meet blocks image w (name_of c.args.named.now)) c.from_residual.ensures.1 (λ w. extends_same (meet blocks image w (name_of c.args.named.now)))
    (steps_again blocks c.args.named.now.id image (name_of c.args.named.now) refl _ _ _ _ _ _ reaches (is_yes _ e.first) (c.in_err-look_again.ensures.steps blocks))

pub returns-then-not-reach-clause-steps : goal.returns-then-not-reach-clause-steps
returns-then-not-reach-clause-steps g c image ground =
    let blocks = c.args.settled.now.found.super40.block_count in
    let e = c.if-not-reach.ensures in
    let reaches : Reaches blocks c.args.named.now.id c.args.tally.now c.reach.new.self = record { within = c.requires.within; reached = e.reached blocks (sym c.requires.size); gathered = e.gathered; faults = e.faults; whole = e.whole } in
    steps_ok blocks _ _ _ _ (tt {0}) _ _ (steps_again blocks c.args.named.now.id image (name_of c.args.named.now) refl _ _ _ _ _ _ reaches (is_yes _ e.first) (c.in_ok-look_again.ensures.steps blocks))

pub returns-then-not-reach-clause-below : goal.returns-then-not-reach-clause-below
returns-then-not-reach-clause-below g c image w ground h =
    let blocks = c.args.settled.now.found.super40.block_count in
    below_again blocks image w (name_of c.args.named.now) (reached_by blocks c.args.named.now.id w c.args.tally.now _ h c.requires.within (is_yes _ c.if-not-reach.ensures.first))

pub returns-in_err-cell-clause-steps : goal.returns-in_err-cell-clause-steps
returns-in_err-cell-clause-steps g c image ground =
    let blocks = c.args.settled.now.found.super40.block_count in
    steps_none blocks _ _ _ _ c.from_residual-in_err-cell.result (λ w. meet blocks image w (name_of c.args.named.now)) c.from_residual-in_err-cell.ensures.1 (λ w. meet_extends blocks image w (name_of c.args.named.now))

pub returns-in_err-gather-in-Cell-clause-steps : goal.returns-in_err-gather-in-Cell-clause-steps
returns-in_err-gather-in-Cell-clause-steps g c image ground =
    let blocks = c.args.settled.now.found.super40.block_count in
    steps_none blocks _ _ _ _ c.from_residual-in_err-gather-in-Cell.result (λ w. meet blocks image w (name_of c.args.named.now)) c.from_residual-in_err-gather-in-Cell.ensures.1 (λ w. meet_extends blocks image w (name_of c.args.named.now))

pub returns-in_err-tell_wrong-in-Cell-clause-steps : goal.returns-in_err-tell_wrong-in-Cell-clause-steps
returns-in_err-tell_wrong-in-Cell-clause-steps g c image ground =
    let blocks = c.args.settled.now.found.super40.block_count in
    let e = c.if-not-reach.ensures in
    let reaches : Reaches blocks c.args.named.now.id c.args.tally.now c.reach.new.self = record { within = c.requires.within; reached = e.reached blocks (sym c.requires.size); gathered = e.gathered; faults = e.faults; whole = e.whole } in
    let marked = c.is_marked-marked.ensures ∙ marked_is blocks c.args.named.now.id image _ ground.bitmaps c.requires.within in
    let read = read_cell_as blocks image (name_of c.args.named.now) c.in_ok-cell.field-0 c.in-Cell.cell c.in-Cell.is (c.in_ok-cell.ensures.read image ground) in
    let add = c.in_ok-gather-in-Cell.ensures in
    let gathers = subst (λ (n : Node Value). Gathers c.args.named.now.id n c.reach.new.self.gathered c.gather.new.self.gathered) read.1
    (subst (λ (x : CellSeen). Gathers c.args.named.now.id (node_of x) c.reach.new.self.gathered c.gather.new.self.gathered) c.deref.ensures add.gathers) in
    steps_ended blocks _ _ _ _ _ c.from_residual-in_err-tell_wrong-in-Cell.result (λ w. meet blocks image w (name_of c.args.named.now)) (λ w. meet blocks image w (name_of c.args.named.now)) c.from_residual-in_err-tell_wrong-in-Cell.ensures.1 (λ w. extends_same (meet blocks image w (name_of c.args.named.now)))
    (steps_accepted blocks c.args.named.now.id image (name_of c.args.named.now) refl _ _ _ _ _ _ reaches c.gather.new.self _ _ (is_no _ e.first) read.0 marked c.wrong_with.ensures add.reached gathers add.faults add.whole (c.in_err-tell_wrong-in-Cell.ensures.steps blocks))

pub returns-in_err-tell_wrong-in-Refused-clause-steps : goal.returns-in_err-tell_wrong-in-Refused-clause-steps
returns-in_err-tell_wrong-in-Refused-clause-steps g c image ground =
    let blocks = c.args.settled.now.found.super40.block_count in
    let e = c.if-not-reach.ensures in
    let reaches : Reaches blocks c.args.named.now.id c.args.tally.now c.reach.new.self = record { within = c.requires.within; reached = e.reached blocks (sym c.requires.size); gathered = e.gathered; faults = e.faults; whole = e.whole } in
    let marked = c.is_marked-marked.ensures ∙ marked_is blocks c.args.named.now.id image _ ground.bitmaps c.requires.within in
    let read = read_refused_as blocks image (name_of c.args.named.now) c.in_ok-cell.field-0 c.in-Refused.fault c.in-Refused.is (c.in_ok-cell.ensures.read image ground) in
    steps_ended blocks _ _ _ _ _ c.from_residual-in_err-tell_wrong-in-Refused.result (λ w. meet blocks image w (name_of c.args.named.now)) (λ w. meet blocks image w (name_of c.args.named.now)) c.from_residual-in_err-tell_wrong-in-Refused.ensures.1 (λ w. extends_same (meet blocks image w (name_of c.args.named.now)))
    (steps_refused blocks c.args.named.now.id image (name_of c.args.named.now) refl _ _ _ _ _ _ reaches _ _ _ c.in-Refused.fault (is_no _ e.first) read marked c.wrong_with-in-Refused.ensures (λ w h. tally_gap blocks (with_reached c.args.named.now.id w) _ _ h refl refl refl refl) (c.in_err-tell_wrong-in-Refused.ensures.steps blocks))

pub returns-in_ok-tell_wrong-in-Cell-clause-steps : goal.returns-in_ok-tell_wrong-in-Cell-clause-steps
returns-in_ok-tell_wrong-in-Cell-clause-steps g c image ground =
    let blocks = c.args.settled.now.found.super40.block_count in
    let e = c.if-not-reach.ensures in
    let reaches : Reaches blocks c.args.named.now.id c.args.tally.now c.reach.new.self = record { within = c.requires.within; reached = e.reached blocks (sym c.requires.size); gathered = e.gathered; faults = e.faults; whole = e.whole } in
    let marked = c.is_marked-marked.ensures ∙ marked_is blocks c.args.named.now.id image _ ground.bitmaps c.requires.within in
    let read = read_cell_as blocks image (name_of c.args.named.now) c.in_ok-cell.field-0 c.in-Cell.cell c.in-Cell.is (c.in_ok-cell.ensures.read image ground) in
    let add = c.in_ok-gather-in-Cell.ensures in
    let gathers = subst (λ (n : Node Value). Gathers c.args.named.now.id n c.reach.new.self.gathered c.gather.new.self.gathered) read.1
    (subst (λ (x : CellSeen). Gathers c.args.named.now.id (node_of x) c.reach.new.self.gathered c.gather.new.self.gathered) c.deref.ensures add.gathers) in
    steps_ok blocks _ _ _ _ (tt {0}) _ _ (steps_accepted blocks c.args.named.now.id image (name_of c.args.named.now) refl _ _ _ _ _ _ reaches c.gather.new.self _ _ (is_no _ e.first) read.0 marked c.wrong_with.ensures add.reached gathers add.faults add.whole (c.in_ok-tell_wrong-in-Cell.ensures.steps blocks))

pub returns-in_ok-tell_wrong-in-Cell-clause-below : goal.returns-in_ok-tell_wrong-in-Cell-clause-below
returns-in_ok-tell_wrong-in-Cell-clause-below g c image w ground h =
    let blocks = c.args.settled.now.found.super40.block_count in
    let read = read_cell_as blocks image (name_of c.args.named.now) c.in_ok-cell.field-0 c.in-Cell.cell c.in-Cell.is (c.in_ok-cell.ensures.read image ground) in
    ap (λ (n : Node Value). n.names) read.1 ∙ below_accepted blocks image w (name_of c.args.named.now) (reached_by blocks c.args.named.now.id w c.args.tally.now _ h c.requires.within (is_no _ c.if-not-reach.ensures.first)) read.0

pub returns-in_ok-tell_wrong-in-Refused-clause-steps : goal.returns-in_ok-tell_wrong-in-Refused-clause-steps
returns-in_ok-tell_wrong-in-Refused-clause-steps g c image ground =
    let blocks = c.args.settled.now.found.super40.block_count in
    let e = c.if-not-reach.ensures in
    let reaches : Reaches blocks c.args.named.now.id c.args.tally.now c.reach.new.self = record { within = c.requires.within; reached = e.reached blocks (sym c.requires.size); gathered = e.gathered; faults = e.faults; whole = e.whole } in
    let marked = c.is_marked-marked.ensures ∙ marked_is blocks c.args.named.now.id image _ ground.bitmaps c.requires.within in
    let read = read_refused_as blocks image (name_of c.args.named.now) c.in_ok-cell.field-0 c.in-Refused.fault c.in-Refused.is (c.in_ok-cell.ensures.read image ground) in
    steps_ok blocks _ _ _ _ (tt {0}) _ _ (steps_refused blocks c.args.named.now.id image (name_of c.args.named.now) refl _ _ _ _ _ _ reaches _ _ _ c.in-Refused.fault (is_no _ e.first) read marked c.wrong_with-in-Refused.ensures (λ w h. tally_gap blocks (with_reached c.args.named.now.id w) _ _ h refl refl refl refl) (c.in_ok-tell_wrong-in-Refused.ensures.steps blocks))

pub returns-in_ok-tell_wrong-in-Refused-clause-below : goal.returns-in_ok-tell_wrong-in-Refused-clause-below
returns-in_ok-tell_wrong-in-Refused-clause-below g c image w ground h =
    let blocks = c.args.settled.now.found.super40.block_count in
    below_refused blocks image w (name_of c.args.named.now) c.in-Refused.fault (read_refused_as blocks image (name_of c.args.named.now) c.in_ok-cell.field-0 c.in-Refused.fault c.in-Refused.is (c.in_ok-cell.ensures.read image ground))
