use Rattle.std.proofs.Common.{arith, sym, subst, ◌∙◌}
use Rattle.std.specs.Prelude.{IfSome, slice_range}
use Rattle.r4_base.specs.Volume.{root_object}
use Rattle.r4_content.specs.Walk.{names_in}
use Rattle.r4_list.specs.OverWalks.{IsLookedUp, IsStep}
use Rattle.r4_list.specs.declared.walk.Object.{Object}
use Rattle.r4_list.proofs.Lookups.{handed_on}
use Rattle.r4_list.proofs.OverAnswers.{over_handed}
use Rattle.r4_list.proofs.OverPieces.{no_fault, walk_no_name, walk_no_root}
use Rattle.r4_list.proofs.OverWalks.{begun, ends_at_file, ends_here, ends_without, gone_on, piece_legal}
use Rattle.r4_list.proofs.Stages.{moved}
use Rattle.r4_search.proofs.Walks.{goes_both, leaves_both}
use Rattle.r4_list.proofs.walk.walk.Goals as goal

pub returns-then-not-has_names-clause-over : goal.returns-then-not-has_names-clause-over
returns-then-not-has_names-clause-over g c = λ n image m has over. record { over = over; found = walk_no_name m (names_in c.args.path.now) (sym c.has_names.ensures ∙ c.if-not-has_names.true); undamaged = tt }

pub returns-in_err-attr-clause-over : goal.returns-in_err-attr-clause-over
returns-in_err-attr-clause-over g c = λ n image m has over. over_handed has c.args.root.now _ _ _ c.in_err-attr.field-0.0 c.from_residual.result (c.in_err-attr.ensures.over n image m has over) c.from_residual.ensures.1

pub returns-in_default-clause-over : goal.returns-in_default-clause-over
returns-in_default-clause-over g c = λ n image m has over.
    let f = c.in_ok-attr.ensures.over n image m has over in
    record { over = f.over; found = walk_no_root m (names_in c.args.path.now) (sym c.has_names.ensures ∙ c.if-not-has_names.false) (sym c.in_default.is ∙ f.found); undamaged = tt }

pub loop-from-init : goal.loop-from-init
loop-from-init g c = begun c.args.root.now c.args.path.now _ _ _ _ c.in-Some.attr c.requires.path (moved _ _ _ _ _ _ c.attr_of.ensures.fetched) (subst (λ a. IfSome a (λ x. IsLookedUp root_object)) c.in-Some.is c.in_ok-attr.ensures.reached) (sym c.has_names.ensures ∙ c.if-not-has_names.false)
    (λ n image m has over. let f = c.in_ok-attr.ensures.over n image m has over in (f.over, sym c.in-Some.is ∙ f.found))

pub returns-then-not-is_directory-clause-over : goal.returns-then-not-is_directory-clause-over
returns-then-not-is_directory-clause-over g c = λ n image m has over.
    record {
      over = c.loop-from.invariant.over n image m has over;
      found = ends_at_file m c.args.path.now c.loop-from.from c.loop-from.object c.loop-from.attr c.loop-from-test.true (c.loop-from.invariant.on n image m has over) (sym c.is_directory.ensures ∙ c.if-not-is_directory.true);
      undamaged = tt;
    }

pub returns-in_err-next-clause-fetched : goal.returns-in_err-next-clause-fetched
returns-in_err-next-clause-fetched g c = handed_on c.args.root.now _ _ _ c.from_residual-in_err-next.result c.in_err-next.field-0.0 _ _ _ c.loop-from.invariant.moves.goes c.loop-from.invariant.moves.device c.step.ensures.fetched.goes c.step.ensures.fetched.device c.from_residual-in_err-next.ensures.1 c.in_err-next.ensures.fetched.cause

pub returns-in_err-next-clause-over : goal.returns-in_err-next-clause-over
returns-in_err-next-clause-over g c = λ n image m has over.
    let legal = piece_legal c.args.path.now c.loop-from.from c.piece_end-end.result c.loop-from-test.true c.piece_end-end.ensures.piece c.loop-from.invariant.legal in
    over_handed has c.args.root.now _ _ _ c.in_err-next.field-0.0 c.from_residual-in_err-next.result (c.in_err-next.ensures.over n image m has (no_fault _ legal) (c.loop-from.invariant.over n image m has over)) c.from_residual-in_err-next.ensures.1

pub returns-in_default-2-clause-fetched : goal.returns-in_default-2-clause-fetched
returns-in_default-2-clause-fetched g c = record { goes = goes_both _ _ _ c.loop-from.invariant.moves.goes c.step.ensures.fetched.goes; device = leaves_both _ _ _ c.loop-from.invariant.moves.device c.step.ensures.fetched.device; cause = tt }

pub returns-in_default-2-clause-over : goal.returns-in_default-2-clause-over
returns-in_default-2-clause-over g c = λ n image m has over.
    let path = c.args.path.now in
    let from = c.loop-from.from in
    let end = c.piece_end-end.result in
    let legal = piece_legal path from end c.loop-from-test.true c.piece_end-end.ensures.piece c.loop-from.invariant.legal in
    let f = c.in_ok-next.ensures.over n image m has (no_fault _ legal) (c.loop-from.invariant.over n image m has over) in
    record {
      over = f.over;
      found = ends_without path from end c.loop-from-test.true c.piece_end-end.ensures.piece c.loop-from.invariant.legal m c.loop-from.object c.loop-from.attr (c.loop-from.invariant.on n image m has over) (sym c.is_directory.ensures ∙ c.if-not-is_directory.false)
          (subst (IsStep m c.loop-from.object.oid.0 (slice_range path from end)) c.in_default-2.is f.found);
      undamaged = tt;
    }

pub loop-from-preserved : goal.loop-from-preserved
loop-from-preserved g c =
    let path = c.args.path.now in
    let from = c.loop-from.from in
    let end = c.piece_end-end.result in
    let legal = piece_legal path from end c.loop-from-test.true c.piece_end-end.ensures.piece c.loop-from.invariant.legal in
    gone_on c.args.root.now path _ _ _ _ _ _ from end c.loop-from-test.true c.piece_end-end.ensures.piece c.loop-from.object c.loop-from.attr c.loop-from.invariant (sym c.is_directory.ensures ∙ c.if-not-is_directory.false) (moved _ _ _ _ _ _ c.step.ensures.fetched) c.in-Some-2.next (subst (λ r. IfSome r (λ (o : Object). IsLookedUp o.object)) c.in-Some-2.is c.in_ok-next.ensures.reached)
    (λ n image m has over. let f = c.in_ok-next.ensures.over n image m has (no_fault _ legal) over in (f.over, subst (IsStep m c.loop-from.object.oid.0 (slice_range path from end)) c.in-Some-2.is f.found))

pub returns-clause-over : goal.returns-clause-over
returns-clause-over g c = λ n image m has over.
    let out = c.loop-from-test.false in
    record {
      over = c.loop-from.invariant.over n image m has over;
      found = ends_here m c.args.path.now c.loop-from.from c.loop-from.object c.loop-from.attr (omega (arith, out)) (c.loop-from.invariant.on n image m has over);
      undamaged = tt;
    }
