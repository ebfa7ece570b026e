use Rattle.std.proofs.Common.{Bool, subst, arith}
use Rattle.r4_wander.specs.Progress.{IsNextCall}
use Rattle.r4_wander.proofs.Standing.{settles}
use Rattle.r4_wander.proofs.Needed.{spares_needed}
use Rattle.r4_wander.proofs.Stepping.{on_left, on_write, on_spares}
use Rattle.r4_wander.proofs.writer.Writer.step.Goals as goal

pub returns-in_err-call-clause-settles : goal.returns-in_err-call-clause-settles
returns-in_err-call-clause-settles g c = λ n base chain p commits stands.
    settles c.args.self.now n base chain p _ _ (omega (arith, c.requires.not_footed)) commits (on_left _ _ _ _ _ c.loop-made.invariant _ c.call.ensures.goes c.call.ensures.left base stands)

pub returns-then-branch-clause-settles : goal.returns-then-branch-clause-settles
returns-then-branch-clause-settles g c = λ n base chain p commits stands.
    settles c.args.self.now n base chain p _ _ (omega (arith, c.requires.not_footed)) commits (on_left _ _ _ _ _ c.loop-made.invariant _ c.call.ensures.goes c.call.ensures.left base stands)

pub loop-made-preserved : goal.loop-made-preserved
loop-made-preserved g c =
    let wrote = subst (λ (synced : Bool). IsNextCall synced c.loop-made.self c.call.new.self) c.if-branch.false c.in_ok-call.ensures.next in
    on_write _ _ c.loop-made._made _ _ c.loop-made.invariant _ c.call.ensures.goes _ c.call.ensures.plan c.in_ok-call.ensures.one c.call.ensures.clock wrote c.call.ensures.spares c.in_ok-call.ensures.stands c.in_ok-call.ensures.reads c.call.ensures.left

pub returns-clause-settles : goal.returns-clause-settles
returns-clause-settles g c = λ n base chain p commits stands.
    settles c.args.self.now n base chain p _ _ (omega (arith, c.requires.not_footed)) commits (c.loop-made.invariant.left base stands)

pub returns-in_err-call-clause-needed : goal.returns-in_err-call-clause-needed
returns-in_err-call-clause-needed g c = λ n base chain p m v commits stands other free.
    spares_needed c.args.self.now n base chain p m v _ _ commits stands other free (on_spares _ _ _ _ _ c.loop-made.invariant _ c.call.ensures.goes c.call.ensures.spares) (on_left _ _ _ _ _ c.loop-made.invariant _ c.call.ensures.goes c.call.ensures.left base stands)

pub returns-then-branch-clause-needed : goal.returns-then-branch-clause-needed
returns-then-branch-clause-needed g c = λ n base chain p m v commits stands other free.
    spares_needed c.args.self.now n base chain p m v _ _ commits stands other free (on_spares _ _ _ _ _ c.loop-made.invariant _ c.call.ensures.goes c.call.ensures.spares) (on_left _ _ _ _ _ c.loop-made.invariant _ c.call.ensures.goes c.call.ensures.left base stands)

pub returns-clause-needed : goal.returns-clause-needed
returns-clause-needed g c = λ n base chain p m v commits stands other free. spares_needed c.args.self.now n base chain p m v _ _ commits stands other free c.loop-made.invariant.spares (c.loop-made.invariant.left base stands)
