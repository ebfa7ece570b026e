use Rattle.std.proofs.Common.{◌≡◌, ℕ, ◌<◌, ◌∙◌, sym, ap, subst, false, Bool, not, Option, inl, inr, arith}
use Rattle.std.proofs.lemmas.Bool.{and_left, and_right, cases_eq}
use Rattle.r4_base.specs.declared.things.AtomNo.{AtomNo}
use Rattle.r4_atoms.specs.Atoms.{is_pending_as, IsBegun}
use Rattle.r4_atoms.proofs.AtomLaws.{at_before, at_last, length-scripts_seen, low_committed}
use Rattle.r4_atoms.proofs.ScanLaws.{not_pending, Smallest, smallest_of_all, smallest_stays, smallest_steps}
use Rattle.r4_atoms.proofs.atoms.Atoms.smallest_of.Goals as goal
use Rattle.r4_atoms.proofs.atoms.Atoms.smallest_of.Goals.{then-is_pending, else-is_pending}

pub loop-at-init : goal.loop-at-init
loop-at-init c =
    let found = at_last _ _ _ _ _ _ _ c.self.invariant.0 _ c.self.view_is c.self.inside.scripts.scripts c.self.invariant.2.same c.args.script.0 c.last-at.result c.last-at.ensures in
    record { place = found.0; seen = λ t begun above. not_pending c.args.self.now c.args.script.0 c.args.closed t (found.1 t begun above) }

pub before-at-requires-clause-within : goal.before-at-requires-clause-within
before-at-requires-clause-within c =
    let long = length-scripts_seen _ _ _ _ _ _ _ c.self.invariant.0 _ c.self.view_is c.self.inside.scripts.scripts c.self.invariant.2.same in
    omega (arith, c.loop-at.invariant.place.within)

pub loop-at-preserved : goal.loop-at-preserved
loop-at-preserved c =
    let s = c.args.self.now in
    let at : ℕ = c.loop-at.at in
    let next : ℕ = c.before-at.result in
    let test : ℕ → Bool = is_pending_as s c.args.script.0 c.args.closed in
    let some : 0 < at = omega (arith, c.loop-at-test.true) in
    let found = at_before _ _ _ _ _ _ _ c.self.invariant.0 _ c.self.view_is c.self.inside.scripts.scripts c.self.invariant.2.same c.args.script.0 at next some c.loop-at.invariant.place c.before-at.ensures in
    let begun : IsBegun s at = record { some = some; within = c.loop-at.invariant.place.within } in
    let miss : (t : ℕ) → IsBegun s t → next < t → t < at → test t ≡ false = λ t of_t above below. not_pending s c.args.script.0 c.args.closed t (found.1 t of_t above below) in
    let was : Smallest s test at c.loop-at.best = c.loop-at.invariant.seen in
    let P : Option AtomNo → Type 0 = λ best. Smallest s test next best in
    record {
      place = found.0;
      seen = elim c.if-is_pending.branch [
        | then-is_pending w ↦ subst P (sym w.best-is) (smallest_steps s test at next c.loop-at.best w.smaller-best.result w.atom.result begun (sym c.is_pending.ensures ∙ w.if-is_pending.true) w.atom.ensures miss w.smaller-best.ensures.least w.smaller-best.ensures.some was)
        | else-is_pending w ↦ subst P (sym w.best-is) (smallest_stays s test at next c.loop-at.best (λ t of_t above below. elim (cases_eq t at) [
          | inl same ↦ ap test same ∙ sym c.is_pending.ensures ∙ w.if-is_pending.false
          | inr other ↦ miss t of_t above (omega arith)
        ]) was)
      ];
    }

pub returns : goal.returns
returns c = smallest_of_all c.args.self.now (is_pending_as c.args.self.now c.args.script.0 c.args.closed) c.loop-at.at c.loop-at.best
    (λ t begun below. let sealed = (low_committed _ _ _ _ _ _ _ c.self.invariant.0 _ c.self.view_is t begun (omega (arith, c.loop-at-test.false))).1 in and_left _ _ (and_right _ _ (ap not sealed)))
    c.loop-at.invariant.seen
