use Rattle.std.proofs.Common.{◌^◌, ◌+◌, ◌*◌, ◌/◌, inr, ℕ, List, take, get_or, sym, ap, subst, ◌∙◌, arith}
use Rattle.r4_base.specs.Extents.{AreApart, block_of, units_of}
use Rattle.r4_twig.proofs.Places.{put_elsewhere}
use Rattle.r4_base.specs.declared.items.Unit.{Unit as ExtentUnit}
use Rattle.r4_twig.proofs.Joins.{apart-joined, block_of-joined}
use Rattle.r4_twig.proofs.Edits.{accepted}
use Rattle.r4_twig.proofs.Merges.{first_state, more_state, next_state, sum_fits, all_joined, join_accepted}
use Rattle.r4_twig.proofs.edit.join.Goals as goal
use Rattle.r4_twig.proofs.edit.join.Goals.{then-continues, else-continues}

pub unit_in-last-requires : goal.unit_in-last-requires
unit_in-last-requires c =
    let some = (accepted (2 ^ 63) c.args.body.now c.args.used c.requires.within c.requires.lawful).some in
    omega arith

pub loop-i-init : goal.loop-i-init
loop-i-init c = rw c.unit_in-last.ensures (first_state c.args.body.now c.args.used c.requires.within c.requires.lawful)

pub overflow_add-last : goal.overflow_add-last
overflow_add-last c =
    let sum = sum_fits c.args.body.now c.args.used c.loop-i.body c.loop-i.last c.loop-i.end c.loop-i.i c.unit_in-unit.result c.requires.within c.loop-i-test.true c.unit_in-unit.ensures (sym c.continues.ensures ∙ c.if-continues.true) c.loop-i.invariant c.requires.fits in
    omega arith

pub loop-i-preserved : goal.loop-i-preserved
loop-i-preserved c = elim c.if-continues.branch [
  | then-continues w ↦ rw (w.body-is, w.last-is, w.end-is) (more_state c.args.body.now c.args.used c.loop-i.body c.loop-i.last c.loop-i.end c.loop-i.i c.unit_in-unit.result c.requires.within c.loop-i-test.true c.unit_in-unit.ensures (sym c.continues.ensures ∙ w.if-continues.true) c.loop-i.invariant)
  | else-continues w ↦
      let apart = c.loop-i.invariant.apart in
      rw (w.body-is, w.last-is, w.end-is) (next_state c.args.body.now c.args.used c.loop-i.body w.replace.new.body c.loop-i.last c.loop-i.end c.loop-i.i c.unit_in-unit.result c.requires.within c.loop-i.auto.body c.loop-i-test.true c.unit_in-unit.ensures (sym c.continues.ensures ∙ w.if-continues.false)
      (w.replace.ensures.units (16 * (c.loop-i.end + 1)) (omega arith) (omega arith))
      (λ k past. ap (λ (xs : List ℕ). get_or xs k 0) w.replace.ensures.spelled ∙ put_elsewhere c.loop-i.end c.loop-i.last c.loop-i.body k (omega arith) (inr past))
      c.loop-i.invariant)
]

pub replace-requires-2 : goal.replace-requires-2
replace-requires-2 c =
    let some = (accepted (2 ^ 63) c.args.body.now c.args.used c.requires.within c.requires.lawful).some in
    let apart = c.loop-i.invariant.apart in
    omega arith

pub overflow_add-end-2 : goal.overflow_add-end-2
overflow_add-end-2 c =
    let some = (accepted (2 ^ 63) c.args.body.now c.args.used c.requires.within c.requires.lawful).some in
    let apart = c.loop-i.invariant.apart in
    omega arith

pub returns-clause-used : goal.returns-clause-used
returns-clause-used c =
    let some = (accepted (2 ^ 63) c.args.body.now c.args.used c.requires.within c.requires.lawful).some in
    let apart = c.loop-i.invariant.apart in
    omega arith

pub returns-clause-units : goal.returns-clause-units
returns-clause-units c =
    let some = (accepted (2 ^ 63) c.args.body.now c.args.used c.requires.within c.requires.lawful).some in
    let apart = c.loop-i.invariant.apart in
    rw c.from.ensures (all_joined c.args.body.now c.args.used c.loop-i.body c.replace-2.new.body c.loop-i.last c.loop-i.end c.loop-i.i c.requires.within c.loop-i.auto.body (omega arith) (c.replace-2.ensures.units (16 * (c.loop-i.end + 1)) (omega arith) (omega arith)) c.loop-i.invariant)

pub returns-clause-lawful : goal.returns-clause-lawful
returns-clause-lawful c =
    let some = (accepted (2 ^ 63) c.args.body.now c.args.used c.requires.within c.requires.lawful).some in
    let apart = c.loop-i.invariant.apart in
    let units = all_joined c.args.body.now c.args.used c.loop-i.body c.replace-2.new.body c.loop-i.last c.loop-i.end c.loop-i.i c.requires.within c.loop-i.auto.body (omega arith) (c.replace-2.ensures.units (16 * (c.loop-i.end + 1)) (omega arith) (omega arith)) c.loop-i.invariant in
    rw c.from.ensures (join_accepted c.args.body.now c.replace-2.new.body c.args.used c.loop-i.end c.requires.within (omega arith) (omega arith) c.requires.lawful units)

pub returns-clause-rest : goal.returns-clause-rest
returns-clause-rest c k past =
    let some = (accepted (2 ^ 63) c.args.body.now c.args.used c.requires.within c.requires.lawful).some in
    let apart = c.loop-i.invariant.apart in
    ap (λ (xs : List ℕ). get_or xs k 0) c.replace-2.ensures.spelled ∙ put_elsewhere c.loop-i.end c.loop-i.last c.loop-i.body k (omega arith) (inr (omega arith)) ∙ c.loop-i.invariant.behind k (omega arith)

pub returns-clause-apart : goal.returns-clause-apart
returns-clause-apart c = subst AreApart (sym (returns-clause-units c)) (apart-joined (units_of (take c.args.used c.args.body.now)))

pub returns-clause-bytes : goal.returns-clause-bytes
returns-clause-bytes c k = ap (λ (us : List ExtentUnit). block_of us (k / 4096)) (returns-clause-units c) ∙ block_of-joined (units_of (take c.args.used c.args.body.now)) (k / 4096)
