use Rattle.std.proofs.Common.{ℕ, Some, subst, sym}
use Rattle.r4_served.specs.Serving.{IsLeft}
use Rattle.r4_served.proofs.r4_take.Sent.{on_any}
use Rattle.r4_turns.specs.Turns.{IsBehind, IsNext}
use Rattle.r4_next.specs.Taking.{IsLooked, Takes}
use Rattle.r4_next.proofs.InTurn.{IsOn, begins, finished_before, goes_on, next_of_old, on_finished, on_waiting}
use Rattle.r4_next.proofs.InTurn.{script_is, serves, takes_none, takes_served}
use Rattle.r4_next.proofs.Read.{can_before, cannot_before, left_both}
use Rattle.r4_next.proofs.taking.take.Goals as goal

pub loop-script-init : goal.loop-script-init
loop-script-init g c = (begins g.D.Device.state c.args.core.now, tt, tt, c.requires.few)

pub returns-in_err-look_at-clause-err : goal.returns-in_err-look_at-clause-err
returns-in_err-look_at-clause-err g c =
    let old = c.args.core.now in
    let now = c.loop-script.core in
    let new = c.look_at.new.core in
    let d = g.D.Device.state in
    on_any c.from_residual.result (IsLeft (d old.dev) (d new.dev) old new)
    (left_both (d old.dev) (d now.dev) (d new.dev) old now new c.loop-script.invariant.0.read
    c.in_err-look_at.ensures.err)

pub returns-in-Takes-clause-ok : goal.returns-in-Takes-clause-ok
returns-in-Takes-clause-ok g c =
    let old = c.args.core.now in
    let now = c.loop-script.core in
    let new = c.look_at.new.core in
    let d = g.D.Device.state in
    let s = c.in-Some.script in
    let on = c.loop-script.invariant.0 in
    let next = next_of_old d old now on.read c.loop-script.last s.0
    (subst (λ t. IsNext t c.loop-script.last s.0) c.turns.ensures c.in-Some.ensures.next) in
    let found = subst (IsLooked d now new s) c.in-Takes.is c.in_ok-look_at.ensures.ok in
    takes_served d old new c.in-Takes.taken
    (serves d old now new c.loop-script.last c.loop-script.first on s next c.in-Takes.taken
    (can_before (d old.dev) (d now.dev) old now on.read s.0 found.0) found.1)

pub loop-script-preserved-in-Finished : goal.loop-script-preserved-in-Finished
loop-script-preserved-in-Finished g c =
    let old = c.args.core.now in
    let now = c.loop-script.core in
    let new = c.look_at.new.core in
    let d = g.D.Device.state in
    let s = c.in-Some.script in
    let (on, script, number, few) = c.loop-script.invariant in
    let next = next_of_old d old now on.read c.loop-script.last s.0
    (subst (λ t. IsNext t c.loop-script.last s.0) c.turns.ensures c.in-Some.ensures.next) in
    let found = subst (IsLooked d now new s) c.in-Finished.is c.in_ok-look_at.ensures.ok in
    let finished = finished_before d old now on.read s.0 found.0 in
    let on_then = subst (λ z. IsOn d old z (Some s) c.loop-script.first) (sym found.2)
    (on_finished d old now new c.loop-script.last c.loop-script.first on s next finished) in
    goes_on d old new s c.loop-script.first on_then
    (script_is d old now new c.loop-script.last c.loop-script.first on s next) c.is_ranked.ensures.number c.requires.few

pub loop-script-preserved : goal.loop-script-preserved
loop-script-preserved g c =
    let old = c.args.core.now in
    let now = c.loop-script.core in
    let new = c.look_at.new.core in
    let d = g.D.Device.state in
    let s = c.in-Some.script in
    let w = c.in-Waits.why in
    let last = c.loop-script.last in
    let first = c.loop-script.first in
    let on = c.loop-script.invariant.0 in
    let next = next_of_old d old now on.read last s.0
    (subst (λ t. IsNext t last s.0) c.turns.ensures c.in-Some.ensures.next) in
    let found = subst (IsLooked d now new s) c.in-Waits.is c.in_ok-look_at.ensures.ok in
    let cannot = cannot_before d (d old.dev) (d now.dev) (d new.dev) old now on.read s.0 w found.0 in
    let on_then = subst (IsOn d old new (Some s)) (sym c.or-first.ensures)
    (on_waiting d old now new last first on s next w cannot found.1) in
    goes_on d old new s c.or-first.result on_then (script_is d old now new last first on s next)
    c.is_ranked.ensures.number c.requires.few

pub returns-clause-ok : goal.returns-clause-ok
returns-clause-ok g c =
    let old = c.args.core.now in
    let now = c.loop-script.core in
    let d = g.D.Device.state in
    let on = c.loop-script.invariant.0 in
    let none : (s : ℕ) → IsBehind now.turns c.loop-script.last s → ⊥ = λ s behind. c.next_behind.ensures.none c.in_default.is s
    (subst (λ t. IsBehind t c.loop-script.last s) (sym c.turns.ensures) behind) in
    subst (Takes d old now) (sym c.waiting_for.ensures)
    (takes_none d old now c.loop-script.last none c.loop-script.first on)
