use Rattle.std.proofs.Common.{sym}
use Rattle.r4_core.proofs.Emptied.{keeps_emptied, may_clean, may_end, nothing_as}
use Rattle.r4_core.proofs.core_state.Core.empty.Goals as goal

pub head-requires-clause-atom : goal.head-requires-clause-atom
head-requires-clause-atom g c =
    let asked = rw (← c.self.view_is) at c.requires in
    let x = nothing_as _ asked c.in-Some.commit (sym c.in-Some.ensures.value) in
    (may_end _ (g.D.Device.state c.self.inside.dev) _ c.in-Some.commit c.self.invariant x).0

pub head-requires-clause-sealed : goal.head-requires-clause-sealed
head-requires-clause-sealed g c =
    let asked = rw (← c.self.view_is) at c.requires in
    let x = nothing_as _ asked c.in-Some.commit (sym c.in-Some.ensures.value) in
    (may_end _ (g.D.Device.state c.self.inside.dev) _ c.in-Some.commit c.self.invariant x).1

pub clean-requires-clause-atom : goal.clean-requires-clause-atom
clean-requires-clause-atom g c =
    let asked = rw (← c.self.view_is) at c.requires in
    let x = nothing_as _ asked c.in-Some.commit (sym c.in-Some.ensures.value) in
    (may_clean _ (g.D.Device.state c.self.inside.dev) _ c.in-Some.commit c.self.invariant x c.head.new.atoms
    c.head.ensures.atoms).0

pub clean-requires-clause-sealed : goal.clean-requires-clause-sealed
clean-requires-clause-sealed g c =
    let asked = rw (← c.self.view_is) at c.requires in
    let x = nothing_as _ asked c.in-Some.commit (sym c.in-Some.ensures.value) in
    (may_clean _ (g.D.Device.state c.self.inside.dev) _ c.in-Some.commit c.self.invariant x c.head.new.atoms
    c.head.ensures.atoms).1

pub invariant_of-self : goal.invariant_of-self
invariant_of-self g c =
    let asked = rw (← c.self.view_is) at c.requires in
    let x = nothing_as _ asked c.in-Some.commit (sym c.in-Some.ensures.value) in
    keeps_emptied _ (g.D.Device.state c.self.inside.dev) _ c.in-Some.commit c.self.invariant x c.head.new.atoms
    c.clean.new.self
    c.take.new.self c.clock-clock.result c.head.new.trace c.head.ensures.atoms c.clean.ensures.atoms
    c.clean.ensures.owners c.take.ensures.after c.clock-clock.ensures c.head.ensures.told
