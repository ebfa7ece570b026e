use Rattle.std.proofs.Common.{[], ◌∷◌, refl, subst, sym}
use Rattle.std.specs.Prelude.{Option}
use Rattle.r4_extent_asks.specs.r4_bodies.Told.{intervals_of}
use Rattle.r4_content.specs.Held.{interval_of}
use Rattle.r4_content.specs.declared.edits.Interval.{Interval}
use Rattle.r4_extent_reaching.specs.r4_touching.Changed.{AddsKeys}
use Rattle.r4_extent_reaching.proofs.r4_touching.Adding.{adds_one}
use Rattle.r4_extent_reach.proofs.keys.add_read.Goals as goal

pub returns-in_ok-push : goal.returns-in_ok-push
returns-in_ok-push c =
    let one = adds_one c.args.keys.now.items c.push.new.self.items c.in-Some.read (interval_of c.in-Some.read ∷ [])
    c.in_ok-push.ensures.items (λ k low high. refl) in
    subst (λ (o : Option Interval). AddsKeys c.args.keys.now.items (intervals_of o) c.push.new.self.items)
    (sym c.in-Some.is) one
