use Rattle.std.proofs.Common.{map, ◌∷◌, [], ap, refl}
use Rattle.std.proofs.lemmas.Result.{on_ok_weaker}
use Rattle.r4_content.specs.Held.{interval_of}
use Rattle.r4_extent_asks.proofs.Adding.{adds_both, adds_none, adds_one, nothing_of}
use Rattle.r4_extent_asks.proofs.intervals.+add_intervals.Goals as goal

pub returns-in-None : goal.returns-in-None
returns-in-None t c = adds_none c.args.keys.now.items (map interval_of c.args.more.now)
    (ap (map interval_of) (nothing_of c.args.more.now c.in-None.ensures.cases))

pub returns-in_ok-push-in-Some : goal.returns-in_ok-push-in-Some
returns-in_ok-push-in-Some t c =
    on_ok_weaker c.add_intervals.result
    (adds_both c.args.keys.now.items c.push.new.self.items c.add_intervals.new.keys.items
    (interval_of c.in-Some.first.now ∷ []) (map interval_of c.in-Some.rest.now) (map interval_of c.args.more.now)
    (ap (map interval_of) c.in-Some.ensures.cases.0)
    (adds_one c.args.keys.now.items c.push.new.self.items c.in-Some.first.now
    (interval_of c.in-Some.first.now ∷ []) c.in_ok-push-in-Some.ensures.items (λ b k low. refl)))
    c.add_intervals.ensures
