use Rattle.std.proofs.Common.{◌+◌, map, ◌∷◌, [], ap}
use Rattle.std.proofs.lemmas.Result.{on_ok_weaker}
use Rattle.r4_base.specs.Key.{rank}
use Rattle.r4_content.specs.Edited.{put_keys}
use Rattle.r4_content.specs.Held.{pair_of}
use Rattle.r4_extent_asks.proofs.Adding.{adds_both, adds_none, adds_one, nothing_of}
use Rattle.r4_extent_asks.proofs.intervals.+add_values.Goals as goal

pub returns-in-None : goal.returns-in-None
returns-in-None t c = adds_none c.args.keys.now.items (put_keys (map pair_of c.args.values.now))
    (ap (λ vs. put_keys (map pair_of vs)) (nothing_of c.args.values.now c.in-None.ensures.cases))

pub returns-in_ok-push-in-Some : goal.returns-in_ok-push-in-Some
returns-in_ok-push-in-Some t c =
    on_ok_weaker c.add_values.result
    (adds_both c.args.keys.now.items c.push.new.self.items c.add_values.new.keys.items
    ((rank c.in-Some.field-0-0.now.0, rank c.in-Some.field-0-0.now.0 + 1) ∷ [])
    (put_keys (map pair_of c.in-Some.rest.now)) (put_keys (map pair_of c.args.values.now))
    (ap (λ vs. put_keys (map pair_of vs)) c.in-Some.ensures.cases.0)
    (adds_one c.args.keys.now.items c.push.new.self.items c.one_key.result
    ((rank c.in-Some.field-0-0.now.0, rank c.in-Some.field-0-0.now.0 + 1) ∷ []) c.in_ok-push-in-Some.ensures.items
    c.one_key.ensures)) c.add_values.ensures
