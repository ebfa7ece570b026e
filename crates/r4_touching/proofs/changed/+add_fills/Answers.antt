use Rattle.std.proofs.Common.{ap}
use Rattle.std.specs.List.{flat_map}
use Rattle.std.proofs.lemmas.Result.{on_ok_weaker}
use Rattle.r4_content.specs.Edited.{put_keys}
use Rattle.r4_content.specs.Held.{fill_pairs}
use Rattle.r4_content.specs.declared.edits.Interval.{Interval}
use Rattle.r4_touching.proofs.Adding.{adds_both, adds_none, adds_one, fill_keys, keys_both, nothing_of}
use Rattle.r4_touching.proofs.changed.+add_fills.Goals as goal

pub returns-in-None : goal.returns-in-None
returns-in-None t c = adds_none c.args.keys.now.items (put_keys (flat_map fill_pairs c.args.fills.now))
    (ap (λ fs. put_keys (flat_map fill_pairs fs)) (nothing_of c.args.fills.now c.in-None.ensures.cases))

pub returns-in_ok-push-in-Some : goal.returns-in_ok-push-in-Some
returns-in_ok-push-in-Some t c =
    let f = c.in-Some.first.now in
    let r : Interval = record { from = f.from; to = f.to } in
    on_ok_weaker c.add_fills.result
    (adds_both c.args.keys.now.items c.push.new.self.items c.add_fills.new.keys.items (put_keys (fill_pairs f))
    (put_keys (flat_map fill_pairs c.in-Some.rest.now)) (put_keys (flat_map fill_pairs c.args.fills.now))
    (keys_both (fill_pairs f) (flat_map fill_pairs c.in-Some.rest.now) (flat_map fill_pairs c.args.fills.now)
    (ap (flat_map fill_pairs) c.in-Some.ensures.cases.0))
    (adds_one c.args.keys.now.items c.push.new.self.items r (put_keys (fill_pairs f)) c.in_ok-push-in-Some.ensures.items
    (λ k low high. fill_keys f k))) c.add_fills.ensures
