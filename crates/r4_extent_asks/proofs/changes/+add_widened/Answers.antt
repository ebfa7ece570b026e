use Rattle.std.proofs.Common.{map, ap}
use Rattle.std.proofs.lemmas.Result.{on_ok_weaker}
use Rattle.r4_content.specs.Held.{interval_of}
use Rattle.r4_twig_asks.specs.r4_reach.Touched.{with_blocks}
use Rattle.r4_extent_asks.proofs.Adding.{nothing_of}
use Rattle.r4_extent_asks.proofs.Widened.{keys_next, keys_none, keys_one}
use Rattle.r4_extent_asks.proofs.changes.+add_widened.Goals as goal

pub returns-in-None : goal.returns-in-None
returns-in-None t c = keys_none c.args.keys.now.items (map (with_blocks c.args.body.now) (map interval_of c.args.more.now))
    (ap (λ is. map (with_blocks c.args.body.now) (map interval_of is)) (nothing_of c.args.more.now c.in-None.ensures.cases))

pub returns-in_ok-push-in-Some : goal.returns-in_ok-push-in-Some
returns-in_ok-push-in-Some t c =
    let f = with_blocks c.args.body.now in
    on_ok_weaker c.add_widened.result
    (keys_next c.args.keys.now.items c.push.new.self.items c.add_widened.new.keys.items
    (f (interval_of c.in-Some.first.now)) (map f (map interval_of c.in-Some.rest.now))
    (map f (map interval_of c.args.more.now))
    (ap (λ is. map f (map interval_of is)) c.in-Some.ensures.cases.0)
    (keys_one c.args.keys.now.items c.push.new.self.items c.widened.result (f (interval_of c.in-Some.first.now))
    c.in_ok-push-in-Some.ensures.items c.widened.ensures)) c.add_widened.ensures
