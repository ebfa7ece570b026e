use Rattle.std.proofs.Common.{map, ◌∷◌, [], ap}
use Rattle.std.proofs.lemmas.Result.{on_ok_weaker}
use Rattle.r4_seeing.specs.r4_gather.Finding.{asked_keys}
use Rattle.r4_touching.proofs.Adding.{adds_both, adds_none, adds_one, nothing_of}
use Rattle.r4_touching.proofs.changed.+add_asked.Goals as goal

pub returns-in-None : goal.returns-in-None
returns-in-None t c = adds_none c.args.keys.now.items (map asked_keys c.args.asked.now)
    (ap (map asked_keys) (nothing_of c.args.asked.now c.in-None.ensures.cases))

pub returns-in_ok-push-in-Some : goal.returns-in_ok-push-in-Some
returns-in_ok-push-in-Some t c =
    on_ok_weaker c.add_asked.result
    (adds_both c.args.keys.now.items c.push.new.self.items c.add_asked.new.keys.items
    (asked_keys c.in-Some.first.now ∷ []) (map asked_keys c.in-Some.rest.now) (map asked_keys c.args.asked.now)
    (ap (map asked_keys) c.in-Some.ensures.cases.0)
    (adds_one c.args.keys.now.items c.push.new.self.items c.keys_of_question.result
    (asked_keys c.in-Some.first.now ∷ []) c.in_ok-push-in-Some.ensures.items c.keys_of_question.ensures))
    c.add_asked.ensures
