use Rattle.std.proofs.Common.{◌≡◌, ◌+◌, ◌-◌, ◌<◌, ◌∷◌, ◌∙◌, length, take, true, ap, subst, arith}
use Rattle.std.proofs.lemmas.Grind.{common_steps}
use Rattle.std.proofs.lemmas.Result.{on_err_weaker}
use Rattle.r4_base.specs.Key.{rank}
use Rattle.r4_base.specs.Name.{key_of_name}
use Rattle.r4_content.specs.Objects.{is_dir}
use Rattle.r4_content.specs.Ways.{to_object}
use Rattle.r4_dir.specs.Coming.{place_of}
use Rattle.r4_gather.specs.Asking.{EndsIn, IsAt}
use Rattle.r4_gather.proofs.Below.{last_is}
use Rattle.r4_gather.proofs.Quiet.{free_stops}
use Rattle.r4_gather.proofs.entries.see_free.Goals as goal

pub returns-clause-stops : goal.returns-clause-stops
returns-clause-stops g c =
    let path = c.args.path.now in
    let old = g.S.Sight.state c.args.sight.now in
    let mid = g.S.Sight.state c.see_way.new.sight in
    let new = g.S.Sight.state c.see.new.self in
    let p = place_of c.in-Some.place in
    let some : 0 < length path = grind arith in
    let dir : is_dir p.here ≡ true = grind (arith, common_steps) in
    let at : IsAt (to_object (take (length path - 1) path)) old mid p = rw c.in-Some.is at c.in_ok-place.ensures.comes
    in
    let key = c.name_key.ensures ∙ ap (λ n. key_of_name p.here.target.oid.0 n)
    (last_is path c.index-path-last.result some c.index-path-last.is) in
    on_err_weaker c.see.result (λ stops. free_stops path some old mid p at dir new c.see.ensures.later
    (subst (λ k. EndsIn new.asked ((rank k, rank k + 1) ∷ mid.asked)) key stops)) c.see.ensures.stops
