use Rattle.std.proofs.Common.{◌∙◌, ◌+◌, ◌++◌, ◌∷◌, [], List, drop, map, sym, subst}
use Rattle.r4_content.specs.Objects.{Object as SeenObject}
use Rattle.r4_content.specs.Ways.{Place, step}
use Rattle.r4_dir.specs.Coming.{object_of}
use Rattle.r4_search.proofs.Walks.{map_push}
use Rattle.r4_gather.specs.Asking.{HasEnded, IsAt, IsStopped}
use Rattle.r4_gather.specs.Walking.{IsWalking}
use Rattle.r4_gather.proofs.Beginning.{always_err}
use Rattle.r4_gather.proofs.Staying.{stays_both}
use Rattle.r4_gather.proofs.Steps.{drop_item, walking_stops, way_ends, way_goes_on, way_stops}
use Rattle.r4_gather.proofs.ways.see_way.Goals as goal

pub returns-in_err-next-clause-stops : goal.returns-in_err-next-clause-stops
returns-in_err-next-clause-stops g c =
    let path = c.args.path.now in
    let i = c.loop-name.name-index in
    let n = c.name-item.result in
    let above = map object_of c.loop-name.above.items in
    let p : Place = record { here = object_of c.loop-name.here; above = above } in
    let old = g.S.Sight.state c.args.sight.now in
    let now = g.S.Sight.state c.loop-name.sight in
    let new = g.S.Sight.state c.see_step.new.sight in
    let stops : IsStopped (λ next. step n next p) now new = c.in_err-next.ensures.stops above in
    always_err c.from_residual-in_err-next.result
    (way_stops path (drop i path) old now p c.loop-name.invariant.walk n (drop (i + 1) path)
    (drop_item path i n c.loop-name-test.true c.name-item.is) new c.in_err-next.ensures.later stops)

pub returns-in_err-push-in-Some-2-clause-stops : goal.returns-in_err-push-in-Some-2-clause-stops
returns-in_err-push-in-Some-2-clause-stops g c =
    let path = c.args.path.now in
    let i = c.loop-name.name-index in
    let n = c.name-item.result in
    let above = map object_of c.loop-name.above.items in
    let p : Place = record { here = object_of c.loop-name.here; above = above } in
    let old = g.S.Sight.state c.args.sight.now in
    let now = g.S.Sight.state c.loop-name.sight in
    let new = g.S.Sight.state c.see_step.new.sight in
    let q : Place = record { here = object_of c.in-Some-2.next; above = above ++ object_of c.loop-name.here ∷ [] } in
    let at : IsAt (λ next. step n next p) now new q = rw c.in-Some-2.is at c.in_ok-next.ensures.comes above in
    let walk = way_goes_on path (drop i path) old now p c.loop-name.invariant.walk n (drop (i + 1) path)
    (drop_item path i n c.loop-name-test.true c.name-item.is) new c.in_ok-next.ensures.later q at in
    always_err c.from_residual-in_err-push-in-Some-2.result (walking_stops path (drop (i + 1) path) old new q walk)

pub returns-in-None-clause-comes : goal.returns-in-None-clause-comes
returns-in-None-clause-comes g c =
    let path = c.args.path.now in
    let i = c.loop-name.name-index in
    let n = c.name-item.result in
    let above = map object_of c.loop-name.above.items in
    let p : Place = record { here = object_of c.loop-name.here; above = above } in
    let old = g.S.Sight.state c.args.sight.now in
    let now = g.S.Sight.state c.loop-name.sight in
    let new = g.S.Sight.state c.see_step.new.sight in
    let ends : HasEnded (λ next. step n next p) now new = rw c.in-None.is at c.in_ok-next.ensures.comes above in
    way_ends path (drop i path) old now p c.loop-name.invariant.walk n (drop (i + 1) path)
    (drop_item path i n c.loop-name-test.true c.name-item.is) new c.in_ok-next.ensures.later ends

pub loop-name-preserved : goal.loop-name-preserved
loop-name-preserved g c =
    let path = c.args.path.now in
    let i = c.loop-name.name-index in
    let n = c.name-item.result in
    let above = map object_of c.loop-name.above.items in
    let here = object_of c.loop-name.here in
    let p : Place = record { here = here; above = above } in
    let old = g.S.Sight.state c.args.sight.now in
    let now = g.S.Sight.state c.loop-name.sight in
    let new = g.S.Sight.state c.see_step.new.sight in
    let next = c.in-Some-2.next in
    let q : Place = record { here = object_of next; above = above ++ here ∷ [] } in
    let at : IsAt (λ next. step n next p) now new q = rw c.in-Some-2.is at c.in_ok-next.ensures.comes above in
    let pushed = map_push object_of c.loop-name.above.items c.push.new.self.items c.loop-name.here
    c.in_ok-push-in-Some-2.ensures.items in
    record {
      small = rw c.in-Some-2.is at c.in_ok-next.ensures.small;
      stays = stays_both (g.S.Sight.device c.args.sight.now) (g.S.Sight.device c.loop-name.sight)
          (g.S.Sight.device c.see_step.new.sight) (g.S.Sight.over c.args.sight.now)
          (g.S.Sight.over c.loop-name.sight) (g.S.Sight.over c.see_step.new.sight) c.loop-name.invariant.stays
          c.in_ok-next.ensures.stays;
      kept = c.in_ok-next.ensures.kept ∙ c.loop-name.invariant.kept;
      walk = subst (λ (xs : List SeenObject). IsWalking path (drop (i + 1) path) old new
          (record { here = object_of next; above = xs })) (sym pushed)
          (way_goes_on path (drop i path) old now p c.loop-name.invariant.walk n (drop (i + 1) path)
          (drop_item path i n c.loop-name-test.true c.name-item.is) new c.in_ok-next.ensures.later q at);
    }
