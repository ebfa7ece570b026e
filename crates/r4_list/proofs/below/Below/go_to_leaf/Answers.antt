use Rattle.std.proofs.Common.{refl, inl, inr, subst, ◌≡◌, ◌∙◌, ◌<◌, ◌*◌, ◌-◌, ◌^◌, length}
use Rattle.std.specs.Prelude.{IfSome}
use Rattle.std.specs.Arc.{arc_value}
use Rattle.r4_base.specs.Key.{rank}
use Rattle.r4_cell.specs.Seen.{CellSeen}
use Rattle.r4_list.specs.declared.frame.Frame.{Frame}
use Rattle.r4_list.specs.Frame.{IsOpenAt}
use Rattle.r4_list.specs.Walking.{open_from}
use Rattle.r4_list.specs.declared.fault.Stop.TheVariants.{Fetch, Memory}
use Rattle.r4_list.proofs.BelowSteps.{low_of, none_there, not_ok, stopped_so}
use Rattle.r4_list.proofs.BelowLeft.{pushed_less, weight_later}
use Rattle.r4_list.proofs.below.Below.go_to_leaf.Goals as goal

pub returns-clause-smaller : goal.returns-clause-smaller
returns-clause-smaller g c =
    let more = subst (λ o. IfSome o (λ next. rank (arc_value {X = CellSeen} c.args.frame.leaf).hi < rank (arc_value {X = CellSeen} next.leaf).hi)) c.in-Some.is c.in_ok-next.ensures.more in
    let small = subst (λ o. IfSome o (λ (next : Frame). rank (arc_value {X = CellSeen} c.args.frame.leaf).hi < 2 ^ 256)) c.in-Some.is c.in_ok-next.ensures.within in
    pushed_less ((2 ^ 64 - length c.args.self.now.printed.keys) * 2 ^ 300) _ c.args.self.now.frames.items c.push.new.self.items c.in-Some.next c.in_ok-push.ensures.items
    (weight_later c.args.frame c.in-Some.next more small)

pub returns-in_err-next-clause-over : goal.returns-in_err-next-clause-over
returns-in_err-next-clause-over g c = λ n image m has over f of.
    let beyond = open_from f (rank (arc_value {X = CellSeen} c.args.frame.leaf).hi) in
    let h = c.in_err-next.ensures.over n image m has over beyond of.place.dir_is refl (low_of has f c.args.frame of) of.place.stored in
    record { over = h.over; goes = not_ok _ (Fetch c.in_err-next.field-0.0) c.from_residual.result c.from_residual.ensures.1; undamaged = stopped_so c.from_residual.result (Fetch c.in_err-next.field-0.0) c.from_residual.ensures.1 h.undamaged }

pub returns-in_default-clause-over : goal.returns-in_default-clause-over
returns-in_default-clause-over g c = λ n image m has over f of.
    let beyond = open_from f (rank (arc_value {X = CellSeen} c.args.frame.leaf).hi) in
    let h = c.in_ok-next.ensures.over n image m has over beyond of.place.dir_is refl (low_of has f c.args.frame of) of.place.stored in
    record { over = h.over; goes = (refl, refl, inl (none_there c.in_ok-next.field-0 c.in_default.is h.found.0, refl)); undamaged = tt }

pub returns-in_err-push-clause-over : goal.returns-in_err-push-clause-over
returns-in_err-push-clause-over g c = λ n image m has over f of.
    let beyond = open_from f (rank (arc_value {X = CellSeen} c.args.frame.leaf).hi) in
    let h = c.in_ok-next.ensures.over n image m has over beyond of.place.dir_is refl (low_of has f c.args.frame of) of.place.stored in
    record { over = h.over; goes = not_ok _ Memory c.from_residual-in_err-push.result c.from_residual-in_err-push.ensures.1; undamaged = stopped_so c.from_residual-in_err-push.result Memory c.from_residual-in_err-push.ensures.1 tt }

pub returns-clause-over : goal.returns-clause-over
returns-clause-over g c = λ n image m has over f of.
    let beyond = open_from f (rank (arc_value {X = CellSeen} c.args.frame.leaf).hi) in
    let h = c.in_ok-next.ensures.over n image m has over beyond of.place.dir_is refl (low_of has f c.args.frame of) of.place.stored in
    let path = subst (λ o. IfSome o (λ (next : Frame). next.path ≡ c.args.frame.path)) c.in-Some.is c.in_ok-next.ensures.path in
    record {
      over = h.over;
      goes = (
        refl,
        refl,
        inr (record {
          frame = c.in-Some.next;
          is = c.in_ok-push.ensures.items;
          of = record { place = subst (λ o. IfSome o (λ (next : Frame). IsOpenAt has beyond next.dir.0 (arc_value {X = CellSeen} next.leaf) next.item next.entry)) c.in-Some.is h.found.1; path = path ∙ of.path };
        }),
      );
      undamaged = tt;
    }
