use Rattle.std.proofs.Common.{◌≡◌, ◌++◌, ◌∙◌, inl, inr, refl, sym, ap, subst, List, ℕ}
use Rattle.std.specs.Prelude.{IfSome}
use Rattle.std.specs.Arc.{arc_value}
use Rattle.r4_cell.specs.Seen.{CellSeen}
use Rattle.r4_replay.proofs.Overlaps.{has_one}
use Rattle.r4_list.specs.Frame.{IsOpenAt}
use Rattle.r4_list.specs.declared.frame.Frame.{Frame}
use Rattle.r4_list.proofs.BelowSteps.{none_there, one_dir, one_stopped}
use Rattle.r4_list.specs.Listing.{line_of}
use Rattle.r4_list.specs.Walking.{open_dir}
use Rattle.r4_list.specs.declared.fault.Stop.TheVariants.{Fetch, Memory}
use Rattle.r4_list.proofs.BelowPrints.{printed_whole, same_appends, stopped_other, whole_part}
use Rattle.r4_list.proofs.Stages.{went_same, went_both, went_written, went_fetched, ended_well, ended_writing, ended_without}
use Rattle.r4_list.proofs.below.Below.print_one.Goals as goal

pub returns-in_err-write-clause-printed : goal.returns-in_err-write-clause-printed
returns-in_err-write-clause-printed g c =
    ended_writing c.args.root.now _ _ _ _ _ _ (went_same (g.P.Pool.state c.args.pool.now) (g.P.Pool.device c.args.pool.now) (g.K.Sink.state c.args.out.now)) c.deref-2.result.now _ c.from_residual-in_err-write.result c.in_err-write.field-0.0 c.in_err-write.ensures c.from_residual-in_err-write.ensures.1

pub returns-in_err-push-clause-printed : goal.returns-in_err-push-clause-printed
returns-in_err-push-clause-printed g c =
    ended_without c.args.root.now _ _ _ _ _ _ (went_both _ _ _ _ _ _ _ _ _ (went_written c.deref-2.result.now (g.P.Pool.state c.args.pool.now) (g.P.Pool.device c.args.pool.now) _ _ _ c.write.ensures) (went_fetched c.args.root.now _ _ _ _ _ _ c.first_frame.ensures.fetched)) c.from_residual-in_err-push.result c.from_residual-in_err-push.ensures.1

pub returns-clause-printed : goal.returns-clause-printed
returns-clause-printed g c =
    ended_well c.args.root.now _ _ _ _ _ _ (went_both _ _ _ _ _ _ _ _ _ (went_written c.deref-2.result.now (g.P.Pool.state c.args.pool.now) (g.P.Pool.device c.args.pool.now) _ _ _ c.write.ensures) (went_fetched c.args.root.now _ _ _ _ _ _ c.first_frame.ensures.fetched)) tt

pub returns-in_err-frame-clause-over : goal.returns-in_err-frame-clause-over
returns-in_err-frame-clause-over g c = λ n image m has over.
    let h = c.in_err-frame.ensures.over n image m has over (open_dir c.args.object.now c.args.self.now.path.items 0) refl refl in
    one_stopped has c.args.root.now c.args.object.now c.args.attr.now c.args.self.now _ _ _ _ c.from_residual-in_err-frame.result (Fetch c.in_err-frame.field-0.0) c.from_residual-in_err-frame.ensures.1
    (stopped_other has c.args.root.now (line_of c.args.attr.now c.args.self.now.path.items) _ _ _ h.over c.from_residual-in_err-frame.result _ c.from_residual-in_err-frame.ensures.1 h.undamaged (whole_part _ _ _ c.in_ok-write.field-0 (same_appends _ _ _ _ _ (c.deref-2.ensures.value ∙ (c.in_ok-push_line.ensures ∙ (ap (λ (t : List ℕ). t ++ line_of c.args.attr.now c.deref.result.now) c.clear.ensures.items ∙ ap (line_of c.args.attr.now) c.deref.ensures.value))) c.in_ok-write.ensures)))

pub returns-in_default-clause-over : goal.returns-in_default-clause-over
returns-in_default-clause-over g c = λ n image m has over.
    let h = c.in_ok-frame.ensures.over n image m has over (open_dir c.args.object.now c.args.self.now.path.items 0) refl refl in
    one_dir has c.args.root.now c.args.object.now c.args.attr.now c.args.self.now _ _ _ _ tt
    (printed_whole has c.args.root.now (line_of c.args.attr.now c.args.self.now.path.items) _ _ _ h.over tt c.in_ok-write.field-0 (same_appends _ _ _ _ _ (c.deref-2.ensures.value ∙ (c.in_ok-push_line.ensures ∙ (ap (λ (t : List ℕ). t ++ line_of c.args.attr.now c.deref.result.now) c.clear.ensures.items ∙ ap (line_of c.args.attr.now) c.deref.ensures.value))) c.in_ok-write.ensures))
    (sym c.is_directory.ensures ∙ c.if-not-is_directory.false) refl
    (λ new. (has_one c.args.self.now.printed c.insert.new.self c.args.object.now.oid.0 c.in_ok-insert.ensures.updates, inl (none_there c.in_ok-frame.field-0 c.in_default.is h.found.0, refl)))

pub returns-in_err-push-clause-over : goal.returns-in_err-push-clause-over
returns-in_err-push-clause-over g c = λ n image m has over.
    let h = c.in_ok-frame.ensures.over n image m has over (open_dir c.args.object.now c.args.self.now.path.items 0) refl refl in
    one_stopped has c.args.root.now c.args.object.now c.args.attr.now c.args.self.now _ _ _ _ c.from_residual-in_err-push.result Memory c.from_residual-in_err-push.ensures.1
    (stopped_other has c.args.root.now (line_of c.args.attr.now c.args.self.now.path.items) _ _ _ h.over c.from_residual-in_err-push.result _ c.from_residual-in_err-push.ensures.1 tt (whole_part _ _ _ c.in_ok-write.field-0 (same_appends _ _ _ _ _ (c.deref-2.ensures.value ∙ (c.in_ok-push_line.ensures ∙ (ap (λ (t : List ℕ). t ++ line_of c.args.attr.now c.deref.result.now) c.clear.ensures.items ∙ ap (line_of c.args.attr.now) c.deref.ensures.value))) c.in_ok-write.ensures)))

pub returns-clause-over : goal.returns-clause-over
returns-clause-over g c = λ n image m has over.
    let h = c.in_ok-frame.ensures.over n image m has over (open_dir c.args.object.now c.args.self.now.path.items 0) refl refl in
    let path = subst (λ o. IfSome o (λ (frame : Frame). frame.path ≡ c.len-2.result)) c.in-Some.is c.in_ok-frame.ensures.path in
    one_dir has c.args.root.now c.args.object.now c.args.attr.now c.args.self.now _ _ _ _ tt
    (printed_whole has c.args.root.now (line_of c.args.attr.now c.args.self.now.path.items) _ _ _ h.over tt c.in_ok-write.field-0 (same_appends _ _ _ _ _ (c.deref-2.ensures.value ∙ (c.in_ok-push_line.ensures ∙ (ap (λ (t : List ℕ). t ++ line_of c.args.attr.now c.deref.result.now) c.clear.ensures.items ∙ ap (line_of c.args.attr.now) c.deref.ensures.value))) c.in_ok-write.ensures))
    (sym c.is_directory.ensures ∙ c.if-not-is_directory.false) refl
    (λ new. (
      has_one c.args.self.now.printed c.insert.new.self c.args.object.now.oid.0 c.in_ok-insert.ensures.updates,
      inr (record {
        frame = c.in-Some.frame;
        is = c.in_ok-push.ensures.items;
        of = record {
          place = subst (λ o. IfSome o (λ (frame : Frame). IsOpenAt has (open_dir c.args.object.now c.args.self.now.path.items 0) frame.dir.0 (arc_value {X = CellSeen} frame.leaf) frame.item frame.entry)) c.in-Some.is h.found.1;
          path = path ∙ (c.len-2.ensures ∙ c.args.self.now.path.ok.0);
        };
      }),
    ))
