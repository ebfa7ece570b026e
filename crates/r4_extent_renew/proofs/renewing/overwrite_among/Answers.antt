use Rattle.std.proofs.Common.{◌≡◌, ◌++◌, List, map, refl, ap, subst, ◌∙◌}
use Rattle.std.proofs.lemmas.Result.{on_ok_weaker}
use Rattle.std.specs.Arc.{arc_value}
use Rattle.r4_twig_work.specs.r4_cell.Seen.{CellSeen}
use Rattle.r4_content.specs.Held.{edits_of}
use Rattle.r4_extent_renew.specs.Overwriting.{AreOverwritten, bytes_set}
use Rattle.r4_extent_renew.proofs.Overwritten.{renewed_as}
use Rattle.r4_extent_renew.proofs.Picked.{picked_does, picked_stand_as}
use Rattle.r4_extent_renew.proofs.renewing.overwrite_among.Goals as goal

pub overwrite-requires : goal.overwrite-requires
overwrite-requires c =
    let (t, (r, (f, is))) = c.requires.can in
    let cells : List CellSeen = map (λ x. arc_value x) c.args.cells.now in
    let (picked, picked_are, among) = c.in_ok-pick_each.ensures in
    let those : map (λ x. arc_value x) c.as_slice.result.now ≡ picked =
    ap (map (λ x. arc_value x)) c.as_slice.ensures.value ∙ (picked_are ∙ ap (λ xs. map (λ x. arc_value x) xs ++ picked) c.new-blocks.ensures.items) in
    record { can = (t, (r, (f, picked_stand_as t r f c.args.set.now (edits_of c.args.edits.now) cells picked _ those among is))) }

pub returns-clause-working : goal.returns-clause-working
returns-clause-working c =
    let cells : List CellSeen = map (λ x. arc_value x) c.args.cells.now in
    let (picked, picked_are, among) = c.in_ok-pick_each.ensures in
    let those : map (λ x. arc_value x) c.as_slice.result.now ≡ picked =
    ap (map (λ x. arc_value x)) c.as_slice.ensures.value ∙ (picked_are ∙ ap (λ xs. map (λ x. arc_value x) xs ++ picked) c.new-blocks.ensures.items) in
    on_ok_weaker c.overwrite.result (λ done t r f is. done t r f (picked_stand_as t r f c.args.set.now (edits_of c.args.edits.now) cells picked _ those among is)) c.overwrite.ensures.working

pub returns-clause-changes : goal.returns-clause-changes
returns-clause-changes c =
    let (t, (r, (f, is))) = c.requires.can in
    let e = edits_of c.args.edits.now in
    let cells : List CellSeen = map (λ x. arc_value x) c.args.cells.now in
    let (picked, picked_are, among) = c.in_ok-pick_each.ensures in
    let those : map (λ x. arc_value x) c.as_slice.result.now ≡ picked =
    ap (map (λ x. arc_value x)) c.as_slice.ensures.value ∙ (picked_are ∙ ap (λ xs. map (λ x. arc_value x) xs ++ picked) c.new-blocks.ensures.items) in
    on_ok_weaker c.overwrite.result (λ does. picked_does t r f c.args.set.now e cells picked _ those among is c.overwrite.new.set (bytes_set e) does) c.overwrite.ensures.changes

pub returns-clause-renewed : goal.returns-clause-renewed
returns-clause-renewed c =
    let e = edits_of c.args.edits.now in
    let w = c.args.set.now in
    let cells : List CellSeen = map (λ x. arc_value x) c.args.cells.now in
    let (picked, picked_are, among) = c.in_ok-pick_each.ensures in
    let those : map (λ x. arc_value x) c.as_slice.result.now ≡ picked =
    ap (map (λ x. arc_value x)) c.as_slice.ensures.value ∙ (picked_are ∙ ap (λ xs. map (λ x. arc_value x) xs ++ picked) c.new-blocks.ensures.items) in
    on_ok_weaker c.overwrite.result (λ done. (
      picked,
      (
        done.0,
        (
          among,
          (
            subst (λ xs. AreOverwritten e xs done.0) those done.1.0,
            λ t r f is. renewed_as t r f w c.overwrite.new.set picked done.0 _ _ those refl (done.1.1 t r f (picked_stand_as t r f w e cells picked _ those among is)),
          ),
        ),
      ),
    )) c.overwrite.ensures.renewed

pub returns-clause-measured : goal.returns-clause-measured
returns-clause-measured c =
    let cells : List CellSeen = map (λ x. arc_value x) c.args.cells.now in
    let (picked, picked_are, among) = c.in_ok-pick_each.ensures in
    let those : map (λ x. arc_value x) c.as_slice.result.now ≡ picked =
    ap (map (λ x. arc_value x)) c.as_slice.ensures.value ∙ (picked_are ∙ ap (λ xs. map (λ x. arc_value x) xs ++ picked) c.new-blocks.ensures.items) in
    on_ok_weaker c.overwrite.result (λ done t r f b is m. done t r f b (picked_stand_as t r f c.args.set.now (edits_of c.args.edits.now) cells picked _ those among is) m) c.overwrite.ensures.measured
