use Rattle.std.proofs.Common.{map, ◌≡◌, ◌∷◌, List, ap, arith, length, refl, subst, sym, ◌∙◌}
use Rattle.std.specs.Arc.{arc_value}
use Rattle.std.specs.Option.{option_copied, option_map}
use Rattle.std.proofs.lemmas.Result.{IfOk-weaker}
use Rattle.r4_base.specs.Key.{rank}
use Rattle.r4_extent_build.specs.r4_cell.Seen.{CellSeen}
use Rattle.r4_extent_build.specs.r4_cell.declared.change.Fresh.{Fresh}
use Rattle.r4_content.specs.Held.{edits_of}
use Rattle.r4_extent_build.specs.r4_edit.LeafParts.{HasRight, IsRightPart, right_id}
use Rattle.r4_extent_build.specs.r4_extent_demands.Putting.{put_into}
use Rattle.r4_build.specs.r4_leaf.Units.{LeafUnit}
use Rattle.r4_extent_among.specs.Among.{AreLeavesFor, numbered}
use Rattle.r4_extent_among.specs.Making.{ArePackedFrom}
use Rattle.r4_extent_among.proofs.Numbered.{counts_numbered}
use Rattle.r4_extent_among.proofs.PackedLeaves.{counted, counts, none_right, right_leaves}
use Rattle.r4_extent_among.proofs.leaves.leaves_for.Goals as goal

pub right_part-requires-clause-number : goal.right_part-requires-clause-number
right_part-requires-clause-number c =
    let us = put_into (option_copied c.args.body) (edits_of c.args.edits.now) (rank c.args.range.now.from) (rank c.args.range.now.to) in
    let few = counted us (length c.in_ok-packed.packed) c.in_ok-packed.ensures.packed.few in
    let n = ap (λ (f : Fresh). f.next) c.in_ok-packed.ensures.fresh in
    let end = ap (λ (f : Fresh). f.end) c.in_ok-packed.ensures.fresh in
    let enough = c.requires.numbers in
    omega (arith, few, n, end, enough)

pub returns-in_default-2-clause-leaves : goal.returns-in_default-2-clause-leaves
returns-in_default-2-clause-leaves c =
    let b = option_copied c.args.body in
    let e = edits_of c.args.edits.now in
    let r = c.args.range.now in
    let m = c.args.mkfs_id in
    let us = put_into b e (rank r.from) (rank r.to) in
    let next = c.args.fresh.now.next in
    let leaf = c.deref.result.now in
    let more = map (λ x. arc_value x) c.in-Some.others.now in
    let cells : c.in_ok-packed.packed ≡ leaf ∷ more
    = sym c.as_slice.ensures ∙ (ap (map (λ x. arc_value x)) c.in-Some.ensures.cases.0 ∙ (λ i. sym c.deref.ensures i ∷ more)) in
    let p = subst (ArePackedFrom us (rank r.from) (rank r.to) m next) cells c.in_ok-packed.ensures.packed in
    let f = c.packed_leaves.new.fresh in
    let right = subst (λ o. HasRight leaf r.from (right_id leaf r.from f) (option_map (λ x. arc_value x) o)) c.in_default-2.is c.in_ok-first.ensures.right in
    let nothing = none_right us (rank r.from) (rank r.to) m next leaf more p c.requires.range.low c.requires.range.high r.from refl f right in
    subst (λ (vs : List LeafUnit). AreLeavesFor vs (rank r.to) m (map (λ x. arc_value x) c.new-in_default-2.result.items)) (sym nothing) (ap (map (λ x. arc_value x)) c.new-in_default-2.ensures.items)

pub returns-clause-leaves : goal.returns-clause-leaves
returns-clause-leaves c =
    let b = option_copied c.args.body in
    let e = edits_of c.args.edits.now in
    let r = c.args.range.now in
    let m = c.args.mkfs_id in
    let us = put_into b e (rank r.from) (rank r.to) in
    let next = c.args.fresh.now.next in
    let leaf = c.deref.result.now in
    let more = map (λ x. arc_value x) c.in-Some.others.now in
    let cells : c.in_ok-packed.packed ≡ leaf ∷ more
    = sym c.as_slice.ensures ∙ (ap (map (λ x. arc_value x)) c.in-Some.ensures.cases.0 ∙ (λ i. sym c.deref.ensures i ∷ more)) in
    let p = subst (ArePackedFrom us (rank r.from) (rank r.to) m next) cells c.in_ok-packed.ensures.packed in
    let f = c.packed_leaves.new.fresh in
    let d = arc_value c.in-Some-2.first in
    let right : IsRightPart leaf r.from (right_id leaf r.from f) d
    = subst (λ o. HasRight leaf r.from (right_id leaf r.from f) (option_map (λ x. arc_value x) o)) c.in-Some-2.is c.in_ok-first.ensures.right in
    let leaves = right_leaves us (rank r.from) (rank r.to) m next leaf more p c.requires.range.low c.requires.range.high r.from refl f d right in
    IfOk-weaker c.with_first.result _ _ (λ v is. subst (AreLeavesFor us (rank r.to) m) (sym is) leaves) c.with_first.ensures

pub returns-clause-numbered : goal.returns-clause-numbered
returns-clause-numbered c =
    let b = option_copied c.args.body in
    let e = edits_of c.args.edits.now in
    let r = c.args.range.now in
    let m = c.args.mkfs_id in
    let us = put_into b e (rank r.from) (rank r.to) in
    let next = c.args.fresh.now.next in
    let leaf = c.deref.result.now in
    let more = map (λ x. arc_value x) c.in-Some.others.now in
    let cells : c.in_ok-packed.packed ≡ leaf ∷ more
    = sym c.as_slice.ensures ∙ (ap (map (λ x. arc_value x)) c.in-Some.ensures.cases.0 ∙ (λ i. sym c.deref.ensures i ∷ more)) in
    let p = subst (ArePackedFrom us (rank r.from) (rank r.to) m next) cells c.in_ok-packed.ensures.packed in
    let f = c.packed_leaves.new.fresh in
    let d = arc_value c.in-Some-2.first in
    let right : IsRightPart leaf r.from (right_id leaf r.from f) d
    = subst (λ o. HasRight leaf r.from (right_id leaf r.from f) (option_map (λ x. arc_value x) o)) c.in-Some-2.is c.in_ok-first.ensures.right in
    let count = counts us (rank r.from) (rank r.to) m next leaf more p c.requires.range.low c.requires.range.high r.from refl f d right in
    let same = counts_numbered next (d ∷ more) count in
    IfOk-weaker c.with_first.result _ _ (λ v is. subst (λ (ds : List CellSeen). ds ≡ numbered next ds) (sym is) same) c.with_first.ensures
