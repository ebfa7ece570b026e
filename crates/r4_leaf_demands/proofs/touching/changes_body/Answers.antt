use Rattle.std.proofs.Common.{true}
use Rattle.r4_base.specs.Key.{rank}
use Rattle.r4_content.specs.Edited.{changed}
use Rattle.r4_content.specs.Held.{edits_of}
use Rattle.r4_leaf_demands.specs.Touching.{MeetsKind}
use Rattle.r4_leaf_demands.proofs.BodyKeys.{else_iff, then_iff}
use Rattle.r4_leaf_demands.proofs.Meets.{HasOf, body_cases, byte_in, byte_keys, met_iff, single_in, single_keys}
use Rattle.r4_leaf_demands.proofs.touching.changes_body.Goals as goal

pub returns-then-sets_bytes : goal.returns-then-sets_bytes
returns-then-sets_bytes c =
    let e = c.args.edits.now in
    let lo = rank c.args.range.now.from in
    let hi = rank c.args.range.now.to in
    then_iff c.sets_bytes.result (HasOf (byte_keys e) lo hi) (MeetsKind true (changed (edits_of e)) lo hi)
    (met_iff c.sets_bytes.result (byte_keys e) lo hi c.sets_bytes.ensures) c.if-sets_bytes.true
    (byte_in e c.requires.edits lo hi)

pub returns-else-sets_bytes : goal.returns-else-sets_bytes
returns-else-sets_bytes c =
    let e = c.args.edits.now in
    let lo = rank c.args.range.now.from in
    let hi = rank c.args.range.now.to in
    else_iff c.sets_bytes.result c.one_by_one.result (HasOf (byte_keys e) lo hi) (MeetsKind true (single_keys e) lo hi)
    (MeetsKind true (changed (edits_of e)) lo hi)
    (met_iff c.sets_bytes.result (byte_keys e) lo hi c.sets_bytes.ensures) c.if-sets_bytes.false c.one_by_one.ensures
    (single_in e c.requires.edits lo hi) (body_cases e c.requires.edits lo hi)
