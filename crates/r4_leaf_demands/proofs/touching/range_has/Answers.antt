use Rattle.std.proofs.Common.{◌≡◌, ◌⊎◌, ◌↔◌, inl, inr, true, map, subst, sym, ◌∙◌}
use Rattle.r4_base.specs.Key.{rank}
use Rattle.r4_content.specs.Edited.{changed}
use Rattle.r4_content.specs.Held.{edits_of, interval_of}
use Rattle.r4_suited.proofs.r4_leaf_edits.Touched.{intervals_met}
use Rattle.r4_leaf_demands.specs.Touching.{IsTouched, MeetsKind, span_of}
use Rattle.r4_leaf_demands.specs.declared.touching.Way.{Way}
use Rattle.r4_leaf_demands.proofs.BodyKeys.{else_iff, then_iff}
use Rattle.r4_leaf_demands.proofs.Meets.{HasOf, in_other, met_iff, other_in}
use Rattle.r4_leaf_demands.proofs.touching.range_has.Goals as goal

pub returns-in-Change : goal.returns-in-Change
returns-in-Change c =
    let e = c.args.edits.now in
    let lo = rank c.args.range.now.from in
    let hi = rank c.args.range.now.to in
    let told = c.one_by_one.ensures in
    subst (λ (w : Way). (c.one_by_one.result ≡ true) ↔ IsTouched w (edits_of e) (map interval_of c.args.reads.now)
    (span_of c.args.range.now)) (sym c.in-Change.is)
    ((λ t. other_in e c.requires.edits lo hi (told.0 t)), (λ h. told.1 (in_other e c.requires.edits lo hi h)))

pub returns-then-meets_intervals : goal.returns-then-meets_intervals
returns-then-meets_intervals c =
    let lo = rank c.args.range.now.from in
    let hi = rank c.args.range.now.to in
    let reads = map interval_of c.args.reads.now in
    let P = HasOf reads lo hi in
    let Q = MeetsKind true (changed (edits_of c.args.edits.now)) lo hi in
    subst (λ (w : Way). (c.meets_intervals.result ≡ true) ↔ IsTouched w (edits_of c.args.edits.now) reads
    (span_of c.args.range.now)) (sym c.in-Read.is)
    (then_iff c.meets_intervals.result P (P ⊎ Q)
    (met_iff c.meets_intervals.result reads lo hi
    (c.meets_intervals.ensures ∙ sym (intervals_met lo hi c.args.reads.now))) c.if-meets_intervals.true
    (λ h. inl h))

pub returns-else-meets_intervals : goal.returns-else-meets_intervals
returns-else-meets_intervals c =
    let lo = rank c.args.range.now.from in
    let hi = rank c.args.range.now.to in
    let reads = map interval_of c.args.reads.now in
    let P = HasOf reads lo hi in
    let Q = MeetsKind true (changed (edits_of c.args.edits.now)) lo hi in
    subst (λ (w : Way). (c.changes_body.result ≡ true) ↔ IsTouched w (edits_of c.args.edits.now) reads
    (span_of c.args.range.now)) (sym c.in-Read.is)
    (else_iff c.meets_intervals.result c.changes_body.result P Q (P ⊎ Q)
    (met_iff c.meets_intervals.result reads lo hi
    (c.meets_intervals.ensures ∙ sym (intervals_met lo hi c.args.reads.now))) c.if-meets_intervals.false
    c.changes_body.ensures (λ h. inr h) (λ h. h))
