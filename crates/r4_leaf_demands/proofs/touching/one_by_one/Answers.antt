use Rattle.std.proofs.Common.{◌≡◌, ◌↔◌, true, List, map, subst}
use Rattle.r4_base.specs.Key.{rank}
use Rattle.r4_base.specs.declared.key.Key.{Key}
use Rattle.r4_base.specs.declared.values.Value.{Value as HeldValue}
use Rattle.r4_content.specs.Edited.{put_keys}
use Rattle.r4_content.specs.Held.{interval_of, pair_of}
use Rattle.r4_content.specs.declared.edits.Interval.{Interval}
use Rattle.r4_leaf_demands.specs.Touching.{MeetsKind}
use Rattle.r4_leaf_demands.proofs.BodyKeys.{else_iff, meets_cases, meets_first, meets_rest, then_iff}
use Rattle.r4_leaf_demands.proofs.Meets.{single_keys}
use Rattle.r4_leaf_demands.proofs.touching.one_by_one.Goals as goal

pub returns-then-values_have : goal.returns-then-values_have
returns-then-values_have c =
    let e = c.args.edits.now in
    let lo = rank c.args.range.now.from in
    let hi = rank c.args.range.now.to in
    let vs = put_keys (map pair_of e.puts.items) in
    let cs = map interval_of e.cuts.items in
    let values = subst
    (λ (xs : List (Key × HeldValue)). (c.values_have.result ≡ true) ↔ MeetsKind c.args.body
    (put_keys (map pair_of xs)) lo hi) c.as_slice.ensures.value c.values_have.ensures in
    then_iff c.values_have.result (MeetsKind c.args.body vs lo hi) (MeetsKind c.args.body (single_keys e) lo hi) values
    c.if-values_have.true (meets_first c.args.body vs cs lo hi)

pub returns-else-values_have : goal.returns-else-values_have
returns-else-values_have c =
    let e = c.args.edits.now in
    let lo = rank c.args.range.now.from in
    let hi = rank c.args.range.now.to in
    let vs = put_keys (map pair_of e.puts.items) in
    let cs = map interval_of e.cuts.items in
    let values = subst
    (λ (xs : List (Key × HeldValue)). (c.values_have.result ≡ true) ↔ MeetsKind c.args.body
    (put_keys (map pair_of xs)) lo hi) c.as_slice.ensures.value c.values_have.ensures in
    let cuts = subst
    (λ (xs : List Interval). (c.intervals_have.result ≡ true) ↔ MeetsKind c.args.body (map interval_of xs) lo hi)
    c.as_slice-else-values_have.ensures.value c.intervals_have.ensures in
    else_iff c.values_have.result c.intervals_have.result (MeetsKind c.args.body vs lo hi)
    (MeetsKind c.args.body cs lo hi) (MeetsKind c.args.body (single_keys e) lo hi) values c.if-values_have.false
    cuts (meets_rest c.args.body vs cs lo hi) (meets_cases c.args.body vs cs lo hi)
