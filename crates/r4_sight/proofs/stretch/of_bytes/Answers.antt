use Rattle.std.proofs.Common.{◌≡◌, ℕ, ◌+◌, List, [], ◌∷◌, ◌++◌, length, ◌∙◌, ap, arith}
use Rattle.std.specs.Prelude.{slice_range}
use Rattle.r4_base.specs.Cell.{bytes_from}
use Rattle.r4_base.specs.Key.{rank}
use Rattle.r4_content.specs.Objects.{byte_pairs}
use Rattle.r4_content.specs.Seen.{pairs_in}
use Rattle.r4_sight.proofs.Adding.{tail_some}
use Rattle.r4_sight.proofs.stretch.of_bytes.Goals as goal

pub returns-clause-pairs : goal.returns-clause-pairs
returns-clause-pairs c =
    let first = c.offset_in-first.ensures in
    let behind = c.offset_in-behind.ensures in
    let long = c.bytes.ensures.len in
    let same = ap (λ (xs : List ℕ). length xs) c.bytes.ensures.value in
    let value_long : length c.bytes.result.now ≡ 4096 = same ∙ long in
    let order = c.requires.order in
    let low = c.requires.from in
    let high = c.requires.below in
    let at : rank c.args.from ≡ rank c.args.lo + c.offset_in-first.result = omega (arith, first, low) in
    (tail_some (rank c.args.from) (rank c.args.to) (rank c.args.lo) c.bytes.result.now c.offset_in-first.result c.offset_in-behind.result [] c.push.new.self.items c.in_ok-run_of.field-0
    (omega (arith, first, value_long, order, high)) (omega (arith, behind, value_long, high)) (omega (arith, first, behind, order, low)) (c.in_ok-push.ensures.items ∙ ap (λ xs. xs ++ c.in_ok-run_of.field-0 ∷ []) c.new-parts.ensures.items)
    (c.in_ok-run_of.ensures ∙ ap (λ (k : ℕ). byte_pairs k (slice_range c.bytes.result.now c.offset_in-first.result c.offset_in-behind.result)) at)).pairs_are
    ∙ ap (λ (xs : List ℕ). pairs_in (bytes_from (rank c.args.lo) xs) (rank c.args.from) (rank c.args.to)) c.bytes.ensures.value
