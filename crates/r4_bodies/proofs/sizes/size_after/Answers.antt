use Rattle.std.proofs.Common.{◌≡◌, sym, ap, ◌∙◌, map, Bool, List}
use Rattle.std.specs.Prelude.{cond}
use Rattle.std.specs.FinMap.{find}
use Rattle.std.specs.List.{list_any}
use Rattle.std.specs.Ordering.{nat_cmp}
use Rattle.r4_base.specs.Key.{rank}
use Rattle.r4_content.specs.Edited.{is_between, is_in}
use Rattle.r4_content.specs.Held.{interval_of, pair_of}
use Rattle.r4_content.specs.Listed.{list_put}
use Rattle.r4_content.specs.declared.edits.Interval.{Interval}
use Rattle.r4_leaf_demands.specs.r4_reach.Touched.{size_in}
use Rattle.r4_bodies.proofs.FileSizes.{cut_any, emptied, emptied_rises, emptied_size, found_after}
use Rattle.r4_bodies.proofs.sizes.size_after.Goals as goal
use Rattle.r4_bodies.proofs.sizes.size_after.Goals.{then-has_key, else-has_key}

pub returns : goal.returns
returns c s r e =
    let held = c.args.edits.now in
    let suit = c.requires.suits in
    let k = rank c.args.stat in
    let off = c.requires.stat in
    let cut : c.has_key.result ≡ is_in (map interval_of held.cuts.items) k = c.has_key.ensures
    ∙ ap (λ (is : List Interval). list_any (λ i. is_between (rank i.from) (rank i.to) k) is) c.as_slice.ensures.value
    ∙ sym (cut_any held.cuts.items k) in
    let told : cond c.has_key.result 0 c.args.was ≡ c.if-has_key.left = elim c.if-has_key.branch [
      | then-has_key w ↦ ap (λ (b : Bool). cond b 0 c.args.was) w.if-has_key.true ∙ sym w.left-is
      | else-has_key w ↦ ap (λ (b : Bool). cond b 0 c.args.was) w.if-has_key.false ∙ sym w.left-is
    ] in
    let left = emptied held suit k off s in
    let size = emptied_size held suit k off s c.has_key.result r cut ∙ ap (cond c.has_key.result 0) e ∙ told in
    ap size_in (found_after held suit k off s r)
    ∙ ap (λ ps. size_in (find nat_cmp k (list_put (map pair_of ps) left))) (sym c.as_slice-2.ensures.value)
    ∙ c.last_size.ensures left (emptied_rises held suit k off s r) size
