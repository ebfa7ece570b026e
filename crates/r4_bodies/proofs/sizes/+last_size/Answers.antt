use Rattle.std.proofs.Common.{◌≡◌, sym, ap, ◌∙◌, map, Bool, List}
use Rattle.std.specs.Prelude.{Some, cond}
use Rattle.std.specs.FinMap.{find, put}
use Rattle.std.specs.Ordering.{nat_cmp}
use Rattle.r4_base.specs.Key.{rank}
use Rattle.r4_base.specs.Value.{value_of}
use Rattle.r4_base.specs.declared.key.Key.{Key}
use Rattle.r4_base.specs.declared.values.Value.{Value as HeldValue}
use Rattle.r4_content.specs.Held.{pair_of}
use Rattle.r4_content.specs.Listed.{list_put}
use Rattle.r4_leaf_demands.specs.r4_reach.Touched.{size_in}
use Rattle.r4_bodies.proofs.FileSizes.{put_rises, put_size}
use Rattle.r4_bodies.proofs.sizes.+last_size.Goals as goal
use Rattle.r4_bodies.proofs.sizes.+last_size.Goals.{then-is_same, else-is_same}

pub returns-after-is_same : goal.returns-after-is_same
returns-after-is_same t c s r e =
    let p = c.in-Some.field-0-0.now in
    let k = rank c.args.stat in
    let told : cond c.is_same.result (size_in (Some (value_of p.1))) c.args.was ≡ c.if-is_same.size = elim
    c.if-is_same.branch [
      | then-is_same w ↦ ap (λ (b : Bool). cond b (size_in (Some (value_of p.1))) c.args.was) w.if-is_same.true
          ∙ sym (w.size-is ∙ w.size_of-size.ensures)
      | else-is_same w ↦ ap (λ (b : Bool). cond b (size_in (Some (value_of p.1))) c.args.was) w.if-is_same.false
          ∙ sym w.size-is
    ] in
    let size = put_size (rank p.0) (value_of p.1) s k c.is_same.result r c.is_same.ensures.ranks
    ∙ ap (cond c.is_same.result (size_in (Some (value_of p.1)))) e ∙ told in
    ap (λ (ps : List (Key × HeldValue)). size_in (find nat_cmp k (list_put (map pair_of ps) s)))
    c.in-Some.ensures.cases.0
    ∙ c.last_size.ensures (put nat_cmp (rank p.0) (value_of p.1) s) (put_rises (rank p.0) (value_of p.1) s r) size
