use Rattle.std.proofs.Common.{◌∙◌, ap, arith, map, subst, sym}
use Rattle.std.specs.Arc.{arc_value}
use Rattle.std.proofs.lemmas.Result.{IfOk-weaker}
use Rattle.r4_base.specs.Key.{rank}
use Rattle.r4_cell.specs.Seen.{CellSeen}
use Rattle.r4_patch.specs.Joining.{ids_of}
use Rattle.r4_squeeze.specs.Over.{AreBeside}
use Rattle.r4_squeeze.specs.Packing.{MayStandAll, cells_filled, numbers}
use Rattle.r4_squeeze.specs.Squeezing.{AreFilled}
use Rattle.r4_squeeze.proofs.CellNumbers.{many_numbers}
use Rattle.r4_squeeze.proofs.PackedLeft.{filled_few, filled_stand, long_cells}
use Rattle.r4_squeeze.proofs.TwigSlums.{first_level_is, last_hi}
use Rattle.r4_squeeze.proofs.squeezing.packed.Goals as goal

pub numbered-requires-clause-few : goal.numbered-requires-clause-few
numbered-requires-clause-few c =
    let (level, rest) = c.requires in
    let (from, ends) = rest in
    let (to, beside) = ends in
    let slum = map arc_value c.args.slum.now in
    let end = ap rank (c.hi-hi.ensures ∙ ap (λ (x : CellSeen). x.hi) c.deref.ensures)
    ∙ last_hi arc_value level from to c.args.slum.now c.index-slum-slum.result c.index-slum-slum.is beside.follow
    beside.some in
    let few = filled_few level from c.hi-hi.result slum c.in_ok-filled.filled.items
    (subst (λ k. AreBeside level from k slum) (sym end) beside)
    (subst (λ k. AreFilled level from k slum c.in_ok-filled.filled.items) (sym end)
    (c.in_ok-filled.ensures.filled level from to beside)) c.in_ok-filled.ensures.sound in
    let long = long_cells arc_value c.args.slum.now in
    let same = many_numbers c.as_slice.result.now slum (ap numbers c.as_slice.ensures.value ∙ c.in_ok-ids.ensures) in
    omega (arith, few, long, same)

pub numbered-requires-clause-stand : goal.numbered-requires-clause-stand
numbered-requires-clause-stand c =
    let (level, rest) = c.requires in
    let (from, ends) = rest in
    let (to, beside) = ends in
    let slum = map arc_value c.args.slum.now in
    let end = ap rank (c.hi-hi.ensures ∙ ap (λ (x : CellSeen). x.hi) c.deref.ensures)
    ∙ last_hi arc_value level from to c.args.slum.now c.index-slum-slum.result c.index-slum-slum.is beside.follow
    beside.some in
    let same = c.level.ensures ∙ (ap (λ (x : CellSeen). x.level) c.deref-2.ensures
    ∙ first_level_is arc_value level from to c.args.slum.now c.index-slum-0.result c.index-slum-0.is beside.follow
    beside.some) in
    subst (λ l. MayStandAll l (rank c.hi-hi.result) c.in_ok-filled.filled.items) (sym same)
    (filled_stand level from c.hi-hi.result slum c.in_ok-filled.filled.items
    (subst (λ k. AreBeside level from k slum) (sym end) beside)
    (subst (λ k. AreFilled level from k slum c.in_ok-filled.filled.items) (sym end)
    (c.in_ok-filled.ensures.filled level from to beside)) c.in_ok-filled.ensures.sound)

pub returns-clause-packed : goal.returns-clause-packed
returns-clause-packed c =
    let (level, rest) = c.requires in
    let (from, ends) = rest in
    let (to, beside) = ends in
    let slum = map arc_value c.args.slum.now in
    let end = ap rank (c.hi-hi.ensures ∙ ap (λ (x : CellSeen). x.hi) c.deref.ensures)
    ∙ last_hi arc_value level from to c.args.slum.now c.index-slum-slum.result c.index-slum-slum.is beside.follow
    beside.some in
    let same = c.level.ensures ∙ (ap (λ (x : CellSeen). x.level) c.deref-2.ensures
    ∙ first_level_is arc_value level from to c.args.slum.now c.index-slum-0.result c.index-slum-0.is beside.follow
    beside.some) in
    let there = subst (λ k. AreBeside level from k slum) (sym end) beside in
    let fill = subst (λ k. AreFilled level from k slum c.in_ok-filled.filled.items) (sym end)
    (c.in_ok-filled.ensures.filled level from to beside) in
    IfOk-weaker c.numbered.result _ _ (λ v is. record {
      level = level;
      from = from;
      hi = c.hi-hi.result;
      beside = there;
      filled = c.in_ok-filled.filled.items;
      fill = fill;
      few = filled_few level from c.hi-hi.result slum c.in_ok-filled.filled.items there fill c.in_ok-filled.ensures.sound;
      are = is
          ∙ (ap (λ ns. cells_filled c.level.result ns c.hi-hi.result c.in_ok-filled.filled.items)
          (ap numbers c.as_slice.ensures.value ∙ c.in_ok-ids.ensures)
          ∙ ap (λ l. cells_filled l (ids_of slum) c.hi-hi.result c.in_ok-filled.filled.items) same);
    }) c.numbered.ensures
