use Rattle.std.proofs.Common.{◌≡◌, ◌+◌, ◌≤◌, length, map, take}
use Rattle.std.specs.Arc.{arc_value}
use Rattle.std.specs.Prelude.{vec_capacity}
use Rattle.r4_space.specs.Space.{unused_count}
use Rattle.r4_place.specs.Chosen.{AreChosen, behind_all, placed_all}
use Rattle.r4_place.proofs.choosing.choose.Given as goal

abbrev pub invariant-loop-cell : goal.invariant-loop-cell
invariant-loop-cell l = record {
  chosen : AreChosen 22 l.fn.space (map (λ cell. arc_value cell) (take l.cell-index l.slum)) l.all.items;
  near : l.near.0 ≡ behind_all 22 l.all.items;
  space : l.space ≡ placed_all l.fn.space l.all.items;
  left : length l.slum ≤ unused_count l.space + l.cell-index;
  small : l.near.0 ≤ 1048576;
  counted : length l.all.items ≡ l.cell-index;
  room : length l.slum ≤ vec_capacity l.all;
}
