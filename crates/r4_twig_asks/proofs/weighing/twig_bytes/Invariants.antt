use Rattle.std.proofs.Common.{◌≡◌, ◌*◌, ◌≤◌}
use Rattle.std.specs.Prelude.{None, take}
use Rattle.std.specs.Option.{option_map}
use Rattle.r4_base.specs.Key.{rank}
use Rattle.r4_extent_demands.specs.r4_branch.Pieces.{last_end, twig_bytes}
use Rattle.r4_twig_asks.proofs.weighing.twig_bytes.Given as goal

abbrev pub invariant-loop-piece : goal.invariant-loop-piece
invariant-loop-piece l = record {
  bytes : l.bytes ≡ twig_bytes (take l.piece-index l.pieces);
  end : option_map rank l.end ≡ last_end None (take l.piece-index l.pieces);
  few : l.bytes ≤ 54 * l.piece-index;
}
