use Rattle.std.proofs.Common.{◌≡◌, map, take}
use Rattle.std.specs.Prelude.{All}
use Rattle.r4_base.specs.Image.{IsBlock}
use Rattle.r4_wander.specs.Seen.{Placed}
use Rattle.r4_wander.specs.Torn.{Write}
use Rattle.r4_wander.proofs.making.make_placed.Given as goal

abbrev pub invariant-loop-placed : goal.invariant-loop-placed
invariant-loop-placed l = record {
  made : l.made.items ≡ map (λ (c : Placed). (c.at, c.cell.block)) (take l.placed-index l.plan.placed);
  whole : All (λ (w : Write). IsBlock w.1) l.made.items;
}
