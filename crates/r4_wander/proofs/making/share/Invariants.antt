use Rattle.std.proofs.Common.{◌≡◌}
use Rattle.std.specs.Prelude.{All}
use Rattle.r4_base.specs.Image.{IsBlock}
use Rattle.r4_wander.specs.Seen.{Copy}
use Rattle.r4_wander.proofs.making.share.Given as goal

abbrev pub invariant-loop-copy : goal.invariant-loop-copy
invariant-loop-copy l = record {
  made : l.shared.items ≡ l.yielded;
  whole : All (λ (w : Copy). IsBlock w.block) l.shared.items;
}
