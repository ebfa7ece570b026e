use Rattle.std.proofs.Common.{◌≡◌, length, map, take}
use Rattle.r4_wander.specs.Seen.{Copy}
use Rattle.r4_base.specs.declared.things.BlockNo.{BlockNo}
use Rattle.r4_commit.proofs.log_blocks.lay_out.Given as goal

abbrev pub invariant-loop-home : goal.invariant-loop-home
invariant-loop-home l = record {
  homes : map (λ (w : Copy). (w.original, w.block)) l.made.items ≡ l.yielded;
  copies : map (λ (w : Copy). w.copy) l.made.items ≡ map (λ (b : BlockNo). b.0) (take (length l.yielded) l.copies);
  counted : length l.made.items ≡ length l.yielded;
}
