use Rattle.std.proofs.Common.{◌≡◌, map, take}
use Rattle.r4_wander.specs.Torn.{targets}
use Rattle.r4_wander.proofs.writer.Writer.first_blocks.Given as goal

abbrev pub invariant-loop-write : goal.invariant-loop-write
invariant-loop-write l = map (λ b. b.0) l.blocks.items ≡ targets (take l.write-index l.self.plan.first)
