use Rattle.std.proofs.Common.{◌≡◌, ◌+◌, ◌-◌, ◌∙◌, ℕ, ap, arith, replicate}
use Rattle.r4_base.specs.Key.{rank}
use Rattle.r4_base.specs.Volume.{byte_rank}
use Rattle.r4_content.specs.Objects.{byte_pairs}
use Rattle.r4_content.proofs.Ranks.{byte_after}
use Rattle.r4_file.proofs.bodies.filled.Goals as goal

pub returns : goal.returns
returns c =
    let first : rank c.body.result.from ≡ byte_rank c.args.file.now.target c.args.offset = ap (λ (p : ℕ × ℕ). p.0) c.body.ensures in
    let last : rank c.body.result.to ≡ byte_rank c.args.file.now.target (c.args.offset + c.args.len) = ap (λ (p : ℕ × ℕ). p.1) c.body.ensures in
    let many : rank c.body.result.to - rank c.body.result.from ≡ c.args.len = omega (arith, first, last, byte_after c.args.file.now.target c.args.offset c.args.len) in
    ap (λ (n : ℕ). byte_pairs (rank c.body.result.from) (replicate n c.args.byte)) many ∙ ap (λ (k : ℕ). byte_pairs k (replicate c.args.len c.args.byte)) first
