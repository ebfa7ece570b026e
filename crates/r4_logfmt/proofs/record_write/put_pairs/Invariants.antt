use Rattle.std.proofs.Common.{◌≡◌, ℕ, ◌<◌, ◌^◌, take}
use Rattle.std.specs.List.{All, flat_map}
use Rattle.r4_base.specs.Bytes.{put_all}
use Rattle.r4_base.specs.Log.{pair_fields}
use Rattle.r4_logfmt.proofs.record_write.put_pairs.Given as goal

abbrev pub invariant-loop-i : goal.invariant-loop-i
invariant-loop-i l = record {
  fit : All (λ (p : ℕ × ℕ). (p.0 < 2 ^ 64) × (p.1 < 2 ^ 64)) (take l.i l.pairs);
  spelled : l.b ≡ put_all (flat_map pair_fields (take l.i l.pairs)) 32 l.fn.b;
}
