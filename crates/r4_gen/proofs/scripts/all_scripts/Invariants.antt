use Rattle.std.proofs.Common.{◌≡◌, ◌+◌, map}
use Rattle.std.specs.List.{range_with_len}
use Rattle.r4_gen.specs.Workload.{script_of}
use Rattle.r4_gen.proofs.scripts.all_scripts.Given as goal

abbrev pub invariant-loop-k : goal.invariant-loop-k
invariant-loop-k l = l.scripts.items ≡ map (λ n. script_of l.seed (n + 1)) (range_with_len 0 l.k)
