use Rattle.std.proofs.Common.{◌≡◌, ◌++◌, flat_map}
use Rattle.std.specs.List.{range_with_len}
use Rattle.r4_gen.specs.Workload.{directory_thinned}
use Rattle.r4_gen.proofs.Steps.{part}
use Rattle.r4_gen.proofs.scripts.thin_directories.Given as goal

abbrev pub invariant-loop-k : goal.invariant-loop-k
invariant-loop-k l =
    l.commands.items ≡ l.initial.commands.items
    ++ flat_map (part directory_thinned l.number) (range_with_len 0 l.k)
