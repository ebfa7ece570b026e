use Rattle.std.proofs.Common.{◌≡◌, ◌*◌, ◌++◌, flat_map}
use Rattle.std.specs.List.{range_with_len}
use Rattle.r4_gen.specs.Workload.{file_made}
use Rattle.r4_gen.proofs.scripts.make_directory.Given as goal

abbrev pub invariant-loop-k : goal.invariant-loop-k
invariant-loop-k l =
    l.commands.items ≡ l.initial.commands.items
    ++ flat_map (file_made l.seed) (range_with_len (100 * l.directory) l.k)
