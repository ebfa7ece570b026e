use Rattle.std.proofs.Common.{◌≡◌, ◌*◌, ◌++◌, flat_map}
use Rattle.std.specs.List.{range_with_len}
use Rattle.r4_gen.proofs.Steps.{unlinked}
use Rattle.r4_gen.proofs.scripts.thin_directory.Given as goal

abbrev pub invariant-loop-k : goal.invariant-loop-k
invariant-loop-k l =
    l.commands.items ≡ l.initial.commands.items
    ++ flat_map unlinked (range_with_len (100 * l.directory) l.k)
