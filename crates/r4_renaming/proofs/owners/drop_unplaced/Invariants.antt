use Rattle.std.proofs.Common.{◌≡◌, ◌^◌, ◌&&◌, ℕ, None, take}
use Rattle.std.specs.Prelude.{nat_le, if◌then◌else◌}
use Rattle.r4_atoms.specs.Atoms.{owner_of}
use Rattle.r4_renaming.specs.Steps.{OnlyOwnersChange, has_node}
use Rattle.r4_renaming.proofs.owners.drop_unplaced.Given as goal

abbrev pub invariant-loop-node : goal.invariant-loop-node
invariant-loop-node l = record {
  owners : (i : ℕ) → owner_of l.atoms i
      ≡ if nat_le (2 ^ 63) i && has_node (take l.node-index l.nodes) i then None else owner_of l.initial.atoms i;
  rest : OnlyOwnersChange l.initial.atoms l.atoms;
}
