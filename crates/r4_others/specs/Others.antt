-- Other atoms that own nodes of a reach.
use Rattle.std.specs.Prelude.{ℕ, List, Option, Some, None, map, ◌||◌, ◌==◌, if◌then◌else◌}
use Rattle.r4_atoms.specs.Atoms.{AtomsSeen, is_sealed, owner_of}
use Rattle.r4_base.specs.declared.things.NodeId.{NodeId}
use Rattle.r4_others.specs.declared.finding.Other.{Other}

-- each of them with its node
abbrev pub pairs_of : List Other → List (ℕ × ℕ)
pairs_of others = map (λ (o : Other). (o.atom.0, o.node.0)) others

-- this owner of a node, where it is another atom that is not sealed
abbrev pub other_of : AtomsSeen → (own : ℕ) → NodeId → Option ℕ → Option Other
other_of s own node None = None
other_of s own node (Some a) =
    if (a == own) || is_sealed s a then None
    else Some (record { atom = record { 0 = a }; node = node })

-- what owns a node, where it is another atom that is not sealed
abbrev pub other_owner : AtomsSeen → (own : ℕ) → NodeId → Option Other
other_owner s own node = other_of s own node (owner_of s node.0)
