-- What fusing changes of a core.
use Rattle.std.specs.Prelude.{◌≡◌, ℕ, min, max, List, [], ◌∷◌}
use Rattle.std.specs.Option.{option_map}
use Rattle.r4_atoms.specs.Atoms.{owner_of}
use Rattle.r4_atoms.specs.Names.{renamed}
use Rattle.r4_base.specs.declared.things.AtomNo.{AtomNo}
use Rattle.r4_base.specs.declared.things.NodeId.{NodeId}
use Rattle.r4_kept.specs.r4_history.Tables.{Fuses}
use Rattle.r4_kept.specs.r4_space.Space.{merged}
use Rattle.r4_kept.specs.r4_trace.declared.entry.Entry.TheVariants.{Fuse}
use Rattle.r4_kept.specs.Steps.{with_entry}
use Rattle.r4_kept.specs.View.{CoreSeen}

-- Two open atoms become one, since a task reaches a node that belongs to the other one: the table
-- of atoms and the space have what was of both under one name, and the trace tells it. All else is
-- as it was.
pub record HasFused
    {D : Type 0} (old new : CoreSeen D) (kept gone : AtomNo) (node : NodeId) : Type 0
  where
    pub fuses : Fuses old.atoms new.atoms kept.0 gone.0
    pub owners : (n : ℕ) → owner_of new.atoms n
        ≡ option_map (renamed kept.0 gone.0) (owner_of old.atoms n)
    pub room : new.atoms.spare ≡ old.atoms.spare
    pub same : new ≡ record old {
      atoms = new.atoms;
      space = merged old.space kept gone;
      trace = with_entry old.trace (Fuse kept gone node);
    }

-- One after another, for each of the others with its node, as a command's own atom fuses with them;
-- the smaller of two names what they become.
abbrev pub HasFusedAll :
    {D : Type 0} → CoreSeen D → (own : ℕ) → (others : List (ℕ × ℕ)) → CoreSeen D → Type 0
HasFusedAll old own [] new = new ≡ old
HasFusedAll {D} old own (p ∷ rest) new =
    (mid : CoreSeen D)
    × HasFused old mid (record { 0 = min own p.0 }) (record { 0 = max own p.0 })
    (record { 0 = p.1 })
    × HasFusedAll mid (min own p.0) rest new
