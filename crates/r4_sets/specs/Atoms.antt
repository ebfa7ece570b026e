-- What becomes of the atoms of a session (docs/sets.md).
use Rattle.std.specs.Prelude.{◌≡◌, ℕ, ◌==◌, true, cond, [], ◌∷◌, Option, Some, None}
use Rattle.std.specs.Option.{option_map}
use Rattle.r4_base.specs.Tree.{Store, Root}
use Rattle.r4_base.specs.Value.{Value, Content}
use Rattle.r4_base.specs.declared.things.AtomNo.{AtomNo}
use Rattle.r4_base.specs.declared.things.NodeId.{NodeId}
use Rattle.r4_patch.specs.r4_cell.Patch.{Patch, place, root_after, IsPatch, Meets}
use Rattle.r4_trace.specs.Traced.{renamed_atom}
use Rattle.r4_trace.specs.declared.entry.Entry.{Entry}
use Rattle.r4_trace.specs.declared.entry.Entry.TheVariants.{Begin, Refused, Ended, Fuse, Sealed, Committed, Acked}
use Rattle.r4_trace.specs.declared.entry.Entry.TheVariants.{Broken}
use Rattle.r4_sets.specs.Change.{touches}
use Rattle.r4_sets.specs.Session.{Session, cells, only, root_with}
use Rattle.r4_sets.specs.Units.{SameUnit}

-- a session begins on a tree, with no entry
abbrev pub opened : Store Value → Root → Content → Session
opened t root m = record {
  start = m;
  trace = [];
  base = record { cells = t; root = root };
  under = record { cells = t; root = root };
  memory = t;
  root = root;
  owner = λ i. None;
}

-- ---- entries that change no atom's cells and no content

abbrev pub ChangesNoCell : Entry → Type 0
ChangesNoCell (Begin txn script) = Unit {0}
ChangesNoCell (Refused txn script index reply) = Unit {0}
ChangesNoCell (Ended txn) = Unit {0}
ChangesNoCell (Acked script txn clock) = Unit {0}
ChangesNoCell (Broken clock faults) = Unit {0}
ChangesNoCell e = ⊥

abbrev pub told : Session → Entry → Session
told c e = record c { trace = e ∷ c.trace }

-- ---- two open atoms become one

abbrev pub fused : Session → (kept gone : AtomNo) → NodeId → Session
fused c kept gone node = record c {
  trace = Fuse kept gone node ∷ c.trace;
  owner = λ i. option_map (renamed_atom kept.0 gone.0) (c.owner i);
}

-- ---- an open atom is sealed: its cells stand under those of the others

abbrev pub without : (atom : ℕ) → Option ℕ → Option ℕ
without a None = None
without a (Some n) = cond (n == a) None (Some n)

abbrev pub sealed : Session → AtomNo → Session
sealed c a = record c {
  trace = Sealed a ∷ c.trace;
  under = record { cells = cells c (only a.0); root = root_with c (only a.0) };
  owner = λ i. without a.0 (c.owner i);
}

-- ---- and committed

abbrev pub committed : Session → AtomNo → (clock : ℕ) → Session
committed c a clock = record c { trace = Committed a clock ∷ c.trace; base = c.under }

-- ---- cells under the open atoms are changed, with no change of units, as where those of the sealed atom are squeezed

pub record Flushes (c : Session) (d : Patch Value) : Type 0 where
  pub patch : IsPatch d
  pub meets : Meets d c.under.cells c.under.root
  pub units : (k : ℕ) → SameUnit c.under.cells (place d c.under.cells) k
  -- it changes no cell of an open atom
  pub clean : (i : ℕ) → touches d i ≡ true → c.owner i ≡ None

abbrev pub flushed : Session → Patch Value → Session
flushed c d = record c {
  under = record { cells = place d c.under.cells; root = root_after d c.under.root };
  memory = place d c.memory;
  root = root_after d c.root;
}
