-- An atom with cells is sealed, with what was prepared: what changes, part by part.
use Rattle.std.proofs.Common.{◌≡◌, ℕ, List, Some, refl, sym, true, ◌∙◌, ap, arith}
use Rattle.std.specs.Prelude.{◌↔◌, Contains, Err, Ok, OnErr, Result}
use Rattle.r4_atoms.specs.Atoms.{AtomsSeen, numbers, owner_of, state_of, with_state}
use Rattle.r4_atoms.specs.declared.things.AtomState.{AtomState}
use Rattle.r4_base.specs.declared.things.AtomNo.{AtomNo}
use Rattle.r4_base.specs.declared.things.NodeId.{NodeId}
use Rattle.r4_buffer.specs.Seen.{BufferSeen}
use Rattle.r4_cell.specs.Seen.{CellSeen}
use Rattle.r4_cell.specs.declared.change.Root.{Root}
use Rattle.r4_flushing.specs.r4_flush.declared.preparing.Prepared.{Prepared}
use Rattle.r4_flushing.specs.Sealable.{MaySeal}
use Rattle.r4_flushing.specs.Sealing.{HasSealed, root_renamed}
use Rattle.r4_others.specs.r4_history.Tables.{with_sealed}
use Rattle.r4_flushing.specs.r4_renaming.Renamed.{HasNewNames, Parts, StaysNamed}
use Rattle.r4_flushing.specs.r4_renaming.Renaming.{name_then, turns_with_pins}
use Rattle.r4_space.specs.Space.{Space, sealed_in}
use Rattle.r4_trace.specs.Kept.{Told}
use Rattle.r4_trace.specs.declared.entry.Entry.TheVariants.{Sealed}
use Rattle.r4_turns.specs.Turns.{TurnsSeen}
use Rattle.r4_ready.specs.r4_kept.Steps.{with_entry}
use Rattle.r4_ready.specs.r4_kept.View.{CoreSeen}
use Rattle.r4_ready.specs.r4_kept.declared.parts.Commit.{Commit}
use Rattle.r4_ready.proofs.r4_kept.States.{owners_same}
use Rattle.r4_ready.specs.Rooms.{HasMoreRoom}

pub on_err : {A E : Type 0} (r : Result A E) (P : Type 0) → P → OnErr r P
on_err (Ok a) P p = tt
on_err (Err e) P p = p

abbrev parts : BufferSeen → AtomsSeen → TurnsSeen → Parts
parts b s t = record { buffer = b; atoms = s; turns = t }

-- ---- where there was no memory

module _ {D : Type 0} (c : CoreSeen D) (buffer : BufferSeen) (atoms : AtomsSeen) (turns : TurnsSeen)
    (stays : StaysNamed (parts c.buffer c.atoms c.turns) (parts buffer atoms turns)) where
  pub more_room : HasMoreRoom c (record c { turns = turns; atoms = atoms; buffer = buffer })
  more_room = record {
    entries = omega arith;
    captures = let same = ap (λ (s : AtomsSeen). s.spare) stays.atoms in omega (arith, same);
    places = stays.places;
    claims = omega arith;
    owners = λ n. ap (λ (s : AtomsSeen). owner_of s n) stays.atoms;
    cells = stays.cells;
    same =
        ap (λ (t : TurnsSeen). record c { turns = t; atoms = atoms; buffer = buffer }) stays.turns
        ∙ ap (λ (s : AtomsSeen). record c {
          atoms = record s { captured = atoms.captured; spare = atoms.spare; txn_spare = atoms.txn_spare };
          buffer = buffer;
        }) stays.atoms;
  }

-- ---- all parts

module _ {D : Type 0} (c : CoreSeen D) (a : AtomNo) (given : List CellSeen) (p : Prepared)
    (may : MaySeal c a p given) (buffer : BufferSeen) (atoms : AtomsSeen) (turns : TurnsSeen) (nodes : List NodeId)
    (names : HasNewNames (parts c.buffer c.atoms c.turns) (parts buffer atoms turns) a.0 p.renamed.items nodes)
    (states : AtomsSeen) (states_are : states ≡ with_sealed atoms a.0)
    (space : Space) (space_is : space ≡ sealed_in p.space a)
    (tree : Root) (id_is : tree.id.0 ≡ name_then p.renamed.items c.tree.id.0) (height_is : tree.height ≡ c.tree.height)
    (trace : Told) (trace_is : trace ≡ with_entry c.trace (Sealed a)) where
  abbrev commit : Commit
  commit = record { atom = a; nodes = nodes; work = Some p.plan }

  abbrev pub now : CoreSeen D
  now = record c {
    turns = turns;
    atoms = states;
    buffer = buffer;
    space = space;
    tree = tree;
    commit = Some commit;
    trace = trace;
  }

  owner_now : (i : ℕ) → owner_of states i ≡ owner_of atoms i
  owner_now i =
      ap (λ (s : AtomsSeen). owner_of s i) states_are
      ∙ owners_same atoms a.0 (record (state_of atoms a.0) { sealed = true }) refl i

  tree_is : tree ≡ root_renamed (name_then p.renamed.items) c.tree
  tree_is =
      ap (λ (n : ℕ). record { id = record { 0 = n }; height = tree.height }) id_is
      ∙ ap (λ (h : ℕ). record { id = record { 0 = name_then p.renamed.items c.tree.id.0 }; height = h }) height_is

  pub has_sealed : HasSealed c now a given p
  has_sealed = record {
    cells_are = may.are;
    prepared = may.prepared;
    txns = ap (λ (s : AtomsSeen). s.txns) states_are ∙ names.txns;
    states =
        ap (λ (s : AtomsSeen). s.atoms) states_are
        ∙ ap (λ (l : List AtomState). (with_sealed (record atoms { atoms = l }) a.0).atoms) names.states;
    owners = λ i. owner_now i ∙ names.owners i;
    captures =
        let same = ap (λ (s : AtomsSeen). s.spare) states_are in
        let as_before = names.captures in omega (arith, same, as_before);
    cells = names.cells;
    places = names.places;
    nodes = nodes;
    owned = λ i. (
      λ has. owner_now i ∙ (names.owned i).0 has,
      λ own. (names.owned i).1 (sym (owner_now i) ∙ own),
    );
    same =
        ap (λ (t : TurnsSeen). record now { turns = t }) names.turns
        ∙ ap (λ (s : Space). record now { turns = turns_with_pins (name_then p.renamed.items) c.turns; space = s })
        space_is
        ∙ ap (λ (r : Root). record now {
          turns = turns_with_pins (name_then p.renamed.items) c.turns;
          space = sealed_in p.space a;
          tree = r;
        }) tree_is
        ∙ ap (λ (t : Told). record now {
          turns = turns_with_pins (name_then p.renamed.items) c.turns;
          space = sealed_in p.space a;
          tree = root_renamed (name_then p.renamed.items) c.tree;
          trace = t;
        }) trace_is;
  }
