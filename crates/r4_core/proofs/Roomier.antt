-- A core of which parts have more room.
use Rattle.std.proofs.Common.{◌≡◌, ◌∙◌, ap}
use Rattle.r4_atoms.specs.Atoms.{AtomsSeen, TxnSeen}
use Rattle.r4_buffer.specs.Seen.{BufferSeen}
use Rattle.r4_ready.specs.r4_kept.View.{CoreSeen}
use Rattle.r4_ready.specs.Rooms.{HasMoreRoom}
use Rattle.r4_start.specs.r4_rooms.Rooms.{HasMoreCaptures, HasMoreClaims, HasMoreEntries, HasMorePlaces}
use Rattle.r4_space.specs.Space.{Space}
use Rattle.r4_trace.specs.Kept.{Told}

module _ {D : Type 0} (c : CoreSeen D) (trace : Told) (atoms : AtomsSeen) (buffer : BufferSeen) (space : Space)
    (entries : HasMoreEntries c.trace trace) (captures : HasMoreCaptures c.atoms atoms)
    (places : HasMorePlaces c.buffer buffer) (claims : HasMoreClaims c.space space) where
  abbrev table : AtomsSeen
  table = record c.atoms { captured = atoms.captured; spare = atoms.spare; txn_spare = atoms.txn_spare }

  atoms_are : atoms ≡ table
  atoms_are =
      ap (λ l. record atoms { txns = l }) captures.txns
      ∙ ap (λ l. record atoms { txns = c.atoms.txns; atoms = l }) captures.atoms

  pub has_more : HasMoreRoom c (record c { trace = trace; atoms = atoms; buffer = buffer; space = space })
  has_more = record {
    entries = entries.0;
    captures = captures.room;
    places = places.room;
    claims = claims.0;
    owners = captures.owners;
    cells = places.cells;
    same =
        ap (λ (t : Told). record c { trace = t; atoms = atoms; buffer = buffer; space = space }) entries.1
        ∙ ap (λ (a : AtomsSeen). record c {
          trace = record c.trace { spare = trace.spare };
          atoms = a;
          buffer = buffer;
          space = space;
        }) atoms_are
        ∙ ap (λ (s : Space). record c {
          trace = record c.trace { spare = trace.spare };
          atoms = table;
          buffer = buffer;
          space = s;
        }) claims.1;
  }
