-- Two atoms become one, the smaller of the two.
use Rattle.std.proofs.Common.{◌≡◌, ◌≢◌, ℕ, ◌-◌, ◌<◌, map, min, max, arith}
use Rattle.std.specs.Option.{option_map}
use Rattle.r4_atoms.specs.Atoms.{AtomsSeen, joined, owner_of, renamed_txn}
use Rattle.r4_atoms.specs.Names.{renamed}
use Rattle.r4_others.specs.r4_history.Tables.{Fuses}

module _ (old new : AtomsSeen) (kept gone : ℕ) (less : kept < gone) where
  smaller : min kept gone ≡ kept
  smaller = omega (arith, less)

  greater : max kept gone ≡ gone
  greater = omega (arith, less)

  differ : kept ≢ gone
  differ same = omega (arith, same, less)

  pub fuses_smaller : new.txns ≡ map (renamed_txn (min kept gone) (max kept gone)) old.txns
      → (kept ≢ gone → new.atoms ≡ joined old.atoms (min kept gone - 1) (max kept gone - 1))
      → Fuses old new kept gone
  fuses_smaller txns atoms = record {
    txns = rw greater at (rw smaller at txns);
    atoms = rw greater at (rw smaller at (atoms differ));
  }

  pub owners_smaller : ((n : ℕ) → owner_of new n
      ≡ option_map (renamed (min kept gone) (max kept gone)) (owner_of old n))
      → (n : ℕ) → owner_of new n ≡ option_map (renamed kept gone) (owner_of old n)
  owners_smaller owners n = rw greater at (rw smaller at (owners n))
