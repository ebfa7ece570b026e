-- The accounts of the open atoms, the sealed atoms, and for how many calls there is room.
use Rattle.std.specs.Prelude.{◌≡◌, ℕ, ◌+◌, ◌≤◌, List, All, length}
use Rattle.r4_base.specs.declared.things.AtomNo.{AtomNo}
use Rattle.r4_space.specs.Accounts.{dues, EachOnce}
use Rattle.r4_space.specs.declared.things.Account.{Account}

pub record Books : Type 0 where
  pub bitmaps : ℕ
  pub atoms : List Account
  pub sealed : List AtomNo
  pub spare : ℕ

-- What holds of the rows of accounts and of sealed atoms, with room for so many: what all open atoms take up is kept.
pub record IsBooks (bitmaps : ℕ) (atoms : List Account) (sealed : List AtomNo) (owed spare room room_sealed : ℕ) : Type 0 where
  pub few : bitmaps ≤ 64
  pub once : EachOnce atoms
  pub counted : owed ≡ dues bitmaps atoms
  pub small : owed ≤ 1048576
  pub enough : length atoms + spare ≤ room
  pub enough_sealed : length atoms + length sealed + spare ≤ room_sealed

-- No atom has a number above this one.
abbrev pub AreUpTo : ℕ → List Account → Type 0
AreUpTo highest atoms = All (λ a. a.atom.0 ≤ highest) atoms
