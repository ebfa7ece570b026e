-- What atoms cost, and the accounts of the open ones (docs/space.md, "Price and free").
use Rattle.std.specs.Prelude.{◌≡◌, ℕ, ◌+◌, ◌-◌, ◌/◌, ◌<◌, List, [], ◌∷◌, ◌++◌, length, map, filter, find, slice_index_or, sum_by, unwrap_or, Bool, true, false, not, ◌||◌, ◌==◌, if◌then◌else◌}
use Rattle.std.specs.List.{list_any}
use Rattle.r4_base.specs.declared.things.AtomNo.{AtomNo}
use Rattle.r4_space.specs.declared.things.Account.{Account}

-- the copies of the cells, of the bitmaps and of the superblock, a record for each 254 of them or part of them, and the
-- head
abbrev pub price_formula : (cells bitmaps : ℕ) → ℕ
price_formula cells bitmaps = cells + (bitmaps + 1) + (cells + bitmaps + 1 + 253) / 254 + 1

-- an atom without cells is priced at 0
abbrev pub price_of : (cells bitmaps : ℕ) → ℕ
price_of cells bitmaps = if cells == 0 then 0 else price_formula cells bitmaps

-- ---- accounts

abbrev pub is_account_of : AtomNo → Account → Bool
is_account_of atom account = account.atom.0 == atom.0

abbrev pub no_account : AtomNo → Account
no_account atom = record { atom = atom; cells = 0; fresh = 0 }

-- the account of an atom; one that has none has no cells
abbrev pub account_at : List Account → AtomNo → Account
account_at accounts atom = unwrap_or (find (is_account_of atom) accounts) (no_account atom)

abbrev pub is_open : List Account → AtomNo → Bool
is_open accounts atom = list_any (is_account_of atom) accounts

-- the accounts of all other atoms
abbrev pub without_account : AtomNo → List Account → List Account
without_account atom accounts = filter (λ a. not (is_account_of atom a)) accounts

-- the account where it is its atom's, and else the other one
abbrev pub in_place : Account → Account → Account
in_place account a = if is_account_of account.atom a then account else a

-- the account in place of its atom's, or behind the others where there is none
abbrev pub with_account : List Account → Account → List Account
with_account accounts account =
    if is_open accounts account.atom then map (in_place account) accounts else accounts ++ account ∷ []

-- account i is the atom's
abbrev pub StandsAt : List Account → AtomNo → ℕ → Type 0
StandsAt accounts atom i = (i < length accounts) × (is_account_of atom (slice_index_or accounts i (no_account atom)) ≡ true)

-- what an atom takes up: its price, and a block for each cell without one
abbrev pub due_of : ℕ → Account → ℕ
due_of bitmaps account = price_of account.cells bitmaps + account.fresh

-- what all open atoms take up
unfoldable pub dues : ℕ → List Account → ℕ
dues bitmaps accounts = sum_by (due_of bitmaps) accounts

-- what a change to these numbers takes besides what its atom takes up already
abbrev pub need_of : (bitmaps : ℕ) → List Account → AtomNo → (cells fresh : ℕ) → ℕ
need_of bitmaps accounts atom cells fresh = price_of cells bitmaps + fresh - due_of bitmaps (account_at accounts atom)

-- ---- sealed atoms, in the order in which they were sealed

abbrev pub is_atom : AtomNo → AtomNo → Bool
is_atom atom other = other.0 == atom.0

abbrev pub is_sealed : List AtomNo → AtomNo → Bool
is_sealed atoms atom = list_any (is_atom atom) atoms

-- an atom that is neither open nor sealed is open from now on
abbrev pub with_atom : List Account → List AtomNo → AtomNo → List Account
with_atom accounts sealed atom = if is_open accounts atom || is_sealed sealed atom then accounts else accounts ++ no_account atom ∷ []

-- the two accounts together
abbrev pub sum_account : AtomNo → Account → Account → Account
sum_account atom a b = record { atom = atom; cells = a.cells + b.cells; fresh = a.fresh + b.fresh }

-- the account of `gone` is added to that of `kept`
abbrev pub with_merged : List Account → (kept gone : AtomNo) → List Account
with_merged accounts kept gone =
    if is_open accounts gone then with_account (without_account gone accounts) (sum_account kept (account_at accounts kept) (account_at accounts gone)) else
    accounts

-- an open atom is sealed
abbrev pub with_sealed : List Account → List AtomNo → AtomNo → List AtomNo
with_sealed accounts sealed atom = if is_open accounts atom then sealed ++ atom ∷ [] else sealed

abbrev pub without_atom : AtomNo → List AtomNo → List AtomNo
without_atom atom atoms = filter (λ a. not (is_atom atom a)) atoms

-- Each atom has one account at most.
unfoldable pub EachOnce : List Account → Type 0
EachOnce [] = Unit {0}
EachOnce (a ∷ rest) = (is_open rest a.atom ≡ false) × EachOnce rest
