-- The space of a volume, in the words of its contracts (docs/space.md).
use Rattle.std.specs.Prelude.{ℕ, ◌-◌, max, nat_le, List, [], ◌∷◌, ◌++◌, map, filter, replicate, count_by, slice_index_or, slice_set, Bool, true, false, not, ◌&&◌, ◌||◌, ◌==◌, if◌then◌else◌}
use Rattle.std.specs.List.{list_any, range_with_len}
use Rattle.r4_base.specs.Bitmap.{is_fixed, bitmap_count}
use Rattle.r4_base.specs.declared.things.AtomNo.{AtomNo}
use Rattle.r4_base.specs.declared.things.BlockNo.{BlockNo}
use Rattle.r4_space.specs.declared.things.Account.{Account}
use Rattle.r4_space.specs.declared.things.Claim.{Claim}
use Rattle.r4_space.specs.Accounts.{dues, is_atom, is_sealed, need_of, with_account, with_atom, with_merged, with_sealed, without_account, without_atom}

-- For each block whether it is marked, and whether it is placed; which blocks are held, and which deferred, and for which
-- atom; the two numbers of each open atom; the sealed atoms, the first one first; and for how many calls there is room.
pub record Space : Type 0 where
  pub block_count : ℕ
  pub marked : List Bool
  pub placed : List Bool
  pub held : List Claim
  pub deferred : List Claim
  pub atoms : List Account
  pub sealed : List AtomNo
  pub spare : ℕ

-- ---- blocks

abbrev pub is_block : ℕ → Claim → Bool
is_block b claim = claim.block.0 == b

abbrev pub is_claimed : List Claim → ℕ → Bool
is_claimed claims b = list_any (is_block b) claims

-- whether a block is marked, placed, held or deferred
unfoldable pub is_taken_by : (marked placed : List Bool) (held deferred : List Claim) (b : ℕ) → Bool
is_taken_by marked placed held deferred b = slice_index_or marked b false || (slice_index_or placed b false || (is_claimed held b || is_claimed deferred b))

-- a block is unused where it is none of the four
abbrev pub is_taken : Space → ℕ → Bool
is_taken s b = is_taken_by s.marked s.placed s.held s.deferred b

unfoldable pub unused_count : Space → ℕ
unused_count s = count_by (λ b. not (is_taken s b)) (range_with_len 0 s.block_count)

-- the unused blocks, less what the open atoms take up, and 0 where that is negative
abbrev pub free_of : Space → ℕ
free_of s = unused_count s - dues (bitmap_count s.block_count) s.atoms

-- what a change of an atom's numbers to these takes besides what the atom takes up already
abbrev pub need_at : Space → AtomNo → (cells fresh : ℕ) → ℕ
need_at s atom cells fresh = need_of (bitmap_count s.block_count) s.atoms atom cells fresh

-- ---- what the calls make of a space

abbrev pub used_up : Space → Space
used_up s = record s { spare = s.spare - 1 }

abbrev pub with_room : Space → (calls : ℕ) → Space
with_room s calls = record s { spare = max s.spare calls }

abbrev pub charged : Space → AtomNo → (cells fresh : ℕ) → Space
charged s atom cells fresh = record s { atoms = with_account s.atoms (record { atom = atom; cells = cells; fresh = fresh }); spare = s.spare - 1 }

abbrev pub with_placed : Space → ℕ → Space
with_placed s b = record s { placed = slice_set s.placed b true }

abbrev pub with_held : Space → AtomNo → BlockNo → Space
with_held s atom b = record s { held = s.held ++ record { atom = atom; block = b } ∷ []; atoms = with_atom s.atoms s.sealed atom; spare = s.spare - 1 }

abbrev pub with_deferred : Space → AtomNo → BlockNo → Space
with_deferred s atom b = record s { deferred = s.deferred ++ record { atom = atom; block = b } ∷ []; atoms = with_atom s.atoms s.sealed atom; spare = s.spare - 1 }

-- what belonged to `gone` belongs to `kept`
abbrev pub renamed : (kept gone : AtomNo) → Claim → Claim
renamed kept gone claim = if is_atom gone claim.atom then record claim { atom = kept } else claim

abbrev pub merged : Space → (kept gone : AtomNo) → Space
merged s kept gone = record s { deferred = map (renamed kept gone) s.deferred; atoms = with_merged s.atoms kept gone }

abbrev pub sealed_in : Space → AtomNo → Space
sealed_in s atom = record s { atoms = without_account atom s.atoms; sealed = with_sealed s.atoms s.sealed atom }

-- ---- what settles

abbrev pub claims_of : AtomNo → List Claim → List Claim
claims_of atom claims = filter (λ c. is_atom atom c.atom) claims

abbrev pub claims_without : AtomNo → List Claim → List Claim
claims_without atom claims = filter (λ c. not (is_atom atom c.atom)) claims

-- whether a block is marked once its atom settles: it was marked or placed and is not deferred for it; a fixed block
-- always is
unfoldable pub is_marked_after : ℕ → (marked placed : List Bool) → List Claim → ℕ → Bool
is_marked_after n marked placed freed b = is_fixed n b || ((slice_index_or marked b false || slice_index_or placed b false) && not (is_claimed freed b))

abbrev pub settled : Space → AtomNo → Space
settled s atom = record s {
  marked = map (is_marked_after s.block_count s.marked s.placed (claims_of atom s.deferred)) (range_with_len 0 s.block_count);
  placed = replicate s.block_count false;
  held = claims_without atom s.held;
  deferred = claims_without atom s.deferred;
  atoms = without_account atom s.atoms;
  sealed = without_atom atom s.sealed;
}

-- ---- the bitmaps that a commit leaves

-- an atom, after those that were sealed before it
abbrev pub up_to : List AtomNo → AtomNo → List AtomNo
up_to [] atom = atom ∷ []
up_to (a ∷ rest) atom = if is_atom atom a then atom ∷ [] else a ∷ up_to rest atom

-- the blocks that these atoms free
abbrev pub freed_by : List AtomNo → List Claim → List Claim
freed_by atoms claims = filter (λ c. is_sealed atoms c.atom) claims

-- whether the commit of an atom leaves block b marked; a number past the block count is
unfoldable pub is_marked_by : Space → AtomNo → ℕ → Bool
is_marked_by s atom b = nat_le s.block_count b || is_marked_after s.block_count s.marked s.placed (freed_by (up_to s.sealed atom) s.deferred) b
