-- Pieces of twigs, as they are made from key to key (docs/volume.md, "Reach"). A key is its rank.
use Rattle.std.specs.Prelude.{ℕ, ◌+◌, ◌-◌, ◌*◌, ◌^◌, ◌≤◌, ◌==◌, List, [], ◌∷◌, Bool, false, ◌&&◌}
use Rattle.std.specs.Prelude.{◌||◌, drop, nat_lt, take, if◌then◌else◌}
use Rattle.std.specs.List.{flat_map}
use Rattle.r4_base.specs.Key.{IsKey, offset_of, rank}
use Rattle.r4_base.specs.Tree.{Node}
use Rattle.r4_base.specs.Value.{Value}
use Rattle.r4_base.specs.declared.items.Unit.{Unit as ExtentUnit}
use Rattle.r4_base.specs.declared.key.Key.{Key}
use Rattle.r4_graft.specs.r4_branch.Pieces.{next_of, piece_end}
use Rattle.r4_graft.specs.r4_branch.declared.piece.TwigPart.{TwigPart}
use Rattle.r4_graft.specs.r4_branch.declared.piece.TwigPart.TheVariants.{Blocks, Pointer}
use Rattle.r4_graft.specs.r4_branch.declared.piece.TwigPiece.{TwigPiece}
use Rattle.r4_content.specs.Edited.{Edits, put_keys}
use Rattle.r4_graft.specs.Splices.{place, spliced}
use Rattle.r4_bodies.specs.r4_leaf_edits.r4_reach.Needs.{cut_pieces, filled, is_met, taken_up, with_coming}
use Rattle.r4_bodies.specs.r4_leaf_edits.r4_reach.Touched.{Body, first_byte, going, turns_out}

-- one of so many blocks, from a key on, gets bytes
abbrev pub gets_among : Body → Edits → (key blocks : ℕ) → Bool
gets_among b e k n = is_met (put_keys e.puts) k (k + 4096 * n)
    || (turns_out b && nat_lt k (first_byte b + b.was))

-- so many blocks of a hole, if any, and a block that comes, at a key
abbrev pub hole_at : Key → (blocks : ℕ) → List TwigPiece
hole_at k n = if n == 0 then [] else record { key = k; part = Blocks (record { start = 0; width = n }) } ∷ []

abbrev pub block_at : Key → TwigPiece
block_at k = record { key = k; part = Blocks (record { start = 2 ^ 63; width = 1 }) }

-- The blocks of a part end by offset 2^64 of their object; the numbers of several end by 2^64.
pub record HasRoomFor (offset : ℕ) (u : ExtentUnit) : Type 0 where
  pub bytes : offset + 4096 * u.width ≤ 2 ^ 64
  pub numbers : 2 ≤ u.width → u.start + u.width ≤ 2 ^ 64

abbrev pub PartHasRoom : (offset : ℕ) → TwigPart → Type 0
PartHasRoom offset (Pointer to) = Unit {0}
PartHasRoom offset (Blocks u) = HasRoomFor offset u

pub record HasRoom (p : TwigPiece) : Type 0 where
  pub key : IsKey p.key
  pub part : PartHasRoom (offset_of p.key) p.part

-- Each piece begins where the one before it ends, or behind that; the first from a key on.
abbrev pub AreInOrder : (from : ℕ) → List TwigPiece → Type 0
AreInOrder from [] = Unit {0}
AreInOrder from (p ∷ ps) = (from ≤ rank p.key) × AreInOrder (piece_end p) ps

-- ---- where leaves end

-- the part points to a leaf, whose range ends at a key
abbrev pub ends_leaf : (next key : ℕ) → TwigPart → Bool
ends_leaf next k (Pointer to) = next == k
ends_leaf next k (Blocks u) = false

-- a leaf to which one of the pieces points ends at a key; the last piece's range ends at hi
abbrev pub has_leaf_end : (hi key : ℕ) → List TwigPiece → Bool
has_leaf_end hi k [] = false
has_leaf_end hi k (p ∷ ps) = ends_leaf (next_of hi ps) k p.part || has_leaf_end hi k ps

-- the pieces without those that begin from one key on and below another, and with what takes up their range
abbrev pub without_between : Node Value → (from to : ℕ) → List TwigPiece → List TwigPiece
without_between c from to ps = spliced (place from ps) (place to ps)
    (taken_up c (take (place from ps) ps) (take (place to ps - place from ps) (drop (place from ps) ps))) ps

-- ---- all of it

-- the pieces without the blocks that go, with those that holes get, and with those that come
abbrev pub remade : Body → Edits → Node Value → List TwigPiece → List TwigPiece
remade b e c ps = with_coming b e c (flat_map (filled b e) (cut_pieces (going b) c ps))
