-- Beside leaves bytes stand alone: those of data blocks, and the zeros of a twig's holes.
use Rattle.std.proofs.Common.{◌≡◌, inl, inr, ℕ, ◌+◌, ◌*◌, Bool, true, false, List, [], ◌∷◌, sym, ap, subst}
use Rattle.std.specs.Prelude.{Contains, if◌then◌else◌}
use Rattle.std.proofs.lemmas.List.Elements.{Contains-append_cases}
use Rattle.r4_base.specs.Cell.{bytes_from, cell_of, zeros_from}
use Rattle.r4_base.specs.Extents.{is_hole}
use Rattle.r4_base.specs.Key.{rank}
use Rattle.r4_base.specs.Value.{Byte, Value}
use Rattle.r4_turned_tasks.proofs.r4_extent_put.r4_extent_growth.r4_extent_change.r4_extent_build.UnitsOfRuns.{zeros_members}
use Rattle.r4_turned_tasks.proofs.r4_extent_put.r4_extent_growth.r4_extent_change.r4_extent_build.r4_extent_edit.SpanBorders.{sound_pieces}
use Rattle.r4_turned_tasks.proofs.r4_extent_put.r4_extent_growth.r4_measure.r4_patch.Members.{cases, none}
use Rattle.r4_turned_tasks.specs.r4_extent_put.r4_extent_growth.r4_measure.r4_branch.Pieces.{part_units, units_of}
use Rattle.r4_turned_tasks.specs.r4_extent_put.r4_extent_growth.r4_measure.r4_branch.declared.piece.TwigPart.{TwigPart}
use Rattle.r4_turned_tasks.specs.r4_extent_put.r4_extent_growth.r4_measure.r4_branch.declared.piece.TwigPart.TheVariants.{Blocks, Pointer}
use Rattle.r4_turned_tasks.specs.r4_extent_put.r4_extent_growth.r4_measure.r4_branch.declared.piece.TwigPiece.{TwigPiece}
use Rattle.r4_turned_tasks.specs.r4_extent_put.r4_extent_growth.r4_measure.r4_cell.Seen.{CellSeen, node_of}
use Rattle.r4_turned_tasks.specs.r4_extent_put.r4_extent_growth.r4_measure.r4_leaf.Units.{LeafUnit}
use Rattle.r4_turned_tasks.specs.r4_extent_put.r4_extent_growth.r4_measure.r4_path.Sharing.{IsSound}
use Rattle.r4_turned_tasks.specs.r4_extent_put.r4_extent_growth.r4_measure.r4_path.TwigPieces.{twig_pieces}

-- the value is a byte
abbrev pub IsSomeByte : Value → Type 0
IsSomeByte v = (x : ℕ) × (v ≡ Byte x)

block_byte : (lo : ℕ) (bs : List ℕ) (k : ℕ) (v : Value) → Contains (bytes_from lo bs) (k, v) → IsSomeByte v
block_byte lo [] k v at = absurd (none (k, v) at)
block_byte lo (x ∷ bs) k v at = elim (cases (lo, Byte x) (k, v) (bytes_from (lo + 1) bs) at) [
  | inl is ↦ (x, ap (λ (w : LeafUnit). w.1) is)
  | inr more ↦ block_byte (lo + 1) bs k v more
]

part_byte : (key : ℕ) (t : TwigPart) (k : ℕ) (v : Value) → Contains (part_units key t) (k, v) → IsSomeByte v
part_byte key (Pointer to) k v at = absurd (none (k, v) at)
part_byte key (Blocks u) k v at = by_hole (is_hole u) at
  where
    by_hole : (t : Bool) → Contains (if t then zeros_from key (4096 * u.width) else []) (k, v) → IsSomeByte v
    by_hole true mine = (0, ((zeros_members key (4096 * u.width) k v).0 mine).1)
    by_hole false nil = absurd (none (k, v) nil)

piece_byte : (ps : List TwigPiece) (k : ℕ) (v : Value) → Contains (units_of ps) (k, v) → IsSomeByte v
unfolding units_of
piece_byte [] k v at = absurd (none (k, v) at)
piece_byte (p ∷ ps) k v at = elim (Contains-append_cases (part_units (rank p.key) p.part) (units_of ps) (k, v) at) [
  | inl mine ↦ part_byte (rank p.key) p.part k v mine
  | inr more ↦ piece_byte ps k v more
]

pub twig_byte : (c : CellSeen) → IsSound c → c.level ≡ 2 → (k : ℕ) (v : Value) → Contains (node_of c).units (k, v)
    → IsSomeByte v
twig_byte c sound level k v at =
    piece_byte (twig_pieces c) k v
    (subst (λ (us : List LeafUnit). Contains us (k, v)) (sym (sound_pieces c sound level).units) at)

pub data_byte : (c : CellSeen) → c.level ≡ 0 → (k : ℕ) (v : Value) → Contains (node_of c).units (k, v) → IsSomeByte v
unfolding cell_of
data_byte c level k v at =
    block_byte (rank c.lo) c.block k v
    (subst (λ (l : ℕ). Contains (cell_of l (rank c.lo) (rank c.hi) c.block).units (k, v)) level at)
