-- Twigs of a growing body that are packed anew one after the other (docs/volume.md, "Bodies in extents"). A key is its
-- rank.
use Rattle.std.specs.Prelude.{◌≡◌, ℕ, ◌+◌, ◌^◌, ◌<◌, ◌≤◌, Bool, true, List, [], ◌∷◌, map, Contains, Some}
use Rattle.std.specs.List.{list_any}
use Rattle.r4_base.specs.Key.{offset_of}
use Rattle.r4_base.specs.Tree.{Root, Store}
use Rattle.r4_base.specs.Value.{Value}
use Rattle.r4_extent_demands.specs.r4_branch.declared.piece.TwigPiece.{TwigPiece}
use Rattle.r4_extent_demands.specs.r4_cell.Seen.{CellSeen, node_of}
use Rattle.r4_extent_demands.specs.r4_cell.declared.change.Fresh.{Fresh}
use Rattle.r4_content.specs.Edited.{Edits}
use Rattle.r4_extent_demands.specs.r4_path.TwigPieces.{twig_pieces}
use Rattle.r4_extent_demands.specs.r4_reach.Needs.{pieces_after}
use Rattle.r4_extent_demands.specs.r4_reach.Touched.{Body}
use Rattle.r4_twig_turns.specs.Turning.{CanRegraftAll, IsTurned, TwigTurn, behind, numbers_for}
use Rattle.r4_twig_turns.specs.r4_twig_work.Regrafting.{DoesBelow}
use Rattle.r4_twig_turns.specs.r4_work.declared.working.WorkingSet.{WorkingSet}
use Rattle.r4_extent_build.specs.Growing.{IsClearFor}
use Rattle.r4_extent_build.specs.Numbering.{is_coming}
use Rattle.r4_extent_build.specs.Setting.{AreKeysOf}
use Rattle.r4_extent_build.specs.Turns.{growing_turn}

-- the turns of these twigs, and the numbers that are left behind them
abbrev pub turns_of : Body → Edits → List CellSeen → List TwigTurn
turns_of b e twigs = map (growing_turn b e) twigs

abbrev pub behind_all : List TwigTurn → Fresh → Fresh
behind_all [] f = f
behind_all (e ∷ es) f = behind_all es (behind e f)

-- The cell is a twig, and there is a key behind each block that comes into it.
pub record IsTwigFor (b : Body) (e : Edits) (c : CellSeen) : Type 0 where
  pub level : c.level ≡ 2
  pub near : (p : TwigPiece) → Contains (pieces_after (Some b) e (node_of c) []) p
      → is_coming (twig_pieces c) p ≡ true → offset_of p.key + 4096 < 2 ^ 64

-- The twigs may be packed anew, one after the other, and there are numbers for them.
pub record CanTurnAll (b : Body) (e : Edits) (t : Store Value) (r : Root) (twigs : List CellSeen)
    (f : Fresh) (w : WorkingSet) : Type 0 where
  pub turns : CanRegraftAll t r (turns_of b e twigs) f w
  pub each : (c : CellSeen) → Contains twigs c → IsTwigFor b e c
  pub low : 2 ^ 63 ≤ f.next
  pub numbers : f.next + numbers_for (turns_of b e twigs) ≤ f.end

-- Each of these turns was done, and so one set was made of the other: what a turn says of its twig it did.
abbrev pub AreTurned : Store Value → Root → List TwigTurn → Fresh → (w now : WorkingSet) → Type 0
AreTurned t r [] f w now = now ≡ w
AreTurned t r (e ∷ es) f w now =
    (after : Fresh) × ((v : WorkingSet) × IsTurned t r e f after w v
    × DoesBelow w v e.key (e.pieces f.next) (e.beside f.next) × AreTurned t r es (behind e f) v now)

-- Nothing stands where blocks come into each of these twigs, and these are its keys that get bytes.
pub record AreKeysOfEach (b : Body) (e : Edits) (twigs : List CellSeen) (at : CellSeen → ℕ → Bool)
    : Type 0 where
  pub clear : (c : CellSeen) → Contains twigs c → IsClearFor b c
  pub keys : (c : CellSeen) → Contains twigs c → AreKeysOf b e c (at c)

-- the keys of all of them
abbrev pub keys_of_each : (at : CellSeen → ℕ → Bool) → List CellSeen → ℕ → Bool
keys_of_each at twigs k = list_any (λ (c : CellSeen). at c k) twigs
