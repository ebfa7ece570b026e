-- Which pieces twigs beside each other get (docs/volume.md, "Bodies in extents"). A key is its
-- rank.
use Rattle.std.specs.Prelude.{◌≡◌, ℕ, ◌≤◌, List, map, length, Contains, false}
use Rattle.r4_work.specs.r4_branch.Pieces.{next_of}
use Rattle.r4_work.specs.r4_branch.declared.piece.TwigPiece.{TwigPiece}
use Rattle.r4_work.specs.r4_cell.Seen.{CellSeen}
use Rattle.r4_rows.specs.Fewest.{joined}
use Rattle.r4_rows.specs.Packed.{AreTheirPieces}
use Rattle.r4_row_gather.specs.Clearing.{Fate, MayHave, coming, going, is_in_way, staying}
use Rattle.r4_row_gather.specs.Finding.{IsRowFrom}
use Rattle.r4_row_gather.specs.Parting.{AreParts}
use Rattle.r4_row_gather.specs.declared.planning.Plan.{Plan}

-- The twigs are cells that stand beside each other among these. Of their pieces those stay, in
-- their order, whose leaves do not go without another in their place; these may be parted so. Where
-- leaves go, none begins in the range then.
pub record IsPlanOf (cells : List CellSeen) (from to : ℕ) (x : Plan) : Type 0 where
  pub begin : ℕ
  pub hi : ℕ
  pub row : IsRowFrom cells 2 begin hi x.row
  pub each : List (List TwigPiece)
  pub pieces : AreTheirPieces x.row each
  pub fates : List Fate
  pub may : MayHave hi (joined each) fates
  pub first : next_of hi (staying (joined each) fates) ≡ next_of hi (joined each)
  pub gone : x.below.old ≡ going fates
  pub come : x.below.new ≡ coming fates
  pub among : (c : CellSeen) → Contains (going fates) c → Contains cells c
  pub clear : (c : CellSeen) → Contains (going fates) c → (p : TwigPiece)
      → Contains (staying (joined each) fates) p → is_in_way from to p ≡ false
  pub parts : AreParts (staying (joined each) fates) (map (λ v. v.items) x.parts.items)
  pub few : length x.parts.items ≤ length x.row
