-- Twigs that get other pieces, over leaves and data blocks that go and come, and the rows above them, as one change
-- (docs/volume.md, "Edits").
use Rattle.std.specs.Prelude.{◌≡◌, ◌↔◌, ℕ, ◌+◌, ◌<◌, ◌≤◌, List, [], ◌++◌, length, Bool, Contains, Option}
use Rattle.r4_base.specs.Tree.{IsNode, Name, Root, Store}
use Rattle.r4_base.specs.Value.{Value}
use Rattle.r4_branch.specs.Pieces.{names_of, units_of}
use Rattle.r4_branch.specs.declared.piece.TwigPiece.{TwigPiece}
use Rattle.r4_cell.specs.Seen.{CellSeen, node_of}
use Rattle.r4_cell.specs.declared.change.Change.{Change}
use Rattle.r4_cell.specs.declared.change.Fresh.{Fresh}
use Rattle.r4_patch.specs.Effect.{Placed}
use Rattle.r4_patch.specs.Part.{IsPart}
use Rattle.r4_path.specs.Levels.{units_of_cells}
use Rattle.r4_path.specs.Steps.{AreNaming, Follow, IsFree, name_of, root_pair}
use Rattle.r4_rows.specs.Numbers.{HaveNumbersBelow}
use Rattle.r4_rows.specs.Rows.{AreNamedAfter, AreThere, Row, all_news, all_olds}
use Rattle.r4_rows.specs.Turn.{IsTurn}
use Rattle.r4_rows.specs.Units.{TakeEffect}
use Rattle.r4_row_edit.specs.Climbing.{Climbed, HasNumbers, IsUpTo, StandUp, numbers_for}
use Rattle.r4_row_edit.specs.Twigs.{AreTooFew, AreTwigsWith, MayGet}

-- In this part of a tree the twigs and the rows above them stand, and what goes below the twigs, which they name. Where
-- the twigs are too few for the pieces the rows go up to the root. The pieces name what the twigs name, with what comes
-- below in the place of what goes. What comes may stand and has numbers that serve, and the fresh numbers are free.
pub record IsShiftIn (t : Store Value) (r : Root) (b : Row) (row : List CellSeen) (ps : List TwigPiece)
    (above : List (List CellSeen)) (fresh : Fresh) : Type 0 where
  pub part : IsPart t r
  pub gone : AreThere t b.old
  pub low_old : (c : CellSeen) → Contains b.old c → c.level ≤ 1
  pub low_new : (c : CellSeen) → Contains b.new c → c.level ≤ 1
  pub nodes : (c : CellSeen) → Contains b.new c → IsNode (node_of c)
  pub there : AreThere t row
  pub leads : (c : CellSeen) → Contains b.old c → AreNaming row (name_of c)
  pub names : (from to : ℕ) → Follow 2 from to row → (n : Name) → Contains (names_of to ps) n
      ↔ AreNamedAfter b (record { old = row; new = [] }) n
  pub stand : (cells : List CellSeen) → Contains above cells → AreThere t cells
  pub up : AreTooFew row ps → IsUpTo r row above
  pub free : IsFree fresh.next fresh.end t
  pub below : HaveNumbersBelow t fresh.next fresh.end b

-- The pieces may be given to the twigs, whatever stands in the tree: so many more twigs suffice, and the rows stand over
-- the twigs up to one cell. Where more twigs may be needed, that is the root, and there are fresh numbers.
pub record CanShift (row : List CellSeen) (ps : List TwigPiece) (above : List (List CellSeen)) (more : ℕ) (fresh : Fresh)
    : Type 0 where
  pub may : MayGet row ps more
  pub up : StandUp more 2 row above
  pub few : more ≤ 87
  pub height : 1 ≤ more → 2 + length above < 8
  pub ordered : fresh.next ≤ fresh.end
  pub numbers : 1 ≤ more → HasNumbers (more + numbers_for more above) fresh

-- The change has what goes and comes below a row of twigs, the row, and the rows above.
pub record HasRows (b s : Row) (above : List (List CellSeen)) (before after : Fresh)
    (c : Change) : Type 0 where
  pub more : List Row
  pub over : Option CellSeen
  pub climbed : Climbed 2 s above before after more over
  pub old : c.old ≡ all_olds b s more
  pub new : c.new ≡ all_news b s more over
  pub root : c.root ≡ root_pair over

-- The change has the cells below, the twigs, and the rows above.
pub record IsShifted (b : Row) (row : List CellSeen) (ps : List TwigPiece) (above : List (List CellSeen))
    (before after : Fresh) (c : Change) : Type 0 where
  pub cells : List CellSeen
  pub mid : Fresh
  pub more : List Row
  pub over : Option CellSeen
  pub twigs : AreTwigsWith row ps before mid cells
  pub climbed : Climbed 2 (record { old = row; new = cells }) above mid after more over
  pub old : c.old ≡ all_olds b (record { old = row; new = cells }) more
  pub new : c.new ≡ all_news b (record { old = row; new = cells }) more over
  pub root : c.root ≡ root_pair over

-- ---- what happens to units

-- twigs with the units of these pieces, however many there are
abbrev pub HaveUnitsOf : List TwigPiece → List CellSeen → Type 0
HaveUnitsOf ps cells = ((c : CellSeen) → Contains cells c → c.level ≡ 2) × (units_of_cells cells ≡ units_of ps)

-- The pieces, with what comes below in the place of what goes, have this effect, in whatever twigs they come to stand.
abbrev pub PiecesTakeEffect : (b : Row) (row : List CellSeen) (ps : List TwigPiece) (at : ℕ → Bool)
    (to : ℕ → Option (Placed Value)) → Type 0
PiecesTakeEffect b row ps at to = (cells : List CellSeen) → HaveUnitsOf ps cells
    → TakeEffect (b.old ++ row) (b.new ++ cells) at to

-- With them bytes of leaves come to stand in an extent, in whatever twigs they come to stand.
abbrev pub PiecesTurn : (b : Row) (row : List CellSeen) (ps : List TwigPiece) (from to : ℕ)
    (values : ℕ → Option Value) → Type 0
PiecesTurn b row ps from to values = (cells : List CellSeen) → HaveUnitsOf ps cells
    → IsTurn b (record { old = row; new = cells }) from to values
