-- Twigs that are packed anew one after the other, each once (docs/volume.md, "What may still come").
use Rattle.std.specs.Prelude.{◌≡◌, ◌≢◌, ◌↔◌, ◌⊎◌, ℕ, ◌+◌, ◌^◌, ◌<◌, ◌≤◌, List, [], ◌∷◌, map, length, sum_by}
use Rattle.std.specs.Prelude.{Contains, Some}
use Rattle.r4_base.specs.Tree.{IsData, IsNode, Name, Node, Root, Store}
use Rattle.r4_base.specs.Value.{Value}
use Rattle.r4_twig_work.specs.r4_branch.Pieces.{AreTwigPieces, names_of, twig_bytes}
use Rattle.r4_twig_work.specs.r4_branch.declared.piece.TwigPiece.{TwigPiece}
use Rattle.r4_twig_work.specs.r4_cell.Patch.{HaveNames}
use Rattle.r4_twig_work.specs.r4_cell.Seen.{CellSeen, node_of}
use Rattle.r4_twig_work.specs.r4_cell.declared.change.Fresh.{Fresh}
use Rattle.r4_twig_work.specs.r4_measure.Budget.{Budget}
use Rattle.r4_twig_work.specs.r4_measure.Grafting.{Beside, IsRegrafted, comes_below}
use Rattle.r4_twig_work.specs.r4_patch.Joining.{ids_of}
use Rattle.r4_twig_work.specs.r4_path.Grafts.{AreBlocksOf, extra_twigs}
use Rattle.r4_twig_work.specs.r4_path.Steps.{CountUp, IsNameOf, name_of}
use Rattle.r4_twig_work.specs.Regrafting.{IsRegraftable}
use Rattle.r4_twig_work.specs.r4_work.Working.{IsWorking, now_of, standing, twig_path_of}
use Rattle.r4_twig_work.specs.r4_work.declared.working.WorkingSet.{WorkingSet}

-- The twig that has a key, of which the node is given, is packed anew: which pieces it gets, and what goes and comes
-- below it, by the number that is free next. So many numbers are taken for this: first for data blocks, then for leaves.
pub record TwigTurn : Type 0 where
  pub key : ℕ
  pub node : Node Value
  pub pieces : (next : ℕ) → List TwigPiece
  pub beside : (next : ℕ) → Beside
  pub blocks : ℕ
  pub leaves : ℕ

-- Behind those numbers each twig has 64 of its own, for twigs and nodes above them; the rest is for the others.
abbrev pub own_of : TwigTurn → Fresh → Fresh
own_of e f = record {
  next = f.next + (e.blocks + e.leaves);
  end = f.next + (e.blocks + (e.leaves + 64));
}

abbrev pub behind : TwigTurn → Fresh → Fresh
behind e f = record f { next = f.next + (e.blocks + (e.leaves + 64)) }

-- The first twig is packed anew with its numbers.
abbrev pub IsTurned : Store Value → Root → TwigTurn → Fresh → (after : Fresh) → (w now : WorkingSet)
    → Type 0
IsTurned t r e f after w now =
    IsRegrafted t r (own_of e f) after w now e.key (e.pieces f.next) (e.beside f.next)

-- The standing twig that has the key is of this node.
abbrev pub IsTwigAt : WorkingSet → TwigTurn → Type 0
IsTwigAt w e = (twig : CellSeen) (ups : List CellSeen) → twig_path_of w e.key ≡ twig ∷ ups
    → node_of twig ≡ e.node

-- It may be, and whatever that leaves, so may the others.
abbrev pub CanRegraftAll : Store Value → Root → List TwigTurn → Fresh → WorkingSet → Type 0
CanRegraftAll t r [] f w = Unit {0}
CanRegraftAll t r (e ∷ es) f w =
    IsRegraftable t r (own_of e f) w e.key (e.pieces f.next) (e.beside f.next) (f.next + e.blocks)
    × IsTwigAt w e × ((after : Fresh) (v : WorkingSet) → IsTurned t r e f after w v
    → CanRegraftAll t r es (behind e f) v)

-- Where all of them are packed anew, the set is one of this part of a tree, and no more cells stand than so many.
abbrev pub TurnAtMost : (most : ℕ) → Store Value → Root → List TwigTurn → Fresh → WorkingSet
    → Type 0
TurnAtMost most t r [] f w = IsWorking t r f w × (length (standing w) ≤ most)
TurnAtMost most t r (e ∷ es) f w = (after : Fresh) (v : WorkingSet) → IsTurned t r e f after w v
    → TurnAtMost most t r es (behind e f) v

-- ---- when a twig is ready

-- What the turn makes of a twig, with numbers from this one on: pieces for its range, which name what it named, but for
-- what goes, and what comes. Data blocks that come have the first numbers; leaves that come have the number of a cell
-- that goes, or the next ones.
pub record IsTurnOf (c : Node Value) (e : TwigTurn) (next : ℕ) : Type 0 where
  pub pieces : AreTwigPieces c.lo c.hi (e.pieces next)
  pub bytes : twig_bytes (e.pieces next) ≤ 16000
  pub data_names : List Name
  pub blocks : AreBlocksOf data_names (e.beside next).blocks
  pub of_data : (n : Name) → Contains data_names n → IsData n
  pub block_numbers : CountUp next (map (λ (n : Name). n.id) data_names)
  pub block_count : length data_names ≡ e.blocks
  pub goes : (x : CellSeen) → Contains (e.beside next).below.old x → Contains c.names (name_of x)
  pub names : (n : Name) → Contains (names_of c.hi (e.pieces next)) n
      ↔ ((Contains c.names n × (IsNameOf (e.beside next).below.old n → ⊥))
      ⊎ (IsNameOf (e.beside next).below.new n ⊎ Contains data_names n))
  pub nodes : (x : CellSeen) → Contains (e.beside next).below.new x → IsNode (node_of x)
  pub low : (x : CellSeen) → Contains (comes_below (e.beside next)) x → x.level ≤ 1
  pub old : HaveNames (e.beside next).below.old
  pub new : HaveNames (e.beside next).below.new
  pub mine : List ℕ
  pub each : (x : CellSeen) → Contains (e.beside next).below.new x
      → Contains (ids_of (e.beside next).below.old) x.id ⊎ Contains mine x.id
  pub few : length (e.beside next).below.new ≤ e.leaves + 1
  pub leaf_numbers : CountUp (next + e.blocks) mine
  pub leaf_count : length mine ≤ e.leaves

-- The twig of this number stands and has the key; what goes below it stands, and what comes beside it is in the budget,
-- whichever numbers are free at its turn.
pub record IsReady (t : Store Value) (w : WorkingSet) (b : Budget) (e : TwigTurn) (i : ℕ)
    : Type 0 where
  pub node : Node Value
  pub node_is : node ≡ e.node
  pub at : now_of w t i ≡ Some node
  pub stands : (x : CellSeen) × Contains (standing w) x × (x.id ≡ i)
  pub level : node.level ≡ 2
  pub key : (node.lo ≤ e.key) × (e.key < node.hi)
  pub turn : (n : ℕ) → 2 ^ 63 ≤ n → n + (e.blocks + e.leaves) < 2 ^ 64 → IsTurnOf node e n
  pub goes : (n : ℕ) (x : CellSeen) → Contains (e.beside n).below.old x → Contains (standing w) x
  pub named : (n : ℕ) (x : CellSeen) → Contains (e.beside n).below.old x
      → Contains node.names (name_of x)
  pub come : (n : ℕ) → extra_twigs (e.pieces n) ≤ b 2 i

-- each of them, and no two of one twig
abbrev pub AreReady : Store Value → WorkingSet → Budget → List TwigTurn → List ℕ → Type 0
AreReady t w b [] [] = Unit {0}
AreReady t w b [] (i ∷ is) = ⊥
AreReady t w b (e ∷ es) [] = ⊥
AreReady t w b (e ∷ es) (i ∷ is) =
    IsReady t w b e i × ((j : ℕ) → Contains is j → j ≢ i) × AreReady t w b es is

-- numbers enough for them: those that they take, and 64 for each
abbrev pub numbers_for : List TwigTurn → ℕ
numbers_for es = sum_by (λ (e : TwigTurn). e.blocks + (e.leaves + 64)) es

-- how many cells come below the twigs at most
abbrev pub come_at_most : List TwigTurn → ℕ
come_at_most es = sum_by (λ (e : TwigTurn). e.blocks + (e.leaves + 1)) es
