-- An open atom that is flushed on an image where nothing is unflushed: its cells get blocks, and the names of these
-- (docs/durable.md).
--     Flushing   what a flush begins with, and which blocks were chosen
--     IsAtRest   the image, its content, and the space with which it begins
use Rattle.std.specs.Prelude.{◌≡◌, ℕ, ◌^◌, ◌<◌, ◌≤◌, List, [], ◌∷◌, map, Contains, false, ◌==◌, if◌then◌else◌, Some}
use Rattle.std.specs.Prelude.{slice_index_or}
use Rattle.r4_base.specs.Chain.{HasLog, committed}
use Rattle.r4_base.specs.Image.{AreDifferent, Image, IsImage}
use Rattle.r4_base.specs.Tree.{Node}
use Rattle.r4_base.specs.Value.{Content, Value}
use Rattle.r4_base.specs.Volume.{HasContent}
use Rattle.r4_base.specs.declared.superblock.Super40.{Super40}
use Rattle.r4_base.specs.declared.things.AtomNo.{AtomNo}
use Rattle.r4_base.specs.declared.things.BlockNo.{BlockNo}
use Rattle.r4_sealed.specs.r4_cell.Seen.{CellSeen}
use Rattle.r4_sealed.specs.r4_space.Lawful.{IsLawful}
use Rattle.r4_sealed.specs.r4_space.Space.{Space}
use Rattle.r4_sealed.specs.r4_place.Chosen.{AreChosen, placed_all}
use Rattle.r4_sealed.specs.r4_place.declared.placed.Placed.{Placed}
use Rattle.r4_sealed.specs.r4_wander.declared.plan.LogPlan.{LogPlan}
use Rattle.r4_sealed.specs.r4_commit.Places.{block_given}
use Rattle.r4_sealed.specs.Commits.{Commit, spot, spot_of}
use Rattle.r4_sealed.specs.Written.{IsSpaceOf}

-- The image; the space in which no block is placed; the atom, its cells, each under the name that it had and with the
-- bytes that are written, and the blocks that were chosen for them; the superblock to come; and the head that the
-- journal header names.
pub record Flushing : Type 0 where
  pub base : Image
  pub space : Space
  pub atom : AtomNo
  pub cells : List CellSeen
  pub answers : List Placed
  pub next : Super40
  pub last : BlockNo

-- The image, of n blocks, has the content m, and nothing is unflushed; the space is its own, and no block is placed;
-- and each cell of the atom that has a block stands on one of a cell of the content.
pub record IsAtRest (n : ℕ) (work : Flushing) (m : Content) : Type 0 where
  pub content : HasContent n work.base m
  pub image : IsImage n work.base
  pub log : HasLog n work.base []
  pub prev : work.last.0 ≡ committed work.base
  pub here : IsSpaceOf content work.space
  pub lawful : IsLawful work.space
  pub still_lawful : IsLawful (placed_all work.space work.answers)
  pub within : work.space.block_count ≤ n
  pub blocks : work.next.block_count ≡ work.space.block_count
  pub none_placed : (b : ℕ) → slice_index_or work.space.placed b false ≡ false
  pub names : AreDifferent (map (λ x. x.id) work.cells)
  pub chosen : AreChosen 22 work.space work.cells work.answers
  pub old : (x : CellSeen) → Contains work.cells x → x.id < 2 ^ 63 → (d : Node Value) × (content.store x.id ≡ Some d)

-- ---- the commit that follows

-- with a plan for the cells under the names that they had
abbrev pub commit_of : Flushing → LogPlan → Commit
commit_of work plan = record {
  base = work.base;
  chain = [];
  space = placed_all work.space work.answers;
  atom = work.atom;
  cells = work.cells;
  answers = work.answers;
  next = work.next;
  last = work.last;
  plan = plan;
}

-- the cells and the answers under the names that the cells have once they are committed
abbrev pub named_by_block : List Placed → CellSeen → CellSeen
named_by_block answers x = record x { id = spot answers x }

abbrev pub answer_by_block : Placed → Placed
answer_by_block p = record { node = record { 0 = spot_of (block_given p.how) p.node.0 }; how = p.how }

abbrev pub cells_by_block : List Placed → List CellSeen → List CellSeen
cells_by_block answers cells = map (named_by_block answers) cells

abbrev pub answers_by_block : List Placed → List Placed
answers_by_block answers = map answer_by_block answers

-- with a plan for the cells under the names of their blocks
abbrev pub commit_by_block : Flushing → LogPlan → Commit
commit_by_block work plan = record (commit_of work plan) {
  cells = cells_by_block work.answers work.cells;
  answers = answers_by_block work.answers;
}

-- ---- names become those of blocks

-- the two of each pair change places
abbrev pub swapped : List (ℕ × ℕ) → ℕ → ℕ
swapped [] i = i
swapped (p ∷ rest) i = if i == p.0 then p.1 else if i == p.1 then p.0 else swapped rest i

-- each cell's name, and the block on which it stands
abbrev pub moves : List Placed → List CellSeen → List (ℕ × ℕ)
moves answers cells = map (λ x. (x.id, spot answers x)) cells

-- The names of the atom's cells become those of their blocks, and the other way round.
abbrev pub name_after : Flushing → ℕ → ℕ
name_after work = swapped (moves work.answers work.cells)
