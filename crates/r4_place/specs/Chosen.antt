-- Which blocks the cells of a slum get (docs/space.md, "Places").
use Rattle.std.specs.Prelude.{◌≡◌, ℕ, ◌+◌, ◌^◌, ◌<◌, ◌≤◌, List, [], ◌∷◌, ◌++◌, Contains}
use Rattle.r4_cell.specs.Seen.{CellSeen}
use Rattle.r4_space.specs.Words.{IsNextClear}
use Rattle.r4_space.specs.Space.{Space, is_taken, with_placed}
use Rattle.r4_place.specs.declared.placed.How.{How}
use Rattle.r4_place.specs.declared.placed.How.TheVariants.{Fresh, Relocate, Overwrite}
use Rattle.r4_place.specs.declared.placed.Placed.{Placed}

-- where the next block is looked for: behind the last one that was placed
abbrev pub behind : ℕ → How → ℕ
behind near (Fresh b) = b.0 + 1
behind near (Relocate b) = b.0 + 1
behind near Overwrite = near

-- the space with the block placed
abbrev pub placed_in : Space → How → Space
placed_in s (Fresh b) = with_placed s b.0
placed_in s (Relocate b) = with_placed s b.0
placed_in s Overwrite = s

-- A cell without a block gets the first unused one from a place on, or else the first unused one; every other cell keeps its block.
abbrev pub IsChosen : (near : ℕ) → Space → CellSeen → How → Type 0
IsChosen near s c (Fresh b) = (2 ^ 63 ≤ c.id) × IsNextClear (is_taken s) s.block_count near b.0
IsChosen near s c (Relocate b) = ⊥
IsChosen near s c Overwrite = c.id < 2 ^ 63

-- The cells are answered in their order, each once.
abbrev pub AreChosen : (near : ℕ) → Space → List CellSeen → List Placed → Type 0
AreChosen near s [] [] = Unit {0}
AreChosen near s [] (p ∷ ps) = ⊥
AreChosen near s (c ∷ cs) [] = ⊥
AreChosen near s (c ∷ cs) (p ∷ ps) = (p.node.0 ≡ c.id) × IsChosen near s c p.how × AreChosen (behind near p.how) (placed_in s p.how) cs ps

-- where the next block is looked for after these answers
abbrev pub behind_all : ℕ → List Placed → ℕ
behind_all near [] = near
behind_all near (p ∷ ps) = behind_all (behind near p.how) ps

-- the space with the blocks of all these answers placed
abbrev pub placed_all : Space → List Placed → Space
placed_all s [] = s
placed_all s (p ∷ ps) = placed_all (placed_in s p.how) ps

-- the fresh block of an answer, where there is one
abbrev pub block_of : How → List ℕ
block_of (Fresh b) = b.0 ∷ []
block_of (Relocate b) = b.0 ∷ []
block_of Overwrite = []

-- the fresh blocks of all answers, in order
abbrev pub fresh_blocks : List Placed → List ℕ
fresh_blocks [] = []
fresh_blocks (p ∷ ps) = block_of p.how ++ fresh_blocks ps
