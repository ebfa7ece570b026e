-- Cells that were read from an image, by their names.
use Rattle.std.proofs.Common.{◌≡◌, ◌⊎◌, ℕ, zero, suc, Bool, true, false, List, [], ◌∷◌, inl, inr, refl, subst, arith}
use Rattle.std.specs.Prelude.{All, Option, None, Some, ◌==◌, if◌then◌else◌}
use Rattle.std.proofs.lemmas.Bool.{eqb-true}
use Rattle.std.proofs.lemmas.Option.{same_Some}
use Rattle.r4_base.specs.Cell.{IsCellOf, cell_fault, cell_of}
use Rattle.r4_base.specs.Image.{Image, block_at}
use Rattle.r4_base.specs.Key.{rank}
use Rattle.r4_base.specs.Tree.{Node}
use Rattle.r4_base.specs.Value.{Value}
use Rattle.r4_cell.specs.Patch.{by_name}
use Rattle.r4_cell.specs.Seen.{CellSeen, IsReadFrom, node_of}

accepted_is : (blocks level lo hi : ℕ) (b : List ℕ) → cell_fault false blocks level lo hi b ≡ None → IsCellOf blocks b (cell_of level lo hi b)
unfolding cell_of
accepted_is blocks zero lo hi b h = record { sound = h; says = refl }
accepted_is blocks (suc l) lo hi b h = record { sound = h; says = refl }

read_is : (blocks : ℕ) (image : Image) (c : CellSeen) → IsReadFrom blocks image c → IsCellOf blocks (block_at image c.id) (node_of c)
read_is blocks image c h = subst (λ (b : List ℕ). IsCellOf blocks b (node_of c)) h.0 (accepted_is blocks c.level (rank c.lo) (rank c.hi) c.block h.1)

first_or : (t : Bool) (a c : Node Value) (rest : Option (Node Value)) → (if t then Some a else rest) ≡ Some c → ((t ≡ true) × (a ≡ c)) ⊎ (rest ≡ Some c)
first_or true a c rest h = inl (refl, same_Some a c h)
first_or false a c rest h = inr h

pub reads : (blocks : ℕ) (image : Image) (cells : List CellSeen) → All (IsReadFrom blocks image) cells → (i : ℕ) (c : Node Value) → by_name cells i ≡ Some c → IsCellOf blocks (block_at image i) c
reads blocks image [] all i c h = absurd cc
reads blocks image (x ∷ cells) all i c h = elim (first_or (x.id == i) (node_of x) c (by_name cells i) h) [
  | inl here ↦ subst (λ (d : Node Value). IsCellOf blocks (block_at image i) d) here.1 (subst (λ (k : ℕ). IsCellOf blocks (block_at image k) (node_of x)) (eqb-true x.id i here.0) (read_is blocks image x (all 0 x (omega arith))))
  | inr later ↦ reads blocks image cells (λ k d lt. all (suc k) d (omega (arith, lt))) i c later
]
