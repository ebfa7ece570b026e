-- The blocks of a volume, counted (docs/durable.md, "Space comes back").
use Rattle.std.specs.Prelude.{◌≡◌, ◌↔◌, ℕ, List, Contains, count_by, not, Some}
use Rattle.std.specs.List.{range_with_len}
use Rattle.r4_base.specs.Bitmap.{is_fixed}
use Rattle.r4_base.specs.Image.{AreDifferent}
use Rattle.r4_base.specs.Tree.{Node, Store}
use Rattle.r4_base.specs.Value.{Value}
use Rattle.r4_commit.specs.Plannable.{is_marked_in}
use Rattle.r4_space.specs.Space.{Space}

-- how many blocks are not marked, and how many are fixed
abbrev pub unmarked_count : Space → ℕ
unmarked_count s = count_by (λ b. not (is_marked_in s b)) (range_with_len 0 s.block_count)

abbrev pub fixed_count : Space → ℕ
fixed_count s = count_by (is_fixed s.block_count) (range_with_len 0 s.block_count)

-- The list has exactly the numbers of a kind, each once.
pub record Lists (IsOne : ℕ → Type 0) (bs : List ℕ) : Type 0 where
  pub different : AreDifferent bs
  pub each : (b : ℕ) → Contains bs b ↔ IsOne b

-- a cell stands on the block
abbrev pub HasCell : Store Value → ℕ → Type 0
HasCell t b = (c : Node Value) × (t b ≡ Some c)
