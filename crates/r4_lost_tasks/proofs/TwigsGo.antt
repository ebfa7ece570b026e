-- Twigs that have all keys from one on, one behind the other.
use Rattle.std.proofs.Common.{◌≡◌, ℕ, ◌<◌, ◌≤◌, Bool, true, false, [], ◌∷◌, List, refl, arith}
use Rattle.std.specs.Prelude.{Contains, ◌==◌, ◌&&◌, if◌then◌else◌}
use Rattle.std.proofs.Math.Decide.{dec_le}
use Rattle.std.proofs.Math.Nat.{lt_of_not-le}
use Rattle.std.proofs.lemmas.Bool.{and_parts, eqb-true, leb-true}
use Rattle.r4_base.specs.Key.{rank}
use Rattle.r4_content.specs.Edited.{is_between}
use Rattle.r4_content.proofs.Ranks.{between_is}
use Rattle.r4_task_moves.specs.r4_extent_shrink.r4_extent_build.Growing.{end_after, end_before}
use Rattle.r4_task_moves.specs.r4_extent_shrink.r4_extent_change.Among.{GoesAt}
use Rattle.r4_task_moves.specs.r4_extent_shrink.r4_measure.r4_cell.Seen.{CellSeen}
use Rattle.r4_task_moves.specs.r4_extent_shrink.r4_measure.r4_reach.Touched.{Body}
use Rattle.r4_task_moves.specs.r4_extent_shrink.r4_measure.r4_work.Order.{HasKey}
use Rattle.r4_lost_tasks.specs.Going.{goes_on, have_blocks}
use Rattle.r4_task_moves.proofs.r4_extent_moves.r4_applied.r4_sets_told.r4_patch.Members.{here, later}

-- a twig among the cells has the key
abbrev HasTwig : ℕ → List CellSeen → Type 0
HasTwig k cells = (c : CellSeen) × Contains cells c × (c.level ≡ 2) × HasKey c k

pub has_twig : (cells : List CellSeen) (from k : ℕ) → from ≤ k → k < goes_on from cells
    → (c : CellSeen) × Contains cells c × (c.level ≡ 2) × HasKey c k
has_twig [] from k low high = absurd (omega (arith, low, high))
has_twig (c ∷ cells) from k low high =
    by ((c.level == 2) && is_between (rank c.lo) (rank c.hi) from) refl high (λ next at more. has_twig cells next k at more)
  where
    behind : HasTwig k cells → HasTwig k (c ∷ cells)
    behind (d, has, level, at) = (d, later c d cells has, level, at)

    by : (t : Bool) → ((c.level == 2) && is_between (rank c.lo) (rank c.hi) from) ≡ t
        → k < goes_on (if t then rank c.hi else from) cells
        → ((next : ℕ) → next ≤ k → k < goes_on next cells → HasTwig k cells) → HasTwig k (c ∷ cells)
    by false off more rest = behind (rest from low more)
    by true on more rest =
        let (level, between) = and_parts (c.level == 2) (is_between (rank c.lo) (rank c.hi) from) on in
        let (start, end) = between_is (rank c.lo) (rank c.hi) from between in
        elim (dec_le (rank c.hi) k) [
          | yes past ↦ behind (rest (rank c.hi) past more)
          | no within ↦ (
            c,
            here c cells,
            eqb-true c.level 2 level,
            (omega (arith, start, low), lt_of_not-le within),
          )
        ]

pub goes_at : (b : Body) (cells : List CellSeen) (k : ℕ) → have_blocks b cells ≡ true
    → is_between (end_after b) (end_before b) k ≡ true → GoesAt b cells k
goes_at b cells k have on =
    let (low, high) = between_is (end_after b) (end_before b) k on in
    let reaches = leb-true (end_before b) (goes_on (end_after b) cells) have in
    (low, high, has_twig cells (end_after b) k low (omega (arith, high, reaches)))
