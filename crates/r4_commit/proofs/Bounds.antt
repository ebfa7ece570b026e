-- How many calls a commit makes.
use Rattle.std.proofs.Common.{◌≡◌, ℕ, ◌+◌, ◌*◌, ◌/◌, ◌≤◌, List, length, sym, ap, ◌∙◌, arith}
use Rattle.std.proofs.lemmas.List.{length-map}
use Rattle.r4_base.specs.Bitmap.{bitmap_count}
use Rattle.r4_base.specs.declared.superblock.Super40.{Super40}
use Rattle.r4_base.specs.declared.things.AtomNo.{AtomNo}
use Rattle.r4_base.specs.declared.things.BlockNo.{BlockNo}
use Rattle.r4_place.specs.r4_cell.Seen.{CellSeen}
use Rattle.r4_space.specs.Space.{Space}
use Rattle.r4_place.specs.declared.placed.Placed.{Placed}
use Rattle.r4_wander.specs.Seen.{Copy, Placed as PlacedCell}
use Rattle.r4_wander.specs.Torn.{Write}
use Rattle.r4_wander.specs.LogPlan.{parts_of}
use Rattle.r4_wander.specs.Parts.{Parts, IsOrderOf}
use Rattle.r4_wander.specs.Progress.{calls_from}
use Rattle.r4_wander.specs.declared.plan.LogPlan.{LogPlan}
use Rattle.r4_wander.proofs.Stepping.{all_calls}
use Rattle.r4_commit.specs.Places.{overwritten, place_of}
use Rattle.r4_commit.specs.Planned.{IsPlanFor, new_super}
use Rattle.r4_commit.proofs.PlanFacts.{length-both, length-new_homes}

bound : (calls f w r k b c : ℕ) → calls ≡ f + w + r + 1 + 1 + w + 1 + 4 → w ≡ k + b + 1 → r ≡ (w + 253) / 254 → f + k ≡ c → calls ≤ 2 * (c + b + 1) + (c + b + 1 + 253) / 254 + 7
bound calls f w r k b c is wandered records both = omega (arith, is, wandered, records, both)

pub bounded : (s : Space) (atom : AtomNo) (cells : List CellSeen) (answers : List Placed) (next : Super40) (last : BlockNo) (p : LogPlan) (plan : Parts) → IsPlanFor s atom cells answers next last p → IsOrderOf (parts_of p) plan
    → calls_from plan 0 ≤ 2 * (length cells + bitmap_count s.block_count + 1) + (length cells + bitmap_count s.block_count + 1 + 253) / 254 + 7
bounded s atom cells answers next last p plan f order =
    let copies : length p.wandered ≡ length (overwritten (place_of answers) cells) + bitmap_count s.block_count + 1 =
    sym (length-map p.wandered (λ (w : Copy). (w.original, w.block))) ∙ ap (λ (l : List Write). length l) f.homes ∙ length-new_homes (new_super next f.bitmaps) f.bitmaps (overwritten (place_of answers) cells)
    ∙ ap (λ (b : ℕ). length (overwritten (place_of answers) cells) + b + 1) f.are_new.count in
    let fresh : length p.placed + length (overwritten (place_of answers) cells) ≡ length cells = ap (λ (l : List PlacedCell). length l + length (overwritten (place_of answers) cells)) f.placed ∙ length-both (place_of answers) cells in
    bound (calls_from plan 0) (length p.placed) (length p.wandered) (length p.records) (length (overwritten (place_of answers) cells)) (bitmap_count s.block_count) (length cells) (all_calls p plan order) copies f.records fresh
