-- Cells for which a plan may be made.
use Rattle.std.proofs.Common.{◌≡◌, ◌≢◌, ℕ, ◌+◌, ◌/◌, ◌≤◌, ◌<◌, List, length, map, get_or, sym, subst, arith}
use Rattle.std.specs.Prelude.{All}
use Rattle.std.proofs.lemmas.List.{length-map}
use Rattle.std.proofs.lemmas.List.Elements.{All-contains, All-map, Contains-get_or}
use Rattle.r4_cell.specs.Seen.{CellSeen}
use Rattle.r4_place.specs.declared.placed.Placed.{Placed}
use Rattle.r4_space.specs.Accounts.{price_formula}
use Rattle.r4_commit.specs.Places.{overwritten, overwritten_blocks, place_of}
use Rattle.r4_commit.proofs.Differing.{kept_cell}
use Rattle.r4_commit.proofs.PlanFacts.{length-both}
use Rattle.r4_commit_testing.specs.Cells.{HaveBlocks}

less : (k n unused : ℕ) → k ≤ n → n + (1 + 1) + (n + 1 + 1 + 253) / 254 + 1 ≤ unused →
    k + (1 + 1) + (k + 1 + 1 + 253) / 254 + 1 ≤ unused
less k n unused few enough = omega (arith, few, enough)

-- no more cells are overwritten than there are
pub room_for : (answers : List Placed) (cells : List CellSeen) (b n unused : ℕ) → b ≡ 1 → n ≡ length cells →
    price_formula n 1 ≤ unused → price_formula (length (overwritten_blocks answers cells)) b ≤ unused
room_for answers cells b n unused one counted enough =
    let blocks = overwritten_blocks answers cells in
    let both = length-both (place_of answers) cells in
    let kept = length-map (overwritten (place_of answers) cells) (λ (c : CellSeen). c.id) in
    let enough_now = less (length blocks) n unused (omega (arith, both, kept, counted)) enough in
    subst (λ (k : ℕ). price_formula (length blocks) k ≤ unused) (sym one) enough_now

-- what is overwritten is a cell
pub kept_all : (answers : List Placed) (cells : List CellSeen) (n : ℕ) → HaveBlocks n cells →
    All (λ b. (b ≢ 0) × (b < n)) (overwritten_blocks answers cells)
kept_all answers cells n all = λ k d lt.
    let names : List ℕ = map (λ (c : CellSeen). c.id) cells in
    let b : ℕ = get_or (overwritten_blocks answers cells) k d in
    All-contains (λ (x : ℕ). (x ≢ 0) × (x < n)) names b
    (All-map (λ (x : ℕ). (x ≢ 0) × (x < n)) (λ (c : CellSeen). c.id) cells all)
    (kept_cell (place_of answers) cells b (Contains-get_or (overwritten_blocks answers cells) k d lt))
