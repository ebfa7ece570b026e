use Rattle.std.proofs.Common.{◌<◌, ℕ, map, sym, subst, arith}
use Rattle.std.specs.Prelude.{All}
use Rattle.std.specs.Arc.{arc_value}
use Rattle.std.proofs.lemmas.List.{length-map}
use Rattle.r4_place.specs.Chosen.{fresh_blocks}
use Rattle.r4_commit_testing.specs.Cells.{HaveBlocks}
use Rattle.r4_commit_testing.proofs.Plans.{room_for, kept_all}
use Rattle.r4_commit_testing.proofs.commits.commit.Goals as goal

pub plan-requires-clause-room : goal.plan-requires-clause-room
plan-requires-clause-room c =
    room_for c.args.placed.now (map (λ cell. arc_value cell) c.args.cells.now) _ _ _
    (omega (arith, c.requires.least, c.requires.most, c.requires.space))
    (sym (length-map c.args.cells.now (λ cell. arc_value cell))) c.in_ok-has_room.ensures

pub plan-requires-clause-overwritten : goal.plan-requires-clause-overwritten
plan-requires-clause-overwritten c =
    kept_all c.args.placed.now (map (λ cell. arc_value cell) c.args.cells.now) c.args.space.now.block_count
    (subst (λ (n : ℕ). HaveBlocks n (map (λ cell. arc_value cell) c.args.cells.now)) (sym c.requires.space)
    c.requires.cells)

pub plan-requires-clause-placed : goal.plan-requires-clause-placed
plan-requires-clause-placed c =
    subst (λ (n : ℕ). All (λ (b : ℕ). b < n) (fresh_blocks c.args.placed.now)) (sym c.requires.space)
    c.requires.placed
