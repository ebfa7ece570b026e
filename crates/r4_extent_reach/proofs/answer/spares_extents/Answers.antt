use Rattle.std.proofs.Common.{◌≡◌, ℕ, ◌∙◌, eq-eqb, sym, subst}
use Rattle.std.specs.Prelude.{Contains}
use Rattle.r4_base.specs.Cell.{cell_of}
use Rattle.r4_base.specs.Key.{rank}
use Rattle.r4_extent_reaching.proofs.r4_touching.r4_patch.Members.{none}
use Rattle.r4_extent_reach.proofs.answer.spares_extents.Goals as goal

-- a data block has no extent
pub returns-then-level-eq0 : goal.returns-then-level-eq0
unfolding cell_of
returns-then-level-eq0 c = (
  (λ zero_is s has.
      let cell = c.args.cell.now in
      let level : cell.level ≡ 0 = sym c.level.ensures ∙ c.if-level-eq0.true in
      absurd (none s (subst (λ (l : ℕ). Contains (cell_of l (rank cell.lo) (rank cell.hi) cell.block).spans s) level
      has))),
  (λ spared. eq-eqb c.level.result 0 c.if-level-eq0.true),
)
