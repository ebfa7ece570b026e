-- The keys that go of all twigs among a task's cells.
use Rattle.std.proofs.Common.{◌≡◌, ◌↔◌, ℕ, ◌<◌, ◌≤◌, true, List, arith}
use Rattle.std.specs.Prelude.{◌&&◌}
use Rattle.std.proofs.lemmas.Bool.{eq-eqb, lt-ltb}
use Rattle.r4_base.specs.Key.{rank}
use Rattle.r4_extent_loss.specs.r4_extent_build.Growing.{end_after, end_before}
use Rattle.r4_extent_counts.proofs.r4_extent_demands.PutsInto.{any_there, there_any}
use Rattle.r4_extent_loss.proofs.LossChanges.{gone_after, gone_before, larger_less, smaller_more}
use Rattle.r4_extent_loss.proofs.LostPieces.{gone_high, gone_low}
use Rattle.r4_extent_loss.proofs.r4_extent_edit.ExtentEffect.{is_on}
use Rattle.r4_extent_loss.specs.Losing.{gone_from, gone_to, in_gone}
use Rattle.r4_build.proofs.r4_measure.r4_work.UnitMembers.{between}
use Rattle.r4_build.specs.r4_measure.r4_cell.Seen.{CellSeen}
use Rattle.r4_build.specs.r4_measure.r4_reach.Touched.{Body}
use Rattle.r4_extent_change.specs.Among.{GoesAt, gone_among, is_losing, losing_twigs}
use Rattle.r4_extent_change.proofs.Chosen.{kept_in}
use Rattle.r4_extent_change.proofs.LossAmong.{losing_is}

module _ (b : Body) (cells : List CellSeen) (k : ℕ) where
  goes : gone_among b cells k ≡ true → GoesAt b cells k
  goes h =
      let (c, at, on) = there_any (λ (c : CellSeen). in_gone b c k) (losing_twigs b cells) h in
      let (among, two, some) = losing_is b cells c at in
      let (from, to) = between (gone_from b c) (gone_to b c) k on in
      let after = gone_after b c in
      let before = gone_before b c in
      let low = gone_low b c in
      let high = gone_high b c in
      (omega (arith, from, after), omega (arith, to, before), (c, among, two, (omega (arith, from, low), omega (arith, to, high))))

  gone : GoesAt b cells k → gone_among b cells k ≡ true
  gone (after, before, (c, among, two, range)) =
      let from : gone_from b c ≤ k = larger_less (rank c.lo) (end_after b) k range.0 after in
      let to : k < gone_to b c = smaller_more (rank c.hi) (end_before b) k range.1 before in
      let losing : is_losing b c ≡ true = λ i. eq-eqb c.level 2 two i && lt-ltb (gone_from b c) (gone_to b c) (omega (arith, from, to)) i in
      any_there (λ (d : CellSeen). in_gone b d k) (losing_twigs b cells) c (kept_in (is_losing b) cells c losing among) (is_on (gone_from b c) (gone_to b c) k from to)

  pub gone_is : (gone_among b cells k ≡ true) ↔ GoesAt b cells k
  gone_is = (goes, gone)
