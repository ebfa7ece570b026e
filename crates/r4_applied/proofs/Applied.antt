-- What was built of a command does in the tree of all atoms what the command means.
use Rattle.std.proofs.Common.{◌≡◌, ◌⊎◌, inl, inr, ℕ, ◌<◌, ◌≤◌, true, false, ◌++◌}
use Rattle.std.specs.Arc.{arc_value}
use Rattle.r4_base.specs.Key.{least, top}
use Rattle.r4_base.specs.Tree.{Root, Store}
use Rattle.r4_base.specs.Value.{Content, Value}
use Rattle.r4_build.specs.Built.{BuiltSeen, IsMove, IsPlain, edits_for}
use Rattle.r4_content.specs.Edited.{changed, is_in}
use Rattle.r4_content.specs.Held.{pairs_of}
use Rattle.r4_content.specs.Locality.{commands}
use Rattle.r4_content.specs.Meaning.{greatest_size}
use Rattle.r4_sets_told.specs.r4_patch.Joining.{patch_of_change}
use Rattle.r4_build.specs.r4_reach.Touched.{reads_on}
use Rattle.r4_sets_told.specs.r4_sets.Change.{Does}
use Rattle.r4_applied.specs.Applying.{IsBuiltOver, IsInReach, changed_by, moved_by, touched_by}
use Rattle.r4_applied.proofs.MoveDone as moved
use Rattle.r4_applied.proofs.PlainDone as plain

module _ (x : BuiltSeen) (u : Store Value) (root : Root) (n : Content) (h : IsBuiltOver x u root n) where
  pub does : Does (commands greatest_size) x.task.command u root n (patch_of_change x.change) (touched_by x h.built)
      (changed_by x h.built)
  does = by h.built.made
    where
      by : (made : IsPlain x.task (patch_of_change x.change) ⊎ IsMove x.task (patch_of_change x.change))
          → Does (commands greatest_size) x.task.command u root n (patch_of_change x.change)
          (reads_on x.task.command (pairs_of (arc_value x.task.seen)) false
          ++ (moved_by x.task (patch_of_change x.change) made ++ changed (edits_for x.task)))
          (moved_by x.task (patch_of_change x.change) made ++ changed (edits_for x.task))
      by (inl in_leaves) = plain.does x u root n h in_leaves
      by (inr move) = moved.does x u root n h move

  pub in_reach : (k : ℕ) → is_in (touched_by x h.built) k ≡ true → least ≤ k → k < top → IsInReach x.task k
  in_reach k on from to = by h.built.made on
    where
      by : (made : IsPlain x.task (patch_of_change x.change) ⊎ IsMove x.task (patch_of_change x.change))
          → is_in (reads_on x.task.command (pairs_of (arc_value x.task.seen)) false
          ++ (moved_by x.task (patch_of_change x.change) made ++ changed (edits_for x.task))) k ≡ true → IsInReach x.task k
      by (inl in_leaves) touched = plain.in_reach x u root n h in_leaves k touched from to
      by (inr move) touched = moved.in_reach x u root n h move k touched from to
