use Rattle.std.proofs.Common.{◌≡◌, ◌++◌}
use Rattle.std.specs.BTreeSet.{btree_set_len}
use Rattle.std.specs.List.{flat_map}
use Rattle.r4_check_objects.specs.Objects.{faults_under}
use Rattle.r4_check_objects.proofs.objects.add_under.Given as goal

abbrev pub invariant-loop-id : goal.invariant-loop-id
invariant-loop-id l =
    l.faults.items ++ flat_map (faults_under l.judge.super40 l.judge.leaf l.found) l.ids.keys ≡ l.fn.faults.items ++ flat_map (faults_under l.judge.super40 l.judge.leaf l.found) l.fn.ids.keys

abbrev pub decreases-loop-id : goal.decreases-loop-id
decreases-loop-id l = btree_set_len l.ids
