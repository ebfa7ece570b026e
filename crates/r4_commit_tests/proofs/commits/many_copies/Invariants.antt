use Rattle.std.proofs.Common.{◌≡◌, ◌≢◌, ◌<◌}
use Rattle.std.specs.Prelude.{All, length, map}
use Rattle.r4_commit_tests.proofs.commits.many_copies.Given as goal

abbrev pub invariant-loop-i : goal.invariant-loop-i
invariant-loop-i l = record {
  count : length l.all.items ≡ l.i;
  below : All (λ w. (w.original < 1024) × (w.copy < 1024)) l.all.items;
  named : All (λ o. o ≢ 0) (map (λ w. w.original) l.all.items);
}
