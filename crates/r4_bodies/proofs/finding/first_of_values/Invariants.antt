use Rattle.std.proofs.Common.{◌≡◌, drop, map}
use Rattle.r4_content.specs.Edited.{put_keys}
use Rattle.r4_content.specs.Held.{pair_of}
use Rattle.r4_leaf_demands.specs.r4_reach.Touched.{body_key}
use Rattle.r4_bodies.proofs.finding.first_of_values.Given as goal

abbrev pub invariant-loop-key : goal.invariant-loop-key
invariant-loop-key l =
    body_key (put_keys (map pair_of l.values)) ≡ body_key (put_keys (map pair_of (drop l.key-index l.values)))
