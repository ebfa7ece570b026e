use Rattle.std.proofs.Common.{◌≡◌, drop, map}
use Rattle.std.specs.Arc.{arc_value}
use Rattle.std.specs.List.{list_all}
use Rattle.r4_content.specs.Held.{pair_of}
use Rattle.r4_extent_growth.specs.Lying.{put_lies}
use Rattle.r4_extent_growth.proofs.lying.puts_lie.Given as goal

abbrev pub invariant-loop-put : goal.invariant-loop-put
invariant-loop-put l = list_all (put_lies (map (λ c. arc_value c) l.fn.cells)) (map pair_of l.fn.puts)
    ≡ list_all (put_lies (map (λ c. arc_value c) l.fn.cells)) (map pair_of (drop l.put-index l.fn.puts))
