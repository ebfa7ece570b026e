use Rattle.std.proofs.Common.{◌≡◌, true, take, length, ◌++◌}
use Rattle.std.specs.List.{list_all}
use Rattle.r4_base.specs.Refusal.{pair_is_in_range}
use Rattle.r4_logfmt.specs.View.{view_record}
use Rattle.r4_replay.proofs.txn.take_pairs.Given as goal

abbrev pub invariant-loop-i : goal.invariant-loop-i
invariant-loop-i l =
    let ps = (view_record l.says).pairs in
    record {
      ends : l.i-end ≡ length ps;
      good : list_all (pair_is_in_range l.blocks) (take l.i ps) ≡ true;
      taken : l.pairs.items ≡ l.fn.pairs.items ++ take l.i ps;
    }
