use Rattle.r4_durable_rows.proofs.Counting.{again, at_rest, unused}
use Rattle.r4_durable_rows.proofs.counted.space_comes_back.Goals as goal

pub returns : goal.returns
returns g = record {
  at_rest = λ limit b c s image cells lost r has gone. at_rest limit b c s image cells lost r has gone;
  again = λ limit b c now s later image new cells cells_now r r_now has has_now count same.
      again limit b c now s later image new cells cells_now r r_now has has_now count same;
  unused = λ s placed held deferred. unused s placed held deferred;
}
