use Rattle.r4_durable_rows.proofs.Counting.{counted, listed}
use Rattle.r4_durable_rows.proofs.counted.blocks_are_counted.Goals as goal

pub returns : goal.returns
returns g = record {
  volume = λ n image m c s cells lost lawful here has gone. counted n image m c s lawful here cells lost has gone;
  listed = λ n image m c. listed n image m c;
}
