use Rattle.r4_wander.proofs.Standing.{settles_now}
use Rattle.r4_wander.proofs.Ending.{stands_first, quiet_between, ends, reads_first, ends_reading}
use Rattle.r4_wander.proofs.laws.commit_on_a_device.Goals as goal

pub returns : goal.returns
returns g c = record {
  begins = λ w quiet first none. stands_first w _ quiet first none;
  between = λ w n base chain p lt commits stands. settles_now w n base chain p _ lt commits stands;
  quiet = λ w base none stands. quiet_between w base _ none stands;
  ends = λ w n base chain p commits last none stands. ends w n base chain p _ commits last none stands;
  begins_reading = λ w told first none. reads_first w _ told first none;
  ends_reading = λ w n base chain p told commits last reads. ends_reading w n base chain p _ told commits last reads;
}
