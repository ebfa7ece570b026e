use Rattle.r4_wander.specs.Progress.{under_way}
use Rattle.r4_wander.specs.Parts.{base_of}
use Rattle.r4_wander.proofs.Standing.{made_read, reads_read}
use Rattle.r4_wander.proofs.laws.reads_between_steps.Goals as goal

pub returns : goal.returns
returns g c = record {
  stands = λ w base goes same stands. made_read (under_way w) (base_of w.plan base w.part) w.done _ _ stands goes same.seen same.clock;
  reads = λ w base goes same reads. reads_read w base _ _ reads goes same.seen;
}
