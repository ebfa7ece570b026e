use Rattle.r4_durable_rows.proofs.GivenBack.{unused_at_once}
use Rattle.r4_durable_rows.proofs.StillNeeded.{not_the_old, over, over_left}
use Rattle.r4_durable_rows.proofs.spaces.freed_blocks_wait_for_the_commit.Goals as goal

pub returns : goal.returns
returns g = record {
  unused = λ s b lawful lt placed held deferred. unused_at_once s b lawful lt placed held deferred;
  overwritten = λ n base m c p b x e whole log was one block new. (
    over n base m c p b x e whole log was one block new,
    over_left n base m c p b x e whole log was one block new,
    not_the_old n base m c p b x e whole log was one block new,
  );
}
