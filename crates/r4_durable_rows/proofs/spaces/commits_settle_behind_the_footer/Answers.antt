use Rattle.r4_durable_rows.proofs.GivenBack.{log_free}
use Rattle.r4_durable_rows.proofs.StillNeeded.{needed, overwritten_head}
use Rattle.r4_durable_rows.proofs.spaces.commits_settle_behind_the_footer.Goals as goal

pub returns : goal.returns
returns g = record {
  needed = λ n work ok safe reads m v b one. (
    needed n work.base work.chain work.plan safe reads m v b one,
    log_free n work ok b one,
  );
  no_volume = λ n work ok safe reads x none m v.
      overwritten_head n work.base work.chain work.plan safe reads x none m v;
}
