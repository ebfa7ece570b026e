use Rattle.r4_buffer.proofs.Staying.{cleaned_stays, forgotten_stays, renamed_stays, swept_stays, unused_stays, used_stays}
use Rattle.r4_buffer.proofs.laws.ancestors_law.Goals as goal

pub returns : goal.returns
returns c = record {
  used = used_stays;
  unused = unused_stays;
  cleaned = cleaned_stays;
  renamed = renamed_stays;
  forgotten = forgotten_stays;
  swept = swept_stays;
}
