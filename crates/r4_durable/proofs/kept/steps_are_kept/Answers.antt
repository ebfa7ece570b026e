use Rattle.r4_content.specs.Locality.{commands}
use Rattle.r4_durable.specs.Meaning.{means}
use Rattle.r4_durable.proofs.Staying.{now_stays}
use Rattle.r4_durable.proofs.Steps.{kept_after}
use Rattle.r4_durable.proofs.kept.steps_are_kept.Goals as goal

pub returns : goal.returns
returns g = record {
  kept = kept_after;
  found = λ limit b more trace image legal none h.
      now_stays (means b) (commands limit) b.content more trace image legal none h;
}
