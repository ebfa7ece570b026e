use Rattle.r4_durable.proofs.Meant.{like_means, one_meaning, start_means, volume_like}
use Rattle.r4_durable.proofs.meaning.images_mean_volumes.Goals as goal

pub returns : goal.returns
returns g = record { start = start_means; one = one_meaning; same = volume_like; like = like_means }
