use Rattle.r4_sets.proofs.Applied.{memory_stands}
use Rattle.r4_sets.proofs.Gathered.{under_stands}
use Rattle.r4_sets_told.proofs.images.layers_are_told.Goals as goal

pub returns : goal.returns
returns g = record {
  alone = λ w c h. (h.committed.is, h.committed.replies);
  under = λ w c h. let st = under_stands w c h in (st.is, st.replies);
  replies = λ w c next_id h. (memory_stands w c h).replies;
}
