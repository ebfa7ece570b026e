use Rattle.r4_commit.proofs.Safety.{first_free}
use Rattle.r4_commit.specs.Plannable.{is_spoken_for}
use Rattle.r4_commit.proofs.laws.plans_spare_the_volume.Goals as goal
use Rattle.r4_base.proofs.Choices.{never_both}

pub returns : goal.returns
returns c = λ n base chain s atom cells answers next last p m v f h spoken b one needs. never_both (is_spoken_for s b) (spoken b needs) (first_free n base chain s atom cells answers next last p f h b one)
