use Rattle.r4_commit.proofs.NewImage.{keeps_off}
use Rattle.r4_commit.proofs.laws.plans_keep_off_the_new_tree.Goals as goal

pub returns : goal.returns
returns c = λ n base chain s atom cells answers next last p m made f h. keeps_off n base chain s atom cells answers next last p f h m made
