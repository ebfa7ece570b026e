use Rattle.r4_build.proofs.Contents.{built_born, built_content, built_gone, built_reply}
use Rattle.r4_build.proofs.laws.what_is_built_is_meant.Goals as goal

pub returns : goal.returns
returns c = record {
  content = λ x t root m plain part meets units saw. built_content x plain m saw t root part meets units;
  reply = λ x m is saw. built_reply x is m saw;
  born = λ x m is saw. built_born x is m saw;
  gone = λ x m is saw. built_gone x is m saw;
}
