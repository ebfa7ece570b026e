use Rattle.r4_content.proofs.Commuting.{commute, same_replies}
use Rattle.r4_content.proofs.laws.apart_commands_commute.Goals as goal

pub returns : goal.returns
returns g c = record { contents = λ w l x y m h k. commute w l x y m h k; replies = λ w l x y m h. same_replies w l x y m h }
