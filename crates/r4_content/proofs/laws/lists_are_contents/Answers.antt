use Rattle.r4_content.proofs.SeenLaws.{content_of, list_command}
use Rattle.r4_content.proofs.laws.lists_are_contents.Goals as goal

pub returns : goal.returns
unfolding content_of
returns c = record { content = λ l x s r. (list_command l x s r).0; reply = λ l x s r. (list_command l x s r).1; rises = λ l x s r. (list_command l x s r).2 }
