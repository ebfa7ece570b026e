use Rattle.std.proofs.Common.{ap}
use Rattle.r4_content.specs.Edited.{changed, edited, is_in}
use Rattle.r4_content.proofs.SeenLaws.{seen, seen_where_read}
use Rattle.r4_content.proofs.laws.seen_suffices.Goals as goal

pub returns : goal.returns
returns c = record {
  content = λ l x s m h. ap (λ e. edited e.edits m) (seen l x s m h);
  reply = λ l x s m h. ap (λ e. e.reply) (seen l x s m h);
  edits = λ l x s m k h. ap (λ e. is_in (changed e.edits) k) (seen l x s m h);
  read = λ l x s m r h. seen_where_read l x s m r h;
}
