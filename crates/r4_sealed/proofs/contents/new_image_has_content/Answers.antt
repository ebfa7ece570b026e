use Rattle.r4_sealed.proofs.NewContent.{content}
use Rattle.r4_sealed.proofs.contents.new_image_has_content.Goals as goal

pub returns : goal.returns
returns g = λ n work t m ok w is. content n work ok t m w is
