use Rattle.r4_sets_told.proofs.OneContent.{one_content}
use Rattle.r4_sets_told.proofs.Blocks.{of_image, to_image}
use Rattle.r4_sets_told.proofs.images.images_and_trees.Goals as goal

pub returns : goal.returns
returns c = record { tree = of_image; image = to_image; one = one_content }
