use Rattle.r4_path.proofs.TwigBelow.{covered, low_below}
use Rattle.r4_path.proofs.TwigPatch.{change_is, part_meets}
use Rattle.r4_path.proofs.twig_laws.twig_changes_are_patches.Goals as goal

pub returns : goal.returns
returns c = record { change = change_is; meets = part_meets; levels = low_below; covers = covered }
