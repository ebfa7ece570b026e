use Rattle.r4_path.proofs.Reordered.{change_again, change_patch, meets_again, part_again}
use Rattle.r4_path.proofs.twig_laws.order_says_nothing.Goals as goal

pub returns : goal.returns
returns c = record { patch = change_patch; change = change_again; meets = meets_again; part = part_again }
