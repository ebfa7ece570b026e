use Rattle.r4_patch.proofs.PartCells.{tree_is_part}
use Rattle.r4_patch.proofs.Joined.{joined_patch, meets_joined, place_joined, root_joined}
use Rattle.r4_patch.proofs.laws.patches_join.Goals as goal

pub returns : goal.returns
returns c = record { patch = λ p q t root it mp mq ip iq. joined_patch p q t root mp mq it ip iq; meets = λ p q t root it mp mq. meets_joined p q t root mp mq (tree_is_part t root it); cells = place_joined; root = root_joined }
