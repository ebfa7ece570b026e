use Rattle.std.proofs.Common.{sym, subst}
use Rattle.r4_content.specs.Edited.{Edits}
use Rattle.r4_leaf_edits.specs.Suiting.{SuitLeaves}
use Rattle.r4_build_testing.proofs.Lawful.{mixed_suits}
use Rattle.r4_work_tests.proofs.leaves.gets.Goals as goal

pub edits_of_leaf-requires : goal.edits_of_leaf-requires
edits_of_leaf-requires c = subst (λ (e : Edits). SuitLeaves 16384 e) (sym c.requires) mixed_suits
