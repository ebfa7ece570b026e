use Rattle.r4_check.proofs.Kept.{itself_named, refused_root, sound_tree, unmarked_leaf}
use Rattle.r4_check.proofs.laws.small_trees.Goals as goal

pub returns-clause-sound : goal.returns-clause-sound
returns-clause-sound c = sound_tree

pub returns-clause-itself : goal.returns-clause-itself
returns-clause-itself c = itself_named

pub returns-clause-refused : goal.returns-clause-refused
returns-clause-refused c = refused_root

pub returns-clause-unmarked : goal.returns-clause-unmarked
returns-clause-unmarked c = unmarked_leaf
