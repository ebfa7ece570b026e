use Rattle.r4_extent_among.proofs.TurnOf.{few_leaves, room}
use Rattle.r4_extent_among.proofs.laws.among_twigs_need_what_is_asked.Goals as goal

pub returns-clause-room : goal.returns-clause-room
returns-clause-room c = λ b e twig cells next is are. room b e twig cells is are next

pub returns-clause-few : goal.returns-clause-few
returns-clause-few c = λ b e twig cells are. few_leaves b e twig cells are
