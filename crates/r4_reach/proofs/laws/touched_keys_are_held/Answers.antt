use Rattle.r4_reach.proofs.Trees.{held, tree_has, units_from, units_to}
use Rattle.r4_reach.proofs.laws.touched_keys_are_held.Goals as goal

pub returns-clause-whole : goal.returns-clause-whole
returns-clause-whole g c d t root plain it = tree_has d t root plain it

pub returns-clause-held : goal.returns-clause-held
returns-clause-held g c d t root k it has touch from to = held d t root it has k touch from to

pub returns-clause-units : goal.returns-clause-units
returns-clause-units g c d t u root other k v h touch = (
  units_to d t u root other h.plain h.first h.second h.reached k v touch,
  units_from d t u root other h.plain
      h.first h.second h.reached k v touch,
)
