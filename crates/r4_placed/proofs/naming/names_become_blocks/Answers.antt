use Rattle.r4_placed.proofs.Planning.{renamed_cell, renamed_not, renamed_twice}
use Rattle.r4_placed.proofs.naming.names_become_blocks.Goals as goal

pub returns : goal.returns
returns g = record { twice = renamed_twice; cell = renamed_cell; others = renamed_not }
