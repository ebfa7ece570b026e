use Rattle.r4_renaming.proofs.owners.rename_owned.Given as goal

abbrev pub ghost-rename_nodes : goal.ghost-rename_nodes
ghost-rename_nodes g a = g.atom
