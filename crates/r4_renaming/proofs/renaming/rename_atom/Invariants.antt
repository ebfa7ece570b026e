use Rattle.r4_renaming.proofs.Owning.{first_owner}
use Rattle.r4_renaming.proofs.renaming.rename_atom.Given as goal

abbrev pub ghost-rename_owned : goal.ghost-rename_owned
ghost-rename_owned a = first_owner a.atoms.now a.renamed.now
