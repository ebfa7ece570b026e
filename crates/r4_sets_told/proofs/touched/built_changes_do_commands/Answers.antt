use Rattle.r4_sets_told.proofs.BuiltFor.{built}
use Rattle.r4_sets_told.proofs.touched.built_changes_do_commands.Goals as goal

pub returns : goal.returns
returns c = λ limit x u root n is b small lawful bytes unused h. built limit small x u root n is lawful bytes unused b h
