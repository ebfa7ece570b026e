use Rattle.r4_base.proofs.Dirs.{accepted}
use Rattle.r4_cde.proofs.view.DirView.of_item.Goals as goal

pub get16-requires : goal.get16-requires
get16-requires c = (accepted c.args.key.now c.args.body.now c.requires).laid.two
