use Rattle.std.proofs.Common.{◌∙◌, sym, arith}
use Rattle.r4_base.proofs.Dirs.{length-entries_of}
use Rattle.r4_cde.proofs.Shows.{good}
use Rattle.r4_cde.proofs.view.DirView.len.Goals as goal

pub returns-clause-entries : goal.returns-clause-entries
returns-clause-entries c = c.args.self.now.counted ∙ sym (length-entries_of c.args.self.now.item c.args.self.now.body.now)

pub returns-clause-some : goal.returns-clause-some
returns-clause-some c = let some = (good c.args.self.now.item c.args.self.now.body.now c.args.self.now.good).some in omega (arith, c.args.self.now.counted)
