use Rattle.r4_cde.proofs.Inserts.{begun_new, begun_same}
use Rattle.r4_cde.proofs.edit.begin.Goals as goal

pub returns-then-used-eq0 : goal.returns-then-used-eq0
returns-then-used-eq0 c dir ok = rw c.if-used-eq0.true (begun_new dir c.args.body.now c.put16.new.b c.requires.room c.put16.ensures)

pub returns : goal.returns
returns c dir ok = begun_same dir c.args.used c.args.body.now c.if-used-eq0.false c.requires.inside ok
