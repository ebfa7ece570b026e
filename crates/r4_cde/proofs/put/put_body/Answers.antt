use Rattle.std.proofs.Common.{◌++◌, ◌∷◌, []}
use Rattle.r4_cde.proofs.Puts.{body_put}
use Rattle.r4_cde.proofs.put.put_body.Goals as goal

pub returns-in-Some : goal.returns-in-Some
returns-in-Some c = rw c.in-Some.is (record {
  bytes = body_put c.args.target.now c.args.at c.in-Some.name.now c.args.body.now c.put_target.new.body c.put_name.new.body (rw c.in-Some.is at c.requires) c.put_target.ensures.bytes c.put_name.ensures;
  target = c.put_target.ensures.target (c.in-Some.name.now ++ 0 ∷ []);
})
