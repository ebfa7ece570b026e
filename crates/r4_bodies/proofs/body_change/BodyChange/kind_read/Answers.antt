use Rattle.std.proofs.Common.{◌≡◌, subst, [], ◌∷◌}
use Rattle.std.specs.Prelude.{Some}
use Rattle.r4_base.specs.Key.{rank}
use Rattle.r4_leaf_demands.specs.r4_reach.Touched.{Body, kind_reads}
use Rattle.r4_bodies.proofs.BodyKeys.{last_read}
use Rattle.r4_bodies.proofs.body_change.BodyChange.kind_read.Goals as goal

pub returns-then-self : goal.returns-then-self
returns-then-self c =
    let b = c.self.inside in
    let from = rank c.byte_of.result in
    let to = rank c.byte_of-then-self.result in
    subst (λ (x : Body). (from, to) ∷ [] ≡ kind_reads (Some x)) c.self.view_is
    (last_read b.first b.before b.after from to c.if-self-gt0.true c.if-self.true c.byte_of.ensures
    c.byte_of-then-self.ensures)
