use Rattle.std.proofs.Common.{subst, false}
use Rattle.std.specs.Option.{option_map}
use Rattle.r4_content.specs.Edited.{Edits, Intervals, changed, is_in}
use Rattle.r4_content.specs.Held.{edits_of, pairs_of}
use Rattle.r4_leaf_demands.specs.r4_reach.Leaves.{LieInLeaves}
use Rattle.r4_leaf_demands.specs.r4_reach.Touched.{IsKindIn, body_key, body_of}
use Rattle.r4_bodies.proofs.InTails.{told_in_tails}
use Rattle.r4_bodies.proofs.telling.told_by_body.Goals as goal

pub returns-in-Some-clause-kind : goal.returns-in-Some-clause-kind
returns-in-Some-clause-kind c command t same of_tree reads changes =
    let e = edits_of c.args.edits.now in
    let s = pairs_of c.args.seen.now in
    let b = c.in-Some.ensures in
    subst (λ (x : Edits). IsKindIn t (option_map (body_of x s false) (body_key (changed x)))) same
    (told_in_tails e s t c.in-Some.body b.body b.sizes.0 of_tree
    (subst (λ (rs : Intervals). LieInLeaves t (is_in rs)) c.kind_read.ensures reads) changes)
