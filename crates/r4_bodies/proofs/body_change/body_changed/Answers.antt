use Rattle.std.proofs.Common.{sym, ap, ◌∙◌, ℕ, false}
use Rattle.std.specs.Prelude.{Some}
use Rattle.std.specs.FinMap.{find}
use Rattle.std.specs.Option.{option_map}
use Rattle.std.specs.Ordering.{nat_cmp}
use Rattle.r4_content.specs.Held.{edits_of, pairs_of}
use Rattle.r4_content.specs.Listed.{list_edited}
use Rattle.r4_leaf_demands.specs.r4_reach.Touched.{Body, body_of, size_in}
use Rattle.r4_bodies.proofs.BodyKeys.{same_body}
use Rattle.r4_bodies.proofs.body_change.body_changed.Goals as goal

pub returns-clause-body : goal.returns-clause-body
returns-clause-body c =
    let e = edits_of c.args.edits.now in
    let s = pairs_of c.args.seen.now in
    let k = c.in_ok-first.first in
    let stat = c.stat_of-stat.ensures.stat in
    let before = c.size_at-before.ensures ∙ ap (λ (n : ℕ). size_in (find nat_cmp n s)) stat in
    let after = sym (c.size_after-after.ensures s c.requires.rises (sym c.size_at-before.ensures))
    ∙ ap (λ (n : ℕ). size_in (find nat_cmp n (list_edited e s))) stat in
    ap (λ (b : Body). Some b)
    (same_body e s k c.size_at-before.result c.size_after-after.result c.stat_of-stat.ensures.fits before after)
    ∙ ap (option_map (body_of e s false)) c.in_ok-first.ensures
