use Rattle.std.proofs.Common.{Bool, true, false, not, ◌≡◌, ◌&&◌, refl, ap, ◌∙◌}
use Rattle.std.specs.Prelude.{◌||◌, map}
use Rattle.r4_base.specs.Key.{rank}
use Rattle.r4_content.specs.Edited.{is_in, put_keys}
use Rattle.r4_content.specs.Held.{pair_of}
use Rattle.r4_reach.specs.Reach.{is_body}
use Rattle.r4_leaf_edits.proofs.Touched.{put_any}
use Rattle.r4_leaf_edits.proofs.making.is_set.Goals as goal

kept : (b t r : Bool) → false ≡ (not b && t) → not r ≡ ((b || not t) && not r)
kept true t r e = refl
kept false false r e = refl
kept false true r e = absurd cc

left_out : (b t r o : Bool) → o ≡ true → true ≡ (not b && t) → not o ≡ ((b || not t) && not r)
left_out true t r o h e = absurd cc
left_out false false r o h e = absurd cc
left_out false true r o h e = ap (λ (x : Bool). not x) h

pub returns-then-not-is_left_out-clause-test : goal.returns-then-not-is_left_out-clause-test
returns-then-not-is_left_out-clause-test c =
    kept c.args.bytes (is_body (rank c.args.key)) c.is_put.result c.if-not-is_left_out.ensures.test
    ∙ ap (λ (r : Bool). (c.args.bytes || not (is_body (rank c.args.key))) && not r) (c.is_put.ensures ∙ put_any (rank c.args.key) c.args.rest.now)

pub returns-else-not-is_left_out-clause-test : goal.returns-else-not-is_left_out-clause-test
returns-else-not-is_left_out-clause-test c =
    left_out c.args.bytes (is_body (rank c.args.key)) (is_in (put_keys (map pair_of c.args.rest.now)) (rank c.args.key)) c.is_left_out.result c.if-not-is_left_out.false c.if-not-is_left_out.ensures.test
