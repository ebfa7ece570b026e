use Rattle.std.proofs.Common.{◌≡◌, ◌∙◌, ap, sym, true, false, arith, map}
use Rattle.std.specs.Prelude.{◌&&◌, ◌||◌}
use Rattle.std.proofs.lemmas.Grind.{common_steps}
use Rattle.r4_content.specs.Held.{pairs_of}
use Rattle.r4_content.specs.Objects.{is_among, is_dir, is_same}
use Rattle.r4_content.specs.declared.reply.Reply.TheVariants.{Loop}
use Rattle.r4_dir.specs.Coming.{object_of, place_of}
use Rattle.r4_dir.proofs.Moves.{ends_come, ends_loop, ends_notdir, ends_stop, ends_stop_below}
use Rattle.r4_dir.proofs.moving.ends_of.Goals as goal

pub returns-in-Err-clause-comes : goal.returns-in-Err-clause-comes
returns-in-Err-clause-comes c = ends_stop c.args.from.now c.args.to.now (pairs_of c.args.seen.now) _ (rw c.in-Err.is at c.in_ok-found.ensures.comes)

pub returns-in-Err-2-clause-comes : goal.returns-in-Err-2-clause-comes
returns-in-Err-2-clause-comes c = ends_stop_below c.args.from.now c.args.to.now (pairs_of c.args.seen.now) _ _ (rw c.in-Ok.is at c.in_ok-found.ensures.comes) _ (rw c.in-Err-2.is at c.in_ok-place.ensures.comes Loop)

pub returns-then-not-is_dir-clause-comes : goal.returns-then-not-is_dir-clause-comes
returns-then-not-is_dir-clause-comes c =
    let dir : is_dir (object_of c.in-Ok-2.place.here) ≡ false = grind (arith, common_steps) in
    ends_notdir c.args.from.now c.args.to.now (pairs_of c.args.seen.now) _ _ (rw c.in-Ok.is at c.in_ok-found.ensures.comes) (place_of c.in-Ok-2.place) (rw c.in-Ok-2.is at c.in_ok-place.ensures.comes Loop) dir

pub returns-then-is_loop-clause-comes : goal.returns-then-is_loop-clause-comes
returns-then-is_loop-clause-comes c =
    let dir : is_dir (object_of c.in-Ok-2.place.here) ≡ true = grind (arith, common_steps) in
    let o = object_of c.in-Ok.found.object in
    let above = ap (λ x. is_dir o && (is_among o (map object_of x) || is_same o (object_of c.in-Ok-2.place.here))) (sym c.as_slice.ensures.value) in
    ends_loop c.args.from.now c.args.to.now (pairs_of c.args.seen.now) _ _ (rw c.in-Ok.is at c.in_ok-found.ensures.comes) (place_of c.in-Ok-2.place) (rw c.in-Ok-2.is at c.in_ok-place.ensures.comes Loop) dir
    (above ∙ sym c.is_loop.ensures ∙ c.if-is_loop.true)

pub returns-clause-comes : goal.returns-clause-comes
returns-clause-comes c =
    let dir : is_dir (object_of c.in-Ok-2.place.here) ≡ true = grind (arith, common_steps) in
    let o = object_of c.in-Ok.found.object in
    let above = ap (λ x. is_dir o && (is_among o (map object_of x) || is_same o (object_of c.in-Ok-2.place.here))) (sym c.as_slice.ensures.value) in
    ends_come c.args.from.now c.args.to.now (pairs_of c.args.seen.now) _ _ (rw c.in-Ok.is at c.in_ok-found.ensures.comes) (place_of c.in-Ok-2.place) (rw c.in-Ok-2.is at c.in_ok-place.ensures.comes Loop) dir
    (above ∙ sym c.is_loop.ensures ∙ c.if-is_loop.false)
