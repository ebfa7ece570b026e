use Rattle.std.proofs.Common.{◌≡◌, ◌∙◌, ap, sym, true, false, arith, map}
use Rattle.std.specs.Prelude.{◌&&◌, ◌||◌}
use Rattle.std.proofs.lemmas.Grind.{common_steps}
use Rattle.r4_content.specs.Objects.{is_among, is_dir, is_same}
use Rattle.r4_content.specs.declared.reply.Reply.TheVariants.{Loop}
use Rattle.r4_dir.specs.Coming.{object_of, place_of}
use Rattle.r4_gather.specs.Finding.{place_seen}
use Rattle.r4_gather.proofs.Beginning.{always_err}
use Rattle.r4_gather.proofs.Moved.{ends_at, ends_end, ends_end_below, ends_loop, ends_notdir, ends_stop}
use Rattle.r4_gather.proofs.Moved.{ends_stop_below}
use Rattle.r4_gather.proofs.moves.see_ends.Goals as goal

pub returns-in_err-found-clause-stops : goal.returns-in_err-found-clause-stops
returns-in_err-found-clause-stops g c = always_err c.from_residual.result
    (ends_stop c.args.from.now c.args.to.now (g.S.Sight.state c.args.sight.now)
    (g.S.Sight.state c.see_entry.new.sight) (c.in_err-found.ensures.stops Loop))

pub returns-in_default-clause-comes : goal.returns-in_default-clause-comes
returns-in_default-clause-comes g c = ends_end c.args.from.now c.args.to.now (g.S.Sight.state c.args.sight.now)
    (g.S.Sight.state c.see_entry.new.sight) (rw c.in_default.is at c.in_ok-found.ensures.comes Loop)

pub returns-in_err-place-clause-stops : goal.returns-in_err-place-clause-stops
returns-in_err-place-clause-stops g c =
    always_err c.from_residual-in_err-place.result
    (ends_stop_below c.args.from.now c.args.to.now (g.S.Sight.state c.args.sight.now)
    (g.S.Sight.state c.see_entry.new.sight) (object_of c.in-Some.found.dir) (place_seen c.in-Some.found)
    (rw c.in-Some.is at c.in_ok-found.ensures.comes Loop) (g.S.Sight.state c.see_parent.new.sight)
    c.in_err-place.ensures.later (c.in_err-place.ensures.stops Loop))

pub returns-in_default-2-clause-comes : goal.returns-in_default-2-clause-comes
returns-in_default-2-clause-comes g c =
    ends_end_below c.args.from.now c.args.to.now (g.S.Sight.state c.args.sight.now)
    (g.S.Sight.state c.see_entry.new.sight) (object_of c.in-Some.found.dir) (place_seen c.in-Some.found)
    (rw c.in-Some.is at c.in_ok-found.ensures.comes Loop) (g.S.Sight.state c.see_parent.new.sight)
    c.in_ok-place.ensures.later (rw c.in_default-2.is at c.in_ok-place.ensures.comes Loop)

pub returns-then-not-is_dir-clause-comes : goal.returns-then-not-is_dir-clause-comes
returns-then-not-is_dir-clause-comes g c =
    let dir : is_dir (object_of c.in-Some-2.place.here) ≡ false = grind (arith, common_steps) in
    ends_notdir c.args.from.now c.args.to.now (g.S.Sight.state c.args.sight.now)
    (g.S.Sight.state c.see_entry.new.sight) (object_of c.in-Some.found.dir) (place_seen c.in-Some.found)
    (rw c.in-Some.is at c.in_ok-found.ensures.comes Loop) (g.S.Sight.state c.see_parent.new.sight)
    c.in_ok-place.ensures.later (place_of c.in-Some-2.place)
    (rw c.in-Some-2.is at c.in_ok-place.ensures.comes Loop) dir

pub returns-then-is_loop-clause-comes : goal.returns-then-is_loop-clause-comes
returns-then-is_loop-clause-comes g c =
    let dir : is_dir (object_of c.in-Some-2.place.here) ≡ true = grind (arith, common_steps) in
    let o = object_of c.in-Some.found.object in
    let above = ap (λ x. is_dir o && (is_among o (map object_of x)
    || is_same o (object_of c.in-Some-2.place.here))) (sym c.as_slice.ensures.value) in
    ends_loop c.args.from.now c.args.to.now (g.S.Sight.state c.args.sight.now) (g.S.Sight.state c.see_entry.new.sight)
    (object_of c.in-Some.found.dir) (place_seen c.in-Some.found)
    (rw c.in-Some.is at c.in_ok-found.ensures.comes Loop) (g.S.Sight.state c.see_parent.new.sight)
    c.in_ok-place.ensures.later (place_of c.in-Some-2.place)
    (rw c.in-Some-2.is at c.in_ok-place.ensures.comes Loop) dir
    (above ∙ sym c.is_loop.ensures ∙ c.if-is_loop.true)

pub returns-clause-comes : goal.returns-clause-comes
returns-clause-comes g c =
    let dir : is_dir (object_of c.in-Some-2.place.here) ≡ true = grind (arith, common_steps) in
    let o = object_of c.in-Some.found.object in
    let above = ap (λ x. is_dir o && (is_among o (map object_of x)
    || is_same o (object_of c.in-Some-2.place.here))) (sym c.as_slice.ensures.value) in
    ends_at c.args.from.now c.args.to.now (g.S.Sight.state c.args.sight.now) (g.S.Sight.state c.see_entry.new.sight)
    (object_of c.in-Some.found.dir) (place_seen c.in-Some.found)
    (rw c.in-Some.is at c.in_ok-found.ensures.comes Loop) (g.S.Sight.state c.see_parent.new.sight)
    c.in_ok-place.ensures.later (place_of c.in-Some-2.place)
    (rw c.in-Some-2.is at c.in_ok-place.ensures.comes Loop) dir
    (above ∙ sym c.is_loop.ensures ∙ c.if-is_loop.false)
