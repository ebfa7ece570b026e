use Rattle.std.proofs.Common.{◌≡◌, ◌+◌, true, false, sym, ap, ◌∙◌, arith}
use Rattle.std.specs.Prelude.{nat_lt}
use Rattle.std.proofs.lemmas.Bool.{ltb-false, ltb-true}
use Rattle.r4_base.specs.Key.{rank}
use Rattle.r4_content.specs.Held.{edits_of}
use Rattle.r4_extent_shrink.proofs.r4_extent_growth.r4_graft.Halves.{later_rank}
use Rattle.r4_extent_shrink.specs.r4_extent_growth.r4_measure.r4_reach.Touched.{first_byte}
use Rattle.r4_extent_turned.proofs.Looked.{tells}
use Rattle.r4_extent_turned.proofs.leaves.size_before.Goals as goal

pub loop-low-preserved-then-gets_some : goal.loop-low-preserved-then-gets_some
loop-low-preserved-then-gets_some c =
    let b = c.args.body.now in
    let k = rank c.behind.result in
    let at = ap rank c.behind.ensures ∙ later_rank c.first_byte-first.result _ in
    let first = c.first_byte-first.ensures.at in
    let told : nat_lt k (first_byte b + b.was) ≡ true = sym (tells b (edits_of c.no_edits-none.result) k c.no_edits-none.ensures c.requires.turns) ∙ (sym c.gets_some.ensures ∙ c.if-gets_some.true) in
    let lt = ltb-true k (first_byte b + b.was) told in
    let h = c.loop-low.invariant in
    record { low = omega (arith, at, first, lt); high = h.high; most = h.most }

pub loop-low-preserved : goal.loop-low-preserved
loop-low-preserved c =
    let b = c.args.body.now in
    let k = rank c.behind.result in
    let at = ap rank c.behind.ensures ∙ later_rank c.first_byte-first.result _ in
    let first = c.first_byte-first.ensures.at in
    let told : nat_lt k (first_byte b + b.was) ≡ false = sym (tells b (edits_of c.no_edits-none.result) k c.no_edits-none.ensures c.requires.turns) ∙ (sym c.gets_some.ensures ∙ c.if-gets_some.false) in
    let ge = ltb-false k (first_byte b + b.was) told in
    let h = c.loop-low.invariant in
    record { low = h.low; high = omega (arith, at, first, ge); most = let m = h.most in let o = c.loop-low-test.true in omega (arith, m, o) }
