use Rattle.std.proofs.Common.{◌≡◌, ◌+◌, ◌*◌, ◌^◌, ◌∙◌, ℕ, false, refl, sym, ap, arith}
use Rattle.std.specs.Prelude.{codes, min, slice_index}
use Rattle.r4_base.specs.Key.{rank, body_key}
use Rattle.r4_base.specs.Value.{Content}
use Rattle.r4_base.specs.Volume.{HasStat, is_directory}
use Rattle.r4_base.specs.declared.items.Attr.{Attr}
use Rattle.r4_base.specs.declared.items.Target.{Target}
use Rattle.r4_base.specs.declared.key.Key.{Key}
use Rattle.r4_list.specs.Body.{IsFileTo}
use Rattle.r4_list.proofs.Stages.{ended_printing, ended_well, ended_writing, went_both, went_printed, went_same, went_written}
use Rattle.r4_list.proofs.BodyParts.{so_far_first, so_far_next, so_far_stopped, so_far_writing, so_far_written}
use Rattle.r4_units.proofs.ExtentUnits.{rank_from}
use Rattle.r4_list.proofs.body.print_body.Goals as goal

file_to : (m : Content) (o : Target) (a : Attr) (size end : ℕ) → HasStat m o a → is_directory a ≡ false → a.size ≡ size → end ≡ min size (2 ^ 30) → IsFileTo m o end
file_to m o a size end stat file is e = record { attr = a; stat = stat; file = file; within = omega (arith, is, e) }

pub print_part-requires-clause-from : goal.print_part-requires-clause-from
print_part-requires-clause-from g c =
    let apart = rank_from (c.args.file.now.locality * 16 + 4) c.args.file.now.ordering c.args.file.now.oid.0 c.loop-offset.offset in
    let from = c.requires.from in
    let is = ap rank c.body-key.ensures in
    omega (arith, apart, from, is)

pub returns-in_err-offset-clause-printed : goal.returns-in_err-offset-clause-printed
returns-in_err-offset-clause-printed g c = ended_printing _ _ _ _ _ _ _ c.loop-offset.invariant.0 _ _ _ c.from_residual.result _ c.in_err-offset.field-0.0 refl c.in_err-offset.ensures.printed c.from_residual.ensures.1

pub loop-offset-init : goal.loop-offset-init
loop-offset-init g c = (went_same _ _ _, omega arith, λ n image m content over file. so_far_first content c.args.root.now c.args.file.now _ _ over)

pub loop-offset-preserved : goal.loop-offset-preserved
loop-offset-preserved g c =
    let key = c.body-key.ensures in
    let off = ap (λ (k : Key). slice_index k.el 3) key in
    let next = c.in_ok-offset.ensures.next.1 in (
      went_both _ _ _ _ _ _ _ _ _ c.loop-offset.invariant.0 (went_printed _ _ _ _ _ _ _ _ c.print_part.ensures.printed),
      omega (arith, off, next),
      λ n image m content over file.
          let s = c.loop-offset.invariant.2 n image m content over file in
          so_far_next content c.args.root.now c.args.file.now _ c.loop-offset.offset _ c.in_ok-offset.field-0 _ _ _ _ _ off s
          (c.in_ok-offset.ensures.over n image m content c.args.file.now s.over (key ∙ ap (λ (i : ℕ). body_key c.args.file.now.locality c.args.file.now.ordering c.args.file.now.oid i) (sym off)) file),
    )

pub returns-in_err-write-clause-printed : goal.returns-in_err-write-clause-printed
returns-in_err-write-clause-printed g c = ended_writing _ _ _ _ _ _ _ c.loop-offset.invariant.0 _ _ c.from_residual-in_err-write.result c.in_err-write.field-0.0 c.in_err-write.ensures c.from_residual-in_err-write.ensures.1

pub returns-clause-printed : goal.returns-clause-printed
returns-clause-printed g c = ended_well _ _ _ _ _ _ _ (went_both _ _ _ _ _ _ _ _ _ c.loop-offset.invariant.0 (went_written _ _ _ _ _ _ c.in_ok-write.ensures)) tt

pub returns-in_err-offset-clause-over : goal.returns-in_err-offset-clause-over
returns-in_err-offset-clause-over g c = λ n image m content a over stat file is.
    let to = file_to m c.args.file.now a c.args.size c.min-end.result stat file is c.min-end.ensures in
    let key = c.body-key.ensures in
    let off = ap (λ (k : Key). slice_index k.el 3) key in
    let s = c.loop-offset.invariant.2 n image m content over to in
    let le = c.loop-offset.invariant.1 in
    let end = c.min-end.ensures in
    so_far_stopped content c.args.root.now c.args.file.now _ (min c.args.size (2 ^ 30)) (codes "\n") c.loop-offset.offset _ _ _ _ _ _ c.in_err-offset.field-0.0 c.from_residual.result off (omega (arith, off, end)) (omega (arith, le, end)) s
    (c.in_err-offset.ensures.over n image m content c.args.file.now s.over (key ∙ ap (λ (i : ℕ). body_key c.args.file.now.locality c.args.file.now.ordering c.args.file.now.oid i) (sym off)) to) c.from_residual.ensures.1

pub returns-in_err-write-clause-over : goal.returns-in_err-write-clause-over
returns-in_err-write-clause-over g c = λ n image m content a over stat file is.
    let to = file_to m c.args.file.now a c.args.size c.min-end.result stat file is c.min-end.ensures in
    let le = c.loop-offset.invariant.1 in
    let past = c.loop-offset-test.false in
    let end = c.min-end.ensures in
    so_far_writing content c.args.root.now c.args.file.now _ (min c.args.size (2 ^ 30)) (codes "\n") c.loop-offset.offset _ _ _ c.in_err-write.field-0.0 c.from_residual-in_err-write.result (omega (arith, le, past, end)) (c.loop-offset.invariant.2 n image m content over to) c.in_err-write.ensures c.from_residual-in_err-write.ensures.1

pub returns-clause-over : goal.returns-clause-over
returns-clause-over g c = λ n image m content a over stat file is.
    let to = file_to m c.args.file.now a c.args.size c.min-end.result stat file is c.min-end.ensures in
    let le = c.loop-offset.invariant.1 in
    let past = c.loop-offset-test.false in
    let end = c.min-end.ensures in
    so_far_written content c.args.root.now c.args.file.now _ (min c.args.size (2 ^ 30)) (codes "\n") c.loop-offset.offset _ _ _ c.in_ok-write.field-0 tt (omega (arith, le, past, end)) (c.loop-offset.invariant.2 n image m content over to) c.in_ok-write.ensures
