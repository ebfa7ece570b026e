use Rattle.std.proofs.Common.{◌≡◌, ℕ, List, slice_set, sym, ap, subst, ◌∙◌}
use Rattle.r4_base.specs.Bytes.{number_bytes}
use Rattle.r4_base.specs.Image.{AgreesOutside}
use Rattle.r4_mkfs.specs.Mkfs.{IsRest}
use Rattle.r4_base.specs.Fresh.{IsFreshNode, IsFreshBut16}
use Rattle.r4_base.specs.Stat.{stat_body}
use Rattle.r4_base.specs.Volume.{root_attr}
use Rattle.r4_cell.specs.Seen.{CellSeen}
use Rattle.r4_outside.proofs.Moments.{goes_both}
use Rattle.r4_mkfs.proofs.Writing.{on_ok, rest_written}
use Rattle.r4_mkfs.proofs.Sparing.{rest_agrees, spares3, spares4, spares5}
use Rattle.r4_mkfs.proofs.making.write_rest.Goals as goal

block_of : {b : List ℕ} {x y : CellSeen} → b ≡ x.block → x ≡ y → b ≡ y.block
block_of e f = e ∙ ap (λ (c : CellSeen). c.block) f

pub returns-clause-rest : goal.returns-clause-rest
returns-clause-rest g c = λ tells.
    let s0 = g.D.Device.state c.args.dev.now in
    let s1 = g.D.Device.state c.write_bitmaps.new.dev in
    let s2 = g.D.Device.state c.write.new.self in
    let s3 = g.D.Device.state c.write_zeros.new.dev in
    let s4 = g.D.Device.state c.write-2.new.self in
    let s5 = g.D.Device.state c.write-3.new.self in
    let went = goes_both s0 s1 s5 c.write_bitmaps.ensures.goes (goes_both s1 s2 s5 c.write.ensures.goes (goes_both s2 s3 s5 c.write_zeros.ensures.goes (goes_both s3 s4 s5 c.write-2.ensures.goes c.write-3.ensures.goes))) in
    on_ok c.write-3.result (s5.seen ≡ slice_set s4.seen 23 c.block-2.result.now) (IsFreshBut16 c.args.blocks s5.seen)
    (λ seen. rest_written c.args.blocks s1 s2 s3 s4 s5 c.fill_super.new.block c.block.result.now c.block-2.result.now (c.requires.blocks ∙ sym c.write_bitmaps.ensures.goes.blocks) (went.blocks ∙ sym c.requires.blocks)
    c.requires.lawful (c.write_bitmaps.ensures.goes.reads.1 tells) (went.reads.1 tells) c.fill_super.ensures c.in_ok-write.ensures.seen c.in_ok-write_zeros.ensures.zeros c.in_ok-write-2.ensures.seen seen
    (c.in_ok-write_bitmaps.ensures.bitmaps tells) (subst (λ (b : List ℕ). IsFreshNode b 2 3 (number_bytes 8 23)) (sym (block_of c.block.ensures c.deref.ensures)) c.requires.twig) (subst (λ (b : List ℕ). IsFreshNode b 1 0 (stat_body root_attr)) (sym (block_of c.block-2.ensures c.deref-2.ensures)) c.requires.leaf))
    c.write-3.ensures.seen

pub returns-in_err-write_zeros-clause-spares : goal.returns-in_err-write_zeros-clause-spares
returns-in_err-write_zeros-clause-spares g c = spares3 c.args.blocks _ _ _ c.write.result _ c.write_bitmaps.ensures.goes c.write_bitmaps.ensures.spares c.write.ensures _ c.write_zeros.ensures.goes (c.write_zeros.ensures.spares c.args.blocks)

pub returns-in_err-write-2-clause-spares : goal.returns-in_err-write-2-clause-spares
returns-in_err-write-2-clause-spares g c = spares4 c.args.blocks _ _ _ c.write.result _ c.write_bitmaps.ensures.goes c.write_bitmaps.ensures.spares c.write.ensures _ c.write_zeros.ensures.goes (c.write_zeros.ensures.spares c.args.blocks) _ c.write-2.result _ c.write-2.ensures

pub returns-clause-spares : goal.returns-clause-spares
returns-clause-spares g c = spares5 c.args.blocks _ _ _ c.write.result _ c.write_bitmaps.ensures.goes c.write_bitmaps.ensures.spares c.write.ensures _ c.write_zeros.ensures.goes (c.write_zeros.ensures.spares c.args.blocks) _ c.write-2.result _ c.write-2.ensures _ c.write-3.result _ c.write-3.ensures

pub returns-clause-goes : goal.returns-clause-goes
returns-clause-goes g c = goes_both _ _ _ c.write_bitmaps.ensures.goes (goes_both _ _ _ c.write.ensures.goes (goes_both _ _ _ c.write_zeros.ensures.goes (goes_both _ _ _ c.write-2.ensures.goes c.write-3.ensures.goes)))

pub returns-clause-others : goal.returns-clause-others
returns-clause-others g c =
    let s0 = g.D.Device.state c.args.dev.now in
    let s4 = g.D.Device.state c.write-2.new.self in
    let s5 = g.D.Device.state c.write-3.new.self in
    on_ok c.write-3.result (s5.seen ≡ slice_set s4.seen 23 c.block-2.result.now) (AgreesOutside (IsRest c.args.blocks) s0.seen s5.seen)
    (λ seen. rest_agrees c.args.blocks s0.seen _ _ _ s4.seen s5.seen _ _ _ c.in_ok-write_bitmaps.ensures.others c.in_ok-write.ensures.seen c.in_ok-write_zeros.ensures.zeros c.in_ok-write-2.ensures.seen seen)
    c.write-3.ensures.seen
