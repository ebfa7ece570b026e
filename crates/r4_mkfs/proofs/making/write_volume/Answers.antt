use Rattle.std.proofs.Common.{ℕ, slice_set, sym, subst, ap, ◌∙◌}
use Rattle.r4_base.specs.Image.{AgreesOutside, Image, IsImage}
use Rattle.r4_base.specs.Fresh.{IsFreshImage}
use Rattle.r4_outside.proofs.Moments.{goes_both, reads_of}
use Rattle.r4_mkfs.specs.Mkfs.{IsWritten, full_label}
use Rattle.r4_mkfs.proofs.Writing.{always, on_ok}
use Rattle.r4_mkfs.proofs.Ordering.{with_master, written, written_synced, headed, headed_synced}
use Rattle.r4_mkfs.proofs.Sparing.{all1, all3, all4, all_agrees}
use Rattle.r4_mkfs.proofs.making.write_volume.Goals as goal

pub returns-in_err-write_rest-clause-any_moment : goal.returns-in_err-write_rest-clause-any_moment
returns-in_err-write_rest-clause-any_moment g c = λ quiet. (written (g.D.Device.state c.args.dev.now) c.args.blocks c.requires.blocks c.requires.lawful quiet (g.D.Device.state c.write_rest.new.dev) c.write_rest.ensures.goes c.write_rest.ensures.spares).so_far

pub returns-in_err-sync-clause-any_moment : goal.returns-in_err-sync-clause-any_moment
returns-in_err-sync-clause-any_moment g c = λ quiet. (written_synced (g.D.Device.state c.args.dev.now) c.args.blocks c.requires.blocks c.requires.lawful quiet (g.D.Device.state c.write_rest.new.dev) c.write_rest.ensures.goes c.write_rest.ensures.spares
    _ _ c.sync.ensures).so_far

pub returns-in_err-write-clause-any_moment : goal.returns-in_err-write-clause-any_moment
returns-in_err-write-clause-any_moment g c = λ quiet. (headed (g.D.Device.state c.args.dev.now) c.args.blocks c.requires.blocks c.requires.lawful quiet (g.D.Device.state c.write_rest.new.dev) c.write_rest.ensures.goes c.write_rest.ensures.spares
    (c.in_ok-write_rest.ensures.rest (reads_of (g.D.Device.state c.args.dev.now) quiet.tells)) c.fill_master.new.block _ _ c.in_ok-sync.ensures _ _ c.write.ensures).so_far

pub returns-clause-any_moment : goal.returns-clause-any_moment
returns-clause-any_moment g c = λ quiet. (headed_synced (g.D.Device.state c.args.dev.now) c.args.blocks c.requires.blocks c.requires.lawful quiet (g.D.Device.state c.write_rest.new.dev) c.write_rest.ensures.goes c.write_rest.ensures.spares
    (c.in_ok-write_rest.ensures.rest (reads_of (g.D.Device.state c.args.dev.now) quiet.tells)) c.fill_master.new.block _ _ c.in_ok-sync.ensures _ _ _ _ c.write.ensures c.sync-2.ensures).so_far

pub returns-clause-made : goal.returns-clause-made
returns-clause-made g c = λ tells.
    let s0 = g.D.Device.state c.args.dev.now in
    let s1 = g.D.Device.state c.write_rest.new.dev in
    let s2 = g.D.Device.state c.sync.new.self in
    let s3 = g.D.Device.state c.write.new.self in
    let s4 = g.D.Device.state c.sync-2.new.self in
    let went1 = c.write_rest.ensures.goes in
    let went4 = goes_both s0 s1 s4 went1 (goes_both s1 s2 s4 c.sync.ensures.goes (goes_both s2 s3 s4 c.write.ensures.goes c.sync-2.ensures.goes)) in
    let told1 = went1.reads.1 tells in
    let told4 = went4.reads.1 tells in
    on_ok c.sync-2.result (Unit {0}) (IsFreshImage c.args.blocks (full_label c.args.label.now) s4.seen)
    (λ well. with_master c.args.blocks s1.seen s4.seen c.args.label.now c.fill_master.new.block c.requires.lawful (told1.blocks ∙ went1.blocks ∙ sym c.requires.blocks)
    (subst (λ (k : ℕ). IsImage k s4.seen) (went4.blocks ∙ sym c.requires.blocks) told4)
    (c.sync-2.ensures.seen ∙ c.in_ok-write.ensures.seen ∙ ap (λ (i : Image). slice_set i 16 c.fill_master.new.block) c.sync.ensures.seen) c.fill_master.ensures (c.in_ok-write_rest.ensures.rest tells))
    (always c.sync-2.result)

pub returns-in_err-write_rest-clause-spares : goal.returns-in_err-write_rest-clause-spares
returns-in_err-write_rest-clause-spares g c = all1 c.args.blocks _ _ c.write_rest.ensures.spares

pub returns-in_err-write-clause-spares : goal.returns-in_err-write-clause-spares
returns-in_err-write-clause-spares g c = all3 c.args.blocks _ _ c.write_rest.ensures.spares c.write_rest.ensures.goes _ c.sync.result c.sync.ensures _ c.write.result _ c.write.ensures

pub returns-clause-spares : goal.returns-clause-spares
returns-clause-spares g c = all4 c.args.blocks _ _ c.write_rest.ensures.spares c.write_rest.ensures.goes _ c.sync.result c.sync.ensures _ c.write.result _ c.write.ensures _ c.sync-2.result c.sync-2.ensures

pub returns-clause-others : goal.returns-clause-others
returns-clause-others g c =
    let s0 = g.D.Device.state c.args.dev.now in
    let s1 = g.D.Device.state c.write_rest.new.dev in
    let s4 = g.D.Device.state c.sync-2.new.self in
    on_ok c.sync-2.result (Unit {0}) (AgreesOutside (IsWritten c.args.blocks) s0.seen s4.seen)
    (λ well. all_agrees c.args.blocks s0.seen s1.seen s4.seen c.fill_master.new.block c.in_ok-write_rest.ensures.others
    (c.sync-2.ensures.seen ∙ c.in_ok-write.ensures.seen ∙ ap (λ (i : Image). slice_set i 16 c.fill_master.new.block) c.sync.ensures.seen))
    (always c.sync-2.result)
