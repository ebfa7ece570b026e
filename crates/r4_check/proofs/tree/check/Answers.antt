use Rattle.std.proofs.Common.{◌∙◌, sym}
use Rattle.r4_outside.proofs.Moments.{goes_both}
use Rattle.r4_list.proofs.Listings.{image_opened, same_super, settled_by}
use Rattle.r4_check.proofs.Answered.{log_checks, open_checks, same_walk, stop_checks, walk_checks}
use Rattle.r4_open.proofs.Openings.{log_names_head}
use Rattle.r4_check.proofs.tree.check.Goals as goal

pub open_image-requires-clause-names : goal.open_image-requires-clause-names
open_image-requires-clause-names g c = λ κs lives.
    let d = g.D.Device.state in
    let read = c.in-Ok.ensures in
    log_names_head (d c.args.dev.now) (d c.blocks-2.new.self) c.in-Ok.log (goes_both _ _ _ read.idles.goes c.blocks-2.ensures.goes) (c.blocks-2.ensures.seen ∙ read.idles.seen) read.reads.1

pub returns-in-Err-clause-checks : goal.returns-in-Err-clause-checks
returns-in-Err-clause-checks g c = log_checks _ _ _ c.in-Err.fault c.log_fault.result c.log_fault.ensures c.in-Err.ensures.reads

pub returns-in-Err-open_image-clause-checks : goal.returns-in-Err-open_image-clause-checks
returns-in-Err-open_image-clause-checks g c =
    let d = g.D.Device.state in
    let read = c.in-Ok.ensures in
    let first = d c.args.dev.now in
    open_checks first _ _ (goes_both _ _ _ read.idles.goes c.blocks-2.ensures.goes) (c.blocks-2.ensures.seen ∙ read.idles.seen) read.reads.0 read.reads.1 _ _ c.in-Err-open_image.unopened c.open_fault.result c.open_fault.ensures c.in-Err-open_image.ensures.opens

pub returns-in-Ok-walk_settled-clause-checks : goal.returns-in-Ok-walk_settled-clause-checks
returns-in-Ok-walk_settled-clause-checks g c =
    let d = g.D.Device.state in
    let read = c.in-Ok.ensures in
    let first = d c.args.dev.now in
    let before = d c.blocks-2.new.self in
    let at = d c.open_image.new.dev in
    let goes = goes_both _ _ _ read.idles.goes c.blocks-2.ensures.goes in
    let seen = c.blocks-2.ensures.seen ∙ read.idles.seen in
    let opened = image_opened first _ _ goes seen read.reads.0 read.reads.1 _ at c.in-Ok-open_image.ensures.opens in
    let later = goes_both _ _ _ goes c.in-Ok-open_image.ensures.idles.goes in
    walk_checks first _ _ _ c.in-Ok-walk_settled.verdict opened c.in-Ok-walk_settled.ensures.prints (λ image s told settles layout.
    let by = settled_by first _ _ goes seen read.reads.0 read.reads.1 image told settles in
    let opening = c.in-Ok-open_image.ensures.opens (goes.reads.1 told) image by in
    let super = same_super _ _ _ _ _ (sym goes.blocks) layout.format opening.super in
    same_walk s c.in-Ok-open_image.found.super40 image _ _ _ super
    (c.in-Ok-walk_settled.ensures.walk image (record { told = later.reads.1 told; settled = settled_by first at _ later (c.in-Ok-open_image.ensures.idles.seen ∙ seen) read.reads.0 read.reads.1 image told settles; bitmaps = opening.bitmaps })))

pub returns-clause-checks : goal.returns-clause-checks
returns-clause-checks g c =
    let d = g.D.Device.state in
    let read = c.in-Ok.ensures in
    let first = d c.args.dev.now in
    let at = d c.open_image.new.dev in
    let goes = goes_both _ _ _ read.idles.goes c.blocks-2.ensures.goes in
    let seen = c.blocks-2.ensures.seen ∙ read.idles.seen in
    let opened = image_opened first _ _ goes seen read.reads.0 read.reads.1 _ at c.in-Ok-open_image.ensures.opens in
    let later = goes_both _ _ _ goes c.in-Ok-open_image.ensures.idles.goes in
    stop_checks first at _ _ _ c.in-Err-walk_settled.stop c.fault_of.result c.fault_of.ensures later.faults opened c.in-Err-walk_settled.ensures.prints c.in-Err-walk_settled.ensures.cause (λ image s told settles layout.
    let by = settled_by first _ _ goes seen read.reads.0 read.reads.1 image told settles in
    let opening = c.in-Ok-open_image.ensures.opens (goes.reads.1 told) image by in
    let super = same_super _ _ _ _ _ (sym goes.blocks) layout.format opening.super in
    same_walk s c.in-Ok-open_image.found.super40 image _ _ _ super
    (c.in-Err-walk_settled.ensures.walk image (record { told = later.reads.1 told; settled = settled_by first at _ later (c.in-Ok-open_image.ensures.idles.seen ∙ seen) read.reads.0 read.reads.1 image told settles; bitmaps = opening.bitmaps })))
