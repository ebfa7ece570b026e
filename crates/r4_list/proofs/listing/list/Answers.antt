use Rattle.std.proofs.Common.{◌≡◌, ℕ, List, refl, sym, subst, ◌∙◌, arith, Ok}
use Rattle.r4_base.specs.Chain.{Settles, chain_pairs}
use Rattle.r4_base.specs.Image.{block_at, put_pairs}
use Rattle.r4_base.specs.Layout.{super_of}
use Rattle.r4_base.specs.Value.{Content}
use Rattle.r4_base.specs.Volume.{HasVolume}
use Rattle.r4_outside.specs.Device.{TellsReads}
use Rattle.r4_list.specs.Listing.{IsListing}
use Rattle.r4_outside.proofs.Lent.{lent_name}
use Rattle.r4_outside.proofs.Moments.{goes_both}
use Rattle.r4_search.proofs.FromDevice.{lent_stays}
use Rattle.r4_search.specs.Pool.{LeavesDevice}
use Rattle.r4_list.specs.Lists.{Answers, IsListFault, PrintsText}
use Rattle.r4_list.proofs.Stages.{prints_same}
use Rattle.r4_list.proofs.Listings.{SettlesBy, image_opened, lent_answers, log_answer, log_text, open_answer, open_text, opening_stays, same_super, settled_by, stays_both}
use Rattle.r4_open.proofs.Openings.{log_names_head}
use Rattle.r4_list.proofs.listing.list.Goals as goal

pub open_image-requires-clause-names : goal.open_image-requires-clause-names
open_image-requires-clause-names g c = λ κs lives.
    let d = g.D.Device.state in
    let read = c.in-Ok.ensures in
    log_names_head (d c.args.dev.now) (d c.blocks-2.new.self) c.in-Ok.log (goes_both _ _ _ read.idles.goes c.blocks-2.ensures.goes) (c.blocks-2.ensures.seen ∙ read.idles.seen) read.reads.1

pub returns-in-Err-clause-answers : goal.returns-in-Err-clause-answers
returns-in-Err-clause-answers g c =
    let d = g.D.Device.state in
    let k = g.K.Sink.state c.args.out.now in
    record { printed = prints_same _; text = λ m text told v listing. log_text (d c.args.dev.now) _ k c.in-Err.fault _ m text c.log_fault.ensures c.in-Err.ensures.reads told v; ok = tt; err = subst (λ x. IsListFault (d c.args.dev.now) k x (d c.read_log.new.dev) k) (sym c.log_fault.ensures) (log_answer _ _ _ c.in-Err.fault c.in-Err.ensures.reads) }

pub returns-in-Err-open_image-clause-answers : goal.returns-in-Err-open_image-clause-answers
returns-in-Err-open_image-clause-answers g c =
    let d = g.D.Device.state in
    let k = g.K.Sink.state c.args.out.now in
    let first = d c.args.dev.now in
    let read = c.in-Ok.ensures in
    let at = d c.open_image.new.dev in
    record {
      printed = prints_same _;
      text = λ m text told v listing. open_text first _ _ (goes_both _ _ _ read.idles.goes c.blocks-2.ensures.goes) (c.blocks-2.ensures.seen ∙ read.idles.seen) read.reads.0 read.reads.1 at k _ _ m text c.open_fault.ensures c.in-Err-open_image.ensures.opens told v;
      ok = tt;
      err = subst (λ x. IsListFault first k x at k) (sym c.open_fault.ensures)
          (open_answer first _ _ (goes_both _ _ _ read.idles.goes c.blocks-2.ensures.goes) (c.blocks-2.ensures.seen ∙ read.idles.seen) read.reads.0 read.reads.1 at k _ c.in-Err-open_image.ensures.opens);
    }

pub returns-clause-device : goal.returns-clause-device
returns-clause-device g c =
    let d = g.D.Device.state in
    let read = c.in-Ok.ensures in
    let first = d c.args.dev.now in
    let counted : LeavesDevice first (d c.blocks-2.new.self) = record { goes = goes_both _ _ _ read.idles.goes c.blocks-2.ensures.goes; idle = record { seen = c.blocks-2.ensures.seen ∙ read.idles.seen; clock = c.blocks-2.ensures.clock ∙ read.idles.clock } } in
    let before = stays_both first _ _ counted (opening_stays _ _ c.in-Ok-open_image.ensures.idles) in
    let printed = lent_stays _ c.print_settled-printed.result.dev.ghost_name _ (d c.print_settled-printed.result.dev.now) c.print_settled-printed.ensures.device in
    subst (λ x. LeavesDevice first (d x)) (sym (c.dev-1.given.1 (sym (lent_name c.print_settled-printed.ensures.device.goes.lender)))) (stays_both _ _ _ before printed)

pub returns-clause-answers : goal.returns-clause-answers
returns-clause-answers g c =
    let d = g.D.Device.state in
    let k = g.K.Sink.state in
    let read = c.in-Ok.ensures in
    let first = d c.args.dev.now in
    let at = d c.open_image.new.dev in
    let opened = image_opened first _ _ (goes_both _ _ _ read.idles.goes c.blocks-2.ensures.goes) (c.blocks-2.ensures.seen ∙ read.idles.seen) read.reads.0 read.reads.1 _ at c.in-Ok-open_image.ensures.opens in
    let one = read.idles.goes.faults in
    let two = c.blocks-2.ensures.goes.faults in
    let three = c.in-Ok-open_image.ensures.idles.goes.faults in
    let ended = c.print_settled-printed in
    let goes = goes_both _ _ _ read.idles.goes c.blocks-2.ensures.goes in
    let seen = c.blocks-2.ensures.seen ∙ read.idles.seen in
    let later = goes_both _ _ _ goes c.in-Ok-open_image.ensures.idles.goes in
    let by_image : SettlesBy c.in-Ok.log.homes c.in-Ok-open_image.found.super40 first at = λ told image settles.
    let before = settled_by first _ _ goes seen read.reads.0 read.reads.1 image told settles in
    let super = (c.in-Ok-open_image.ensures.opens (goes.reads.1 told) image before).super in
    (later.reads.1 told, settled_by first at _ later (c.in-Ok-open_image.ensures.idles.seen ∙ seen) read.reads.0 read.reads.1 image told settles, subst (λ (n : ℕ). super_of n (block_at image 17) ≡ Ok c.in-Ok-open_image.found.super40) goes.blocks super) in
    let text : (m : Content) (text : List ℕ) → TellsReads first → HasVolume first.blocks first.seen m → IsListing m c.args.path.now text → PrintsText text (k c.args.out.now) ended.result.printed (k ended.new.out) = λ m text told v listing.
    let image = put_pairs (chain_pairs v.chain) first.seen in
    let settles : Settles first.blocks first.seen image = record { chain = v.chain; has = v.log; is = refl } in
    let before = settled_by first _ _ goes seen read.reads.0 read.reads.1 image told settles in
    let super = same_super _ _ _ _ _ (sym goes.blocks) v.content.layout.format (c.in-Ok-open_image.ensures.opens (goes.reads.1 told) image before).super in
    let by = settled_by first at _ later (c.in-Ok-open_image.ensures.idles.seen ∙ seen) read.reads.0 read.reads.1 image told settles in
    ended.ensures.text first.blocks image m v.content (later.reads.1 told) (sym later.blocks) by super text listing in
    subst (λ x. Answers c.args.path.now first (k c.args.out.now) ended.result.printed (d x) (k ended.new.out)) (sym (c.dev-1.given.1 (sym (lent_name ended.ensures.device.goes.lender))))
    (lent_answers c.in-Ok.log.homes c.in-Ok-open_image.found.super40 c.args.path.now c.print_settled-arg-1.given ended.result.dev.ghost_name first at (d ended.result.dev.now) _ _ _ (omega (arith, one, two, three)) opened by_image ended.ensures.prints text ended.ensures.cause)
