use Rattle.std.proofs.Common.{◌≡◌, refl, ap, ◌∙◌, arith}
use Rattle.r4_base.specs.Log.{Record, record_fields, record_of}
use Rattle.r4_base.specs.Bytes.{put_all, FieldsFit}
use Rattle.r4_logfmt.proofs.Writes.{is_record_block}
use Rattle.r4_logfmt.proofs.Again.{record_again}
use Rattle.r4_logfmt.proofs.record_write.write_record.Goals as goal

pub returns-clause-spelled : goal.returns-clause-spelled
returns-clause-spelled c =
    let r : Record = record { id = c.args.id; total = c.args.total; serial = c.args.serial; next_block = c.args.next_block; pairs = c.args.pairs.now } in
    let chain : c.put64-2.new.b ≡ put_all (record_fields r) 8 c.put_bytes.new.b = rw (c.put64-2.ensures, c.put32-2.ensures, c.put32.ensures, c.put64.ensures) refl in
    is_record_block r c.put_bytes.new.b c.put64-2.new.b c.put_pairs.new.b c.requires.few (rw (c.put_bytes.ensures, c.blank.ensures, c.requires.whole) refl) chain c.put_pairs.ensures.spelled

pub returns-clause-again : goal.returns-clause-again
returns-clause-again c =
    let r : Record = record { id = c.args.id; total = c.args.total; serial = c.args.serial; next_block = c.args.next_block; pairs = c.args.pairs.now } in
    let fit : FieldsFit (record_fields r) = (omega arith, (omega arith, (omega arith, (omega arith, tt)))) in
    ap record_of (returns-clause-spelled c) ∙ record_again r fit (λ k d lt. (c.requires.named k d lt, (c.put_pairs.ensures.fit k d lt).0, (c.put_pairs.ensures.fit k d lt).1)) c.requires.few
