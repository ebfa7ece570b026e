use Rattle.std.proofs.Common.{◌≡◌, replicate, ap, ◌∙◌, refl, arith}
use Rattle.r4_base.specs.Bytes.{put_all, overwrite, FieldsFit}
use Rattle.r4_base.specs.Log.{head_of, head_fields, head_magic}
use Rattle.r4_logfmt.proofs.Laws.{is_head_block, head_again}
use Rattle.r4_logfmt.proofs.head.write_head.Goals as goal

pub returns-clause-spelled : goal.returns-clause-spelled
returns-clause-spelled c =
    let blanked = c.blank.ensures in
    let named = c.put_bytes.ensures in
    let chain : c.put64-6.new.b ≡ put_all (head_fields c.args.h.now) 8 (overwrite 0 head_magic (replicate 4096 0)) = rw (c.put64-6.ensures, c.put64-5.ensures, c.put64-4.ensures, c.put64-3.ensures, c.put64-2.ensures, c.put32-2.ensures, c.put32.ensures, c.put64.ensures, c.put_bytes.ensures, c.blank.ensures, c.requires) refl in
    chain ∙ is_head_block c.args.h.now

pub returns-clause-again : goal.returns-clause-again
returns-clause-again c =
    let fit : FieldsFit (head_fields c.args.h.now) = (omega arith, (omega arith, (omega arith, (omega arith, (omega arith, (omega arith, (omega arith, (omega arith, tt)))))))) in
    ap head_of (returns-clause-spelled c) ∙ head_again c.args.h.now fit
