use Rattle.std.proofs.Common.{◌≡◌, length, replicate, ap, ◌∙◌, refl, arith}
use Rattle.r4_base.specs.Bytes.{put_all, overwrite}
use Rattle.r4_base.specs.Layout.{master_magic, master_of}
use Rattle.r4_base.proofs.Superblocks.{master_numbers, is_master_block, master_again}
use Rattle.r4_layout.proofs.master.write_master.Goals as goal

pub returns-clause-spelled : goal.returns-clause-spelled
returns-clause-spelled c =
    let long : length c.args.m.now.label ≡ 16 = omega arith in
    let chain : c.put_bytes-2.new.b ≡ overwrite 36 c.args.m.now.label (put_all master_numbers 16 (overwrite 0 master_magic (replicate 4096 0))) = rw (c.put_bytes-2.ensures, c.put16-2.ensures, c.put16.ensures, c.put_bytes.ensures, c.blank.ensures, c.requires) refl in
    chain ∙ is_master_block c.args.m.now long

pub returns-clause-again : goal.returns-clause-again
returns-clause-again c =
    let long : length c.args.m.now.label ≡ 16 = omega arith in
    ap master_of (returns-clause-spelled c) ∙ master_again c.args.m.now long
