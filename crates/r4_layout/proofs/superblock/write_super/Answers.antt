use Rattle.std.proofs.Common.{◌≡◌, replicate, ap, ◌∙◌, refl}
use Rattle.r4_base.specs.Bytes.{put_all, overwrite}
use Rattle.r4_base.specs.Layout.{super_magic, profile_mark, fields_before_magic, fields_behind_magic, super_fields, super_of}
use Rattle.r4_base.proofs.Superblocks.{is_super_block, fields_again, super_again}
use Rattle.r4_layout.proofs.superblock.write_super.Goals as goal

pub returns-clause-spelled : goal.returns-clause-spelled
returns-clause-spelled c =
    let chain : c.put_bytes-2.new.b ≡ overwrite 88 profile_mark (put_all (fields_behind_magic c.args.s.now) 68 (overwrite 52 super_magic (put_all (fields_before_magic c.args.s.now) 0 (replicate 4096 0)))) = rw (c.put_bytes-2.ensures, c.put_back.ensures.spelled, c.put_bytes.ensures, c.put_front.ensures.spelled, c.blank.ensures, c.requires) refl in
    chain ∙ is_super_block c.args.s.now

pub returns-clause-fields : goal.returns-clause-fields
returns-clause-fields c = ap super_fields (returns-clause-spelled c) ∙ fields_again c.args.s.now (record { before = c.put_front.ensures.fit; behind = c.put_back.ensures.fit })

pub returns-clause-again : goal.returns-clause-again
returns-clause-again c device_blocks lawful =
    ap (super_of device_blocks) (returns-clause-spelled c) ∙ super_again device_blocks c.args.s.now (record { before = c.put_front.ensures.fit; behind = c.put_back.ensures.fit }) lawful
