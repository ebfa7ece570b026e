use Rattle.std.proofs.Common.{rules}
use Rattle.r4_base.proofs.Keys.{is_key}
use Rattle.r4_leaf.proofs.Standing.{put_sound}
use Rattle.r4_leaf.proofs.remaking.add_lent.Goals as goal

pub add_item-requires : goal.add_item-requires
add_item-requires c =
    put_sound (record { key = c.args.key; plugin = c.args.plugin; body = c.args.body.now }) c.requires
    (is_key c.args.key (search rules) (search rules) (search rules) (search rules) (search rules))
