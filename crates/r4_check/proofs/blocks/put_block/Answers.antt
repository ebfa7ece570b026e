use Rattle.std.proofs.Common.{◌/◌, []}
use Rattle.std.proofs.lemmas.List.{get_or_default}
use Rattle.r4_check.proofs.BlockSets.{put_marks}
use Rattle.r4_check.proofs.blocks.put_block.Goals as goal

pub returns : goal.returns
returns c blocks size = put_marks blocks c.args.b c.args.bitmaps.now _ c.mark_one.new.bytes c.requires size
    (get_or_default c.args.bitmaps.now (c.args.b / 32736) c.index-bitmaps-b.result [] c.requires) c.bytes_mut.ensures.len c.bytes_mut.result.now c.bytes_mut.ensures.value c.mark_one.ensures c.mark_one.auto.bytes
