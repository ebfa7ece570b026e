use Rattle.r4_gen.proofs.Steps.{file_is_made}
use Rattle.r4_gen.proofs.files.make_file.Goals as goal

pub returns : goal.returns
returns c = file_is_made c.args.seed c.args.file c.size.result c.in_ok-path.path c.in_ok-filled.filled
    c.args.commands.now.items _ _ _ _ c.in_ok-path.ensures c.in_ok-filled.ensures c.size.ensures
    c.in_ok-push.ensures.items c.in_ok-push-2.ensures.items c.in_ok-push-3.ensures.items c.in_ok-push-4.ensures.items
