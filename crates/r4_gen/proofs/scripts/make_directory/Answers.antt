use Rattle.std.proofs.Common.{arith, ◌≡◌, ◌*◌}
use Rattle.r4_gen.specs.Workload.{file_made}
use Rattle.r4_gen.proofs.Steps.{all_of, directory_is_made, one_part_more}
use Rattle.r4_gen.proofs.scripts.make_directory.Goals as goal

pub loop-k-preserved : goal.loop-k-preserved
loop-k-preserved c = one_part_more (file_made c.args.seed) (100 * c.args.directory) c.loop-k.k _ _ _
    c.loop-k.invariant c.in_ok-make_file.ensures

pub returns : goal.returns
returns c =
    let end : c.loop-k.k ≡ 100 = omega (arith, c.loop-k.auto.k-end, c.loop-k-test.false) in
    directory_is_made c.args.seed c.args.directory c.in_ok-path.path _ _ _ c.in_ok-path.ensures
    c.in_ok-push.ensures.items
    (all_of (file_made c.args.seed) (100 * c.args.directory) c.loop-k.k 100 _ _ end c.loop-k.invariant)
