use Rattle.std.proofs.Common.{arith, ◌≡◌, ◌++◌, ◌∙◌, ap}
use Rattle.r4_gen.specs.Workload.{directory_made}
use Rattle.r4_gen.proofs.Steps.{all_of, all_parts, part, part_more}
use Rattle.r4_gen.proofs.scripts.make_directories.Goals as goal

pub loop-k-preserved : goal.loop-k-preserved
loop-k-preserved c = part_more (directory_made c.args.seed) c.args.number c.loop-k.k _ _ _ _ c.loop-k.invariant
    c.in_ok-make_directory.ensures c.in_ok-commit.ensures

pub returns : goal.returns
returns c =
    let end : c.loop-k.k ≡ 50 = omega (arith, c.loop-k.auto.k-end, c.loop-k-test.false) in
    all_of (part (directory_made c.args.seed) c.args.number) 0 c.loop-k.k 50 _ _ end c.loop-k.invariant
    ∙ ap (λ l. c.args.commands.now.items ++ l)
    (all_parts (directory_made c.args.seed) c.args.number c.requires.first c.requires.last)
