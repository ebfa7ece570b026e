use Rattle.std.proofs.Common.{arith, ◌≡◌, ◌+◌, ◌*◌, ◌∙◌, ap, vec_items}
use Rattle.r4_gen.proofs.Steps.{all_of, directory_is_thinned, even_goes, odd_stays, one_part_more, unlinked}
use Rattle.r4_gen.proofs.scripts.thin_directory.Goals as goal
use Rattle.r4_gen.proofs.scripts.thin_directory.Goals.{then-file-eq0+in_ok-path+in_ok-push, else-file-eq0}

pub loop-k-preserved : goal.loop-k-preserved
loop-k-preserved c =
    let file = 100 * c.args.directory + c.loop-k.k in
    one_part_more unlinked (100 * c.args.directory) c.loop-k.k _ c.loop-k.commands.items _ c.loop-k.invariant
    (elim c.if-file-eq0.branch [
      | then-file-eq0+in_ok-path+in_ok-push w ↦ even_goes file w.in_ok-path.path c.loop-k.commands.items _
          w.if-file-eq0.true w.in_ok-path.ensures
          (ap (λ v. vec_items v) w.commands-is ∙ w.in_ok-push.ensures.items)
      | else-file-eq0 w ↦ odd_stays file c.loop-k.commands.items _ w.if-file-eq0.false
          (ap (λ v. vec_items v) w.commands-is)
    ])

pub returns : goal.returns
returns c =
    let end : c.loop-k.k ≡ 100 = omega (arith, c.loop-k.auto.k-end, c.loop-k-test.false) in
    directory_is_thinned c.args.directory _ _
    (all_of unlinked (100 * c.args.directory) c.loop-k.k 100 _ _ end c.loop-k.invariant)
