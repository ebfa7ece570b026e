use Rattle.std.proofs.Common.{arith, ◌≡◌, ◌+◌, map, ap, ◌∙◌}
use Rattle.std.specs.List.{range_with_len}
use Rattle.r4_gen.specs.Workload.{script_of}
use Rattle.r4_gen.proofs.Steps.{one_script_more}
use Rattle.r4_gen.proofs.scripts.all_scripts.Goals as goal

pub loop-k-preserved : goal.loop-k-preserved
loop-k-preserved c = one_script_more (λ n. script_of c.args.seed (n + 1)) c.loop-k.k _ _ _ c.loop-k.invariant
    c.in_ok-script.ensures c.in_ok-push.ensures.items

pub returns : goal.returns
returns c =
    let end : c.loop-k.k ≡ 4 = omega (arith, c.loop-k.auto.k-end, c.loop-k-test.false) in
    ap (λ l. record { scripts = l })
    (c.from_vec-scripts.ensures ∙ (c.loop-k.invariant
    ∙ ap (λ k. map (λ n. script_of c.args.seed (n + 1)) (range_with_len 0 k)) end))
