use Rattle.std.proofs.Common.{◌≡◌, ◌+◌, ◌*◌, ◌<◌, ◌≤◌, ap, sym, subst, ◌∙◌, arith}
use Rattle.std.specs.Prelude.{Contains}
use Rattle.r4_base.specs.Key.{rank}
use Rattle.r4_base.specs.Tree.{Name}
use Rattle.r4_base.proofs.FreshTree.{only}
use Rattle.r4_marking.proofs.r4_graft.Halves.{later_rank}
use Rattle.r4_search.specs.Place.{child_name}
use Rattle.r4_search.specs.Pool.{place_fault}
use Rattle.r4_sight.specs.r4_units.Extent.{block_name}
use Rattle.r4_judging.specs.Judging.{FitKeys, names_meant, number_count, number_from}
use Rattle.r4_judging.proofs.Runs.{run_block}
use Rattle.r4_judging.specs.declared.named.Named.{Named}
use Rattle.r4_judging.proofs.named.Named.fault_of.Goals as goal

pub returns-in-Child : goal.returns-in-Child
returns-in-Child c n at id =
    let here = subst (λ (m : Named). Contains (names_meant m) n) c.in-Child.is at in
    let is : n ≡ child_name c.in-Child.child = only (child_name c.in-Child.child) n here in
    c.fault_of_place.ensures c.in-Child.child.id.0 ∙ ap (λ (m : Name). place_fault m c.args.cell.now) (sym is)

pub key_after-requires-clause-below : goal.key_after-requires-clause-below
key_after-requires-clause-below c =
    let keys = (subst FitKeys c.in-Blocks.is c.requires.keys).1 in
    let from = subst (λ (m : Named). number_from m ≤ c.args.cell.now.id) c.in-Blocks.is c.requires.from in
    let below = subst (λ (m : Named). c.args.cell.now.id < number_from m + number_count m) c.in-Blocks.is
    c.requires.below in
    let lo = ap rank c.behind-lo.ensures ∙ later_rank c.in-Blocks.first _ in
    let id = c.id.ensures in
    omega (arith, keys, from, below, lo, id)

pub returns-in-Blocks : goal.returns-in-Blocks
returns-in-Blocks c n at id =
    let here = subst (λ (m : Named). Contains (names_meant m) n) c.in-Blocks.is at in
    let (j, lt, is) = run_block (rank c.in-Blocks.first) c.in-Blocks.start c.in-Blocks.field-1 n here in
    let lo = ap rank c.behind-lo.ensures ∙ later_rank c.in-Blocks.first _ in
    let hi = c.key_after.ensures in
    let cell = c.id.ensures in
    let named = ap (λ (m : Name). m.id) is in
    let a : rank c.behind-lo.result ≡ rank c.in-Blocks.first + 4096 * j = omega (arith, lo, id, cell, named) in
    let b : rank c.key_after.result ≡ rank c.in-Blocks.first + 4096 * j + 4096 = omega (arith, hi, a) in
    let same : (record
    { id = c.in-Blocks.start + j; level = 0; lo = rank c.behind-lo.result; hi = rank c.key_after.result })
    ≡ block_name (c.in-Blocks.start + j) (rank c.in-Blocks.first + 4096 * j) = λ i. record
    { id = c.in-Blocks.start + j; level = 0; lo = a i; hi = b i } in
    c.fault_of_place-in-Blocks.ensures (c.in-Blocks.start + j) ∙ ap (λ (m : Name). place_fault m c.args.cell.now)
    (same ∙ sym is)
