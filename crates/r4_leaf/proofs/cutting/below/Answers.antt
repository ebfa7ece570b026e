use Rattle.std.proofs.Common.{◌≡◌, ◌+◌, ◌≤◌, arith, sym, rules}
use Rattle.std.proofs.lemmas.Bool.{ltb-true}
use Rattle.r4_base.specs.Key.{offset_of, rank}
use Rattle.r4_base.proofs.Keys.{is_key}
use Rattle.r4_leaf.proofs.CutPieces.{apart_by}
use Rattle.r4_leaf.proofs.cutting.below.Goals as goal

close : (c : goal.After-result-2-1) → (offset_of c.args.key.now ≤ offset_of c.args.end.now) × (rank c.args.end.now + offset_of c.args.key.now ≡ rank c.args.key.now + offset_of c.args.end.now)
close c =
    let low = ltb-true _ _ (sym c.if-not-is_below.ensures) in
    let high = ltb-true _ _ (sym c.if-not-is_below-2.ensures) in
    let next = c.behind.ensures.rank in
    apart_by c.args.key.now c.args.end.now c.args.count (is_key c.args.end.now (search rules) (search rules) (search rules) (search rules) (search rules)) low (omega (arith, high, next)) c.requires

pub overflow_sub-result : goal.overflow_sub-result
overflow_sub-result c = (close c).0

pub returns-clause-within : goal.returns-clause-within
returns-clause-within c =
    let high = ltb-true _ _ (sym c.if-not-is_below-2.ensures) in
    let next = c.behind.ensures.rank in
    let e = close c in
    omega (arith, e, high, next)

pub returns-clause-before : goal.returns-clause-before
returns-clause-before c = λ k lt. let e = close c in omega (arith, e, lt)

pub returns-clause-rest : goal.returns-clause-rest
returns-clause-rest c = λ k le lt. let e = close c in omega (arith, e, le)
