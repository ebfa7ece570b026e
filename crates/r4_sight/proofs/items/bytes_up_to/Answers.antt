use Rattle.std.proofs.Common.{◌≡◌, ◌+◌, ◌≤◌, arith, sym, rules}
use Rattle.std.proofs.lemmas.Bool.{ltb-true}
use Rattle.r4_base.specs.Key.{offset_of, rank}
use Rattle.r4_base.proofs.Keys.{is_key}
use Rattle.r4_leaf.proofs.CutPieces.{apart_by}
use Rattle.r4_sight.proofs.items.bytes_up_to.Goals as goal
use Rattle.std.specs.Prelude.{length}

close : (c : goal.After-result-2-1) → (offset_of c.args.item.now.key ≤ offset_of c.args.key) × (rank c.args.key + offset_of c.args.item.now.key ≡ rank c.args.item.now.key + offset_of c.args.key)
close c =
    let low = ltb-true _ _ (sym c.if-not-is_below.ensures) in
    let high = ltb-true _ _ (sym c.if-not-is_below-2.ensures) in
    let next = c.behind.ensures in
    apart_by c.args.item.now.key c.args.key (length c.args.item.now.body.now) (is_key c.args.key (search rules) (search rules) (search rules) (search rules) (search rules)) low (omega (arith, high, next)) c.requires.short

pub overflow_sub-result : goal.overflow_sub-result
overflow_sub-result c = (close c).0

pub returns : goal.returns
returns c =
    let low = ltb-true _ _ (sym c.if-not-is_below.ensures) in
    let high = ltb-true _ _ (sym c.if-not-is_below-2.ensures) in
    let next = c.behind.ensures in
    let e = close c in omega (arith, e, low, high, next)
