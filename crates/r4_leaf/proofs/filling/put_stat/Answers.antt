use Rattle.std.proofs.Common.{ℕ, List, [], length, refl, sym, ap, subst, arith, rules}
use Rattle.r4_leaf.specs.Filling.{Holds}
use Rattle.r4_base.specs.Key.{rank}
use Rattle.r4_base.specs.Node.{Item}
use Rattle.r4_base.proofs.Keys.{is_key}
use Rattle.r4_node40.specs.Loan.{bytes_of}
use Rattle.r4_leaf.proofs.Opened.{need_new}
use Rattle.r4_leaf.proofs.SoundItems.{stat_long}
use Rattle.r4_leaf.proofs.TailFilled.{full_for_stat, stat_alone, stat_place, stat_puts}
use Rattle.r4_leaf.proofs.filling.put_stat.Goals as goal

pub put_bytes_at-requires-clause-place : goal.put_bytes_at-requires-clause-place
put_bytes_at-requires-clause-place c =
    let f = c.requires.filled in
    let it : Item = record { key = c.args.key; plugin = 0; body = [] } in
    let n = need_new it (length c.lent.result) refl in
    let e = ap length c.lent.ensures in
    let r = c.room.ensures in let a = c.from.ensures in let b = c.from-2.ensures in let g = c.if-from-body.false in
    let alone = stat_alone f.0 f.1 f.2 (bytes_of c.args.node.now) c.args.key c.place_for-place.result.item c.place_for-place.result.used f.3 f.4 c.place_for-place.ensures in
    (it, stat_place f.0 f.1 f.2 (bytes_of c.args.node.now) c.args.key c.place_for-place.result.item c.place_for-place.result.used f.3 f.4 c.place_for-place.ensures, sym alone, refl, λ e. refl, omega (arith, n, r, a, b, g, e))

pub put_bytes_at-requires-clause-some : goal.put_bytes_at-requires-clause-some
put_bytes_at-requires-clause-some c = let long = stat_long c.args.body.now c.requires.sound in let e = ap length c.lent.ensures in omega (arith, long, e)

pub returns-then-from-body-clause-full : goal.returns-then-from-body-clause-full
returns-then-from-body-clause-full c = λ no.
    let r = c.room.ensures in let a = c.from.ensures in let b = c.from-2.ensures in let g = c.if-from-body.true in
    full_for_stat (rank c.args.key) (bytes_of c.args.node.now) c.args.body.now c.requires.sound (omega (arith, r, a, b, g))

pub returns-clause-puts : goal.returns-clause-puts
returns-clause-puts c = λ yes.
    let f = c.requires.filled in
    let it : Item = record { key = c.args.key; plugin = 0; body = [] } in
    let n = need_new it (length c.lent.result) refl in
    let e = ap length c.lent.ensures in
    let r = c.room.ensures in let a = c.from.ensures in let b = c.from-2.ensures in let g = c.if-from-body.false in
    let alone = stat_alone f.0 f.1 f.2 (bytes_of c.args.node.now) c.args.key c.place_for-place.result.item c.place_for-place.result.used f.3 f.4 c.place_for-place.ensures in
    let place = stat_place f.0 f.1 f.2 (bytes_of c.args.node.now) c.args.key c.place_for-place.result.item c.place_for-place.result.used f.3 f.4 c.place_for-place.ensures in
    stat_puts (bytes_of c.args.node.now) (bytes_of c.put_bytes_at.new.node) c.args.key c.place_for-place.result.item c.place_for-place.result.used c.place_for-place.ensures (is_key c.args.key (search rules) (search rules) (search rules) (search rules) (search rules)) c.args.body.now c.requires.sound
    (subst (λ (bs : List ℕ). Holds (bytes_of c.args.node.now) c.place_for-place.result.item it bs (bytes_of c.put_bytes_at.new.node)) c.lent.ensures
    (c.put_bytes_at.ensures.holds it place (sym alone) refl (λ e. refl) (omega (arith, n, r, a, b, g, e))))
