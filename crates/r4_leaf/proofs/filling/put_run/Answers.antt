use Rattle.std.proofs.Common.{◌≡◌, ℕ, ◌+◌, List, length, ap, subst, ◌∙◌, arith, rules}
use Rattle.std.specs.Prelude.{slice_index}
use Rattle.std.proofs.lemmas.List.{length-take}
use Rattle.r4_base.specs.Cell.{bytes_from}
use Rattle.r4_base.specs.Key.{rank}
use Rattle.r4_base.proofs.Keys.{is_key}
use Rattle.r4_node40.specs.Loan.{bytes_of}
use Rattle.r4_leaf.specs.Filling.{Puts}
use Rattle.r4_leaf.proofs.TailFilled.{full_at_once, full_without_room, need_is, puts_none, room_left, run_puts, takes_bytes}
use Rattle.r4_leaf.proofs.filling.put_run.Goals as goal

pub returns-then-room-eq0-clause-puts : goal.returns-then-room-eq0-clause-puts
returns-then-room-eq0-clause-puts c = puts_none (rank c.args.key) (bytes_of c.args.node.now)

pub returns-then-room-eq0-clause-full : goal.returns-then-room-eq0-clause-full
returns-then-room-eq0-clause-full c = λ lt.
    let r = c.room.ensures in let s = c.saturating_sub.ensures in let f = c.from-room.ensures in let z = c.if-room-eq0.true in let h = c.header.ensures in
    full_at_once (bytes_of c.args.node.now) c.args.key c.place_for-place.result.item c.place_for-place.result.used (slice_index c.args.bytes.now 0) c.place_for-place.ensures (omega (arith, r, s, f, z, h))

pub put_bytes_at-requires-clause-place : goal.put_bytes_at-requires-clause-place
put_bytes_at-requires-clause-place c =
    let f = c.requires.filled in
    let t = takes_bytes f.0 f.1 f.2 (bytes_of c.args.node.now) c.args.key c.place_for-place.result.item c.place_for-place.result.used f.3 f.4 c.place_for-place.ensures in
    let n = need_is t.0 c.place_for-place.result.used (length c.head.result) t.1.long in
    let long = ap length c.head.ensures ∙ length-take c.min-count.result c.args.bytes.now in
    let count = c.len.ensures in
    let r = c.room.ensures in let s = c.saturating_sub.ensures in let g = c.from-room.ensures in let z = c.if-room-eq0.false in let h = c.header.ensures in
    let m = c.min-count.ensures in
    (t.0, t.1.place, t.1.long, t.1.plugin, t.1.new, omega (arith, n, long, count, r, s, g, z, h, m))

pub returns-clause-puts : goal.returns-clause-puts
returns-clause-puts c =
    let long = ap length c.head.ensures ∙ length-take c.min-count.result c.args.bytes.now in
    let count = c.len.ensures in
    let r = c.room.ensures in let s = c.saturating_sub.ensures in let g = c.from-room.ensures in let z = c.if-room-eq0.false in let h = c.header.ensures in
    let m = c.min-count.ensures in let some = c.requires.some in let short = c.requires.short in
    let taken : length c.head.result ≡ c.min-count.result = omega (arith, long, m, count) in
    subst (λ (bs : List ℕ). Puts (rank c.args.key) (rank c.args.key + c.min-count.result) (bytes_from (rank c.args.key) bs) (bytes_of c.args.node.now) (bytes_of c.put_bytes_at.new.node)) c.head.ensures
    (subst (λ n. Puts (rank c.args.key) (rank c.args.key + n) (bytes_from (rank c.args.key) c.head.result) (bytes_of c.args.node.now) (bytes_of c.put_bytes_at.new.node)) taken
    (run_puts (bytes_of c.args.node.now) (bytes_of c.put_bytes_at.new.node) c.args.key c.place_for-place.result.item c.place_for-place.result.used c.place_for-place.ensures (is_key c.args.key (search rules) (search rules) (search rules) (search rules) (search rules)) c.head.result
    (omega (arith, taken, m, z, some, count)) (omega (arith, taken, m, short, count)) (omega (arith, taken, m, r, s, g, z, h)) c.put_bytes_at.ensures.holds))

pub returns-clause-full : goal.returns-clause-full
returns-clause-full c = λ lt.
    let long = ap length c.head.ensures ∙ length-take c.min-count.result c.args.bytes.now in
    let count = c.len.ensures in
    let r = c.room.ensures in let s = c.saturating_sub.ensures in let g = c.from-room.ensures in let z = c.if-room-eq0.false in let h = c.header.ensures in
    let m = c.min-count.ensures in let some = c.requires.some in let short = c.requires.short in
    let taken : length c.head.result ≡ c.min-count.result = omega (arith, long, m, count) in
    let f = c.requires.filled in
    let left = room_left (bytes_of c.args.node.now) (bytes_of c.put_bytes_at.new.node) c.args.key c.place_for-place.result.item c.place_for-place.result.used c.place_for-place.ensures (is_key c.args.key (search rules) (search rules) (search rules) (search rules) (search rules)) c.head.result
    (omega (arith, taken, m, z, some, count)) (omega (arith, taken, m, short, count)) (omega (arith, taken, m, r, s, g, z, h)) c.put_bytes_at.ensures.holds f.0 f.1 f.2 f.3 f.4 in
    full_without_room (rank c.args.key + c.min-count.result) (slice_index c.args.bytes.now c.min-count.result) (bytes_of c.put_bytes_at.new.node) (omega (arith, left, taken, m, r, s, g, z, h, lt, count))
