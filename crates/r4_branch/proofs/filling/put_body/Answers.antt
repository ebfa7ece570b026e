use Rattle.std.proofs.Common.{arith}
use Rattle.r4_node40.specs.Loan.{bytes_of}
use Rattle.r4_branch.proofs.Putting.{full_for, piece_puts, place_is, same_id}
use Rattle.r4_branch.proofs.filling.put_body.Goals as goal

pub returns-then-from-body-clause-full : goal.returns-then-from-body-clause-full
returns-then-from-body-clause-full c = λ no.
    let r = c.room.ensures in let a = c.from.ensures in let h = c.header.ensures in let b = c.from-2.ensures in let g = c.if-from-body.true in
    full_for (bytes_of c.args.node.now) (bytes_of c.args.node.now) c.args.piece.now c.args.plugin c.place_for-place.result.item c.place_for-place.result.used c.args.body.now c.place_for-place.ensures c.requires.spells (omega (arith, r, a, h, b, g))

pub put_bytes_at-requires-clause-place : goal.put_bytes_at-requires-clause-place
put_bytes_at-requires-clause-place c =
    let f = c.requires.filled in
    let r = c.room.ensures in let a = c.from.ensures in let h = c.header.ensures in let b = c.from-2.ensures in let g = c.if-from-body.false in
    place_is f.0 f.1 f.2 (bytes_of c.args.node.now) c.args.piece.now c.args.plugin c.place_for-place.result.item c.place_for-place.result.used c.args.body.now f.3 f.4 c.place_for-place.ensures c.requires.spells c.requires.sound (omega (arith, r, a, h, b, g))

pub returns-clause-id : goal.returns-clause-id
returns-clause-id c =
    let f = c.requires.filled in
    let r = c.room.ensures in let a = c.from.ensures in let h = c.header.ensures in let b = c.from-2.ensures in let g = c.if-from-body.false in
    same_id (bytes_of c.args.node.now) (bytes_of c.put_bytes_at.new.node) c.args.piece.now c.args.plugin c.place_for-place.result.item c.place_for-place.result.used c.args.body.now c.place_for-place.ensures c.requires.spells c.requires.sound
    (omega (arith, r, a, h, b, g)) c.put_bytes_at.ensures.holds f.0 f.1 f.2 f.3 f.4

pub returns-clause-puts : goal.returns-clause-puts
returns-clause-puts c = λ yes.
    let r = c.room.ensures in let a = c.from.ensures in let h = c.header.ensures in let b = c.from-2.ensures in let g = c.if-from-body.false in
    piece_puts (bytes_of c.args.node.now) (bytes_of c.put_bytes_at.new.node) c.args.piece.now c.args.plugin c.place_for-place.result.item c.place_for-place.result.used c.args.body.now c.place_for-place.ensures c.requires.spells c.requires.sound
    (omega (arith, r, a, h, b, g)) c.put_bytes_at.ensures.holds
