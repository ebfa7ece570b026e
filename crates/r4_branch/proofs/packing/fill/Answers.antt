use Rattle.std.proofs.Common.{take, refl, ap, ◌∙◌, arith}
use Rattle.r4_node40.specs.Loan.{bytes_of, with_bytes}
use Rattle.r4_node40.specs.declared.node_mut.NodeMut.{NodeMut}
use Rattle.r4_branch.proofs.Packed.{behind, fill_begins, fill_ends, fill_more, fill_stops, piece_at, shown_at}
use Rattle.r4_branch.proofs.packing.fill.Goals as goal

pub loop-i-init : goal.loop-i-init
loop-i-init c = record { block = refl; id = refl; fills = λ lo hi h. fill_begins lo hi c.args.pieces.now (bytes_of c.args.node.now) (c.requires.empty lo) h }

pub put-requires-clause-filled : goal.put-requires-clause-filled
put-requires-clause-filled c =
    let w = c.requires.follow in
    let f = c.loop-i.invariant.fills w.0 w.1 w.2 in
    let b = behind w.0 w.1 c.args.pieces.now c.loop-i.i (piece_at c.args.pieces.now c.loop-i.i) (bytes_of c.loop-i.node) (shown_at c.loop-i.i c.args.pieces.now c.loop-i-test.true) f in
    (w.0, f.to, take c.loop-i.i c.args.pieces.now, f.filled, b.0)

pub put-requires-clause-sound : goal.put-requires-clause-sound
put-requires-clause-sound c =
    let w = c.requires.follow in
    let f = c.loop-i.invariant.fills w.0 w.1 w.2 in
    (behind w.0 w.1 c.args.pieces.now c.loop-i.i (piece_at c.args.pieces.now c.loop-i.i) (bytes_of c.loop-i.node) (shown_at c.loop-i.i c.args.pieces.now c.loop-i-test.true) f).1

pub loop-i-preserved : goal.loop-i-preserved
loop-i-preserved c = record {
  block = c.put.ensures.block ∙ ap (λ (n : NodeMut). with_bytes n (bytes_of c.put.new.node)) c.loop-i.invariant.block;
  id = c.put.ensures.id ∙ c.loop-i.invariant.id;
  fills = λ lo hi h. fill_more lo hi c.args.pieces.now c.loop-i.i (piece_at c.args.pieces.now c.loop-i.i) (bytes_of c.loop-i.node) (shown_at c.loop-i.i c.args.pieces.now c.loop-i-test.true) (c.loop-i.invariant.fills lo hi h) (bytes_of c.put.new.node)
      (c.put.ensures.puts c.if-not-put.false);
}

pub returns-then-not-put-clause-fills : goal.returns-then-not-put-clause-fills
returns-then-not-put-clause-fills c = λ lo hi h.
    fill_stops lo hi c.args.pieces.now c.loop-i.i (piece_at c.args.pieces.now c.loop-i.i) (bytes_of c.loop-i.node) (shown_at c.loop-i.i c.args.pieces.now c.loop-i-test.true) (c.loop-i.invariant.fills lo hi h) (bytes_of c.put.new.node)
    (c.put.ensures.same c.if-not-put.true) (c.put.ensures.full c.if-not-put.true)

pub returns-clause-fills : goal.returns-clause-fills
returns-clause-fills c = λ lo hi h.
    let within = c.loop-i.auto.i-end in let past = c.loop-i-test.false in
    fill_ends lo hi c.args.pieces.now c.loop-i.i (bytes_of c.loop-i.node) (omega (arith, within, past)) (c.loop-i.invariant.fills lo hi h)
