use Rattle.std.proofs.Common.{refl, ap, ◌∙◌}
use Rattle.std.specs.Prelude.{None, Some}
use Rattle.r4_node40.specs.Loan.{bytes_of, with_bytes}
use Rattle.r4_node40.specs.declared.node_mut.NodeMut.{NodeMut}
use Rattle.r4_leaf.proofs.Packed.{behind, fill_begins, fill_more, fill_stops, takes_kept}
use Rattle.r4_leaf.proofs.packing.fill.Goals as goal

pub loop-piece-init : goal.loop-piece-init
loop-piece-init c = record { block = refl; fills = λ lo hi h. fill_begins lo hi c.args.pieces.now.items (bytes_of c.args.node.now) (c.requires.empty lo) h; mkfs_id = refl }

pub put-requires-clause-filled : goal.put-requires-clause-filled
put-requires-clause-filled c =
    let w = c.requires.follow in
    let f = c.loop-piece.invariant.fills w.0 w.1 w.2 in
    let b = behind w.0 w.1 c.args.pieces.now.items c.loop-piece.pieces.items c.pop.new.self.items c.in-Some.piece (bytes_of c.loop-piece.node) (bytes_of c.loop-piece.node) c.in-Some.ensures.items f in
    (w.0, f.to, f.us, f.filled, b.0)

pub put-requires-clause-sound : goal.put-requires-clause-sound
put-requires-clause-sound c =
    let w = c.requires.follow in
    let f = c.loop-piece.invariant.fills w.0 w.1 w.2 in
    (behind w.0 w.1 c.args.pieces.now.items c.loop-piece.pieces.items c.pop.new.self.items c.in-Some.piece (bytes_of c.loop-piece.node) (bytes_of c.loop-piece.node) c.in-Some.ensures.items f).1

pub loop-piece-preserved : goal.loop-piece-preserved
loop-piece-preserved c = record {
  block = c.put.ensures.block ∙ ap (λ (n : NodeMut). with_bytes n (bytes_of c.put.new.node)) c.loop-piece.invariant.block;
  fills = λ lo hi h. fill_more lo hi c.args.pieces.now.items c.loop-piece.pieces.items c.pop.new.self.items c.in-Some.piece (bytes_of c.loop-piece.node) (bytes_of c.put.new.node) c.in-Some.ensures.items (c.loop-piece.invariant.fills lo hi h) c.in_default-put.ensures.takes;
  mkfs_id =
      let w = c.requires.follow in
      takes_kept w.0 w.1 c.args.pieces.now.items c.loop-piece.pieces.items c.pop.new.self.items c.in-Some.piece (bytes_of c.loop-piece.node) (bytes_of c.put.new.node) c.in-Some.ensures.items (c.loop-piece.invariant.fills w.0 w.1 w.2) None c.in_default-put.ensures.takes
      ∙ c.loop-piece.invariant.mkfs_id;
}

pub returns-in-Some-put-clause-fills : goal.returns-in-Some-put-clause-fills
returns-in-Some-put-clause-fills c = λ lo hi h.
    fill_stops lo hi c.args.pieces.now.items c.loop-piece.pieces.items c.pop.new.self.items c.in-Some.piece (bytes_of c.loop-piece.node) (bytes_of c.put.new.node) c.in-Some.ensures.items (c.loop-piece.invariant.fills lo hi h) c.in-Some-put.left c.push.new.self.items c.in_ok-push.ensures.items c.in-Some-put.ensures.takes

pub returns-in-Some-put-clause-mkfs_id : goal.returns-in-Some-put-clause-mkfs_id
returns-in-Some-put-clause-mkfs_id c =
    let w = c.requires.follow in
    takes_kept w.0 w.1 c.args.pieces.now.items c.loop-piece.pieces.items c.pop.new.self.items c.in-Some.piece (bytes_of c.loop-piece.node) (bytes_of c.put.new.node) c.in-Some.ensures.items (c.loop-piece.invariant.fills w.0 w.1 w.2) (Some c.in-Some-put.left) c.in-Some-put.ensures.takes
    ∙ c.loop-piece.invariant.mkfs_id
