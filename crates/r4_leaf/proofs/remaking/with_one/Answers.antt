use Rattle.std.proofs.Common.{◌≡◌, ℕ, ◌≤◌, ◌++◌, List, [], sym, ap, subst, ◌∙◌, arith}
use Rattle.r4_base.specs.Cell.{item_end}
use Rattle.r4_base.specs.Key.{rank}
use Rattle.r4_leaf.specs.Leaves.{AreApart}
use Rattle.r4_leaf.specs.Pieces.{Adds, Follow, units_of}
use Rattle.r4_leaf.specs.Remade.{item_of}
use Rattle.r4_leaf.specs.Units.{LeafUnit, put_units}
use Rattle.r4_leaf.specs.declared.piece.Piece.{Piece}
use Rattle.r4_leaf.proofs.Following.{follow_wider}
use Rattle.r4_leaf.proofs.remaking.with_one.Goals as goal

units_given : (old new : List Piece) (from to : ℕ) (us : List LeafUnit) → old ≡ [] → Adds old from to us new → units_of new ≡ us
units_given old new from to us none a = a.units ∙ ap (λ ps. units_of ps ++ us) none

follow_given : (old new : List Piece) (lo from to hi : ℕ) (us : List LeafUnit) → old ≡ [] → Adds old from to us new → lo ≤ from → to ≤ hi → Follow lo hi new
follow_given old new lo from to hi us none a le end = follow_wider lo to hi new end (a.follow lo (subst (λ ps. Follow lo from ps) (sym none) le))

pub put_pieces-requires-clause-apart : goal.put_pieces-requires-clause-apart
put_pieces-requires-clause-apart c =
    let us = units_given c.new-given.result.items c.add_given.new.pieces.items _ _ _ c.new-given.ensures.items c.in_ok-add_given.ensures in
    subst (λ (vs : List LeafUnit). AreApart (units_of c.args.pieces.items) vs) (sym us) c.requires.apart

pub put_pieces-requires-clause-given : goal.put_pieces-requires-clause-given
put_pieces-requires-clause-given c = (
  rank (item_of c.args.item.now).key,
  item_end (item_of c.args.item.now),
  follow_given c.new-given.result.items c.add_given.new.pieces.items (rank (item_of c.args.item.now).key) (rank (item_of c.args.item.now).key) (item_end (item_of c.args.item.now)) (item_end (item_of c.args.item.now)) _ c.new-given.ensures.items c.in_ok-add_given.ensures (omega arith) (omega arith),
)

pub returns-clause-units : goal.returns-clause-units
returns-clause-units c =
    let us = units_given c.new-given.result.items c.add_given.new.pieces.items _ _ _ c.new-given.ensures.items c.in_ok-add_given.ensures in
    ap units_of c.reverse.ensures.items ∙ (c.in_ok-all.ensures.units ∙ ap (λ (gs : List LeafUnit). put_units gs (units_of c.args.pieces.items)) us)

pub returns-clause-follow : goal.returns-clause-follow
returns-clause-follow c = λ lo hi h low high.
    subst (Follow lo hi) (sym c.reverse.ensures.items) (c.in_ok-all.ensures.follow lo hi h
    (follow_given c.new-given.result.items c.add_given.new.pieces.items lo (rank (item_of c.args.item.now).key) (item_end (item_of c.args.item.now)) hi _ c.new-given.ensures.items c.in_ok-add_given.ensures low high))
