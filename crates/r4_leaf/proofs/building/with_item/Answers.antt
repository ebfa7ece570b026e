use Rattle.std.proofs.Common.{◌≡◌, ℕ, ◌+◌, ◌≤◌, ◌++◌, List, [], sym, ap, subst, ◌∙◌, arith, rules}
use Rattle.std.proofs.lemmas.Result.{IfOk-weaker}
use Rattle.r4_base.specs.Cell.{item_end, item_units}
use Rattle.r4_base.specs.Key.{rank}
use Rattle.r4_base.specs.Node.{Item}
use Rattle.r4_base.proofs.Keys.{is_key}
use Rattle.r4_node40.specs.View.{view_items}
use Rattle.r4_leaf.specs.Leaves.{AreApart, Packs}
use Rattle.r4_leaf.specs.Pieces.{Adds, Follow, units_of}
use Rattle.r4_leaf.specs.Units.{LeafUnit, put_units}
use Rattle.r4_leaf.specs.declared.piece.Piece.{Piece}
use Rattle.r4_leaf.proofs.Standing.{given_sound}
use Rattle.r4_leaf.proofs.Filled.{lie_wider}
use Rattle.r4_leaf.proofs.Following.{follow_wider}
use Rattle.r4_leaf.proofs.building.with_item.Goals as goal

units_given : (old new : List Piece) (from to : ℕ) (us : List LeafUnit) → old ≡ [] → Adds old from to us new → units_of new ≡ us
units_given old new from to us none a = a.units ∙ ap (λ ps. units_of ps ++ us) none

follow_given : (old new : List Piece) (lo from to hi : ℕ) (us : List LeafUnit) → old ≡ [] → Adds old from to us new → lo ≤ from → to ≤ hi → Follow lo hi new
follow_given old new lo from to hi us none a le end = follow_wider lo to hi new end (a.follow lo (subst (λ ps. Follow lo from ps) (sym none) le))

pub put_pieces-requires-clause-apart : goal.put_pieces-requires-clause-apart
put_pieces-requires-clause-apart c =
    let us = units_given c.new-given.result.items c.add_item.new.pieces.items _ _ _ c.new-given.ensures.items c.in_ok-add_item.ensures in
    subst (λ (vs : List LeafUnit). AreApart (units_of c.in_ok-pieces.pieces.items) vs) (sym us) (subst (λ (vs : List LeafUnit). AreApart vs (item_units (record { key = c.args.key; plugin = c.args.plugin; body = c.args.body.now }))) (sym c.in_ok-pieces.ensures.units) c.requires.apart)

pub put_pieces-requires-clause-given : goal.put_pieces-requires-clause-given
put_pieces-requires-clause-given c = (
  rank c.args.lo,
  item_end (record { key = c.args.key; plugin = c.args.plugin; body = c.args.body.now }),
  follow_given c.new-given.result.items c.add_item.new.pieces.items (rank c.args.lo) (rank c.args.key) (item_end (record { key = c.args.key; plugin = c.args.plugin; body = c.args.body.now })) (item_end (record { key = c.args.key; plugin = c.args.plugin; body = c.args.body.now })) _ c.new-given.ensures.items c.in_ok-add_item.ensures c.requires.from (omega arith),
)

pub pack-requires : goal.pack-requires
pack-requires c =
    let end = item_end (record { key = c.args.key; plugin = c.args.plugin; body = c.args.body.now }) in
    let hi = c.requires.leaf.0 + end in (
      hi,
      c.in_ok-all.ensures.follow (rank c.args.lo) hi
          (c.in_ok-pieces.ensures.follow (rank c.args.lo) hi (lie_wider (rank c.args.lo) c.requires.leaf.0 hi (view_items c.args.leaf.now) (omega arith) c.requires.leaf.1))
          (follow_given c.new-given.result.items c.add_item.new.pieces.items (rank c.args.lo) (rank c.args.key) end hi _ c.new-given.ensures.items c.in_ok-add_item.ensures c.requires.from (omega arith)),
    )

pub returns-clause-packs : goal.returns-clause-packs
returns-clause-packs c =
    let end = item_end (record { key = c.args.key; plugin = c.args.plugin; body = c.args.body.now }) in
    let us = units_given c.new-given.result.items c.add_item.new.pieces.items _ _ _ c.new-given.ensures.items c.in_ok-add_item.ensures in
    IfOk-weaker c.pack.result _ _ (λ v p hi h le.
    subst (λ (ws : List LeafUnit). Packs (rank c.args.lo) hi ws v.items) (c.in_ok-all.ensures.units ∙ (λ i. put_units (us i) (c.in_ok-pieces.ensures.units i)))
    (p hi (c.in_ok-all.ensures.follow (rank c.args.lo) hi (c.in_ok-pieces.ensures.follow (rank c.args.lo) hi h)
    (follow_given c.new-given.result.items c.add_item.new.pieces.items (rank c.args.lo) (rank c.args.key) end hi _ c.new-given.ensures.items c.in_ok-add_item.ensures c.requires.from le)))) c.pack.ensures.packs

pub add_item-requires : goal.add_item-requires
add_item-requires c = given_sound (record { key = c.args.key; plugin = c.args.plugin; body = c.args.body.now }) c.requires.given (is_key c.args.key (search rules) (search rules) (search rules) (search rules) (search rules))

pub returns-clause-sound : goal.returns-clause-sound
returns-clause-sound c =
    let it : Item = record { key = c.args.key; plugin = c.args.plugin; body = c.args.body.now } in
    IfOk-weaker c.pack.result _ _ (λ v p. given_sound it c.requires.given (is_key c.args.key (search rules) (search rules) (search rules) (search rules) (search rules))) c.pack.ensures.packs
