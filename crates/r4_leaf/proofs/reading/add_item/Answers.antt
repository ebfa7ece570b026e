use Rattle.std.proofs.Common.{ℕ, List, [], ◌∷◌, ◌++◌, sym, subst}
use Rattle.r4_base.specs.Cell.{item_end, item_units}
use Rattle.r4_base.specs.Key.{rank}
use Rattle.r4_leaf.specs.Pieces.{Adds}
use Rattle.r4_leaf.specs.declared.piece.Piece.{Piece}
use Rattle.r4_leaf.specs.declared.piece.Piece.TheVariants.{Bytes}
use Rattle.r4_leaf.proofs.ItemPieces.{adds_stat, adds_tail, other_plugin}
use Rattle.r4_leaf.proofs.reading.add_item.Goals as goal

pub returns-then-plugin-eq-STAT : goal.returns-then-plugin-eq-STAT
returns-then-plugin-eq-STAT c =
    subst (λ (ps : List Piece). Adds c.args.pieces.now.items (rank c.args.key) (item_end (record { key = c.args.key; plugin = c.args.plugin; body = c.args.body.now })) (item_units (record { key = c.args.key; plugin = c.args.plugin; body = c.args.body.now })) ps) (sym (c.in_ok-push.ensures.items))
    (adds_stat c.args.key c.args.plugin c.args.body c.args.pieces.now.items c.if-plugin-eq-STAT.true c.requires)

pub returns : goal.returns
returns c =
    subst (λ (ps : List Piece). Adds c.args.pieces.now.items (rank c.args.key) (item_end (record { key = c.args.key; plugin = c.args.plugin; body = c.args.body.now })) (item_units (record { key = c.args.key; plugin = c.args.plugin; body = c.args.body.now })) ps) (sym (c.in_ok-push-2.ensures.items))
    (subst (λ (bs : List ℕ). Adds c.args.pieces.now.items (rank c.args.key) (item_end (record { key = c.args.key; plugin = c.args.plugin; body = c.args.body.now })) (item_units (record { key = c.args.key; plugin = c.args.plugin; body = c.args.body.now })) (c.args.pieces.now.items ++ Bytes c.args.key bs ∷ [])) (sym c.lent.ensures)
    (adds_tail c.args.key c.args.plugin c.args.body.now c.args.pieces.now.items (other_plugin c.args.plugin c.requires.plugin c.if-plugin-eq-STAT.false c.if-plugin-eq-ENTRIES.false) c.requires))
