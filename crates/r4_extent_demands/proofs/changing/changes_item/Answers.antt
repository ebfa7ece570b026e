use Rattle.std.proofs.Common.{ap, sym, inl, inr, ◌∙◌}
use Rattle.std.specs.List.{list_any}
use Rattle.std.proofs.lemmas.Bool.{ne_eqb}
use Rattle.r4_graft.proofs.r4_branch.ItemPieces.{extent_pieces}
use Rattle.r4_content.specs.Held.{edits_of}
use Rattle.r4_graft.specs.r4_node40.View.{item_shown}
use Rattle.r4_extent_demands.specs.Changing.{is_changed}
use Rattle.r4_extent_demands.proofs.Changes.{pointer_still}
use Rattle.r4_extent_demands.proofs.changing.changes_item.Goals as goal

pub returns-then-item-eq-EXTENT : goal.returns-then-item-eq-EXTENT
returns-then-item-eq-EXTENT c =
    c.changes_extent.ensures ∙ sym (ap (list_any (is_changed c.args.body.now (edits_of c.args.edits.now)))
    (extent_pieces (item_shown c.args.item.now) c.if-item-eq-EXTENT.true))

pub returns-else-item-eq-EXTENT : goal.returns-else-item-eq-EXTENT
returns-else-item-eq-EXTENT c = elim c.requires.sound.plugin [
  | inl pointer ↦ ne_eqb c.args.item.now.plugin 5 c.if-item-eq-EXTENT.false
      ∙ sym (pointer_still c.args.body.now (edits_of c.args.edits.now) (item_shown c.args.item.now) pointer)
  | inr extent ↦ absurd (c.if-item-eq-EXTENT.false extent)
]
