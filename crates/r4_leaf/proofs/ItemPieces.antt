-- Stat data and tails as pieces.
use Rattle.std.proofs.Common.{◌≡◌, ◌⊎◌, ℕ, List, arith, sym, ap, ◌∙◌, inl, inr, ◌+◌, ◌++◌, ◌∷◌, [], length}
use Rattle.std.specs.Borrow.{Bor}
use Rattle.r4_base.specs.Cell.{item_end, item_units}
use Rattle.r4_base.specs.Key.{rank}
use Rattle.r4_base.specs.declared.key.Key.{Key}
use Rattle.r4_leaf.specs.Items.{IsSoundItem}
use Rattle.r4_leaf.specs.Pieces.{Adds, piece_units, units_of}
use Rattle.r4_leaf.specs.declared.piece.Piece.{Piece}
use Rattle.r4_leaf.specs.declared.piece.Piece.TheVariants.{Stat, Bytes}
use Rattle.r4_leaf.proofs.Following.{adds_one, follow_wider}
use Rattle.r4_leaf.proofs.SoundItems.{stat_item, tail_item}

pub adds_stat : (key : Key) (plugin : ℕ) (body : Bor (List ℕ)) (old : List Piece) → plugin ≡ 0 → IsSoundItem (record { key = key; plugin = plugin; body = body.now })
    → Adds old (rank key) (item_end (record { key = key; plugin = plugin; body = body.now })) (item_units (record { key = key; plugin = plugin; body = body.now })) (old ++ Stat key body ∷ [])
unfolding piece_units
adds_stat key plugin body old is sound =
    let it = stat_item (record { key = key; plugin = plugin; body = body.now }) is sound in
    let one = adds_one old (Stat key body) it.body in
    let end = it.end in
    record { units = one.units ∙ ap (λ us. units_of old ++ us) (sym it.units); follow = λ lo h. follow_wider lo (rank key + 1) _ _ (omega (arith, end)) (one.follow lo h) }

pub adds_tail : (key : Key) (plugin : ℕ) (body : List ℕ) (old : List Piece) → plugin ≡ 6 → IsSoundItem (record { key = key; plugin = plugin; body = body })
    → Adds old (rank key) (item_end (record { key = key; plugin = plugin; body = body })) (item_units (record { key = key; plugin = plugin; body = body })) (old ++ Bytes key body ∷ [])
unfolding piece_units
adds_tail key plugin body old is sound =
    let it = tail_item (record { key = key; plugin = plugin; body = body }) is sound in
    let one = adds_one old (Bytes key body) (it.some, it.short) in
    let end = it.end in
    record { units = one.units ∙ ap (λ us. units_of old ++ us) (sym it.units); follow = λ lo h. follow_wider lo (rank key + length body) _ _ (omega (arith, end)) (one.follow lo h) }

-- a plugin that is neither stat data's nor entries' is a tail's
pub other_plugin : (plugin : ℕ) → (plugin ≡ 0) ⊎ ((plugin ≡ 2) ⊎ (plugin ≡ 6)) → (plugin ≡ 0 → ⊥) → (plugin ≡ 2 → ⊥) → plugin ≡ 6
other_plugin plugin (inl is) a b = absurd (a is)
other_plugin plugin (inr (inl is)) a b = absurd (b is)
other_plugin plugin (inr (inr is)) a b = is
