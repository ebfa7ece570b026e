-- What an extent that comes into a twig does to units.
use Rattle.std.specs.Prelude.{◌≡◌, ◌↔◌, ◌==◌, ℕ, ◌<◌, ◌≤◌, ◌⊎◌, Bool, true, false, List, ◌++◌, Contains, None, Option}
use Rattle.std.specs.Prelude.{Some}
use mathlib.Core.Path.{refl, sym, ap, subst, ◌∙◌}
use mathlib.Core.Logic.{inl, inr}
use native.Mathlib.Omega.{arith}
use Rattle.std.proofs.lemmas.Bool.{ne_eqb}
use Rattle.std.proofs.lemmas.Bool.Decides.{nat_tests}
use Rattle.std.proofs.lemmas.List.Elements.{Contains-append_cases, Contains-append_left, Contains-append_right}
use Rattle.std.proofs.lemmas.Option.{none-some, same_Some}
use Rattle.r4_base.specs.Cell.{item_end, item_units}
use Rattle.r4_base.specs.Extents.{units_of as units_of_body}
use Rattle.r4_base.specs.Key.{rank}
use Rattle.r4_base.specs.Node.{Item}
use Rattle.r4_base.specs.Tree.{Root, Store}
use Rattle.r4_base.specs.Value.{Value}
use Rattle.r4_work.specs.r4_branch.Pieces.{units_of}
use Rattle.r4_work.specs.r4_branch.declared.piece.TwigPiece.{TwigPiece}
use Rattle.r4_work.proofs.r4_branch.SoundItems.{extent_item}
use Rattle.r4_work.proofs.r4_cell.ItemRows.{extent_row}
use Rattle.r4_work.specs.r4_cell.Seen.{CellSeen, node_of}
use Rattle.r4_work.specs.r4_cell.declared.change.Change.{Change}
use Rattle.r4_work.specs.r4_cell.declared.change.Fresh.{Fresh}
use Rattle.r4_work.specs.r4_leaf.Units.{LeafUnit, is_between, put_units}
use Rattle.r4_work.specs.r4_patch.Effect.{HasEffect, Placed, in_extent}
use Rattle.r4_work.proofs.r4_patch.Members.{distinct, there}
use Rattle.r4_work.specs.r4_path.Grafts.{AreBlocksOf}
use Rattle.r4_work.specs.r4_path.Levels.{units_of_cells}
use Rattle.r4_work.specs.r4_path.Steps.{name_of}
use Rattle.r4_work.specs.r4_path.Twigs.{Below}
use Rattle.r4_work.proofs.r4_path.Grown.{map_names}
use Rattle.r4_work.proofs.r4_path.Rising.{hi_is, lo_is}
use Rattle.r4_work.specs.r4_edit.Extents.{IsGivenExtent, item_blocks}
use Rattle.r4_work.proofs.r4_edit.Spread.{extent_level}
use Rattle.r4_work.specs.Remaking.{value_in}
use Rattle.r4_work.proofs.LeafEffect.{from_units, to_units}
use Rattle.r4_work.proofs.UnitMembers.{between, from_put, some_value, to_put, value_there}
use Rattle.r4_extent_edit.specs.Effects.{extent_values, item_keys, patch_with}
use Rattle.r4_extent_edit.proofs.GraftEffect.{Comes, IsHeldBelow, IsPlacedIn, IsRepacked, Was, graft_effect, new_once}

pub is_on : (from to k : ℕ) → from ≤ k → k < to → is_between from to k ≡ true
is_on from to k a b = grind (arith, nat_tests, a, b)

pub is_off : (from to k : ℕ) → (from ≤ k → k < to → ⊥) → is_between from to k ≡ false
is_off from to k never = by_test (is_between from to k) refl
  where
    by_test : (b : Bool) → is_between from to k ≡ b → is_between from to k ≡ false
    by_test true e = let (x, y) = between from to k e in absurd (never x y)
    by_test false e = e

pub both_ways : (b : Bool) → b ≡ true → b ≡ false → ⊥
both_ways b on off = absurd (grind (arith, on, off))

placed_value : (o : Option Value) (v : Value) (b : Bool) → in_extent o ≡ Some (v, b) → (o ≡ Some v) × (b ≡ false)
placed_value None v b e = absurd (none-some (v, b) e)
placed_value (Some x) v b e = let same = same_Some (x, false) (v, b) e in
    (ap (λ (u : Placed Value). Some u.0) same, ap (λ (u : Placed Value). u.1) (sym same))

module _ {s : Store Value} {r : Root} {twig : CellSeen} {ups : List CellSeen} {qs : List TwigPiece} {b : Below}
    {blocks : List CellSeen} {before after : Fresh} {d c : Change}
    (g : IsRepacked s r twig ups qs b blocks before after d c)
    (it : Item) (given : IsGivenExtent it) (are : AreBlocksOf (item_blocks it) blocks) (rest : List LeafUnit)
    (units : units_of qs ≡ put_units (item_units it) rest)
    (rest_is : (k : ℕ) (v : Value) → Contains rest (k, v) ↔ (Contains (node_of twig).units (k, v) × (item_keys it k
    ≡ false)))
    (leaves : (k : ℕ) (u : Placed Value) → IsPlacedIn b.new k u ↔ (IsPlacedIn b.old k u × (item_keys it k ≡ false)))
    (held : (k : ℕ) → rank it.key ≤ k → k < item_end it → IsHeldBelow g k) where
  abbrev gs : List LeafUnit
  gs = item_units it

  abbrev data_units : List LeafUnit
  data_units = units_of_cells blocks

  item_in : (k : ℕ) (v : Value) → Contains gs (k, v) → (rank it.key ≤ k) × (k < item_end it)
  item_in k v h =
      let e = extent_item it given.plugin given.sound in
      let range = (extent_row (rank it.key) (units_of_body it.body)).unit_in k v (subst (λ xs. Contains xs
      (k, v)) e.units h) in
      let end = e.end in
      (range.0, omega (arith, range, end))

  named : (x : CellSeen) → Contains blocks x → Contains (item_blocks it) (name_of x)
  named x at = subst (λ ns. Contains ns (name_of x)) are.names (map_names blocks (name_of x) (x, at, refl))

  block_level : (x : CellSeen) → Contains blocks x → (x.level == 1) ≡ false
  block_level x at =
      let zero_level : x.level ≡ 0 = extent_level it given.plugin (name_of x) (named x at) in
      ne_eqb x.level 1 (λ e. absurd (omega (arith, zero_level, e)))

  block_in : (x : CellSeen) (k : ℕ) (v : Value) → Contains blocks x → Contains (node_of x).units (k, v)
      → (rank it.key ≤ k) × (k < item_end it)
  block_in x k v among has =
      let e = extent_item it given.plugin given.sound in
      let node = g.made.change.patch.nodes x.id (node_of x) (there (c.new ++ blocks) x (distinct (c.new
      ++ blocks) g.made.change.new_names) (Contains-append_right c.new blocks x among)) in
      let range = node.unit_in k v has in
      let lo = lo_is x in
      let hi = hi_is x in
      let is = subst (λ ns. Contains ns (name_of x)) (e.names 0) (named x among) in
      let from = (extent_row (rank it.key) (units_of_body it.body)).from (name_of x) is in
      let to = (extent_row (rank it.key) (units_of_body it.body)).to (name_of x) is in
      let end = e.end in
      (omega (arith, range, lo, from), omega (arith, range, hi, to, end))

  given_off : (k : ℕ) → (rank it.key ≤ k) × (k < item_end it) → item_keys it k ≡ false → ⊥
  given_off k range off = both_ways (item_keys it k) (is_on (rank it.key) (item_end it) k range.0 range.1) off

  mine_come : (k : ℕ) (v : Value) → Contains (gs ++ data_units) (k, v) → Comes g k (v, false)
  mine_come k v h = elim (Contains-append_cases gs data_units (k, v) h) [
    | inl x ↦ inr (subst (λ xs. Contains xs (k, v)) (sym units) (to_put gs rest (k, v) (inl x)), refl)
    | inr y ↦ let (x, at, has) = from_units blocks (k, v) y in
        inl (x, Contains-append_right b.new blocks x at, has, block_level x at)
  ]

  -- what comes is the extent's, or stands at another key
  come_from : (k : ℕ) (u : Placed Value) → Comes g k u → (Contains (gs ++ data_units) (k, u.0) × (u.1 ≡ false))
      ⊎ (IsPlacedIn b.new k u ⊎ (Contains rest (k, u.0) × (u.1 ≡ false)))
  come_from k u h = elim h [
    | inl low ↦
        let (x, at, has, kind) = low in
        elim (Contains-append_cases b.new blocks x at) [
          | inl new ↦ inr (inl (x, new, has, kind))
          | inr block ↦ inl (
            Contains-append_right gs data_units (k, u.0) (to_units blocks x
                (k, u.0) block has),
            sym kind ∙ block_level x block,
          )
        ]
    | inr mine ↦ elim (from_put gs rest (k, u.0) (subst (λ xs. Contains xs (k, u.0)) units mine.0)) [
      | inl x ↦ inl (Contains-append_left gs data_units (k, u.0) x, mine.1)
      | inr x ↦ inr (inr (x, mine.1))
    ]
  ]

  mine_off : (k : ℕ) (v : Value) → Contains (gs ++ data_units) (k, v) → item_keys it k ≡ false → ⊥
  mine_off k v h off = elim (Contains-append_cases gs data_units (k, v) h) [
    | inl x ↦ given_off k (item_in k v x) off
    | inr y ↦ let (x, at, has) = from_units blocks (k, v) y in given_off k (block_in x k v at has) off
  ]

  come_once : (k : ℕ) (u w : Placed Value) → Comes g k u → Comes g k w → u.0 ≡ w.0
  come_once k u w x y = new_once g k u w (elim x [ inl z ↦ inl z | inr z ↦ inr (inl z) ]) (elim y [
    | inl z ↦
        inl z
    | inr z ↦ inr (inl z)
  ])

  with_kind : (k : ℕ) (u : Placed Value) → u.1 ≡ false → Comes g k (u.0, false) → Comes g k u
  with_kind k u kind h = subst (λ x. Comes g k (u.0, x)) (sym kind) h

  says : (k : ℕ) (u : Placed Value) → item_keys it k ≡ true → Comes g k u ↔ (extent_values it blocks k ≡ Some u)
  says k u on = (
    λ x. elim (come_from k u x) [
      | inl mine ↦
          let (w, e) = some_value (gs ++ data_units) k u.0 mine.0 in
          let same : w ≡ u.0 = come_once k (w, false) u (mine_come k w (value_there (gs ++ data_units) k w e)) x in
          ap in_extent (e ∙ ap Some same) ∙ ap (λ z. Some (u.0, z)) (sym mine.1)
      | inr more ↦ absurd (elim more [
        | inl low ↦ both_ways (item_keys it k) on ((leaves k u).0 low).1
        | inr has ↦ both_ways (item_keys it k) on ((rest_is k u.0).0 has.0).1
      ])
    ],
    λ e.
        let (is_v, kind) = placed_value (value_in (gs ++ data_units) k) u.0 u.1 e in
        with_kind k u kind (mine_come k u.0 (value_there (gs ++ data_units) k u.0 is_v)),
  )

  same : (k : ℕ) (u : Placed Value) → item_keys it k ≡ false → Comes g k u ↔ Was g k u
  same k u off = (
    λ x. elim (come_from k u x) [
      | inl mine ↦ absurd (mine_off k u.0 mine.0 off)
      | inr more ↦ elim more [
        | inl low ↦ inl ((leaves k u).0 low).0
        | inr has ↦ inr (((rest_is k u.0).0 has.0).0, has.1)
      ]
    ],
    λ x. elim x [
      | inl low ↦ let (y, at, has, kind) = (leaves k u).1 (low, off) in
          inl (y, Contains-append_left b.new blocks y at, has, kind)
      | inr has ↦ inr (
        subst (λ xs. Contains xs (k, u.0)) (sym units) (to_put gs rest (k, u.0) (inr
            ((rest_is k u.0).1 (has.0, off)))),
        has.1,
      )
    ],
  )

  pub extent_effect : HasEffect (patch_with c blocks) (item_keys it) (extent_values it blocks)
  extent_effect = graft_effect g (item_keys it) (extent_values it blocks)
      (λ k h. let (from, to) = between (rank it.key) (item_end it) k h in held k from to) says same
