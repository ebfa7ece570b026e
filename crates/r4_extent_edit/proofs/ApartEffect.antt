-- What an item of a leaf that is put among extents does to units.
use Rattle.std.specs.Prelude.{◌≡◌, ◌↔◌, ◌==◌, ℕ, ◌+◌, ◌<◌, ◌≤◌, ◌⊎◌, Bool, true, false, List, [], ◌∷◌, length, Contains}
use Rattle.std.specs.Prelude.{None, Option, Some, reverse}
use Rattle.std.specs.Option.{is_some}
use mathlib.Core.Path.{refl, sym, ap, subst, ◌∙◌}
use mathlib.Core.Logic.{inl, inr}
use native.Mathlib.Omega.{arith}
use Rattle.std.proofs.lemmas.Bool.{eq-eqb}
use Rattle.std.proofs.lemmas.List.{append-nil}
use Rattle.std.proofs.lemmas.List.Elements.{Contains-append_cases}
use Rattle.std.proofs.lemmas.Option.{none-some, same_Some}
use Rattle.r4_base.specs.Cell.{item_end, item_units}
use Rattle.r4_base.specs.Key.{rank}
use Rattle.r4_base.specs.Node.{Item}
use Rattle.r4_base.specs.Tree.{IsNode, Root, Store}
use Rattle.r4_base.specs.Value.{Value}
use Rattle.r4_work.specs.r4_cell.Seen.{CellSeen, node_of}
use Rattle.r4_work.specs.r4_cell.declared.change.Change.{Change}
use Rattle.r4_work.specs.r4_cell.declared.change.Fresh.{Fresh}
use Rattle.r4_work.proofs.r4_leaf.LeafItems.{spread}
use Rattle.r4_work.proofs.r4_leaf.Standing.{given_sound}
use Rattle.r4_work.specs.r4_patch.Effect.{Placed, in_leaf}
use Rattle.r4_work.proofs.r4_patch.Members.{cases, here, none}
use Rattle.r4_work.specs.r4_path.Grafts.{GraftsUp}
use Rattle.r4_work.specs.r4_path.Steps.{fresh_ids}
use Rattle.r4_work.specs.r4_path.TwigPieces.{put_pieces, twig_pieces}
use Rattle.r4_work.specs.r4_edit.Extents.{IsLeafPutIn, IsLeafPutUp, PutsLeafIn, PutsLeafUp, leaf_pointer}
use Rattle.r4_work.specs.Remaking.{value_in}
use Rattle.r4_work.proofs.UnitMembers.{rise_in, some_value, value_there}
use Rattle.r4_extent_edit.specs.Effects.{EditsUnits, IsMadeIn, leaf_values, own_keys, patch_with}
use Rattle.r4_extent_edit.proofs.GraftEffect.{Comes, IsHeldBelow, IsRepacked, Was, graft_effect, graft_names}
use Rattle.r4_extent_edit.proofs.GraftEffect.{graft_root, new_once, twig_stands}
use Rattle.r4_extent_edit.proofs.PutEffect.{clear_key, twig_holds}

placed_value : (o : Option Value) (v : Value) (b : Bool) → in_leaf o ≡ Some (v, b) → (o ≡ Some v) × (b ≡ true)
placed_value None v b e = absurd (none-some (v, b) e)
placed_value (Some x) v b e = let same = same_Some (x, true) (v, b) e in
    (ap (λ (u : Placed Value). Some u.0) same, ap (λ (u : Placed Value). u.1) (sym same))

is_there : (o : Option Value) → is_some o ≡ true → (v : Value) × (o ≡ Some v)
is_there None e = absurd cc
is_there (Some v) e = (v, refl)

not_there : (o : Option Value) (v : Value) → is_some o ≡ false → o ≡ Some v → ⊥
not_there None v e same = none-some v same
not_there (Some x) v e same = absurd cc

module _ {t : Store Value} {r : Root} {it : Item} {twig : CellSeen} {ups : List CellSeen} {before mid after : Fresh}
    {path : List CellSeen} {c : Change}
    (is : IsLeafPutIn t r it twig ups before) (does : PutsLeafIn path it before after c twig)
    (g : IsRepacked t r twig ups (put_pieces it.key (leaf_pointer it.key before.next) (twig_pieces twig))
    (record { old = []; new = does.leaf ∷ [] })
    [] mid after does.grafts.change c) (mid_is : mid.next ≡ before.next + 1) where
  abbrev leaf : CellSeen
  leaf = does.leaf

  item_in : (k : ℕ) (v : Value) → Contains (item_units it) (k, v) → (rank it.key ≤ k) × (k < item_end it)
  item_in k v h = rise_in (rank it.key) (item_end it) (item_units it) k v (spread it
      (given_sound it is.given is.whole_key)).rise h

  own_in : (k : ℕ) → own_keys it k ≡ true → (rank it.key ≤ k) × (k < item_end it)
  own_in k on = let (v, e) = is_there (value_in (item_units it) k) on in item_in k v (value_there (item_units it) k v e)

  node : IsNode (node_of twig)
  node = g.part.nodes twig.id (node_of twig) (twig_stands g)

  held : (k : ℕ) → own_keys it k ≡ true → IsHeldBelow g k
  held k on =
      let (from, to) = own_in k on in
      let low = is.keys.low in
      let high = is.keys.high in (
        twig,
        inr refl,
        twig_holds twig k node g.level (omega (arith, low, from)) (omega (arith, high, to))
            (λ n cn range. clear_key n (rank it.key) (item_end it) k (is.keys.clear.named n cn) from to range),
      )

  leaf_kind : (leaf.level == 1) ≡ true
  leaf_kind = eq-eqb leaf.level 1 does.leaf_is.level_is

  come_from : (k : ℕ) (u : Placed Value) → Comes g k u → (Contains (item_units it) (k, u.0) × (u.1 ≡ true))
      ⊎ (Contains (node_of twig).units (k, u.0) × (u.1 ≡ false))
  come_from k u h = elim h [
    | inr mine ↦ inr (subst (λ us. Contains us (k, u.0)) does.units mine.0, mine.1)
    | inl low ↦
        let (x, at, has, kind) = low in
        elim (cases leaf x [] (subst (λ cells. Contains cells x) (append-nil (leaf ∷ [])) at)) [
          | inr none_is ↦ absurd (none x none_is)
          | inl same ↦ inl (
            subst (λ us. Contains us (k, u.0)) (ap (λ (z : CellSeen). (node_of z).units) same ∙ does.leaf_is.units) has,
            sym kind ∙ (ap (λ (z : CellSeen). z.level == 1) same ∙ leaf_kind),
          )
        ]
  ]

  own_come : (k : ℕ) (v : Value) → Contains (item_units it) (k, v) → Comes g k (v, true)
  own_come k v h = inl (
    leaf,
    subst (λ cells. Contains cells leaf) (sym (append-nil (leaf ∷ [])))
        (here leaf []),
    subst (λ us. Contains us (k, v)) (sym does.leaf_is.units) h,
    leaf_kind,
  )

  twig_come : (k : ℕ) (u : Placed Value) → Contains (node_of twig).units (k, u.0) → u.1 ≡ false → Comes g k u
  twig_come k u h kind = inr (subst (λ us. Contains us (k, u.0)) (sym does.units) h, kind)

  come_once : (k : ℕ) (u w : Placed Value) → Comes g k u → Comes g k w → u.0 ≡ w.0
  come_once k u w x y = new_once g k u w (elim x [ inl z ↦ inl z | inr z ↦ inr (inl z) ]) (elim y [
    | inl z ↦
        inl z
    | inr z ↦ inr (inl z)
  ])

  with_kind : (k : ℕ) (u : Placed Value) → u.1 ≡ true → Comes g k (u.0, true) → Comes g k u
  with_kind k u kind h = subst (λ x. Comes g k (u.0, x)) (sym kind) h

  not_own : (k : ℕ) (v : Value) → Contains (node_of twig).units (k, v) → (rank it.key ≤ k) × (k < item_end it) → ⊥
  not_own k v h range = elim (is.keys.clear.own k v h) [
    | inl x ↦ omega (arith, x, range)
    | inr x ↦
        omega (arith, x, range)
  ]

  says : (k : ℕ) (u : Placed Value) → own_keys it k ≡ true → Comes g k u ↔ (leaf_values it k ≡ Some u)
  says k u on = (
    λ x. elim (come_from k u x) [
      | inl mine ↦
          let (w, e) = some_value (item_units it) k u.0 mine.0 in
          let same : w ≡ u.0 = come_once k (w, true) u (own_come k w (value_there (item_units it) k w e)) x in
          ap in_leaf (e ∙ ap Some same) ∙ ap (λ z. Some (u.0, z)) (sym mine.1)
      | inr twigs ↦ absurd (not_own k u.0 twigs.0 (own_in k on))
    ],
    λ e.
        let (is_v, kind) = placed_value (value_in (item_units it) k) u.0 u.1 e in
        with_kind k u kind (own_come k u.0 (value_there (item_units it) k u.0 is_v)),
  )

  same_there : (k : ℕ) (u : Placed Value) → own_keys it k ≡ false → Comes g k u ↔ Was g k u
  same_there k u off = (
    λ x. elim (come_from k u x) [
      | inl mine ↦ let (w, e) = some_value (item_units it) k u.0 mine.0 in
          absurd (not_there (value_in (item_units it) k) w off e)
      | inr twigs ↦ inr twigs
    ],
    λ x. elim x [
      | inl low ↦ absurd (none low.0 low.1)
      | inr twigs ↦ twig_come k u twigs.0 twigs.1
    ],
  )

  new_names : (x : CellSeen) → Contains c.new x → (patch_with c []).old x.id ≡ None → (before.next ≤ x.id)
      × (x.id < after.next)
  new_names x at gone =
      let n : after.next ≡ mid.next + length (fresh_ids (g.grafts.lowest ∷ g.grafts.more) g.grafts.over) = ap (λ
      (f : Fresh). f.next) g.grafts.number in
      elim (Contains-append_cases (leaf ∷ []) does.grafts.change.new x (subst
      (λ cells. Contains cells x) g.below.new_is at)) [
        | inl low ↦ elim (cases leaf x [] low) [
          | inr none_is ↦ absurd (none x none_is)
          | inl same ↦ let id : x.id ≡ before.next = ap (λ (z : CellSeen). z.id) same
              ∙ does.leaf_is.number in (omega (arith, id), omega (arith, id, n, mid_is))
        ]
        | inr high ↦ let w = graft_names g x high gone in (omega (arith, w, mid_is), omega (arith, w))
      ]

  apart_does : EditsUnits c [] before after (own_keys it) (leaf_values it)
  apart_does = record {
    effect = graft_effect g (own_keys it) (leaf_values it) held says same_there;
    names = new_names;
    root_number = graft_root g;
  }

module _ (t : Store Value) (r : Root) (path : List CellSeen) (it : Item) (before after : Fresh) (c : Change)
    (made : IsMadeIn t r c []) where
  apart_cells : (cells : List CellSeen) → reverse path ≡ cells → IsLeafPutUp t r it before cells
      → PutsLeafUp path it before after c cells
      → EditsUnits c [] before after (own_keys it) (leaf_values it)
  apart_cells [] same is does = absurd is
  apart_cells (twig ∷ ups) same is does = apart_does is does
      (record {
        part = is.path.part;
        level = is.level;
        above = is.path.ascends.3;
        grafts = subst (GraftsUp _ _ after does.grafts.change) same does.grafts.grafts;
        below = does.grafts.below;
        made = made;
      })
      refl

  pub apart_told : IsLeafPutUp t r it before (reverse path) → PutsLeafUp path it before after c (reverse path)
      → EditsUnits c [] before after (own_keys it) (leaf_values it)
  apart_told = apart_cells (reverse path) refl
