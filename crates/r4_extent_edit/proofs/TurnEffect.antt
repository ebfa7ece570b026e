-- What leaves whose range becomes an extent do to units.
use Rattle.std.specs.Prelude.{◌≡◌, ◌↔◌, ◌==◌, ℕ, ◌+◌, ◌<◌, ◌≤◌, ◌⊎◌, Bool, true, false, nat_le, nat_lt, List, [], ◌∷◌}
use Rattle.std.specs.Prelude.{◌++◌, length, Contains, None, Option, Some, reverse}
use mathlib.Core.Path.{refl, sym, ap, subst, ◌∙◌}
use mathlib.Core.Logic.{inl, inr}
use native.Mathlib.Omega.{arith}
use Rattle.std.proofs.lemmas.Bool.{cases_lt, le-leb, lt-leb, lt-ltb}
use Rattle.std.proofs.lemmas.List.Elements.{Contains-append_cases, Contains-append_left, Contains-append_right}
use Rattle.std.proofs.lemmas.Option.{none-some}
use Rattle.r4_base.specs.Cell.{item_end, item_units}
use Rattle.r4_base.specs.Key.{rank}
use Rattle.r4_base.specs.Node.{Item}
use Rattle.r4_base.specs.Tree.{IsData, IsNode, Root, Store}
use Rattle.r4_base.specs.Value.{Value}
use Rattle.r4_base.specs.declared.key.Key.{Key}
use Rattle.r4_work.specs.r4_branch.Pieces.{units_of}
use Rattle.r4_work.specs.r4_branch.declared.piece.TwigPiece.{TwigPiece}
use Rattle.r4_work.specs.r4_cell.Seen.{CellSeen, node_of}
use Rattle.r4_work.specs.r4_cell.declared.change.Change.{Change}
use Rattle.r4_work.specs.r4_cell.declared.change.Fresh.{Fresh}
use Rattle.r4_work.specs.r4_leaf.Units.{LeafUnit, put_units}
use Rattle.r4_work.specs.r4_patch.Effect.{HasEffect, Placed}
use Rattle.r4_work.proofs.r4_patch.Members.{cases, here, none}
use Rattle.r4_work.specs.r4_path.Grafts.{AreBlocksOf, GraftsUp}
use Rattle.r4_work.specs.r4_path.Steps.{Follow as FollowCells, fresh_ids, name_of}
use Rattle.r4_work.proofs.r4_path.Rising.{InCell, follow_covers, follow_within, in_cell, in_node, level_is}
use Rattle.r4_work.specs.r4_edit.Extents.{IsGivenExtent, given_cells, item_blocks}
use Rattle.r4_work.specs.r4_edit.LeafParts.{HasLeft, HasRight, first_from, units_below, units_from}
use Rattle.r4_work.proofs.UnitMembers.{filtered, to_filtered}
use Rattle.r4_extent_edit.specs.Effects.{EditsUnits, IsMadeIn, extent_values, item_keys, patch_with}
use Rattle.r4_extent_edit.specs.Turning.{AreAround, AreBeside, IsTurnIn, IsTurnUp, TurnsIn, TurnsUp, key_of_end}
use Rattle.r4_extent_edit.specs.Turning.{last_leaf, turned_pieces}
use Rattle.r4_extent_edit.proofs.ExtentEffect.{both_ways, extent_effect, is_off, is_on}
use Rattle.r4_extent_edit.proofs.GraftEffect.{IsHeldBelow, IsPlacedIn, IsRepacked, below_there, graft_names, graft_root}
use Rattle.r4_extent_edit.proofs.GraftEffect.{twig_stands}
use Rattle.r4_extent_edit.proofs.TurnGraft.{end_is}
use Rattle.r4_extent_edit.proofs.TurnPieces.{last_in}

-- ---- units on the two sides of a key

is_less : (a b : ℕ) → nat_lt a b ≡ true → a < b
is_less a b h = grind (arith, h)

is_most : (a b : ℕ) → nat_le a b ≡ true → a ≤ b
is_most a b h = grind (arith, h)

below_members : (k : ℕ) (us : List LeafUnit) (u : LeafUnit) → Contains (units_below k us) u ↔ (Contains us u
    × (u.0 < k))
below_members k us u = (
  λ h. let x = filtered (λ (w : LeafUnit). nat_lt w.0 k) us u h in (x.0, is_less u.0 k x.1),
  λ h. to_filtered (λ (w : LeafUnit). nat_lt w.0 k) us u (lt-ltb u.0 k h.1) h.0,
)

from_members : (k : ℕ) (us : List LeafUnit) (u : LeafUnit) → Contains (units_from k us) u ↔ (Contains us u × (k ≤ u.0))
from_members k us u = (
  λ h. let x = filtered (λ (w : LeafUnit). nat_le k w.0) us u h in (x.0, is_most k u.0 x.1),
  λ h. to_filtered (λ (w : LeafUnit). nat_le k w.0) us u (le-leb k u.0 h.1) h.0,
)

no_first : (k : ℕ) (us : List LeafUnit) (u : LeafUnit) → first_from k us ≡ None → Contains us u → k ≤ u.0 → ⊥
no_first k [] u e at le = none u at
no_first k (x ∷ xs) u e at le = elim (cases_lt x.0 k) [
  | inl lt ↦
      let step : first_from k (x ∷ xs) ≡ first_from k xs = rw (lt-leb k x.0 lt) refl in
      elim (cases x u xs at) [
        | inl is ↦ let same : u.0 ≡ x.0 = ap (λ (w : LeafUnit). w.0) is in omega (arith, same, lt, le)
        | inr more ↦ no_first k xs u (sym step ∙ e) more le
      ]
  | inr ge ↦
      let step : first_from k (x ∷ xs) ≡ Some x.0 = rw (le-leb k x.0 ge) refl in
      none-some x.0 (sym e ∙ step)
]

-- ---- leaves one beside the other

ends_before : (lo end : ℕ) (leaf : CellSeen) (more : List CellSeen) (c : CellSeen)
    → FollowCells 1 lo end (leaf ∷ more) → Contains (leaf ∷ more) c
    → (c ≡ last_leaf leaf more) ⊎ (rank c.hi ≤ rank (last_leaf leaf more).lo)
ends_before lo end leaf [] c f at = elim (cases leaf c [] at) [
  | inl is ↦ inl is
  | inr none_is ↦
      absurd (none c none_is)
]
ends_before lo end leaf (d ∷ ds) c f at = elim (cases leaf c (d ∷ ds) at) [
  | inl is ↦
      let same : rank c.hi ≡ rank leaf.hi = ap (λ (x : CellSeen). rank x.hi) is in
      let w = follow_within 1 (rank leaf.hi) end (d ∷ ds) (last_leaf d ds) f.3 (last_in d ds) in
      let from = w.from in
      inr (omega (arith, same, from))
  | inr more_at ↦ ends_before (rank leaf.hi) end d ds c f.3 more_at
]

-- What comes in the place of the last leaf has its units from a key on.
abbrev pub KeepsFrom : (key : ℕ) → (leaf : CellSeen) → Option CellSeen → Type 0
KeepsFrom key leaf o = (k : ℕ) (u : Placed Value) → IsPlacedIn (given_cells o) k u ↔ (IsPlacedIn (leaf ∷ []) k u
    × (key ≤ k))

same_kind : (x y : CellSeen) (b : Bool) → x.level ≡ 1 → y.level ≡ 1 → (x.level == 1) ≡ b → (y.level == 1) ≡ b
same_kind x y b one two kind = ap (λ (l : ℕ). l == 1) (two ∙ sym one) ∙ kind

module _ {t : Store Value} {r : Root} {it : Item} {leaf : CellSeen} {more : List CellSeen} {twig : CellSeen} {ups :
    List CellSeen}
    {qs : List TwigPiece} (left right : Option CellSeen) (before : Fresh) {blocks : List CellSeen} {mid after : Fresh}
    {d c : Change}
    (g : IsRepacked t r twig ups qs (record {
      old = leaf ∷ more;
      new = given_cells left
          ++ given_cells right;
    }) blocks mid after d c)
    (given : IsGivenExtent it) (beside : AreBeside t twig leaf more) (around : AreAround leaf more (rank it.key)
    (item_end it))
    (units : units_of qs ≡ put_units (item_units it) (node_of twig).units) (left_is : HasLeft leaf it.key left)
    (right_has : KeepsFrom (item_end it) (last_leaf leaf more) right) where
  abbrev last : CellSeen
  last = last_leaf leaf more

  abbrev from : ℕ
  from = rank it.key

  abbrev to : ℕ
  to = item_end it

  node : (x : CellSeen) → Contains (leaf ∷ more) x → IsNode (node_of x)
  node x at = g.part.nodes x.id (node_of x) (beside.stand x at)

  inside : (x : CellSeen) (k : ℕ) (v : Value) → Contains (leaf ∷ more) x → Contains (node_of x).units (k, v)
      → InCell x k
  inside x k v at has = in_cell x k ((node x at).unit_in k v has)

  leaf_level : (x : CellSeen) → Contains (leaf ∷ more) x → x.level ≡ 1
  leaf_level x at = (follow_within 1 (rank leaf.lo) (rank last.hi) (leaf ∷ more) x beside.follow at).level_as

  below_off : (k : ℕ) → k < from → item_keys it k ≡ false
  below_off k lt = is_off from to k (λ a b. omega (arith, a, lt))

  behind_off : (k : ℕ) → to ≤ k → item_keys it k ≡ false
  behind_off k le = is_off from to k (λ a b. omega (arith, b, le))

  off_cases : (k : ℕ) → item_keys it k ≡ false → (k < from) ⊎ (to ≤ k)
  off_cases k off = elim (cases_lt k from) [
    | inl lt ↦ inl lt
    | inr ge ↦ elim (cases_lt k to) [
      | inl low ↦ absurd (both_ways (item_keys it k) (is_on from to k ge low) off)
      | inr le ↦ inr le
    ]
  ]

  -- ---- what stays was there

  from_left : (o : Option CellSeen) → HasLeft leaf it.key o → (k : ℕ) (u : Placed Value)
      → IsPlacedIn (given_cells o) k u → IsPlacedIn (leaf ∷ more) k u × (item_keys it k ≡ false)
  from_left None h k u (x, at, has, kind) = absurd (none x at)
  from_left (Some y) h k u (x, at, has, kind) = elim (cases y x [] at) [
    | inr none_is ↦ absurd (none x none_is)
    | inl same ↦
        let units = subst (λ us. Contains us (k, u.0)) (ap (λ (z : CellSeen). (node_of z).units) same
        ∙ h.1.units) has in
        let m = (below_members from (node_of leaf).units (k, u.0)).0 units in
        let level : x.level ≡ 1 = ap (λ (z : CellSeen). z.level) same ∙ h.1.level_is in (
          (
            leaf,
            here leaf more,
            m.0,
            same_kind x leaf u.1 level (leaf_level leaf
                (here leaf more)) kind,
          ),
          below_off k m.1,
        )
  ]

  from_right : (k : ℕ) (u : Placed Value) → IsPlacedIn (given_cells right) k u → IsPlacedIn (leaf ∷ more) k u
      × (item_keys it k ≡ false)
  from_right k u h =
      let (low, le) = (right_has k u).0 h in
      let (x, at, has, kind) = low in
      elim (cases last x [] at) [
        | inr none_is ↦ absurd (none x none_is)
        | inl same ↦ (
          (
            x,
            subst (λ (z : CellSeen). Contains (leaf ∷ more) z) (sym same)
                (last_in leaf more),
            has,
            kind,
          ),
          behind_off k le,
        )
      ]

  -- ---- and stays

  to_left : (o : Option CellSeen) → HasLeft leaf it.key o → (x : CellSeen) (k : ℕ) (u : Placed Value)
      → Contains (leaf ∷ more) x → Contains (node_of x).units (k, u.0) → (x.level == 1) ≡ u.1 → k < from
      → IsPlacedIn (given_cells o) k u
  to_left o h x k u at has kind lt = elim (cases leaf x more at) [
    | inr more_at ↦
        let w = follow_within 1 (rank leaf.hi) (rank last.hi) more x beside.follow.3 more_at in
        let low = w.from in
        let i = inside x k u.0 at has in
        let begins = around.begins in
        absurd (omega (arith, low, i, begins, lt))
    | inl same ↦ by_left o h (subst (λ (z : CellSeen). Contains (node_of z).units (k, u.0)) same has)
  ]
    where
      by_left : (o : Option CellSeen) → HasLeft leaf it.key o → Contains (node_of leaf).units (k, u.0)
          → IsPlacedIn (given_cells o) k u
      by_left None h mine = let i = inside leaf k u.0 (here leaf more) mine in absurd (omega (arith, i, h, lt))
      by_left (Some y) h mine = (
        y,
        here y [],
        subst (λ us. Contains us (k, u.0)) (sym h.1.units) ((below_members from (node_of leaf).units (k, u.0)).1
            (mine, lt)),
        same_kind x y u.1 (leaf_level x at) h.1.level_is kind,
      )

  to_right : (x : CellSeen) (k : ℕ) (u : Placed Value) → Contains (leaf ∷ more) x
      → Contains (node_of x).units (k, u.0) → (x.level == 1) ≡ u.1 → to ≤ k → IsPlacedIn (given_cells right) k u
  to_right x k u at has kind le = elim (ends_before (rank leaf.lo) (rank last.hi) leaf more x beside.follow at) [
    | inr before_last ↦
        let i = inside x k u.0 at has in
        let ends = around.ends in
        absurd (omega (arith, i, before_last, ends, le))
    | inl same ↦ (right_has k u).1 (
      (
        x,
        subst (λ (z : CellSeen). Contains (last ∷ []) z) (sym same)
            (here last []),
        has,
        kind,
      ),
      le,
    )
  ]

  leaves : (k : ℕ) (u : Placed Value) → IsPlacedIn (given_cells left ++ given_cells right) k u
      ↔ (IsPlacedIn (leaf ∷ more) k u × (item_keys it k ≡ false))
  leaves k u = (
    λ (x, at, has, kind). elim (Contains-append_cases (given_cells left) (given_cells right) x at) [
      | inl a ↦ from_left left left_is k u (x, a, has, kind)
      | inr b ↦ from_right k u (x, b, has, kind)
    ],
    λ z. let (low, off) = z in let (x, at, has, kind) = low in elim (off_cases k off) [
      | inl lt ↦ let (y, in_y, has_y, kind_y) = to_left left left_is x k u at has kind lt in
          (y, Contains-append_left (given_cells left) (given_cells right) y in_y, has_y, kind_y)
      | inr le ↦ let (y, in_y, has_y, kind_y) = to_right x k u at has kind le in
          (y, Contains-append_right (given_cells left) (given_cells right) y in_y, has_y, kind_y)
    ],
  )

  -- ---- the keys

  leaf_has : (k : ℕ) → from ≤ k → k < to → (x : CellSeen) × (Contains (leaf ∷ more) x × InCell x k)
  leaf_has k low high =
      let a = around.low in
      let b = around.high in
      let (x, at, range) = follow_covers 1 (rank leaf.lo) (rank last.hi) (leaf ∷ more) k beside.follow (omega
      (arith, a, low)) (omega (arith, b, high)) in
      (x, (at, range))

  held : (k : ℕ) → from ≤ k → k < to → IsHeldBelow g k
  held k low high =
      let h = leaf_has k low high in
      let l = level_is h.0 in
      let one = leaf_level h.0 h.1.0 in
      (h.0, inl h.1.0, inl (omega (arith, l, one), in_node h.0 k h.1.1))

  twig_node : IsNode (node_of twig)
  twig_node = g.part.nodes twig.id (node_of twig) (twig_stands g)

  twig_none : (k : ℕ) (v : Value) → Contains (node_of twig).units (k, v) → from ≤ k → k < to → ⊥
  twig_none k v has low high =
      let h = leaf_has k low high in
      let l = level_is twig in
      let two = g.level in
      elim (twig_node.unit_low k v has) [
        | inl leaf_is ↦ omega (arith, leaf_is, l, two)
        | inr s ↦
            let block : IsData (name_of h.0) = twig_node.spans_apart (name_of h.0) s.0 k
            (beside.named h.0 h.1.0) s.1 h.1.1 s.2 in
            let one = leaf_level h.0 h.1.0 in
            omega (arith, block, one)
      ]

  rest_is : (k : ℕ) (v : Value) → Contains (node_of twig).units (k, v) ↔ (Contains (node_of twig).units (k, v)
      × (item_keys it k ≡ false))
  rest_is k v = (λ h. (h, is_off from to k (twig_none k v h)), λ h. h.0)

  pub leaves_effect : AreBlocksOf (item_blocks it) blocks
      → HasEffect (patch_with c blocks) (item_keys it) (extent_values it blocks)
  leaves_effect of = extent_effect g it given of (node_of twig).units units rest_is leaves held

  -- ---- names

  abbrev pub InTaken : CellSeen → Type 0
  InTaken x = (before.next ≤ x.id) × (x.id < after.next)

  left_name : (o : Option CellSeen) → HasLeft leaf it.key o → (x : CellSeen) → Contains (given_cells o) x
      → (patch_with c blocks).old x.id ≡ None → ⊥
  left_name None h x at gone = none x at
  left_name (Some y) h x at gone = elim (cases y x [] at) [
    | inr none_is ↦ none x none_is
    | inl same ↦
        let id : x.id ≡ leaf.id = ap (λ (z : CellSeen). z.id) same ∙ h.1.number in
        none-some (node_of leaf) (sym gone ∙ (ap (patch_with c blocks).old id ∙ below_there g leaf (here leaf more)))
  ]

  pub later_next : mid.next ≤ after.next
  later_next = let n : after.next ≡ mid.next + length (fresh_ids (g.grafts.lowest
      ∷ g.grafts.more) g.grafts.over) = ap (λ (f : Fresh). f.next) g.grafts.number in omega (arith, n)

  -- The names are numbers that were taken, where that of the right part is.
  pub leaves_names : before.next ≤ mid.next → ((x : CellSeen) → Contains (given_cells right) x
      → (patch_with c blocks).old x.id ≡ None → InTaken x)
      → (x : CellSeen) → Contains c.new x → (patch_with c blocks).old x.id ≡ None → InTaken x
  leaves_names m right_name x at gone = elim (Contains-append_cases (given_cells left ++ given_cells right) d.new x
      (subst (λ cells. Contains cells x) g.below.new_is at)) [
        | inl low ↦ elim (Contains-append_cases (given_cells left) (given_cells right) x low) [
          | inl a ↦ absurd (left_name left left_is x a gone)
          | inr b ↦ right_name x b gone
        ]
        | inr high ↦ let w = graft_names g x high gone in (omega (arith, w, m), omega (arith, w))
      ]

-- ---- what stays of the last leaf

pub keeps_from : (key : Key) (behind : ℕ) (leaf : CellSeen) (id : ℕ) (o : Option CellSeen) → HasRight leaf key id o
    → leaf.level ≡ 1
    → ((k : ℕ) (v : Value) → Contains (node_of leaf).units (k, v) → (rank key ≤ k → behind ≤ k) × (behind ≤ k
    → rank key ≤ k)) → KeepsFrom behind leaf o
keeps_from key behind leaf id None h level same k u = (
  λ x. absurd (none x.0 x.1),
  λ z. let (low, le) = z in let (x, at, has, kind) = low in elim (cases leaf x [] at) [
    | inr none_is ↦ absurd (none x none_is)
    | inl is ↦ let mine = subst (λ (z : CellSeen). Contains (node_of z).units (k, u.0)) is has in
        absurd (no_first (rank key) (node_of leaf).units (k, u.0) h mine ((same k u.0 mine).1 le))
  ],
)
keeps_from key behind leaf id (Some y) h level same k u = (
  λ (x, at, has, kind). elim (cases y x [] at) [
    | inr none_is ↦ absurd (none x none_is)
    | inl is ↦
        let units = subst (λ us. Contains us (k, u.0)) (ap (λ (z : CellSeen). (node_of z).units) is ∙ h.units) has in
        let m = (from_members (rank key) (node_of leaf).units (k, u.0)).0 units in
        let l : x.level ≡ 1 = ap (λ (z : CellSeen). z.level) is ∙ h.level_is in
        ((leaf, here leaf [], m.0, same_kind x leaf u.1 l level kind), (same k u.0 m.0).0 m.1)
  ],
  λ z. let (low, le) = z in let (x, at, has, kind) = low in elim (cases leaf x [] at) [
    | inr none_is ↦ absurd (none x none_is)
    | inl is ↦
        let mine = subst (λ (z : CellSeen). Contains (node_of z).units (k, u.0)) is has in
        let l : x.level ≡ 1 = ap (λ (z : CellSeen). z.level) is ∙ level in (
          y,
          here y [],
          subst (λ us. Contains us (k, u.0)) (sym h.units) ((from_members (rank key) (node_of leaf).units (k, u.0)).1
              (mine, (same k u.0 mine).1 le)),
          same_kind x y u.1 l h.level_is kind,
        )
  ],
)

right_taken : (key : Key) (leaf : CellSeen) (next end : ℕ) (o : Option CellSeen) → HasRight leaf key next o
    → next + length (given_cells o) ≤ end
    → (x : CellSeen) → Contains (given_cells o) x → (next ≤ x.id) × (x.id < end)
right_taken key leaf next end None h n x at = absurd (none x at)
right_taken key leaf next end (Some y) h n x at = elim (cases y x [] at) [
  | inr none_is ↦ absurd (none x none_is)
  | inl same ↦ let id : x.id ≡ next = ap (λ (z : CellSeen). z.id) same
      ∙ h.number in (omega (arith, id), omega (arith, id, n))
]

turn_does : {t : Store Value} {r : Root} {it : Item} {leaf : CellSeen} {more : List CellSeen} {twig : CellSeen} {ups :
    List CellSeen}
    {before after : Fresh} {path : List CellSeen} {c : Change} {blocks : List CellSeen}
    (is : IsTurnIn t r it leaf more twig ups before)
    (does : TurnsIn path it leaf more before after c twig)
    → IsRepacked t r twig ups (turned_pieces it does.right twig) (record {
      old = leaf
          ∷ more;
      new = given_cells does.left ++ given_cells does.right;
    })
    blocks does.mid after does.grafts.change c
    → AreBlocksOf (item_blocks it) blocks → EditsUnits c blocks before after (item_keys it) (extent_values it blocks)
turn_does {t} {r} {it} {leaf} {more} {twig} {ups} {before} {after} {path} {c} {blocks} is does g of =
    let to_is = end_is it is.given in
    let last = last_leaf leaf more in
    let level = (follow_within 1 (rank leaf.lo) (rank last.hi) (leaf ∷ more) last is.beside.follow
    (last_in leaf more)).level_as in
    let keeps = keeps_from (key_of_end it) (item_end it) last before.next does.right does.keeps.right_is level
    (λ k v at. (λ a. omega (arith, a, to_is), λ a. omega (arith, a, to_is))) in
    let mid_next : does.mid.next ≡ before.next + length (given_cells does.right) = ap (λ
    (f : Fresh). f.next) does.keeps.number in
    let l = later_next does.left does.right before g is.given is.beside is.around does.units does.keeps.left_is keeps in
    record {
      effect = leaves_effect does.left does.right before g is.given is.beside is.around does.units does.keeps.left_is
          keeps of;
      names = leaves_names does.left does.right before g is.given is.beside is.around does.units does.keeps.left_is
          keeps (omega (arith, mid_next))
          (λ x at gone. right_taken (key_of_end it) last before.next after.next does.right does.keeps.right_is (omega
          (arith, mid_next, l)) x at);
      root_number = graft_root g;
    }

module _ (t : Store Value) (r : Root) (path : List CellSeen) (it : Item) (before after : Fresh) (c : Change)
    (blocks : List CellSeen)
    (are : AreBlocksOf (item_blocks it) blocks) (made : IsMadeIn t r c blocks) where
  turn_cells : (leaves cells : List CellSeen) → reverse path ≡ cells → IsTurnUp t r it leaves before cells
      → TurnsUp path it leaves before after c cells
      → EditsUnits c blocks before after (item_keys it) (extent_values it blocks)
  turn_cells [] cells same is does = absurd is
  turn_cells (leaf ∷ more) [] same is does = absurd is
  turn_cells (leaf ∷ more) (twig ∷ ups) same is does = turn_does is does
      (record {
        part = is.path.part;
        level = is.level;
        above = is.path.ascends.3;
        grafts = subst (GraftsUp _ does.mid after does.grafts.change) same does.grafts.grafts;
        below = does.grafts.below;
        made = made;
      })
      are

  pub turn_told : (leaves : List CellSeen) → IsTurnUp t r it leaves before (reverse path)
      → TurnsUp path it leaves before after c (reverse path)
      → EditsUnits c blocks before after (item_keys it) (extent_values it blocks)
  turn_told leaves = turn_cells leaves (reverse path) refl
