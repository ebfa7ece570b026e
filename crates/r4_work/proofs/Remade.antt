-- All edits of a leaf that stands, as one edit.
use Rattle.std.specs.Prelude.{◌≡◌, ◌↔◌, ℕ, ◌+◌, ◌^◌, ◌<◌, ◌≤◌, ◌⊎◌, ◌||◌, not, min, Bool, true, false, List, [], ◌∷◌, length, reverse, Contains, None, Option, Some}
use Rattle.std.specs.Option.{is_some, option_or}
use mathlib.Core.Path.{refl, sym, ap, subst, ◌∙◌}
use mathlib.Core.Logic.{inl, inr}
use native.Mathlib.Omega.{arith}
use Rattle.std.proofs.lemmas.List.{length-reverse, reverse-reverse}
use Rattle.std.proofs.lemmas.Option.{none-some}
use Rattle.r4_base.specs.Cell.{item_end, item_units}
use Rattle.r4_base.specs.Key.{rank}
use Rattle.r4_base.specs.Tree.{Root, Store}
use Rattle.r4_base.specs.Value.{Value}
use Rattle.r4_base.specs.declared.key.Key.{Key}
use Rattle.r4_edit.specs.r4_cell.Patch.{IsChange}
use Rattle.r4_edit.specs.r4_cell.Seen.{CellSeen, node_of}
use Rattle.r4_edit.specs.r4_cell.declared.change.Change.{Change}
use Rattle.r4_edit.specs.r4_cell.declared.change.Fresh.{Fresh}
use Rattle.r4_edit.specs.r4_patch.Joining.{patch_of_change}
use Rattle.r4_edit.specs.r4_patch.Part.{IsPart, MeetsPart}
use Rattle.r4_edit.specs.r4_leaf.Remade.{AreWithin, CanPutAll, cut_all, item_of, put_all}
use Rattle.r4_edit.specs.r4_leaf.Units.{LeafUnit, cut_units, is_between, put_units}
use Rattle.r4_edit.specs.r4_leaf.declared.remaking.Given.{Given}
use Rattle.r4_edit.specs.r4_leaf.declared.remaking.KeyRange.{KeyRange}
use Rattle.r4_edit.proofs.r4_leaf.Standing.{put_sound}
use Rattle.r4_edit.specs.Editing.{Edits, EditsUp, extra_cells, extra_for, extra_up}
use Rattle.r4_edit.specs.Remaking.{IsRemadeUp, IsRemakeIn, after_edits}
use Rattle.r4_edit.specs.r4_path.Steps.{Ascends, OnlyTakes}
use Rattle.r4_edit.proofs.r4_leaf.LeafItems.{spread}
use Rattle.r4_edit.proofs.r4_path.Rising.{InCell}
use Rattle.r4_edit.specs.r4_patch.Effect.{HasEffect}
use Rattle.r4_work.specs.Remaking.{CanRemake, CanRemakeUp, Changes, CutsWithin, HaveKeys, IsRemade, IsRemakable, cut_keys, item_value, remade_keys}
use Rattle.r4_work.specs.Remaking.{remade_values, value_in}
use Rattle.r4_work.specs.Working.{IsNextEdit, IsPutInPlace, IsWorking, now_of, path_of, root_of, standing}
use Rattle.r4_work.specs.declared.working.WorkingSet.{WorkingSet}
use Rattle.r4_work.proofs.Halving.{true_or_false}
use Rattle.r4_work.proofs.InPlace.{now_effect, now_part, now_working, standing_is}
use Rattle.r4_work.proofs.LeafEffect.{leaf_effect, new_numbers, root_number, us_once}
use Rattle.r4_work.proofs.Paths.{lowest_is, path_ascends}
use Rattle.r4_work.proofs.UnitMembers.{between, filtered, from_put, not_false, not_true, rise_in, some_value, to_filtered, to_put, value_there}

pub or_true : (a b : Bool) → a || b ≡ true → (a ≡ true) ⊎ (b ≡ true)
or_true true b h = inl refl
or_true false b h = inr h

pub or_false : (a b : Bool) → a || b ≡ false → (a ≡ false) × (b ≡ false)
or_false false b h = (refl, h)
or_false true b h = absurd (grind (arith, h))

-- ---- members

pub InItems : List Given → LeafUnit → Type 0
InItems [] u = ⊥
InItems (g ∷ gs) u = Contains (item_units (item_of g)) u ⊎ InItems gs u

pub from_items : (gs : List Given) (us : List LeafUnit) (u : LeafUnit) → Contains (put_all gs us) u → InItems gs u ⊎ Contains us u
unfolding InItems
from_items [] us u h = inr h
from_items (g ∷ gs) us u h = elim (from_items gs (put_units (item_units (item_of g)) us) u h) [
  | inl x ↦ inl (inr x)
  | inr x ↦ elim (from_put (item_units (item_of g)) us u x) [ inl y ↦ inl (inl y) | inr y ↦ inr y ]
]

pub to_items : (gs : List Given) (us : List LeafUnit) (u : LeafUnit) → InItems gs u ⊎ Contains us u → Contains (put_all gs us) u
unfolding InItems
to_items [] us u (inl h) = absurd h
to_items [] us u (inr h) = h
to_items (g ∷ gs) us u (inl (inl h)) = to_items gs (put_units (item_units (item_of g)) us) u (inr (to_put (item_units (item_of g)) us u (inl h)))
to_items (g ∷ gs) us u (inl (inr h)) = to_items gs (put_units (item_units (item_of g)) us) u (inl h)
to_items (g ∷ gs) us u (inr h) = to_items gs (put_units (item_units (item_of g)) us) u (inr (to_put (item_units (item_of g)) us u (inr h)))

pub from_cuts : (cs : List KeyRange) (us : List LeafUnit) (k : ℕ) (v : Value) → Contains (cut_all cs us) (k, v) → Contains us (k, v) × (cut_keys cs k ≡ false)
from_cuts [] us k v h = (h, refl)
from_cuts (c ∷ cs) us k v h =
    let (at, rest) = from_cuts cs (cut_units (rank c.from) (rank c.to) us) k v h in
    let (there, out) = filtered (λ u. not (is_between (rank c.from) (rank c.to) u.0)) us (k, v) at in
    (there, neither (is_between (rank c.from) (rank c.to) k) (cut_keys cs k) (not_true (is_between (rank c.from) (rank c.to) k) out) rest)
  where
    neither : (a b : Bool) → a ≡ false → b ≡ false → a || b ≡ false
    neither false b x y = y
    neither true b x y = absurd (grind (arith, x))

pub to_cuts : (cs : List KeyRange) (us : List LeafUnit) (k : ℕ) (v : Value) → Contains us (k, v) → cut_keys cs k ≡ false → Contains (cut_all cs us) (k, v)
to_cuts [] us k v h e = h
to_cuts (c ∷ cs) us k v h e =
    let (a, b) = or_false (is_between (rank c.from) (rank c.to) k) (cut_keys cs k) e in
    to_cuts cs (cut_units (rank c.from) (rank c.to) us) k v (to_filtered (λ u. not (is_between (rank c.from) (rank c.to) u.0)) us (k, v) (not_false (is_between (rank c.from) (rank c.to) k) a) h) b

-- ---- values

first_value : (o rest : Option Value) (x : Value) → option_or o rest ≡ Some x → (o ≡ Some x) ⊎ ((o ≡ None) × (rest ≡ Some x))
first_value (Some y) rest x e = inl e
first_value None rest x e = inr (refl, e)

pub value_in_items : (gs : List Given) (k : ℕ) (x : Value) → item_value gs k ≡ Some x → InItems gs (k, x)
unfolding InItems
value_in_items [] k x e = none-some x e
value_in_items (g ∷ gs) k x e = elim (first_value (value_in (item_units (item_of g)) k) (item_value gs k) x e) [
  | inl h ↦ inl (value_there (item_units (item_of g)) k x h)
  | inr h ↦ inr (value_in_items gs k x h.1)
]

either_value : (o rest : Option Value) → ((x : Value) × (o ≡ Some x)) ⊎ ((x : Value) × (rest ≡ Some x)) → (x : Value) × (option_or o rest ≡ Some x)
either_value (Some y) rest h = (y, refl)
either_value None rest (inl h) = absurd (none-some h.0 h.1)
either_value None rest (inr h) = h

pub items_value : (gs : List Given) (k : ℕ) (v : Value) → InItems gs (k, v) → (x : Value) × (item_value gs k ≡ Some x)
unfolding InItems
items_value [] k v h = absurd h
items_value (g ∷ gs) k v (inl h) = either_value (value_in (item_units (item_of g)) k) (item_value gs k) (inl (some_value (item_units (item_of g)) k v h))
items_value (g ∷ gs) k v (inr h) = either_value (value_in (item_units (item_of g)) k) (item_value gs k) (inr (items_value gs k v h))

pub some_of : (o : Option Value) → is_some o ≡ true → (x : Value) × (o ≡ Some x)
some_of (Some x) h = (x, refl)
some_of None h = absurd (grind (arith, h))

pub none_of : (o : Option Value) → is_some o ≡ false → o ≡ None
none_of None h = refl
none_of (Some x) h = absurd (grind (arith, h))

-- ---- the keys are the leaf's

pub items_in : (lo hi : ℕ) (gs : List Given) (us : List LeafUnit) (k : ℕ) (v : Value) → AreWithin lo hi gs → HaveKeys gs → CanPutAll gs us → InItems gs (k, v) → (lo ≤ k) × (k < hi)
unfolding InItems
items_in lo hi [] us k v within keys can h = absurd h
items_in lo hi (g ∷ gs) us k v (low, high, within) (key, keys) (given, apart, can) (inl h) =
    let (a, b) = rise_in (rank (item_of g).key) (item_end (item_of g)) (item_units (item_of g)) k v (spread (item_of g) (put_sound (item_of g) given key)).rise h in
    (omega (arith, a, low), omega (arith, b, high))
items_in lo hi (g ∷ gs) us k v (low, high, within) (key, keys) (given, apart, can) (inr h) = items_in lo hi gs (put_units (item_units (item_of g)) us) k v within keys can h

pub cuts_in : (lo hi : ℕ) (cs : List KeyRange) (k : ℕ) → CutsWithin lo hi cs → cut_keys cs k ≡ true → (lo ≤ k) × (k < hi)
cuts_in lo hi [] k within h = absurd (grind (arith, h))
cuts_in lo hi (c ∷ cs) k (low, high, within) h = elim (or_true (is_between (rank c.from) (rank c.to) k) (cut_keys cs k) h) [
  | inl x ↦ let (a, b) = between (rank c.from) (rank c.to) k x in (omega (arith, a, low), omega (arith, b, high))
  | inr x ↦ cuts_in lo hi cs k within x
]

-- ---- the path

HasLeaf : List CellSeen → Type 0
HasLeaf xs = (leaf : CellSeen) × (ups : List CellSeen) × (xs ≡ leaf ∷ ups)

has_leaf : (r : Root) (f : Fresh) (cuts : List KeyRange) (items : List Given) (xs : List CellSeen) → CanRemakeUp r f cuts items xs → HasLeaf xs
unfolding HasLeaf
has_leaf r f cuts items [] h = absurd h
has_leaf r f cuts items (leaf ∷ ups) h = (leaf, ups, refl)

turned : (up xs : List CellSeen) (leaf : CellSeen) (ups : List CellSeen) → up ≡ reverse xs → xs ≡ leaf ∷ ups → reverse up ≡ leaf ∷ ups
turned up xs leaf ups e h = ap reverse e ∙ (reverse-reverse xs ∙ h)

long : (up xs : List CellSeen) (leaf : CellSeen) (ups : List CellSeen) → up ≡ reverse xs → xs ≡ leaf ∷ ups → length up ≡ 1 + length ups
long up xs leaf ups e h =
    let a = ap (λ (ys : List CellSeen). length ys) e in
    let b = length-reverse xs in
    let c = ap (λ (ys : List CellSeen). length ys) h in
    omega (arith, a, b, c)

module _ (t : Store Value) (r : Root) (before : Fresh) (w : WorkingSet) (key : Key) (cuts : List KeyRange) (items : List Given) (is : IsRemakable t r before w key cuts items) where
  abbrev s : Store Value
  s = now_of w t

  abbrev root : Root
  root = root_of w r

  part : IsPart s root
  part = now_part t r before w is.working

  module _ (leaf : CellSeen) (ups : List CellSeen) (path : path_of w (rank key) ≡ leaf ∷ ups) where
    can : CanRemake root before cuts items leaf ups
    can = subst (CanRemakeUp root before cuts items) path is.remake

    ascends : Ascends s None (leaf ∷ ups)
    ascends = subst (Ascends s None) path (path_ascends s root part (standing w) (standing_is t r before w is.working) (rank key))

    level : leaf.level ≡ 1
    level = (lowest_is (standing w) (rank key) leaf ups path).level_is

    of_leaf : (up : List CellSeen) → reverse up ≡ leaf ∷ ups → IsRemakeIn s root up cuts items before
    of_leaf up e = subst (IsRemadeUp s root cuts items before) (sym e) (record {
      edited = record {
        path = record { part = part; ascends = ascends; free = is.working.free; root_number = is.working.root_number };
        level = level;
        enough = can.edit.enough;
      };
      within = can.within;
      can = can.can;
      small = can.small;
    })

    enough_numbers : (up : List CellSeen) → reverse up ≡ leaf ∷ ups → length up ≡ 1 + length ups → before.next + length up + extra_for (after_edits cuts items) up < before.end
    enough_numbers up e many =
        let extra : extra_for (after_edits cuts items) up ≡ min 15 (extra_cells (after_edits cuts items leaf)) = ap (λ p. min 15 (extra_up (after_edits cuts items) p)) e in
        let n = can.edit.numbers in
        omega (arith, n, many, extra)

    abbrev us : List LeafUnit
    us = after_edits cuts items leaf

    abbrev at : ℕ → Bool
    at = remade_keys cuts items

    module _ (after : Fresh) (d : Change) (change : IsChange d.old d.new d.root) (meets : MeetsPart (patch_of_change d) s root) (ed : Edits leaf ups us before after d) where
      from_us : (k : ℕ) (v : Value) → Contains us (k, v) → InItems items (k, v) ⊎ (Contains (node_of leaf).units (k, v) × (cut_keys cuts k ≡ false))
      from_us k v h = elim (from_items items (cut_all cuts (node_of leaf).units) (k, v) h) [
        | inl x ↦ inl x
        | inr x ↦ inr (from_cuts cuts (node_of leaf).units k v x)
      ]

      inside : (k : ℕ) → at k ≡ true → InCell leaf k
      inside k h = elim (or_true (cut_keys cuts k) (is_some (item_value items k)) h) [
        | inl x ↦ cuts_in (rank leaf.lo) (rank leaf.hi) cuts k can.cuts_within x
        | inr x ↦
            let (v, e) = some_of (item_value items k) x in
            items_in (rank leaf.lo) (rank leaf.hi) items (cut_all cuts (node_of leaf).units) k v can.within can.keys can.can (value_in_items items k v e)
      ]

      says : (k : ℕ) (v : Value) → at k ≡ true → Contains us (k, v) ↔ (item_value items k ≡ Some v)
      says k v h = (
        λ here. elim (true_or_false (is_some (item_value items k))) [
          | inl x ↦
              let (y, e) = some_of (item_value items k) x in
              e ∙ ap Some (us_once s root part leaf ups us before after d ed level change meets k y v (to_items items (cut_all cuts (node_of leaf).units) (k, y) (inl (value_in_items items k y e))) here)
          | inr x ↦
              let none = none_of (item_value items k) x in
              absurd (elim (from_us k v here) [
                | inl y ↦ let (z, e) = items_value items k v y in none-some z (sym none ∙ e)
                | inr y ↦ let out = y.1 in grind (arith, h, out, x)
              ])
        ],
        λ e. to_items items (cut_all cuts (node_of leaf).units) (k, v) (inl (value_in_items items k v e)),
      )

      same : (k : ℕ) (v : Value) → at k ≡ false → Contains us (k, v) ↔ Contains (node_of leaf).units (k, v)
      same k v h =
          let (uncut, no_item) = or_false (cut_keys cuts k) (is_some (item_value items k)) h in (
            λ here. elim (from_us k v here) [
              | inl y ↦ let (z, e) = items_value items k v y in absurd (none-some z (sym (none_of (item_value items k) no_item) ∙ e))
              | inr y ↦ y.0
            ],
            λ there. to_items items (cut_all cuts (node_of leaf).units) (k, v) (inr (to_cuts cuts (node_of leaf).units k v there uncut)),
          )

      remake_effect : HasEffect (patch_of_change d) at (remade_values items)
      remake_effect = leaf_effect s root part leaf ups us before after d ed level change meets ascends.3 at (item_value items) inside says same

      remake_edit : OnlyTakes before after → 2 ^ 63 ≤ before.next → before.end < 2 ^ 64 → IsNextEdit t r w before after d
      remake_edit takes low high = record {
        change = change;
        meets = meets;
        names = new_numbers s root part leaf ups us before after d ed level change meets;
        takes = takes;
        root = root_number s root part leaf ups us before after d ed level change meets low high takes;
      }

  module _ (up : List CellSeen) (e : up ≡ reverse (path_of w (rank key))) where
    pub remake_path : IsRemakeIn s root up cuts items before
    unfolding HasLeaf
    remake_path =
        let (leaf, ups, h) = has_leaf root before cuts items (path_of w (rank key)) is.remake in
        of_leaf leaf ups h up (turned up (path_of w (rank key)) leaf ups e h)

    pub remake_numbers : before.next + length up + extra_for (after_edits cuts items) up < before.end
    unfolding HasLeaf
    remake_numbers =
        let (leaf, ups, h) = has_leaf root before cuts items (path_of w (rank key)) is.remake in
        enough_numbers leaf ups h up (turned up (path_of w (rank key)) leaf ups e h) (long up (path_of w (rank key)) leaf ups e h)

    module _ (after : Fresh) (d : Change) (change : IsChange d.old d.new d.root) (meets : (t : Store Value) (r : Root) → IsRemakeIn t r up cuts items before → MeetsPart (patch_of_change d) t r) (edits : EditsUp (after_edits cuts items) before after d (reverse up)) (takes : OnlyTakes before after) (low : 2 ^ 63 ≤ before.next) (high : before.end < 2 ^ 64) where
      edits_of : (leaf : CellSeen) (ups : List CellSeen) → path_of w (rank key) ≡ leaf ∷ ups → Edits leaf ups (after_edits cuts items leaf) before after d
      edits_of leaf ups h = subst (EditsUp (after_edits cuts items) before after d) (turned up (path_of w (rank key)) leaf ups e h) edits

      pub remake_next : IsNextEdit t r w before after d
      unfolding HasLeaf
      remake_next =
          let (leaf, ups, h) = has_leaf root before cuts items (path_of w (rank key)) is.remake in
          remake_edit leaf ups h after d change (meets s root remake_path) (edits_of leaf ups h) takes low high

      module _ (now : WorkingSet) (put : IsPutInPlace w d now) where
        pub remake_working : IsWorking t r after now
        remake_working = now_working t r w now before after d is.working remake_next put

        pub remake_effects : Changes w now (remade_keys cuts items) (remade_values items)
        unfolding HasLeaf
        remake_effects a f ew =
            let (leaf, ups, h) = has_leaf root before cuts items (path_of w (rank key)) is.remake in
            now_effect t r w now before after d is.working remake_next put a (remade_keys cuts items) f (remade_values items) ew
            (remake_effect leaf ups h after d change (meets s root remake_path) (edits_of leaf ups h))

        pub remake_made : IsRemade t r before after w now key cuts items
        unfolding HasLeaf
        remake_made =
            let (leaf, ups, h) = has_leaf root before cuts items (path_of w (rank key)) is.remake in
            record {
              leaf = leaf;
              ups = ups;
              path = h;
              edit = d;
              change = change;
              meets = meets s root remake_path;
              edits = edits_of leaf ups h;
              put = put;
              working = remake_working;
              takes = takes;
            }
