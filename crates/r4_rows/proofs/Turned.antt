-- The effect of a turn to extents.
use Rattle.std.proofs.Common.{◌≡◌, ◌⊎◌, inl, inr, ℕ, List, ◌++◌, sym, ap, subst, arith}
use Rattle.std.specs.Prelude.{◌==◌, Bool, true, false, Contains, Option, None, Some}
use Rattle.std.proofs.lemmas.List.Elements.{Contains-append_cases, Contains-append_left, Contains-append_right}
use Rattle.std.proofs.lemmas.Option.{none-some, same_Some}
use Rattle.r4_base.specs.Tree.{Root, Store}
use Rattle.r4_base.specs.Value.{Value}
use Rattle.r4_patch.specs.Effect.{HasEffect, Placed, in_extent}
use Rattle.r4_cell.specs.Seen.{CellSeen}
use Rattle.r4_path.specs.Levels.{units_of_cells}
use Rattle.r4_path.specs.Steps.{Follow}
use Rattle.r4_path.proofs.Rising.{follow_within, level_is}
use Rattle.r4_leaf.specs.Units.{is_between}
use Rattle.r4_rows.specs.Rows.{IsRowChange, Row, rows_patch}
use Rattle.r4_rows.specs.Turn.{IsTurn}
use Rattle.r4_rows.specs.Units.{TakeEffect, UnitOf}
use Rattle.r4_rows.proofs.RowUnits.{in_units, of_units, rows_effect}

placed : (o : Option Value) (u : Placed Value) → in_extent o ≡ Some u → (o ≡ Some u.0) × (u.1 ≡ false)
placed None u e = absurd (none-some u e)
placed (Some v) u e =
    let same : u ≡ (v, false) = same_Some u (v, false) (sym e) in
    (ap Some (sym (ap (λ (x : Placed Value). x.0) same)), ap (λ (x : Placed Value). x.1) same)

pair_same : (v w : Value) (a b : Bool) → v ≡ w → a ≡ b → ◌≡◌ {A = Option (Placed Value)} (Some (v, a)) (Some (w, b))
pair_same v w a b e f = cc

place_in : (o : Option Value) (u : Placed Value) → o ≡ Some u.0 → u.1 ≡ false → in_extent o ≡ Some u
place_in None u e f = absurd (none-some u.0 e)
place_in (Some v) u e f = pair_same v u.0 false u.1 (same_Some v u.0 e) (sym f)

leaf_kind : (l : ℕ) (v : Bool) → l ≡ 1 → (l == 1) ≡ v → v ≡ true
leaf_kind l v e h = cc

leaf_is : (l : ℕ) (v : Bool) → l ≡ 1 → v ≡ true → (l == 1) ≡ v
leaf_is l v e h = cc

twig_kind : (l : ℕ) (v : Bool) → l ≡ 2 → (l == 1) ≡ v → v ≡ false
twig_kind l v e h = cc

twig_is : (l : ℕ) (v : Bool) → l ≡ 2 → v ≡ false → (l == 1) ≡ v
twig_is l v e h = cc

block_kind : (l : ℕ) (v : Bool) → l ≡ 0 → (l == 1) ≡ v → v ≡ false
block_kind l v e h = cc

block_is : (l : ℕ) (v : Bool) → l ≡ 0 → v ≡ false → (l == 1) ≡ v
block_is l v e h = cc

true_false : (b : Bool) → b ≡ true → b ≡ false → ⊥
true_false b e f = absurd cc

module _ (b s : Row) (from to : ℕ) (values : ℕ → Option Value) (is : IsTurn b s from to values)
    (old_twigs : (c : CellSeen) → Contains s.old c → c.level ≡ 2)
    (new_twigs : (c : CellSeen) → Contains s.new c → c.level ≡ 2) where
  -- a unit of what comes: of a leaf, or of a twig or a block
  new_unit : (k : ℕ) (u : Placed Value) → UnitOf (b.new ++ s.new) k u
      → ((u.1 ≡ true) × Contains (units_of_cells is.parts) (k, u.0))
      ⊎ ((u.1 ≡ false) × (Contains (units_of_cells s.new) (k, u.0) ⊎ Contains (units_of_cells is.blocks) (k, u.0)))
  new_unit k u (x, mx, member, kind) = elim (Contains-append_cases b.new s.new x mx) [
    | inl low ↦ elim (Contains-append_cases is.parts is.blocks x
        (subst (λ (cells : List CellSeen). Contains cells x) is.new low)) [
          | inl part ↦ inl (leaf_kind x.level u.1 (is.leaf_parts x part) kind, in_units is.parts x (k, u.0) part member)
          | inr block ↦ inr (
            block_kind x.level u.1 (is.data_blocks x block) kind,
            inr (in_units is.blocks x (k, u.0) block member),
          )
        ]
    | inr twig ↦ inr (twig_kind x.level u.1 (new_twigs x twig) kind, inl (in_units s.new x (k, u.0) twig member))
  ]

  unit_new_leaf : (k : ℕ) (u : Placed Value) → u.1 ≡ true → Contains (units_of_cells is.parts) (k, u.0)
      → UnitOf (b.new ++ s.new) k u
  unit_new_leaf k u kind at =
      let (x, mx, member) = of_units is.parts (k, u.0) at in (
        x,
        Contains-append_left b.new s.new x
            (subst (λ (cells : List CellSeen). Contains cells x) (sym is.new)
            (Contains-append_left is.parts is.blocks x mx)),
        member,
        leaf_is x.level u.1 (is.leaf_parts x mx) kind,
      )

  unit_new_other : (k : ℕ) (u : Placed Value) → u.1 ≡ false → Contains (units_of_cells s.new) (k, u.0)
      ⊎ Contains (units_of_cells is.blocks) (k, u.0) → UnitOf (b.new ++ s.new) k u
  unit_new_other k u kind (inl at) =
      let (x, mx, member) = of_units s.new (k, u.0) at in
      (x, Contains-append_right b.new s.new x mx, member, twig_is x.level u.1 (new_twigs x mx) kind)
  unit_new_other k u kind (inr at) =
      let (x, mx, member) = of_units is.blocks (k, u.0) at in (
        x,
        Contains-append_left b.new s.new x
            (subst (λ (cells : List CellSeen). Contains cells x) (sym is.new)
            (Contains-append_right is.parts is.blocks x mx)),
        member,
        block_is x.level u.1 (is.data_blocks x mx) kind,
      )

  old_unit : (k : ℕ) (u : Placed Value) → UnitOf (b.old ++ s.old) k u
      → ((u.1 ≡ true) × Contains (units_of_cells b.old) (k, u.0))
      ⊎ ((u.1 ≡ false) × Contains (units_of_cells s.old) (k, u.0))
  old_unit k u (x, mx, member, kind) = elim (Contains-append_cases b.old s.old x mx) [
    | inl leaf ↦ inl (leaf_kind x.level u.1 (is.leaves x leaf) kind, in_units b.old x (k, u.0) leaf member)
    | inr twig ↦ inr (twig_kind x.level u.1 (old_twigs x twig) kind, in_units s.old x (k, u.0) twig member)
  ]

  unit_old_leaf : (k : ℕ) (u : Placed Value) → u.1 ≡ true → Contains (units_of_cells b.old) (k, u.0)
      → UnitOf (b.old ++ s.old) k u
  unit_old_leaf k u kind at =
      let (x, mx, member) = of_units b.old (k, u.0) at in
      (x, Contains-append_left b.old s.old x mx, member, leaf_is x.level u.1 (is.leaves x mx) kind)

  unit_old_twig : (k : ℕ) (u : Placed Value) → u.1 ≡ false → Contains (units_of_cells s.old) (k, u.0)
      → UnitOf (b.old ++ s.old) k u
  unit_old_twig k u kind at =
      let (x, mx, member) = of_units s.old (k, u.0) at in
      (x, Contains-append_right b.old s.old x mx, member, twig_is x.level u.1 (old_twigs x mx) kind)

  pub turn_effect : TakeEffect (b.old ++ s.old) (b.new ++ s.new) (is_between from to) (λ k. in_extent (values k))
  turn_effect = record {
    held = λ k in_at.
        let (x, mx, at) = is.covers k in_at in
        let one = is.leaves x mx in
        let l = level_is x in
        (x, Contains-append_left b.old s.old x mx, inl (omega (arith, one, l), at));
    there = λ k u in_at. (
      λ h. elim (new_unit k u h) [
        | inl leaf ↦ absurd (true_false (is_between from to k) in_at ((is.rest k u.0).0 leaf.1).1)
        | inr other ↦ elim ((is.come k u.0).0 other.1) [
          | inl was ↦ absurd (true_false (is_between from to k) in_at (is.apart k u.0 was))
          | inr given ↦ place_in (values k) u given other.0
        ]
      ],
      λ e.
          let (value, kind) = placed (values k) u e in
          unit_new_other k u kind ((is.come k u.0).1 (inr value)),
    );
    others = λ k u out. (
      λ h. elim (new_unit k u h) [
        | inl leaf ↦ unit_old_leaf k u leaf.0 ((is.rest k u.0).0 leaf.1).0
        | inr other ↦ elim ((is.come k u.0).0 other.1) [
          | inl was ↦ unit_old_twig k u other.0 was
          | inr given ↦ absurd (true_false (is_between from to k) (is.within k u.0 given) out)
        ]
      ],
      λ h. elim (old_unit k u h) [
        | inl leaf ↦ unit_new_leaf k u leaf.0 ((is.rest k u.0).1 (leaf.1, out))
        | inr twig ↦ unit_new_other k u twig.0 ((is.come k u.0).1 (inl twig.1))
      ],
    );
  }

twigs_are : (from to : ℕ) (cells : List CellSeen) → Follow 2 from to cells → (c : CellSeen) → Contains cells c
    → c.level ≡ 2
twigs_are from to cells follow c at = (follow_within 2 from to cells c follow at).level_as

pub turned : (t : Store Value) (r : Root) (b s : Row) (more : List Row) (over : Option CellSeen) (from to : ℕ)
    (values : ℕ → Option Value) → IsRowChange t r 2 b s more over → IsTurn b s from to values
    → HasEffect (rows_patch b s more over) (is_between from to) (λ k. in_extent (values k))
turned t r b s more over from to values change is =
    let row = change.lowest in
    rows_effect t r 2 b s more over change (is_between from to) (λ k. in_extent (values k)) (omega arith)
    (turn_effect b s from to values is (twigs_are row.from row.to s.old row.were)
    (twigs_are row.from row.to s.new row.are))
