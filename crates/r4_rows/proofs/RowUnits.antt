-- The units of a change of rows.
use Rattle.std.proofs.Common.{◌≡◌, inl, inr, ℕ, suc, ◌≤◌, List, [], ◌∷◌, ◌++◌, sym, ap, subst, ◌∙◌, arith}
use Rattle.std.specs.Prelude.{◌↔◌, ◌==◌, Bool, false, Contains, Option, None, Some}
use Rattle.std.proofs.lemmas.List.Elements.{Contains-append_cases, Contains-append_left, Contains-append_right}
use Rattle.r4_base.specs.Tree.{IsNode, Node, Root, Span, Store}
use Rattle.r4_base.specs.Value.{Value}
use Rattle.r4_patch.specs.Effect.{HasEffect, Placed, UnitIn}
use Rattle.r4_cell.specs.Patch.{patch_of}
use Rattle.r4_cell.specs.declared.change.Root.{Root as RootPair}
use Rattle.r4_cell.specs.Seen.{CellSeen, node_of}
use Rattle.r4_path.specs.Levels.{units_of_cells}
use Rattle.r4_path.specs.Steps.{AreSpanning, root_pair}
use Rattle.r4_patch.proofs.Members.{Distinct, cases, found, here, none, there}
use Rattle.r4_path.proofs.Rising.{level_is}
use Rattle.r4_patch.proofs.Members.{distinct}
use Rattle.r4_rows.specs.Rows.{IsPlainRowChange, IsRowChange, Row, news_in, no_row, olds_in}
use Rattle.r4_rows.specs.Units.{KeepUnits, TakeEffect, UnitOf}
use Rattle.r4_rows.proofs.Stacked.{Stands, at_least}
use Rattle.r4_rows.proofs.RowCells.{distinct_old, end_of, low_up_new, low_up_old, new_cases, new_within, old_cases}
use Rattle.r4_rows.proofs.RowCells.{old_node}
use Rattle.r4_rows.proofs.RowCells.{old_within, one_le, over_in_new, over_is, over_level, row_in_new, row_in_old}
use Rattle.r4_rows.proofs.RowCells.{top_row}

-- ---- on lists of cells

pub same_bool : (m n : ℕ) (v : Bool) → m ≡ n → (m == 1) ≡ v → (n == 1) ≡ v
same_bool m n v e h = subst (λ l. (l == 1) ≡ v) e h

to_cells : (cells : List CellSeen) (k : ℕ) (u : Placed Value) (p : Store Value)
    → ((i : ℕ) (c : Node Value) → p i ≡ Some c
    → (x : CellSeen) × Contains cells x × (x.id ≡ i) × (c ≡ node_of x)) → UnitIn p k u → UnitOf cells k u
to_cells cells k u p finds (i, c, e, member, kind) =
    let (x, mx, id, says) = finds i c e in (
      x,
      mx,
      subst (λ (d : Node Value). Contains d.units (k, u.0)) says member,
      same_bool c.level x.level u.1 (ap (λ (d : Node Value). d.level) says ∙ level_is x) kind,
    )

from_cells : (cells : List CellSeen) (k : ℕ) (u : Placed Value) (p : Store Value) → ((x : CellSeen) → Contains cells x
    → p x.id ≡ Some (node_of x)) → UnitOf cells k u → UnitIn p k u
from_cells cells k u p is_there (x, mx, member, kind) =
    (x.id, node_of x, is_there x mx, member, same_bool x.level (node_of x).level u.1 (sym (level_is x)) kind)

pub cells_effect : (old new : List CellSeen) (root : Option RootPair) (at : ℕ → Bool) (to : ℕ → Option (Placed Value))
    → Distinct old
    → Distinct new → TakeEffect old new at to → HasEffect (patch_of old new root) at to
cells_effect old new root at to once_old once_new e =
    let news : (k : ℕ) (u : Placed Value) → UnitIn (patch_of old new root).new k u ↔ UnitOf new k u =
    λ k u. (
      to_cells new k u (patch_of old new root).new (found new),
      from_cells new k u (patch_of old new root).new (λ x mx. there new x once_new mx),
    ) in
    let olds : (k : ℕ) (u : Placed Value) → UnitIn (patch_of old new root).old k u ↔ UnitOf old k u =
    λ k u. (
      to_cells old k u (patch_of old new root).old (found old),
      from_cells old k u (patch_of old new root).old (λ x mx. there old x once_old mx),
    ) in
    record {
      held = λ k in_at. let (x, mx, holds) = e.held k in_at in (x.id, node_of x, there old x once_old mx, holds);
      there = λ k u in_at. (
        λ h. (e.there k u in_at).0 ((news k u).0 h),
        λ h. (news k u).1 ((e.there k u in_at).1 h),
      );
      others = λ k u out. (
        λ h. (olds k u).1 ((e.others k u out).0 ((news k u).0 h)),
        λ h. (news k u).1 ((e.others k u out).1 ((olds k u).0 h)),
      );
    }

-- ---- units of lists

pub in_units : (cells : List CellSeen) (x : CellSeen) (w : ℕ × Value) → Contains cells x → Contains (node_of x).units w
    → Contains (units_of_cells cells) w
in_units [] x w at member = absurd (none x at)
in_units (c ∷ cells) x w at member = elim (cases c x cells at) [
  | inl is ↦ Contains-append_left (node_of c).units (units_of_cells cells) w
      (subst (λ (z : CellSeen). Contains (node_of z).units w) is member)
  | inr more ↦ Contains-append_right (node_of c).units (units_of_cells cells) w (in_units cells x w more member)
]

pub of_units : (cells : List CellSeen) (w : ℕ × Value) → Contains (units_of_cells cells) w → (x : CellSeen)
    × Contains cells x
    × Contains (node_of x).units w
of_units [] w at = absurd (none w at)
of_units (c ∷ cells) w at = elim (Contains-append_cases (node_of c).units (units_of_cells cells) w at) [
  | inl mine ↦ (c, here c cells, mine)
  | inr more ↦
      let (x, mx, member) = of_units cells w more in
      (x, Contains-append_right (c ∷ []) cells x mx, member)
]

-- a cell above the twigs has no units
high_no_units : (x : CellSeen) (k : ℕ) (v : Value) → IsNode (node_of x) → 3 ≤ x.level
    → Contains (node_of x).units (k, v) → ⊥
high_no_units x k v ok high member =
    let l = level_is x in
    elim (ok.unit_low k v member) [
      | inl low ↦ omega (arith, low, l, high)
      | inr span ↦ let two = ok.spans_in_twigs span.0 span.1 in omega (arith, two, l, high)
    ]

-- nor has a root without extents
bare_no_units : (x : CellSeen) (k : ℕ) (v : Value) → IsNode (node_of x) → 2 ≤ x.level
    → ((s : Span) → AreSpanning (x ∷ []) s → ⊥)
    → Contains (node_of x).units (k, v) → ⊥
bare_no_units x k v ok high bare member =
    let l = level_is x in
    elim (ok.unit_low k v member) [
      | inl low ↦ omega (arith, low, l, high)
      | inr span ↦ bare span.0 (x, here x [], span.1)
    ]

module _ (t : Store Value) (r : Root) (l : ℕ) (b s : Row) (more : List Row) (over : Option CellSeen)
    (is : IsRowChange t r l b s more over) where
  abbrev old : List CellSeen
  old = b.old ++ olds_in (s ∷ more)

  abbrev new : List CellSeen
  new = b.new ++ news_in (s ∷ more) over

  distinct_new : Distinct new
  distinct_new = distinct new is.new_names

  over_bare : (x : CellSeen) (k : ℕ) (v : Value) → over ≡ Some x → Contains (node_of x).units (k, v) → ⊥
  over_bare x k v e member =
      let top = top_row t r l b s more over is in
      let (high, last, end) = end_of r over top.row top.ends in
      let (is_last, o) = over_is t r l b s more over is high last end x e in
      let ll = over_level t r l b s more over is high last end o in
      let one = one_le t r l b s more over is top.level top.below top.row top.stands in
      bare_no_units last k v (is.nodes last (over_in_new t r l b s more over is last (e ∙ ap Some is_last)))
      (omega (arith, ll, one)) o.spans (subst (λ (z : CellSeen). Contains (node_of z).units (k, v)) is_last member)

  -- ---- where the lowest row is one of twigs

  -- a unit of a cell is one of the twigs', or of what is below
  low_old : 2 ≤ l → (k : ℕ) (u : Placed Value) → UnitOf old k u → UnitOf (b.old ++ s.old) k u
  low_old two k u (x, mx, member, kind) = elim (old_cases t r l b s more over is x mx) [
    | inl low ↦ (x, Contains-append_left b.old s.old x low, member, kind)
    | inr up ↦ let (m, u1, v, h, in_v) = up in elim h [
      | inl e ↦ (x, Contains-append_right b.old s.old x (subst (λ (z : Row). Contains z.old x) e.2 in_v), member, kind)
      | inr g ↦
          let le = at_least (suc l) s more m u1 v g in
          let xl = (old_within t r l b s more over is m u1 v x (inr g) in_v).level_as in
          absurd (high_no_units x k u.0 (old_node t r l b s more over is x mx) (omega (arith, le, xl, two)) member)
    ]
  ]

  low_new : 2 ≤ l → (k : ℕ) (u : Placed Value) → UnitOf new k u → UnitOf (b.new ++ s.new) k u
  low_new two k u (x, mx, member, kind) = elim (new_cases t r l b s more over is x mx) [
    | inl low ↦ (x, Contains-append_left b.new s.new x low, member, kind)
    | inr up ↦ elim up [
      | inl row_x ↦ let (m, u1, v, h, in_v) = row_x in elim h [
        | inl e ↦ (
          x,
          Contains-append_right b.new s.new x (subst (λ (z : Row). Contains z.new x) e.2 in_v),
          member,
          kind,
        )
        | inr g ↦
            let le = at_least (suc l) s more m u1 v g in
            let xl = (new_within t r l b s more over is m u1 v x (inr g) in_v).level_as in
            absurd (high_no_units x k u.0 (is.nodes x mx) (omega (arith, le, xl, two)) member)
      ]
      | inr e ↦ absurd (over_bare x k u.0 e member)
    ]
  ]

  lift_old : (k : ℕ) (u : Placed Value) → UnitOf (b.old ++ s.old) k u → UnitOf old k u
  lift_old k u (x, mx, member, kind) = (x, low_up_old t r l b s more over is x mx, member, kind)

  lift_new : (k : ℕ) (u : Placed Value) → UnitOf (b.new ++ s.new) k u → UnitOf new k u
  lift_new k u (x, mx, member, kind) = (x, low_up_new t r l b s more over is x mx, member, kind)

  pub rows_effect : (at : ℕ → Bool) (to : ℕ → Option (Placed Value)) → 2 ≤ l
      → TakeEffect (b.old ++ s.old) (b.new ++ s.new) at to
      → HasEffect (patch_of old new (root_pair over)) at to
  rows_effect at to two e =
      cells_effect old new (root_pair over) at to (distinct_old t r l b s more over is) distinct_new (record {
        held = λ k in_at. let (x, mx, holds) = e.held k in_at in (x, low_up_old t r l b s more over is x mx, holds);
        there = λ k u in_at. (
          λ h. (e.there k u in_at).0 (low_new two k u h),
          λ h. lift_new k u ((e.there k u in_at).1 h),
        );
        others = λ k u out. (
          λ h. lift_old k u ((e.others k u out).0 (low_new two k u h)),
          λ h. lift_new k u ((e.others k u out).1 (low_old two k u h)),
        );
      })

-- ---- rows alone

kept_units : (l : ℕ) (b : Row) (rows : List Row) (m : ℕ) (u v : Row) → KeepUnits rows → Stands l b rows m u v
    → units_of_cells v.new ≡ units_of_cells v.old
kept_units l b [] m u v keep h = absurd h
kept_units l b (s ∷ rows) m u v (first, rest) (inl (em, eu, ev)) =
    subst (λ (z : Row). units_of_cells z.new ≡ units_of_cells z.old)
    (sym ev) first
kept_units l b (s ∷ rows) m u v (first, rest) (inr h) = kept_units (suc l) s rows m u v rest h

module _ (t : Store Value) (r : Root) (l : ℕ) (s : Row) (more : List Row) (over : Option CellSeen)
    (is : IsRowChange t r l no_row s more over) (keep : KeepUnits (s ∷ more)) where
  still : (k : ℕ) (u : Placed Value) → UnitOf (olds_in (s ∷ more)) k u → UnitOf (news_in (s ∷ more) over) k u
  still k u (x, mx, member, kind) = elim (old_cases t r l no_row s more over is x mx) [
    | inl low ↦ absurd (none x low)
    | inr up ↦
        let (m, w, v, h, in_v) = up in
        let e = kept_units l no_row (s ∷ more) m w v keep h in
        let (y, my, in_y) = of_units v.new (k, u.0)
        (subst (λ (us : List (ℕ × Value)). Contains us (k, u.0)) (sym e) (in_units v.old x (k, u.0) in_v member)) in
        let xl = (old_within t r l no_row s more over is m w v x h in_v).level_as in
        let yl = (new_within t r l no_row s more over is m w v y h my).level_as in
        (y, row_in_new t r l no_row s more over is m w v y h my, in_y, same_bool x.level y.level u.1 (xl ∙ sym yl) kind)
  ]

  before : (k : ℕ) (u : Placed Value) → UnitOf (news_in (s ∷ more) over) k u → UnitOf (olds_in (s ∷ more)) k u
  before k u (x, mx, member, kind) = elim (new_cases t r l no_row s more over is x mx) [
    | inl low ↦ absurd (none x low)
    | inr up ↦ elim up [
      | inl row_x ↦
          let (m, w, v, h, in_v) = row_x in
          let e = kept_units l no_row (s ∷ more) m w v keep h in
          let (y, my, in_y) = of_units v.old (k, u.0)
          (subst (λ (us : List (ℕ × Value)). Contains us (k, u.0)) e (in_units v.new x (k, u.0) in_v member)) in
          let xl = (new_within t r l no_row s more over is m w v x h in_v).level_as in
          let yl = (old_within t r l no_row s more over is m w v y h my).level_as in (
            y,
            row_in_old t r l no_row s more over is m w v y h my,
            in_y,
            same_bool x.level y.level u.1 (xl ∙ sym yl) kind,
          )
      | inr e ↦ absurd (over_bare t r l no_row s more over is x k u.0 e member)
    ]
  ]

  pub units_kept : HasEffect (patch_of (olds_in (s ∷ more)) (news_in (s ∷ more) over) (root_pair over)) (λ k. false)
      (λ k. None)
  units_kept = cells_effect (olds_in (s ∷ more)) (news_in (s ∷ more) over) (root_pair over) (λ k. false) (λ k. None)
      (distinct_old t r l no_row s more over is) (distinct (news_in (s ∷ more) over) is.new_names) (record {
        held = λ k e. absurd cc;
        there = λ k u e. absurd cc;
        others = λ k u out. (before k u, still k u);
      })

pub plain_rows : (t : Store Value) (r : Root) (l : ℕ) (s : Row) (more : List Row) (over : Option CellSeen)
    → IsPlainRowChange t r l s more over → IsRowChange t r l no_row s more over
plain_rows t r l s more over is = record {
  part = is.part;
  branch = is.branch;
  gone = λ c at. absurd (none c at);
  low_old = λ c at. absurd (none c at);
  low_new = λ c at. absurd (none c at);
  lowest = is.lowest;
  mounts = is.mounts;
  ends = is.ends;
  nodes = is.nodes;
  old_names = λ i j d less long. absurd (omega (arith, long));
  new_names = is.new_names;
  each = is.each;
}
