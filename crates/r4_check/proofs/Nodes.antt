-- Each cell of a walk stands by itself as cells of trees do.
use Rattle.std.proofs.Common.{◌≡◌, inl, inr, ℕ, zero, suc, ◌+◌, ◌*◌, ◌<◌, ◌≤◌, Bool, true, false, List, [], ◌∷◌, length, refl, sym, ap, subst, ◌∙◌, arith, lit<}
use Rattle.std.specs.Prelude.{Option, Some, None, Contains, if◌then◌else◌}
use Rattle.std.specs.Option.{is_none}
use Rattle.std.proofs.lemmas.List.Elements.{Contains-append_cases}
use Rattle.r4_base.specs.Cell.{block_names, cell_fault, cell_of, is_extent, is_pointer, item_names, names_in, next_key, pointer_names, run_names}
use Rattle.r4_base.specs.Extents.{is_hole, pointer_of, units_of}
use Rattle.r4_base.specs.Image.{Image, IsImage, block_at}
use Rattle.r4_base.specs.Key.{least, rank, top}
use Rattle.r4_base.specs.Layout.{IsLawfulSuper}
use Rattle.r4_base.specs.Node.{Item, items_of}
use Rattle.r4_base.specs.Tree.{IsNode, Name, Node}
use Rattle.r4_base.specs.Value.{Value}
use Rattle.r4_base.specs.declared.items.CellFault.{CellFault}
use Rattle.r4_base.specs.declared.items.Unit.{Unit as ExtentUnit}
use Rattle.r4_base.specs.declared.superblock.Super40.{Super40}
use Rattle.r4_cell.proofs.Nodes.{cell_node, data_node}
use Rattle.r4_list.specs.Lists.{root_name_of}
use Rattle.r4_check.specs.Walk.{Walk, cell_at, is_reached, look, meet, names_below, refusal_at}
use Rattle.r4_check.proofs.Kept.{look_keeps_with, meet_by, one_of}
use Rattle.r4_check.proofs.Placed.{accepted_fits}

no_name : (n : Name) → Contains [] n → ⊥
no_name n (k, lt, e) = omega (arith, lt)

-- ---- the names of data blocks in a twig

abbrev AreWide : List Name → Type 0
AreWide names = (n : Name) → Contains names n → n.level ≡ 0 → n.hi ≡ n.lo + 4096

run_wide : (key start width : ℕ) → AreWide (run_names key start width)
run_wide key start zero n at is = absurd (no_name n at)
run_wide key start (suc w) n at is = elim (one_of (record { id = start; level = 0; lo = key; hi = key + 4096 }) (run_names (key + 4096) (start + 1) w) n at) [
  | inl e ↦ let P : Name → Type 0 = λ m. m.hi ≡ m.lo + 4096 in subst P e refl
  | inr later ↦ run_wide (key + 4096) (start + 1) w n later is
]

unit_wide : (key : ℕ) (u : ExtentUnit) (hole : Bool) → AreWide (if hole then [] else run_names key u.start u.width)
unit_wide key u true n at is = absurd (no_name n at)
unit_wide key u false n at is = run_wide key u.start u.width n at is

units_wide : (key : ℕ) (us : List ExtentUnit) → AreWide (block_names key us)
units_wide key [] n at is = absurd (no_name n at)
units_wide key (u ∷ us) n at is = elim (Contains-append_cases (if is_hole u then [] else run_names key u.start u.width) (block_names (key + 4096 * u.width) us) n at) [
  | inl here ↦ unit_wide key u (is_hole u) n here is
  | inr later ↦ units_wide (key + 4096 * u.width) us n later is
]

pointer_wide : (key next : ℕ) (o : Option ℕ) → AreWide (pointer_names 2 key next o)
pointer_wide key next None n at is = absurd (no_name n at)
pointer_wide key next (Some to) n at is = elim (one_of _ [] n at) [
  | inl e ↦ let one = ap (λ (m : Name). m.level) e in absurd (omega (arith, one, is))
  | inr later ↦ absurd (no_name n later)
]

kind_wide : (pointer extent : Bool) (a b : List Name) → AreWide a → AreWide b → AreWide (if pointer then a else if extent then b else [])
kind_wide true extent a b x y n at is = x n at is
kind_wide false true a b x y n at is = y n at is
kind_wide false false a b x y n at is = absurd (no_name n at)

item_wide : (next : ℕ) (it : Item) → AreWide (item_names 2 next it)
unfolding item_names
item_wide next it = kind_wide (is_pointer it) (is_extent it) (pointer_names 2 (rank it.key) next (pointer_of it.body)) (block_names (rank it.key) (units_of it.body)) (pointer_wide (rank it.key) next (pointer_of it.body)) (units_wide (rank it.key) (units_of it.body))

items_wide : (hi : ℕ) (items : List Item) → AreWide (names_in 2 hi items)
unfolding names_in
items_wide hi [] n at is = absurd (no_name n at)
items_wide hi (it ∷ items) n at is = elim (Contains-append_cases (item_names 2 (next_key hi items) it) (names_in 2 hi items) n at) [
  | inl here ↦ item_wide (next_key hi items) it n here is
  | inr later ↦ items_wide hi items n later is
]

twig_wide : (lo hi : ℕ) (b : List ℕ) → AreWide (cell_of 2 lo hi b).names
unfolding cell_of
twig_wide lo hi b = items_wide hi (items_of b)

-- ---- cells by themselves

pub of_level : (level lo hi : ℕ) (b : List ℕ) → (cell_of level lo hi b).level ≡ level
unfolding cell_of
of_level zero lo hi b = refl
of_level (suc l) lo hi b = refl

of_lo : (level lo hi : ℕ) (b : List ℕ) → (cell_of level lo hi b).lo ≡ lo
unfolding cell_of
of_lo zero lo hi b = refl
of_lo (suc l) lo hi b = refl

of_hi : (level lo hi : ℕ) (b : List ℕ) → (cell_of level lo hi b).hi ≡ hi
unfolding cell_of
of_hi zero lo hi b = refl
of_hi (suc l) lo hi b = refl

-- a name as a tree has it
pub record IsProper (blocks : ℕ) (n : Name) : Type 0 where
  pub low : least ≤ n.lo
  pub some : n.lo < n.hi
  pub high : n.hi ≤ top
  pub wide : n.level ≡ 0 → n.hi ≡ n.lo + 4096
  pub within : n.id < blocks

node_of_level : (blocks level lo hi : ℕ) (b : List ℕ) → length b ≡ 4096 → least ≤ lo → lo < hi → hi ≤ top → (level ≡ 0 → hi ≡ lo + 4096) → cell_fault false blocks level lo hi b ≡ None → IsNode (cell_of level lo hi b)
node_of_level blocks zero lo hi b whole low some high wide h =
    let e = wide refl in
    subst (λ (k : ℕ). IsNode (cell_of 0 lo k b)) (sym e) (data_node lo b whole low (omega (arith, e, high)))
node_of_level blocks (suc l) lo hi b whole low some high wide h = cell_node false blocks (suc l) lo hi b whole (omega arith) low some high h

module _ (n blocks : ℕ) (image : Image) (is : IsImage n image) (few : blocks ≤ n) where
  node_at : (x : Name) → IsProper blocks x → refusal_at blocks image x ≡ None → IsNode (cell_at image x)
  node_at x p sound = let low = p.within in node_of_level blocks x.level x.lo x.hi (block_at image x.id) (is.whole x.id (omega (arith, low, few))) p.low p.some p.high p.wide sound

  proper_below : (x m : Name) → IsProper blocks x → refusal_at blocks image x ≡ None → Contains (cell_at image x).names m → IsProper blocks m
  proper_below x m p sound at =
      let node = node_at x p sound in
      let b = block_at image x.id in
      let from = node.name_from m at in
      let to = node.name_to m at in
      let lo = of_lo x.level x.lo x.hi b in
      let hi = of_hi x.level x.lo x.hi b in
      let low = p.low in
      let high = p.high in
      record {
        low = omega (arith, from, lo, low);
        some = node.name_nonempty m at;
        high = omega (arith, to, hi, high);
        wide = λ bottom. (elim (node.below m at) [
          | inl above ↦ let one = above.0 in absurd (omega (arith, one, bottom))
          | inr twig ↦ (let two : x.level ≡ 2 = sym (of_level x.level x.lo x.hi b) ∙ twig.0 in
              twig_wide x.lo x.hi b m (subst (λ (l : ℕ). Contains (cell_of l x.lo x.hi b).names m) two at) bottom)
        ]);
        within = (accepted_fits blocks x.level x.lo x.hi b sound m at).0;
      }

  below_member : (again : Bool) (o : Option CellFault) (names : List Name) (m : Name) → Contains (if again then [] else if is_none o then names else []) m → (o ≡ None) × Contains names m
  below_member true o names m at = absurd (no_name m at)
  below_member false None names m at = (refl, at)
  below_member false (Some f) names m at = absurd (no_name m at)

  below_proper : (w : Walk) (x m : Name) → IsProper blocks x → Contains (names_below blocks image w x) m → IsProper blocks m
  unfolding names_below
  below_proper w x m p at =
      let h = below_member (is_reached w x.id) (refusal_at blocks image x) (cell_at image x).names m at in
      proper_below x m p h.0 h.1

  abbrev AreNodes : Walk → Type 0
  AreNodes w = (i : ℕ) (c : Node Value) → Contains w.cells (i, c) → IsNode c

  meet_nodes : (w : Walk) (x : Name) → IsProper blocks x → AreNodes w → AreNodes (meet blocks image w x)
  meet_nodes w x p h = meet_by AreNodes blocks image w x (λ again. h) (λ first sound. accepted sound) (λ f first bad. h)
    where
      accepted : refusal_at blocks image x ≡ None → (i : ℕ) (c : Node Value) → Contains ((x.id, cell_at image x) ∷ w.cells) (i, c) → IsNode c
      accepted sound i c at = elim (one_of (x.id, cell_at image x) w.cells (i, c) at) [
        | inl e ↦ let Q : ℕ × Node Value → Type 0 = λ q. IsNode q.1 in subst Q e (node_at x p sound)
        | inr more ↦ h i c more
      ]

  pub look_nodes : (levels : ℕ) (w : Walk) (x : Name) → IsProper blocks x → AreNodes w → AreNodes (look levels blocks image w x)
  look_nodes = look_keeps_with (IsProper blocks) AreNodes blocks image (λ w x p m at. below_proper w x m p at) meet_nodes

least_below : least < top
unfolding least top
least_below = lit< tt

pub root_proper : (n : ℕ) (s : Super40) → IsLawfulSuper n s → IsProper s.block_count (root_name_of s)
root_proper n s l = let high = l.height.0 in record { low = omega arith; some = least_below; high = omega arith; wide = λ is. absurd (omega (arith, high, is)); within = l.root.1 }
