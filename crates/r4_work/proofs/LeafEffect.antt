-- What a change of a leaf does to units, and to numbers.
use Rattle.std.specs.Prelude.{◌≡◌, ◌↔◌, ◌==◌, ℕ, zero, suc, ◌+◌, ◌^◌, ◌<◌, ◌≤◌, ◌⊎◌, Bool, true, false, List, [], ◌∷◌, ◌++◌, length, drop, take, Contains, None, Option, Some}
use mathlib.Core.Path.{refl, sym, ap, subst, ◌∙◌}
use mathlib.Core.Logic.{inl, inr}
use native.Mathlib.Omega.{arith}
use Rattle.std.proofs.lemmas.List.{append-nil, append_assoc}
use Rattle.std.proofs.lemmas.List.Elements.{Contains-append_cases, Contains-append_left, Contains-append_right}
use Rattle.std.proofs.lemmas.Option.{none-some, same_Some}
use Rattle.r4_base.specs.Key.{rank}
use Rattle.r4_base.specs.Tree.{Holds, Node, Root, Store, UnitAt}
use Rattle.r4_base.specs.Value.{Value}
use Rattle.r4_edit.specs.r4_cell.Patch.{HaveNames, IsChange, Patch, by_name, place, root_after}
use Rattle.r4_edit.specs.r4_cell.Seen.{CellSeen, node_of}
use Rattle.r4_edit.specs.r4_cell.declared.change.Change.{Change}
use Rattle.r4_edit.specs.r4_cell.declared.change.Fresh.{Fresh}
use Rattle.r4_edit.specs.r4_cell.declared.change.Root.{Root as RootPair}
use Rattle.r4_edit.specs.r4_patch.Joining.{ids_of, patch_of_change}
use Rattle.r4_edit.specs.r4_patch.Part.{IsPart, MeetsPart}
use Rattle.r4_edit.proofs.r4_patch.PartCells.{one_above}
use Rattle.r4_edit.proofs.r4_patch.Placed.{over_new, placed_part}
use Rattle.std.proofs.lemmas.Bool.{eq-eqb, ne_eqb}
use Rattle.r4_edit.specs.r4_leaf.Units.{LeafUnit}
use Rattle.r4_edit.specs.Editing.{Edits}
use Rattle.r4_edit.specs.r4_path.Levels.{Keeps, units_of_cells}
use Rattle.r4_edit.specs.r4_path.Nodes.{IsPointable}
use Rattle.r4_edit.specs.r4_path.Steps.{Ascends, OnlyTakes, Step, fresh_ids, name_of, news, olds, root_pair}
use Rattle.r4_edit.proofs.r4_patch.Members.{Distinct, cases, found, here, later, none, there}
use Rattle.r4_edit.proofs.r4_path.OnPath.{new_id, new_stands, stands_old, stands_step}
use Rattle.r4_edit.proofs.r4_path.Rising.{InCell, count_within, follow_within, in_cell, in_node, level_is}
use Rattle.r4_edit.proofs.r4_path.Upwards.{numbered}
use Rattle.r4_edit.specs.r4_patch.Effect.{HasEffect, Placed, UnitIn, in_leaf}
use Rattle.r4_edit.proofs.r4_patch.Holding.{one_holder, unit_held, unit_once}
use Rattle.r4_edit.proofs.r4_patch.Members.{distinct}

-- ---- units of cells

pub units_append : (xs ys : List CellSeen) → units_of_cells (xs ++ ys) ≡ units_of_cells xs ++ units_of_cells ys
units_append [] ys = refl
units_append (x ∷ xs) ys = ap (λ us. (node_of x).units ++ us) (units_append xs ys) ∙ sym (append_assoc (node_of x).units (units_of_cells xs) (units_of_cells ys))

pub to_units : (cells : List CellSeen) (x : CellSeen) (u : LeafUnit) → Contains cells x → Contains (node_of x).units u → Contains (units_of_cells cells) u
to_units [] x u at has = absurd (none x at)
to_units (y ∷ ys) x u at has = elim (cases y x ys at) [
  | inl same ↦ Contains-append_left (node_of y).units (units_of_cells ys) u (subst (λ (z : CellSeen). Contains (node_of z).units u) same has)
  | inr more ↦ Contains-append_right (node_of y).units (units_of_cells ys) u (to_units ys x u more has)
]

pub from_units : (cells : List CellSeen) (u : LeafUnit) → Contains (units_of_cells cells) u → (x : CellSeen) × Contains cells x × Contains (node_of x).units u
from_units [] u at = absurd (none u at)
from_units (y ∷ ys) u at = elim (Contains-append_cases (node_of y).units (units_of_cells ys) u at) [
  | inl mine ↦ (y, here y ys, mine)
  | inr more ↦ let (x, among, has) = from_units ys u more in (x, later y x ys among, has)
]

pub unit_named : (cells : List CellSeen) (k : ℕ) (v : Value) → UnitAt (by_name cells) k v → Contains (units_of_cells cells) (k, v)
unit_named cells k v (i, c, e, has) =
    let (x, among, is, says) = found cells i c e in
    to_units cells x (k, v) among (subst (λ (z : Node Value). Contains z.units (k, v)) says has)

pub named_unit : (cells : List CellSeen) (k : ℕ) (v : Value) → Distinct cells → Contains (units_of_cells cells) (k, v) → UnitAt (by_name cells) k v
named_unit cells k v d at = let (x, among, has) = from_units cells (k, v) at in (x.id, node_of x, there cells x d among, has)

-- ---- the steps above

over_units : (over : Option CellSeen) → ((d : CellSeen) → over ≡ Some d → (node_of d).units ≡ []) → units_of_cells (news [] over) ≡ []
over_units None h = refl
over_units (Some c) h = append-nil (node_of c).units ∙ h c refl

pub upper_units : (more : List Step) (over : Option CellSeen) → ((u : Step) → Contains more u → Keeps u) → ((d : CellSeen) → over ≡ Some d → (node_of d).units ≡ []) → units_of_cells (news more over) ≡ units_of_cells (olds more)
upper_units [] over keep h = over_units over h
upper_units (s ∷ more) over keep h =
    units_append s.new (news more over)
    ∙ (ap (λ us. us ++ units_of_cells (news more over)) (keep s (here s more)).units
    ∙ ap (λ us. (node_of s.old).units ++ us) (upper_units more over (λ u at. keep u (later s u more at)) h))

over_fresh : (steps : List Step) (c : CellSeen) → Contains (fresh_ids steps (Some c)) c.id
over_fresh [] c = here c.id []
over_fresh (s ∷ steps) c = Contains-append_right (ids_of (drop 1 s.new)) (fresh_ids steps (Some c)) c.id (over_fresh steps c)

abbrev pub IsSomeLow : Option CellSeen → Type 0
IsSomeLow None = ⊥
IsSomeLow (Some b) = 1 ≤ b.level

-- the cells of a path above a leaf or a node are no leaves
pub ups_high : (s : Store Value) (r : Root) → IsPart s r → (below : Option CellSeen) (cells : List CellSeen) → IsSomeLow below → Ascends s below cells → (x : CellSeen) → Contains cells x → 2 ≤ x.level
ups_high s r part below [] low path x at = absurd (none x at)
ups_high s r part None (c ∷ cells) low path x at = absurd low
ups_high s r part (Some b) (c ∷ cells) low (sc, one, named, rest) x at =
    let up = one_above (node_of c) (name_of b) (part.nodes c.id (node_of c) sc) named low in
    let l = level_is c in
    let high : 2 ≤ c.level = omega (arith, up, l, low) in
    elim (cases c x cells at) [
      | inl same ↦ subst (λ (z : CellSeen). 2 ≤ z.level) (sym same) high
      | inr more ↦ ups_high s r part (Some c) cells (omega (arith, high)) rest x more
    ]

pub taken : (n : ℕ) (xs : List CellSeen) (x : CellSeen) → Contains (take n xs) x → Contains xs x
taken zero xs x at = absurd (none x at)
taken (suc n) [] x at = absurd (none x at)
taken (suc n) (y ∷ ys) x at = elim (cases y x (take n ys) at) [
  | inl same ↦ subst (Contains (y ∷ ys)) (sym same) (here y ys)
  | inr more ↦ later y x ys (taken n ys x more)
]

module _ (s : Store Value) (r : Root) (part : IsPart s r) (leaf : CellSeen) (ups : List CellSeen) (us : List LeafUnit) (before after : Fresh) (d : Change) (ed : Edits leaf ups us before after d) (level : leaf.level ≡ 1) (is : IsChange d.old d.new d.root) (m : MeetsPart (patch_of_change d) s r) where
  abbrev q : Patch Value
  q = patch_of_change d

  steps : List Step
  steps = ed.lowest ∷ ed.more

  upper : List LeafUnit
  upper = units_of_cells (olds ed.more)

  old_is : d.old ≡ leaf ∷ olds ed.more
  old_is = ed.levels.old ∙ ap (λ (x : CellSeen). x ∷ olds ed.more) ed.old

  old_distinct : Distinct (leaf ∷ olds ed.more)
  old_distinct = distinct (leaf ∷ olds ed.more) (subst HaveNames old_is is.old_names)

  new_distinct : Distinct d.new
  new_distinct = distinct d.new is.new_names

  old_units : units_of_cells d.old ≡ (node_of leaf).units ++ upper
  unfolding upper
  old_units = ap units_of_cells old_is

  new_units : units_of_cells d.new ≡ us ++ upper
  unfolding upper
  new_units =
      ap units_of_cells ed.levels.new
      ∙ (units_append ed.lowest.new (news ed.more ed.over)
      ∙ (ap (λ xs. xs ++ units_of_cells (news ed.more ed.over)) ed.units
      ∙ ap (λ xs. us ++ xs) (upper_units ed.more ed.over ed.keep ed.root_units)))

  there_old : (x : CellSeen) → Contains (leaf ∷ olds ed.more) x → q.old x.id ≡ Some (node_of x)
  there_old x at = ap (λ cells. by_name cells x.id) old_is ∙ there (leaf ∷ olds ed.more) x old_distinct at

  leaf_there : q.old leaf.id ≡ Some (node_of leaf)
  leaf_there = there_old leaf (here leaf (olds ed.more))

  leaf_holds : (k : ℕ) → InCell leaf k → Holds (node_of leaf) k
  leaf_holds k at = let l = level_is leaf in inl (omega (arith, l, level), in_node leaf k at)

  -- ---- where units stand

  no_upper : (k : ℕ) (v : Value) → InCell leaf k → Contains upper (k, v) → ⊥
  unfolding upper
  no_upper k v at has =
      let (x, among, has_x) = from_units (olds ed.more) (k, v) has in
      let sx = m.meets.has_old x.id (node_of x) (there_old x (later leaf x (olds ed.more) among)) in
      let sl = m.meets.has_old leaf.id (node_of leaf) leaf_there in
      old_distinct.0 x among (one_holder s r part k leaf.id x.id (node_of leaf) (node_of x) sl sx (leaf_holds k at) (unit_held (node_of x) k v (part.nodes x.id (node_of x) sx) has_x))

  leaf_in : (k : ℕ) (v : Value) → Contains (node_of leaf).units (k, v) → InCell leaf k
  leaf_in k v has = in_cell leaf k ((part.nodes leaf.id (node_of leaf) (m.meets.has_old leaf.id (node_of leaf) leaf_there)).unit_in k v has)

  new_among : (x : CellSeen) → Contains ed.lowest.new x → Contains d.new x
  new_among x at = subst (λ cells. Contains cells x) (sym ed.levels.new) (Contains-append_left ed.lowest.new (news ed.more ed.over) x at)

  us_in : (k : ℕ) (v : Value) → Contains us (k, v) → InCell leaf k
  us_in k v has =
      let (x, among, has_x) = from_units ed.lowest.new (k, v) (subst (λ xs. Contains xs (k, v)) (sym ed.units) has) in
      let at_x = in_cell x k ((is.patch.nodes x.id (node_of x) (there d.new x new_distinct (new_among x among))).unit_in k v has_x) in
      let w = follow_within ed.lowest.old.level (rank ed.lowest.old.lo) (rank ed.lowest.old.hi) ed.lowest.new x ed.climbs.0.ranges among in
      let from : rank leaf.lo ≤ rank x.lo = subst (λ (c : CellSeen). rank c.lo ≤ rank x.lo) ed.old w.from in
      let to : rank x.hi ≤ rank leaf.hi = subst (λ (c : CellSeen). rank x.hi ≤ rank c.hi) ed.old w.to in
      (omega (arith, from, at_x), omega (arith, to, at_x))

  to_new : (k : ℕ) (v : Value) → Contains us (k, v) ⊎ Contains upper (k, v) → UnitAt q.new k v
  to_new k v h = named_unit d.new k v new_distinct (subst (λ xs. Contains xs (k, v)) (sym new_units) (elim h [
    | inl x ↦ Contains-append_left us upper (k, v) x
    | inr x ↦ Contains-append_right us upper (k, v) x
  ]))

  -- a key has one of the units
  pub us_once : (k : ℕ) (v w : Value) → Contains us (k, v) → Contains us (k, w) → v ≡ w
  us_once k v w a b = unit_once (place q s) (root_after q r) (placed_part q s r is.patch part m.meets m.unnamed) k v w (placed k v a) (placed k w b)
    where
      placed : (k : ℕ) (v : Value) → Contains us (k, v) → UnitAt (place q s) k v
      placed k v h = let (i, c, nc, has) = to_new k v (inl h) in (i, c, over_new (q.new i) (q.old i) (s i) c nc, has)

  -- ---- which cells are leaves

  module _ (above : Ascends s (Some leaf) ups) where
    is_leaf : (x : CellSeen) → x.level ≡ 1 → ((node_of x).level == 1) ≡ true
    is_leaf x e = eq-eqb (node_of x).level 1 (level_is x ∙ e)

    no_leaf : (x : CellSeen) → 2 ≤ x.level → ((node_of x).level == 1) ≡ false
    no_leaf x two = let l = level_is x in ne_eqb (node_of x).level 1 (λ e. absurd (omega (arith, l, e, two)))

    -- the cells above the leaf
    high_old : (x : CellSeen) → Contains (olds ed.more) x → 2 ≤ x.level
    high_old x at = ups_high s r part (Some leaf) ups (omega (arith, level)) above x (taken (length ed.more) ups x (subst (λ xs. Contains xs x) ed.ups_are at))

    -- those in their place
    high_new : (x : CellSeen) (u : LeafUnit) → Contains (news ed.more ed.over) x → Contains (node_of x).units u → 2 ≤ x.level
    high_new x u at has = elim (new_stands (Some ed.lowest) ed.more ed.over x at) [
      | inr over ↦ absurd (none u (subst (λ xs. Contains xs u) (ed.root_units x over) has))
      | inl h ↦
          let (b, w, st, among) = h in
          let step = stands_step (Some ed.lowest) ed.more b w ed.climbs.1 st in
          let within = follow_within w.old.level (rank w.old.lo) (rank w.old.hi) w.new x step.ranges among in
          let high = high_old w.old (stands_old (Some ed.lowest) ed.more b w st) in
          let same = within.level_as in
          omega (arith, high, same)
    ]

    low_new : (x : CellSeen) → Contains ed.lowest.new x → x.level ≡ 1
    low_new x at =
        let within = follow_within ed.lowest.old.level (rank ed.lowest.old.lo) (rank ed.lowest.old.hi) ed.lowest.new x ed.climbs.0.ranges at in
        within.level_as ∙ (ap (λ (c : CellSeen). c.level) ed.old ∙ level)

    -- ---- the effect

    new_from : (k : ℕ) (u : Placed Value) → UnitIn q.new k u → (Contains us (k, u.0) × (u.1 ≡ true)) ⊎ (Contains upper (k, u.0) × (u.1 ≡ false))
    unfolding upper
    new_from k u (i, c, e, has, kind) =
        let (x, at, id, says) = found d.new i c e in
        let has_x = subst (λ (z : Node Value). Contains z.units (k, u.0)) says has in
        let kind_x = subst (λ (z : Node Value). (z.level == 1) ≡ u.1) says kind in
        elim (Contains-append_cases ed.lowest.new (news ed.more ed.over) x (subst (λ cells. Contains cells x) ed.levels.new at)) [
          | inl low ↦ inl (subst (λ xs. Contains xs (k, u.0)) ed.units (to_units ed.lowest.new x (k, u.0) low has_x), sym kind_x ∙ is_leaf x (low_new x low))
          | inr high ↦ inr (subst (λ xs. Contains xs (k, u.0)) (upper_units ed.more ed.over ed.keep ed.root_units) (to_units (news ed.more ed.over) x (k, u.0) high has_x), sym kind_x ∙ no_leaf x (high_new x (k, u.0) high has_x))
        ]

    in_new : (x : CellSeen) → Contains (ed.lowest.new ++ news ed.more ed.over) x → q.new x.id ≡ Some (node_of x)
    in_new x at = there d.new x new_distinct (subst (λ cells. Contains cells x) (sym ed.levels.new) at)

    new_low : (k : ℕ) (v : Value) → Contains us (k, v) → UnitIn q.new k (v, true)
    new_low k v h =
        let (x, at, has) = from_units ed.lowest.new (k, v) (subst (λ xs. Contains xs (k, v)) (sym ed.units) h) in
        (x.id, node_of x, in_new x (Contains-append_left ed.lowest.new (news ed.more ed.over) x at), has, is_leaf x (low_new x at))

    new_high : (k : ℕ) (v : Value) → Contains upper (k, v) → UnitIn q.new k (v, false)
    unfolding upper
    new_high k v h =
        let (x, at, has) = from_units (news ed.more ed.over) (k, v) (subst (λ xs. Contains xs (k, v)) (sym (upper_units ed.more ed.over ed.keep ed.root_units)) h) in
        (x.id, node_of x, in_new x (Contains-append_right ed.lowest.new (news ed.more ed.over) x at), has, no_leaf x (high_new x (k, v) at has))

    old_from : (k : ℕ) (u : Placed Value) → UnitIn q.old k u → (Contains (node_of leaf).units (k, u.0) × (u.1 ≡ true)) ⊎ (Contains upper (k, u.0) × (u.1 ≡ false))
    unfolding upper
    old_from k u (i, c, e, has, kind) =
        let (x, at, id, says) = found d.old i c e in
        let has_x = subst (λ (z : Node Value). Contains z.units (k, u.0)) says has in
        let kind_x = subst (λ (z : Node Value). (z.level == 1) ≡ u.1) says kind in
        elim (cases leaf x (olds ed.more) (subst (λ cells. Contains cells x) old_is at)) [
          | inl same ↦ inl (subst (λ (z : CellSeen). Contains (node_of z).units (k, u.0)) same has_x, sym kind_x ∙ is_leaf x (ap (λ (z : CellSeen). z.level) same ∙ level))
          | inr high ↦ inr (to_units (olds ed.more) x (k, u.0) high has_x, sym kind_x ∙ no_leaf x (high_old x high))
        ]

    old_low : (k : ℕ) (v : Value) → Contains (node_of leaf).units (k, v) → UnitIn q.old k (v, true)
    old_low k v h = (leaf.id, node_of leaf, leaf_there, h, is_leaf leaf level)

    old_high : (k : ℕ) (v : Value) → Contains upper (k, v) → UnitIn q.old k (v, false)
    unfolding upper
    old_high k v h =
        let (x, at, has) = from_units (olds ed.more) (k, v) h in
        (x.id, node_of x, there_old x (later leaf x (olds ed.more) at), has, no_leaf x (high_old x at))

    placed_value : (o : Option Value) (v : Value) (b : Bool) → in_leaf o ≡ Some (v, b) → (o ≡ Some v) × (b ≡ true)
    placed_value None v b e = absurd (none-some (v, b) e)
    placed_value (Some x) v b e = let same = same_Some (x, true) (v, b) e in (ap (λ (u : Placed Value). Some u.0) same, ap (λ (u : Placed Value). u.1) (sym same))

    pub leaf_effect : (at : ℕ → Bool) (to : ℕ → Option Value) → ((k : ℕ) → at k ≡ true → InCell leaf k) → ((k : ℕ) (v : Value) → at k ≡ true → Contains us (k, v) ↔ (to k ≡ Some v)) → ((k : ℕ) (v : Value) → at k ≡ false → Contains us (k, v) ↔ Contains (node_of leaf).units (k, v)) → HasEffect q at (λ k. in_leaf (to k))
    leaf_effect at to inside says same = record {
      held = λ k h. (leaf.id, node_of leaf, leaf_there, leaf_holds k (inside k h));
      there = λ k u h. (
        λ x. elim (new_from k u x) [
          | inl y ↦ ap in_leaf ((says k u.0 h).0 y.0) ∙ ap (λ b. Some (u.0, b)) (sym y.1)
          | inr y ↦ absurd (no_upper k u.0 (inside k h) y.0)
        ],
        λ e. let (is_v, leaf_kind) = placed_value (to k) u.0 u.1 e in subst (λ b. UnitIn q.new k (u.0, b)) (sym leaf_kind) (new_low k u.0 ((says k u.0 h).1 is_v)),
      );
      others = λ k u h. (
        λ x. elim (new_from k u x) [
          | inl y ↦ subst (λ b. UnitIn q.old k (u.0, b)) (sym y.1) (old_low k u.0 ((same k u.0 h).0 y.0))
          | inr y ↦ subst (λ b. UnitIn q.old k (u.0, b)) (sym y.1) (old_high k u.0 y.0)
        ],
        λ x. elim (old_from k u x) [
          | inl y ↦ subst (λ b. UnitIn q.new k (u.0, b)) (sym y.1) (new_low k u.0 ((same k u.0 h).1 y.0))
          | inr y ↦ subst (λ b. UnitIn q.new k (u.0, b)) (sym y.1) (new_high k u.0 y.0)
        ],
      );
    }

  -- ---- the numbers

  pub new_numbers : (c : CellSeen) → Contains d.new c → q.old c.id ≡ None → c.id < after.next
  unfolding steps
  new_numbers c at gone = elim (new_id None steps ed.over c ed.climbs (subst (λ cells. Contains cells c) ed.levels.new at)) [
    | inl h ↦
        let (b, u, st, e) = h in
        let old_at : Contains d.old u.old = subst (λ cells. Contains cells u.old) (sym ed.levels.old) (stands_old None steps b u st) in
        absurd (none-some (node_of u.old) (sym gone ∙ (ap q.old e ∙ there d.old u.old (distinct d.old is.old_names) old_at)))
    | inr h ↦
        let w = count_within before.next (fresh_ids steps ed.over) c.id ed.counts h in
        let number : after.next ≡ before.next + length (fresh_ids steps ed.over) = ap (λ (f : Fresh). f.next) ed.number in
        omega (arith, w, number)
  ]

  root_from : (over : Option CellSeen) (x : RootPair) → root_pair over ≡ Some x → (c : CellSeen) × (over ≡ Some c) × (x.id.0 ≡ c.id)
  root_from None x e = absurd (none-some x e)
  root_from (Some c) x e = (c, refl, ap (λ (y : RootPair). y.id.0) (sym (same_Some _ x e)))

  pub root_number : 2 ^ 63 ≤ before.next → before.end < 2 ^ 64 → OnlyTakes before after → (x : RootPair) → d.root ≡ Some x → IsPointable x.id.0
  unfolding steps
  root_number low high takes x e =
      let (c, over, id) = root_from ed.over x (sym ed.levels.pair ∙ e) in
      let w = count_within before.next (fresh_ids steps ed.over) c.id ed.counts (subst (λ o. Contains (fresh_ids steps o) c.id) (sym over) (over_fresh steps c)) in
      let number : after.next ≡ before.next + length (fresh_ids steps ed.over) = ap (λ (f : Fresh). f.next) ed.number in
      numbered x.id.0 (omega (arith, w, low, id)) (omega (arith, w, number, takes, high, id))
