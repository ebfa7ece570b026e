-- The items of a node that may stand as a cell: where a key lies among them, and what they name.
use Rattle.std.proofs.Common.{◌≡◌, ◌≢◌, ◌⊎◌, inl, inr, ℕ, zero, suc, ◌+◌, ◌-◌, ◌^◌, ◌<◌, ◌≤◌, Bool, true, false, List, [], ◌∷◌, length, drop, refl, sym, ap, subst, ◌∙◌, arith}
use Rattle.std.specs.Prelude.{Option, Some, None, Contains, ◌==◌, if◌then◌else◌, slice_get}
use Rattle.std.specs.Option.{option_map}
use Rattle.std.proofs.lemmas.Bool.{eq-eqb, eqb-true}
use Rattle.std.proofs.lemmas.Bool.Decides.{nat_tests}
use Rattle.std.proofs.lemmas.List.{drop_all}
use Rattle.std.proofs.lemmas.List.Elements.{Contains-append_left, Contains-append_right}
use Rattle.std.proofs.lemmas.Option.{same_Some}
use Rattle.r4_base.specs.Key.{rank}
use Rattle.r4_base.specs.Node.{Item, PluginsFit, count_of, items_of, level_of, node_fault, fits_level}
use Rattle.r4_base.specs.Tree.{Name, Span}
use Rattle.r4_base.specs.Cell.{cell_fault, cell_of, item_body_fault, item_names, items_in_fault, names_in, next_key, spans_in}
use Rattle.r4_base.specs.Extents.{pointer_of}
use Rattle.r4_base.specs.declared.node.NodeFault.{NodeFault}
use Rattle.r4_base.specs.declared.items.CellFault.{CellFault}
use Rattle.r4_base.specs.declared.items.CellFault.TheVariants.{Level, Node, Pointer}
use Rattle.r4_base.proofs.Choices.{chosen, or_none, some_items}
use Rattle.r4_cell.proofs.r4_node40.Accepted.{good}
use Rattle.r4_cell.proofs.r4_node40.Following.{item_first}
use Rattle.r4_cell.proofs.r4_node40.Laid.{length-items_of}
use Rattle.r4_cell.specs.Seen.{CellSeen}
use Rattle.r4_search.specs.Path.{LeadsTo, EndsAt}
use Rattle.r4_search.specs.Place.{IsPlace}
use Rattle.r4_cell.proofs.Items.{good_item}

pub next_end : (hi : ℕ) (items : List Item) (i : ℕ) → i ≡ length items → next_key hi (drop i items) ≡ hi
next_end hi items i is = ap (next_key hi) (drop_all i items (omega (arith, is)))

pub item_in : (items : List Item) (i : ℕ) → i < length items → (it : Item) × (slice_get items i ≡ Some it)
item_in [] i lt = absurd (omega (arith, lt))
item_in (it ∷ items) zero lt = (it, refl)
item_in (it ∷ items) (suc i) lt = item_in items i (omega (arith, lt))

-- ---- what an item names is named by its node

pub names_at : (level hi : ℕ) (items : List Item) (i : ℕ) (it : Item) (rest : List Item) (n : Name) → drop i items ≡ it ∷ rest → Contains (item_names level (next_key hi rest) it) n → Contains (names_in level hi items) n
unfolding names_in
names_at level hi [] zero it rest n is at = absurd cc
names_at level hi [] (suc i) it rest n is at = absurd cc
names_at level hi (x ∷ items) zero it rest n is at =
    let e : x ≡ it = cc in
    let f : items ≡ rest = cc in
    Contains-append_left (item_names level (next_key hi items) x) (names_in level hi items) n
    (subst (λ (y : Item). Contains (item_names level (next_key hi items) y) n) (sym e) (subst (λ (ys : List Item). Contains (item_names level (next_key hi ys) it) n) (sym f) at))
names_at level hi (x ∷ items) (suc i) it rest n is at = Contains-append_right (item_names level (next_key hi items) x) (names_in level hi items) n (names_at level hi items i it rest n is at)

abbrev pub extent_span : (next : ℕ) → Item → List Span
extent_span next it = if it.plugin == 5 then record { lo = rank it.key; hi = next } ∷ [] else []

pub spans_at : (hi : ℕ) (items : List Item) (i : ℕ) (it : Item) (rest : List Item) (s : Span) → drop i items ≡ it ∷ rest → Contains (extent_span (next_key hi rest) it) s → Contains (spans_in hi items) s
unfolding spans_in
spans_at hi [] zero it rest s is at = absurd cc
spans_at hi [] (suc i) it rest s is at = absurd cc
spans_at hi (x ∷ items) zero it rest s is at =
    let e : x ≡ it = cc in
    let f : items ≡ rest = cc in
    Contains-append_left (extent_span (next_key hi items) x) (spans_in hi items) s
    (subst (λ (y : Item). Contains (extent_span (next_key hi items) y) s) (sym e) (subst (λ (ys : List Item). Contains (extent_span (next_key hi ys) it) s) (sym f) at))
spans_at hi (x ∷ items) (suc i) it rest s is at = Contains-append_right (extent_span (next_key hi items) x) (spans_in hi items) s (spans_at hi items i it rest s is at)

pub body_at : (in_memory : Bool) (blocks level lo hi from : ℕ) (items : List Item) (i : ℕ) (it : Item) → items_in_fault in_memory blocks level lo hi from items ≡ None → slice_get items i ≡ Some it → item_body_fault in_memory blocks it ≡ None
body_at in_memory blocks level lo hi from [] i it h is = absurd cc
body_at in_memory blocks level lo hi from (x ∷ items) zero it h is =
    let e : x ≡ it = cc in
    subst (λ (y : Item). item_body_fault in_memory blocks y ≡ None) e (good_item in_memory blocks level lo hi from x items h).body
body_at in_memory blocks level lo hi from (x ∷ items) (suc i) it h is = body_at in_memory blocks level lo hi (from + 1) items i it (good_item in_memory blocks level lo hi from x items h).rest is

-- ---- a node above the leaves that may stand as a cell

pub record IsBranch (level lo hi : ℕ) (b : List ℕ) : Type 0 where
  pub accepted : node_fault b ≡ None
  pub items : items_in_fault true (2 ^ 64) level lo hi 0 (items_of b) ≡ None
  pub first : next_key hi (items_of b) ≡ lo
  pub fits : PluginsFit level (items_of b)

pub none_of_node : {F : Type 0} (f : Option F) (v : F → CellFault) → option_map v f ≡ None → f ≡ None
none_of_node {F} None v h = refl
none_of_node {F} (Some f) v h = absurd cc

first_key : (in_memory : Bool) (blocks level lo hi : ℕ) (items : List Item) → 2 ≤ level → 0 < length items → items_in_fault in_memory blocks level lo hi 0 items ≡ None → next_key hi items ≡ lo
first_key in_memory blocks level lo hi [] two some h = absurd (omega (arith, some))
first_key in_memory blocks level lo hi (it ∷ items) two some h = (good_item in_memory blocks level lo hi 0 it items h).range.first two refl

pub branch : (level lo hi : ℕ) (b : List ℕ) → length b ≡ 4096 → 2 ≤ level → cell_fault true (2 ^ 64) level lo hi b ≡ None → IsBranch level lo hi b
unfolding cell_fault
branch zero lo hi b whole two h = absurd (omega (arith, two))
branch (suc l) lo hi b whole two h =
    let node = or_none (option_map Node (node_fault b)) _ h in
    let level = or_none (if level_of b == suc l then None else Some Level) _ node.1 in
    let is : level_of b ≡ suc l = eqb-true _ _ (chosen _ Level level.0) in
    let accepted = none_of_node (node_fault b) Node node.0 in
    let laid = good b whole accepted in
    let count = length-items_of b in
    let c = some_items (level_of b) (count_of b) laid.1 (omega (arith, two, is)) in
    record {
      accepted = accepted;
      items = level.1;
      first = first_key true (2 ^ 64) (suc l) lo hi (items_of b) two (omega (arith, c, count)) level.1;
      fits = subst (λ (k : ℕ). PluginsFit k (items_of b)) is laid.0.plugins;
    }

-- ---- where the way goes from it

names_of : (level lo hi : ℕ) (b : List ℕ) → 2 ≤ level → (cell_of level lo hi b).names ≡ names_in level hi (items_of b)
unfolding cell_of
names_of zero lo hi b two = absurd (omega (arith, two))
names_of (suc l) lo hi b two = refl

spans_of : (level lo hi : ℕ) (b : List ℕ) → 2 ≤ level → (cell_of level lo hi b).spans ≡ spans_in hi (items_of b)
unfolding cell_of
spans_of zero lo hi b two = absurd (omega (arith, two))
spans_of (suc l) lo hi b two = refl

pointer_item : (level next to : ℕ) (it : Item) → it.plugin ≡ 3 → pointer_of it.body ≡ Some to → item_names level next it ≡ record { id = to; level = level - 1; lo = rank it.key; hi = next } ∷ []
unfolding item_names
pointer_item level next to it is e = let t : (it.plugin == 3) ≡ true = eq-eqb it.plugin 3 is in rw (t, e) refl

no_pointer : (it : Item) → it.plugin ≡ 3 → pointer_of it.body ≡ None → item_body_fault true (2 ^ 64) it ≡ Some Pointer
unfolding item_body_fault
no_pointer it is e =
    let a : (it.plugin == 0) ≡ false = ap (λ (k : ℕ). k == 0) is in
    let b : (it.plugin == 2) ≡ false = ap (λ (k : ℕ). k == 2) is in
    let t : (it.plugin == 3) ≡ true = eq-eqb it.plugin 3 is in
    rw (a, b, t, e) refl

branch_plugins : (level plugin : ℕ) → 2 ≤ level → fits_level level plugin ≡ true → (plugin ≡ 3) ⊎ (plugin ≡ 5)
branch_plugins level plugin two fits = grind (arith, nat_tests)

extent_plugin : (level plugin : ℕ) → fits_level level plugin ≡ true → 2 ≤ level → plugin ≢ 3 → plugin ≡ 5
extent_plugin level plugin h two other = elim (branch_plugins level plugin two h) [
  | inl is ↦ absurd (other is)
  | inr is ↦ is
]

pub place_key : (hi key i : ℕ) (items : List Item) (it : Item) → slice_get items i ≡ Some it → IsPlace hi items key i → rank it.key ≤ key
place_key hi key i items it is p =
    let e : p.item ≡ it = same_Some p.item it (sym p.is ∙ is) in
    subst (λ (x : Item). rank x.key ≤ key) e p.from

module _ (c : CellSeen) (key i : ℕ) (items : List Item) (is : items ≡ items_of c.block) (two : 2 ≤ c.level) (it : Item) (at : slice_get items i ≡ Some it) (from : rank it.key ≤ key)
    (below : key < next_key (rank c.hi) (drop (i + 1) items)) where
  pub leads : (to : ℕ) → it.plugin ≡ 3 → pointer_of it.body ≡ Some to → LeadsTo c key (record { id = to; level = c.level - 1; lo = rank it.key; hi = next_key (rank c.hi) (drop (i + 1) items) })
  leads to plugin e =
      let n : Name = record { id = to; level = c.level - 1; lo = rank it.key; hi = next_key (rank c.hi) (drop (i + 1) items) } in
      let one : Contains (n ∷ []) n = (zero, omega arith, refl) in
      let there = names_at c.level (rank c.hi) items i it (drop (i + 1) items) n (item_first items i it at) (subst (λ (ns : List Name). Contains ns n) (sym (pointer_item c.level _ to it plugin e)) one) in
      let names = names_of c.level (rank c.lo) (rank c.hi) c.block two in
      let inside : Contains (names_in c.level (rank c.hi) (items_of c.block)) n = subst (λ (xs : List Item). Contains (names_in c.level (rank c.hi) xs) n) is there in
      record { named = subst (λ (ns : List Name). Contains ns n) (sym names) inside; within = (from, below); node = omega (arith, two) }

  pub ends : it.plugin ≡ 5 → EndsAt c key
  ends plugin =
      let s : Span = record { lo = rank it.key; hi = next_key (rank c.hi) (drop (i + 1) items) } in
      let one : Contains (s ∷ []) s = (zero, omega arith, refl) in
      let t : (it.plugin == 5) ≡ true = eq-eqb it.plugin 5 plugin in
      let here : Contains (extent_span (next_key (rank c.hi) (drop (i + 1) items)) it) s = rw t one in
      let there = spans_at (rank c.hi) items i it (drop (i + 1) items) s (item_first items i it at) here in
      let inside : Contains (spans_in (rank c.hi) (items_of c.block)) s = subst (λ (xs : List Item). Contains (spans_in (rank c.hi) xs) s) is there in
      inr (s, subst (λ (ss : List Span). Contains ss s) (sym (spans_of c.level (rank c.lo) (rank c.hi) c.block two)) inside, (from, below))

  module _ (b : IsBranch c.level (rank c.lo) (rank c.hi) c.block) where
    pub ends_at : it.plugin ≢ 3 → EndsAt c key
    ends_at other = ends (extent_plugin c.level it.plugin (b.fits i it (subst (λ (xs : List Item). slice_get xs i ≡ Some it) is at)) two other)

    pub named : it.plugin ≡ 3 → pointer_of it.body ≡ None → ⊥
    named plugin e =
        let good = body_at true (2 ^ 64) c.level (rank c.lo) (rank c.hi) 0 (items_of c.block) i it b.items (subst (λ (xs : List Item). slice_get xs i ≡ Some it) is at) in
        let bad = no_pointer it plugin e in
        cc

pub node_accepted : (f : Option NodeFault) (e : NodeFault) → f ≡ None → f ≡ Some e → ⊥
node_accepted f e good bad = cc
