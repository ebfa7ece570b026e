-- A leaf that has more units than before: its last item is new, or longer.
use Rattle.std.proofs.Common.{◌≡◌, ℕ, zero, suc, ◌+◌, ◌-◌, ◌<◌, ◌≤◌, List, [], ◌∷◌, ◌++◌, length, take, inl, inr, refl, sym, ap, subst, ◌∙◌, arith}
use Rattle.std.specs.Prelude.{slice_get, Some, None}
use Rattle.std.proofs.lemmas.Bool.{cases_lt}
use Rattle.std.proofs.lemmas.List.{append_assoc, append-nil, take_all}
use Rattle.std.proofs.lemmas.Option.{same_Some, slice_get_within}
use Rattle.r4_base.specs.Cell.{item_end, item_units, units_in}
use Rattle.r4_base.specs.Key.{IsBelow, rank}
use Rattle.r4_base.specs.Node.{Item, count_of, item_at, items_of}
use Rattle.r4_base.specs.declared.key.Key.{Key}
use Rattle.r4_node40.specs.Edits.{GoesBetween}
use Rattle.r4_node40.proofs.Laid.{get-items_of, length-items_of}
use Rattle.r4_leaf.specs.Filling.{Holds, IsFilled, IsPlace, last_of, need}
use Rattle.r4_leaf.specs.Items.{IsSoundItem, Lie}
use Rattle.r4_leaf.specs.Units.{LeafUnit, bytes_behind}
use Rattle.r4_leaf.proofs.Opened.{split_last}
use Rattle.r4_leaf.proofs.SoundItems.{item_has_end}
use Rattle.r4_leaf.proofs.Weighed.{behind_append, last_append, last_is}
use Rattle.r4_leaf.specs.Measure.{last_or}

-- ---- items that lie one after the other

pub lie_lower : (from low to : ℕ) (xs : List Item) → low ≤ from → Lie from to xs → Lie low to xs
lie_lower from low to [] le h = omega (arith, le, h)
lie_lower from low to (x ∷ xs) le h = (let g = h.0 in omega (arith, le, g), h.1, h.2)

pub lie_wider : (from mid to : ℕ) (xs : List Item) → mid ≤ to → Lie from mid xs → Lie from to xs
lie_wider from mid to [] le h = omega (arith, le, h)
lie_wider from mid to (x ∷ xs) le h = (h.0, h.1, lie_wider (item_end x) mid to xs le h.2)

pub lie_more : (from mid to : ℕ) (xs : List Item) (x : Item) → Lie from mid xs → mid ≤ rank x.key → IsSoundItem x → item_end x ≤ to → Lie from to (xs ++ x ∷ [])
lie_more from mid to [] x h le sound end = (omega (arith, h, le), sound, end)
lie_more from mid to (y ∷ xs) x h le sound end = (h.0, h.1, lie_more (item_end y) mid to xs x h.2 le sound end)

pub lie_last : (from to : ℕ) (xs : List Item) (x : Item) → Lie from to (xs ++ x ∷ []) → Lie from (rank x.key) xs × IsSoundItem x × (item_end x ≤ to)
lie_last from to [] x h = (h.0, h.1, h.2)
lie_last from to (y ∷ xs) x h = let e = lie_last (item_end y) to xs x h.2 in ((h.0, h.1, e.0), e.1, e.2)

pub items_append : (xs ys : List Item) → units_in (xs ++ ys) ≡ units_in xs ++ units_in ys
unfolding units_in
items_append [] ys = refl
items_append (x ∷ xs) ys = ap (λ us. item_units x ++ us) (items_append xs ys) ∙ sym (append_assoc (item_units x) (units_in xs) (units_in ys))

pub items_more : (xs : List Item) (x : Item) → units_in (xs ++ x ∷ []) ≡ units_in xs ++ item_units x
unfolding units_in
items_more xs x = items_append xs (x ∷ []) ∙ ap (λ us. units_in xs ++ us) (append-nil (item_units x))

-- ---- the last item has more units

-- What the item is to be, with a body that has these units behind the old ones.
pub record Grows (us : List LeafUnit) (from to : ℕ) (vs : List LeafUnit) (it : Item) (ws : List ℕ) : Type 0 where
  pub sound : IsSoundItem (record { key = it.key; plugin = it.plugin; body = ws })
  pub end : item_end (record { key = it.key; plugin = it.plugin; body = ws }) ≤ to
  pub start : length it.body ≡ 0 → from ≤ rank it.key
  pub new : length it.body ≡ 0 → item_units (record { key = it.key; plugin = it.plugin; body = ws }) ≡ vs
  pub old : 1 ≤ length it.body → item_units (record { key = it.key; plugin = it.plugin; body = ws }) ≡ item_units it ++ vs
  pub cost : bytes_behind (last_of us) vs + length it.body ≡ need it (length ws)

module _ (lo mid : ℕ) (us : List LeafUnit) (b : List ℕ) (i : ℕ) (it : Item) (ws c : List ℕ) (vs : List LeafUnit) (from to : ℕ) (f : IsFilled lo mid us b) (place : IsPlace b i it) (h : Holds b i it ws c) (low : mid ≤ from) (g : Grows us from to vs it ws) where
  before : List Item
  before = take i (items_of b)

  it2 : Item
  it2 = record { key = it.key; plugin = it.plugin; body = ws }

  all_new : length it.body ≡ 0 → before ≡ items_of b
  unfolding before
  all_new none = let at = (place.new none).0 in let n = length-items_of b in take_all i (items_of b) (omega (arith, at, n))

  all_old : 1 ≤ length it.body → items_of b ≡ before ++ it ∷ []
  unfolding before
  all_old some = let at = place.old some in split_last i (items_of b) it (at.0 ∙ sym (length-items_of b)) at.1

  lies : Lie lo to (before ++ it2 ∷ [])
  unfolding it2
  lies = elim (cases_lt 0 (length it.body)) [
    | inl some ↦
        let e = lie_last lo mid before it (subst (λ xs. Lie lo mid xs) (all_old some) f.lie) in
        lie_more lo (rank it.key) to before it2 e.0 (omega arith) g.sound g.end
    | inr past ↦
        let none : length it.body ≡ 0 = omega (arith, past) in
        let start = g.start none in
        lie_more lo mid to before it2 (subst (λ xs. Lie lo mid xs) (sym (all_new none)) f.lie) (omega (arith, start, low)) g.sound g.end
  ]

  units : units_in (before ++ it2 ∷ []) ≡ us ++ vs
  unfolding it2
  units = elim (cases_lt 0 (length it.body)) [
    | inl some ↦
        items_more before it2 ∙ (ap (λ xs. units_in before ++ xs) (g.old some)
        ∙ (sym (append_assoc (units_in before) (item_units it) vs)
        ∙ ap (λ xs. xs ++ vs) (sym (items_more before it) ∙ (ap units_in (sym (all_old some)) ∙ f.units))))
    | inr past ↦
        let none : length it.body ≡ 0 = omega (arith, past) in
        items_more before it2 ∙ (λ j. (ap units_in (all_new none) ∙ f.units) j ++ g.new none j)
  ]

  pub filled_more : IsFilled lo to (us ++ vs) c
  unfolding before it2
  filled_more = record {
    node = h.node;
    level = h.level;
    lie = subst (λ xs. Lie lo to xs) (sym h.items) lies;
    units = ap units_in h.items ∙ units;
    room =
        let cost = g.cost in
        let room = h.room in
        let was = f.room in
        let both = behind_append None us vs in
        let last = ap (λ u. bytes_behind u vs) (sym (last_is us)) in
        omega (arith, cost, room, was, both, last);
  }

-- ---- the place of a piece

-- what the last item says of the last unit
pub tip : (lo mid : ℕ) (us : List LeafUnit) (b : List ℕ) (it : Item) → IsFilled lo mid us b → 1 ≤ count_of b → slice_get (items_of b) (count_of b - 1) ≡ Some it → (before : List Item) × (last_of us ≡ last_or (last_or None (units_in before)) (item_units it))
tip lo mid us b it f some at =
    let n = length-items_of b in
    let split = split_last (count_of b - 1) (items_of b) it (omega (arith, n, some)) at in (
      take (count_of b - 1) (items_of b),
      last_is us ∙ (ap (last_or None) (sym f.units ∙ (ap units_in split ∙ items_more (take (count_of b - 1) (items_of b)) it)) ∙ last_append None (units_in (take (count_of b - 1) (items_of b))) (item_units it)),
    )

no_items : (b : List ℕ) → count_of b ≡ 0 → items_of b ≡ []
no_items b none = nothing (items_of b) (length-items_of b ∙ none)
  where
    nothing : (xs : List Item) → length xs ≡ 0 → xs ≡ []
    nothing [] e = refl
    nothing (x ∷ xs) e = absurd (omega (arith, e))

pub no_tip : (lo mid : ℕ) (us : List LeafUnit) (b : List ℕ) → IsFilled lo mid us b → count_of b ≡ 0 → last_of us ≡ None
unfolding units_in
no_tip lo mid us b f none = ap (λ xs. last_of xs) (sym f.units ∙ ap units_in (no_items b none))

-- a key from where the items end goes behind them all
pub goes_last : (lo mid : ℕ) (us : List LeafUnit) (b : List ℕ) (key : Key) → IsFilled lo mid us b → mid ≤ rank key → GoesBetween (items_of b) (count_of b) key
goes_last lo mid us b key f le = record {
  above = λ k x next at. above_all lo mid (items_of b) k x f.lie at le;
  below = λ y at. let w = slice_get_within (items_of b) (count_of b) y at in let n = length-items_of b in absurd (omega (arith, w, n));
}
  where
    item_ends : (x : Item) → IsSoundItem x → rank x.key < item_end x
    item_ends x s = item_has_end x s

    ends : (from to : ℕ) (xs : List Item) → Lie from to xs → from ≤ to
    ends from to [] h = h
    ends from to (x ∷ xs) h = let e = ends (item_end x) to xs h.2 in let low = h.0 in let own = item_ends x h.1 in omega (arith, e, low, own)

    above_all : (from to : ℕ) (xs : List Item) (k : ℕ) (x : Item) → Lie from to xs → slice_get xs k ≡ Some x → to ≤ rank key → IsBelow x.key key
    above_all from to [] k x h at high = absurd cc
    above_all from to (y ∷ ys) zero x h at high = let e = ends (item_end y) to ys h.2 in let own = item_ends y h.1 in let same = ap (λ (z : Item). rank z.key) (same_Some y x at) in omega (arith, e, own, same, high)
    above_all from to (y ∷ ys) (suc k) x h at high = above_all (item_end y) to ys k x h.2 at high

pub last_item : (b : List ℕ) → 1 ≤ count_of b → (it : Item) × (slice_get (items_of b) (count_of b - 1) ≡ Some it)
last_item b some = (item_at (count_of b) b (count_of b - 1), get-items_of b (count_of b) (count_of b - 1) refl (omega (arith, some)))
