-- Where a walk is whole, each name that a cell has is one of its cells.
use Rattle.std.proofs.Common.{◌≡◌, ◌⊎◌, inl, inr, ℕ, zero, suc, ◌+◌, ◌-◌, ◌*◌, ◌≤◌, Bool, true, false, List, [], ◌∷◌, refl, sym, ap, subst, arith}
use Rattle.std.specs.Prelude.{Option, Some, None, Contains, fold, if◌then◌else◌}
use Rattle.std.proofs.lemmas.List.Elements.{Contains-append_cases}
use Rattle.r4_base.specs.Cell.{block_names, cell_of, is_extent, is_pointer, item_names, names_in, next_key, pointer_names, run_names}
use Rattle.r4_base.specs.Extents.{is_hole, pointer_of, units_of}
use Rattle.std.specs.Option.{is_none}
use Rattle.r4_base.specs.Image.{Image, block_at}
use Rattle.r4_base.specs.Key.{rank}
use Rattle.r4_base.specs.Node.{Item, items_of}
use Rattle.r4_base.specs.Tree.{Name, Node}
use Rattle.r4_base.specs.Value.{Value}
use Rattle.r4_base.specs.declared.items.Unit.{Unit as ExtentUnit}
use Rattle.r4_check.specs.Walk.{HasCell, Walk, cell_at, is_reached, look, meet, names_below, refusal_at}
use Rattle.r4_check.proofs.Kept.{look_keeps_with, meet_by, one_of}
use Rattle.r4_check.proofs.Meets.{below_accepted}
use Rattle.r4_check.proofs.Nodes.{of_level}

-- ---- what a cell names lies below it

no_name : (n : Name) → Contains [] n → ⊥
no_name n (k, lt, e) = omega (arith, lt)

abbrev pub AreLow : (levels : ℕ) → List Name → Type 0
AreLow levels names = (n : Name) → Contains names n → n.level ≤ levels

run_low : (levels key start width : ℕ) → AreLow levels (run_names key start width)
run_low levels key start zero n at = absurd (no_name n at)
run_low levels key start (suc w) n at = elim (one_of (record { id = start; level = 0; lo = key; hi = key + 4096 }) (run_names (key + 4096) (start + 1) w) n at) [
  | inl e ↦ let is = ap (λ (m : Name). m.level) e in omega (arith, is)
  | inr later ↦ run_low levels (key + 4096) (start + 1) w n later
]

unit_low : (levels key : ℕ) (u : ExtentUnit) (hole : Bool) → AreLow levels (if hole then [] else run_names key u.start u.width)
unit_low levels key u true n at = absurd (no_name n at)
unit_low levels key u false n at = run_low levels key u.start u.width n at

units_low : (levels key : ℕ) (us : List ExtentUnit) → AreLow levels (block_names key us)
units_low levels key [] n at = absurd (no_name n at)
units_low levels key (u ∷ us) n at = elim (Contains-append_cases (if is_hole u then [] else run_names key u.start u.width) (block_names (key + 4096 * u.width) us) n at) [
  | inl here ↦ unit_low levels key u (is_hole u) n here
  | inr later ↦ units_low levels (key + 4096 * u.width) us n later
]

pointer_low : (level key next : ℕ) (o : Option ℕ) → AreLow (level - 1) (pointer_names level key next o)
pointer_low level key next None n at = absurd (no_name n at)
pointer_low level key next (Some to) n at = elim (one_of _ [] n at) [
  | inl e ↦ let is = ap (λ (m : Name). m.level) e in omega (arith, is)
  | inr later ↦ absurd (no_name n later)
]

kind_low : (levels : ℕ) (pointer extent : Bool) (a b : List Name) → AreLow levels a → AreLow levels b → AreLow levels (if pointer then a else if extent then b else [])
kind_low levels true extent a b x y n at = x n at
kind_low levels false true a b x y n at = y n at
kind_low levels false false a b x y n at = absurd (no_name n at)

item_low : (level next : ℕ) (it : Item) → AreLow (level - 1) (item_names level next it)
unfolding item_names
item_low level next it = kind_low (level - 1) (is_pointer it) (is_extent it) (pointer_names level (rank it.key) next (pointer_of it.body)) (block_names (rank it.key) (units_of it.body))
    (pointer_low level (rank it.key) next (pointer_of it.body)) (units_low (level - 1) (rank it.key) (units_of it.body))

items_low : (level hi : ℕ) (items : List Item) → AreLow (level - 1) (names_in level hi items)
unfolding names_in
items_low level hi [] n at = absurd (no_name n at)
items_low level hi (it ∷ items) n at = elim (Contains-append_cases (item_names level (next_key hi items) it) (names_in level hi items) n at) [
  | inl here ↦ item_low level (next_key hi items) it n here
  | inr later ↦ items_low level hi items n later
]

cell_low : (level lo hi : ℕ) (b : List ℕ) → AreLow (level - 1) (cell_of level lo hi b).names
unfolding cell_of
cell_low zero lo hi b n at = absurd (no_name n at)
cell_low (suc l) lo hi b n at = items_low (suc l) hi (items_of b) n at

data_names : (level lo hi : ℕ) (b : List ℕ) (n : Name) → level ≡ 0 → Contains (cell_of level lo hi b).names n → ⊥
unfolding cell_of
data_names zero lo hi b n is at = no_name n at
data_names (suc l) lo hi b n is at = omega (arith, is)

either_low : (levels : ℕ) (again sound : Bool) (names : List Name) → AreLow levels names → AreLow levels (if again then [] else if sound then names else [])
either_low levels true sound names low n at = absurd (no_name n at)
either_low levels false true names low n at = low n at
either_low levels false false names low n at = absurd (no_name n at)

below_low : (levels blocks : ℕ) (image : Image) (w : Walk) (n : Name) → n.level ≤ suc levels → AreLow levels (names_below blocks image w n)
unfolding names_below
below_low levels blocks image w n low = either_low levels (is_reached w n.id) (is_none (refusal_at blocks image n)) (cell_at image n).names
    (λ m at. let one = cell_low n.level n.lo n.hi (block_at image n.id) m at in omega (arith, one, low))

-- ---- walks that are whole

abbrev pub AreMet : Image → List Name → Walk → Type 0
AreMet image names w = (n : Name) → Contains names n → HasCell image w n

-- The second walk has the cells of the first, and others, of which it has what they name.
pub record Grows (image : Image) (w v : Walk) : Type 0 where
  pub whole : w.whole ≡ true
  pub more : (i : ℕ) (c : Node Value) → Contains w.cells (i, c) → Contains v.cells (i, c)
  pub closed : (i : ℕ) (c : Node Value) → Contains v.cells (i, c) → Contains w.cells (i, c) ⊎ AreMet image c.names v

-- A name is met for the first time and accepted: nothing else is.
record Meets (blocks : ℕ) (image : Image) (w : Walk) (n : Name) (v : Walk) : Type 0 where
  whole : w.whole ≡ true
  below : (cell_at image n).names ≡ names_below blocks image w n
  cells : v.cells ≡ (n.id, cell_at image n) ∷ w.cells

meets : (blocks : ℕ) (image : Image) (w : Walk) (n : Name) → (meet blocks image w n).whole ≡ true → Meets blocks image w n (meet blocks image w n)
meets blocks image w n = meet_by (λ v. v.whole ≡ true → Meets blocks image w n v) blocks image w n
    (λ again whole. absurd (cc (whole)))
    (λ first sound whole. record { whole = whole; below = below_accepted blocks image w n first sound; cells = refl })
    (λ f first bad whole. absurd (cc (whole)))

here : {X : Type 0} (x : X) (xs : List X) → Contains (x ∷ xs) x
here {X} x xs = (zero, omega arith, refl)

later : {X : Type 0} (x : X) (xs : List X) (y : X) → Contains xs y → Contains (x ∷ xs) y
later {X} x xs y (k, lt, e) = (suc k, omega (arith, lt), e)

module _ (blocks : ℕ) (image : Image) where
  met_there : (w v : Walk) (n : Name) → Meets blocks image w n v → HasCell image v n
  met_there w v n m = let P : List (ℕ × Node Value) → Type 0 = λ l. Contains l (n.id, cell_at image n) in subst P (sym m.cells) (here (n.id, cell_at image n) w.cells)

  met_more : (w v : Walk) (n : Name) → Meets blocks image w n v → (i : ℕ) (c : Node Value) → Contains w.cells (i, c) → Contains v.cells (i, c)
  met_more w v n m i c at = let P : List (ℕ × Node Value) → Type 0 = λ l. Contains l (i, c) in subst P (sym m.cells) (later (n.id, cell_at image n) w.cells (i, c) at)

  met_cases : (w v : Walk) (n : Name) → Meets blocks image w n v → (i : ℕ) (c : Node Value) → Contains v.cells (i, c) → (◌≡◌ {A = ℕ × Node Value} (n.id, cell_at image n) (i, c)) ⊎ Contains w.cells (i, c)
  met_cases w v n m i c at = let P : List (ℕ × Node Value) → Type 0 = λ l. Contains l (i, c) in one_of (n.id, cell_at image n) w.cells (i, c) (subst P m.cells at)

  -- what the new cell names is met, where what is below the name is
  new_closed : (w v u : Walk) (n : Name) → Meets blocks image w n v → AreMet image (cell_at image n).names u → (i : ℕ) (c : Node Value) → Contains v.cells (i, c) → Contains w.cells (i, c) ⊎ AreMet image c.names u
  new_closed w v u n m all i c at = elim (met_cases w v n m i c at) [
    | inl e ↦ let P : ℕ × Node Value → Type 0 = λ p. AreMet image p.1.names u in inr (subst P e all)
    | inr old ↦ inl old
  ]

  grows_both : (w v u : Walk) → Grows image w v → Grows image v u → Grows image w u
  grows_both w v u a b = record {
    whole = a.whole;
    more = λ i c at. b.more i c (a.more i c at);
    closed = λ i c at. elim (b.closed i c at) [
      | inl old ↦ (elim (a.closed i c old) [
        | inl older ↦ inl older
        | inr all ↦ inr (λ n in_names. b.more n.id (cell_at image n) (all n in_names))
      ])
      | inr all ↦ inr all
    ];
  }

  fold_grows : (f : Walk → Name → Walk) (levels : ℕ) → ((w : Walk) (n : Name) → n.level ≤ levels → (f w n).whole ≡ true → Grows image w (f w n) × HasCell image (f w n) n)
      → (names : List Name) → AreLow levels names → (w : Walk) → (fold f w names).whole ≡ true → Grows image w (fold f w names) × AreMet image names (fold f w names)
  fold_grows f levels on [] low w whole = (record { whole = whole; more = λ i c at. at; closed = λ i c at. inl at }, λ n at. absurd (no_name n at))
  fold_grows f levels on (n ∷ names) low w whole =
      let rest = fold_grows f levels on names (λ m at. low m (later n names m at)) (f w n) whole in
      let first = on w n (low n (here n names)) rest.0.whole in (
        grows_both w (f w n) (fold f (f w n) names) first.0 rest.0,
        λ m at. elim (one_of n names m at) [
          | inl e ↦ subst (HasCell image (fold f (f w n) names)) e (rest.0.more n.id (cell_at image n) first.1)
          | inr more ↦ rest.1 m more
        ],
      )

  pub look_grows : (levels : ℕ) (w : Walk) (n : Name) → n.level ≤ levels → (look levels blocks image w n).whole ≡ true → Grows image w (look levels blocks image w n) × HasCell image (look levels blocks image w n) n
  unfolding look
  look_grows zero w n low whole =
      let m = meets blocks image w n whole in
      let v = meet blocks image w n in
      (record { whole = m.whole; more = met_more w v n m; closed = new_closed w v v n m (λ x at. absurd (data_names n.level n.lo n.hi _ x (omega (arith, low)) at)) }, met_there w v n m)
  look_grows (suc levels) w n low whole =
      let v = meet blocks image w n in
      let names = names_below blocks image w n in
      let all = fold_grows (look levels blocks image) levels (look_grows levels) names (below_low levels blocks image w n low) v whole in
      let m = meets blocks image w n all.0.whole in
      let u = fold (look levels blocks image) v names in
      let met = subst (λ (l : List Name). AreMet image l u) (sym m.below) all.1 in (
        record {
          whole = m.whole;
          more = λ i c at. all.0.more i c (met_more w v n m i c at);
          closed = λ i c at. elim (all.0.closed i c at) [
            | inl old ↦ new_closed w v u n m met i c old
            | inr done ↦ inr done
          ];
        },
        all.0.more n.id (cell_at image n) (met_there w v n m),
      )

-- ---- levels

abbrev pub AreUpTo : (most : ℕ) → Walk → Type 0
AreUpTo most w = (i : ℕ) (c : Node Value) → Contains w.cells (i, c) → c.level ≤ most

level_kept : (most blocks : ℕ) (image : Image) (w : Walk) (n : Name) → n.level ≤ most → AreUpTo most w → AreUpTo most (meet blocks image w n)
level_kept most blocks image w n low h = meet_by (AreUpTo most) blocks image w n (λ again. h) (λ first sound. accepted) (λ f first bad. h)
  where
    accepted : (i : ℕ) (c : Node Value) → Contains ((n.id, cell_at image n) ∷ w.cells) (i, c) → c.level ≤ most
    accepted i c at = elim (one_of (n.id, cell_at image n) w.cells (i, c) at) [
      | inl e ↦ let Q : ℕ × Node Value → Type 0 = λ p. p.1.level ≤ most in (let is = of_level n.level n.lo n.hi (block_at image n.id) in subst Q e (omega (arith, is, low)))
      | inr more ↦ h i c more
    ]

pub look_keeps_low : (most blocks : ℕ) (image : Image) (levels : ℕ) (w : Walk) (n : Name) → n.level ≤ most → AreUpTo most w → AreUpTo most (look levels blocks image w n)
look_keeps_low most blocks image = look_keeps_with (λ n. n.level ≤ most) (AreUpTo most) blocks image (λ w n low. below_low most blocks image w n (omega (arith, low))) (level_kept most blocks image)
