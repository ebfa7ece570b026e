-- A key of an extent's range at which no block and no hole stands lies behind all of the extent's.
use Rattle.std.proofs.Common.{◌≡◌, ◌⊎◌, inl, inr, ℕ, zero, suc, ◌+◌, ◌*◌, ◌<◌, ◌≤◌, Bool, true, false, List, [], ◌∷◌, ◌++◌, refl, sym, ap, subst, arith}
use Rattle.std.specs.Prelude.{Contains, if◌then◌else◌}
use Rattle.std.proofs.lemmas.Bool.{cases_eq, cases_lt, eqb-true}
use Rattle.std.proofs.lemmas.List.Elements.{Contains-append_cases, Contains-append_left, Contains-append_right}
use Rattle.r4_base.specs.Cell.{block_names, hole_bytes, is_extent, item_end, item_names, item_units, names_in, next_key, run_names, spans_in, units_in, zeros_from}
use Rattle.r4_base.specs.Extents.{blocks_in, is_hole, units_of}
use Rattle.r4_base.specs.Key.{rank}
use Rattle.r4_base.specs.Node.{Item, items_of}
use Rattle.r4_base.specs.Tree.{InName, InSpan, IsData, Name, Span}
use Rattle.r4_base.specs.Value.{Byte, Value}
use Rattle.r4_base.specs.declared.items.Unit.{Unit as ExtentUnit}
use Rattle.r4_build.specs.r4_branch.Items.{IsSoundItem, Lie}
use Rattle.r4_build.proofs.r4_branch.SoundItems.{extent_item, pointer_item}
use Rattle.r4_extent_build.specs.r4_cell.Seen.{CellSeen, node_of}
use Rattle.r4_extent_build.proofs.r4_graft.FoundPlaces.{runs_level}
use Rattle.r4_build.specs.r4_leaf.Units.{LeafUnit}
use Rattle.r4_build.proofs.r4_patch.Members.{cases, here, later, none}
use Rattle.r4_build.specs.r4_path.Sharing.{IsSound}
use Rattle.r4_build.proofs.r4_path.CellNodes.{names_are, spans_are, units_are}
use Rattle.r4_extent_among.proofs.SpansRise.{SpansRise, item_wide, lie, lie_again, lie_order, spans_rise}

-- ---- runs and zeros

run_has : (k start count x : ℕ) → k ≤ x → x < k + 4096 * count → (n : Name) × Contains (run_names k start count) n × InName n x
run_has k start zero x low high = absurd (omega (arith, low, high))
run_has k start (suc m) x low high = elim (cases_lt x (k + 4096)) [
  | inl lt ↦ (record { id = start; level = 0; lo = k; hi = k + 4096 }, here _ _, (low, lt))
  | inr ge ↦ let (n, at, inside) = run_has (k + 4096) (start + 1) m x ge (omega (arith, high)) in (n, later _ n _ at, inside)
]

run_lies : (k start count : ℕ) (n : Name) → Contains (run_names k start count) n → (k ≤ n.lo) × (n.hi ≤ k + 4096 * count)
run_lies k start zero n at = absurd (none n at)
run_lies k start (suc m) n at = elim (cases (record { id = start; level = 0; lo = k; hi = k + 4096 }) n (run_names (k + 4096) (start + 1) m) at) [
  | inl is ↦ let lo = ap (λ (x : Name). x.lo) is in let hi = ap (λ (x : Name). x.hi) is in (omega (arith, lo), omega (arith, hi))
  | inr more ↦ let h = run_lies (k + 4096) (start + 1) m n more in (omega (arith, h), omega (arith, h))
]

zeros_has : (k count x : ℕ) → k ≤ x → x < k + count → Contains (zeros_from k count) (x, Byte 0)
zeros_has k zero x low high = absurd (omega (arith, low, high))
zeros_has k (suc m) x low high = elim (cases_eq k x) [
  | inl is ↦ subst (λ (i : ℕ). Contains (zeros_from k (suc m)) (i, Byte 0)) is (here _ _)
  | inr other ↦ later _ (x, Byte 0) _ (zeros_has (k + 1) m x (omega (arith, low, other)) (omega (arith, high)))
]

zeros_lie : (k count j : ℕ) (v : Value) → Contains (zeros_from k count) (j, v) → (k ≤ j) × (j < k + count)
zeros_lie k zero j v at = absurd (none (j, v) at)
zeros_lie k (suc m) j v at = elim (cases (k, Byte 0) (j, v) (zeros_from (k + 1) m) at) [
  | inl is ↦ let e = ap (λ (u : LeafUnit). u.0) is in (omega (arith, e), omega (arith, e))
  | inr more ↦ let h = zeros_lie (k + 1) m j v more in (omega (arith, h), omega (arith, h))
]

-- ---- the units of an extent

-- these have no block and no hole at the key
abbrev pub IsFreeIn : List Name → List LeafUnit → (key : ℕ) → Type 0
IsFreeIn ns us k = ((n : Name) → Contains ns n → IsData n → InName n k → ⊥) × ((v : Value) → Contains us (k, v) → ⊥)

-- they lie before the key, or from another one on
abbrev pub LieApart : List Name → List LeafUnit → (key hi : ℕ) → Type 0
LieApart ns us k hi = ((n : Name) → Contains ns n → IsData n → (n.hi ≤ k) ⊎ (hi ≤ n.lo)) × ((j : ℕ) (v : Value) → Contains us (j, v) → (j < k) ⊎ (hi ≤ j))

-- they lie between two keys
abbrev LieIn : List Name → List LeafUnit → (from to : ℕ) → Type 0
LieIn ns us from to = ((n : Name) → Contains ns n → IsData n → (from ≤ n.lo) × (n.hi ≤ to)) × ((j : ℕ) (v : Value) → Contains us (j, v) → (from ≤ j) × (j < to))

unit_parts : (k : ℕ) (u : ExtentUnit) → LieIn (if is_hole u then [] else run_names k u.start u.width) (if is_hole u then zeros_from k (4096 * u.width) else []) k (k + 4096 * u.width)
unit_parts k u = by_hole (is_hole u)
  where
    by_hole : (t : Bool) → LieIn (if t then [] else run_names k u.start u.width) (if t then zeros_from k (4096 * u.width) else []) k (k + 4096 * u.width)
    by_hole true = ((λ n at block. absurd (none n at)), zeros_lie k (4096 * u.width))
    by_hole false = ((λ n at block. run_lies k u.start u.width n at), λ j v at. absurd (none (j, v) at))

unit_full : (k x : ℕ) (u : ExtentUnit) → k ≤ x → x < k + 4096 * u.width → IsFreeIn (if is_hole u then [] else run_names k u.start u.width) (if is_hole u then zeros_from k (4096 * u.width) else []) x → ⊥
unit_full k x u low high = by_hole (is_hole u)
  where
    by_hole : (t : Bool) → IsFreeIn (if t then [] else run_names k u.start u.width) (if t then zeros_from k (4096 * u.width) else []) x → ⊥
    by_hole true free = free.1 (Byte 0) (zeros_has k (4096 * u.width) x low high)
    by_hole false free = let (n, at, inside) = run_has k u.start u.width x low high in free.0 n at (runs_level k u.start u.width n at) inside

units_lie : (k : ℕ) (us : List ExtentUnit) → LieIn (block_names k us) (hole_bytes k us) k (k + 4096 * blocks_in us)
units_lie k [] = ((λ n at block. absurd (none n at)), λ j v at. absurd (none (j, v) at))
units_lie k (u ∷ us) =
    let one = unit_parts k u in
    let more = units_lie (k + 4096 * u.width) us in (
      (λ n at block. elim (Contains-append_cases (if is_hole u then [] else run_names k u.start u.width) (block_names (k + 4096 * u.width) us) n at) [
        | inl a ↦ let h = one.0 n a block in (h.0, omega (arith, h))
        | inr a ↦ let h = more.0 n a block in (omega (arith, h), omega (arith, h))
      ]),
      λ j v at. elim (Contains-append_cases (if is_hole u then zeros_from k (4096 * u.width) else []) (hole_bytes (k + 4096 * u.width) us) (j, v) at) [
        | inl a ↦ let h = one.1 j v a in (h.0, omega (arith, h))
        | inr a ↦ let h = more.1 j v a in (omega (arith, h), omega (arith, h))
      ],
    )

units_before : (k x : ℕ) (us : List ExtentUnit) → k ≤ x → IsFreeIn (block_names k us) (hole_bytes k us) x → LieIn (block_names k us) (hole_bytes k us) k x
units_before k x [] low free = ((λ n at block. absurd (none n at)), λ j v at. absurd (none (j, v) at))
units_before k x (u ∷ us) low free = elim (cases_lt x (k + 4096 * u.width)) [
  | inl inside ↦ absurd (unit_full k x u low inside (
    (λ n at block. free.0 n (Contains-append_left (if is_hole u then [] else run_names k u.start u.width) (block_names (k + 4096 * u.width) us) n at) block),
    λ v at. free.1 v (Contains-append_left (if is_hole u then zeros_from k (4096 * u.width) else []) (hole_bytes (k + 4096 * u.width) us) (x, v) at),
  ))
  | inr past ↦
      let one = unit_parts k u in
      let more = units_before (k + 4096 * u.width) x us past (
        (λ n at block. free.0 n (Contains-append_right (if is_hole u then [] else run_names k u.start u.width) (block_names (k + 4096 * u.width) us) n at) block),
        λ v at. free.1 v (Contains-append_right (if is_hole u then zeros_from k (4096 * u.width) else []) (hole_bytes (k + 4096 * u.width) us) (x, v) at),
      ) in (
        (λ n at block. elim (Contains-append_cases (if is_hole u then [] else run_names k u.start u.width) (block_names (k + 4096 * u.width) us) n at) [
          | inl a ↦ let h = one.0 n a block in (h.0, omega (arith, h, past))
          | inr a ↦ let h = more.0 n a block in (omega (arith, h), h.1)
        ]),
        λ j v at. elim (Contains-append_cases (if is_hole u then zeros_from k (4096 * u.width) else []) (hole_bytes (k + 4096 * u.width) us) (j, v) at) [
          | inl a ↦ let h = one.1 j v a in (h.0, omega (arith, h, past))
          | inr a ↦ let h = more.1 j v a in (omega (arith, h), h.1)
        ],
      )
]

-- ---- items

item_lies : (x : Item) (next : ℕ) → IsSoundItem x → LieIn (item_names 2 next x) (item_units x) (rank x.key) (item_end x)
item_lies x next sound = elim sound.plugin [
  | inl pointer ↦
      let p = pointer_item x pointer sound in (
        (λ n at block. elim (cases _ n [] (subst (λ ns. Contains ns n) (p.names next) at)) [
          | inl is ↦ let l = ap (λ (y : Name). y.level) is in absurd (omega (arith, l, block))
          | inr nothing ↦ absurd (none n nothing)
        ]),
        λ j v at. absurd (none (j, v) (subst (λ us. Contains us (j, v)) p.units at)),
      )
  | inr extent ↦
      let e = extent_item x extent sound in
      let h = units_lie (rank x.key) (units_of x.body) in
      let end = e.end in (
        (λ n at block. let a = h.0 n (subst (λ ns. Contains ns n) (e.names next) at) block in (a.0, omega (arith, a, end))),
        λ j v at. let a = h.1 j v (subst (λ us. Contains us (j, v)) e.units at) in (a.0, omega (arith, a, end)),
      )
]

items_lie : (from to hi : ℕ) (xs : List Item) → Lie from to xs → LieIn (names_in 2 hi xs) (units_in xs) from to
unfolding names_in units_in
items_lie from to hi [] l = ((λ n at block. absurd (none n at)), λ j v at. absurd (none (j, v) at))
items_lie from to hi (x ∷ xs) l =
    let one = item_lies x (next_key hi xs) l.1 in
    let more = items_lie (item_end x) to hi xs l.2 in
    let low = l.0 in
    let wide = item_wide x l.1 in
    let end = lie_order (item_end x) to xs l.2 in (
      (λ n at block. elim (Contains-append_cases (item_names 2 (next_key hi xs) x) (names_in 2 hi xs) n at) [
        | inl a ↦ let h = one.0 n a block in (omega (arith, h, low), omega (arith, h, end))
        | inr a ↦ let h = more.0 n a block in (omega (arith, h, low, wide), h.1)
      ]),
      λ j v at. elim (Contains-append_cases (item_units x) (units_in xs) (j, v) at) [
        | inl a ↦ let h = one.1 j v a in (omega (arith, h, low), omega (arith, h, end))
        | inr a ↦ let h = more.1 j v a in (omega (arith, h, low, wide), h.1)
      ],
    )

span_low : (from : ℕ) (ss : List Span) (s : Span) → SpansRise from ss → Contains ss s → from ≤ s.lo
span_low from [] s rise at = absurd (none s at)
span_low from (z ∷ ss) s rise at = elim (cases z s ss at) [
  | inl is ↦ let e = ap (λ (y : Span). y.lo) is in let low = rise.0 in omega (arith, e, low)
  | inr more ↦ let h = span_low z.hi ss s rise.2 more in let low = rise.0 in let wide = rise.1 in omega (arith, h, low, wide)
]

apart : (from to : ℕ) (xs : List Item) (s : Span) (k : ℕ) → Lie from to xs → Contains (spans_in to xs) s → InSpan s k → IsFreeIn (names_in 2 to xs) (units_in xs) k → LieApart (names_in 2 to xs) (units_in xs) k s.hi
unfolding names_in units_in spans_in
apart from to [] s k l at inside free = absurd (none s at)
apart from to (x ∷ xs) s k l at inside free = elim (Contains-append_cases (if is_extent x then (record { lo = rank x.key; hi = next_key to xs } ∷ []) else []) (spans_in to xs) s at) [
  | inl mine ↦ by_test (is_extent x) refl mine
  | inr more ↦
      let low = span_low (item_end x) (spans_in to xs) s (spans_rise (item_end x) to xs l.2) more in
      let one = item_lies x (next_key to xs) l.1 in
      let rest = apart (item_end x) to xs s k l.2 more inside (
        (λ n a block. free.0 n (Contains-append_right (item_names 2 (next_key to xs) x) (names_in 2 to xs) n a) block),
        λ v a. free.1 v (Contains-append_right (item_units x) (units_in xs) (k, v) a),
      ) in (
        (λ n a block. elim (Contains-append_cases (item_names 2 (next_key to xs) x) (names_in 2 to xs) n a) [
          | inl b ↦ let h = one.0 n b block in inl (omega (arith, h, low, inside))
          | inr b ↦ rest.0 n b block
        ]),
        λ j v a. elim (Contains-append_cases (item_units x) (units_in xs) (j, v) a) [
          | inl b ↦ let h = one.1 j v b in inl (omega (arith, h, low, inside))
          | inr b ↦ rest.1 j v b
        ],
      )
]
  where
    by_test : (t : Bool) → is_extent x ≡ t → Contains (if t then (record { lo = rank x.key; hi = next_key to xs } ∷ []) else []) s → LieApart (item_names 2 (next_key to xs) x ++ names_in 2 to xs) (item_units x ++ units_in xs) k s.hi
    by_test false is nothing = absurd (none s nothing)
    by_test true is mine = elim (cases (record { lo = rank x.key; hi = next_key to xs }) s [] mine) [
      | inr nothing ↦ absurd (none s nothing)
      | inl same ↦
          let lo = ap (λ (y : Span). y.lo) same in
          let hi = ap (λ (y : Span). y.hi) same in
          let e = extent_item x (eqb-true x.plugin 5 is) l.1 in
          let own = units_before (rank x.key) k (units_of x.body) (omega (arith, lo, inside)) (
            (λ n a block. free.0 n (Contains-append_left (item_names 2 (next_key to xs) x) (names_in 2 to xs) n (subst (λ ns. Contains ns n) (sym (e.names (next_key to xs))) a)) block),
            λ v a. free.1 v (Contains-append_left (item_units x) (units_in xs) (k, v) (subst (λ us. Contains us (k, v)) (sym e.units) a)),
          ) in
          let more = items_lie (next_key to xs) to to xs (lie_again (item_end x) to xs l.2) in (
            (λ n a block. elim (Contains-append_cases (item_names 2 (next_key to xs) x) (names_in 2 to xs) n a) [
              | inl b ↦ inl (own.0 n (subst (λ ns. Contains ns n) (e.names (next_key to xs)) b) block).1
              | inr b ↦ let h = more.0 n b block in inr (omega (arith, h, hi))
            ]),
            λ j v a. elim (Contains-append_cases (item_units x) (units_in xs) (j, v) a) [
              | inl b ↦ inl (own.1 j v (subst (λ us. Contains us (j, v)) e.units b)).1
              | inr b ↦ let h = more.1 j v b in inr (omega (arith, h, hi))
            ],
          )
    ]

module _ (twig : CellSeen) (sound : IsSound twig) (level : twig.level ≡ 2) (s : Span) (k : ℕ) (in_it : Contains (node_of twig).spans s) (inside : InSpan s k) where
  free_there : IsFreeIn (node_of twig).names (node_of twig).units k → IsFreeIn (names_in 2 (rank twig.hi) (items_of twig.block)) (units_in (items_of twig.block)) k
  free_there free = (
    (λ n at. free.0 n (subst (λ ns. Contains ns n) (sym (names_are twig 1 level)) at)),
    λ v at. free.1 v (subst (λ us. Contains us (k, v)) (sym (units_are twig 1 level)) at),
  )

  pub lie_behind : IsFreeIn (node_of twig).names (node_of twig).units k → LieApart (node_of twig).names (node_of twig).units k s.hi
  lie_behind free =
      let h = apart (rank twig.lo) (rank twig.hi) (items_of twig.block) s k (lie twig sound level) (subst (λ ss. Contains ss s) (spans_are twig 1 level) in_it) inside (free_there free) in (
        (λ n at. h.0 n (subst (λ ns. Contains ns n) (names_are twig 1 level) at)),
        λ j v at. h.1 j v (subst (λ us. Contains us (j, v)) (units_are twig 1 level) at),
      )
