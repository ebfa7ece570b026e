-- What a twig that is packed anew does to units, with what goes and comes below it, and to numbers.
use Rattle.std.specs.Prelude.{◌≡◌, ◌↔◌, ◌==◌, ℕ, ◌+◌, ◌<◌, ◌≤◌, ◌⊎◌, Bool, true, false, List, [], ◌∷◌, ◌++◌, length}
use Rattle.std.specs.Prelude.{drop, Contains, None, Option, Some}
use mathlib.Core.Path.{refl, sym, ap, subst, ◌∙◌}
use mathlib.Core.Logic.{inl, inr}
use native.Mathlib.Omega.{arith}
use Rattle.std.proofs.lemmas.Bool.{ne_eqb}
use Rattle.std.proofs.lemmas.List.{append_assoc}
use Rattle.std.proofs.lemmas.List.Elements.{Contains-append_cases, Contains-append_left, Contains-append_right}
use Rattle.std.proofs.lemmas.Option.{none-some, same_Some}
use Rattle.r4_base.specs.Key.{rank}
use Rattle.r4_base.specs.Tree.{Holds, Node, Root, Store, UnitAt}
use Rattle.r4_base.specs.Value.{Value}
use Rattle.r4_work.specs.r4_branch.Pieces.{units_of}
use Rattle.r4_work.specs.r4_branch.declared.piece.TwigPiece.{TwigPiece}
use Rattle.r4_work.specs.r4_cell.Patch.{HaveNames, Patch, by_name, place, root_after}
use Rattle.r4_work.specs.r4_cell.Seen.{CellSeen, node_of}
use Rattle.r4_work.specs.r4_cell.declared.change.Change.{Change}
use Rattle.r4_work.specs.r4_cell.declared.change.Fresh.{Fresh}
use Rattle.r4_work.specs.r4_cell.declared.change.Root.{Root as RootPair}
use Rattle.r4_work.specs.r4_leaf.Units.{LeafUnit}
use Rattle.r4_work.specs.r4_patch.Effect.{HasEffect, Placed, UnitIn}
use Rattle.r4_work.specs.r4_patch.Joining.{ids_of}
use Rattle.r4_work.specs.r4_patch.Part.{IsPart}
use Rattle.r4_work.proofs.r4_patch.Holding.{one_holder, unit_held, unit_once}
use Rattle.r4_work.proofs.r4_patch.Members.{Distinct, cases, distinct, found, here, later, none, there}
use Rattle.r4_work.proofs.r4_patch.Placed.{over_new, placed_part}
use Rattle.r4_work.specs.r4_path.Grafts.{Grafts, HasBelow}
use Rattle.r4_work.specs.r4_path.Levels.{units_of_cells}
use Rattle.r4_work.specs.r4_path.Nodes.{IsPointable}
use Rattle.r4_work.specs.r4_path.Steps.{Ascends, Step, fresh_ids, news, olds, root_pair}
use Rattle.r4_work.specs.r4_path.Twigs.{Below}
use Rattle.r4_work.proofs.r4_path.OnPath.{new_id, new_stands, stands_old, stands_step}
use Rattle.r4_work.proofs.r4_path.Rising.{count_within, follow_within, id_member, level_is}
use Rattle.r4_work.proofs.LeafEffect.{from_units, taken, to_units, upper_units, ups_high}
use Rattle.r4_extent_edit.specs.Effects.{IsMadeIn, patch_with}

-- ---- cells of a list

-- one of the cells has the unit, in a leaf or not
abbrev pub IsPlacedIn : List CellSeen → ℕ → Placed Value → Type 0
IsPlacedIn cells k u = (x : CellSeen) × Contains cells x × Contains (node_of x).units (k, u.0) × ((x.level == 1) ≡ u.1)

pub apart_names : (xs ys : List CellSeen) → Distinct (xs ++ ys) → (x y : CellSeen) → Contains xs x → Contains ys y
    → x.id ≡ y.id → ⊥
apart_names [] ys d x y at_x at_y same = none x at_x
apart_names (z ∷ zs) ys d x y at_x at_y same = elim (cases z x zs at_x) [
  | inl is ↦ d.0 y (Contains-append_right zs ys y at_y) (ap (λ (w : CellSeen). w.id) (sym is) ∙ same)
  | inr more ↦ apart_names zs ys d.1 x y more at_y same
]

same_level : (x : CellSeen) → ((node_of x).level == 1) ≡ (x.level == 1)
same_level x = ap (λ (l : ℕ). l == 1) (level_is x)

not_leaf : (x : CellSeen) → ¬ (x.level ≡ 1) → (x.level == 1) ≡ false
not_leaf x other = ne_eqb x.level 1 other

-- A twig of a part of a tree that was packed anew, with what goes and comes below it, and data blocks that come.
pub record IsRepacked (s : Store Value) (r : Root) (twig : CellSeen) (ups : List CellSeen) (qs : List TwigPiece)
    (b : Below)
    (blocks : List CellSeen) (before after : Fresh) (d c : Change) : Type 0 where
  pub part : IsPart s r
  pub level : twig.level ≡ 2
  pub above : Ascends s (Some twig) ups
  pub grafts : Grafts twig ups qs before after d
  pub below : HasBelow b.old b.new d c
  pub made : IsMadeIn s r c blocks

module _ {s : Store Value} {r : Root} {twig : CellSeen} {ups : List CellSeen} {qs : List TwigPiece} {b : Below}
    {blocks : List CellSeen} {before after : Fresh} {d c : Change}
    (g : IsRepacked s r twig ups qs b blocks before after d c) where
  abbrev grafts : Grafts twig ups qs before after d
  grafts = g.grafts

  abbrev made : IsMadeIn s r c blocks
  made = g.made

  abbrev below : HasBelow b.old b.new d c
  below = g.below

  abbrev level : twig.level ≡ 2
  level = g.level

  abbrev q : Patch Value
  q = patch_with c blocks

  abbrev upper_old : List CellSeen
  upper_old = olds grafts.more

  abbrev upper_new : List CellSeen
  upper_new = news grafts.more grafts.over

  abbrev upper : List LeafUnit
  upper = units_of_cells upper_old

  abbrev come : List CellSeen
  come = b.new ++ blocks

  -- ---- the lists of cells

  old_list : c.old ≡ b.old ++ (twig ∷ upper_old)
  old_list = below.old_is ∙ ap (λ xs. b.old ++ xs) (grafts.levels.old
      ∙ ap (λ (x : CellSeen). x ∷ upper_old) grafts.level.row.old)

  new_list : c.new ++ blocks ≡ (b.new ++ (grafts.lowest.new ++ upper_new)) ++ blocks
  new_list = ap (λ xs. xs ++ blocks) (below.new_is ∙ ap (λ xs. b.new ++ xs) grafts.levels.new)

  old_distinct : Distinct (b.old ++ (twig ∷ upper_old))
  old_distinct = distinct (b.old ++ (twig ∷ upper_old)) (subst HaveNames old_list made.change.old_names)

  new_distinct : Distinct (c.new ++ blocks)
  new_distinct = distinct (c.new ++ blocks) made.change.new_names

  there_old : (x : CellSeen) → Contains (b.old ++ (twig ∷ upper_old)) x → q.old x.id ≡ Some (node_of x)
  there_old x at = ap (λ cells. by_name cells x.id) old_list ∙ there (b.old ++ (twig ∷ upper_old)) x old_distinct at

  there_new : (x : CellSeen) → Contains (c.new ++ blocks) x → q.new x.id ≡ Some (node_of x)
  there_new x at = there (c.new ++ blocks) x new_distinct at

  stands : (x : CellSeen) → Contains (b.old ++ (twig ∷ upper_old)) x → s x.id ≡ Some (node_of x)
  stands x at = made.meets.meets.has_old x.id (node_of x) (there_old x at)

  in_below : (x : CellSeen) → Contains b.old x → Contains (b.old ++ (twig ∷ upper_old)) x
  in_below x at = Contains-append_left b.old (twig ∷ upper_old) x at

  -- what goes below is an old cell of the patch
  pub below_there : (x : CellSeen) → Contains b.old x → q.old x.id ≡ Some (node_of x)
  below_there x at = there_old x (in_below x at)

  pub below_stands : (x : CellSeen) → Contains b.old x → s x.id ≡ Some (node_of x)
  below_stands x at = stands x (in_below x at)

  in_twig : Contains (b.old ++ (twig ∷ upper_old)) twig
  in_twig = Contains-append_right b.old (twig ∷ upper_old) twig (here twig upper_old)

  in_upper : (x : CellSeen) → Contains upper_old x → Contains (b.old ++ (twig ∷ upper_old)) x
  in_upper x at = Contains-append_right b.old (twig ∷ upper_old) x (later twig x upper_old at)

  pub twig_stands : s twig.id ≡ Some (node_of twig)
  twig_stands = stands twig in_twig

  -- a new cell is one that comes below, a twig, or one above
  abbrev pub OfNew : CellSeen → Type 0
  OfNew x = Contains come x ⊎ (Contains grafts.lowest.new x ⊎ Contains upper_new x)

  of_new : (x : CellSeen) → Contains (c.new ++ blocks) x → OfNew x
  of_new x at = elim (Contains-append_cases (b.new ++ (grafts.lowest.new ++ upper_new)) blocks x (subst
      (λ cells. Contains cells x) new_list at)) [
        | inr block ↦ inl (Contains-append_right b.new blocks x block)
        | inl rest ↦ elim (Contains-append_cases b.new (grafts.lowest.new ++ upper_new) x rest) [
          | inl low ↦ inl (Contains-append_left b.new blocks x low)
          | inr high ↦ inr (Contains-append_cases grafts.lowest.new upper_new x high)
        ]
      ]

  in_new : (x : CellSeen) → OfNew x → Contains (c.new ++ blocks) x
  in_new x h = subst (λ cells. Contains cells x) (sym new_list) (elim h [
    | inl at ↦ elim (Contains-append_cases b.new blocks x at) [
      | inl low ↦ Contains-append_left (b.new ++ (grafts.lowest.new ++ upper_new)) blocks x
          (Contains-append_left b.new (grafts.lowest.new ++ upper_new) x low)
      | inr block ↦ Contains-append_right (b.new ++ (grafts.lowest.new ++ upper_new)) blocks x block
    ]
    | inr at ↦ Contains-append_left (b.new ++ (grafts.lowest.new ++ upper_new)) blocks x (Contains-append_right b.new
        (grafts.lowest.new ++ upper_new) x (elim at [
          | inl low ↦ Contains-append_left grafts.lowest.new upper_new x low
          | inr high ↦ Contains-append_right grafts.lowest.new upper_new x high
        ]))
  ])

  -- ---- which cells are leaves

  high_old : (x : CellSeen) → Contains upper_old x → 2 ≤ x.level
  high_old x at = ups_high s r g.part (Some twig) ups (let l = g.level in
      omega (arith, l)) g.above x (taken (length grafts.more) ups x (subst (λ xs. Contains xs x) grafts.ups_are at))

  low_new : (x : CellSeen) → Contains grafts.lowest.new x → x.level ≡ 2
  low_new x at = (follow_within 2 (rank twig.lo) (rank twig.hi) grafts.lowest.new x grafts.level.row.ranges at).level_as

  high_new : (x : CellSeen) (u : LeafUnit) → Contains upper_new x → Contains (node_of x).units u → 2 ≤ x.level
  high_new x u at has = elim (new_stands (Some grafts.lowest) grafts.more grafts.over x at) [
    | inr over ↦ absurd (none u (subst (λ xs. Contains xs u) (grafts.root_units x over) has))
    | inl h ↦
        let (e, w, st, among) = h in
        let step = stands_step (Some grafts.lowest) grafts.more e w grafts.climbs st in
        let within = follow_within w.old.level (rank w.old.lo) (rank w.old.hi) w.new x step.ranges among in
        let high = high_old w.old (stands_old (Some grafts.lowest) grafts.more e w st) in
        let same = within.level_as in
        omega (arith, high, same)
  ]

  above_leaf : (x : CellSeen) → 2 ≤ x.level → (x.level == 1) ≡ false
  above_leaf x two = not_leaf x (λ e. omega (arith, two, e))

  -- ---- where units stand

  -- what the new cells have: those that come below, the pieces, and the nodes above
  abbrev pub WasOrComes : (cells : List CellSeen) → (mine : List LeafUnit) → ℕ → Placed Value → Type 0
  WasOrComes cells mine k u = IsPlacedIn cells k u ⊎ ((Contains mine (k, u.0) × (u.1 ≡ false))
      ⊎ (Contains upper (k, u.0) × (u.1 ≡ false)))

  new_from : (k : ℕ) (u : Placed Value) → UnitIn q.new k u → WasOrComes come (units_of qs) k u
  new_from k u (i, n, e, has, kind) =
      let (x, at, id, says) = found (c.new ++ blocks) i n e in
      let has_x = subst (λ (z : Node Value). Contains z.units (k, u.0)) says has in
      let kind_x = sym (same_level x) ∙ subst (λ (z : Node Value). (z.level == 1) ≡ u.1) says kind in
      elim (of_new x at) [
        | inl low ↦ inl (x, low, has_x, kind_x)
        | inr more ↦ elim more [
          | inl mine ↦
              let l = low_new x mine in
              inr (inl (
                subst (λ xs. Contains xs (k, u.0)) grafts.level.row.units (to_units grafts.lowest.new x
                    (k, u.0) mine has_x),
                sym kind_x ∙ above_leaf x (omega (arith, l)),
              ))
          | inr high ↦ inr (inr (
            subst (λ xs. Contains xs (k, u.0)) (upper_units grafts.more grafts.over grafts.keep grafts.root_units)
                (to_units upper_new x (k, u.0) high has_x),
            sym kind_x ∙ above_leaf x (high_new x (k, u.0) high has_x),
          ))
        ]
      ]

  new_to : (k : ℕ) (u : Placed Value) → WasOrComes come (units_of qs) k u → UnitIn q.new k u
  new_to k u h = elim h [
    | inl low ↦ let (x, at, has, kind) = low in (
      x.id,
      node_of x,
      there_new x (in_new x (inl at)),
      has,
      same_level x
          ∙ kind,
    )
    | inr more ↦ elim more [
      | inl mine ↦
          let (x, at, has) = from_units grafts.lowest.new (k, u.0) (subst (λ xs. Contains xs (k, u.0))
          (sym grafts.level.row.units) mine.0) in
          let l = low_new x at in (
            x.id,
            node_of x,
            there_new x (in_new x (inr (inl at))),
            has,
            same_level x
                ∙ (above_leaf x (omega (arith, l)) ∙ sym mine.1),
          )
      | inr high ↦
          let (x, at, has) = from_units upper_new (k, u.0) (subst (λ xs. Contains xs (k, u.0)) (sym
          (upper_units grafts.more grafts.over grafts.keep grafts.root_units)) high.0) in (
            x.id,
            node_of x,
            there_new x (in_new x (inr (inr at))),
            has,
            same_level x
                ∙ (above_leaf x (high_new x (k, u.0) at has) ∙ sym high.1),
          )
    ]
  ]

  old_from : (k : ℕ) (u : Placed Value) → UnitIn q.old k u → WasOrComes b.old (node_of twig).units k u
  old_from k u (i, n, e, has, kind) =
      let (x, at, id, says) = found c.old i n e in
      let has_x = subst (λ (z : Node Value). Contains z.units (k, u.0)) says has in
      let kind_x = sym (same_level x) ∙ subst (λ (z : Node Value). (z.level == 1) ≡ u.1) says kind in
      elim (Contains-append_cases b.old (twig ∷ upper_old) x (subst (λ cells. Contains cells x) old_list at)) [
        | inl low ↦ inl (x, low, has_x, kind_x)
        | inr rest ↦ elim (cases twig x upper_old rest) [
          | inl same ↦
              let l : x.level ≡ 2 = ap (λ (z : CellSeen). z.level) same ∙ level in
              inr (inl (
                subst (λ (z : CellSeen). Contains (node_of z).units (k, u.0)) same has_x,
                sym kind_x
                    ∙ above_leaf x (omega (arith, l)),
              ))
          | inr high ↦ inr (inr (to_units upper_old x (k, u.0) high has_x, sym kind_x ∙ above_leaf x (high_old x high)))
        ]
      ]

  old_to : (k : ℕ) (u : Placed Value) → WasOrComes b.old (node_of twig).units k u → UnitIn q.old k u
  old_to k u h = elim h [
    | inl low ↦ let (x, at, has, kind) = low in (x.id, node_of x, there_old x (in_below x at), has, same_level x ∙ kind)
    | inr more ↦ elim more [
      | inl mine ↦ (
        twig.id,
        node_of twig,
        there_old twig in_twig,
        mine.0,
        same_level twig
            ∙ (above_leaf twig (let l = g.level in omega (arith, l)) ∙ sym mine.1),
      )
      | inr high ↦
          let (x, at, has) = from_units upper_old (k, u.0) high.0 in (
            x.id,
            node_of x,
            there_old x (in_upper x at),
            has,
            same_level x ∙ (above_leaf x (high_old x at)
                ∙ sym high.1),
          )
    ]
  ]

  -- ---- keys that the twig or what goes below it holds

  abbrev pub IsHeldBelow : ℕ → Type 0
  IsHeldBelow k = (x : CellSeen) × (Contains b.old x ⊎ (x ≡ twig)) × Holds (node_of x) k

  held_list : (x : CellSeen) → Contains b.old x ⊎ (x ≡ twig) → Contains (b.old ++ (twig ∷ [])) x
  held_list x (inl at) = Contains-append_left b.old (twig ∷ []) x at
  held_list x (inr same) = subst (λ (z : CellSeen). Contains (b.old ++ (twig ∷ [])) z) (sym same)
      (Contains-append_right b.old (twig ∷ []) twig (here twig []))

  held_there : (x : CellSeen) → Contains b.old x ⊎ (x ≡ twig) → Contains (b.old ++ (twig ∷ upper_old)) x
  held_there x (inl at) = in_below x at
  held_there x (inr same) = subst (λ (z : CellSeen). Contains (b.old ++ (twig ∷ upper_old)) z) (sym same) in_twig

  no_upper : (k : ℕ) (v : Value) → IsHeldBelow k → Contains upper (k, v) → ⊥
  no_upper k v (y, at_y, holds) has =
      let (x, at, has_x) = from_units upper_old (k, v) has in
      let sx = stands x (in_upper x at) in
      let sy = stands y (held_there y at_y) in
      apart_names (b.old ++ (twig ∷ [])) upper_old (subst Distinct (sym (append_assoc b.old (twig
      ∷ []) upper_old)) old_distinct) y x (held_list y at_y) at
      (one_holder s r g.part k y.id x.id (node_of y) (node_of x) sy sx holds (unit_held (node_of x) k v
      (g.part.nodes x.id (node_of x) sx) has_x))

  -- a key has one of the new units
  pub new_once : (k : ℕ) (u w : Placed Value) → WasOrComes come (units_of qs) k u
      → WasOrComes come (units_of qs) k w → u.0 ≡ w.0
  new_once k u w a e = unit_once (place q s) (root_after q r)
      (placed_part q s r made.change.patch g.part made.meets.meets made.meets.unnamed) k u.0 w.0 (placed u a)
      (placed w e)
    where
      placed : (x : Placed Value) → WasOrComes come (units_of qs) k x → UnitAt (place q s) k x.0
      placed x h = let (i, n, e, has, kind) = new_to k x h in (i, n, over_new (q.new i) (q.old i) (s i) n e, has)

  -- ---- the effect

  -- what stands at the key below the nodes above the twig, then and now
  abbrev pub Comes : ℕ → Placed Value → Type 0
  Comes k u = IsPlacedIn come k u ⊎ (Contains (units_of qs) (k, u.0) × (u.1 ≡ false))

  abbrev pub Was : ℕ → Placed Value → Type 0
  Was k u = IsPlacedIn b.old k u ⊎ (Contains (node_of twig).units (k, u.0) × (u.1 ≡ false))

  pub graft_effect : (at : ℕ → Bool) (to : ℕ → Option (Placed Value)) → ((k : ℕ) → at k ≡ true → IsHeldBelow k)
      → ((k : ℕ) (u : Placed Value) → at k ≡ true → Comes k u ↔ (to k ≡ Some u))
      → ((k : ℕ) (u : Placed Value) → at k ≡ false → Comes k u ↔ Was k u) → HasEffect q at to
  graft_effect at to inside says same = record {
    held = λ k h. let (x, in_x, holds) = inside k h in (x.id, node_of x, there_old x (held_there x in_x), holds);
    there = λ k u h. (
      λ x. elim (new_from k u x) [
        | inl y ↦ (says k u h).0 (inl y)
        | inr y ↦ elim y [ inl z ↦ (says k u h).0 (inr z) | inr z ↦ absurd (no_upper k u.0 (inside k h) z.0) ]
      ],
      λ e. new_to k u (elim ((says k u h).1 e) [ inl y ↦ inl y | inr z ↦ inr (inl z) ]),
    );
    others = λ k u h. (
      λ x. elim (new_from k u x) [
        | inl y ↦ was k u ((same k u h).0 (inl y))
        | inr y ↦ elim y [ inl z ↦ was k u ((same k u h).0 (inr z)) | inr z ↦ old_to k u (inr (inr z)) ]
      ],
      λ x. elim (old_from k u x) [
        | inl y ↦ now k u ((same k u h).1 (inl y))
        | inr y ↦ elim y [ inl z ↦ now k u ((same k u h).1 (inr z)) | inr z ↦ new_to k u (inr (inr z)) ]
      ],
    );
  }
    where
      was : (k : ℕ) (u : Placed Value) → Was k u → UnitIn q.old k u
      was k u h = old_to k u (elim h [ inl y ↦ inl y | inr z ↦ inr (inl z) ])

      now : (k : ℕ) (u : Placed Value) → Comes k u → UnitIn q.new k u
      now k u h = new_to k u (elim h [ inl y ↦ inl y | inr z ↦ inr (inl z) ])

  -- ---- numbers

  steps : List Step
  steps = grafts.lowest ∷ grafts.more

  ids_are : fresh_ids (grafts.lowest ∷ grafts.more) grafts.over
      ≡ ids_of (drop 1 grafts.lowest.new) ++ fresh_ids grafts.more grafts.over
  ids_are = refl

  number : after.next ≡ before.next + length (fresh_ids (grafts.lowest ∷ grafts.more) grafts.over)
  number = ap (λ (f : Fresh). f.next) grafts.number

  fresh_number : (i : ℕ) → Contains (fresh_ids (grafts.lowest ∷ grafts.more) grafts.over) i → (before.next ≤ i)
      × (i < after.next)
  fresh_number i at =
      let w = count_within before.next (fresh_ids (grafts.lowest ∷ grafts.more) grafts.over) i grafts.counts at in
      let n = number in
      (omega (arith, w), omega (arith, w, n))

  old_id : (x y : CellSeen) → Contains (b.old ++ (twig ∷ upper_old)) y → x.id ≡ y.id → q.old x.id ≡ None → ⊥
  old_id x y at same gone = none-some (node_of y) (sym gone ∙ (ap q.old same ∙ there_old y at))

  -- a name that no old cell has is a number that was taken
  pub graft_names : (x : CellSeen) → Contains d.new x → q.old x.id ≡ None → (before.next ≤ x.id) × (x.id < after.next)
  graft_names x at gone = elim (Contains-append_cases grafts.lowest.new upper_new x (subst
      (λ cells. Contains cells x) grafts.levels.new at)) [
        | inl low ↦ elim (cases twig.id x.id (ids_of (drop 1 grafts.lowest.new)) (subst
            (λ ids. Contains ids x.id) grafts.level.row.first (id_member grafts.lowest.new x low))) [
              | inl same ↦ absurd (old_id x twig in_twig same gone)
              | inr more ↦ fresh_number x.id (Contains-append_left (ids_of (drop 1 grafts.lowest.new))
                  (fresh_ids grafts.more grafts.over) x.id more)
            ]
        | inr high ↦ elim (new_id (Some grafts.lowest) grafts.more grafts.over x grafts.climbs high) [
          | inl h ↦ let (e, w, st, same) = h in absurd (old_id x w.old (in_upper w.old (stands_old
              (Some grafts.lowest) grafts.more e w st)) same gone)
          | inr more ↦ fresh_number x.id (Contains-append_right (ids_of (drop 1 grafts.lowest.new))
              (fresh_ids grafts.more grafts.over) x.id more)
        ]
      ]

  root_from : (over : Option CellSeen) (x : RootPair) → root_pair over ≡ Some x → (e : CellSeen) × (over ≡ Some e)
      × (x.id.0 ≡ e.id)
  root_from None x e = absurd (none-some x e)
  root_from (Some o) x e = (o, refl, ap (λ (y : RootPair). y.id.0) (sym (same_Some _ x e)))

  pub graft_root : (x : RootPair) → c.root ≡ Some x → IsPointable x.id.0
  graft_root x e =
      let (o, over, id) = root_from grafts.over x (sym (below.root_is ∙ grafts.levels.pair) ∙ e) in
      subst IsPointable (sym id) (grafts.root_able o over)
