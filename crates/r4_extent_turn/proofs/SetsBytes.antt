-- What the turn of a twig of a body that comes to extents does to units.
use Rattle.std.proofs.Common.{◌≡◌, ◌↔◌, ◌⊎◌, inl, inr, ℕ, ◌+◌, ◌*◌, ◌^◌, ◌≤◌, true, false, List, [], ◌++◌, refl, sym, ap, subst, ◌∙◌, arith}
use Rattle.std.specs.Prelude.{Contains, Some}
use Rattle.std.proofs.lemmas.List.Elements.{Contains-append_cases, Contains-append_left, Contains-append_right}
use Rattle.std.proofs.lemmas.Option.{same_Some}
use Rattle.r4_base.specs.Key.{rank}
use Rattle.r4_base.specs.Tree.{IsData}
use Rattle.r4_base.specs.Value.{Value}
use Rattle.r4_base.specs.declared.key.Key.{Key}
use Rattle.r4_build.specs.r4_branch.Pieces.{units_of}
use Rattle.r4_build.specs.r4_branch.declared.piece.TwigPiece.{TwigPiece}
use Rattle.r4_extent_build.specs.r4_cell.Seen.{CellSeen, node_of}
use Rattle.r4_content.specs.Edited.{Edits}
use Rattle.r4_extent_build.specs.Growing.{end_after}
use Rattle.r4_extent_build.specs.Numbering.{cells_coming}
use Rattle.r4_extent_build.specs.Setting.{byte_after}
use Rattle.r4_extent_build.proofs.UnitsOfRuns.{IsIn, runs_stand}
use Rattle.r4_extent_build.proofs.r4_extent_edit.ExtentEffect.{both_ways, is_on}
use Rattle.r4_extent_build.proofs.r4_extent_edit.GraftEffect.{IsPlacedIn}
use Rattle.r4_build.specs.r4_patch.Effect.{Placed}
use Rattle.r4_build.specs.r4_path.Steps.{name_of}
use Rattle.r4_build.proofs.r4_path.Rising.{InCell, follow_covers, in_node, level_is}
use Rattle.r4_build.specs.r4_reach.Needs.{gets_bytes, runs}
use Rattle.r4_build.specs.r4_reach.Touched.{Body, first_byte}
use Rattle.r4_extent_build.specs.r4_twig_work.Regrafting.{SetsBelow, StandsBelow}
use Rattle.r4_build.proofs.r4_work.UnitMembers.{between}
use Rattle.r4_extent_turn.specs.Turning.{AreKept, IsTurnFor, IsTurningBody, Kept, Turn, blocks_turned, in_turned, kept_cells, last_of, leaves_of}
use Rattle.r4_extent_turn.specs.Turning.{numbered, set_over, tails_of, told_extent, turned_byte, turned_values, turning_turn}
use Rattle.r4_extent_turn.proofs.Bodies.{count, fits}
use Rattle.r4_extent_turn.proofs.Comes.{p, qs, qs_units, were_units}
use Rattle.r4_extent_turn.proofs.Keeps.{kept_units, leaf_level}
use Rattle.r4_extent_turn.proofs.SetOver.{byte_over, still}

module _ (b : Body) (x : Turn) (c : IsTurnFor b x) where
  leaf_has : (j : ℕ) → in_turned b j ≡ true → (d : CellSeen) × (Contains (leaves_of x) d × InCell d j)
  leaf_has j on =
      let (low, high) = between (first_byte b) (end_after b) j on in
      let a = c.around.low in
      let z = c.around.high in
      let (d, at, range) = follow_covers 1 (rank x.leaf.lo) (rank (last_of x).hi) (leaves_of x) j c.beside (omega (arith, a, low)) (omega (arith, z, high)) in
      (d, (at, range))

  -- the twig has no unit of its own there
  twig_none : (j : ℕ) (v : Value) → Contains (node_of x.twig).units (j, v) → in_turned b j ≡ true → ⊥
  twig_none j v has on =
      let (d, (at, range)) = leaf_has j on in
      let l = level_is x.twig in
      let two = c.level in
      elim (c.node.unit_low j v has) [
        | inl leaf_is ↦ omega (arith, leaf_is, l, two)
        | inr s ↦
            let block : IsData (name_of d) = c.node.spans_apart (name_of d) s.0 j (c.named d at) s.1 range s.2 in
            let one = leaf_level b x c d at in
            omega (arith, block, one)
      ]

module _ (b : Body) (x : Turn) (c : IsTurnFor b x) (s : Kept) (k : AreKept b x s) (first : Key) (g : IsTurningBody b first) (e : Edits) (n : ℕ) (high : 2 ^ 63 ≤ n) where
  abbrev whole : Edits
  whole = set_over (tails_of b x) e

  abbrev blocks : List CellSeen
  blocks = cells_coming whole [] n (told_extent b e)

  abbrev come : List CellSeen
  come = kept_cells (numbered x (n + blocks_turned b e) s)

  abbrev all : List TwigPiece
  all = qs b x c s k first g e n high

  -- the extent
  runs_are : (j : ℕ) (u : Placed Value) → StandsBelow blocks (units_of (told_extent b e)) j u ↔ (IsIn (first_byte b) (4096 * count b first g) j × (u ≡ (byte_after whole j, false)))
  runs_are j u =
      let f = fits b first g in
      subst (λ (i : ℕ). StandsBelow (cells_coming whole [] n (runs (gets_bytes b e) i (count b first g))) (units_of (runs (gets_bytes b e) i (count b first g))) j u
      ↔ (IsIn i (4096 * count b first g) j × (u ≡ (byte_after whole j, false)))) g.key.at
      (runs_stand [] whole (gets_bytes b e) (still b first g x c e) (count b first g) first g.key.key (omega (arith, f)) (λ i lt. refl) n j u)

  abbrev Stands : ℕ → Placed Value → Type 0
  Stands j u = IsPlacedIn come j u ⊎ (StandsBelow blocks (units_of (told_extent b e)) j u ⊎ (Contains (node_of x.twig).units (j, u.0) × (u.1 ≡ false)))

  twig_before : (j : ℕ) (v : Value) → Contains (units_of (p b x c).before) (j, v) → Contains (node_of x.twig).units (j, v)
  twig_before j v at = subst (λ us. Contains us (j, v)) (sym (were_units b x c)) (Contains-append_left (units_of (p b x c).before) (units_of (p b x c).behind) (j, v) at)

  twig_behind : (j : ℕ) (v : Value) → Contains (units_of (p b x c).behind) (j, v) → Contains (node_of x.twig).units (j, v)
  twig_behind j v at = subst (λ us. Contains us (j, v)) (sym (were_units b x c)) (Contains-append_right (units_of (p b x c).before) (units_of (p b x c).behind) (j, v) at)

  comes : (j : ℕ) (u : Placed Value) → StandsBelow (come ++ blocks) (units_of all) j u → Stands j u
  comes j u (inl (d, at, has, kind)) = elim (Contains-append_cases come blocks d at) [
    | inl kept ↦ inl (d, kept, has, kind)
    | inr block ↦ inr (inl (inl (d, block, has, kind)))
  ]
  comes j u (inr (own, kind)) =
      elim (Contains-append_cases (units_of (p b x c).before) (units_of (told_extent b e) ++ units_of (p b x c).behind) (j, u.0) (subst (λ us. Contains us (j, u.0)) (qs_units b x c s k first g e n high) own)) [
        | inl left ↦ inr (inr (twig_before j u.0 left, kind))
        | inr more ↦ elim (Contains-append_cases (units_of (told_extent b e)) (units_of (p b x c).behind) (j, u.0) more) [
          | inl run ↦ inr (inl (inr (run, kind)))
          | inr right ↦ inr (inr (twig_behind j u.0 right, kind))
        ]
      ]

  into : (j : ℕ) (v : Value) → Contains (units_of (p b x c).before) (j, v) ⊎ (Contains (units_of (told_extent b e)) (j, v) ⊎ Contains (units_of (p b x c).behind) (j, v)) → Contains (units_of all) (j, v)
  into j v h = subst (λ us. Contains us (j, v)) (sym (qs_units b x c s k first g e n high)) (elim h [
    | inl left ↦ Contains-append_left (units_of (p b x c).before) (units_of (told_extent b e) ++ units_of (p b x c).behind) (j, v) left
    | inr more ↦ Contains-append_right (units_of (p b x c).before) (units_of (told_extent b e) ++ units_of (p b x c).behind) (j, v) (elim more [
      | inl run ↦ Contains-append_left (units_of (told_extent b e)) (units_of (p b x c).behind) (j, v) run
      | inr right ↦ Contains-append_right (units_of (told_extent b e)) (units_of (p b x c).behind) (j, v) right
    ])
  ])

  comes_to : (j : ℕ) (u : Placed Value) → Stands j u → StandsBelow (come ++ blocks) (units_of all) j u
  comes_to j u (inl (d, at, has, kind)) = inl (d, Contains-append_left come blocks d at, has, kind)
  comes_to j u (inr (inl (inl (d, at, has, kind)))) = inl (d, Contains-append_right come blocks d at, has, kind)
  comes_to j u (inr (inl (inr (run, kind)))) = inr (into j u.0 (inr (inl run)), kind)
  comes_to j u (inr (inr (own, kind))) =
      elim (Contains-append_cases (units_of (p b x c).before) (units_of (p b x c).behind) (j, u.0) (subst (λ us. Contains us (j, u.0)) (were_units b x c) own)) [
        | inl left ↦ inr (into j u.0 (inl left), kind)
        | inr right ↦ inr (into j u.0 (inr (inr right)), kind)
      ]

  in_run : (j : ℕ) → in_turned b j ≡ true → IsIn (first_byte b) (4096 * count b first g) j
  in_run j on = between (first_byte b) (end_after b) j on

  of_run : (j : ℕ) → IsIn (first_byte b) (4096 * count b first g) j → in_turned b j ≡ true
  of_run j r = is_on (first_byte b) (end_after b) j r.0 r.1

  value_is : (j : ℕ) (u : Placed Value) → u ≡ (byte_after whole j, false) → turned_values b e x j ≡ Some u
  value_is j u same = ap (λ (v : Value). Some (v, false)) (sym (byte_over b e x j)) ∙ ap Some (sym same)

  is_value : (j : ℕ) (u : Placed Value) → turned_values b e x j ≡ Some u → u ≡ (byte_after whole j, false)
  is_value j u same = sym (ap (λ (v : Value). (v, false)) (byte_over b e x j) ∙ same_Some (turned_byte b e x j, false) u same)

  pub sets_below : SetsBelow x.twig ((turning_turn b e x s).pieces n) ((turning_turn b e x s).beside n) (in_turned b) (turned_values b e x)
  sets_below = record {
    held = λ j on.
        let (d, (at, range)) = leaf_has b x c j on in
        let l = level_is d in
        let one = leaf_level b x c d at in
        (d, inl at, inl (omega (arith, l, one), in_node d j range));
    there = λ j u on. (
      λ h. elim (comes j u h) [
        | inl kept ↦ absurd (both_ways (in_turned b j) on ((kept_units b x c s k (n + blocks_turned b e) j u).0 kept).1)
        | inr more ↦ elim more [
          | inl run ↦ value_is j u ((runs_are j u).0 run).1
          | inr own ↦ absurd (twig_none b x c j u.0 own.0 on)
        ]
      ],
      λ is. comes_to j u (inr (inl ((runs_are j u).1 (in_run j on, is_value j u is)))),
    );
    others = λ j u off. (
      λ h. elim (comes j u h) [
        | inl kept ↦ inl ((kept_units b x c s k (n + blocks_turned b e) j u).0 kept).0
        | inr more ↦ elim more [
          | inl run ↦ absurd (both_ways (in_turned b j) (of_run j ((runs_are j u).0 run).0) off)
          | inr own ↦ inr own
        ]
      ],
      λ h. comes_to j u (elim h [
        | inl leaf ↦ inl ((kept_units b x c s k (n + blocks_turned b e) j u).1 (leaf, off))
        | inr own ↦ inr (inr own)
      ]),
    );
  }
