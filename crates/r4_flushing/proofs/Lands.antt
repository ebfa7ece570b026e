-- Where the cells of a plan stand at its end, on whatever image it begins.
use Rattle.std.proofs.Common.{◌≡◌, ◌⊎◌, inl, inr, ⊎_elim, ℕ, ◌<◌, ◌≤◌, true, false, List, [], ◌∷◌}
use Rattle.std.proofs.Common.{◌++◌, map, length, Option, Some, None, refl, sym, ◌∙◌, ap, subst, arith}
use Rattle.std.specs.Prelude.{Contains}
use Rattle.std.proofs.lemmas.List.Elements.{Contains-append_cases, Contains-append_left, Contains-append_right}
use Rattle.std.proofs.lemmas.List.Sorted.{Contains-permutation}
use Rattle.r4_base.proofs.Choices.{never_both, nothing_in}
use Rattle.r4_base.specs.Bitmap.{is_fixed}
use Rattle.r4_base.specs.Image.{AreDifferent, Image, block_at}
use Rattle.r4_base.specs.Layout.{super_block}
use Rattle.r4_base.specs.declared.superblock.Super40.{Super40}
use Rattle.r4_base.specs.declared.things.AtomNo.{AtomNo}
use Rattle.r4_base.specs.declared.things.BlockNo.{BlockNo}
use Rattle.r4_accounting.specs.r4_cell.Seen.{CellSeen}
use Rattle.r4_space.specs.Space.{Space}
use Rattle.r4_renaming.specs.r4_place.declared.placed.Placed.{Placed}
use Rattle.r4_renaming.specs.r4_wander.LogPlan.{first, news, parts_of, placed_writes, scratch}
use Rattle.r4_renaming.specs.r4_wander.Parts.{IsOrderOf, Parts, base_of, part}
use Rattle.r4_renaming.specs.r4_wander.Seen.{Placed as PlacedCell}
use Rattle.r4_renaming.specs.r4_wander.Torn.{IsTarget, Write}
use Rattle.r4_renaming.specs.r4_wander.declared.plan.LogPlan.{LogPlan}
use Rattle.r4_renaming.proofs.r4_wander.Members.{any_cases, any_here, any_later, in_map}
use Rattle.r4_renaming.proofs.r4_wander.Order.{part_member, part_target, put_member}
use Rattle.r4_renaming.proofs.r4_wander.Settling.{length-put_writes, one_target, put_writes_other}
use Rattle.r4_renaming.specs.r4_commit.Places.{kept_at, overwritten, place_of, placed_at, placed_cells}
use Rattle.r4_renaming.specs.r4_commit.Planned.{IsPlanFor, bitmap_writes, blocks_of, new_homes, new_super}
use Rattle.r4_renaming.proofs.r4_commit.PlanFacts.{bitmap_target, home_cases}
use Rattle.r4_renaming.proofs.r4_commit.Safety.{fixed_bitmap, fixed_low, in_scratch}
use Rattle.r4_renaming.proofs.r4_sealed.NewCells.{kept_in, placed_in}
use Rattle.r4_renaming.proofs.r4_placed.Planning.{kept_from}
use Rattle.r4_flushing.proofs.Counting.{from_mapped, one_of}

-- ---- members

-- a cell that is placed, and its block
pub placed_one : (place : ℕ → Option BlockNo) (cells : List CellSeen) (q : PlacedCell)
    → Contains (placed_cells place cells) q
    → (x : CellSeen) × (b : BlockNo) × Contains cells x × (place x.id ≡ Some b) × (q ≡ record { at = b.0; cell = x })
placed_one place [] q has = absurd (nothing_in q has)
placed_one place (c ∷ cs) q has = by (λ later. placed_one place cs q later) (place c.id) refl has
  where
    by : (Contains (placed_cells place cs) q → (x : CellSeen) × (b : BlockNo) × Contains cs x × (place x.id ≡ Some b)
        × (q ≡ record { at = b.0; cell = x })) → (o : Option BlockNo) → place c.id ≡ o
        → Contains (placed_at c o ++ placed_cells place cs) q
        → (x : CellSeen) × (b : BlockNo) × Contains (c ∷ cs) x × (place x.id ≡ Some b)
        × (q ≡ record { at = b.0; cell = x })
    by rest None at h =
        let (x, b, there, is, same) = rest h in (x, b, any_later c cs x there, is, same)
    by rest (Some b) at h = ⊎_elim
        (λ here. (c, b, any_here c cs c refl, at, here))
        (λ later. let (x, e, there, is, same) = rest later in (x, e, any_later c cs x there, is, same))
        (any_cases (record { at = b.0; cell = c }) (placed_cells place cs) q h)

kept_among : (place : ℕ → Option BlockNo) (cells : List CellSeen) (x : CellSeen) → Contains (overwritten place cells) x
    → Contains cells x
kept_among place [] x has = absurd (nothing_in x has)
kept_among place (c ∷ cs) x has = by (λ later. kept_among place cs x later) (place c.id) has
  where
    by : (Contains (overwritten place cs) x → Contains cs x) → (o : Option BlockNo)
        → Contains (kept_at c o ++ overwritten place cs) x → Contains (c ∷ cs) x
    by rest (Some b) h = any_later c cs x (rest h)
    by rest None h = ⊎_elim
        (λ here. any_here c cs x here) (λ later. any_later c cs x (rest later))
        (any_cases c (overwritten place cs) x h)

module _ (s : Space) (atom : AtomNo) (cells : List CellSeen) (answers : List Placed) (next : Super40) (last : BlockNo)
    (plan : LogPlan) (f : IsPlanFor s atom cells answers next last plan) (sorted : Parts)
    (order : IsOrderOf (parts_of plan) sorted) (more : 64 ≤ s.block_count)
    (itself : (j : ℕ) (b : BlockNo) → place_of answers j ≡ Some b → b.0 ≡ j) where
  -- what is overwritten: a fixed block, or one of a cell
  pub home_of : (b : ℕ) → IsTarget (part sorted 2) b → (is_fixed s.block_count b ≡ true)
      ⊎ ((x : CellSeen) × Contains cells x × (place_of answers x.id ≡ None) × (b ≡ x.id))
  home_of b has = ⊎_elim
      (λ is. inl (fixed_low s.block_count b (omega (arith, is))))
      (λ rest. ⊎_elim
      (λ map.
      let lt = map.1 in
      inl (subst (λ (n : ℕ). is_fixed s.block_count n ≡ true) (sym map.2)
      (fixed_bitmap s.block_count map.0 more (omega (arith, lt, f.are_new.count)))))
      (λ cell. inr (kept_from (place_of answers) cells b cell))
      rest)
      (home_cases (new_super next f.bitmaps) f.bitmaps (overwritten (place_of answers) cells) b
      (subst (λ (ws : List Write). IsTarget ws b) f.homes (part_target (parts_of plan) sorted order 2 b has)))

  module _ (base : Image) (once : AreDifferent (map (λ (x : CellSeen). x.id) cells)) (y : CellSeen)
      (has : Contains cells y) (within : y.id < length base) (free : is_fixed s.block_count y.id ≡ false)
      (off : (b : BlockNo) → place_of answers y.id ≡ Some b → Contains (blocks_of plan) y.id → ⊥) where
    the_one : (x : CellSeen) → Contains cells x → x.id ≡ y.id → x ≡ y
    the_one x there same = one_of (λ (n : CellSeen). n.id) cells once x y there has same

    not_low : (n : ℕ) → n < 22 → y.id ≡ n → ⊥
    not_low n low is =
        never_both (is_fixed s.block_count y.id) (fixed_low s.block_count y.id (omega (arith, low, is))) free

    abbrev image : ℕ → Image
    image n = base_of sorted base n

    long1 : length (image 1) ≡ length base
    long1 = length-put_writes sorted.first base

    long2 : length (image 2) ≡ length base
    long2 = length-put_writes ((19, sorted.header) ∷ []) (image 1) ∙ long1

    header_stays : block_at (image 2) y.id ≡ block_at (image 1) y.id
    header_stays =
        put_writes_other ((19, sorted.header) ∷ []) (image 1) y.id
        (λ one. not_low 19 (omega arith) (one_target (19, sorted.header) y.id one))

    footer_stays : block_at (image 4) y.id ≡ block_at (image 3) y.id
    footer_stays =
        put_writes_other ((20, sorted.footer) ∷ []) (image 3) y.id
        (λ one. not_low 20 (omega arith) (one_target (20, sorted.footer) y.id one))

    -- ---- a cell that gets a block

    module _ (b : BlockNo) (is : place_of answers y.id ≡ Some b) where
      abbrev write : Write
      write = (b.0, y.block)

      in_first : Contains sorted.first write
      in_first =
          Contains-permutation (first plan) sorted.first write order.first
          (Contains-append_left (placed_writes plan) (scratch plan) write
          (in_map (λ (q : PlacedCell). (q.at, q.cell.block)) plan.placed (record { at = b.0; cell = y })
          (subst (λ (l : List PlacedCell). Contains l (record { at = b.0; cell = y })) (sym f.placed)
          (placed_in (place_of answers) cells y b is has))))

      each_first : (u : Write) → Contains sorted.first u → u.0 ≡ y.id → u.1 ≡ y.block
      each_first u there at = ⊎_elim
          (λ placed.
          let (q, in_placed, same) =
          from_mapped (λ (w : PlacedCell). (w.at, w.cell.block)) plan.placed u placed in
          let (w, e, in_cells, given, made) =
          placed_one (place_of answers) cells q
          (subst (λ (l : List PlacedCell). Contains l q) f.placed in_placed) in
          let named : w.id ≡ y.id =
          sym (itself w.id e given) ∙ ap (λ (n : PlacedCell). n.at) (sym made) ∙ ap (λ (n : Write). n.0) (sym same)
          ∙ at in
          ap (λ (n : Write). n.1) same ∙ ap (λ (n : PlacedCell). n.cell.block) made
          ∙ ap (λ (n : CellSeen). n.block) (the_one w in_cells named))
          (λ log. absurd (off b is (in_scratch plan y.id (subst (IsTarget (scratch plan)) at
          (in_map (λ (n : Write). n.0) (scratch plan) u log)))))
          (Contains-append_cases (placed_writes plan) (scratch plan) u
          (part_member (parts_of plan) sorted order 0 u there))

      placed_there : block_at (image 1) y.id ≡ y.block
      placed_there =
          put_member sorted.first base y.id y.block each_first
          (subst (IsTarget sorted.first) (itself y.id b is) (in_map (λ (n : Write). n.0) sorted.first write in_first))
          within

      homes_stay : block_at (image 3) y.id ≡ block_at (image 2) y.id
      homes_stay = put_writes_other sorted.homes (image 2) y.id (λ one. ⊎_elim
          (λ fixed. never_both (is_fixed s.block_count y.id) fixed free)
          (λ kept.
          let (w, in_cells, none, at) = kept in
          cc (sym (ap (place_of answers) at ∙ none) ∙ is))
          (home_of y.id one))

      placed_lands : block_at (image 4) y.id ≡ y.block
      placed_lands = footer_stays ∙ homes_stay ∙ header_stays ∙ placed_there

    -- ---- a cell that keeps its own

    module _ (none : place_of answers y.id ≡ None) where
      abbrev homes : List Write
      homes = new_homes (new_super next f.bitmaps) f.bitmaps (overwritten (place_of answers) cells)

      abbrev kept_writes : List Write
      kept_writes = map (λ (n : CellSeen). (n.id, n.block)) (overwritten (place_of answers) cells)

      in_homes : Contains sorted.homes (y.id, y.block)
      in_homes =
          Contains-permutation (news plan) sorted.homes (y.id, y.block) order.homes
          (subst (λ (ws : List Write). Contains ws (y.id, y.block)) (sym f.homes)
          (any_later (17, super_block (new_super next f.bitmaps))
          (bitmap_writes 0 f.bitmaps ++ kept_writes) (y.id, y.block)
          (Contains-append_right (bitmap_writes 0 f.bitmaps) kept_writes (y.id, y.block)
          (in_map (λ (n : CellSeen). (n.id, n.block)) (overwritten (place_of answers) cells) y
          (kept_in (place_of answers) cells y none has)))))

      each_home : (u : Write) → Contains sorted.homes u → u.0 ≡ y.id → u.1 ≡ y.block
      each_home u there at = ⊎_elim
          (λ here. absurd (not_low 17 (omega arith) (sym at ∙ ap (λ (n : Write). n.0) here)))
          (λ rest. ⊎_elim
          (λ map.
          let (k, from, to, is) =
          bitmap_target 0 f.bitmaps u.0 (in_map (λ (n : Write). n.0) (bitmap_writes 0 f.bitmaps) u map) in
          absurd (never_both (is_fixed s.block_count y.id)
          (subst (λ (n : ℕ). is_fixed s.block_count n ≡ true) (sym is ∙ at)
          (fixed_bitmap s.block_count k more (omega (arith, to, f.are_new.count)))) free))
          (λ cell.
          let (w, kept, same) =
          from_mapped (λ (n : CellSeen). (n.id, n.block)) (overwritten (place_of answers) cells) u cell in
          ap (λ (n : Write). n.1) same
          ∙ ap (λ (n : CellSeen). n.block)
          (the_one w (kept_among (place_of answers) cells w kept) (ap (λ (n : Write). n.0) (sym same) ∙ at)))
          (Contains-append_cases (bitmap_writes 0 f.bitmaps) kept_writes u rest))
          (any_cases (17, super_block (new_super next f.bitmaps))
          (bitmap_writes 0 f.bitmaps ++ kept_writes) u
          (subst (λ (ws : List Write). Contains ws u) f.homes (part_member (parts_of plan) sorted order 2 u there)))

      kept_there : block_at (image 3) y.id ≡ y.block
      kept_there =
          put_member sorted.homes (image 2) y.id y.block each_home
          (in_map (λ (n : Write). n.0) sorted.homes (y.id, y.block) in_homes) (omega (arith, within, long2))

      kept_lands : block_at (image 4) y.id ≡ y.block
      kept_lands = footer_stays ∙ kept_there

    -- at the end of the plan the cell is the block of its name
    pub lands : block_at (image 4) y.id ≡ y.block
    lands = by (place_of answers y.id) refl
      where
        by : (o : Option BlockNo) → place_of answers y.id ≡ o → block_at (image 4) y.id ≡ y.block
        by None is = kept_lands is
        by (Some b) is = placed_lands b is
