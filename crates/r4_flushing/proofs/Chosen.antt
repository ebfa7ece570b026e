-- The blocks that are chosen for cells, and those that a plan takes for its log, are not used.
use Rattle.std.proofs.Common.{◌≡◌, ⊎_elim, ℕ, ◌^◌, ◌<◌, ◌≤◌, ◌||◌, Bool, true, false, List, [], ◌∷◌}
use Rattle.std.proofs.Common.{map, get_or, Option, Some, None, refl, sym, ◌∙◌, ap, cond, eqb}
use Rattle.std.specs.Prelude.{Contains}
use Rattle.std.specs.Option.{option_or}
use Rattle.std.proofs.lemmas.Bool.{eqb-true}
use Rattle.std.proofs.lemmas.List.Elements.{All-contains}
use Rattle.r4_base.proofs.Choices.{never_both}
use Rattle.r4_base.proofs.Members.{member_or_not}
use Rattle.r4_base.specs.Bitmap.{is_fixed}
use Rattle.r4_base.specs.Image.{AreDifferent}
use Rattle.r4_base.specs.declared.things.BlockNo.{BlockNo}
use Rattle.r4_accounting.specs.r4_cell.Seen.{CellSeen}
use Rattle.r4_space.specs.Lawful.{IsLawful}
use Rattle.r4_space.specs.Space.{Space, is_claimed, is_taken, is_taken_by}
use Rattle.r4_renaming.specs.r4_place.Chosen.{AreChosen, fresh_blocks, placed_all}
use Rattle.r4_renaming.specs.r4_place.declared.placed.How.{How}
use Rattle.r4_renaming.specs.r4_place.declared.placed.How.TheVariants.{Fresh, Relocate, Overwrite}
use Rattle.r4_renaming.specs.r4_place.declared.placed.Placed.{Placed}
use Rattle.r4_renaming.proofs.r4_place.ChosenCells.{fresh_different, fresh_unused, fresh_used, others_stay, rest_stays}
use Rattle.r4_renaming.specs.r4_wander.Seen.{Placed as PlacedCell}
use Rattle.r4_renaming.specs.r4_commit.Places.{block_given, place_of, placed_cells}
use Rattle.r4_renaming.specs.r4_commit.Plannable.{is_marked_in}
use Rattle.r4_renaming.proofs.r4_commit.Differing.{placed_different}
use Rattle.r4_renaming.proofs.r4_commit.PlanFacts.{given_fresh, in_fresh}
use Rattle.r4_renaming.proofs.r4_commit.Safety.{not_taken}
use Rattle.r4_renaming.specs.r4_sealed.Commits.{spot_of}
use Rattle.r4_renaming.proofs.r4_sealed.NewCells.{placed_in}
use Rattle.r4_renaming.specs.r4_placed.Flushing.{answers_by_block}
use Rattle.r4_renaming.proofs.r4_placed.Planning.{fresh_given, old_kept, or_first}
use Rattle.r4_renaming.specs.r4_flush.Anew.{new_name}
use Rattle.r4_flushing.proofs.Counting.{one_of}

-- what is not taken with blocks placed was not taken before
taken_before : (s : Space) (placed : List Bool) (b : ℕ) → get_or placed b false ≡ get_or s.placed b false
    → is_taken (record s { placed = placed }) b ≡ is_taken s b
unfolding is_taken_by
taken_before s placed b same =
    ap (λ (t : Bool). get_or s.marked b false || (t || (is_claimed s.held b || is_claimed s.deferred b))) same

module _ (s : Space) (lawful : IsLawful s) (cs : List CellSeen) (ps : List Placed) (chosen : AreChosen 22 s cs ps) where
  abbrev now : Space
  now = placed_all s ps

  -- a block that is not used is not fixed
  pub not_fixed : (b : ℕ) → b < s.block_count → is_taken s b ≡ false → is_fixed s.block_count b ≡ false
  not_fixed b lt clear = by (is_fixed s.block_count b) refl
    where
      by : (t : Bool) → is_fixed s.block_count b ≡ t → is_fixed s.block_count b ≡ false
      by false e = e
      by true e =
          absurd (never_both (is_marked_in s b) (lawful.fixed b lt e)
          (or_first (is_marked_in s b) (is_claimed s.held b || is_claimed s.deferred b) (not_taken s b clear).1))

  pub fresh_free : (b : ℕ) → Contains (fresh_blocks ps) b → (b < s.block_count) × (is_taken s b ≡ false)
  fresh_free b has =
      All-contains (λ (k : ℕ). (k < s.block_count) × (is_taken s k ≡ false)) (fresh_blocks ps) b
      (fresh_unused 22 s cs ps lawful.placed_size chosen) has

  fresh_placed : (b : ℕ) → Contains (fresh_blocks ps) b → get_or now.placed b false ≡ true
  fresh_placed b has =
      All-contains (λ (k : ℕ). get_or now.placed k false ≡ true) (fresh_blocks ps) b
      (fresh_used 22 s cs ps lawful.placed_size chosen) has

  -- a block that is unused then was so before, and is none that was chosen
  pub unused_before : (b : ℕ) → is_taken now b ≡ false → (Contains (fresh_blocks ps) b → ⊥) × (is_taken s b ≡ false)
  unused_before b clear = ⊎_elim
      (λ fresh. absurd (never_both (get_or now.placed b false) (fresh_placed b fresh) (not_taken now b clear).0))
      (λ out. (
        out,
        sym (ap (λ (t : Space). is_taken t b) (rest_stays s ps)
            ∙ taken_before s now.placed b (others_stay s ps b out)) ∙ clear,
      ))
      (member_or_not (fresh_blocks ps) b)

  -- ---- the names that cells get

  pub old_name : (i : ℕ) → i < 2 ^ 63 → new_name (place_of ps) i ≡ i
  old_name i low = ap (λ (o : Option BlockNo). spot_of o i) (old_kept 22 s cs ps i chosen low)

  pub fresh_name : (x : CellSeen) → Contains cs x → 2 ^ 63 ≤ x.id
      → (b : BlockNo) × (place_of ps x.id ≡ Some b) × (new_name (place_of ps) x.id ≡ b.0)
      × Contains (fresh_blocks ps) b.0
  fresh_name x has high =
      let (b, is) = fresh_given 22 s cs ps x chosen has high in
      let (q, in_ps, named, mine) = given_fresh ps x.id b is in
      (b, is, ap (λ (o : Option BlockNo). spot_of o x.id) is, in_fresh ps q b.0 in_ps mine)

  -- two cells that get one block are one
  pub same_fresh : AreDifferent (map (λ (x : CellSeen). x.id) cs) → (x y : CellSeen) → Contains cs x → Contains cs y
      → 2 ^ 63 ≤ x.id → 2 ^ 63 ≤ y.id → new_name (place_of ps) x.id ≡ new_name (place_of ps) y.id → x ≡ y
  same_fresh once x y in_x in_y high_x high_y same =
      let (a, is_a, at_a, fresh_a) = fresh_name x in_x high_x in
      let (b, is_b, at_b, fresh_b) = fresh_name y in_y high_y in
      ap (λ (z : PlacedCell). z.cell)
      (one_of (λ (z : PlacedCell). z.at) (placed_cells (place_of ps) cs)
      (placed_different ps cs (fresh_different 22 s cs ps lawful.placed_size chosen) once)
      (record { at = a.0; cell = x }) (record { at = b.0; cell = y })
      (placed_in (place_of ps) cs x a is_a in_x) (placed_in (place_of ps) cs y b is_b in_y)
      (sym at_a ∙ same ∙ at_b))

-- ---- answers under the names of blocks

-- a block that is given to a name then is that of the name
pub given_itself : (ps : List Placed) (j : ℕ) (b : BlockNo) → place_of (answers_by_block ps) j ≡ Some b → b.0 ≡ j
given_itself [] j b is = absurd (cc is)
given_itself (p ∷ ps) j b is = by (λ at. given_itself ps j b at) (place_of (answers_by_block ps) j) refl is
  where
    here : (how : How) (t : Bool) → eqb (spot_of (block_given how) p.node.0) j ≡ t
        → cond t (block_given how) None ≡ Some b → b.0 ≡ j
    here how false e at = absurd (cc at)
    here (Fresh a) true e at = let same : a ≡ b = cc at in ap (λ (n : BlockNo). n.0) (sym same) ∙ eqb-true a.0 j e
    here (Relocate a) true e at = let same : a ≡ b = cc at in ap (λ (n : BlockNo). n.0) (sym same) ∙ eqb-true a.0 j e
    here Overwrite true e at = absurd (cc at)

    by : (place_of (answers_by_block ps) j ≡ Some b → b.0 ≡ j) → (o : Option BlockNo)
        → place_of (answers_by_block ps) j ≡ o
        → option_or o (cond (eqb (spot_of (block_given p.how) p.node.0) j) (block_given p.how) None) ≡ Some b → b.0 ≡ j
    by rest None e at = here p.how (eqb (spot_of (block_given p.how) p.node.0) j) refl at
    by rest (Some a) e at = rest (e ∙ at)
