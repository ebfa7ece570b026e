-- What the chosen blocks are to the names of cells, and how many unused blocks are left.
use Rattle.std.proofs.Common.{◌≡◌, ◌≢◌, ◌⊎◌, inl, inr, ⊎_elim, ℕ, ◌+◌, ◌^◌, ◌<◌, ◌≤◌, Bool, true, false, List}
use Rattle.std.proofs.Common.{[], ◌∷◌, get_or, Option, Some, None, refl, sym, ap, ◌∙◌, subst, arith}
use Rattle.std.specs.Prelude.{All, Contains, sum_by, if◌then◌else◌}
use Rattle.std.proofs.lemmas.Bool.{le-leb}
use Rattle.std.proofs.lemmas.Bool.Decides.{nat_tests}
use Rattle.std.proofs.lemmas.List.{length-set}
use Rattle.std.proofs.lemmas.List.Sums.{sum_by-cons}
use Rattle.std.proofs.lemmas.List.Elements.{All-contains, Contains-get_or}
use Rattle.r4_base.specs.Bitmap.{is_fixed}
use Rattle.r4_base.specs.declared.things.BlockNo.{BlockNo}
use Rattle.r4_base.proofs.Choices.{never_both, nothing_in}
use Rattle.r4_cell.specs.Seen.{CellSeen}
use Rattle.r4_space.specs.Lawful.{IsLawful}
use Rattle.r4_space.specs.Space.{Space, is_taken, unused_count, with_placed}
use Rattle.r4_space.proofs.UsedLaws.{placed_fewer}
use Rattle.r4_place.specs.Chosen.{AreChosen, IsChosen, behind, fresh_blocks, placed_all, placed_in}
use Rattle.r4_place.specs.declared.placed.How.{How}
use Rattle.r4_place.specs.declared.placed.How.TheVariants.{Fresh, Relocate, Overwrite}
use Rattle.r4_place.specs.declared.placed.Placed.{Placed}
use Rattle.r4_place.proofs.ChosenCells.{fresh_unused}
use Rattle.r4_flushed.proofs.r4_wander.Members.{any_cases, any_here, any_later}
use Rattle.r4_flushed.specs.r4_commit.Places.{place_of}
use Rattle.r4_flushed.specs.r4_commit.Plannable.{is_marked_in}
use Rattle.r4_flushed.proofs.r4_commit.PlanFacts.{given_fresh, in_fresh}
use Rattle.r4_flushed.proofs.r4_commit.Safety.{not_taken}
use Rattle.r4_flushed.specs.r4_sealed.Commits.{spot_of}
use Rattle.r4_flushed.proofs.r4_placed.Planning.{below_or, fresh_given, old_kept, or_first}
use Rattle.r4_flush.specs.Anew.{AreMade, BecomeBlocks, new_name}
use Rattle.r4_flush.specs.Asked.{StandsIn, fresh_cell}

-- where each member has it, all have
pub all_of : {A : Type 0} (P : A → Type 0) (xs : List A) → ((x : A) → Contains xs x → P x) → All P xs
all_of P xs each = λ k d lt. each (get_or xs k d) (Contains-get_or xs k d lt)

free_fixed : (count b : ℕ) → b < count → is_fixed count b ≡ false → is_fixed (2 ^ 64) b ≡ false
free_fixed count b lt h = grind (arith, nat_tests)

free_some : (count b : ℕ) → is_fixed count b ≡ false → b ≢ 0
free_some count b h = λ is. grind (arith, nat_tests)

module _ (s : Space) (lawful : IsLawful s) (near : ℕ) (cs : List CellSeen) (ps : List Placed)
    (chosen : AreChosen near s cs ps) where
  -- a block that is given is one of the volume, and not fixed
  given : (i : ℕ) (b : BlockNo) → place_of ps i ≡ Some b
      → (b.0 < s.block_count) × (is_fixed s.block_count b.0 ≡ false)
  given i b is =
      let (p, one, at, mine) = given_fresh ps i b is in
      let unused = All-contains (λ (k : ℕ). (k < s.block_count) × (is_taken s k ≡ false)) (fresh_blocks ps) b.0
      (fresh_unused near s cs ps lawful.placed_size chosen) (in_fresh ps p b.0 one mine) in (
        unused.0,
        free (is_fixed s.block_count b.0) refl
            (or_first (is_marked_in s b.0) _ (not_taken s b.0 unused.1).1) unused.0,
      )
    where
      free : (t : Bool) → is_fixed s.block_count b.0 ≡ t → is_marked_in s b.0 ≡ false → b.0 < s.block_count
          → is_fixed s.block_count b.0 ≡ false
      free false e clear lt = e
      free true e clear lt = absurd (never_both (is_marked_in s b.0) (lawful.fixed b.0 lt e) clear)

  pub names_become : BecomeBlocks (new_name (place_of ps))
  names_become i = go (place_of ps i) refl
    where
      go : (o : Option BlockNo) → place_of ps i ≡ o → (spot_of (place_of ps i) i ≡ i)
          ⊎ ((2 ^ 63 ≤ i) × (spot_of (place_of ps i) i < 2 ^ 64) × (is_fixed (2 ^ 64) (spot_of (place_of ps i) i) ≡ false))
      go None is = inl (ap (λ (o : Option BlockNo). spot_of o i) is)
      go (Some b) is =
          let (low, free) = given i b is in
          let most = lawful.most in
          let at : spot_of (place_of ps i) i ≡ b.0 = ap (λ (o : Option BlockNo). spot_of o i) is in
          ⊎_elim
          (λ old. absurd (cc (sym (old_kept near s cs ps i chosen old) ∙ is)))
          (λ high. inr (
            high,
            subst (λ (k : ℕ). k < 2 ^ 64) (sym at) (omega (arith, low, most)),
            subst (λ (k : ℕ). is_fixed (2 ^ 64) k ≡ false) (sym at) (free_fixed s.block_count b.0 low free),
          ))
          (below_or i)

  -- each cell stands on a block of the volume then
  pub named_within : (x : CellSeen) → Contains cs x → StandsIn s.block_count x
      → (new_name (place_of ps) x.id ≢ 0) × (new_name (place_of ps) x.id < s.block_count)
  named_within x one stands = ⊎_elim
      (λ low.
      let at : new_name (place_of ps) x.id ≡ x.id =
      ap (λ (o : Option BlockNo). spot_of o x.id) (old_kept near s cs ps x.id chosen low) in
      subst (λ (k : ℕ). (k ≢ 0) × (k < s.block_count)) (sym at) (stands low))
      (λ high.
      let (b, is) = fresh_given near s cs ps x chosen one high in
      let (low, free) = given x.id b is in
      let at : new_name (place_of ps) x.id ≡ b.0 = ap (λ (o : Option BlockNo). spot_of o x.id) is in
      subst (λ (k : ℕ). (k ≢ 0) × (k < s.block_count)) (sym at) (free_some s.block_count b.0 free, low))
      (below_or x.id)

  pub fresh_within : All (λ b. b < s.block_count) (fresh_blocks ps)
  fresh_within = λ k d lt. (fresh_unused near s cs ps lawful.placed_size chosen k d lt).0

-- ---- cells that are made of others

pub made_from : {A B : Type 0} (R : A → B → Type 0) (xs : List A) (ys : List B) → AreMade R xs ys → (y : B)
    → Contains ys y → (x : A) × Contains xs x × R x y
made_from R [] [] all y one = absurd (nothing_in y one)
made_from R [] (b ∷ ys) all y one = absurd all
made_from R (a ∷ xs) [] all y one = absurd all
made_from R (a ∷ xs) (b ∷ ys) all y one = ⊎_elim
    (λ is. (a, any_here a xs a refl, subst (R a) (sym is) all.0))
    (λ later. let (x, in_xs, r) = made_from R xs ys all.1 y later in (x, any_later a xs x in_xs, r))
    (any_cases b ys y one)

-- ---- how many blocks are left

placed_lawful : (s : Space) (b : ℕ) → IsLawful s → IsLawful (with_placed s b)
placed_lawful s b h = record {
  least = h.least;
  most = h.most;
  marked_size = h.marked_size;
  placed_size = length-set s.placed b true ∙ h.placed_size;
  fixed = h.fixed;
  held_within = h.held_within;
  deferred_within = h.deferred_within;
  once = h.once;
  dues_small = h.dues_small;
}

high_one : (c : CellSeen) → 2 ^ 63 ≤ c.id → fresh_cell c ≡ 1
high_one c high = ap (λ (t : Bool). if t then 1 else 0) (le-leb (2 ^ 63) c.id high)

pub unused_left : (near : ℕ) (s : Space) (cs : List CellSeen) (ps : List Placed) → IsLawful s → AreChosen near s cs ps
    → unused_count s ≤ unused_count (placed_all s ps) + sum_by fresh_cell cs
unused_left near s [] [] lawful h = omega arith
unused_left near s [] (p ∷ ps) lawful h = absurd h
unused_left near s (c ∷ cs) [] lawful h = absurd h
unused_left near s (c ∷ cs) (p ∷ ps) lawful h =
    subst (λ (n : ℕ). unused_count s ≤ unused_count (placed_all (placed_in s p.how) ps) + n)
    (sym (sum_by-cons fresh_cell c cs))
    (go p.how (λ near' s' law rest. unused_left near' s' cs ps law rest) h.1 h.2)
  where
    go : (how : How)
        → ((near' : ℕ) (s' : Space) → IsLawful s' → AreChosen near' s' cs ps
        → unused_count s' ≤ unused_count (placed_all s' ps) + sum_by fresh_cell cs)
        → IsChosen near s c how → AreChosen (behind near how) (placed_in s how) cs ps
        → unused_count s ≤ unused_count (placed_all (placed_in s how) ps) + (fresh_cell c + sum_by fresh_cell cs)
    go (Fresh a) ih one rest =
        let fewer = placed_fewer s a.0 lawful one.1.within one.1.clear in
        let later = ih (a.0 + 1) (with_placed s a.0) (placed_lawful s a.0 lawful) rest in
        let fresh = high_one c one.0 in
        omega (arith, fewer, later, fresh)
    go (Relocate a) ih one rest = absurd one
    go Overwrite ih one rest = let later = ih near s lawful rest in omega (arith, later)

pub same_count : (s : Space) (ps : List Placed) → (placed_all s ps).block_count ≡ s.block_count
same_count s [] = refl
same_count s (p ∷ ps) = same_count (placed_in s p.how) ps ∙ one p.how
  where
    one : (how : How) → (placed_in s how).block_count ≡ s.block_count
    one (Fresh a) = refl
    one (Relocate a) = refl
    one Overwrite = refl
