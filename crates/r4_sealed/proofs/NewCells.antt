-- Where the cells of an atom stand in the image with it.
use Rattle.std.proofs.Common.{◌≡◌, ◌⊎◌, inl, inr, ⊎_elim, ℕ, zero, suc, ◌<◌, Bool, true, false, ◌||◌, ◌&&◌, not, List}
use Rattle.std.proofs.Common.{[], ◌∷◌, length, map, get_or, Option, Some, None, refl, sym, ap, ◌∙◌, subst, arith}
use Rattle.std.specs.Prelude.{Contains, nat_le}
use Rattle.std.proofs.lemmas.List.Elements.{All-contains, Contains-append_left, Contains-append_right}
use Rattle.std.proofs.lemmas.Simd.{map-map}
use Rattle.r4_base.proofs.Choices.{never_both, nothing_in}
use Rattle.r4_base.specs.Image.{AreDifferent, Image, block_at}
use Rattle.r4_base.specs.Bitmap.{bitmap_block, bitmap_count, is_fixed, is_marked}
use Rattle.r4_base.specs.Cell.{IsCellOf}
use Rattle.r4_base.specs.Chain.{chain_pairs}
use Rattle.r4_base.specs.Tree.{Node, Store}
use Rattle.r4_base.specs.Value.{Value}
use Rattle.r4_base.specs.Volume.{IsPlace}
use Rattle.r4_base.specs.declared.things.AtomNo.{AtomNo}
use Rattle.r4_base.specs.declared.things.BlockNo.{BlockNo}
use Rattle.r4_base.proofs.Frame.{length-put_pairs}
use Rattle.r4_commit.specs.r4_cell.Seen.{CellSeen}
use Rattle.r4_commit.specs.r4_space.Space.{Space, is_marked_after, is_marked_by}
use Rattle.r4_commit.specs.r4_place.Chosen.{fresh_blocks}
use Rattle.r4_commit.specs.r4_wander.Seen.{Placed as PlacedCell}
use Rattle.r4_commit.specs.r4_wander.Torn.{IsTarget, Write, put_writes, targets}
use Rattle.r4_commit.specs.r4_wander.LogPlan.{news, placed_writes}
use Rattle.r4_commit.proofs.r4_wander.Encoding.{news_are}
use Rattle.r4_commit.proofs.r4_wander.Members.{any_cases, any_here, any_later, in_map}
use Rattle.r4_commit.proofs.r4_wander.Order.{put_at}
use Rattle.r4_commit.proofs.r4_wander.Settling.{length-put_writes, put_writes_other}
use Rattle.r4_commit.specs.Places.{kept_at, overwritten, overwritten_blocks, place_of, placed_at, placed_cells}
use Rattle.r4_commit.specs.Planned.{bitmap_writes, new_super}
use Rattle.r4_commit.specs.Plannable.{is_marked_in, is_spoken_for}
use Rattle.r4_commit.proofs.Differing.{placed_different}
use Rattle.r4_commit.proofs.NewImage.{volume_marks}
use Rattle.r4_commit.proofs.PlanFacts.{home_cases, placed_fresh}
use Rattle.r4_commit.proofs.Safety.{fixed_bitmap, fixed_low, marked_spoken, originals_differ}
use Rattle.r4_sealed.specs.Commits.{Commit, IsCommitOn, image_after, image_before, is_freed, spot_of}
use Rattle.r4_sealed.specs.Written.{AreWritten, IsOverwritten, IsWrittenAt, StandsAt, Stays}

-- ---- members

-- a cell to which no block is given is overwritten
pub kept_in : (place : ℕ → Option BlockNo) (cells : List CellSeen) (x : CellSeen) → place x.id ≡ None
    → Contains cells x → Contains (overwritten place cells) x
kept_in place [] x none h = absurd (nothing_in x h)
kept_in place (c ∷ cs) x none h = ⊎_elim
    (λ is. Contains-append_left (kept_at c (place c.id)) (overwritten place cs) x
    (subst (λ (o : Option BlockNo). Contains (kept_at c o) x) (sym none ∙ ap (λ (y : CellSeen). place y.id) is)
    (any_here c [] x is)))
    (λ later. Contains-append_right (kept_at c (place c.id)) (overwritten place cs) x (kept_in place cs x none later))
    (any_cases c cs x h)

-- one to which a block is given is placed there
pub placed_in : (place : ℕ → Option BlockNo) (cells : List CellSeen) (x : CellSeen) (b : BlockNo)
    → place x.id ≡ Some b → Contains cells x → Contains (placed_cells place cells) (record { at = b.0; cell = x })
placed_in place [] x b some h = absurd (nothing_in x h)
placed_in place (c ∷ cs) x b some h = ⊎_elim
    (λ is. Contains-append_left (placed_at c (place c.id)) (placed_cells place cs) (record { at = b.0; cell = x })
    (subst (λ (o : Option BlockNo). Contains (placed_at c o) (record { at = b.0; cell = x }))
    (sym some ∙ ap (λ (y : CellSeen). place y.id) is)
    (any_here (record { at = b.0; cell = c }) [] (record { at = b.0; cell = x })
    (ap (λ (y : CellSeen). record { at = b.0; cell = y }) is))))
    (λ later. Contains-append_right (placed_at c (place c.id)) (placed_cells place cs) (record { at = b.0; cell = x })
    (placed_in place cs x b some later))
    (any_cases c cs x h)

within_told : (bits : List Bool) (b : ℕ) → get_or bits b false ≡ true → b < length bits
within_told [] b e = absurd (cc e)
within_told (x ∷ xs) zero e = omega arith
within_told (x ∷ xs) (suc b) e = omega (arith, within_told xs b e)

-- ---- what is marked

-- what is marked or placed stays marked, where it is not freed
pub stays_marked : (s : Space) (atom : AtomNo) (b : ℕ) → (get_or s.marked b false || get_or s.placed b false) ≡ true
    → is_freed s atom b ≡ false → is_marked_by s atom b ≡ true
unfolding is_marked_by is_marked_after
stays_marked s atom b has free = go (nat_le s.block_count b) (is_fixed s.block_count b) _ _ has free
  where
    go : (past fixed has freed : Bool) → has ≡ true → freed ≡ false → (past || (fixed || (has && not freed))) ≡ true
    go true fixed has freed e f = refl
    go false true has freed e f = refl
    go false false true false e f = refl
    go false false false freed e f = absurd cc
    go false false true true e f = absurd cc

pub or_first : (a b : Bool) → a ≡ true → (a || b) ≡ true
or_first a b e = rw e refl

pub or_second : (a b : Bool) → b ≡ true → (a || b) ≡ true
or_second true b e = refl
or_second false b e = e

module _ (n : ℕ) (work : Commit) (ok : IsCommitOn n work) where
  -- what the bitmaps mark afterwards
  pub marks_after : (b : ℕ) → b < work.space.block_count
      → is_marked (image_after work) b ≡ is_marked_by work.space work.atom b
  marks_after = volume_marks n work.base work.chain work.space work.atom work.cells work.answers work.next work.last
      work.plan ok.is_for ok.plannable

  abbrev middle : Image
  middle = put_writes (placed_writes work.plan) (image_before work)

  long : length (image_before work) ≡ n
  long = length-put_pairs (chain_pairs work.chain) work.base ∙ ok.plannable.image.blocks

  long_middle : length middle ≡ n
  long_middle = length-put_writes (placed_writes work.plan) (image_before work) ∙ long

  -- ---- what is written in place

  pub home_is : (b : ℕ) → IsTarget (news work.plan) b → (b ≡ 17)
      ⊎ (((k : ℕ) × (k < bitmap_count work.space.block_count) × (b ≡ bitmap_block k)) ⊎ IsOverwritten work b)
  home_is b one = ⊎_elim inl (λ more. inr (⊎_elim (λ r. let lt = r.1 in
      inl (r.0, omega (arith, lt, ok.is_for.are_new.count), r.2)) inr more))
      (home_cases (new_super work.next ok.is_for.bitmaps) ok.is_for.bitmaps
      (overwritten (place_of work.answers) work.cells) b
      (subst (λ (ws : List Write). IsTarget ws b) ok.is_for.homes one))

  pub home_fixed : (b : ℕ) → IsTarget (news work.plan) b → is_fixed work.space.block_count b ≡ false
      → IsOverwritten work b
  home_fixed b one free = ⊎_elim
      (λ is. absurd (never_both (is_fixed work.space.block_count b)
      (fixed_low work.space.block_count b (omega (arith, is))) free))
      (λ more. ⊎_elim
      (λ r. absurd (never_both (is_fixed work.space.block_count b)
      (subst (λ (j : ℕ). is_fixed work.space.block_count j ≡ true) (sym r.2)
      (fixed_bitmap work.space.block_count r.0 ok.plannable.lawful.least r.1)) free))
      (λ cell. cell)
      more)
      (home_is b one)

  pub overwritten_is : (b : ℕ) → IsOverwritten work b → (is_marked_in work.space b ≡ true)
      × (is_fixed work.space.block_count b ≡ false)
  overwritten_is b one = All-contains (λ (k : ℕ). (is_marked_in work.space k ≡ true)
      × (is_fixed work.space.block_count k ≡ false)) (overwritten_blocks work.answers work.cells) b
      ok.plannable.overwritten one

  pub placed_is : (b : ℕ) → IsTarget (placed_writes work.plan) b → (get_or work.space.placed b false ≡ true)
      × (is_spoken_for work.space b ≡ false)
  placed_is b one = All-contains (λ (k : ℕ). (get_or work.space.placed k false ≡ true)
      × (is_spoken_for work.space k ≡ false)) (fresh_blocks work.answers) b ok.plannable.placed
      (placed_fresh work.answers work.cells b (subst (λ (l : List PlacedCell). Contains
      (map (λ (x : PlacedCell). x.at) l) b) ok.is_for.placed
      (subst (λ (l : List ℕ). Contains l b) (map-map (λ (w : Write). w.0)
      (λ (x : PlacedCell). (x.at, x.cell.block)) work.plan.placed) one)))

  pub marked_within : (b : ℕ) → is_marked_in work.space b ≡ true → b < work.space.block_count
  marked_within b e = let lt = within_told work.space.marked b e in omega (arith, lt, ok.plannable.lawful.marked_size)

  pub placed_within : (b : ℕ) → get_or work.space.placed b false ≡ true → b < work.space.block_count
  placed_within b e = let lt = within_told work.space.placed b e in omega (arith, lt, ok.plannable.lawful.placed_size)

  -- a placed block is not fixed, and not overwritten
  pub placed_free : (b : ℕ) → b < work.space.block_count → is_spoken_for work.space b ≡ false
      → is_fixed work.space.block_count b ≡ false
  placed_free b lt clear = go (is_fixed work.space.block_count b) refl
    where
      go : (t : Bool) → is_fixed work.space.block_count b ≡ t → t ≡ false
      go false e = refl
      go true e = absurd (never_both (is_spoken_for work.space b)
          (marked_spoken work.space b (ok.plannable.lawful.fixed b lt e)) clear)

  placed_not_home : (b : ℕ) → IsTarget (placed_writes work.plan) b → IsTarget (news work.plan) b → ⊥
  placed_not_home b one home =
      let is = placed_is b one in
      let over = home_fixed b home (placed_free b (placed_within b is.0) is.1) in
      never_both (is_spoken_for work.space b) (marked_spoken work.space b (overwritten_is b over).0) is.1

  -- ---- the blocks of the image with the atom

  -- what is neither overwritten nor placed is as it was
  pub block_stays : (b : ℕ) → (IsTarget (news work.plan) b → ⊥) → (IsTarget (placed_writes work.plan) b → ⊥)
      → block_at (image_after work) b ≡ block_at (image_before work) b
  block_stays b home placed = put_writes_other (news work.plan) middle b home
      ∙ put_writes_other (placed_writes work.plan) (image_before work) b placed

  -- what is written in place
  pub block_home : (w : Write) → Contains (news work.plan) w → w.0 < n → block_at (image_after work) w.0 ≡ w.1
  block_home w one lt =
      put_at (news work.plan) middle w
      (subst AreDifferent (sym (news_are work.plan.wandered))
      (originals_differ n work.base work.chain work.space work.atom work.cells work.answers work.next work.last
      work.plan ok.is_for ok.plannable))
      one (omega (arith, lt, long_middle))

  pub block_overwritten : (x : CellSeen) → Contains work.cells x → place_of work.answers x.id ≡ None
      → (block_at (image_after work) x.id ≡ x.block) × IsOverwritten work x.id
  block_overwritten x one none =
      let kept : Contains (overwritten (place_of work.answers) work.cells) x =
      kept_in (place_of work.answers) work.cells x none one in
      let name : IsOverwritten work x.id = in_map (λ (c : CellSeen). c.id)
      (overwritten (place_of work.answers) work.cells) x kept in
      let write : Contains (news work.plan) (x.id, x.block) = subst (λ (ws : List Write). Contains ws (x.id, x.block))
      (sym ok.is_for.homes) (any_later (17, _) _ (x.id, x.block)
      (Contains-append_right (bitmap_writes 0 ok.is_for.bitmaps)
      (map (λ (c : CellSeen). (c.id, c.block)) (overwritten (place_of work.answers) work.cells)) (x.id, x.block)
      (in_map (λ (c : CellSeen). (c.id, c.block)) (overwritten (place_of work.answers) work.cells) x kept))) in
      let lt : x.id < work.space.block_count = marked_within x.id (overwritten_is x.id name).0 in
      (block_home (x.id, x.block) write (omega (arith, lt, ok.plannable.within)), name)

  placed_apart : AreDifferent (targets (placed_writes work.plan))
  placed_apart = subst AreDifferent (sym (map-map (λ (w : Write). w.0)
      (λ (x : PlacedCell). (x.at, x.cell.block)) work.plan.placed))
      (subst (λ (l : List PlacedCell). AreDifferent (map (λ (x : PlacedCell). x.at) l)) (sym ok.is_for.placed)
      (placed_different work.answers work.cells ok.plannable.different ok.plannable.names))

  pub block_placed : (x : CellSeen) (b : BlockNo) → Contains work.cells x → place_of work.answers x.id ≡ Some b
      → (block_at (image_after work) b.0 ≡ x.block) × IsTarget (placed_writes work.plan) b.0
  block_placed x b one some =
      let there : Contains work.plan.placed (record { at = b.0; cell = x }) =
      subst (λ (l : List PlacedCell). Contains l (record { at = b.0; cell = x })) (sym ok.is_for.placed)
      (placed_in (place_of work.answers) work.cells x b some one) in
      let write : Contains (placed_writes work.plan) (b.0, x.block) =
      in_map (λ (c : PlacedCell). (c.at, c.cell.block)) work.plan.placed (record { at = b.0; cell = x }) there in
      let target : IsTarget (placed_writes work.plan) b.0 = in_map (λ (w : Write). w.0) (placed_writes work.plan)
      (b.0, x.block) write in
      let lt : b.0 < work.space.block_count = placed_within b.0 (placed_is b.0 target).0 in (
        put_writes_other (news work.plan) middle b.0 (placed_not_home b.0 target)
            ∙ put_at (placed_writes work.plan) (image_before work) (b.0, x.block) placed_apart write
            (omega (arith, lt, ok.plannable.within, long)),
        target,
      )

  -- ---- the cells

  place_marked : (b : ℕ) → b < work.space.block_count → is_fixed work.space.block_count b ≡ false
      → (get_or work.space.marked b false || get_or work.space.placed b false) ≡ true
      → is_freed work.space work.atom b ≡ false → IsPlace work.space.block_count (image_after work) b
  place_marked b lt free has kept = (lt, free, marks_after b lt ∙ stays_marked work.space work.atom b has kept)

  pub marked_place : (b : ℕ) → is_marked_in work.space b ≡ true → is_fixed work.space.block_count b ≡ false
      → is_freed work.space work.atom b ≡ false → IsPlace work.space.block_count (image_after work) b
  marked_place b marked free kept = place_marked b (marked_within b marked) free
      (or_first (get_or work.space.marked b false) (get_or work.space.placed b false) marked) kept

  written : (i : ℕ) (c : Node Value) → IsWrittenAt work i c → is_freed work.space work.atom i ≡ false
      → StandsAt work.space.block_count (image_after work) i c
  written i c (x, one, at, is) kept = go (place_of work.answers x.id) refl
    where
      go : (o : Option BlockNo) → place_of work.answers x.id ≡ o
          → StandsAt work.space.block_count (image_after work) i c
      go None none =
          let here : x.id ≡ i = sym (ap (λ (q : Option BlockNo). spot_of q x.id) none) ∙ at in
          let r = block_overwritten x one none in
          let q = overwritten_is x.id r.1 in (
            subst (λ (b : List ℕ). IsCellOf work.space.block_count b c)
                (sym r.0 ∙ ap (block_at (image_after work)) here) is,
            marked_place i (subst (λ (j : ℕ). is_marked_in work.space j ≡ true) here q.0)
                (subst (λ (j : ℕ). is_fixed work.space.block_count j ≡ false) here q.1) kept,
          )
      go (Some b) some =
          let here : b.0 ≡ i = sym (ap (λ (q : Option BlockNo). spot_of q x.id) some) ∙ at in
          let r = block_placed x b one some in
          let q = placed_is b.0 r.1 in
          let lt : b.0 < work.space.block_count = placed_within b.0 q.0 in (
            subst (λ (e : List ℕ). IsCellOf work.space.block_count e c)
                (sym r.0 ∙ ap (block_at (image_after work)) here) is,
            subst (λ (j : ℕ). is_freed work.space work.atom j ≡ false
                → IsPlace work.space.block_count (image_after work) j) here
                (λ k. place_marked b.0 lt (placed_free b.0 lt q.1)
                (or_second (get_or work.space.marked b.0 false) (get_or work.space.placed b.0 false) q.0) k) kept,
          )

  stays : (i : ℕ) (c : Node Value) → Stays work i c → is_freed work.space work.atom i ≡ false
      → StandsAt work.space.block_count (image_after work) i c
  stays i c at kept = (
    subst (λ (b : List ℕ). IsCellOf work.space.block_count b c)
        (sym (block_stays i (λ home. at.kept (home_fixed i home at.not_fixed))
        (λ placed. never_both (is_spoken_for work.space i) (marked_spoken work.space i at.marked)
        (placed_is i placed).1)))
        at.cell,
    marked_place i at.marked at.not_fixed kept,
  )

  pub stand : (t : Store Value) → AreWritten work t → (i : ℕ) (c : Node Value) → t i ≡ Some c
      → StandsAt work.space.block_count (image_after work) i c
  stand t w i c is = ⊎_elim (λ mine. written i c mine (w.kept i c is)) (λ old. stays i c old (w.kept i c is))
      (w.each i c is)
