-- A plan is safe.
use Rattle.std.proofs.Common.{◌≡◌, ◌≢◌, ◌⊎◌, inl, inr, ⊎_elim, ℕ, zero, suc, ◌+◌, ◌*◌, ◌%◌, ◌≤◌, ◌<◌, Bool, true, false, ◌||◌, List, [], ◌∷◌, ◌++◌, length, map, get_or, refl, sym, ap, ◌∙◌, subst, arith}
use Rattle.std.specs.Prelude.{Contains, All}
use Rattle.std.specs.List.{range_with_len}
use Rattle.std.proofs.lemmas.Bool.{cases_lt, or_left, or_parts}
use Rattle.std.proofs.lemmas.Bool.Decides.{nat_tests}
use Rattle.std.proofs.lemmas.List.{ext_get_or, get_or-map, length-map, map-append}
use Rattle.std.proofs.lemmas.List.FromFn.{get_or-range_with_len, length-range_with_len}
use Rattle.std.proofs.lemmas.List.Elements.{All-contains, Contains-append_cases, Contains-get_or}
use Rattle.std.proofs.lemmas.Simd.{map-map}
use Rattle.r4_base.specs.Image.{AreDifferent, Image}
use Rattle.r4_base.specs.Bitmap.{bitmap_block, bitmap_count, is_fixed}
use Rattle.r4_base.specs.Chain.{IsOriginalNumber, Txn, flushed, kept_blocks}
use Rattle.r4_base.specs.declared.superblock.Super40.{Super40}
use Rattle.r4_base.specs.declared.things.AtomNo.{AtomNo}
use Rattle.r4_base.specs.declared.things.BlockNo.{BlockNo}
use Rattle.r4_base.proofs.Choices.{never_both}
use Rattle.r4_place.specs.r4_cell.Seen.{CellSeen}
use Rattle.r4_space.specs.Space.{Space, is_claimed, is_taken, is_taken_by}
use Rattle.r4_place.specs.Chosen.{fresh_blocks}
use Rattle.r4_place.specs.declared.placed.Placed.{Placed}
use Rattle.r4_wander.specs.Seen.{Copy, Placed as PlacedCell}
use Rattle.r4_wander.specs.Torn.{Write, targets, IsTarget}
use Rattle.r4_wander.specs.LogPlan.{copies, first, head_write, originals_of, placed_writes, record_write, record_writes, scratch}
use Rattle.r4_wander.specs.Safe.{IsSafe}
use Rattle.r4_wander.specs.declared.plan.LogPlan.{LogPlan}
use Rattle.r4_wander.proofs.Encoding.{news_are}
use Rattle.r4_commit.specs.Places.{overwritten, overwritten_blocks, place_of}
use Rattle.r4_commit.specs.Planned.{IsPlanFor, IsUnused, bitmap_writes, blocks_of, new_super}
use Rattle.r4_commit.specs.Plannable.{IsPlannable, is_marked_in, is_spoken_for}
use Rattle.r4_commit.proofs.PlanFacts.{bitmap_target, bitmap_within, home_cases, later_bitmap, length-new_homes, placed_fresh}
use Rattle.r4_commit.proofs.Differing.{different-append, kept_different, placed_different}

-- ---- words of the space

pub not_taken : (s : Space) (b : ℕ) → is_taken s b ≡ false → (get_or s.placed b false ≡ false) × (is_spoken_for s b ≡ false)
unfolding is_taken_by
not_taken s b clear =
    let marked = or_parts (get_or s.marked b false) (get_or s.placed b false || (is_claimed s.held b || is_claimed s.deferred b)) clear in
    let placed = or_parts (get_or s.placed b false) (is_claimed s.held b || is_claimed s.deferred b) marked.1 in
    (placed.0, rw (marked.0, placed.1) refl)

pub marked_spoken : (s : Space) (b : ℕ) → is_marked_in s b ≡ true → is_spoken_for s b ≡ true
marked_spoken s b e = or_left (is_marked_in s b) (is_claimed s.held b || is_claimed s.deferred b) e

told_within : (bits : List Bool) (b : ℕ) → get_or bits b false ≡ true → b < length bits
told_within [] b e = absurd (cc e)
told_within (x ∷ xs) zero e = omega arith
told_within (x ∷ xs) (suc b) e = omega (arith, told_within xs b e)

pub not_fixed_range : (blocks b : ℕ) → is_fixed blocks b ≡ false → 22 ≤ b
not_fixed_range blocks b free = elim (cases_lt b 22) [
  | inl lt ↦ absurd (grind (arith, nat_tests, free, lt))
  | inr ge ↦ ge
]

pub fixed_low : (blocks b : ℕ) → b < 22 → is_fixed blocks b ≡ true
fixed_low blocks b lt = grind (arith, nat_tests)

pub fixed_bitmap : (blocks k : ℕ) → 64 ≤ blocks → k < bitmap_count blocks → is_fixed blocks (bitmap_block k) ≡ true
fixed_bitmap blocks zero more lt = fixed_low blocks 18 (omega arith)
fixed_bitmap blocks (suc k) more lt =
    let at : bitmap_block (suc k) ≡ suc k * 32736 = later_bitmap k in
    let within = bitmap_within blocks (suc k) more lt in
    let whole : bitmap_block (suc k) % 32736 ≡ 0 = omega (arith, at) in
    let inside : bitmap_block (suc k) < blocks = within.1 in
    let some : 0 < bitmap_block (suc k) = omega (arith, at) in
    grind (arith, nat_tests, whole, inside, some)

bitmap_rises : (i j : ℕ) → i < j → bitmap_block i < bitmap_block j
bitmap_rises i zero lt = absurd (omega (arith, lt))
bitmap_rises zero (suc j) lt = let at = later_bitmap j in omega (arith, at)
bitmap_rises (suc i) (suc j) lt = let here = later_bitmap i in let at = later_bitmap j in omega (arith, at, here, lt)

bitmaps_different : (n : ℕ) (bs : List (List ℕ)) → AreDifferent (targets (bitmap_writes n bs))
bitmaps_different n [] = tt
bitmaps_different n (b ∷ bs) = ((λ again. let r = bitmap_target (n + 1) bs (bitmap_block n) again in let le = r.1 in let rises = bitmap_rises n r.0 (omega (arith, le)) in absurd (omega (arith, rises, r.3))), bitmaps_different (n + 1) bs)

-- ---- the blocks of the first part

records_are : (p : LogPlan) → targets (record_writes p) ≡ p.records
records_are p =
    let blocks : List ℕ = range_with_len 0 (length p.records) in
    let long : length blocks ≡ length p.records = length-range_with_len 0 (length p.records) in
    let mapped : length (map (λ (k : ℕ). get_or p.records k 0) blocks) ≡ length blocks = length-map blocks (λ (k : ℕ). get_or p.records k 0) in
    map-map (λ (w : Write). w.0) (record_write p) blocks ∙ ext_get_or 0 (map (λ (k : ℕ). get_or p.records k 0) blocks) p.records (mapped ∙ long) (λ k lt.
    let inside : k < length p.records = omega (arith, lt, mapped, long) in
    let at : 0 + k ≡ k = omega arith in
    get_or-map (λ (j : ℕ). get_or p.records j 0) blocks k 0 0 (omega (arith, inside, long)) ∙ ap (λ (j : ℕ). get_or p.records j 0) (get_or-range_with_len 0 (length p.records) k 0 inside ∙ at))

scratch_are : (p : LogPlan) → targets (scratch p) ≡ blocks_of p
scratch_are p =
    map-append (λ (w : Write). w.0) (copies p) (record_writes p ++ head_write p ∷ [])
    ∙ ap (λ (l : List ℕ). l ++ targets (record_writes p ++ head_write p ∷ [])) (map-map (λ (w : Write). w.0) (λ (w : Copy). (w.copy, w.block)) p.wandered)
    ∙ ap (λ (l : List ℕ). map (λ (w : Copy). w.copy) p.wandered ++ l) (map-append (λ (w : Write). w.0) (record_writes p) (head_write p ∷ []) ∙ ap (λ (l : List ℕ). l ++ p.head.0 ∷ []) (records_are p))

pub first_are : (p : LogPlan) → targets (first p) ≡ map (λ (x : PlacedCell). x.at) p.placed ++ blocks_of p
first_are p =
    map-append (λ (w : Write). w.0) (placed_writes p) (scratch p) ∙ ap (λ (l : List ℕ). l ++ targets (scratch p)) (map-map (λ (w : Write). w.0) (λ (x : PlacedCell). (x.at, x.cell.block)) p.placed)
    ∙ ap (λ (l : List ℕ). map (λ (x : PlacedCell). x.at) p.placed ++ l) (scratch_are p)

pub in_scratch : (p : LogPlan) (b : ℕ) → IsTarget (scratch p) b → Contains (blocks_of p) b
in_scratch p b h = subst (λ (l : List ℕ). Contains l b) (scratch_are p) h

module _ (n : ℕ) (base : Image) (chain : List Txn) (s : Space) (atom : AtomNo) (cells : List CellSeen) (answers : List Placed) (next : Super40) (last : BlockNo) (p : LogPlan)
    (f : IsPlanFor s atom cells answers next last p) (h : IsPlannable n base chain s cells answers next last) where
  pub log_block : (b : ℕ) → Contains (blocks_of p) b → IsUnused s b
  log_block b one = All-contains (IsUnused s) (blocks_of p) b f.unused one

  placed_block : (b : ℕ) → Contains (map (λ (x : PlacedCell). x.at) p.placed) b → (get_or s.placed b false ≡ true) × (is_spoken_for s b ≡ false)
  placed_block b one = All-contains (λ (k : ℕ). (get_or s.placed k false ≡ true) × (is_spoken_for s k ≡ false)) (fresh_blocks answers) b h.placed
      (placed_fresh answers cells b (subst (λ (l : List PlacedCell). Contains (map (λ (x : PlacedCell). x.at) l) b) f.placed one))

  first_cases : (b : ℕ) → IsTarget (first p) b → Contains (map (λ (x : PlacedCell). x.at) p.placed) b ⊎ Contains (blocks_of p) b
  first_cases b one = Contains-append_cases (map (λ (x : PlacedCell). x.at) p.placed) (blocks_of p) b (subst (λ (l : List ℕ). Contains l b) (first_are p) one)

  -- no block of the first part is marked, held or deferred
  pub first_free : (b : ℕ) → IsTarget (first p) b → is_spoken_for s b ≡ false
  first_free b one = ⊎_elim (λ placed. (placed_block b placed).1) (λ log. (not_taken s b (log_block b log).1).1) (first_cases b one)

  first_within : (b : ℕ) → IsTarget (first p) b → b < s.block_count
  first_within b one = ⊎_elim (λ placed. omega (arith, told_within s.placed b (placed_block b placed).0, h.lawful.placed_size)) (λ log. (log_block b log).0) (first_cases b one)

  fixed_spoken : (b : ℕ) → b < s.block_count → is_fixed s.block_count b ≡ true → is_spoken_for s b ≡ true
  fixed_spoken b lt fixed = marked_spoken s b (h.lawful.fixed b lt fixed)

  first_range : (b : ℕ) → IsTarget (first p) b → 22 ≤ b
  first_range b one = elim (cases_lt b 22) [
    | inl low ↦ absurd (never_both (is_spoken_for s b) (fixed_spoken b (first_within b one) (fixed_low s.block_count b low)) (first_free b one))
    | inr ge ↦ ge
  ]

  -- ---- the originals

  original_cases : (b : ℕ) → Contains (originals_of p) b → (b ≡ 17) ⊎ (((k : ℕ) × (k < bitmap_count s.block_count) × (b ≡ bitmap_block k)) ⊎ Contains (overwritten_blocks answers cells) b)
  original_cases b one = ⊎_elim inl (λ more. inr (⊎_elim (λ r. let lt = r.1 in inl (r.0, omega (arith, lt, f.are_new.count), r.2)) inr more))
      (home_cases (new_super next f.bitmaps) f.bitmaps (overwritten (place_of answers) cells) b
      (subst (λ (ws : List Write). IsTarget ws b) f.homes (subst (λ (l : List ℕ). Contains l b) (sym (news_are p.wandered)) one)))

  overwritten_block : (b : ℕ) → Contains (overwritten_blocks answers cells) b → (is_marked_in s b ≡ true) × (is_fixed s.block_count b ≡ false)
  overwritten_block b one = All-contains (λ (k : ℕ). (is_marked_in s k ≡ true) × (is_fixed s.block_count k ≡ false)) (overwritten_blocks answers cells) b h.overwritten one

  original_spoken : (b : ℕ) → Contains (originals_of p) b → is_spoken_for s b ≡ true
  original_spoken b one = ⊎_elim
      (λ is. subst (λ (k : ℕ). is_spoken_for s k ≡ true) (sym is) (fixed_spoken 17 (omega (arith, h.lawful.least)) (fixed_low s.block_count 17 (omega arith))))
      (λ more. ⊎_elim
      (λ r. subst (λ (k : ℕ). is_spoken_for s k ≡ true) (sym r.2) (fixed_spoken (bitmap_block r.0) (bitmap_within s.block_count r.0 h.lawful.least r.1).1 (fixed_bitmap s.block_count r.0 h.lawful.least r.1)))
      (λ cell. marked_spoken s b (overwritten_block b cell).0)
      more)
      (original_cases b one)

  original_range : (b : ℕ) → Contains (originals_of p) b → IsOriginalNumber n b
  original_range b one = ⊎_elim
      inl
      (λ more. ⊎_elim
      (λ r. bitmap_number r.0 b r.1 r.2)
      (λ cell. let marked = told_within s.marked b (overwritten_block b cell).0 in inr (inr (not_fixed_range s.block_count b (overwritten_block b cell).1, omega (arith, marked, h.lawful.marked_size, h.within))))
      more)
      (original_cases b one)
    where
      bitmap_number : (k b : ℕ) → k < bitmap_count s.block_count → b ≡ bitmap_block k → IsOriginalNumber n b
      bitmap_number zero b lt is = inr (inl is)
      bitmap_number (suc k) b lt is = let at = later_bitmap k in let inside = (bitmap_within s.block_count (suc k) h.lawful.least lt).1 in inr (inr (omega (arith, is, at), omega (arith, is, inside, h.within)))

  originals_are : originals_of p ≡ 17 ∷ (targets (bitmap_writes 0 f.bitmaps) ++ overwritten_blocks answers cells)
  originals_are = sym (news_are p.wandered) ∙ ap targets f.homes
      ∙ ap (λ (l : List ℕ). 17 ∷ l) (map-append (λ (w : Write). w.0) (bitmap_writes 0 f.bitmaps) (map (λ (c : CellSeen). (c.id, c.block)) (overwritten (place_of answers) cells))
      ∙ ap (λ (l : List ℕ). targets (bitmap_writes 0 f.bitmaps) ++ l) (map-map (λ (w : Write). w.0) (λ (c : CellSeen). (c.id, c.block)) (overwritten (place_of answers) cells)))

  bitmap_fixed : (b : ℕ) → IsTarget (bitmap_writes 0 f.bitmaps) b → (b ≢ 17) × (is_fixed s.block_count b ≡ true)
  bitmap_fixed b one =
      let r = bitmap_target 0 f.bitmaps b one in
      let lt = r.2 in
      let below : r.0 < bitmap_count s.block_count = omega (arith, lt, f.are_new.count) in
      (other r.0 b r.3, subst (λ (k : ℕ). is_fixed s.block_count k ≡ true) (sym r.3) (fixed_bitmap s.block_count r.0 h.lawful.least below))
    where
      other : (k b : ℕ) → b ≡ bitmap_block k → b ≢ 17
      other zero b is also = absurd (omega (arith, is, also))
      other (suc k) b is also = let at = later_bitmap k in absurd (omega (arith, is, also, at))

  pub originals_differ : AreDifferent (originals_of p)
  originals_differ = subst AreDifferent (sym originals_are) (
    (λ again. ⊎_elim
        (λ bitmap. (bitmap_fixed 17 bitmap).0 refl)
        (λ cell. never_both (is_fixed s.block_count 17) (fixed_low s.block_count 17 (omega arith)) (overwritten_block 17 cell).1)
        (Contains-append_cases (targets (bitmap_writes 0 f.bitmaps)) (overwritten_blocks answers cells) 17 again)),
    different-append (targets (bitmap_writes 0 f.bitmaps)) (overwritten_blocks answers cells) (bitmaps_different 0 f.bitmaps) (kept_different (place_of answers) cells h.names)
        (λ b bitmap cell. never_both (is_fixed s.block_count b) (bitmap_fixed b bitmap).1 (overwritten_block b cell).1),
  )

  original_apart : (b : ℕ) → Contains (originals_of p) b → Contains (kept_blocks chain) b → ⊥
  original_apart b one keeps =
      let k = h.kept b keeps in
      ⊎_elim
      (λ is. never_both (is_fixed s.block_count b) (fixed_low s.block_count b (omega (arith, is))) k.1)
      (λ more. ⊎_elim
      (λ r. never_both (is_fixed s.block_count b) (subst (λ (j : ℕ). is_fixed s.block_count j ≡ true) (sym r.2) (fixed_bitmap s.block_count r.0 h.lawful.least r.1)) k.1)
      (λ cell. k.2 cell)
      more)
      (original_cases b one)

  -- ---- the plan is safe

  first_differ : AreDifferent (targets (first p))
  first_differ = subst AreDifferent (sym (first_are p)) (different-append (map (λ (x : PlacedCell). x.at) p.placed) (blocks_of p)
      (subst (λ (l : List PlacedCell). AreDifferent (map (λ (x : PlacedCell). x.at) l)) (sym f.placed) (placed_different answers cells h.different h.names)) f.different
      (λ b placed log. never_both (get_or s.placed b false) (placed_block b placed).0 (not_taken s b (log_block b log).1).0))

  counted : length p.wandered ≡ length (overwritten (place_of answers) cells) + length f.bitmaps + 1
  counted = sym (length-map p.wandered (λ (w : Copy). (w.original, w.block))) ∙ ap (λ (l : List Write). length l) f.homes ∙ length-new_homes (new_super next f.bitmaps) f.bitmaps (overwritten (place_of answers) cells)

  pub is_safe : p.head.0 ≢ flushed base → IsSafe n base chain p
  is_safe fresh = record {
    image = h.image;
    more = omega (arith, h.lawful.least, h.within);
    log = h.log;
    few = h.few;
    some = omega (arith, counted);
    prev = ap (λ (b : BlockNo). b.0) f.prev ∙ h.prev;
    fresh = fresh;
    in_range = λ b one. (first_range b one, omega (arith, first_within b one, h.within));
    different = first_differ;
    no_original = λ b one original. never_both (is_spoken_for s b) (original_spoken b original) (first_free b one);
    not_kept = λ b one keeps. never_both (is_spoken_for s b) (h.kept b keeps).0 (first_free b one);
    no_home = λ b one home. never_both (is_spoken_for s b) (h.in_place b home) (first_free b one);
    originals_range = all_from (IsOriginalNumber n) (originals_of p) original_range;
    originals_differ = originals_differ;
    originals_apart = original_apart;
  }
    where
      all_from : (P : ℕ → Type 0) (xs : List ℕ) → ((x : ℕ) → Contains xs x → P x) → All P xs
      all_from P xs each = λ k d lt. each (get_or xs k d) (Contains-get_or xs k d lt)

-- where nothing is unflushed, the journal footer names the head that the header names
pub is_safe_alone : (n : ℕ) (base : Image) (s : Space) (atom : AtomNo) (cells : List CellSeen) (answers : List Placed) (next : Super40) (last : BlockNo) (p : LogPlan)
    → IsPlanFor s atom cells answers next last p → IsPlannable n base [] s cells answers next last → IsSafe n base [] p
is_safe_alone n base s atom cells answers next last p f h = is_safe n base [] s atom cells answers next last p f h (λ is. f.head (ap (λ (b : ℕ). record { 0 = b }) (is ∙ sym (h.prev ∙ h.log.txns))))
