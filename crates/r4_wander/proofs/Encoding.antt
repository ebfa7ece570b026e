-- What the first part of a safe plan writes reads back as its transaction.
use Rattle.std.proofs.Common.{◌≡◌, ◌≢◌, ◌⊎◌, inl, inr, ⊎_elim, ℕ, zero, suc, ◌+◌, ◌*◌, ◌<◌, ◌≤◌, Bool, true, false, cond, List, [], ◌∷◌, ◌++◌, length, map, take, drop, get_or, slice_set, refl, sym, ◌∙◌, ap, subst, arith, get_or-set_same, get_or-set_other, drop-cons}
use Rattle.std.specs.Prelude.{◌==◌, Contains, All, slice_index}
use Rattle.std.specs.List.{range_with_len}
use Rattle.std.proofs.lemmas.Bool.{cases_eq}
use Rattle.std.proofs.lemmas.Bool.Decides.{nat_tests}
use Rattle.std.proofs.lemmas.List.{length-set, length-map, length-append, drop-drop, drop_all, get_or_past, get_or_default, take-append-drop, take_all, take_more}
use Rattle.std.proofs.lemmas.List.FromFn.{length-map-range_with_len, get_or-map-range_with_len, take-map-range_with_len}
use Rattle.std.proofs.lemmas.List.Elements.{All-nil, All-cons, All-take, All-drop, All-head, All-tail, Contains-append_left, Contains-append_right, Contains-append_cases, Contains-get_or}
use Rattle.std.proofs.lemmas.Simd.{map-map}
use Rattle.r4_base.specs.Image.{AreDifferent, Image, IsImage, block_at, put_pairs}
use Rattle.r4_base.specs.Log.{head_of, record_of, record_block}
use Rattle.r4_base.specs.Chain.{Txn, InRange, IsOriginalNumber, PairInRange, HasRecords, HasTxn, chain_pairs, wandered, log_blocks, kept_blocks, home, home_from}
use Rattle.r4_base.proofs.Frame.{length-put_pairs, past, settled_at, home_cases, log_in_range, chain_in_range, second_in_range, first_in_range, original_apart}
use Rattle.r4_base.proofs.Members.{member_or_not}
use Rattle.r4_base.proofs.Choices.{nothing_in}
use Rattle.r4_wander.specs.Torn.{Write, put_writes, targets, IsTarget}
use Rattle.r4_wander.specs.Parts.{IsCommit, HasHomes, With, MayLeave}
use Rattle.r4_wander.specs.Seen.{Copy}
use Rattle.r4_wander.specs.declared.plan.LogPlan.{LogPlan}
use Rattle.r4_wander.specs.LogPlan.{pairs, originals_of, placed_writes, copies, news, number_after, head_says, record_says, record_write, record_writes, head_write, header_bytes, scratch, first, parts_of, txn_of}
use Rattle.r4_wander.specs.Safe.{IsEncoded, IsSafe, with_atom, is_scratch, WithAtom, ByPart}
use Rattle.r4_wander.proofs.Members.{any_cases, any_here, any_later, from_map, in_map, original_cases, original_new, kept_cases}
use Rattle.r4_wander.proofs.Order.{put_at, image_put, few_blocks}
use Rattle.r4_wander.proofs.Settling.{length-put_writes, put_writes_other, log2, long2, image2}

-- ---- pairs, originals and copies

pub originals_are : (ws : List Copy) → map (λ (q : ℕ × ℕ). q.0) (map (λ (w : Copy). (w.original, w.copy)) ws) ≡ map (λ (w : Copy). w.original) ws
originals_are ws = map-map (λ (q : ℕ × ℕ). q.0) (λ (w : Copy). (w.original, w.copy)) ws

pub copies_are : (ws : List Copy) → map (λ (q : ℕ × ℕ). q.1) (map (λ (w : Copy). (w.original, w.copy)) ws) ≡ targets (map (λ (w : Copy). (w.copy, w.block)) ws)
copies_are ws = map-map (λ (q : ℕ × ℕ). q.1) (λ (w : Copy). (w.original, w.copy)) ws ∙ sym (map-map (λ (q : Write). q.0) (λ (w : Copy). (w.copy, w.block)) ws)

pub news_are : (ws : List Copy) → targets (map (λ (w : Copy). (w.original, w.block)) ws) ≡ map (λ (w : Copy). w.original) ws
news_are ws = map-map (λ (q : Write). q.0) (λ (w : Copy). (w.original, w.block)) ws

-- the blocks of a list of writes and of those behind it
target_left : (xs ys : List Write) (b : ℕ) → IsTarget xs b → IsTarget (xs ++ ys) b
target_left xs ys b h = let (w, one, at) = from_map (λ (u : Write). u.0) xs b h in subst (IsTarget (xs ++ ys)) (sym at) (in_map (λ (u : Write). u.0) (xs ++ ys) w (Contains-append_left xs ys w one))

target_right : (xs ys : List Write) (b : ℕ) → IsTarget ys b → IsTarget (xs ++ ys) b
target_right xs ys b h = let (w, one, at) = from_map (λ (u : Write). u.0) ys b h in subst (IsTarget (xs ++ ys)) (sym at) (in_map (λ (u : Write). u.0) (xs ++ ys) w (Contains-append_right xs ys w one))

pub target_cases : (xs ys : List Write) (b : ℕ) → IsTarget (xs ++ ys) b → IsTarget xs b ⊎ IsTarget ys b
target_cases xs ys b h = let (w, one, at) = from_map (λ (u : Write). u.0) (xs ++ ys) b h in ⊎_elim
    (λ l. inl (subst (IsTarget xs) (sym at) (in_map (λ (u : Write). u.0) xs w l)))
    (λ r. inr (subst (IsTarget ys) (sym at) (in_map (λ (u : Write). u.0) ys w r)))
    (Contains-append_cases xs ys w one)

different_left : (xs ys : List Write) → AreDifferent (targets (xs ++ ys)) → AreDifferent (targets xs)
different_left [] ys h = tt
different_left (x ∷ xs) ys h = ((λ one. h.0 (target_left xs ys x.0 one)), different_left xs ys h.1)

-- ---- the copies found by their homes are the new contents at the originals

Stand : Image → List Write → Type 0
Stand image ws = (w : Write) → Contains ws w → block_at image w.0 ≡ w.1

news_home : (ws : List Copy) (image s : Image) (b so_far : ℕ) → ((w : Copy) → Contains ws w → block_at image w.copy ≡ w.block) → b < length s → block_at image so_far ≡ block_at s b
    → block_at image (home_from (map (λ (w : Copy). (w.original, w.copy)) ws) b so_far) ≡ block_at (put_writes (map (λ (w : Copy). (w.original, w.block)) ws) s) b
news_home [] image s b so_far stand lt is = is
news_home (w ∷ ws) image s b so_far stand lt is =
    let next : Image = slice_set s w.original w.block in
    let long : b < length next = omega (arith, lt, length-set s w.original w.block) in
    let rest : (v : Copy) → Contains ws v → block_at image v.copy ≡ v.block = λ v one. stand v (any_later w ws v one) in
    elim (cases_eq b w.original) [
      | inl eq ↦ let test : (b == w.original) ≡ true = grind (arith, nat_tests) in
          news_home ws image next b _ rest long (ap (λ (k : Bool). block_at image (cond k w.copy so_far)) test ∙ stand w (any_here w ws w refl) ∙ sym (ap (λ (k : ℕ). block_at next k) eq ∙ get_or-set_same s w.original w.block [] (omega (arith, lt, eq))))
      | inr other ↦ let test : (b == w.original) ≡ false = grind (arith, nat_tests) in
          news_home ws image next b _ rest long (ap (λ (k : Bool). block_at image (cond k w.copy so_far)) test ∙ is ∙ sym (get_or-set_other s w.original b w.block [] other))
    ]

home_both : (ps qs : List (ℕ × ℕ)) (b so_far : ℕ) → home_from (ps ++ qs) b so_far ≡ home_from qs b (home_from ps b so_far)
home_both [] qs b so_far = refl
home_both (p ∷ ps) qs b so_far = home_both ps qs b _

pub home_other : (ps : List (ℕ × ℕ)) (b so_far : ℕ) → (Contains (map (λ (p : ℕ × ℕ). p.0) ps) b → ⊥) → home_from ps b so_far ≡ so_far
home_other [] b so_far out = refl
home_other (p ∷ ps) b so_far out =
    let other : b ≢ p.0 = λ is. out (any_here p.0 (map (λ (q : ℕ × ℕ). q.0) ps) b is) in
    let test : (b == p.0) ≡ false = grind (arith, nat_tests) in
    home_other ps b _ (λ h. out (any_later p.0 (map (λ (q : ℕ × ℕ). q.0) ps) b h)) ∙ ap (λ (k : Bool). cond k p.1 so_far) test

-- ---- the records read back, one after the other

drop_next : (l : List ℕ) (k : ℕ) → k < length l → drop k l ≡ get_or l k 0 ∷ drop (k + 1) l
drop_next l k lt = let more : suc k ≡ k + 1 = omega arith in drop-cons l k 0 lt ∙ ap (λ (j : ℕ). get_or l k 0 ∷ drop j l) more

cut_next : (k : ℕ) (ps : List (ℕ × ℕ)) → drop (254 * k) ps ≡ take 254 (drop (254 * k) ps) ++ drop (254 * (k + 1)) ps
cut_next k ps = sym (take-append-drop 254 (drop (254 * k) ps)) ∙ ap (λ (l : List (ℕ × ℕ)). take 254 (drop (254 * k) ps) ++ l) (drop-drop 254 (254 * k) ps ∙ ap (λ (j : ℕ). drop j ps) (let more : 254 * k + 254 ≡ 254 * (k + 1) = omega arith in more))

module _ (n : ℕ) (image : Image) (p : LogPlan) (code : IsEncoded p) (range : (b : ℕ) → Contains p.records b → InRange n b) (in_pairs : All (PairInRange n) (pairs p))
    (stand : (k : ℕ) → k < length p.records → block_at image (slice_index p.records k) ≡ record_block (record_says p k)) where
  records_from : (m k : ℕ) → k + m ≡ length p.records → HasRecords n image p.id p.head.0 (k + 1) (number_after p k) (drop k p.records) (drop (254 * k) (pairs p))
  unfolding record_says
  records_from zero k all =
      let over : length p.records ≤ k = omega (arith, all) in
      let enough : length (pairs p) ≤ 254 * k = omega (arith, code.enough, all, length-map {A = Copy} {B = ℕ × ℕ} p.wandered (λ w. (w.original, w.copy))) in
      rw (drop_all k p.records over) (get_or_past p.records k p.head.0 over, drop_all (254 * k) (pairs p) enough)
  records_from (suc m) k all =
      let lt : k < length p.records = omega (arith, all) in
      let here : number_after p k ≡ slice_index p.records k = get_or_default p.records k p.head.0 0 lt in
      rw (drop_next p.records k lt) (
        record_says p k,
        drop (254 * (k + 1)) (pairs p),
        here,
        range (slice_index p.records k) (Contains-get_or p.records k 0 lt),
        ap record_of (stand k lt) ∙ code.records k lt,
        refl,
        refl,
        All-take (PairInRange n) 254 (drop (254 * k) (pairs p)) (All-drop (PairInRange n) (254 * k) (pairs p) in_pairs),
        cut_next k (pairs p),
        records_from m (k + 1) (omega (arith, all)),
      )

  pub records_all : HasRecords n image p.id p.head.0 1 (number_after p 0) p.records (pairs p)
  records_all = records_from (length p.records) 0 (omega arith)

-- ---- a safe plan

module _ (n : ℕ) (base : Image) (chain : List Txn) (p : LogPlan) (safe : IsSafe n base chain p) (code : IsEncoded p) where
  abbrev base1 : Image
  base1 = put_writes (first p) base

  abbrev base2 : Image
  base2 = slice_set base1 19 (header_bytes p)

  long1 : length base1 ≡ n
  long1 = length-put_writes (first p) base ∙ safe.image.blocks

  at_first : (w : Write) → Contains (first p) w → block_at base1 w.0 ≡ w.1
  at_first w one = put_at (first p) base w safe.different one (omega (arith, (safe.in_range w.0 (in_map (λ (u : Write). u.0) (first p) w one)).1, safe.image.blocks))

  -- which writes are in the first part
  scratch_one : (w : Write) → Contains (scratch p) w → Contains (first p) w
  scratch_one w h = Contains-append_right (placed_writes p) (scratch p) w h

  placed_one : (w : Write) → Contains (placed_writes p) w → Contains (first p) w
  placed_one w h = Contains-append_left (placed_writes p) (scratch p) w h

  copy_one : (w : Write) → Contains (copies p) w → Contains (first p) w
  copy_one w h = scratch_one w (Contains-append_left (copies p) (record_writes p ++ head_write p ∷ []) w h)

  record_one : (k : ℕ) → k < length p.records → Contains (first p) (record_write p k)
  record_one k lt =
      let here : Contains (record_writes p) (record_write p k) = (k, omega (arith, lt, length-map-range_with_len {X = Write} (record_write p) 0 (length p.records)), get_or-map-range_with_len (record_write p) 0 (length p.records) k k (record_write p k) lt (omega arith)) in
      scratch_one _ (Contains-append_right (copies p) (record_writes p ++ head_write p ∷ []) _ (Contains-append_left (record_writes p) (head_write p ∷ []) _ here))

  head_one : Contains (first p) (head_write p)
  head_one = scratch_one _ (Contains-append_right (copies p) (record_writes p ++ head_write p ∷ []) _ (Contains-append_right (record_writes p) (head_write p ∷ []) _ (any_here (head_write p) [] (head_write p) refl)))

  first_target : (w : Write) → Contains (first p) w → IsTarget (first p) w.0
  first_target w one = in_map (λ (u : Write). u.0) (first p) w one

  pub head_target : IsTarget (first p) p.head.0
  head_target = first_target (head_write p) head_one

  pub record_target : (b : ℕ) → Contains p.records b → IsTarget (first p) b
  record_target b (k, lt, is) = subst (IsTarget (first p)) (get_or_default p.records k 0 b lt ∙ is) (first_target (record_write p k) (record_one k lt))

  pub copy_target : (b : ℕ) → Contains (map (λ (q : ℕ × ℕ). q.1) (pairs p)) b → IsTarget (first p) b
  copy_target b h =
      let (w, one, at) = from_map (λ (u : Write). u.0) (copies p) b (subst (λ (l : List ℕ). Contains l b) (copies_are p.wandered) h) in
      subst (IsTarget (first p)) (sym at) (first_target w (copy_one w one))

  original_here : (b : ℕ) → Contains (map (λ (q : ℕ × ℕ). q.0) (pairs p)) b → Contains (originals_of p) b
  original_here b h = subst (λ (l : List ℕ). Contains l b) (originals_are p.wandered) h

  -- what the longer chain keeps
  kept_is : (b : ℕ) → Contains (kept_blocks (txn_of p ∷ chain)) b → Contains (kept_blocks chain) b ⊎ IsTarget (first p) b
  kept_is b h = ⊎_elim inl (λ new. inr (⊎_elim (λ is. subst (IsTarget (first p)) (sym is) head_target) (λ more. ⊎_elim (record_target b) (copy_target b) more) new)) (kept_cases (txn_of p) chain b h)

  old_kept : (b : ℕ) → Contains (kept_blocks chain) b → InRange n b
  old_kept b h = ⊎_elim
      (λ w. second_in_range n (chain_pairs chain) b (chain_in_range n base _ _ chain safe.log.txns) w)
      (λ l. log_in_range n base _ _ b chain safe.log.txns l)
      (Contains-append_cases (wandered chain) (log_blocks chain) b h)

  pub kept_range : (b : ℕ) → Contains (kept_blocks (txn_of p ∷ chain)) b → InRange n b
  kept_range b h = ⊎_elim (old_kept b) (safe.in_range b) (kept_is b h)

  -- how many there are
  few_first : length (first p) ≤ n
  few_first = omega (arith, few_blocks n (targets (first p)) safe.different (λ b h. (safe.in_range b h).1), length-map {A = Write} {B = ℕ} (first p) (λ w. w.0))

  counted : length p.wandered + (length p.records + 1) ≤ n
  counted = omega (
    arith,
    few_first,
    length-append (placed_writes p) (scratch p),
    length-append (copies p) (record_writes p ++ head_write p ∷ []),
    length-append (record_writes p) (head_write p ∷ []),
    length-map {A = Copy} {B = Write} p.wandered (λ w. (w.copy, w.block)),
    length-map-range_with_len {X = Write} (record_write p) 0 (length p.records),
  )

  in_pairs_of : (ws : List Copy) → All (IsOriginalNumber n) (map (λ (w : Copy). w.original) ws) → ((b : ℕ) → Contains (map (λ (q : ℕ × ℕ). q.1) (map (λ (w : Copy). (w.original, w.copy)) ws)) b → InRange n b) → All (PairInRange n) (map (λ (w : Copy). (w.original, w.copy)) ws)
  in_pairs_of [] all range = All-nil (PairInRange n)
  in_pairs_of (w ∷ ws) all range = All-cons (PairInRange n) (w.original, w.copy) (map (λ (v : Copy). (v.original, v.copy)) ws)
      (All-head (IsOriginalNumber n) w.original (map (λ (v : Copy). v.original) ws) all, range w.copy (any_here w.copy _ w.copy refl))
      (in_pairs_of ws (All-tail (IsOriginalNumber n) w.original (map (λ (v : Copy). v.original) ws) all) (λ b h. range b (any_later w.copy _ b h)))

  in_pairs : All (PairInRange n) (pairs p)
  in_pairs = in_pairs_of p.wandered safe.originals_range (λ b h. safe.in_range b (copy_target b h))

  pub has_txn : HasTxn n base1 (txn_of p)
  unfolding head_says
  has_txn = record {
    in_range = safe.in_range p.head.0 head_target;
    head = ap head_of (at_first (head_write p) head_one) ∙ code.head;
    total = refl;
    some = omega (arith, safe.some, code.enough);
    fits = omega (arith, counted);
    records = records_all n base1 p code (λ b h. safe.in_range b (record_target b h)) in_pairs (λ k lt. at_first (record_write p k) (record_one k lt));
    few = omega (arith, counted, length-map {A = Copy} {B = ℕ × ℕ} p.wandered (λ w. (w.original, w.copy)));
  }

  original_number : (b : ℕ) → Contains (originals_of p) b → (b ≢ 19) × (b ≢ 20)
  original_number b h = original_apart n b (all_of_originals (originals_of p) safe.originals_range h)
    where
      all_of_originals : (bs : List ℕ) → All (IsOriginalNumber n) bs → Contains bs b → IsOriginalNumber n b
      all_of_originals [] all h = absurd (nothing_in b h)
      all_of_originals (c ∷ cs) all h = ⊎_elim (λ is. subst (IsOriginalNumber n) (sym is) (All-head (IsOriginalNumber n) c cs all)) (λ later. all_of_originals cs (All-tail (IsOriginalNumber n) c cs all) later) (any_cases c cs b h)

  pub is_commit : IsCommit n base chain (txn_of p) (parts_of p)
  unfolding head_says
  is_commit = record {
    image = safe.image;
    first_image = image_put n (first p) base code.first_whole safe.image;
    header_whole = code.header_whole;
    more = safe.more;
    log = safe.log;
    few = safe.few;
    has_txn = has_txn;
    prev = safe.prev;
    fresh = safe.fresh;
    free = λ b w. let range = safe.in_range b w in ((λ is. absurd (omega (arith, range.0, is))), (λ is. absurd (omega (arith, range.0, is))), safe.not_kept b w);
    apart = λ b o. ⊎_elim
        (λ old.
        let out = original_apart n b (first_in_range n (chain_pairs chain) b (chain_in_range n base _ _ chain safe.log.txns) old) in
        (out.0, out.1, λ k. ⊎_elim (safe.log.apart b old) (λ w. safe.no_home b w old) (kept_is b k)))
        (λ new.
        let own = original_here b new in
        let out = original_number b own in
        (out.0, out.1, λ k. ⊎_elim (safe.originals_apart b own) (λ w. safe.no_original b w own) (kept_is b k)))
        (original_cases (txn_of p) chain b o);
    kept = λ b k. (kept_range b k).0;
    header = ap (λ h. h.last) code.header;
  }

  copies_stand : (w : Copy) → Contains p.wandered w → block_at base2 w.copy ≡ w.block
  copies_stand w one =
      let here : Contains (copies p) (w.copy, w.block) = in_map (λ (v : Copy). (v.copy, v.block)) p.wandered w one in
      let range = safe.in_range w.copy (first_target (w.copy, w.block) (copy_one (w.copy, w.block) here)) in
      get_or-set_other base1 19 w.copy (header_bytes p) [] (λ is. absurd (omega (arith, range.0, is))) ∙ at_first (w.copy, w.block) (copy_one (w.copy, w.block) here)

  -- Outside the log the committed image is the old one with the atom's cells.
  pub with_is : (b : ℕ) → (is_scratch p b → ⊥) → b < n → block_at (put_pairs (chain_pairs (txn_of p ∷ chain)) base2) b ≡ block_at (with_atom base chain p) b
  with_is b out lt =
      let below : b < length base2 = omega (arith, lt, long2 n base chain (txn_of p) (parts_of p) is_commit) in
      let settled : Image = put_pairs (chain_pairs chain) base in
      let old : Image = put_writes (placed_writes p) settled in
      let in_old : b < length old = omega (arith, lt, safe.image.blocks, length-put_pairs (chain_pairs chain) base, length-put_writes (placed_writes p) settled) in
      settled_at base2 n (txn_of p ∷ chain) b (log2 n base chain (txn_of p) (parts_of p) is_commit) below
      ∙ ap (λ (k : ℕ). block_at base2 k) (home_both (chain_pairs chain) (pairs p) b b)
      ∙ news_home p.wandered base2 old b (home (chain_pairs chain) b) copies_stand in_old (before (member_or_not (targets (placed_writes p)) b))
    where
      not19 : (k : ℕ) → k ≢ 19 → block_at base2 k ≡ block_at base1 k
      not19 k other = get_or-set_other base1 19 k (header_bytes p) [] other

      in_settled : b < length (put_pairs (chain_pairs chain) base)
      in_settled = omega (arith, lt, safe.image.blocks, length-put_pairs (chain_pairs chain) base)

      before : IsTarget (placed_writes p) b ⊎ (IsTarget (placed_writes p) b → ⊥) → block_at base2 (home (chain_pairs chain) b) ≡ block_at (put_writes (placed_writes p) (put_pairs (chain_pairs chain) base)) b
      before (inl placed) =
          let (w, one, at) = from_map (λ (u : Write). u.0) (placed_writes p) b placed in
          let target : IsTarget (first p) b = subst (IsTarget (first p)) (sym at) (first_target w (placed_one w one)) in
          let range = safe.in_range b target in
          let stays : home (chain_pairs chain) b ≡ b = home_other (chain_pairs chain) b b (safe.no_home b target) in
          let in_it : w.0 < length (put_pairs (chain_pairs chain) base) = omega (arith, in_settled, at) in
          ap (λ (k : ℕ). block_at base2 k) stays ∙ not19 b (λ is. absurd (omega (arith, range.0, is))) ∙ ap (λ (k : ℕ). block_at base1 k) at ∙ at_first w (placed_one w one)
          ∙ sym (ap (λ (k : ℕ). block_at (put_writes (placed_writes p) (put_pairs (chain_pairs chain) base)) k) at ∙ put_at (placed_writes p) (put_pairs (chain_pairs chain) base) w (different_left (placed_writes p) (scratch p) safe.different) one in_it)
      before (inr not_placed) =
          let h : ℕ = home (chain_pairs chain) b in
          let kept : Contains (wandered chain) h → Contains (kept_blocks chain) h = λ one. Contains-append_left (wandered chain) (log_blocks chain) h one in
          let not_first : IsTarget (first p) h → ⊥ = λ w. ⊎_elim (λ one. safe.not_kept h w (kept one)) (λ is. ⊎_elim not_placed (λ s. out (inl s)) (target_cases (placed_writes p) (scratch p) b (subst (IsTarget (first p)) is.0 w))) (home_cases (chain_pairs chain) b) in
          let not_header : h ≢ 19 = λ is. ⊎_elim (λ one. let range = old_kept h (kept one) in absurd (omega (arith, range.0, is))) (λ same. out (inr (inl (sym same.0 ∙ is)))) (home_cases (chain_pairs chain) b) in
          not19 h not_header ∙ put_writes_other (first p) base h not_first
          ∙ sym (settled_at base n chain b safe.log (omega (arith, lt, safe.image.blocks)))
          ∙ sym (put_writes_other (placed_writes p) (put_pairs (chain_pairs chain) base) b not_placed)

-- The homes of a plan on an image with nothing unflushed.
module _ (n : ℕ) (base : Image) (p : LogPlan) (safe : IsSafe n base [] p) (code : IsEncoded p) where
  pub has_homes : HasHomes n base [] (txn_of p) (parts_of p)
  has_homes =
      let two = base2 n base [] p safe code in
      let image : IsImage n two = image2 n base [] (txn_of p) (parts_of p) (is_commit n base [] p safe code) in
      record {
        image = image_put n (news p) two code.homes_whole image;
        homes = λ b w. original_new (txn_of p) [] b (subst (λ (l : List ℕ). Contains l b) (news_are p.wandered ∙ sym (originals_are p.wandered)) w);
        placed = λ b lt. sym (news_home p.wandered two two b b (copies_stand n base [] p safe code) (omega (arith, lt, image.blocks)) refl);
        footer = ap (λ f. f.last) code.footer;
      }

module _ (n : ℕ) (base : Image) (chain : List Txn) (p : LogPlan) (safe : IsSafe n base chain p) (code : IsEncoded p) where
  with_atom_of : (image : Image) → With n base chain (txn_of p) (parts_of p) image → WithAtom n base chain p image
  with_atom_of image w =
      let two : Image = put_pairs (chain_pairs (txn_of p ∷ chain)) (base2 n base chain p safe code) in
      let long : length (with_atom base chain p) ≡ n = length-put_writes (news p) _ ∙ length-put_writes (placed_writes p) _ ∙ length-put_pairs (chain_pairs chain) base ∙ safe.image.blocks in
      let long_two : length two ≡ n = length-put_pairs (chain_pairs (txn_of p ∷ chain)) _ ∙ long2 n base chain (txn_of p) (parts_of p) (is_commit n base chain p safe code) in
      record {
        settled = w.settled;
        settles = w.settles;
        agrees = record {
          blocks = w.agrees.blocks ∙ long_two ∙ sym long;
          others = λ b out. w.agrees.others b (λ is. out (inr is)) ∙ past two (with_atom base chain p) b (long_two ∙ sym long) (λ lt. with_is n base chain p safe code b out (omega (arith, lt, long)));
        };
      }

  -- so it is in each part
  pub by_part : (i : ℕ) (image : Image) → MayLeave n base chain (txn_of p) (parts_of p) i image → ByPart n base chain p i image
  by_part zero image left = left
  by_part (suc zero) image left = ⊎_elim inl (λ w. inr (with_atom_of image w)) left
  by_part (suc (suc i)) image left = with_atom_of image left

-- no pair has the original 0
pub pairs_named : (ws : List Copy) → All (λ o. o ≢ 0) (map (λ (w : Copy). w.original) ws) → All (λ (q : ℕ × ℕ). q.0 ≢ 0) (map (λ (w : Copy). (w.original, w.copy)) ws)
pairs_named [] all = All-nil (λ (q : ℕ × ℕ). q.0 ≢ 0)
pairs_named (w ∷ ws) all = All-cons (λ (q : ℕ × ℕ). q.0 ≢ 0) (w.original, w.copy) (map (λ (v : Copy). (v.original, v.copy)) ws)
    (All-head (λ (o : ℕ). o ≢ 0) w.original (map (λ (v : Copy). v.original) ws) all) (pairs_named ws (All-tail (λ (o : ℕ). o ≢ 0) w.original (map (λ (v : Copy). v.original) ws) all))

-- a record more
pub range_more : {X : Type 0} (f : ℕ → X) (k : ℕ) → map f (range_with_len 0 (k + 1)) ≡ map f (range_with_len 0 k) ++ f k ∷ []
range_more {X = X} f k =
    let all : List X = map f (range_with_len 0 (k + 1)) in
    let long : length all ≡ k + 1 = length-map-range_with_len f 0 (k + 1) in
    sym (take_all (k + 1) all (omega (arith, long))) ∙ take_more all k (f k) (omega (arith, long))
    ∙ ap (λ (l : List X). l ++ get_or all k (f k) ∷ []) (take-map-range_with_len f 0 (k + 1) k (omega arith))
    ∙ ap (λ (x : X). map f (range_with_len 0 k) ++ x ∷ []) (get_or-map-range_with_len f 0 (k + 1) k k (f k) (omega arith) (omega arith))

pub log_more : (p : LogPlan) (k at : ℕ) (block : List ℕ) (log now : List Write) (e : Write) → log ≡ map (record_write p) (range_with_len 0 k) → now ≡ log ++ e ∷ [] → e ≡ (at, block) → at ≡ number_after p k
    → block ≡ record_block (record_says p k) → k < length p.records → now ≡ map (record_write p) (range_with_len 0 (k + 1))
log_more p k at block log now e so_far more is number spelled lt =
    let here : at ≡ slice_index p.records k = number ∙ get_or_default p.records k p.head.0 0 lt in
    let one : e ≡ record_write p k = is ∙ ap (λ (b : ℕ). let w : Write = (b, block) in w) here ∙ ap (λ (x : List ℕ). let w : Write = (slice_index p.records k, x) in w) spelled in
    more ∙ ap (λ (l : List Write). l ++ e ∷ []) so_far ∙ ap (λ (w : Write). map (record_write p) (range_with_len 0 k) ++ w ∷ []) one ∙ sym (range_more (record_write p) k)
