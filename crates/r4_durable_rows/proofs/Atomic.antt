-- Which orders are atomic: the right one is, and the two others fail of the small commit.
use Rattle.std.proofs.Common.{◌≡◌, ◌≢◌, ◌⊎◌, inl, inr, ⊎_elim, ℕ, zero, suc, ◌-◌, ◌*◌, ◌<◌, ◌≤◌, List, [], ◌∷◌, ◌++◌}
use Rattle.std.proofs.Common.{length, replicate, set, take, drop, get_or, None, refl, sym, ap, ◌∙◌, subst, arith}
use Rattle.std.proofs.Common.{get_or-set_same, get_or-set_other}
use Rattle.std.specs.Prelude.{All}
use Rattle.std.proofs.lemmas.List.Elements.{All-cons, All-nil, Contains-append_right}
use Rattle.std.proofs.lemmas.Bool.{cases_eq}
use Rattle.std.proofs.lemmas.List.{drop-replicate, get_or-replicate, get_or-take, length-append, length-drop}
use Rattle.std.proofs.lemmas.List.{length-set, length-take}
use Rattle.std.proofs.lemmas.Slice.{drop-append-drop}
use Rattle.std.proofs.Math.Seq.{take-append_seam}
use Rattle.r4_base.specs.Chain.{HasLog, Txn, committed, flushed}
use Rattle.r4_base.specs.Image.{Image, IsBlock, IsImage, block_at, sector}
use Rattle.r4_base.specs.Log.{footer_of, head_of, header_of}
use Rattle.r4_base.specs.Value.{Content}
use Rattle.r4_base.specs.Volume.{HasVolume}
use Rattle.r4_wander.specs.LogPlan.{first, header_bytes, news, parts_of, txn_of}
use Rattle.r4_wander.specs.Parts.{base_of, is_log_number, part}
use Rattle.r4_wander.specs.Safe.{ByPart, IsEncoded, IsSafe, WithAtom, WithoutAtom}
use Rattle.r4_wander.specs.Torn.{IsTarget, IsTornBy, IsWritten, Write}
use Rattle.r4_wander.specs.declared.plan.LogPlan.{LogPlan}
use Rattle.r4_wander.proofs.Encoding.{by_part, has_homes, head_target, is_commit}
use Rattle.r4_wander.proofs.Members.{any_here}
use Rattle.r4_wander.proofs.Order.{image_put}
use Rattle.r4_wander.proofs.Settling.{put_writes_other, settles_by_part}
use Rattle.r4_durable_rows.specs.Orders.{IsAtomic, IsLeft, header, header_early, homes_early, in_order}
use Rattle.r4_durable_rows.proofs.Blank.{even, no_head, original, other, small, small_plan, small_reads, small_safe}
use Rattle.r4_durable_rows.proofs.Blank.{ones, whole_ones, whole_zeros, zeros}
use Rattle.r4_durable_rows.proofs.OneHome.{logged, logged_image, plain}
use Rattle.r4_durable_rows.proofs.OneWrite.{one_write}
use Rattle.r4_durable_rows.proofs.NoLog.{no_log, no_volume}

-- ---- the right order

module _ (n : ℕ) (base : Image) (p : LogPlan) (safe : IsSafe n base [] p) (reads : IsEncoded p) (left : Image) where
  in_part : (i : ℕ) → i ≤ 4 → IsTornBy (part (parts_of p) i) (base_of (parts_of p) base i) left
      → ByPart n base [] p i left
  in_part i lt torn =
      by_part n base [] p safe reads i left
      (settles_by_part n base [] (txn_of p) (parts_of p) (is_commit n base [] p safe reads) i left lt
      (λ late. has_homes n base p safe reads) torn)

  abbrev one_whole : (b : ℕ) (x : List ℕ) → IsBlock x → All (λ (w : Write). IsBlock w.1) ((b, x) ∷ [])
  one_whole b x whole = All-cons (λ (w : Write). IsBlock w.1) (b, x) [] whole (All-nil (λ (w : Write). IsBlock w.1))

  image4 : IsImage n (base_of (parts_of p) base 4)
  image4 =
      image_put n (part (parts_of p) 3) _ (one_whole 20 _ reads.footer_whole)
      (image_put n (news p) _ reads.homes_whole
      (image_put n (part (parts_of p) 1) _ (one_whole 19 _ reads.header_whole)
      (image_put n (first p) base reads.first_whole safe.image)))

  untouched : (ws : Image) → IsImage n ws → IsTornBy [] ws ws
  untouched ws whole = record {
    blocks = refl;
    whole = λ b lt. whole.whole b (subst (λ (k : ℕ). b < k) whole.blocks lt);
    sectors = λ b s lt ls. inl refl;
  }

  pub settles : IsLeft (in_order p) base left → WithoutAtom n base [] p left ⊎ WithAtom n base [] p left
  settles (inl torn) = inl (in_part 0 (omega arith) torn)
  settles (inr (inl torn)) = in_part 1 (omega arith) torn
  settles (inr (inr (inl torn))) = inr (in_part 2 (omega arith) torn)
  settles (inr (inr (inr (inl torn)))) = inr (in_part 3 (omega arith) torn)
  settles (inr (inr (inr (inr is)))) =
      inr (in_part 4 (omega arith) (subst (λ (k : Image). IsTornBy [] (base_of (parts_of p) base 4) k) (sym is)
      (untouched (base_of (parts_of p) base 4) image4)))

pub right_order : IsAtomic in_order
right_order n base p safe reads left is = settles n base p safe reads left is

-- ---- the journal header with the log

module _ (n : ℕ) (base : Image) (p : LogPlan) (safe : IsSafe n base [] p) (reads : IsEncoded p) where
  -- the header alone is there
  abbrev pub early : Image
  early = set base 19 (header_bytes p)

  there : block_at early 19 ≡ header_bytes p
  there = get_or-set_same base 19 (header_bytes p) [] (omega (arith, safe.more, safe.image.blocks))

  others : (b : ℕ) → b ≢ 19 → block_at early b ≡ block_at base b
  others b apart = get_or-set_other base 19 b (header_bytes p) [] apart

  pub early_left : IsTornBy (first p ++ header p) base early
  early_left =
      one_write n (first p ++ header p) base 19 (header_bytes p) safe.image (omega (arith, safe.more))
      (Contains-append_right (first p) (header p) (19, header_bytes p) (any_here (19, header_bytes p) [] _ refl))
      reads.header_whole

  module _ (none : head_of (block_at base p.head.0) ≡ None) where
    range : 22 ≤ p.head.0
    range = (safe.in_range p.head.0 (head_target n base [] p safe reads)).0

    named : committed early ≡ p.head.0
    named = ap (λ (x : List ℕ). (header_of x).last) there ∙ ap (λ h. h.last) reads.header

    unflushed : flushed early ≢ p.head.0
    unflushed is =
        safe.fresh (sym is ∙ ap (λ (x : List ℕ). (footer_of x).last) (others 20 (λ no. absurd (omega (arith, no)))))

    still : head_of (block_at early p.head.0) ≡ None
    still = ap head_of (others p.head.0 (λ is. absurd (omega (arith, range, is)))) ∙ none

    pub early_log : (chain : List Txn) → HasLog n early chain → ⊥
    early_log chain log = no_log n early p.head.0 named unflushed still chain log

    pub early_volume : (m : Content) → HasVolume n early m → ⊥
    early_volume m v = no_volume n early p.head.0 named unflushed still m v

small_head : head_of (block_at small 22) ≡ None
small_head =
    ap head_of (other 64 zeros ones (omega arith) 22 (omega arith)
    (λ is. absurd (omega (arith, is)))) ∙ no_head

pub not_early : IsAtomic header_early → ⊥
not_early atomic = ⊎_elim (λ old. early_log 64 small small_plan small_safe small_reads small_head _ old.settles.has)
    (λ new. early_log 64 small small_plan small_safe small_reads small_head _ new.settles.has)
    (atomic 64 small small_plan small_safe small_reads (early 64 small small_plan small_safe small_reads)
    (inl (early_left 64 small small_plan small_safe small_reads)))

-- ---- the homes with the journal header

-- the first sector of zeros, and the others of ones
unfoldable mixed : List ℕ
mixed = take 512 zeros ++ drop 512 ones

head_long : length (take 512 zeros) ≡ 512
head_long = omega (arith, length-take 512 zeros, whole_zeros)

mixed_whole : IsBlock mixed
unfolding mixed
mixed_whole =
    omega (
      arith,
      length-append (take 512 zeros) (drop 512 ones),
      head_long,
      length-drop 512 ones,
      whole_ones,
    )

mixed_first : sector mixed 0 ≡ sector zeros 0
unfolding mixed
mixed_first =
    subst (λ (k : ℕ). take k (take 512 zeros ++ drop 512 ones) ≡ take 512 zeros)
    head_long (take-append_seam (take 512 zeros) (drop 512 ones))

mixed_later : (s : ℕ) → sector mixed (suc s) ≡ sector ones (suc s)
unfolding mixed
mixed_later s =
    ap (take 512) (drop-append-drop 512 ones (take 512 zeros) (512 * suc s) (omega arith)
    head_long)

-- each byte of a sector of equal bytes is that one
one_byte : (v s : ℕ) → s < 8 → get_or (sector (replicate 4096 v) s) 0 0 ≡ v
one_byte v s lt =
    get_or-take 512 (drop (512 * s) (replicate 4096 v)) 0 0 (omega arith)
    ∙ ap (λ (l : List ℕ). get_or l 0 0) (drop-replicate (512 * s) 4096 v)
    ∙ get_or-replicate (4096 - 512 * s) 0 v 0 (omega arith)

not_ones : mixed ≡ ones → ⊥
not_ones is =
    let byte : get_or (sector mixed 0) 0 0 ≡ 1 = ap (λ (x : List ℕ). get_or (sector x 0) 0 0) is ∙ one_byte 1 0
    (omega arith) in
    let zero_byte : get_or (sector mixed 0) 0 0 ≡ 0 = ap (λ (x : List ℕ). get_or x 0 0) mixed_first ∙ one_byte 0 0
    (omega arith) in
    absurd (omega (arith, byte, zero_byte))

not_zeros : mixed ≡ zeros → ⊥
not_zeros is =
    let byte : get_or (sector mixed 1) 0 0 ≡ 0 = ap (λ (x : List ℕ). get_or (sector x 1) 0 0) is ∙ one_byte 0 1
    (omega arith) in
    let one : get_or (sector mixed 1) 0 0 ≡ 1 = ap (λ (x : List ℕ). get_or x 0 0) (mixed_later 0) ∙ one_byte 1 1
    (omega arith) in
    absurd (omega (arith, byte, one))

-- the log is synced
abbrev before : Image
before = logged 64 small small_plan small_safe small_reads

-- and the home is torn
abbrev torn_home : Image
torn_home = set before 17 mixed

before_image : IsImage 64 before
before_image = logged_image 64 small small_plan small_safe small_reads

not_first : (b : ℕ) → b < 22 → IsTarget (first small_plan) b → ⊥
not_first b lt h = let range = small_safe.in_range b h in absurd (omega (arith, range.0, lt))

before_at : (b : ℕ) → b < 22 → block_at before b ≡ block_at small b
before_at b lt = put_writes_other (first small_plan) small b (not_first b lt)

home_at : block_at torn_home 17 ≡ mixed
home_at = get_or-set_same before 17 mixed [] (omega (arith, before_image.blocks))

home_other : (b : ℕ) → b ≢ 17 → block_at torn_home b ≡ block_at before b
home_other b apart = get_or-set_other before 17 b mixed [] apart

was_ones : block_at before 17 ≡ ones
was_ones = before_at 17 (omega arith) ∙ original 64 zeros ones (omega arith)

home_even : committed torn_home ≡ flushed torn_home
home_even =
    let nineteen : block_at torn_home 19 ≡ block_at small 19 =
    home_other 19 (λ is. absurd (omega (arith, is))) ∙ before_at 19 (omega arith) in
    let twenty : block_at torn_home 20 ≡ block_at small 20 =
    home_other 20 (λ is. absurd (omega (arith, is))) ∙ before_at 20 (omega arith) in
    ap (λ (x : List ℕ). (header_of x).last) nineteen ∙ even 64 zeros ones (omega arith)
    ∙ sym (ap (λ (x : List ℕ). (footer_of x).last) twenty)

home_sectors : (s : ℕ) → s < 8 → (sector (block_at torn_home 17) s ≡ sector (block_at before 17) s)
    ⊎ IsWritten (header small_plan ++ news small_plan) 17 s (sector (block_at torn_home 17) s)
home_sectors zero lt = inr (
  (17, zeros),
  Contains-append_right (header small_plan) (news small_plan) (17, zeros) (any_here (17, zeros) [] _ refl),
  refl,
  ap (λ (x : List ℕ). sector x 0) home_at ∙ mixed_first,
)
home_sectors (suc s) lt = inl (
    ap (λ (x : List ℕ). sector x (suc s)) home_at ∙ mixed_later s ∙ sym (ap (λ (x : List ℕ). sector x (suc s)) was_ones)
    )

home_left : IsTornBy (header small_plan ++ news small_plan) before torn_home
home_left = record {
  blocks = length-set before 17 mixed;
  whole = λ b lt. elim (cases_eq b 17) [
    | inl is ↦ subst IsBlock (sym (ap (λ (k : ℕ). block_at torn_home k) is ∙ home_at)) mixed_whole
    | inr apart ↦
        subst IsBlock (sym (home_other b apart))
        (before_image.whole b (subst (λ (k : ℕ). b < k) before_image.blocks lt))
  ];
  sectors = λ b s lt ls. elim (cases_eq b 17) [
    | inl is ↦ subst (λ (k : ℕ). (sector (block_at torn_home k) s ≡ sector (block_at before k) s)
        ⊎ IsWritten (header small_plan ++ news small_plan) k s (sector (block_at torn_home k) s)) (sym is)
        (home_sectors s ls)
    | inr apart ↦ inl (ap (λ (x : List ℕ). sector x s) (home_other b apart))
  ];
}

not_number : is_log_number 17 → ⊥
not_number (inl is) = absurd (omega (arith, is))
not_number (inr is) = absurd (omega (arith, is))

not_old : WithoutAtom 64 small [] small_plan torn_home → ⊥
not_old w =
    not_ones (sym home_at ∙ ap (λ (k : Image). block_at k 17) (sym (plain 64 torn_home w.settled home_even w.settles))
    ∙ w.agrees.others 17 (λ is. ⊎_elim (not_first 17 (omega arith)) not_number is)
    ∙ original 64 zeros ones (omega arith))

not_new : WithAtom 64 small [] small_plan torn_home → ⊥
not_new w =
    not_zeros (sym home_at ∙ ap (λ (k : Image). block_at k 17) (sym (plain 64 torn_home w.settled home_even w.settles))
    ∙ w.agrees.others 17 (λ is. ⊎_elim (not_first 17 (omega arith)) not_number is)
    ∙ get_or-set_same small 17 zeros [] (omega (arith, small_safe.image.blocks)))

pub not_homes : IsAtomic homes_early → ⊥
not_homes atomic =
    ⊎_elim not_old not_new (atomic 64 small small_plan small_safe small_reads torn_home (inr (inl home_left)))
