-- What a crash leaves, call by call.
use Rattle.std.proofs.Common.{◌≡◌, ◌≢◌, ◌⊎◌, inl, inr, ℕ, ◌<◌, ◌≤◌, List, [], ◌∷◌, length, slice_set, take, reverse, get_or, ◌+◌, ◌/◌, ◌^◌, add-one, refl, sym, ◌∙◌, ap, subst, arith, Bool, true, false, ◌&&◌, cond}
use Rattle.std.proofs.lemmas.Bool.{cases_eq, cases_lt, le-leb, lt-leb, eq-eqb, ne_eqb}
use Rattle.std.proofs.lemmas.List.{length-set, length-reverse, length-take-le, reverse-append, take_more, get_or_default, get_or-set_same, get_or-set_other}
use Rattle.std.proofs.Math.Dec.{leb, eqb}
use Rattle.r4_base.specs.Image.{Image, IsBlock, block_at, sector}
use Rattle.r4_outside.specs.Device.{HasSectors, Leaves, TellsCrashes}
use Rattle.r4_outside.specs.Record.{IsWhole, image_after, may}
use Rattle.r4_outside.specs.Mix.{is_marked, IsMix}
use Rattle.r4_outside.specs.Memory.{state_of}
use Rattle.r4_outside.specs.Crash.{next_number, number_after, mask_of, picked, IsPicked, IsRedone}
use Rattle.r4_outside.specs.declared.memory.Call.{Call}
use Rattle.r4_outside.specs.declared.memory.Call.TheVariants.{Wrote, Synced}
use Rattle.r4_outside.proofs.Recorded.{whole_write}

-- ---- the sector that is picked

two_off : (p q r : Bool) (x y : List ℕ) → (p ≡ false) ⊎ (q ≡ false) → cond (p && q && r) x y ≡ y
two_off false q r x y h = refl
two_off true false r x y h = refl
two_off true true r x y (inl e) = absurd cc
two_off true true r x y (inr e) = absurd cc

two_on : (p q r : Bool) (x y : List ℕ) → p ≡ true → q ≡ true → cond (p && q && r) x y ≡ cond r x y
two_on true true r x y e f = refl
two_on false q r x y e f = absurd cc
two_on true false r x y e f = absurd cc

-- nothing of a write that comes later is left, nor of one to another block
picked_past : (start : Image) (older : List Call) (m pick k at b s : ℕ) (block : List ℕ) → (m < k) ⊎ (b ≢ at) → picked start (Wrote k at block ∷ older) m pick b s ≡ picked start older m pick b s
unfolding picked
picked_past start older m pick k at b s block (inl late) = two_off (leb k m) (eqb b at) (is_marked (mask_of pick (length older)) s) (sector block s) (picked start older m pick b s) (inl (lt-leb k m late))
picked_past start older m pick k at b s block (inr other) = two_off (leb k m) (eqb b at) (is_marked (mask_of pick (length older)) s) (sector block s) (picked start older m pick b s) (inr (ne_eqb b at other))

-- of a write to this block by then what its mask says is left
picked_here : (start : Image) (older : List Call) (m pick k at b s : ℕ) (block : List ℕ) → k ≤ m → b ≡ at → picked start (Wrote k at block ∷ older) m pick b s ≡ cond (is_marked (mask_of pick (length older)) s) (sector block s) (picked start older m pick b s)
unfolding picked
picked_here start older m pick k at b s block le is = two_on (leb k m) (eqb b at) (is_marked (mask_of pick (length older)) s) (sector block s) (picked start older m pick b s) (le-leb k m le) (eq-eqb b at is)

picked_unsynced : (start : Image) (older : List Call) (m pick k b s : ℕ) → m < k → picked start (Synced k ∷ older) m pick b s ≡ picked start older m pick b s
unfolding picked
picked_unsynced start older m pick k b s late = rw (lt-leb k m late) refl

picked_synced : (start : Image) (older : List Call) (m pick k b s : ℕ) → k ≤ m → picked start (Synced k ∷ older) m pick b s ≡ sector (block_at (image_after start older) b) s
unfolding picked
picked_synced start older m pick k b s le = rw (le-leb k m le) refl

-- what is picked may be left
pub picked_may : (start : Image) (calls : List Call) (m pick b s : ℕ) → may start calls m b s (picked start calls m pick b s)
picked_may start [] m pick b s = unfold picked in refl
picked_may start (Wrote k at block ∷ older) m pick b s =
    let P : List ℕ → Type 0 = λ x. may start (Wrote k at block ∷ older) m b s x in
    let rest : P (picked start older m pick b s) = inr (picked_may start older m pick b s) in
    elim (cases_lt m k) [
      | inl late ↦ subst P (sym (picked_past start older m pick k at b s block (inl late))) rest
      | inr le ↦ elim (cases_eq b at) [
        | inr other ↦ subst P (sym (picked_past start older m pick k at b s block (inr other))) rest
        | inl is ↦ subst P (sym (picked_here start older m pick k at b s block le is)) (elim (is_marked (mask_of pick (length older)) s) as (λ t. P (cond t (sector block s) (picked start older m pick b s))) [ true ↦ inl (le, is, refl) | false ↦ rest ])
      ]
    ]
picked_may start (Synced k ∷ older) m pick b s =
    let P : List ℕ → Type 0 = λ x. may start (Synced k ∷ older) m b s x in
    elim (cases_lt m k) [
      | inl late ↦ subst P (sym (picked_unsynced start older m pick k b s late)) (inr (late, picked_may start older m pick b s))
      | inr le ↦ subst P (sym (picked_synced start older m pick k b s le)) (inl (le, refl))
    ]

-- ---- a loop over the calls

pub at_start : (start : Image) (m pick : ℕ) → IsWhole start → IsRedone start [] m pick start start
unfolding picked
at_start start m pick whole = record {
  full_is = refl;
  long = refl;
  whole = whole;
  left_is = record { blocks = refl; whole = whole.each; sectors = λ b s lb ls. refl };
}

-- nothing of the write is left
pub write_lost : (start : Image) (calls : List Call) (m pick k at : ℕ) (block : List ℕ) (full left : Image) → IsBlock block → (m < k) ⊎ (length left ≤ at) → IsRedone start calls m pick full left → IsRedone start (Wrote k at block ∷ calls) m pick (slice_set full at block) left
write_lost start calls m pick k at block full left is_block lost g = record {
  full_is = ap (λ (i : Image). slice_set i at block) g.full_is;
  long = length-set full at block ∙ g.long;
  whole = whole_write full at block is_block g.whole;
  left_is = record {
    blocks = g.left_is.blocks;
    whole = g.left_is.whole;
    sectors = λ b s lb ls. g.left_is.sectors b s lb ls ∙ sym (picked_past start calls m pick k at b s block (elim lost [ inl late ↦ inl late | inr out ↦ inr (λ e. omega (arith, lb, out, e, g.left_is.blocks)) ]));
  };
}

-- the sectors that its mask says are left
pub write_left : (start : Image) (calls : List Call) (m pick k at mask : ℕ) (block : List ℕ) (full left : Image) (torn : List ℕ) → IsBlock block → k ≤ m → at < length left → IsBlock torn → mask ≡ mask_of pick (length calls) → IsMix mask block (block_at left at) torn → IsRedone start calls m pick full left
    → IsRedone start (Wrote k at block ∷ calls) m pick (slice_set full at block) (slice_set left at torn)
write_left start calls m pick k at mask block full left torn is_block le lt whole mask_is mix g = record {
  full_is = ap (λ (i : Image). slice_set i at block) g.full_is;
  long = length-set full at block ∙ g.long;
  whole = whole_write full at block is_block g.whole;
  left_is = record {
    blocks = length-set left at torn ∙ g.left_is.blocks;
    whole = λ b lb. elim (cases_eq b at) [
      | inl is ↦ ap (λ (j : ℕ). length (block_at (slice_set left at torn) j)) is ∙ ap length (get_or-set_same left at torn [] lt) ∙ whole
      | inr other ↦ ap length (get_or-set_other left at b torn [] other) ∙ g.left_is.whole b lb
    ];
    sectors = λ b s lb ls. elim (cases_eq b at) [
      | inl is ↦
          let here : block_at (slice_set left at torn) b ≡ torn = ap (λ (j : ℕ). block_at (slice_set left at torn) j) is ∙ get_or-set_same left at torn [] lt in
          let before : sector (block_at left at) s ≡ picked start calls m pick b s = ap (λ (j : ℕ). sector (block_at left j) s) (sym is) ∙ g.left_is.sectors b s lb ls in
          ap (λ (y : List ℕ). sector y s) here ∙ mix.each s ls ∙ ap (λ (y : List ℕ). cond (is_marked mask s) (sector block s) y) before
          ∙ ap (λ (n : ℕ). cond (is_marked n s) (sector block s) (picked start calls m pick b s)) mask_is ∙ sym (picked_here start calls m pick k at b s block le is)
      | inr other ↦ ap (λ (y : List ℕ). sector y s) (get_or-set_other left at b torn [] other) ∙ g.left_is.sectors b s lb ls ∙ sym (picked_past start calls m pick k at b s block (inr other))
    ];
  };
}

pub sync_lost : (start : Image) (calls : List Call) (m pick k : ℕ) (full left : Image) → m < k → IsRedone start calls m pick full left → IsRedone start (Synced k ∷ calls) m pick full left
sync_lost start calls m pick k full left late g = record {
  full_is = g.full_is;
  long = g.long;
  whole = g.whole;
  left_is = record { blocks = g.left_is.blocks; whole = g.left_is.whole; sectors = λ b s lb ls. g.left_is.sectors b s lb ls ∙ sym (picked_unsynced start calls m pick k b s late) };
}

pub sync_left : (start : Image) (calls : List Call) (m pick k : ℕ) (full left : Image) → k ≤ m → IsRedone start calls m pick full left → IsRedone start (Synced k ∷ calls) m pick full full
sync_left start calls m pick k full left le g = record {
  full_is = g.full_is;
  long = g.long;
  whole = g.whole;
  left_is = record { blocks = g.long; whole = λ b lb. g.whole.each b (omega (arith, lb, g.long)); sectors = λ b s lb ls. ap (λ (i : Image). sector (block_at i b) s) g.full_is ∙ sym (picked_synced start calls m pick k b s le) };
}

-- ---- the device

-- the number of the next call, and the mask of its sectors
pub next_is : (pick i number next : ℕ) → number ≡ number_after pick i → next ≡ next_number number → next ≡ number_after pick (i + 1)
unfolding number_after
next_is pick i number next is e = rw add-one (e ∙ ap next_number is)

pub mask_is : (pick i n number : ℕ) → number ≡ number_after pick (i + 1) → n ≡ i → number / 2 ^ 56 ≡ mask_of pick n
mask_is pick i n number is e = ap (λ (x : ℕ). x / 2 ^ 56) (is ∙ ap (λ (k : ℕ). number_after pick (k + 1)) (sym e))

-- one call more, the newest first
pub newest_first : (calls : List Call) (i : ℕ) (call : Call) → i < length calls → call ≡ get_or calls i call → reverse (take (i + 1) calls) ≡ call ∷ reverse (take i calls)
newest_first calls i call lt is = ap reverse (take_more calls i call lt) ∙ reverse-append (take i calls) (get_or calls i call ∷ []) ∙ ap (λ (x : Call). x ∷ reverse (take i calls)) (sym is)

pub length-newest_first : (calls : List Call) (i : ℕ) → i ≤ length calls → length (reverse (take i calls)) ≡ i
length-newest_first calls i le = length-reverse (take i calls) ∙ length-take-le i calls le

pub torn_block : (left : Image) (at : ℕ) (torn : List ℕ) → at < length left → torn ≡ get_or left at torn → torn ≡ block_at left at
torn_block left at torn lt is = is ∙ get_or_default left at torn [] lt

long_after : (start : Image) (calls : List Call) → length (image_after start calls) ≡ length start
long_after start [] = refl
long_after start (Wrote k at block ∷ calls) = length-set (image_after start calls) at block ∙ long_after start calls
long_after start (Synced k ∷ calls) = long_after start calls

-- a device that keeps no record tells what a crash leaves only where it has no block
none_told : (image start : Image) (calls : List Call) (n f : ℕ) → TellsCrashes (state_of image false start calls n f) → length image ≡ 0
none_told [] start calls n f tells = refl
none_told (x ∷ image) start calls n f tells = let no = (tells.sectors 0 0 (omega arith) (omega arith)).0 in absurd (cc (no))

-- a device that tells what a crash leaves is as long as the image that its record began with
long_told : (keeps : Bool) (image start : Image) (calls : List Call) (n f : ℕ) → TellsCrashes (state_of image keeps start calls n f) → cond keeps image [] ≡ image_after start calls → length start ≡ length image
long_told false image start calls n f tells agrees = sym (long_after start calls) ∙ sym (ap length agrees) ∙ sym (none_told image start calls n f tells)
long_told true image start calls n f tells agrees = sym (long_after start calls) ∙ sym (ap length agrees)

pub picked_leaves : (keeps : Bool) (image start : Image) (calls : List Call) (n f m pick : ℕ) (left : Image) → TellsCrashes (state_of image keeps start calls n f) → cond keeps image [] ≡ image_after start calls → IsPicked start calls m pick left → Leaves (state_of image keeps start calls n f) m left
picked_leaves keeps image start calls n f m pick left tells agrees is =
    let long = long_told keeps image start calls n f tells agrees in
    record {
      blocks = is.blocks ∙ long;
      whole = λ b lb. is.whole b (omega (arith, lb, long));
      sectors = λ b s lb ls. ((tells.sectors b s lb ls).0, subst (λ (x : List ℕ). may start calls m b s x) (sym (is.sectors b s (omega (arith, lb, long)) ls)) (picked_may start calls m pick b s));
    }

pub picked_sectors : (keeps : Bool) (image start : Image) (calls : List Call) (n f m pick : ℕ) (left : Image) → TellsCrashes (state_of image keeps start calls n f) → cond keeps image [] ≡ image_after start calls → IsPicked start calls m pick left
    → HasSectors (length image) (λ b s x. x ≡ picked start calls m pick b s) left
picked_sectors keeps image start calls n f m pick left tells agrees is =
    let long = long_told keeps image start calls n f tells agrees in
    record {
      blocks = is.blocks ∙ long;
      whole = λ b lb. is.whole b (omega (arith, lb, long));
      sectors = λ b s lb ls. is.sectors b s (omega (arith, lb, long)) ls;
    }
