-- How a run of device calls goes on.
use Rattle.std.proofs.Common.{◌≡◌, ◌⊎◌, inl, inr, ⊎_elim, ℕ, ◌+◌, ◌<◌, ◌≤◌, List, [], refl, sym, ◌∙◌, ap, subst, arith, Result, Ok}
use Rattle.std.proofs.lemmas.Bool.{cases_eq, cases_lt}
use Rattle.std.proofs.lemmas.List.{ext_get_or}
use Rattle.r4_base.specs.Image.{Image, block_at, sector}
use Rattle.r4_outside.proofs.Images.{same_sectors}
use Rattle.r4_outside.specs.Device.{State, Sectors, Leaves, TellsReads, TellsCrashes, Goes, Writes, Syncs, Within, only, LeavesOnly, HasSectors, IsQuiet, IsTorn, Spares}

-- Going on is reflexive and transitive.
pub goes_same : (d : State) → Goes d d
goes_same d = record { blocks = refl; lender = refl; stop = refl; reads = (λ t. t, λ t. t); crashes = (λ t. t, λ t. t); time = omega arith; faults = omega arith; earlier = λ m b s x le. (λ h. h, λ h. h) }

pub goes_both : (a b c : State) → Goes a b → Goes b c → Goes a c
goes_both a b c f g = record {
  blocks = g.blocks ∙ f.blocks;
  lender = g.lender ∙ f.lender;
  stop = g.stop ∙ f.stop;
  reads = (λ t. f.reads.0 (g.reads.0 t), λ t. g.reads.1 (f.reads.1 t));
  crashes = (λ t. f.crashes.0 (g.crashes.0 t), λ t. g.crashes.1 (f.crashes.1 t));
  time = omega (arith, f.time, g.time);
  faults = omega (arith, f.faults, g.faults);
  earlier = λ m k s x le. (λ h. (f.earlier m k s x le).0 ((g.earlier m k s x (omega (arith, le, f.time))).0 h), λ h. (g.earlier m k s x (omega (arith, le, f.time))).1 ((f.earlier m k s x le).1 h));
}

-- what a moment now may leave
pub has_now : (d : State) (Q : Sectors) (m : ℕ) (image : Image) → Within d Q → m ≡ d.clock → Leaves d m image → HasSectors d.blocks Q image
has_now d Q m image within now left = record {
  blocks = left.blocks;
  whole = left.whole;
  sectors = λ b s lb ls. within.each b s _ lb ls (subst (λ (k : ℕ). d.may_hold k b s (sector (block_at image b) s)) now (left.sectors b s lb ls));
}

-- what an earlier moment may leave stays
pub left_before : (old new : State) (m : ℕ) (image : Image) → Goes old new → m ≤ old.clock → Leaves new m image → Leaves old m image
left_before old new m image goes le left = record {
  blocks = left.blocks ∙ goes.blocks;
  whole = λ b lb. left.whole b (omega (arith, lb, goes.blocks));
  sectors = λ b s lb ls. (goes.earlier m b s _ le).0 (left.sectors b s (omega (arith, lb, goes.blocks)) ls);
}

-- the other way
pub left_after : (old new : State) (m : ℕ) (image : Image) → Goes old new → m ≤ old.clock → Leaves old m image → Leaves new m image
left_after old new m image goes le left = record {
  blocks = left.blocks ∙ sym goes.blocks;
  whole = λ b lb. left.whole b (omega (arith, lb, goes.blocks));
  sectors = λ b s lb ls. (goes.earlier m b s _ le).1 (left.sectors b s (omega (arith, lb, goes.blocks)) ls);
}

-- an image that has the sectors of one is that one
pub only_one : (n : ℕ) (Q : Sectors) (base image : Image) → HasSectors n Q base → HasSectors n (only base) image → image ≡ base
only_one n Q base image shape has = ext_get_or [] image base (has.blocks ∙ sym shape.blocks) (λ b lb.
    let lt : b < n = omega (arith, lb, has.blocks) in
    same_sectors (block_at image b) (block_at base b) (has.whole b lt) (shape.whole b lt) (λ s ls. has.sectors b s lt ls))

pub is_only : (n : ℕ) (Q : Sectors) (base : Image) → HasSectors n Q base → HasSectors n (only base) base
is_only n Q base shape = record { blocks = shape.blocks; whole = shape.whole; sectors = λ b s lb ls. refl }

-- these, or a sector of the block that was written
abbrev pub or_torn : Sectors → ℕ → List ℕ → Sectors
or_torn Q at block b s x = Q b s x ⊎ ((b ≡ at) × (x ≡ sector block s))

pub torn_one : (n at : ℕ) (block : List ℕ) (Q : Sectors) (base image : Image) → at < n → HasSectors n Q base → HasSectors n (or_torn (only base) at block) image → IsTorn at block base image
torn_one n at block Q base image below shape has = record {
  blocks = has.blocks ∙ sym shape.blocks;
  others = λ b lb other. let lt : b < n = omega (arith, lb, shape.blocks) in
      same_sectors (block_at image b) (block_at base b) (has.whole b lt) (shape.whole b lt) (λ s ls. ⊎_elim (λ same. same) (λ torn. absurd (other torn.0)) (has.sectors b s lt ls));
  sectors = λ s ls. ⊎_elim inl (λ torn. inr torn.1) (has.sectors at s below ls);
}

-- fewer sectors
pub has_more : (n : ℕ) (Q R : Sectors) (image : Image) → ((b s : ℕ) (x : List ℕ) → Q b s x → R b s x) → HasSectors n Q image → HasSectors n R image
has_more n Q R image more h = record { blocks = h.blocks; whole = h.whole; sectors = λ b s lb ls. more b s _ (h.sectors b s lb ls) }

-- A run of calls: what a crash has left so far, and what it may leave now.
pub record Run (start now : State) (Q : Sectors) (P : Image → Type 0) : Type 0 where
  pub so_far : LeavesOnly start now P
  pub goes : Goes start now
  pub within : Within now Q
  pub has : (image : Image) → HasSectors start.blocks Q image → P image

pub run_start : (d : State) (Q : Sectors) (P : Image → Type 0) → Within d Q → ((image : Image) → HasSectors d.blocks Q image → P image) → Run d d Q P
run_start d Q P within has = record {
  so_far = record { each = λ m image lo hi left. has image (has_now d Q m image within (omega (arith, lo, hi)) left) };
  goes = goes_same d;
  within = within;
  has = has;
}

-- one call more
pub run_on : (start old new : State) (Q R : Sectors) (P : Image → Type 0) → Run start old Q P → Goes old new → new.clock ≤ old.clock + 1 → Within new R → ((image : Image) → HasSectors start.blocks R image → P image) → Run start new R P
run_on start old new Q R P run goes one within has =
    let went = goes_both start old new run.goes goes in
    record {
      so_far = record {
        each = λ m image lo hi left. elim (cases_eq m new.clock) [
          | inl now ↦ has image (subst (λ (n : ℕ). HasSectors n R image) went.blocks (has_now new R m image within now left))
          | inr not_now ↦ let before : m ≤ old.clock = omega (arith, hi, one, not_now) in run.so_far.each m image lo before (left_before old new m image goes before left)
        ];
      };
      goes = went;
      within = within;
      has = has;
    }

module _ {T E : Type 0} (start old new : State) (Q : Sectors) (P : Image → Type 0) (run : Run start old Q P) where
  pub run_write : (at : ℕ) (block : List ℕ) (result : Result T E) → Writes at block old result new → ((image : Image) → HasSectors start.blocks (or_torn Q at block) image → P image) → Run start new (or_torn Q at block) P
  run_write at block result w has = run_on start old new Q (or_torn Q at block) P run w.goes (omega (arith, w.clock))
      (record { each = λ b s x lb ls may. ⊎_elim (λ was. inl (run.within.each b s x (omega (arith, lb, w.goes.blocks)) ls was)) inr (w.no_more b s x ls may) }) has

  within_sync : (result : Result T E) → Syncs old result new → Within new Q
  within_sync result y = record { each = λ b s x lb ls may. run.within.each b s x (omega (arith, lb, y.goes.blocks)) ls (y.no_more b s x may) }

  pub run_sync : (result : Result T E) → Syncs old result new → Run start new Q P
  run_sync result y = run_on start old new Q Q P run y.goes (omega (arith, y.clock)) (within_sync result y) run.has

  -- after a good sync each sector holds what reading gives
  pub run_synced : (v : T) → Syncs {E = E} old (Ok v) new → TellsCrashes start → Run start new (only new.seen) P
  run_synced v y tells =
      let went = goes_both start old new run.goes y.goes in
      let told = went.crashes.1 tells in
      let within : Within new (only new.seen) = subst (λ (i : Image). Within new (only i)) (sym y.seen) y.durable in
      let fewer : HasSectors new.blocks Q new.seen = has_now new Q new.clock new.seen (within_sync (Ok v) y) refl told in
      run_on start old new Q (only new.seen) P run y.goes (omega (arith, y.clock)) within (λ image h.
      let same : image ≡ new.seen = only_one start.blocks Q new.seen image (subst (λ (n : ℕ). HasSectors n Q new.seen) went.blocks fewer) h in
      subst P (sym same) (run.has new.seen (subst (λ (n : ℕ). HasSectors n Q new.seen) went.blocks fewer)))

-- a read, and a count of the blocks
module _ (start old new : State) (Q : Sectors) (P : Image → Type 0) (run : Run start old Q P) where
  within_same : Goes old new → new.clock ≡ old.clock → Within new Q
  within_same goes same = record { each = λ b s x lb ls may. run.within.each b s x (omega (arith, lb, goes.blocks)) ls ((goes.earlier old.clock b s x (omega arith)).0 (subst (λ (k : ℕ). new.may_hold k b s x) same may)) }

  pub run_read : Goes old new → new.clock ≡ old.clock → Run start new Q P
  run_read goes same = run_on start old new Q Q P run goes (omega (arith, same)) (within_same goes same) run.has

-- What is spared by one call after the others.
pub spares_same : (W : ℕ → Type 0) (d : State) → Spares W d d
spares_same W d = record { each = λ m b s x lo hi ls out h. let now : m ≡ d.clock = omega (arith, lo, hi) in subst (λ (k : ℕ). d.may_hold k b s x) now h }

-- a call that leaves outside W no more than before
pub spares_on : (W : ℕ → Type 0) (start old new : State) → Spares W start old → Goes start old → Goes old new → new.clock ≤ old.clock + 1
    → ((b s : ℕ) (x : List ℕ) → s < 8 → (W b → ⊥) → new.may_hold new.clock b s x → old.may_hold old.clock b s x) → Spares W start new
spares_on W start old new so_far went goes one call = record {
  each = λ m b s x lo hi ls out h. elim (cases_eq m new.clock) [
    | inl now ↦ so_far.each old.clock b s x went.time (omega arith) ls out (call b s x ls out (subst (λ (k : ℕ). new.may_hold k b s x) now h))
    | inr not_now ↦ let before : m ≤ old.clock = omega (arith, hi, one, not_now) in so_far.each m b s x lo before ls out ((goes.earlier m b s x before).0 h)
  ];
}

module _ {T E : Type 0} (W : ℕ → Type 0) (start old new : State) (so_far : Spares W start old) (went : Goes start old) (result : Result T E) where
  pub spares_write : (at : ℕ) (block : List ℕ) → W at → Writes at block old result new → Spares W start new
  spares_write at block inside w = spares_on W start old new so_far went w.goes (omega (arith, w.clock)) (λ b s x ls out h.
      ⊎_elim (λ was. was) (λ torn. absurd (out (subst W (sym torn.0) inside))) (w.no_more b s x ls h))

  pub spares_sync : Syncs old result new → Spares W start new
  spares_sync y = spares_on W start old new so_far went y.goes (omega (arith, y.clock)) (λ b s x ls out h. y.no_more b s x h)

pub spares_read : (W : ℕ → Type 0) (start old new : State) → Spares W start old → Goes start old → Goes old new → new.clock ≡ old.clock → Spares W start new
spares_read W start old new so_far went goes same = spares_on W start old new so_far went goes (omega (arith, same)) (λ b s x ls out h. (goes.earlier old.clock b s x (omega arith)).0 (subst (λ (k : ℕ). new.may_hold k b s x) same h))

pub spares_both : (W : ℕ → Type 0) (a b c : State) → Spares W a b → Spares W b c → Goes a b → Goes b c → Spares W a c
spares_both W a b c f g go_f go_g = record {
  each = λ m k s x lo hi ls out h. elim (cases_lt m b.clock) [
    | inl early ↦ f.each m k s x lo (omega (arith, early)) ls out ((go_g.earlier m k s x (omega (arith, early))).0 h)
    | inr late ↦ f.each b.clock k s x go_f.time (omega arith) ls out (g.each m k s x late hi ls out h)
  ];
}

-- fewer blocks
pub spares_more : (V W : ℕ → Type 0) (a b : State) → ((k : ℕ) → V k → W k) → Spares V a b → Spares W a b
spares_more V W a b more f = record { each = λ m k s x lo hi ls out h. f.each m k s x lo hi ls (λ v. out (more k v)) h }

-- A device that tells what a crash leaves tells what reading gives.
pub reads_of : (d : State) → TellsCrashes d → TellsReads d
reads_of d tells = record { blocks = tells.blocks; whole = tells.whole }

-- what is told stays told
pub tells_on : (old new : State) → Goes old new → TellsReads old → TellsReads new
tells_on old new goes tells = goes.reads.1 tells

-- a device stays quiet while nothing is written
pub quiet_on : (old new : State) → Goes old new → new.seen ≡ old.seen → new.clock ≡ old.clock → IsQuiet old → IsQuiet new
quiet_on old new goes seen clock quiet = record {
  tells = goes.crashes.1 quiet.tells;
  within = record {
    each = λ b s x lb ls may.
        let before = (goes.earlier new.clock b s x (omega (arith, clock))).0 may in
        let at_old = subst (λ (m : ℕ). old.may_hold m b s x) clock before in
        quiet.within.each b s x (let same = goes.blocks in omega (arith, lb, same)) ls at_old ∙ ap (λ (i : Image). sector (block_at i b) s) (sym seen);
  };
}

-- and a crash leaves what reading gives
pub one_left : (old new : State) (m : ℕ) (image : Image) → Goes old new → new.clock ≡ old.clock → IsQuiet old → old.clock ≤ m → m ≤ new.clock → Leaves new m image → image ≡ old.seen
one_left old new m image goes clock quiet lo hi left =
    let now : m ≡ old.clock = omega (arith, lo, hi, clock) in
    let left_old = left_before old new m image goes (omega (arith, now)) left in
    only_one old.blocks (old.may_hold old.clock) old.seen image quiet.tells (has_now old (only old.seen) m image quiet.within now left_old)
