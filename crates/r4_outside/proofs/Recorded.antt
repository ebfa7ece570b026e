-- What a record says after one call more.
use Rattle.std.proofs.Common.{◌≡◌, ◌⊎◌, inl, inr, ⊎_elim, ℕ, ◌+◌, ◌^◌, ◌-◌, ◌<◌, ◌≤◌, Bool, true, false, cond, IsTrue, List, [], ◌∷◌, length, slice_set, refl, sym, ◌∙◌, ap, subst, arith, Result, Ok, Err, OnOk, OnErr}
use Rattle.std.proofs.lemmas.Bool.Decides.{nat_tests}
use Rattle.std.proofs.lemmas.List.{length-set}
use Rattle.r4_base.specs.Image.{Image, IsBlock, block_at, sector}
use Rattle.r4_outside.proofs.Images.{written_block}
use Rattle.r4_outside.specs.Device.{TellsCrashes, Goes, Writes, Syncs, IsQuiet, next}
use Rattle.r4_outside.specs.Record.{IsWhole, image_after, moment_of, is_till, may}
use Rattle.r4_outside.specs.Memory.{state_of}
use Rattle.r4_outside.specs.declared.memory.Call.{Call}
use Rattle.r4_outside.specs.declared.memory.Call.TheVariants.{Wrote, Synced}

-- a test of a call and the rest of the record
first_till : (n : ℕ) (c : Call) (cs : List Call) → is_till n (c ∷ cs) ≡ true → moment_of c ≤ n
first_till n c cs h = grind (arith, nat_tests)

rest_till : (n : ℕ) (c : Call) (cs : List Call) → is_till n (c ∷ cs) ≡ true → is_till n cs ≡ true
rest_till n c cs h = grind (arith, nat_tests)

pub cons_till : (n : ℕ) (c : Call) (cs : List Call) → moment_of c ≤ n → is_till n cs ≡ true → is_till n (c ∷ cs) ≡ true
cons_till n c cs le h = grind (arith, nat_tests)

pub till_later : (n m : ℕ) (cs : List Call) → n ≤ m → is_till n cs ≡ true → is_till m cs ≡ true
till_later n m [] le h = refl
till_later n m (c ∷ cs) le h = cons_till m c cs (omega (arith, le, first_till n c cs h)) (till_later n m cs le (rest_till n c cs h))

-- from the last call on nothing changes
pub may_now : (start : Image) (n m : ℕ) (cs : List Call) → is_till n cs ≡ true → n ≤ m → (b s : ℕ) (x : List ℕ) → may start cs m b s x → may start cs n b s x
may_now start n m [] till le b s x h = h
may_now start n m (Wrote k at block ∷ cs) till le b s x h = ⊎_elim (λ w. inl (first_till n (Wrote k at block) cs till, w.1, w.2)) (λ old. inr (may_now start n m cs (rest_till n (Wrote k at block) cs till) le b s x old)) h
may_now start n m (Synced k ∷ cs) till le b s x h = ⊎_elim (λ w. inl (first_till n (Synced k) cs till, w.1)) (λ old. let no : k ≤ n = first_till n (Synced k) cs till in absurd (omega (arith, no, le, old.0))) h

pub may_then : (start : Image) (n m : ℕ) (cs : List Call) → is_till n cs ≡ true → n ≤ m → (b s : ℕ) (x : List ℕ) → may start cs n b s x → may start cs m b s x
may_then start n m [] till le b s x h = h
may_then start n m (Wrote k at block ∷ cs) till le b s x h = ⊎_elim (λ w. inl (omega (arith, le, w.0), w.1, w.2)) (λ old. inr (may_then start n m cs (rest_till n (Wrote k at block) cs till) le b s x old)) h
may_then start n m (Synced k ∷ cs) till le b s x h = ⊎_elim (λ w. inl (omega (arith, le, w.0), w.1)) (λ old. let no : k ≤ n = first_till n (Synced k) cs till in absurd (omega (arith, no, old.0))) h

-- the image now is possible
pub may_image : (start : Image) (n : ℕ) (cs : List Call) → is_till n cs ≡ true → (b s : ℕ) → may start cs n b s (sector (block_at (image_after start cs) b) s)
may_image start n [] till b s = refl
may_image start n (Wrote k at block ∷ cs) till b s =
    let older = may_image start n cs (rest_till n (Wrote k at block) cs till) b s in
    ⊎_elim (λ w. inl (first_till n (Wrote k at block) cs till, w.0, ap (λ (l : List ℕ). sector l s) w.1)) (λ same. inr (subst (λ (l : List ℕ). may start cs n b s (sector l s)) (sym same) older)) (written_block (image_after start cs) at b block)
may_image start n (Synced k ∷ cs) till b s = inl (first_till n (Synced k) cs till, refl)

always_ok : {T E P : Type 0} (r : Result T E) → P → OnOk r P
always_ok (Ok v) p = p
always_ok (Err e) p = tt

always_err : {T E P : Type 0} (r : Result T E) → P → OnErr r P
always_err (Ok v) p = tt
always_err (Err e) p = p

-- a new call is not seen at an earlier moment
earlier_to : (keeps : Bool) (start : Image) (c : Call) (cs : List Call) (n m : ℕ) (b s : ℕ) (x : List ℕ) → moment_of c ≡ n + 1 → m ≤ n → IsTrue keeps × may start (cond keeps (c ∷ cs) cs) m b s x → IsTrue keeps × may start cs m b s x
earlier_to false start c cs n m b s x is le h = h
earlier_to true start (Wrote k at block) cs n m b s x is le h = (h.0, ⊎_elim (λ w. absurd (omega (arith, w.0, is, le))) (λ old. old) h.1)
earlier_to true start (Synced k) cs n m b s x is le h = (h.0, ⊎_elim (λ w. absurd (omega (arith, w.0, is, le))) (λ old. old.1) h.1)

earlier_from : (keeps : Bool) (start : Image) (c : Call) (cs : List Call) (n m : ℕ) (b s : ℕ) (x : List ℕ) → moment_of c ≡ n + 1 → m ≤ n → IsTrue keeps × may start cs m b s x → IsTrue keeps × may start (cond keeps (c ∷ cs) cs) m b s x
earlier_from false start c cs n m b s x is le h = h
earlier_from true start (Wrote k at block) cs n m b s x is le h = (h.0, inr h.1)
earlier_from true start (Synced k) cs n m b s x is le h = (h.0, inr (omega (arith, is, le), h.1))

pub whole_none : IsWhole []
whole_none = record { each = λ b lb. absurd (omega (arith, lb)) }

-- the device as it reads is one of its images
tells_new : (image image' : Image) (keeps : Bool) (start : Image) (cs cs' : List Call) (n n' f f' : ℕ) → length image' ≡ length image → IsWhole image'
    → is_till n' cs' ≡ true → cond keeps image' [] ≡ image_after start cs' → TellsCrashes (state_of image keeps start cs n f) → TellsCrashes (state_of image' keeps start cs' n' f')
tells_new image image' false start cs cs' n n' f f' long whole till agrees old = record {
  blocks = refl;
  whole = whole.each;
  sectors = λ b s lb ls. let no = (old.sectors b s (omega (arith, lb, long)) ls).0 in absurd (cc (no));
}
tells_new image image' true start cs cs' n n' f f' long whole till agrees old = record {
  blocks = refl;
  whole = whole.each;
  sectors = λ b s lb ls. (refl, subst (λ (i : Image). may start cs' n' b s (sector (block_at i b) s)) (sym agrees) (may_image start n' cs' till b s));
}

-- nothing is done but for the counts
pub goes_idle : (image : Image) (keeps : Bool) (start : Image) (cs : List Call) (n n' f f' : ℕ) → is_till n cs ≡ true → cond keeps image [] ≡ image_after start cs → IsWhole image → n ≤ n' → f ≤ f' → Goes (state_of image keeps start cs n f) (state_of image keeps start cs n' f')
goes_idle image keeps start cs n n' f f' till agrees whole le fle = record {
  blocks = refl;
  lender = refl;
  stop = refl;
  reads = (λ t. t, λ t. t);
  crashes = (tells_new image image keeps start cs cs n' n f' f refl whole till agrees, tells_new image image keeps start cs cs n n' f f' refl whole (till_later n n' cs le till) agrees);
  time = le;
  faults = fle;
  earlier = λ m b s x h. (λ p. p, λ p. p);
}

pub goes_call : (image image' : Image) (keeps : Bool) (start : Image) (c : Call) (cs cs' : List Call) (n n' f f' : ℕ) → is_till n cs ≡ true → cond keeps image [] ≡ image_after start cs → IsWhole image → is_till n' cs' ≡ true → cond keeps image' [] ≡ image_after start cs'
    → length image' ≡ length image → IsWhole image' → cs' ≡ cond keeps (c ∷ cs) cs → moment_of c ≡ n + 1 → n' ≡ n + 1 → f ≤ f'
    → Goes (state_of image keeps start cs n f) (state_of image' keeps start cs' n' f')
goes_call image image' keeps start c cs cs' n n' f f' till0 agrees0 whole0 till agrees long whole is moment next_is fle = record {
  blocks = long;
  lender = refl;
  stop = refl;
  reads = (λ t. record { blocks = refl; whole = whole0.each }, λ t. record { blocks = refl; whole = whole.each });
  crashes = (tells_new image' image keeps start cs' cs n' n f' f (sym long) whole0 till0 agrees0, tells_new image image' keeps start cs cs' n n' f f' long whole till agrees);
  time = omega (arith, next_is);
  faults = fle;
  earlier = λ m b s x le. (
    λ h. earlier_to keeps start c cs n m b s x moment le (subst (λ (l : List Call). IsTrue keeps × may start l m b s x) is h),
    λ h. subst (λ (l : List Call). IsTrue keeps × may start l m b s x) (sym is) (earlier_from keeps start c cs n m b s x moment le h),
  );
}

-- A call that fails and leaves nothing.
module _ {E : Type 0} (image : Image) (keeps : Bool) (start : Image) (cs : List Call) (n n' f f' : ℕ) (till : is_till n cs ≡ true) (agrees : cond keeps image [] ≡ image_after start cs) (whole : IsWhole image) (after : n' ≡ next n) (limit : n ≤ 2 ^ 64 - 1) (rose : next f ≤ f') (fle : f ≤ f') (e : E) where
  le : n ≤ n'
  le = omega (arith, after, limit)

  pub idle_write : {T : Type 0} (at : ℕ) (block : List ℕ) → Writes {T = T} at block (state_of image keeps start cs n f) (Err e) (state_of image keeps start cs n' f')
  idle_write {T} at block = record {
    goes = goes_idle image keeps start cs n n' f f' till agrees whole le fle;
    seen = tt;
    clock = after;
    cause = rose;
    no_more = λ b s x ls h. inl (h.0, may_now start n n' cs till le b s x h.1);
    no_less = λ b s x h. (h.0, may_then start n n' cs till le b s x h.1);
    over = λ h. (refl, refl);
  }

  pub idle_sync : {T : Type 0} → Syncs {T = T} (state_of image keeps start cs n f) (Err e) (state_of image keeps start cs n' f')
  idle_sync {T} = record {
    goes = goes_idle image keeps start cs n n' f f' till agrees whole le fle;
    seen = refl;
    clock = after;
    cause = rose;
    durable = tt;
    no_more = λ b s x h. (h.0, may_now start n n' cs till le b s x h.1);
    no_less = λ b s x h. (h.0, may_then start n n' cs till le b s x h.1);
    over = λ h. refl;
  }

-- what a write adds
adds : (keeps : Bool) (start : Image) (cs : List Call) (n at : ℕ) (block : List ℕ) (b s : ℕ) (x : List ℕ) → is_till n cs ≡ true
    → IsTrue keeps × may start (cond keeps (Wrote (n + 1) at block ∷ cs) cs) (n + 1) b s x → (IsTrue keeps × may start cs n b s x) ⊎ ((b ≡ at) × (x ≡ sector block s))
adds false start cs n at block b s x till h = let no = h.0 in absurd (cc (no))
adds true start cs n at block b s x till h = ⊎_elim (λ w. inr (w.1, w.2)) (λ old. inl (refl, may_now start n (n + 1) cs till (omega arith) b s x old)) h.1

keeps_old : (keeps : Bool) (start : Image) (c : Call) (cs : List Call) (n at : ℕ) (block : List ℕ) (b s : ℕ) (x : List ℕ) → is_till n cs ≡ true
    → IsTrue keeps × may start cs n b s x → IsTrue keeps × may start (cond keeps (Wrote (n + 1) at block ∷ cs) cs) (n + 1) b s x
keeps_old false start c cs n at block b s x till h = let no = h.0 in absurd (cc (no))
keeps_old true start c cs n at block b s x till h = (refl, inr (may_then start n (n + 1) cs till (omega arith) b s x h.1))

-- the record after a write, and after a sync
pub agrees_write : (image : Image) (keeps : Bool) (start : Image) (cs : List Call) (n at : ℕ) (block : List ℕ) → cond keeps image [] ≡ image_after start cs
    → cond keeps (slice_set image at block) [] ≡ image_after start (cond keeps (Wrote (n + 1) at block ∷ cs) cs)
agrees_write image false start cs n at block agrees = agrees
agrees_write image true start cs n at block agrees = ap (λ (i : Image). slice_set i at block) agrees

pub agrees_sync : (image : Image) (keeps : Bool) (start : Image) (cs : List Call) (n : ℕ) → cond keeps image [] ≡ image_after start cs → cond keeps image [] ≡ image_after start (cond keeps (Synced (n + 1) ∷ cs) cs)
agrees_sync image false start cs n agrees = agrees
agrees_sync image true start cs n agrees = agrees

pub till_call : (keeps : Bool) (c : Call) (cs : List Call) (n : ℕ) → moment_of c ≡ n + 1 → is_till n cs ≡ true → is_till (n + 1) (cond keeps (c ∷ cs) cs) ≡ true
till_call false c cs n is till = till_later n (n + 1) cs (omega arith) till
till_call true c cs n is till = cons_till (n + 1) c cs (omega (arith, is)) (till_later n (n + 1) cs (omega arith) till)

pub whole_write : (image : Image) (at : ℕ) (block : List ℕ) → IsBlock block → IsWhole image → IsWhole (slice_set image at block)
whole_write image at block long whole = record { each = λ b lb. ⊎_elim (λ w. ap length w.1 ∙ long) (λ same. ap length same ∙ whole.each b (omega (arith, lb, length-set image at block))) (written_block image at b block) }

-- A write, and a good sync.
module _ {T E : Type 0} (image : Image) (keeps : Bool) (start : Image) (cs : List Call) (n f f' : ℕ) (till : is_till n cs ≡ true) (agrees : cond keeps image [] ≡ image_after start cs) (whole : IsWhole image) (before : n < 2 ^ 64 - 1) (fle : f ≤ f') (r : Result T E) (cause : OnErr r (next f ≤ f')) where
  pub note_write : (at : ℕ) (block : List ℕ) → IsBlock block → Writes at block (state_of image keeps start cs n f) r (state_of (slice_set image at block) keeps start (cond keeps (Wrote (n + 1) at block ∷ cs) cs) (n + 1) f')
  note_write at block is_block = record {
    goes = goes_call image (slice_set image at block) keeps start (Wrote (n + 1) at block) cs (cond keeps (Wrote (n + 1) at block ∷ cs) cs) n (n + 1) f f'
        till agrees whole (till_call keeps (Wrote (n + 1) at block) cs n refl till) (agrees_write image keeps start cs n at block agrees) (length-set image at block) (whole_write image at block is_block whole) refl refl refl fle;
    seen = always_ok r refl;
    clock = omega (arith, before);
    cause = cause;
    no_more = λ b s x ls h. adds keeps start cs n at block b s x till h;
    no_less = λ b s x h. keeps_old keeps start (Wrote (n + 1) at block) cs n at block b s x till h;
    over = λ h. absurd (omega (arith, h, before));
  }

synced_now : (image : Image) (keeps : Bool) (start : Image) (cs : List Call) (n b s : ℕ) (x : List ℕ) → cond keeps image [] ≡ image_after start cs → IsTrue keeps × may start (cond keeps (Synced (n + 1) ∷ cs) cs) (n + 1) b s x → x ≡ sector (block_at image b) s
synced_now image false start cs n b s x agrees h = let no = h.0 in absurd (cc (no))
synced_now image true start cs n b s x agrees h = ⊎_elim (λ w. w.1 ∙ ap (λ (i : Image). sector (block_at i b) s) (sym agrees)) (λ old. absurd (omega (arith, old.0))) h.1

synced_was : (image : Image) (keeps : Bool) (start : Image) (cs : List Call) (n b s : ℕ) (x : List ℕ) → is_till n cs ≡ true → IsTrue keeps × may start (cond keeps (Synced (n + 1) ∷ cs) cs) (n + 1) b s x → IsTrue keeps × may start cs n b s x
synced_was image false start cs n b s x till h = let no = h.0 in absurd (cc (no))
synced_was image true start cs n b s x till h = (refl, ⊎_elim (λ w. subst (λ (v : List ℕ). may start cs n b s v) (sym w.1) (may_image start n cs till b s)) (λ old. absurd (omega (arith, old.0))) h.1)

pub note_sync : {T E : Type 0} (image : Image) (keeps : Bool) (start : Image) (cs : List Call) (n f f' : ℕ) → is_till n cs ≡ true → cond keeps image [] ≡ image_after start cs → IsWhole image → n < 2 ^ 64 - 1 → f ≤ f' → (v : T)
    → Syncs {E = E} (state_of image keeps start cs n f) (Ok v) (state_of image keeps start (cond keeps (Synced (n + 1) ∷ cs) cs) (n + 1) f')
note_sync image keeps start cs n f f' till agrees whole before fle v = record {
  goes = goes_call image image keeps start (Synced (n + 1)) cs (cond keeps (Synced (n + 1) ∷ cs) cs) n (n + 1) f f'
      till agrees whole (till_call keeps (Synced (n + 1)) cs n refl till) (agrees_sync image keeps start cs n agrees) refl whole refl refl refl fle;
  seen = refl;
  clock = omega (arith, before);
  cause = tt;
  durable = record { each = λ b s x lb ls h. synced_now image keeps start cs n b s x agrees h };
  no_more = λ b s x h. synced_was image keeps start cs n b s x till h;
  no_less = tt;
  over = λ h. absurd (omega (arith, h, before));
}

pub cond_true : {X : Type 0} (b : Bool) (x y : X) → b ≡ true → x ≡ cond b x y
cond_true {X} b x y e = sym (ap (λ (k : Bool). cond {A = X} k x y) e)

pub cond_false : {X : Type 0} (b : Bool) (x y : X) → b ≡ false → y ≡ cond b x y
cond_false {X} b x y e = sym (ap (λ (k : Bool). cond {A = X} k x y) e)

-- the same, where the image and the record are known to be as before
pub idle_write_as : {T E : Type 0} (image image' : Image) (keeps : Bool) (start : Image) (cs cs' : List Call) (n n' f f' : ℕ) → image' ≡ image → cs' ≡ cs → is_till n cs ≡ true → cond keeps image [] ≡ image_after start cs → IsWhole image → n' ≡ next n → n ≤ 2 ^ 64 - 1 → next f ≤ f' → f ≤ f'
    → (e : E) (at : ℕ) (block : List ℕ) → Writes {T = T} at block (state_of image keeps start cs n f) (Err e) (state_of image' keeps start cs' n' f')
idle_write_as {T} {E} image image' keeps start cs cs' n n' f f' is cs_is till agrees whole after limit rose fle e at block =
    let same : Writes {T = T} {E = E} at block (state_of image keeps start cs n f) (Err e) (state_of image keeps start cs n' f') = idle_write image keeps start cs n n' f f' till agrees whole after limit rose fle e at block in
    subst (λ (l : List Call). Writes {T = T} {E = E} at block (state_of image keeps start cs n f) (Err e) (state_of image' keeps start l n' f')) (sym cs_is)
    (subst (λ (i : Image). Writes {T = T} {E = E} at block (state_of image keeps start cs n f) (Err e) (state_of i keeps start cs n' f')) (sym is) same)

pub idle_sync_as : {T E : Type 0} (image : Image) (keeps : Bool) (start : Image) (cs cs' : List Call) (n n' f f' : ℕ) → cs' ≡ cs → is_till n cs ≡ true → cond keeps image [] ≡ image_after start cs → IsWhole image → n' ≡ next n → n ≤ 2 ^ 64 - 1 → next f ≤ f' → f ≤ f'
    → (e : E) → Syncs {T = T} (state_of image keeps start cs n f) (Err e) (state_of image keeps start cs' n' f')
idle_sync_as {T} {E} image keeps start cs cs' n n' f f' cs_is till agrees whole after limit rose fle e =
    let same : Syncs {T = T} {E = E} (state_of image keeps start cs n f) (Err e) (state_of image keeps start cs n' f') = idle_sync image keeps start cs n n' f f' till agrees whole after limit rose fle e in
    subst (λ (l : List Call). Syncs {T = T} {E = E} (state_of image keeps start cs n f) (Err e) (state_of image keeps start l n' f')) (sym cs_is) same

-- a device whose record is empty
pub quiet_new : (image start : Image) → IsWhole image → image ≡ start → IsQuiet (state_of image true start [] 0 0)
quiet_new image start whole is = record {
  tells = record { blocks = refl; whole = whole.each; sectors = λ b s lb ls. (refl, ap (λ (i : Image). sector (block_at i b) s) is) };
  within = record { each = λ b s x lb ls h. h.1 ∙ ap (λ (i : Image). sector (block_at i b) s) (sym is) };
}
