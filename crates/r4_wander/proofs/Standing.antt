-- How a device goes through the writes of a part.
use Rattle.std.proofs.Common.{◌≡◌, ◌⊎◌, inl, inr, ⊎_elim, ℕ, zero, suc, ◌+◌, ◌<◌, ◌≤◌, List, [], ◌∷◌, ◌++◌, length, take, drop, get_or, slice_set, refl, sym, ◌∙◌, ap, subst, arith, Result, Ok}
use Rattle.std.specs.Prelude.{All}
use Rattle.std.proofs.lemmas.Bool.{cases_lt}
use Rattle.std.proofs.lemmas.List.{take_more, take_all, take-append-drop, length-map, get_or_default}
use Rattle.std.proofs.lemmas.List.Elements.{Contains-get_or, Contains-append_left, Contains-append_right, All-get_or}
use Rattle.std.proofs.Math.ListN.{get_or-map}
use Rattle.r4_base.specs.Image.{AreDifferent, Image, IsImage, block_at, sector}
use Rattle.r4_base.specs.Chain.{Txn}
use Rattle.r4_base.proofs.Choices.{nothing_in}
use Rattle.r4_outside.specs.Device.{State, Sectors, Goes, Writes, Syncs, HasSectors, LeavesOnly, TellsCrashes, IsQuiet, Spares}
use Rattle.r4_outside.proofs.Moments.{Run, run_start, run_write, run_sync, spares_same, spares_write, spares_sync, goes_same, left_before}
use Rattle.r4_wander.specs.Torn.{Write, put_writes, targets, IsTarget, IsWritten, IsTornBy}
use Rattle.r4_wander.specs.Parts.{Parts, part, base_of, IsOrderOf}
use Rattle.r4_wander.specs.declared.plan.LogPlan.{LogPlan}
use Rattle.r4_wander.specs.LogPlan.{news, parts_of, txn_of}
use Rattle.r4_wander.specs.Safe.{IsSafe, IsEncoded, ByPart}
use Rattle.r4_wander.specs.Progress.{Progress, under_way, write_at, HasMade, FitOn, Stands, ReadsAs, Commits}
use Rattle.r4_wander.proofs.Members.{any_here}
use Rattle.r4_wander.proofs.Settling.{settles_by_part}
use Rattle.r4_wander.proofs.Order.{torn_order}
use Rattle.r4_wander.proofs.Encoding.{is_commit, has_homes, by_part, news_are}

pub leaves_more : (old new : State) (P Q : Image → Type 0) → ((image : Image) → P image → Q image) → LeavesOnly old new P → LeavesOnly old new Q
leaves_more old new P Q more l = record { each = λ m image lo hi left. more image (l.each m image lo hi left) }

-- one run of calls after the other
pub leaves_both : (a b c : State) (P : Image → Type 0) → LeavesOnly a b P → LeavesOnly b c P → Goes b c → LeavesOnly a c P
leaves_both a b c P f g goes = record {
  each = λ m image lo hi left. elim (cases_lt m b.clock) [
    | inl early ↦ let before : m ≤ b.clock = omega (arith, early) in f.each m image lo before (left_before b c m image goes before left)
    | inr late ↦ g.each m image late hi left
  ];
}

put_both : (xs ys : List Write) (image : Image) → put_writes (xs ++ ys) image ≡ put_writes ys (put_writes xs image)
put_both [] ys image = refl
put_both (x ∷ xs) ys image = put_both xs ys _

written_left : (xs ys : List Write) (b s : ℕ) (x : List ℕ) → IsWritten xs b s x → IsWritten (xs ++ ys) b s x
written_left xs ys b s x h = (h.0, Contains-append_left xs ys h.0 h.1, h.2, h.3)

written_last : (xs : List Write) (w : Write) (b s : ℕ) (x : List ℕ) → (b ≡ w.0) × (x ≡ sector w.1 s) → IsWritten (xs ++ w ∷ []) b s x
written_last xs w b s x is = (w, Contains-append_right xs (w ∷ []) w (any_here w [] w refl), is.0, is.1)

written_part : (ws : List Write) (k b s : ℕ) (x : List ℕ) → IsWritten (take k ws) b s x → IsWritten ws b s x
written_part ws k b s x h = subst (λ (l : List Write). IsWritten l b s x) (take-append-drop k ws) (written_left (take k ws) (drop k ws) b s x h)

pub target_at : (ws : List Write) (k : ℕ) → k < length ws → IsTarget ws (write_at ws k).0
target_at ws k lt = subst (IsTarget ws) (get_or-map (λ (w : Write). w.0) ws k (0, [])) (Contains-get_or (targets ws) k 0 (omega (arith, lt, length-map {A = Write} {B = ℕ} ws (λ w. w.0))))

abbrev torn_by : List Write → Image → Sectors
torn_by ws base b s x = (x ≡ sector (block_at base b) s) ⊎ IsWritten ws b s x

module _ (ws : List Write) (base : Image) (k : ℕ) (old : State) (made : HasMade ws base k old) where
  torn_all : (Q : Sectors) → ((b s : ℕ) (x : List ℕ) → Q b s x → torn_by ws base b s x) → (image : Image) → HasSectors old.blocks Q image → IsTornBy ws base image
  torn_all Q more image h = record {
    blocks = h.blocks ∙ sym made.image.blocks;
    whole = λ b lt. h.whole b (omega (arith, lt, made.image.blocks));
    sectors = λ b s lt ls. more b s _ (h.sectors b s (omega (arith, lt, made.image.blocks)) ls);
  }

  so_far : (b s : ℕ) (x : List ℕ) → torn_by (take k ws) base b s x → torn_by ws base b s x
  so_far b s x h = ⊎_elim inl (λ w. inr (written_part ws k b s x w)) h

  run0 : Run old old (torn_by (take k ws) base) (IsTornBy ws base)
  run0 = run_start old _ _ (record { each = made.within }) (torn_all _ so_far)

  pub left_start : (image : Image) → HasSectors old.blocks (old.may_hold old.clock) image → IsTornBy ws base image
  left_start image left = run0.so_far.each old.clock image (omega arith) (omega arith) left

  pub left_now : LeavesOnly old old (IsTornBy ws base)
  left_now = run0.so_far

  module _ {T E : Type 0} (new : State) (result : Result T E) where
    pub left_write : k < length ws → Writes (write_at ws k).0 (write_at ws k).1 old result new → LeavesOnly old new (IsTornBy ws base)
    left_write lt w = (run_write old old new _ _ run0 _ _ result w (torn_all _ (λ b s x h. ⊎_elim (so_far b s x) (λ is. inr (this_one b s x is)) h))).so_far
      where
        this_one : (b s : ℕ) (x : List ℕ) → (b ≡ (write_at ws k).0) × (x ≡ sector (write_at ws k).1 s) → IsWritten ws b s x
        this_one b s x is = written_part ws (k + 1) b s x (subst (λ (l : List Write). IsWritten l b s x) (sym (take_more ws k (0, []) lt)) (written_last (take k ws) (write_at ws k) b s x is))

    pub left_sync : Syncs old result new → LeavesOnly old new (IsTornBy ws base)
    left_sync y = (run_sync old old new _ _ run0 result y).so_far

  module _ {T E : Type 0} (new : State) (v : T) where
    pub made_write : k < length ws → Writes {E = E} (write_at ws k).0 (write_at ws k).1 old (Ok v) new → HasMade ws base (k + 1) new
    made_write lt w =
        let more : take (k + 1) ws ≡ take k ws ++ write_at ws k ∷ [] = take_more ws k (0, []) lt in
        record {
          image = subst (λ (n : ℕ). IsImage n base) (sym w.goes.blocks) made.image;
          tells = w.goes.crashes.1 made.tells;
          seen = w.seen ∙ ap (λ (i : Image). slice_set i (write_at ws k).0 (write_at ws k).1) made.seen ∙ sym (put_both (take k ws) (write_at ws k ∷ []) base) ∙ ap (λ (l : List Write). put_writes l base) (sym more);
          within = λ b s x lb ls may. subst (λ (l : List Write). torn_by l base b s x) (sym more) (⊎_elim
              (λ was. ⊎_elim inl (λ one. inr (written_left (take k ws) (write_at ws k ∷ []) b s x one)) (made.within b s x (omega (arith, lb, w.goes.blocks)) ls was))
              (λ now. inr (written_last (take k ws) (write_at ws k) b s x now))
              (w.no_more b s x ls may));
        }

    -- after a good sync the next part begins
    pub made_sync : (vs : List Write) → length ws ≤ k → Syncs {E = E} old (Ok v) new → HasMade vs (put_writes ws base) 0 new
    made_sync vs all y =
        let told : TellsCrashes new = y.goes.crashes.1 made.tells in
        let seen : old.seen ≡ put_writes ws base = made.seen ∙ ap (λ (l : List Write). put_writes l base) (take_all k ws all) in
        let now : new.seen ≡ put_writes ws base = y.seen ∙ seen in
        record {
          image = subst (λ (i : Image). IsImage new.blocks i) now (record { blocks = told.blocks; whole = told.whole });
          tells = told;
          seen = now;
          within = λ b s x lb ls may. inl (y.durable.each b s x lb ls may ∙ ap (λ (i : Image). sector (block_at i b) s) seen);
        }

-- a quiet device begins a first part
pub begins : (ws : List Write) (d : State) → IsQuiet d → HasMade ws d.seen 0 d
begins ws d quiet = record {
  image = record { blocks = quiet.tells.blocks; whole = quiet.tells.whole };
  tells = quiet.tells;
  seen = refl;
  within = λ b s x lb ls may. inl (quiet.within.each b s x lb ls may);
}

-- and a device that has made no write of a part is quiet
pub is_quiet : (ws : List Write) (base : Image) (d : State) → HasMade ws base 0 d → IsQuiet d
is_quiet ws base d made = record {
  tells = made.tells;
  within = record { each = λ b s x lb ls may. ⊎_elim (λ same. same ∙ ap (λ (i : Image). sector (block_at i b) s) (sym made.seen)) (λ w. absurd (nothing_in w.0 w.1)) (made.within b s x lb ls may) };
}

-- the homes are different blocks, as the originals are
pub homes_differ : (n : ℕ) (base : Image) (chain : List Txn) (p : LogPlan) → IsSafe n base chain p → AreDifferent (targets (news p))
homes_differ n base chain p safe = subst AreDifferent (sym (news_are p.wandered)) safe.originals_differ

-- what is left settles by the part
pub settled_by : (w : Progress) (n : ℕ) (base : Image) (chain : List Txn) (p : LogPlan) (image : Image) → w.part ≤ 4 → Commits w n base chain p → IsTornBy (under_way w) (base_of w.plan base w.part) image → ByPart n base chain p w.part image
settled_by w n base chain p image lt c t =
    by_part n base chain p c.safe c.encoded w.part image (settles_by_part n base chain (txn_of p) (parts_of p) (is_commit n base chain p c.safe c.encoded) w.part image lt c.homes
    (torn_order (parts_of p) w.plan c.order c.safe.different (homes_differ n base chain p c.safe) base w.part image t))

pub settles : (w : Progress) (n : ℕ) (base : Image) (chain : List Txn) (p : LogPlan) (old new : State) → w.part ≤ 4 → Commits w n base chain p → LeavesOnly old new (IsTornBy (under_way w) (base_of w.plan base w.part)) → LeavesOnly old new (ByPart n base chain p w.part)
settles w n base chain p old new lt c left = leaves_more old new _ _ (λ image t. settled_by w n base chain p image lt c t) left

-- a writer that makes its commit on an image with nothing unflushed
pub commits_alone : (w : Progress) (n : ℕ) (base : Image) (p : LogPlan) → IsSafe n base [] p → IsEncoded p → IsOrderOf (parts_of p) w.plan → Commits w n base [] p
commits_alone w n base p safe code order = record { safe = safe; encoded = code; order = order; homes = λ le. has_homes n base p safe code }

pub spares_one_write : {T E : Type 0} (ws : List Write) (k : ℕ) (old new : State) (result : Result T E) → k < length ws → Writes (write_at ws k).0 (write_at ws k).1 old result new → Spares (IsTarget ws) old new
spares_one_write ws k old new result lt w = spares_write (IsTarget ws) old old new (spares_same _ old) (goes_same old) result _ _ (target_at ws k lt) w

pub spares_one_sync : {T E : Type 0} (ws : List Write) (old new : State) (result : Result T E) → Syncs old result new → Spares (IsTarget ws) old new
spares_one_sync ws old new result y = spares_sync (IsTarget ws) old old new (spares_same _ old) (goes_same old) result y

-- the image as the next part begins
pub next_base : (plan : Parts) (base : Image) (i : ℕ) (d : State) → HasMade (part plan (suc i)) (put_writes (part plan i) (base_of plan base i)) 0 d → HasMade (part plan (i + 1)) (base_of plan base (i + 1)) 0 d
next_base plan base i d made = let more : suc i ≡ i + 1 = omega arith in subst (λ (k : ℕ). HasMade (part plan k) (base_of plan base k) 0 d) more made

-- each write is below the number of blocks
all_below : (n k : ℕ) (ws : List Write) → All (λ b. b < n) (targets ws) → k < length ws → (write_at ws k).0 < n
all_below n k ws all lt = subst (λ (b : ℕ). b < n) (get_or-map (λ (w : Write). w.0) ws k (0, [])) (All-get_or (λ (b : ℕ). b < n) (targets ws) k 0 (omega (arith, lt, length-map {A = Write} {B = ℕ} ws (λ w. w.0))) all)

one_below : (n k at : ℕ) (x : List ℕ) → at < n → k < 1 → (write_at ((at, x) ∷ []) k).0 < n
one_below n zero at x below lt = below
one_below n (suc k) at x below lt = absurd (omega (arith, lt))

pub write_below : (n : ℕ) (plan : Parts) (i k : ℕ) → FitOn n plan → k < length (part plan i) → (write_at (part plan i) k).0 < n
write_below n plan zero k fits lt = all_below n k plan.first fits.first lt
write_below n plan (suc zero) k fits lt = one_below n k 19 plan.header (omega (arith, fits.more)) lt
write_below n plan (suc (suc zero)) k fits lt = all_below n k plan.homes fits.homes lt
write_below n plan (suc (suc (suc zero))) k fits lt = one_below n k 20 plan.footer (omega (arith, fits.more)) lt
write_below n plan (suc (suc (suc (suc i)))) k fits lt = absurd (omega (arith, lt))

-- the write that is looked up
pub entry_below : (n k : ℕ) (ws : List Write) (w : Write) → All (λ b. b < n) (targets ws) → k < length ws → w ≡ get_or ws k w → w.0 < n
entry_below n k ws w all lt is = subst (λ (v : Write). v.0 < n) (get_or_default ws k (0, []) w lt ∙ sym is) (all_below n k ws all lt)

-- what the test of a call says
pub more_writes : (w v : Progress) → v ≡ w → (len : ℕ) → len ≡ length (under_way w) → v.done < len → w.done < length (under_way w)
more_writes w v same len is lt = let done : v.done ≡ w.done = ap (λ (u : Progress). u.done) same in omega (arith, is, lt, done)

pub no_more_writes : (w v : Progress) → v ≡ w → (len : ℕ) → len ≡ length (under_way w) → len ≤ v.done → length (under_way w) ≤ w.done
no_more_writes w v same len is le = let done : v.done ≡ w.done = ap (λ (u : Progress). u.done) same in omega (arith, is, le, done)

-- the next write of the first part, and the next home
module _ (n : ℕ) (w v : Progress) (same : v ≡ w) (fits : FitOn n w.plan) (some : w.done < length (under_way w)) (x : Write) where
  here : v.done < length (under_way v)
  here = subst (λ (u : Progress). u.done < length (under_way u)) (sym same) some

  fits_here : FitOn n v.plan
  fits_here = subst (λ (u : Progress). FitOn n u.plan) (sym same) fits

  pub first_below : v.part ≡ 0 → x ≡ get_or v.plan.first v.done x → x.0 < n
  first_below at is = entry_below n v.done v.plan.first x fits_here.first (subst (λ (i : ℕ). v.done < length (part v.plan i)) at here) is

  pub home_below : v.part ≡ 2 → x ≡ get_or v.plan.homes v.done x → x.0 < n
  home_below at is = entry_below n v.done v.plan.homes x fits_here.homes (subst (λ (i : ℕ). v.done < length (part v.plan i)) at here) is

-- What a crash leaves now, between two steps.
pub settles_now : (w : Progress) (n : ℕ) (base : Image) (chain : List Txn) (p : LogPlan) (d : State) → w.part ≤ 4 → Commits w n base chain p → Stands w base d → LeavesOnly d d (ByPart n base chain p w.part)
settles_now w n base chain p d lt c made = settles w n base chain p d d lt c (left_now (under_way w) (base_of w.plan base w.part) w.done d made)

-- A read between two steps leaves the device where it stands.
pub made_read : (ws : List Write) (base : Image) (k : ℕ) (old new : State) → HasMade ws base k old → Goes old new → new.seen ≡ old.seen → new.clock ≡ old.clock → HasMade ws base k new
made_read ws base k old new made goes seen clock = record {
  image = subst (λ (n : ℕ). IsImage n base) (sym goes.blocks) made.image;
  tells = goes.crashes.1 made.tells;
  seen = seen ∙ made.seen;
  within = λ b s x lb ls may. made.within b s x (omega (arith, lb, goes.blocks)) ls ((goes.earlier old.clock b s x (omega arith)).0 (subst (λ (m : ℕ). new.may_hold m b s x) clock may));
}

-- ---- what reading gives, also on a device that tells reading alone

seen_write : {T E : Type 0} (ws : List Write) (base : Image) (k : ℕ) (old new : State) (v : T) → old.seen ≡ put_writes (take k ws) base → k < length ws
    → Writes {E = E} (write_at ws k).0 (write_at ws k).1 old (Ok v) new → new.seen ≡ put_writes (take (k + 1) ws) base
seen_write ws base k old new v seen lt w =
    let more : take (k + 1) ws ≡ take k ws ++ write_at ws k ∷ [] = take_more ws k (0, []) lt in
    w.seen ∙ ap (λ (i : Image). slice_set i (write_at ws k).0 (write_at ws k).1) seen ∙ sym (put_both (take k ws) (write_at ws k ∷ []) base) ∙ ap (λ (l : List Write). put_writes l base) (sym more)

pub reads_write : {T E : Type 0} (w : Progress) (base : Image) (old new : State) (v : T) → ReadsAs w base old → w.done < length (under_way w)
    → Writes {E = E} (write_at (under_way w) w.done).0 (write_at (under_way w) w.done).1 old (Ok v) new → ReadsAs (record w { done = w.done + 1 }) base new
reads_write w base old new v reads lt wrote = record {
  image = subst (λ (n : ℕ). IsImage n base) (sym wrote.goes.blocks) reads.image;
  seen = seen_write (under_way w) (base_of w.plan base w.part) w.done old new v reads.seen lt wrote;
}

pub reads_sync : {T E : Type 0} (w : Progress) (base : Image) (old new : State) (v : T) → ReadsAs w base old → length (under_way w) ≤ w.done
    → Syncs {E = E} old (Ok v) new → ReadsAs (record w { part = w.part + 1; done = 0 }) base new
reads_sync w base old new v reads all synced =
    let more : suc w.part ≡ w.part + 1 = omega arith in
    let next : base_of w.plan base (suc w.part) ≡ base_of w.plan base (w.part + 1) = ap (base_of w.plan base) more in
    record {
      image = subst (λ (n : ℕ). IsImage n base) (sym synced.goes.blocks) reads.image;
      seen = synced.seen ∙ reads.seen ∙ ap (λ (l : List Write). put_writes l (base_of w.plan base w.part)) (take_all w.done (under_way w) all) ∙ next;
    }

-- a read between two steps leaves it as it is
pub reads_read : (w : Progress) (base : Image) (old new : State) → ReadsAs w base old → Goes old new → new.seen ≡ old.seen → ReadsAs w base new
reads_read w base old new reads goes seen = record {
  image = subst (λ (n : ℕ). IsImage n base) (sym goes.blocks) reads.image;
  seen = seen ∙ reads.seen;
}
