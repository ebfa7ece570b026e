-- A device and its stop.
use Rattle.std.proofs.Common.{◌≡◌, ◌⊎◌, inl, inr, ⊎_elim, ◌↔◌, ℕ, ◌+◌, ◌-◌, ◌^◌, ◌<◌, ◌≤◌, min, List, [], length, All, slice_set, take, drop, ◌∷◌, true, false, Bool, Option, None, Some, refl, sym, ◌∙◌, ap, subst, arith, Result, Ok, Err, OnOk, OnErr}
use Rattle.std.proofs.lemmas.Bool.{cases_eq, cases_lt, cases_Bool}
use Rattle.std.proofs.lemmas.List.Elements.{All-append, All-take, All-drop, All-cons}
use Rattle.std.specs.Prelude.{insert, is_some}
use Rattle.r4_base.specs.Image.{Image, IsBlock, block_at, sector}
use Rattle.r4_outside.specs.Device.{State, IsQuiet, TellsCrashes, Goes, Counts, Reads, Writes, Syncs, Rose, next}
use Rattle.r4_outside.proofs.Moments.{goes_same, goes_both}
use Rattle.r4_devices.specs.declared.torn.Stop.{Stop}
use Rattle.r4_devices.specs.declared.torn.Held.{Held}
use Rattle.r4_outside.specs.Mix.{is_marked, IsMix}
use Rattle.r4_devices.specs.Picks.{Parts, Changes, put_over, put_back, left_by}
use Rattle.r4_devices.specs.Stop.{stop_state, Begins, HeldAt, Idles, Keeps, Tears, IsStopped, Halts, IsKept, IsHeldFirst, Holds, is_held, is_wanted, after_fault, after_miss, stop_here}
use Rattle.r4_devices.proofs.Changing.{torn_by_none, changes_none, changes_both}

-- The stopped device tells what a crash leaves exactly where the device does.
pub tells_in : (u : ℕ) → (stop : Option Stop) (d : State) → TellsCrashes (stop_state u stop d) → TellsCrashes d
tells_in u stop d t = record { blocks = t.blocks; whole = t.whole; sectors = λ b s lb ls. (t.sectors b s lb ls).0.sectors b s lb ls }

pub tells_before : (u : ℕ) → (d : State) → TellsCrashes d → TellsCrashes (stop_state u None d)
tells_before u d t = record { blocks = t.blocks; whole = t.whole; sectors = λ b s lb ls. (t, t.sectors b s lb ls) }

pub tells_after : (u : ℕ) → (d : State) (s : Stop) → IsStopped d s → TellsCrashes d → TellsCrashes (stop_state u (Some s) d)
tells_after u d s is t = record {
  blocks = t.blocks;
  whole = t.whole;
  sectors = λ b k lb lk. (t, subst (λ (n : ℕ). d.may_hold n b k (sector (block_at d.seen b) k)) (omega (arith, is.clock)) (is.later t d.clock b k _ is.cut (omega arith) lk (t.sectors b k lb lk)));
}

-- Calls after the stop.
module _ (d : State) (s s' : Stop) (is : IsStopped d s) (cut : s'.cut ≡ s.cut) (time : s.clock ≤ s'.clock) (faults : s.faults ≤ s'.faults) where
  pub stopped_on : IsStopped d s'
  stopped_on = record {
    cut = omega (arith, is.cut, cut);
    clock = omega (arith, is.clock, cut, time);
    later = λ t m b k x lo hi lk h. subst (λ (n : ℕ). d.may_hold n b k x) (sym cut) (is.later t m b k x (omega (arith, lo, cut)) hi lk h);
  }

  pub after_goes : (u : ℕ) → Goes (stop_state u (Some s) d) (stop_state u (Some s') d)
  after_goes u = record {
    blocks = refl;
    lender = refl;
    stop = refl;
    reads = (λ t. t, λ t. t);
    crashes = (λ t. tells_after u d s is (tells_in u (Some s') d t), λ t. tells_after u d s' stopped_on (tells_in u (Some s) d t));
    time = time;
    faults = faults;
    earlier = λ m b k x le. (λ h. (h.0, subst (λ (n : ℕ). d.may_hold (min m n) b k x) cut h.1), λ h. (h.0, subst (λ (n : ℕ). d.may_hold (min m n) b k x) (sym cut) h.1));
  }

pub kept_on : (d : State) (s s' : Stop) (until left : ℕ) (starved : Bool) (held : List Held) → IsKept d (Some s) until left starved held → s'.cut ≡ s.cut → s.clock ≤ s'.clock → s.faults ≤ s'.faults → IsKept d (Some s') until left starved held
kept_on d s s' until left starved held kept cut time faults = record {
  stopped = λ z same. subst (IsStopped d) (unsome same) (stopped_on d s s' (kept.stopped s refl) cut time faults);
  blocks_held = λ none. absurd (cc (none));
  count = λ none. absurd (cc (none));
  reached = λ z same full. kept.reached s refl full;
  fits = kept.fits;
}
  where
    unsome : {z : Stop} → Some s' ≡ Some z → s' ≡ z
    unsome {z} same = cc (same)

pub after_counts : (u : ℕ) → {E : Type 0} (d : State) (s s' : Stop) → IsStopped d s → s' ≡ after_fault s → s.faults ≤ s'.faults → (e : E) → Counts (stop_state u (Some s) d) (Err e) (stop_state u (Some s') d)
after_counts u {E} d s s' is f faults e =
    let cut : s'.cut ≡ s.cut = ap (λ (z : Stop). z.cut) f in
    let clock : s'.clock ≡ s.clock = ap (λ (z : Stop). z.clock) f in
    let rose : s'.faults ≡ next s.faults = ap (λ (z : Stop). z.faults) f in
    record { goes = after_goes d s s' is cut (omega (arith, clock)) faults u; count = tt; seen = refl; clock = clock; cause = omega (arith, rose) }

pub after_reads : (u : ℕ) → {T E : Type 0} (at : ℕ) (got : List ℕ) (d : State) (s s' : Stop) → IsStopped d s → s' ≡ after_fault s → s.faults ≤ s'.faults → (e : E) → Reads {T = T} at got (stop_state u (Some s) d) (Err e) (stop_state u (Some s') d)
after_reads u {T} {E} at got d s s' is f faults e =
    let cut : s'.cut ≡ s.cut = ap (λ (z : Stop). z.cut) f in
    let clock : s'.clock ≡ s.clock = ap (λ (z : Stop). z.clock) f in
    let rose : s'.faults ≡ next s.faults = ap (λ (z : Stop). z.faults) f in
    record { goes = after_goes d s s' is cut (omega (arith, clock)) faults u; content = λ t. tt; seen = refl; clock = clock; cause = omega (arith, rose) }

module _ (d : State) (s s' : Stop) (is : IsStopped d s) (f : s' ≡ after_miss s) (time : s.clock ≤ s'.clock) (faults : s.faults ≤ s'.faults) where
  cut_on : s'.cut ≡ s.cut
  cut_on = ap (λ (z : Stop). z.cut) f

  clock_on : s'.clock ≡ next s.clock
  clock_on = ap (λ (z : Stop). z.clock) f

  rose_on : next s.faults ≤ s'.faults
  rose_on = let rose : s'.faults ≡ next s.faults = ap (λ (z : Stop). z.faults) f in omega (arith, rose)

  same : (b k : ℕ) (x : List ℕ) → d.may_hold (min s'.clock s'.cut) b k x → d.may_hold (min s.clock s.cut) b k x
  same b k x h = subst (λ (n : ℕ). d.may_hold n b k x) (omega (arith, is.clock, cut_on, time)) h

  back : (b k : ℕ) (x : List ℕ) → d.may_hold (min s.clock s.cut) b k x → d.may_hold (min s'.clock s'.cut) b k x
  back b k x h = subst (λ (n : ℕ). d.may_hold n b k x) (omega (arith, is.clock, cut_on, time)) h

  pub after_writes : (u : ℕ) → {T E : Type 0} (e : E) (at : ℕ) (block : List ℕ) → Writes {T = T} at block (stop_state u (Some s) d) (Err e) (stop_state u (Some s') d)
  after_writes u {T} {E} e at block = record {
    goes = after_goes d s s' is cut_on time faults u;
    seen = tt;
    clock = clock_on;
    cause = rose_on;
    no_more = λ b k x lk h. inl (h.0, same b k x h.1);
    no_less = λ b k x h. (h.0, back b k x h.1);
    over = λ h. (refl, refl);
  }

  pub after_syncs : (u : ℕ) → {T E : Type 0} (e : E) → Syncs {T = T} (stop_state u (Some s) d) (Err e) (stop_state u (Some s') d)
  after_syncs u {T} {E} e = record {
    goes = after_goes d s s' is cut_on time faults u;
    seen = refl;
    clock = clock_on;
    cause = rose_on;
    durable = tt;
    no_more = λ b k x h. (h.0, same b k x h.1);
    no_less = λ b k x h. (h.0, back b k x h.1);
    over = λ h. refl;
  }

-- Calls before the stop.
pub pass_goes : (u : ℕ) → (old new : State) → Goes old new → Goes (stop_state u None old) (stop_state u None new)
pass_goes u old new g = record {
  blocks = g.blocks;
  lender = g.lender;
  stop = refl;
  reads = g.reads;
  crashes = (λ t. tells_before u old (g.crashes.0 (tells_in u None new t)), λ t. tells_before u new (g.crashes.1 (tells_in u None old t)));
  time = g.time;
  faults = g.faults;
  earlier = λ m b k x le. (λ h. (g.crashes.0 h.0, (g.earlier m b k x le).0 h.1), λ h. (g.crashes.1 h.0, (g.earlier m b k x le).1 h.1));
}

pub pass_writes : (u : ℕ) → {T E : Type 0} (at : ℕ) (block : List ℕ) (old new : State) (r : Result T E) → Writes at block old r new → Writes at block (stop_state u None old) r (stop_state u None new)
pass_writes u {T} {E} at block old new r w = record {
  goes = pass_goes u old new w.goes;
  seen = w.seen;
  clock = w.clock;
  cause = w.cause;
  no_more = λ b k x lk h. ⊎_elim (λ was. inl (w.goes.crashes.0 h.0, was)) inr (w.no_more b k x lk h.1);
  no_less = λ b k x h. (w.goes.crashes.1 h.0, w.no_less b k x h.1);
  over = w.over;
}

-- A call that changes nothing, and then a write.
module _ (old mid : State) (i : Idles old mid) where
  now_mid : (b k : ℕ) (x : List ℕ) → old.may_hold old.clock b k x → mid.may_hold mid.clock b k x
  now_mid b k x h = subst (λ (n : ℕ). mid.may_hold n b k x) (sym i.clock) ((i.goes.earlier old.clock b k x (omega arith)).1 h)

  mid_now : (b k : ℕ) (x : List ℕ) → mid.may_hold mid.clock b k x → old.may_hold old.clock b k x
  mid_now b k x h = (i.goes.earlier old.clock b k x (omega arith)).0 (subst (λ (n : ℕ). mid.may_hold n b k x) i.clock h)

  rose_before : {T E : Type 0} (f : ℕ) (r : Result T E) → OnErr r (next mid.faults ≤ f) → OnErr r (next old.faults ≤ f)
  rose_before f (Ok v) h = tt
  rose_before f (Err e) h = omega (arith, h, i.goes.faults)

  pub idle_writes : {T E : Type 0} (at : ℕ) (block : List ℕ) (new : State) (r : Result T E) → Writes at block mid r new → Writes at block old r new
  idle_writes {T} {E} at block new r w = record {
    goes = goes_both old mid new i.goes w.goes;
    seen = subst (λ (im : Image). OnOk r (new.seen ≡ slice_set im at block)) i.seen w.seen;
    clock = w.clock ∙ ap next i.clock;
    cause = rose_before new.faults r w.cause;
    no_more = λ b k x lk h. ⊎_elim (λ was. inl (mid_now b k x was)) inr (w.no_more b k x lk h);
    no_less = λ b k x h. w.no_less b k x (now_mid b k x h);
    over = λ h. let o = w.over (i.clock ∙ h) in (o.0, o.1 ∙ i.seen);
  }

-- A write that passed, and is said to have failed.
pub fail_writes : {T E : Type 0} (at : ℕ) (block : List ℕ) (old new : State) (r : Result T E) (e : E) → next old.faults ≤ new.faults → Writes at block old r new → Writes {T = T} at block old (Err e) new
fail_writes {T} {E} at block old new r e rose w = record {
  goes = w.goes;
  seen = tt;
  clock = w.clock;
  cause = rose;
  no_more = w.no_more;
  no_less = w.no_less;
  over = λ h. (refl, (w.over h).1);
}

pub idles_read : {T E : Type 0} (at : ℕ) (got : List ℕ) (old new : State) (r : Result T E) → Reads at got old r new → Idles old new
idles_read {T} {E} at got old new r c = record { goes = c.goes; seen = c.seen; clock = c.clock }

-- A sector of a mix is that of the one or that of the other.
either : (mask : ℕ) (x y new : List ℕ) → IsMix mask x y new → (s : ℕ) → s < 8 → ((is_marked mask s ≡ true) × (sector new s ≡ sector x s)) ⊎ (sector new s ≡ sector y s)
either mask x y new mix s ls = elim (cases_Bool (is_marked mask s)) [
  | inl marked ↦ inl (marked, mix.each s ls ∙ rw marked refl)
  | inr other ↦ inr (mix.each s ls ∙ rw other refl)
]

-- A sector that was read is possible.
read_possible : {T E : Type 0} (at : ℕ) (got : List ℕ) (old mid : State) (v : T) → at < old.blocks → TellsCrashes old → Reads {E = E} at got old (Ok v) mid → (k : ℕ) → k < 8 → old.may_hold old.clock at k (sector got k)
read_possible {T} {E} at got old mid v below t c k lk =
    subst (λ (y : List ℕ). old.may_hold old.clock at k (sector y k)) (sym (c.content (record { blocks = t.blocks; whole = t.whole }))) (t.sectors at k below lk)

pub tears_none : (mask at : ℕ) (block : List ℕ) (d : State) → Tears mask at block d d
tears_none mask at block d = record { goes = goes_same d; one = omega arith; no_more = λ t b k x lk h. inl h; no_less = λ b k x h. h }

pub tears_idle : (mask at : ℕ) (block : List ℕ) (old new : State) → Idles old new → Tears mask at block old new
tears_idle mask at block old new i = record { goes = i.goes; one = omega (arith, i.clock); no_more = λ t b k x lk h. inl (mid_now old new i b k x h); no_less = λ b k x h. now_mid old new i b k x h }

pub tears_write : {T E U F : Type 0} (mask at : ℕ) (block got mixed : List ℕ) (old mid new : State) (v : T) (r : Result U F) → at < old.blocks → Reads {E = E} at got old (Ok v) mid → IsMix mask block got mixed → Writes at mixed mid r new → Tears mask at block old new
tears_write {T} {E} {U} {F} mask at block got mixed old mid new v r below c mix w =
    let i : Idles old mid = idles_read at got old mid _ c in
    record {
      goes = goes_both old mid new i.goes w.goes;
      one = omega (arith, w.clock, i.clock);
      no_more = λ t b k x lk h. ⊎_elim (λ was. inl (mid_now old mid i b k x was)) (λ torn. ⊎_elim
          (λ is. inr (torn.0, is.0, torn.1 ∙ is.1))
          (λ is. inl (subst (λ (p : ℕ). old.may_hold old.clock p k x) (sym torn.0) (subst (λ (y : List ℕ). old.may_hold old.clock at k y) (sym (torn.1 ∙ is)) (read_possible at got old mid v below t c k lk))))
          (either mask block got mixed mix k lk)) (w.no_more b k x lk h);
      no_less = λ b k x h. w.no_less b k x (now_mid old mid i b k x h);
    }

-- Putting back.
pub keeps_same : (d : State) → Keeps d d
keeps_same d = record { goes = goes_same d; within = λ t m b k x lo hi lk h. let now : m ≡ d.clock = omega (arith, lo, hi) in subst (λ (n : ℕ). d.may_hold n b k x) now h; no_less = λ b k x h. h }

-- one call that leaves no more than before
keeps_one : (old new : State) → Goes old new → new.clock ≤ old.clock + 1 → (TellsCrashes old → (b k : ℕ) (x : List ℕ) → k < 8 → new.may_hold new.clock b k x → old.may_hold old.clock b k x)
    → ((b k : ℕ) (x : List ℕ) → old.may_hold old.clock b k x → new.may_hold new.clock b k x) → Keeps old new
keeps_one old new goes one more less = record {
  goes = goes;
  within = λ t m b k x lo hi lk h. elim (cases_eq m new.clock) [
    | inl now ↦ more t b k x lk (subst (λ (n : ℕ). new.may_hold n b k x) now h)
    | inr not_now ↦ let was : m ≡ old.clock = omega (arith, lo, hi, one, not_now) in (goes.earlier old.clock b k x (omega arith)).0 (subst (λ (n : ℕ). new.may_hold n b k x) was h)
  ];
  no_less = less;
}

pub keeps_idle : (old new : State) → Idles old new → Keeps old new
keeps_idle old new i = keeps_one old new i.goes (omega (arith, i.clock)) (λ t b k x lk h. mid_now old new i b k x h) (now_mid old new i)

pub keeps_write : {T E U F : Type 0} (mask : ℕ) (held : Held) (got mixed : List ℕ) (old mid new : State) (v : T) (r : Result U F) → HeldAt old held → Reads {E = E} held.at got old (Ok v) mid → IsMix mask held.block got mixed → Writes held.at mixed mid r new → Keeps old new
keeps_write {T} {E} {U} {F} mask held got mixed old mid new v r has c mix w =
    let i : Idles old mid = idles_read held.at got old mid _ c in
    keeps_one old new (goes_both old mid new i.goes w.goes) (omega (arith, w.clock, i.clock))
    (λ t b k x lk h. ⊎_elim (mid_now old mid i b k x) (λ torn. subst (λ (p : ℕ). old.may_hold old.clock p k x) (sym torn.0) (⊎_elim
    (λ is. subst (λ (y : List ℕ). old.may_hold old.clock held.at k y) (sym (torn.1 ∙ is.1)) (has.possible t k lk))
    (λ is. subst (λ (y : List ℕ). old.may_hold old.clock held.at k y) (sym (torn.1 ∙ is)) (read_possible held.at got old mid v has.below t c k lk))
    (either mask held.block got mixed mix k lk))) (w.no_more b k x lk h))
    (λ b k x h. w.no_less b k x (now_mid old mid i b k x h))

pub keeps_both : (a b c : State) → Keeps a b → Keeps b c → Keeps a c
keeps_both a b c f g = record {
  goes = goes_both a b c f.goes g.goes;
  within = λ t m n k x lo hi lk h. elim (cases_lt m b.clock) [
    | inl early ↦ f.within t m n k x lo (omega (arith, early)) lk ((g.goes.earlier m n k x (omega (arith, early))).0 h)
    | inr late ↦ f.within t b.clock n k x f.goes.time (omega arith) lk (g.within (f.goes.crashes.1 t) m n k x late hi lk h)
  ];
  no_less = λ n k x h. g.no_less n k x (f.no_less n k x h);
}

pub held_on : (old new : State) (held : Held) → Goes old new → ((b k : ℕ) (x : List ℕ) → old.may_hold old.clock b k x → new.may_hold new.clock b k x) → HeldAt old held → HeldAt new held
held_on old new held goes less has = record {
  below = omega (arith, has.below, goes.blocks);
  possible = λ t k lk. less held.at k _ (has.possible (goes.crashes.0 t) k lk);
}

-- What is done behind the torn write.
abbrev pub back_by : (tear at : ℕ) → Option ℕ → List Held → Parts → Parts
back_by tear at None held p = p
back_by tear at (Some pick) held p = put_back at tear pick held p

pub record PutsBack (tear at : ℕ) (pick : Option ℕ) (held : List Held) (old new : State) : Type 0 where
  pub keeps : Keeps old new
  pub changes : Changes (back_by tear at pick held) old new

pub nothing_back : (tear at : ℕ) (pick : Option ℕ) (held : List Held) (d : State) → pick ≡ None → PutsBack tear at pick held d d
nothing_back tear at pick held d none = subst (λ (o : Option ℕ). PutsBack tear at o held d d) (sym none) (record { keeps = keeps_same d; changes = changes_none d })

pub some_back : (tear at n : ℕ) (pick : Option ℕ) (held : List Held) (old new : State) → pick ≡ Some n → Keeps old new → Changes (put_back at tear n held) old new → PutsBack tear at pick held old new
some_back tear at n pick held old new is k c = subst (λ (o : Option ℕ). PutsBack tear at o held old new) (sym is) (record { keeps = k; changes = c })

-- The stop's call.
pub halts : (tear at : ℕ) (block : List ℕ) (pick : Option ℕ) (held : List Held) (old mid new : State) (stop : Stop) → Tears tear at block old mid → Keeps mid new → Changes (left_by at block tear pick held) old new → stop.cut ≡ mid.clock → stop.clock ≡ old.clock + 1
    → old.clock < 2 ^ 64 - 1 → stop.faults ≡ next new.faults → new.faults ≤ stop.faults → Halts tear at block pick held old stop new
halts tear at block pick held old mid new stop t k changes cut clock before faults fits =
    let to : (b s : ℕ) (x : List ℕ) → mid.may_hold mid.clock b s x → new.may_hold stop.cut b s x = λ b s x h. subst (λ (n : ℕ). new.may_hold n b s x) (sym cut) ((k.goes.earlier mid.clock b s x (omega arith)).1 h) in
    let from : (b s : ℕ) (x : List ℕ) → new.may_hold stop.cut b s x → mid.may_hold mid.clock b s x = λ b s x h. (k.goes.earlier mid.clock b s x (omega arith)).0 (subst (λ (n : ℕ). new.may_hold n b s x) cut h) in
    record {
      goes = goes_both old mid new t.goes k.goes;
      after = omega (arith, cut, t.goes.time);
      short = omega (arith, cut, t.one, before);
      clock = omega (arith, clock, before);
      faults = faults;
      fits = fits;
      stopped = record {
        cut = omega (arith, cut, k.goes.time);
        clock = omega (arith, cut, clock, t.one);
        later = λ tells m b s x lo hi ls h. to b s x (k.within (k.goes.crashes.0 tells) m b s x (omega (arith, lo, cut)) hi ls h);
      };
      no_more = λ tells b s x ls h. t.no_more tells b s x ls (from b s x h);
      no_less = λ b s x h. to b s x (t.no_less b s x h);
      changes = λ h. changes;
      over = λ h. absurd (omega (arith, h, before));
    }

-- The stop of a call of which nothing is written.
pub stops_here : (d : State) (stop : Stop) → stop ≡ stop_here d → d.clock ≤ stop.clock → IsStopped d stop
stops_here d stop is time =
    let cut : stop.cut ≡ d.clock = ap (λ (z : Stop). z.cut) is in
    record {
      cut = omega (arith, cut);
      clock = omega (arith, cut, time);
      later = λ t m b s x lo hi ls h. let now : m ≡ stop.cut = omega (arith, lo, hi, cut) in subst (λ (n : ℕ). d.may_hold n b s x) now h;
    }

halts_here : (tear at : ℕ) (block : List ℕ) (pick : Option ℕ) (held : List Held) (d : State) (stop : Stop) → stop ≡ stop_here d → d.clock ≤ stop.clock → d.faults ≤ stop.faults → (d.clock < 2 ^ 64 - 1 → Changes (left_by at block tear pick held) d d) → Halts tear at block pick held d stop d
halts_here tear at block pick held d stop is time fits changes =
    let cut : stop.cut ≡ d.clock = ap (λ (z : Stop). z.cut) is in
    let clock : stop.clock ≡ next d.clock = ap (λ (z : Stop). z.clock) is in
    let faults : stop.faults ≡ next d.faults = ap (λ (z : Stop). z.faults) is in
    record {
      goes = goes_same d;
      after = omega (arith, cut);
      short = omega (arith, cut, clock, time);
      clock = clock;
      faults = faults;
      fits = fits;
      stopped = stops_here d stop is time;
      no_more = λ t b s x ls h. inl (subst (λ (n : ℕ). d.may_hold n b s x) cut h);
      no_less = λ b s x h. subst (λ (n : ℕ). d.may_hold n b s x) (sym cut) h;
      changes = changes;
      over = λ h. (refl, refl);
    }

-- at the clock's end
pub halts_over : (tear at : ℕ) (block : List ℕ) (pick : Option ℕ) (held : List Held) (d : State) (stop : Stop) → stop ≡ stop_here d → d.clock ≤ stop.clock → d.faults ≤ stop.faults → d.clock ≡ 2 ^ 64 - 1 → Halts tear at block pick held d stop d
halts_over tear at block pick held d stop is time fits end = halts_here tear at block pick held d stop is time fits (λ h. absurd (omega (arith, h, end)))

-- for want of memory: as a torn write of no sector
pub starves : (at : ℕ) (block : List ℕ) (d : State) (stop : Stop) → stop ≡ stop_here d → d.clock ≤ stop.clock → d.faults ≤ stop.faults → Halts 0 at block None [] d stop d
starves at block d stop is time fits = halts_here 0 at block None [] d stop is time fits (λ h. torn_by_none at block d)

-- What the stop's call is to the stopped device.
pub halt_writes : (u : ℕ) → {T E : Type 0} (tear at : ℕ) (block : List ℕ) (pick : Option ℕ) (held : List Held) (old : State) (stop : Stop) (new : State) (e : E) → Halts tear at block pick held old stop new → Writes {T = T} at block (stop_state u None old) (Err e) (stop_state u (Some stop) new)
halt_writes u {T} {E} tear at block pick held old stop new e h = record {
  goes = record {
    blocks = h.goes.blocks;
    lender = h.goes.lender;
    stop = refl;
    reads = h.goes.reads;
    crashes = (λ t. tells_before u old (h.goes.crashes.0 (tells_in u (Some stop) new t)), λ t. tells_after u new stop h.stopped (h.goes.crashes.1 (tells_in u None old t)));
    time = omega (arith, h.stopped.clock, h.after);
    faults = omega (arith, h.fits, h.goes.faults);
    earlier = λ m b k x le. let is : min m stop.cut ≡ m = omega (arith, le, h.after) in (
      λ p. (h.goes.crashes.0 p.0, (h.goes.earlier m b k x le).0 (subst (λ (n : ℕ). new.may_hold n b k x) is p.1)),
      λ p. (h.goes.crashes.1 p.0, subst (λ (n : ℕ). new.may_hold n b k x) (sym is) ((h.goes.earlier m b k x le).1 p.1)),
    );
  };
  seen = tt;
  clock = h.clock;
  cause = omega (arith, h.faults, h.goes.faults);
  no_more = λ b k x lk p. let t = h.goes.crashes.0 p.0 in ⊎_elim (λ was. inl (t, was)) (λ torn. inr (torn.0, torn.2)) (h.no_more t b k x lk (subst (λ (n : ℕ). new.may_hold n b k x) at_cut p.1));
  no_less = λ b k x p. (h.goes.crashes.1 p.0, subst (λ (n : ℕ). new.may_hold n b k x) (sym at_cut) (h.no_less b k x p.1));
  over = λ o. (refl, (h.over o).0);
}
  where
    at_cut : min stop.clock stop.cut ≡ stop.cut
    at_cut = omega (arith, h.stopped.clock)

-- Where there is no stop yet.
pub pass_writes_as : (u : ℕ) → {T E : Type 0} (at : ℕ) (block : List ℕ) (stop stop' : Option Stop) (old mid new : State) (r : Result T E) → stop ≡ None → stop' ≡ None → mid ≡ old → Writes at block mid r new → Writes at block (stop_state u stop old) r (stop_state u stop' new)
pass_writes_as u {T} {E} at block stop stop' old mid new r none none' is w =
    subst (λ (o : Option Stop). Writes at block (stop_state u o old) r (stop_state u stop' new)) (sym none)
    (subst (λ (o : Option Stop). Writes at block (stop_state u None old) r (stop_state u o new)) (sym none')
    (pass_writes u at block old new r (subst (λ (d : State). Writes at block d r new) is w)))

pub halt_writes_as : (u : ℕ) → {T E : Type 0} (tear at : ℕ) (block : List ℕ) (pick : Option ℕ) (held : List Held) (before : Option Stop) (old mid : State) (stop : Stop) (new : State) (e : E) → before ≡ None → Idles old mid → Halts tear at block pick held mid stop new → Writes {T = T} at block (stop_state u before old) (Err e) (stop_state u (Some stop) new)
halt_writes_as u {T} {E} tear at block pick held before old mid stop new e none i h =
    subst (λ (o : Option Stop). Writes {T = T} {E = E} at block (stop_state u o old) (Err e) (stop_state u (Some stop) new)) (sym none)
    (idle_writes (stop_state u None old) (stop_state u None mid) (record { goes = pass_goes u old mid i.goes; seen = i.seen; clock = i.clock }) at block (stop_state u (Some stop) new) (Err e) (halt_writes u tear at block pick held mid stop new e h))

pub idles_same : (d : State) → Idles d d
idles_same d = record { goes = goes_same d; seen = refl; clock = refl }

pub none_of : (o : Option Stop) → ((s : Stop) → o ≡ Some s → ⊥) → o ≡ None
none_of None h = refl
none_of (Some s) h = absurd (h s refl)

-- ---- reads, where there is no stop yet

pub pass_reads : (u : ℕ) → {T E : Type 0} (at : ℕ) (got : List ℕ) (stop : Option Stop) (old new : State) (r : Result T E) → stop ≡ None → Reads at got old r new → Reads at got (stop_state u stop old) r (stop_state u stop new)
pass_reads u {T} {E} at got stop old new r none c =
    subst (λ (o : Option Stop). Reads at got (stop_state u o old) r (stop_state u o new)) (sym none)
    (record { goes = pass_goes u old new c.goes; content = c.content; seen = c.seen; clock = c.clock; cause = c.cause })

-- ---- what is kept after a call that passes

pub kept_pass : (d e : State) (stop : Option Stop) (until left : ℕ) (starved : Bool) (held : List Held) → stop ≡ None → Idles d e → IsKept d stop until left starved held → IsKept e stop until left starved held
kept_pass d e stop until left starved held none i k = record {
  stopped = λ s same. absurd (let clash : Some s ≡ None = sym same ∙ none in cc (clash));
  blocks_held = λ n. (λ j h lt. held_on d e _ i.goes (now_mid d e i) (k.blocks_held n j h lt));
  count = λ n. let c = k.count n in omega (arith, c, i.clock);
  reached = λ s same full. absurd (let clash : Some s ≡ None = sym same ∙ none in cc (clash));
  fits = k.fits;
}

-- ---- blocks that are held back

-- a block that was read
held_read : {T E : Type 0} (at : ℕ) (got : List ℕ) (old new : State) (v : T) → at < old.blocks → Reads {E = E} at got old (Ok v) new → HeldAt new (record { at = at; block = got })
held_read {T} {E} at got old new v below c =
    held_on old new (record { at = at; block = got }) c.goes (now_mid old new (idles_read at got old new (Ok v) c))
    (record { below = below; possible = λ t k lk. read_possible at got old new v below t c k lk })

pub held_more : {T E : Type 0} (at : ℕ) (got : List ℕ) (old new : State) (v : T) (held after : List Held) (i : ℕ) → at < old.blocks → Reads {E = E} at got old (Ok v) new → All (HeldAt old) held → after ≡ insert held i (record { at = at; block = got }) → All (HeldAt new) after
held_more {T} {E} at got old new v held after i below c all is =
    let idle = idles_read at got old new (Ok v) c in
    let kept : All (HeldAt new) held = (λ j h lt. held_on old new _ c.goes (now_mid old new idle) (all j h lt)) in
    subst (All (HeldAt new)) (sym is)
    (All-append (HeldAt new) (take i held) (record { at = at; block = got } ∷ drop i held) (All-take (HeldAt new) i held kept)
    (All-cons (HeldAt new) (record { at = at; block = got }) (drop i held) (held_read at got old new v below c) (All-drop (HeldAt new) i held kept)))

pub not_wanted : (wanted : Bool) (at : ℕ) (d : State) (held : List Held) → wanted ≡ false → IsHeldFirst wanted at d held held
not_wanted wanted at d held off = record { content = block_at d.seen at; reads = λ t. refl; held = rw off refl }

pub no_pick : (pick : Option ℕ) (at : ℕ) (held : List Held) → is_some pick ≡ false → is_wanted pick at held ≡ false
no_pick None at held none = refl
no_pick (Some n) at held none = absurd (cc (none))

pub held_already : (pick : Option ℕ) (at : ℕ) (held : List Held) → is_held at held ≡ true → is_wanted pick at held ≡ false
held_already None at held has = refl
held_already (Some n) at held has = rw has refl

pub holds_kept : (E : Type 0) (wanted : Bool) (at : ℕ) (old new : State) (before after : List Held) (kept : Bool) → kept ≡ true → Holds {E = E} wanted at old before (Ok kept) after new → IsHeldFirst wanted at old before after
holds_kept E wanted at old new before after true is h = h
holds_kept E wanted at old new before after false is h = absurd (cc (is))

pub holds_unread : (E : Type 0) (wanted : Bool) (at : ℕ) (old new : State) (before after : List Held) (kept : Bool) → kept ≡ false → Holds {E = E} wanted at old before (Ok kept) after new → (wanted ≡ true) × (after ≡ before) × Rose old.faults new.faults
holds_unread E wanted at old new before after false is h = h
holds_unread E wanted at old new before after true is h = absurd (cc (is))

-- the stop's call, with a pick or without
pub halts_if : (tear at : ℕ) (block : List ℕ) (pick : Option ℕ) (held : List Held) (old mid new : State) (stop : Stop) → Tears tear at block old mid → Changes (put_over (is_marked tear) at block) old mid → PutsBack tear at pick held mid new → stop.cut ≡ mid.clock → stop.clock ≡ old.clock + 1
    → old.clock < 2 ^ 64 - 1 → stop.faults ≡ next new.faults → new.faults ≤ stop.faults → Halts tear at block pick held old stop new
halts_if tear at block None held old mid new stop t c b cut clock before faults fits =
    halts tear at block None held old mid new stop t b.keeps (changes_both (put_over (is_marked tear) at block) (λ p. p) old mid new t.goes b.keeps.goes c b.changes) cut clock before faults fits
halts_if tear at block (Some pick) held old mid new stop t c b cut clock before faults fits =
    halts tear at block (Some pick) held old mid new stop t b.keeps (changes_both (put_over (is_marked tear) at block) (put_back at tear pick held) old mid new t.goes b.keeps.goes c b.changes) cut clock before faults fits

-- ---- at the end

pub tells_both : (d : State) (stop : Option Stop) (until left : ℕ) (starved : Bool) (held : List Held) → IsKept d stop until left starved held → TellsCrashes (stop_state until stop d) ↔ TellsCrashes d
tells_both d None until left starved held k = (tells_in until None d, tells_before until d)
tells_both d (Some s) until left starved held k = (tells_in until (Some s) d, tells_after until d s (k.stopped s refl))

-- ---- at the making

module _ (d over : State) (b : Begins d over) where
  pub begins_tells : TellsCrashes d → TellsCrashes over
  begins_tells t = record {
    blocks = subst (λ (i : Image). length i ≡ over.blocks) (sym b.seen) (t.blocks ∙ sym b.blocks);
    whole = λ k lk. subst (λ (i : Image). IsBlock (block_at i k)) (sym b.seen) (t.whole k (omega (arith, lk, b.blocks)));
    sectors = λ k s lk ls. subst (λ (i : Image). over.may_hold over.clock k s (sector (block_at i k) s)) (sym b.seen)
        ((b.may_hold t over.clock k s _).1 (subst (λ (n : ℕ). d.may_hold n k s (sector (block_at d.seen k) s)) (sym b.clock) (t.sectors k s (omega (arith, lk, b.blocks)) ls)));
  }

  pub begins_quiet : IsQuiet d → IsQuiet over
  begins_quiet q = record {
    tells = begins_tells q.tells;
    within = record {
      each = λ k s x lk ls h.
          subst (λ (i : Image). x ≡ sector (block_at i k) s) (sym b.seen)
          (q.within.each k s x (omega (arith, lk, b.blocks)) ls (subst (λ (n : ℕ). d.may_hold n k s x) b.clock ((b.may_hold q.tells over.clock k s x).0 h)));
    };
  }
