-- What a crash leaves, carried on from step to step.
use Rattle.std.proofs.Common.{◌≡◌, inl, inr, ⊎_elim, ℕ, ◌+◌, ◌<◌, ◌≤◌, List, [], ◌∷◌, Option, Some, None, refl, sym, ◌∙◌, ap, subst, arith, nat_le}
use Rattle.std.proofs.lemmas.Bool.{cases_eq, cases_lt, cond-true, cond-false, le-leb, lt-leb}
use Rattle.r4_base.specs.Image.{Image}
use Rattle.r4_base.specs.Value.{Content}
use Rattle.r4_content.specs.Locality.{Meaning}
use Rattle.r4_content.specs.declared.command.Command.{Command}
use Rattle.r4_content.specs.declared.reply.Reply.{Reply}
use Rattle.r4_outside.specs.Device.{State, Leaves, TellsCrashes}
use Rattle.r4_outside.proofs.Moments.{left_before}
use Rattle.r4_base.specs.declared.things.AtomNo.{AtomNo}
use Rattle.r4_trace.specs.declared.entry.Entry.{Entry}
use Rattle.r4_trace.specs.declared.entry.Entry.TheVariants.{Committed, Sealed}
use Rattle.r4_trace.specs.Traced.{latest, sealed_in, committed_in, committed_by}
use Rattle.r4_trace.specs.Folds.{after_first}
use Rattle.r4_trace.specs.Order.{IsOrdered}
use Rattle.r4_trace.specs.Safe.{AddsNothing, CommitStep, HasFirst, HasNow, Found, Holds, IsCrashSafe, IsNoCommit, IsSafeFrom, Moments, Step}
use Rattle.r4_trace.proofs.FirstOnes.{acked_first, first_ended, sealed_counts, committed_by_le, all_by}
use Rattle.r4_trace.proofs.Folded.{after_stays, replies_stay}

module _ (means : Image → Content → Type 0) (w : Meaning Command Reply) (x : Content) where
  pub has_push : (older : List Entry) (e : Entry) (k : ℕ) (image : Image) → IsOrdered (e ∷ older)
      → k ≤ sealed_in older → HasFirst means w x older k image → HasFirst means w x (e ∷ older) k image
  has_push older e k image legal le h = record {
    content = subst (means image) (sym (after_stays w x older e k legal le)) h.content;
    replies = replies_stay w x older e k legal le h.replies;
  }

  -- one entry more
  pub found_push : (older : List Entry) (e : Entry) (m : ℕ) (image : Image) → IsOrdered (e ∷ older)
      → committed_by m (e ∷ older) ≡ committed_by m older → sealed_in older ≤ sealed_in (e ∷ older)
      → Found means w x older m image → Found means w x (e ∷ older) m image
  found_push older e m image legal same more f = record {
    k = f.k;
    at_least = omega (arith, f.at_least, same);
    at_most = omega (arith, f.at_most, same);
    in_sealed = omega (arith, f.in_sealed, more);
    has = has_push older e f.k image legal f.in_sealed f.has;
  }

  -- at a moment that no clock is above, the committed ones or one more that is sealed
  pub found_now : (trace : List Entry) (m k : ℕ) (image : Image) → IsOrdered trace → latest trace ≤ m
      → committed_in trace ≤ k → k ≤ committed_in trace + 1 → k ≤ sealed_in trace
      → HasFirst means w x trace k image → Found means w x trace m image
  found_now trace m k image legal time least most inside h =
      let all_count = all_by trace m legal time in
      record {
        k = k;
        at_least = omega (arith, all_count, least);
        at_most = omega
            (arith, all_count, most);
        in_sealed = inside;
        has = h;
      }

  pub found_of : (trace : List Entry) (m : ℕ) (image : Image) → IsOrdered trace → latest trace ≤ m
      → HasNow means w x trace image → Found means w x trace m image
  found_of trace m image legal time h = found_now trace m h.k image legal time h.at_least h.at_most h.in_sealed h.has

  -- a Committed entry counts from its clock on
  later_counts : (older : List Entry) (a : AtomNo) (c m : ℕ) → m < c
      → committed_by m (Committed a c ∷ older) ≡ committed_by m older
  later_counts older a c m lt =
      cond-false (nat_le c m) (committed_by m older + 1) (committed_by m older) (lt-leb c m lt)

  pub found_committed : (older : List Entry) (a : AtomNo) (c : ℕ) (image : Image)
      → IsOrdered (Committed a c ∷ older) → HasFirst means w x older (committed_in older + 1) image
      → Found means w x (Committed a c ∷ older) c image
  found_committed older a c image legal h =
      let all_count = all_by older c legal.2 legal.0.2 in
      let one_more =
      cond-true (nat_le c c) (committed_by c older + 1) (committed_by c older) (le-leb c c (omega arith)) in
      record {
        k = committed_in older + 1;
        at_least = omega (arith, all_count, one_more);
        at_most = omega (arith, all_count, one_more);
        in_sealed = omega (arith, legal.0.1);
        has = has_push older (Committed a c) (committed_in older + 1) image legal (omega (arith, legal.0.1)) h;
      }

  -- An atom without cells: what the atoms before it made, it made too.
  pub found_empty : (older : List Entry) (a : AtomNo) (c m : ℕ) (image : Image)
      → IsOrdered (Committed a c ∷ older) → c ≤ m
      → AddsNothing w x older → Found means w x older m image → Found means w x (Committed a c ∷ older) m image
  found_empty older a c m image legal le h f =
      let all_count = all_by older m legal.2 (omega (arith, legal.0.2, le)) in
      let one_more = cond-true (nat_le c m) (committed_by m older + 1) (committed_by m older) (le-leb c m le) in
      record {
        k = committed_in older + 1;
        at_least = omega (arith, all_count, one_more);
        at_most = omega (arith, all_count, one_more);
        in_sealed = omega (arith, legal.0.1);
        has = has_push older (Committed a c) (committed_in older + 1) image legal (omega (arith, legal.0.1)) (record {
          content = elim (cases_eq f.k (committed_in older)) [
            | inl is ↦ subst (means image) (ap (after_first w x older) is ∙ sym h.same) f.has.content
            | inr other ↦ let is : f.k ≡ committed_in older + 1 =
                omega (arith, f.at_least, f.at_most, all_count, other) in
                subst (λ (k : ℕ). means image (after_first w x older k)) is f.has.content
          ];
          replies = h.replies;
        });
      }

  -- ---- moments

  -- the start of a run
  pub safe_start : (d : State) → ((image : Image) → Leaves d d.clock image → means image x)
      → IsSafeFrom means w x d.clock [] d
  safe_start d has = record {
    each = λ m image lo hi left. record {
      k = 0;
      at_least = omega arith;
      at_most = omega arith;
      in_sealed = omega arith;
      has = record {
        content =
            let is : m ≡ d.clock = omega (arith, lo, hi) in
            has image (subst (λ (n : ℕ). Leaves d n image) is left);
        replies = tt;
      };
    };
  }

  -- what is found at earlier moments is found there, at moments within the step, and now
  pub moments : (t : ℕ) (d d' : State) (older trace : List Entry) → Moments means w x older trace d d'
      → IsSafeFrom means w x t older d → IsSafeFrom means w x t trace d'
  moments t d d' older trace h s = record {
    each = λ m image lo hi left. elim (cases_lt d.clock m) [
      | inr earlier ↦
          h.before m image earlier (s.each m image lo earlier (left_before d d' m image h.goes earlier left))
      | inl later ↦ elim (cases_lt m d'.clock) [
        | inl inside ↦ h.within m image later inside left
        | inr last ↦
            let is : d'.clock ≡ m = omega (arith, hi, last) in
            subst (λ (n : ℕ). Found means w x trace n image) is
            (h.now image (omega (arith, is, later)) (subst (λ (n : ℕ). Leaves d' n image) (sym is) left))
      ]
    ];
  }

  -- what an entry that makes no atom durable leaves as it is
  same_by : (older : List Entry) (e : Entry) (m : ℕ) → IsNoCommit e
      → committed_by m (e ∷ older) ≡ committed_by m older
  same_by older (Committed a c) m none = absurd none
  same_by older e m none = refl

  more_sealed : (older : List Entry) (e : Entry) → sealed_in older ≤ sealed_in (e ∷ older)
  more_sealed older (Sealed a) = omega arith
  more_sealed older e = omega arith

  -- an entry that is not Committed, and no call of the device
  pub safe_push : (t : ℕ) (d : State) (older : List Entry) (e : Entry) → IsOrdered (e ∷ older) → IsNoCommit e
      → IsSafeFrom means w x t older d → IsSafeFrom means w x t (e ∷ older) d
  safe_push t d older e legal none s = record {
    each = λ m image lo hi left.
        found_push older e m image legal (same_by older e m none) (more_sealed older e) (s.each m image lo hi left);
  }

  -- what a crash leaves within a step, and at its end
  within_step : (d d' : State) (trace : List Entry) (m : ℕ) (image : Image) → Step means w x trace d d'
      → d.clock < m → m ≤ d'.clock → Leaves d' m image → Found means w x trace m image
  within_step d d' trace m image h lo hi left =
      found_of trace m image h.ordered (omega (arith, h.time, lo))
      (h.leaves.each m image (omega (arith, lo)) hi left)

  -- calls of the device, and no entry
  pub safe_step : (t : ℕ) (d d' : State) (trace : List Entry) → Step means w x trace d d'
      → IsSafeFrom means w x t trace d → IsSafeFrom means w x t trace d'
  safe_step t d d' trace h s = moments t d d' trace trace (record {
    goes = h.goes;
    before = λ m image le f. f;
    within = λ m image lo hi left. within_step d d' trace m image h lo (omega (arith, hi)) left;
    now = λ image lo left. within_step d d' trace d'.clock image h lo (omega arith) left;
  }) s

  -- calls of the device, the last of which made the sealed atom durable, and its Committed entry with the clock now
  pub safe_committed : (t : ℕ) (d d' : State) (older : List Entry) (a : AtomNo) → CommitStep means w x older a d d'
      → IsSafeFrom means w x t older d → IsSafeFrom means w x t (Committed a d'.clock ∷ older) d'
  safe_committed t d d' older a h s = moments t d d' older (Committed a d'.clock ∷ older) (record {
    goes = h.step.goes;
    before = λ m image le f.
        found_push older (Committed a d'.clock) m image h.ordered
        (later_counts older a d'.clock m (omega (arith, le, h.rose))) (omega arith) f;
    within = λ m image lo hi left.
        found_push older (Committed a d'.clock) m image h.ordered (later_counts older a d'.clock m hi) (omega arith)
        (within_step d d' older m image h.step lo (omega (arith, hi)) left);
    now = λ image lo left. found_committed older a d'.clock image h.ordered (h.durable image left);
  }) s

  -- the Committed entry of an atom that changed nothing, and no call of the device
  pub safe_empty : (t : ℕ) (d : State) (older : List Entry) (a : AtomNo) → IsOrdered (Committed a d.clock ∷ older)
      → AddsNothing w x older
      → IsSafeFrom means w x t older d → IsSafeFrom means w x t (Committed a d.clock ∷ older) d
  safe_empty t d older a legal h s = record {
    each = λ m image lo hi left. elim (cases_lt m d.clock) [
      | inl early ↦
          found_push older (Committed a d.clock) m image legal (later_counts older a d.clock m early) (omega arith)
          (s.each m image lo hi left)
      | inr late ↦ found_empty older a d.clock m image legal late h (s.each m image lo hi left)
    ];
  }

-- From a named start and clock, and order, to what is promised whether or not they are named.
module _ (means : Image → Content → Type 0) (w : Meaning Command Reply) (start : Option Content)
    (clock : Option ℕ) (trace : List Entry) (legal : IsOrdered trace) where
  with_k : (m k : ℕ) (image : Image) → committed_by m trace ≤ k → k ≤ committed_by m trace + 1 → k ≤ sealed_in trace
      → ((x : Content) (t : ℕ) → start ≡ Some x → clock ≡ Some t → t ≤ m → HasFirst means w x trace k image)
      → Holds means w start clock trace m image
  with_k m k image least most inside has = record {
    k = k;
    at_least = least;
    at_most = most;
    in_sealed = inside;
    acked = λ t h. acked_first trace m k t legal least h;
    ended = λ t s h is. first_ended trace k t s legal h is;
    has = has;
  }

  -- where no start or no clock is named, or before it, as many as are committed
  pub without : (m : ℕ) (image : Image) → ((x : Content) (t : ℕ) → start ≡ Some x → clock ≡ Some t → t ≤ m → ⊥)
      → Holds means w start clock trace m image
  without m image none =
      let le = committed_by_le m trace in
      let few : committed_in trace ≤ sealed_in trace =
      ⊎_elim (λ is. omega (arith, is)) (λ is. omega (arith, is)) (sealed_counts trace legal) in
      with_k m (committed_by m trace) image (omega arith) (omega arith) (omega (arith, le, few))
      (λ x t is at before. absurd (none x t is at before))

  pub holds_from : (m : ℕ) (image : Image)
      → ((x : Content) (t : ℕ) → start ≡ Some x → clock ≡ Some t → t ≤ m → Found means w x trace m image)
      → Holds means w start clock trace m image
  holds_from m image found = by_names start clock refl refl
    where
      by_names : (o : Option Content) (q : Option ℕ) → start ≡ o → clock ≡ q → Holds means w start clock trace m image
      by_names None q is at = without m image (λ x t si ct before. absurd (cc (is, si)))
      by_names (Some x) None is at = without m image (λ y t si ct before. absurd (cc (at, ct)))
      by_names (Some x) (Some t) is at = elim (cases_lt m t) [
        | inl early ↦
            without m image
            (λ y u si ct before. (let same : t ≡ u = cc (at, ct) in absurd (omega (arith, early, before, same))))
        | inr late ↦ let f = found x t is at late in
            with_k m f.k image f.at_least f.at_most f.in_sealed
            (λ y u si ct before.
            (let same : x ≡ y = cc (is, si) in
            subst (λ (z : Content). HasFirst means w z trace f.k image) same f.has))
      ]

  pub crash_safe : (d : State)
      → (TellsCrashes d → (x : Content) (t : ℕ) → start ≡ Some x → clock ≡ Some t
      → IsSafeFrom means w x t trace d) → IsCrashSafe means w start clock trace d
  crash_safe d named =
      record {
        each = λ tells m image hi left. holds_from m image
            (λ x t is at lo. (named tells x t is at).each m image lo hi left);
      }
