-- What the first atoms made, in ordered traces.
use Rattle.std.proofs.Common.{◌≡◌, inr, ℕ, ◌≤◌, Bool, true, true≢false, cond, List, [], ◌∷◌, refl, sym, ◌∙◌, ap}
use Rattle.std.proofs.lemmas.Bool.{cond-true, cond-false}
use Rattle.r4_base.specs.Value.{Content}
use Rattle.r4_content.specs.Locality.{Meaning}
use Rattle.r4_content.specs.declared.command.Command.{Command}
use Rattle.r4_content.specs.declared.reply.Reply.{Reply}
use Rattle.r4_trace.specs.declared.entry.Entry.{Entry}
use Rattle.r4_trace.specs.declared.entry.Entry.TheVariants.{Begin, Fuse, Done, Sealed}
use Rattle.r4_trace.specs.Traced.{sealed_in, atom_in, IsBegun, is_first}
use Rattle.r4_trace.specs.Folds.{content_of, everything, HasItsReplies, after_first, HasFirstReplies}
use Rattle.r4_trace.specs.Order.{IsOrdered}
use Rattle.r4_trace.proofs.FirstOnes.{not_first, open_unsealed, first_stays}

module _ (w : Meaning Command Reply) (x : Content) where
  -- a fold depends on the chosen ones alone
  pub content_same : (f g : ℕ → Bool) (trace : List Entry) → ((t : ℕ) → f t ≡ g t)
      → content_of w x f trace ≡ content_of w x g trace
  content_same f g [] same = refl
  content_same f g (Done t s i c r ∷ older) same =
      let below = content_same f g older same in
      ap (λ (b : Bool). cond b (w.after c (content_of w x f older)) (content_of w x f older)) (same t.0)
      ∙ ap (λ (y : Content). cond (g t.0) (w.after c y) y) below
  content_same f g (e ∷ older) same = content_same f g older same

  pub replies_same : (f g : ℕ → Bool) (trace : List Entry) → ((t : ℕ) → f t ≡ g t) → HasItsReplies w x f trace
      → HasItsReplies w x g trace
  replies_same f g [] same h = tt
  replies_same f g (Done t s i c r ∷ older) same h =
      (λ is. h.0 (same t.0 ∙ is) ∙ ap (w.reply c) (content_same f g older same), replies_same f g older same h.1)
  replies_same f g (e ∷ older) same h = replies_same f g older same h

  -- what the first k made stays, whatever follows
  pub after_stays : (older : List Entry) (e : Entry) (k : ℕ) → IsOrdered (e ∷ older) → k ≤ sealed_in older
      → after_first w x (e ∷ older) k ≡ after_first w x older k
  after_stays older (Done t s i c r) k legal le =
      cond-false (is_first older k t.0) (w.after c (after_first w x older k)) (after_first w x older k)
      (not_first older k (atom_in older t.0) (open_unsealed older t.0 s.0 legal.2 legal.0))
  after_stays older (Fuse a b n) k legal le =
      content_same (is_first (Fuse a b n ∷ older) k) (is_first older k) older
      (λ t. first_stays older (Fuse a b n) k t legal le)
  after_stays older (Sealed a) k legal le =
      content_same (is_first (Sealed a ∷ older) k) (is_first older k) older
      (λ t. first_stays older (Sealed a) k t legal le)
  after_stays older e k legal le = refl

  pub replies_stay : (older : List Entry) (e : Entry) (k : ℕ) → IsOrdered (e ∷ older) → k ≤ sealed_in older
      → HasFirstReplies w x older k → HasFirstReplies w x (e ∷ older) k
  replies_stay older (Done t s i c r) k legal le h = (
    λ is. absurd
        (true≢false
        (sym is ∙ not_first older k (atom_in older t.0) (open_unsealed older t.0 s.0 legal.2 legal.0))),
    h,
  )
  replies_stay older (Fuse a b n) k legal le h =
      replies_same (is_first older k) (is_first (Fuse a b n ∷ older) k) older
      (λ t. sym (first_stays older (Fuse a b n) k t legal le)) h
  replies_stay older (Sealed a) k legal le h =
      replies_same (is_first older k) (is_first (Sealed a ∷ older) k) older
      (λ t. sym (first_stays older (Sealed a) k t legal le)) h
  replies_stay older e k legal le h = h

  -- a choice that has all that were begun chooses everything
  pub content_begun : (f : ℕ → Bool) (trace : List Entry) → IsOrdered trace
      → ((t s : ℕ) → IsBegun trace t s → f t ≡ true) → content_of w x f trace ≡ content_of w x everything trace
  content_begun f [] legal every = refl
  content_begun f (Done t s i c r ∷ older) legal every =
      cond-true (f t.0) (w.after c (content_of w x f older)) (content_of w x f older) (every t.0 s.0 legal.0.0)
      ∙ ap (w.after c) (content_begun f older legal.2 every)
  content_begun f (Begin u q ∷ older) legal every = content_begun f older legal.2 (λ t s h. every t s (inr h))
  content_begun f (e ∷ older) legal every = content_begun f older legal.2 every

  pub replies_begun : (f : ℕ → Bool) (trace : List Entry) → IsOrdered trace
      → ((t s : ℕ) → IsBegun trace t s → f t ≡ true)
      → HasItsReplies w x everything trace → HasItsReplies w x f trace
  replies_begun f [] legal every h = tt
  replies_begun f (Done t s i c r ∷ older) legal every h = (
    λ chosen. h.0 refl
        ∙ ap (w.reply c) (sym (content_begun f older legal.2 every)),
    replies_begun f older legal.2 every h.1,
  )
  replies_begun f (Begin u q ∷ older) legal every h = replies_begun f older legal.2 (λ t s b. every t s (inr b)) h
  replies_begun f (e ∷ older) legal every h = replies_begun f older legal.2 every h
