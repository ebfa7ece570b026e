-- A safe plan: one pair, on an image with nothing unflushed.
use Rattle.std.proofs.Common.{◌≡◌, ◌≢◌, ◌⊎◌, inl, inr, ⊎_elim, ℕ, ◌≤◌, ◌<◌, [], ◌∷◌, replicate, refl, sym, arith}
use Rattle.std.specs.Prelude.{Contains}
use Rattle.std.proofs.lemmas.List.Elements.{All-cons, All-nil}
use Rattle.r4_base.specs.Image.{Image, IsImage}
use Rattle.r4_base.specs.Chain.{IsOriginalNumber, committed, flushed}
use Rattle.r4_base.proofs.Members.{no_member}
use Rattle.r4_base.proofs.Choices.{nothing_in}
use Rattle.r4_wander.specs.Torn.{IsTarget}
use Rattle.r4_wander.specs.declared.plan.LogPlan.{LogPlan}
use Rattle.r4_wander.specs.LogPlan.{first, CanBeWritten}
use Rattle.r4_wander.specs.Safe.{IsSafe}
use Rattle.r4_wander.proofs.Members.{any_cases}

-- the pair (17, 24), its record at block 23 and its head at block 22
abbrev pub one_pair : ℕ → LogPlan
one_pair prev = record {
  id = 1;
  prev = record { 0 = prev };
  head = record { 0 = 22 };
  records = 23 ∷ [];
  placed = [];
  wandered = record { original = 17; copy = 24; block = replicate 4096 0 } ∷ [];
  free_blocks = 0;
  nr_files = 0;
  next_oid = 42;
}

pub can_be_written : (prev : ℕ) → CanBeWritten (one_pair prev)
can_be_written prev = record { enough = refl; few = omega arith; named = All-cons (λ (o : ℕ). o ≢ 0) 17 [] (λ is. absurd (omega (arith, is))) (All-nil (λ (o : ℕ). o ≢ 0)) }

three : (prev b : ℕ) → IsTarget (first (one_pair prev)) b → (b ≡ 24) ⊎ ((b ≡ 23) ⊎ (b ≡ 22))
three prev b h = ⊎_elim inl (λ more. ⊎_elim (λ is. inr (inl is)) (λ last. ⊎_elim (λ is. inr (inr is)) (λ no. absurd (nothing_in b no)) (any_cases 22 [] b last)) (any_cases 23 (22 ∷ []) b more)) (any_cases 24 (23 ∷ 22 ∷ []) b h)

one_of : (b : ℕ) → Contains (17 ∷ []) b → b ≡ 17
one_of b h = ⊎_elim (λ is. is) (λ no. absurd (nothing_in b no)) (any_cases 17 [] b h)

pub is_safe : (n : ℕ) (base : Image) → IsImage n base → 64 ≤ n → committed base ≡ flushed base → flushed base ≢ 22 → IsSafe n base [] (one_pair (committed base))
is_safe n base image more even free = record {
  image = image;
  more = omega (arith, more);
  log = record { txns = even; few = omega arith; apart = λ b o k. no_member b o };
  few = omega arith;
  some = omega arith;
  prev = refl;
  fresh = λ is. free (sym is);
  in_range = λ b h. let low : (22 ≤ b) × (b < 25) = ⊎_elim (λ is. (omega (arith, is), omega (arith, is))) (λ m. ⊎_elim (λ is. (omega (arith, is), omega (arith, is))) (λ is. (omega (arith, is), omega (arith, is))) m) (three (committed base) b h) in (low.0, omega (arith, low.1, more));
  different = (
    (λ h. ⊎_elim (λ is. absurd (omega (arith, is))) (λ last. ⊎_elim (λ is. absurd (omega (arith, is))) (λ no. nothing_in 24 no) (any_cases 22 [] 24 last)) (any_cases 23 (22 ∷ []) 24 h)),
    ((λ h. ⊎_elim (λ is. absurd (omega (arith, is))) (λ no. nothing_in 23 no) (any_cases 22 [] 23 h)), ((λ no. nothing_in 22 no), tt)),
  );
  no_original = λ b h o. let is = one_of b o in ⊎_elim (λ e. absurd (omega (arith, e, is))) (λ m. ⊎_elim (λ e. absurd (omega (arith, e, is))) (λ e. absurd (omega (arith, e, is))) m) (three (committed base) b h);
  not_kept = λ b h k. no_member b k;
  no_home = λ b h o. no_member b o;
  originals_range = All-cons (IsOriginalNumber n) 17 [] (inl refl) (All-nil (IsOriginalNumber n));
  originals_differ = ((λ no. nothing_in 17 no), tt);
  originals_apart = λ b o k. no_member b k;
}
