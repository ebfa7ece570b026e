-- Members of lists, and what a chain with one more transaction keeps.
use Rattle.std.proofs.Common.{◌≡◌, ◌⊎◌, inl, inr, ⊎_elim, ℕ, zero, suc, List, [], ◌∷◌, ◌++◌, map, refl, sym, ap, subst, arith}
use Rattle.std.specs.Prelude.{Contains}
use Rattle.std.proofs.lemmas.List.{map-append}
use Rattle.std.proofs.lemmas.List.Elements.{Contains-append_left, Contains-append_right, Contains-append_cases}
use Rattle.r4_base.specs.Chain.{Txn, chain_pairs, originals, wandered, log_blocks, kept_blocks}
use Rattle.r4_base.proofs.Members.{member_cases, member_later}
use Rattle.r4_base.proofs.Choices.{nothing_in}

pub any_cases : {X : Type 0} (x : X) (xs : List X) (b : X) → Contains (x ∷ xs) b → (b ≡ x) ⊎ Contains xs b
any_cases x xs b (zero, lt, is) = inl (sym is)
any_cases x xs b (suc k, lt, is) = inr (k, omega arith, is)

pub any_here : {X : Type 0} (x : X) (xs : List X) (b : X) → b ≡ x → Contains (x ∷ xs) b
any_here x xs b is = (0, omega arith, sym is)

pub any_later : {X : Type 0} (x : X) (xs : List X) (b : X) → Contains xs b → Contains (x ∷ xs) b
any_later x xs b (k, lt, is) = (suc k, omega arith, is)

-- a member of a mapped list comes from a member
pub from_map : {X : Type 0} (f : X → ℕ) (xs : List X) (b : ℕ) → Contains (map f xs) b → (x : X) × Contains xs x × (b ≡ f x)
from_map f [] b h = absurd (nothing_in b h)
from_map f (x ∷ xs) b h = ⊎_elim
    (λ is. (x, any_here x xs x refl, is))
    (λ later. let r = from_map f xs b later in (r.0, any_later x xs r.0 r.1, r.2))
    (any_cases (f x) (map f xs) b h)

pub in_map : {X Y : Type 0} (f : X → Y) (xs : List X) (x : X) → Contains xs x → Contains (map f xs) (f x)
in_map f [] x h = absurd (nothing_in x h)
in_map f (y ∷ ys) x h = ⊎_elim
    (λ is. any_here (f y) (map f ys) (f x) (ap f is))
    (λ later. any_later (f y) (map f ys) (f x) (in_map f ys x later))
    (any_cases y ys x h)

-- ---- a transaction more

module _ (t : Txn) (chain : List Txn) (b : ℕ) where
  seconds : map (λ (p : ℕ × ℕ). p.1) (chain_pairs chain ++ t.pairs) ≡ wandered chain ++ map (λ (p : ℕ × ℕ). p.1) t.pairs
  seconds = map-append (λ (p : ℕ × ℕ). p.1) (chain_pairs chain) t.pairs

  firsts : map (λ (p : ℕ × ℕ). p.0) (chain_pairs chain ++ t.pairs) ≡ originals chain ++ map (λ (p : ℕ × ℕ). p.0) t.pairs
  firsts = map-append (λ (p : ℕ × ℕ). p.0) (chain_pairs chain) t.pairs

  pub original_cases : Contains (originals (t ∷ chain)) b → Contains (originals chain) b ⊎ Contains (map (λ (p : ℕ × ℕ). p.0) t.pairs) b
  original_cases h = Contains-append_cases (originals chain) (map (λ (p : ℕ × ℕ). p.0) t.pairs) b (subst (λ (l : List ℕ). Contains l b) firsts h)

  pub original_new : Contains (map (λ (p : ℕ × ℕ). p.0) t.pairs) b → Contains (originals (t ∷ chain)) b
  original_new h = subst (λ (l : List ℕ). Contains l b) (sym firsts) (Contains-append_right (originals chain) (map (λ (p : ℕ × ℕ). p.0) t.pairs) b h)

  -- an older kept block, the head, a record, a copy
  pub kept_cases : Contains (kept_blocks (t ∷ chain)) b → Contains (kept_blocks chain) b ⊎ ((b ≡ t.head) ⊎ (Contains t.records b ⊎ Contains (map (λ (p : ℕ × ℕ). p.1) t.pairs) b))
  kept_cases h = ⊎_elim
      (λ w. ⊎_elim (λ old. inl (Contains-append_left (wandered chain) (log_blocks chain) b old)) (λ new. inr (inr (inr new)))
      (Contains-append_cases (wandered chain) (map (λ (p : ℕ × ℕ). p.1) t.pairs) b (subst (λ (l : List ℕ). Contains l b) seconds w)))
      (λ l. ⊎_elim (λ is. inr (inl is))
      (λ more. ⊎_elim (λ r. inr (inr (inl r))) (λ old. inl (Contains-append_right (wandered chain) (log_blocks chain) b old)) (Contains-append_cases t.records (log_blocks chain) b more))
      (member_cases t.head (t.records ++ log_blocks chain) b l))
      (Contains-append_cases (wandered (t ∷ chain)) (log_blocks (t ∷ chain)) b h)

  pub log_older : Contains (log_blocks chain) b → Contains (log_blocks (t ∷ chain)) b
  log_older h = member_later t.head (t.records ++ log_blocks chain) b (Contains-append_right t.records (log_blocks chain) b h)

  pub log_record : Contains t.records b → Contains (log_blocks (t ∷ chain)) b
  log_record h = member_later t.head (t.records ++ log_blocks chain) b (Contains-append_left t.records (log_blocks chain) b h)

  pub log_kept : Contains (log_blocks chain) b → Contains (kept_blocks chain) b
  log_kept h = Contains-append_right (wandered chain) (log_blocks chain) b h

  pub kept_older : Contains (kept_blocks chain) b → Contains (kept_blocks (t ∷ chain)) b
  kept_older h = ⊎_elim
      (λ w. Contains-append_left (wandered (t ∷ chain)) (log_blocks (t ∷ chain)) b (subst (λ (l : List ℕ). Contains l b) (sym seconds) (Contains-append_left (wandered chain) (map (λ (p : ℕ × ℕ). p.1) t.pairs) b w)))
      (λ l. Contains-append_right (wandered (t ∷ chain)) (log_blocks (t ∷ chain)) b (log_older l))
      (Contains-append_cases (wandered chain) (log_blocks chain) b h)
