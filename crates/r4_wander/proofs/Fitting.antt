-- A plan whose blocks are below a number.
use Rattle.std.proofs.Common.{◌≡◌, ⊎_elim, ℕ, ◌+◌, ◌≤◌, ◌<◌, List, [], ◌∷◌, ◌++◌, length, get_or, sym, ◌∙◌, subst, arith}
use Rattle.std.specs.Prelude.{Contains, All, slice_index}
use Rattle.std.specs.List.{range_with_len}
use Rattle.std.proofs.lemmas.List.Elements.{All-get_or, Contains-get_or}
use Rattle.std.proofs.lemmas.List.FromFn.{get_or-range_with_len, length-range_with_len}
use Rattle.std.proofs.lemmas.Simd.{map-map}
use Rattle.r4_base.proofs.Choices.{nothing_in}
use Rattle.r4_wander.specs.Seen.{Copy, Placed}
use Rattle.r4_wander.specs.Torn.{Write, targets, IsTarget}
use Rattle.r4_wander.specs.Parts.{Parts, IsOrderOf}
use Rattle.r4_wander.specs.declared.plan.LogPlan.{LogPlan}
use Rattle.r4_wander.specs.LogPlan.{placed_writes, copies, news, record_write, record_writes, head_write, scratch, first, parts_of}
use Rattle.r4_wander.specs.Progress.{FitOn}
use Rattle.r4_wander.specs.LogPlan.{IsBelow}
use Rattle.r4_wander.proofs.Members.{any_cases, from_map}
use Rattle.r4_wander.proofs.Order.{all_of, part_target}
use Rattle.r4_wander.proofs.Encoding.{target_cases, news_are}

all_from : {X : Type 0} (P : X → Type 0) (xs : List X) → ((x : X) → Contains xs x → P x) → All P xs
all_from P xs each = λ k d lt. each (get_or xs k d) (Contains-get_or xs k d lt)

module _ (n : ℕ) (p : LogPlan) (below : IsBelow n p) where
  placed_below : (b : ℕ) → IsTarget (placed_writes p) b → b < n
  placed_below b h =
      let (c, one, at) = from_map (λ (x : Placed). x.at) p.placed b (subst (λ (l : List ℕ). Contains l b) (map-map (λ (u : Write). u.0) (λ (x : Placed). (x.at, x.cell.block)) p.placed) h) in
      let lt : c.at < n = all_of (λ (x : Placed). x.at < n) p.placed c below.placed one in
      omega (arith, lt, at)

  copy_below : (b : ℕ) → IsTarget (copies p) b → b < n
  copy_below b h =
      let (w, one, at) = from_map (λ (x : Copy). x.copy) p.wandered b (subst (λ (l : List ℕ). Contains l b) (map-map (λ (u : Write). u.0) (λ (x : Copy). (x.copy, x.block)) p.wandered) h) in
      let both = all_of (λ (x : Copy). (x.original < n) × (x.copy < n)) p.wandered w below.wandered one in
      omega (arith, both.1, at)

  home_below : (b : ℕ) → IsTarget (news p) b → b < n
  home_below b h =
      let (w, one, at) = from_map (λ (x : Copy). x.original) p.wandered b (subst (λ (l : List ℕ). Contains l b) (news_are p.wandered) h) in
      let both = all_of (λ (x : Copy). (x.original < n) × (x.copy < n)) p.wandered w below.wandered one in
      omega (arith, both.0, at)

  record_below : (b : ℕ) → IsTarget (record_writes p) b → b < n
  record_below b h =
      let blocks : List ℕ = range_with_len 0 (length p.records) in
      let (k, one, at) = from_map (λ (j : ℕ). slice_index p.records j) blocks b (subst (λ (l : List ℕ). Contains l b) (map-map (λ (u : Write). u.0) (record_write p) blocks) h) in
      let inside : one.0 < length p.records = omega (arith, one.1, length-range_with_len 0 (length p.records)) in
      let number : k ≡ 0 + one.0 = sym one.2 ∙ get_or-range_with_len 0 (length p.records) one.0 k inside in
      let lt : slice_index p.records k < n = All-get_or (λ (x : ℕ). x < n) p.records k 0 (omega (arith, inside, number)) below.records in
      omega (arith, lt, at)

  first_below_all : (b : ℕ) → IsTarget (first p) b → b < n
  first_below_all b h = ⊎_elim (placed_below b)
      (λ s. ⊎_elim (copy_below b)
      (λ l. ⊎_elim (record_below b)
      (λ e. ⊎_elim (λ is. omega (arith, is, below.head)) (λ no. absurd (nothing_in b no)) (any_cases p.head.0 [] b e))
      (target_cases (record_writes p) (head_write p ∷ []) b l))
      (target_cases (copies p) (record_writes p ++ head_write p ∷ []) b s))
      (target_cases (placed_writes p) (scratch p) b h)

  pub fits : (plan : Parts) → 64 ≤ n → IsOrderOf (parts_of p) plan → FitOn n plan
  fits plan more order = record {
    more = more;
    first = all_from (λ (b : ℕ). b < n) (targets plan.first) (λ b h. first_below_all b (part_target (parts_of p) plan order 0 b h));
    homes = all_from (λ (b : ℕ). b < n) (targets plan.homes) (λ b h. home_below b (part_target (parts_of p) plan order 2 b h));
  }
