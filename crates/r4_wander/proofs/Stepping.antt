-- Several calls of a writer, one after the other.
use Rattle.std.proofs.Common.{◌≡◌, inl, inr, ℕ, zero, suc, ◌+◌, ◌^◌, ◌<◌, ◌≤◌, true, false, List, [], ◌∷◌, ◌++◌, length, refl, sym, ◌∙◌, ap, subst, arith}
use Rattle.r4_base.specs.Image.{Image}
use Rattle.r4_outside.specs.Device.{State, Goes, LeavesOnly, Spares, Rose, next}
use Rattle.r4_outside.proofs.Moments.{goes_same, goes_both, spares_same, spares_both}
use Rattle.r4_wander.specs.Torn.{Write, IsTarget, IsTornBy}
use Rattle.r4_wander.specs.Parts.{Parts, part, base_of, IsOrderOf}
use Rattle.r4_wander.specs.Progress.{Progress, under_way, FitOn, IsNextCall, IsNext, calls_from, calls_left, Stands, ReadsAs}
use Rattle.std.proofs.lemmas.List.{length-append, length-map}
use Rattle.std.proofs.lemmas.List.FromFn.{length-map-range_with_len}
use Rattle.std.proofs.lemmas.List.Sorted.{length_permutation}
use Rattle.r4_wander.specs.Seen.{Copy, Placed}
use Rattle.r4_wander.specs.LogPlan.{placed_writes, copies, news, record_write, record_writes, head_write, scratch, first, parts_of}
use Rattle.r4_wander.specs.declared.plan.LogPlan.{LogPlan}
use Rattle.r4_wander.proofs.Standing.{leaves_both, left_now}

-- Some writes of the part that was under way were made, and no sync.
pub record Ran (w0 : Progress) (d0 : State) (k : ℕ) (w : Progress) (d : State) : Type 0 where
  pub plan : w.plan ≡ w0.plan
  pub at : w.part ≡ w0.part
  pub done : w.done ≡ w0.done + k
  pub within : 0 < k → w.done ≤ length (under_way w0)
  pub goes : Goes d0 d
  pub clock : d.clock ≡ d0.clock + k
  pub below : 0 < k → d.clock < 2 ^ 64
  pub spares : Spares (IsTarget (under_way w0)) d0 d
  pub stands : (base : Image) → Stands w0 base d0 → Stands w base d
  pub reads : (base : Image) → ReadsAs w0 base d0 → ReadsAs w base d
  pub left : (base : Image) → Stands w0 base d0 → LeavesOnly d0 d (IsTornBy (under_way w0) (base_of w0.plan base w0.part))

pub ran_start : (w : Progress) (d : State) → Ran w d 0 w d
ran_start w d = record {
  plan = refl;
  at = refl;
  done = omega arith;
  within = λ no. absurd (omega (arith, no));
  goes = goes_same d;
  clock = omega arith;
  below = λ no. absurd (omega (arith, no));
  spares = spares_same (IsTarget (under_way w)) d;
  stands = λ base s. s;
  reads = λ base r. r;
  left = λ base s. left_now (under_way w) (base_of w.plan base w.part) w.done d s;
}

-- a part and the next one
calls_part : (plan : Parts) (i : ℕ) → i < 4 → calls_from plan i ≡ calls_from plan (suc i) + length (part plan i) + 1
calls_part plan zero lt = omega arith
calls_part plan (suc zero) lt = omega arith
calls_part plan (suc (suc zero)) lt = omega arith
calls_part plan (suc (suc (suc zero))) lt = omega arith
calls_part plan (suc (suc (suc (suc i)))) lt = absurd (omega (arith, lt))

module _ (w0 : Progress) (d0 : State) (k : ℕ) (w : Progress) (d : State) (ran : Ran w0 d0 k w d) where
  same_part : under_way w ≡ under_way w0
  same_part = ap (λ (q : Parts). part q w.part) ran.plan ∙ ap (part w0.plan) ran.at

  same_base : (base : Image) → base_of w.plan base w.part ≡ base_of w0.plan base w0.part
  same_base base = ap (λ (q : Parts). base_of q base w.part) ran.plan ∙ ap (base_of w0.plan base) ran.at

  same_length : length (under_way w) ≡ length (under_way w0)
  same_length = ap (λ (ws : List Write). length ws) same_part

  pub on_fits : (n : ℕ) → n ≡ d0.blocks → FitOn d0.blocks w0.plan → FitOn n w.plan
  on_fits n same fits = subst (λ (q : Parts). FitOn n q) (sym ran.plan) (subst (λ (m : ℕ). FitOn m w0.plan) (sym same) fits)

  -- one call more
  module _ (d1 : State) (goes : Goes d d1) where
    pub on_goes : Goes d0 d1
    on_goes = goes_both d0 d d1 ran.goes goes

    pub on_cause : Rose d.faults d1.faults → Rose d0.faults d1.faults
    on_cause rose = omega (arith, rose, ran.goes.faults)

    pub on_some : d1.clock ≡ next d.clock → Rose d0.clock d1.clock
    on_some one = omega (arith, one, ran.clock)

    pub on_few : d1.clock ≡ next d.clock → k < 4 → d1.clock ≤ d0.clock + 4
    on_few one lt = omega (arith, one, ran.clock, lt)

    pub on_spares : Spares (IsTarget (under_way w)) d d1 → Spares (IsTarget (under_way w0)) d0 d1
    on_spares one = spares_both (IsTarget (under_way w0)) d0 d d1 ran.spares (subst (λ (ws : List Write). Spares (IsTarget ws) d d1) same_part one) ran.goes goes

    pub on_left : ((base : Image) → Stands w base d → LeavesOnly d d1 (IsTornBy (under_way w) (base_of w.plan base w.part))) → (base : Image) → Stands w0 base d0 → LeavesOnly d0 d1 (IsTornBy (under_way w0) (base_of w0.plan base w0.part))
    on_left one base stands =
        let here = one base (ran.stands base stands) in
        let there : LeavesOnly d d1 (IsTornBy (under_way w0) (base_of w0.plan base w0.part)) =
        subst (λ (i : Image). LeavesOnly d d1 (IsTornBy (under_way w0) i)) (same_base base) (subst (λ (ws : List Write). LeavesOnly d d1 (IsTornBy ws (base_of w.plan base w.part))) same_part here) in
        leaves_both d0 d d1 (IsTornBy (under_way w0) (base_of w0.plan base w0.part)) (ran.left base stands) there goes

    module _ (w1 : Progress) (plan : w1.plan ≡ w.plan) (one : d1.clock ≡ d.clock + 1) where
      pub on_plan : w1.plan ≡ w0.plan
      on_plan = plan ∙ ran.plan

      -- a write
      pub on_write : d1.clock ≡ next d.clock → IsNextCall false w w1 → Spares (IsTarget (under_way w)) d d1 → ((base : Image) → Stands w base d → Stands w1 base d1)
          → ((base : Image) → ReadsAs w base d → ReadsAs w1 base d1)
          → ((base : Image) → Stands w base d → LeavesOnly d d1 (IsTornBy (under_way w) (base_of w.plan base w.part))) → Ran w0 d0 (k + 1) w1 d1
      on_write told step spares stands reads left = record {
        plan = on_plan;
        at = step.1 ∙ ran.at;
        done = omega (arith, step.2, ran.done);
        within = λ some. omega (arith, step.0, step.2, same_length);
        goes = on_goes;
        clock = omega (arith, one, ran.clock);
        below = λ some. omega (arith, told);
        spares = on_spares spares;
        stands = λ base s. stands base (ran.stands base s);
        reads = λ base r. reads base (ran.reads base r);
        left = on_left left;
      }

      -- the clock after the last call
      pub on_clock : d1.clock ≡ next d.clock → k < 4 → (d0.clock + 1 ≤ d1.clock) × (d1.clock ≤ d0.clock + 4) × (d1.clock < 2 ^ 64)
      on_clock told lt = (omega (arith, one, ran.clock), omega (arith, one, ran.clock, lt), omega (arith, told))

      -- the sync
      pub on_next : IsNextCall true w w1 → k < 4 → IsNext w0 w1
      on_next step lt = inr (omega (arith, step.0, ran.done, lt, same_length), omega (arith, step.1, ran.at), step.2)

      pub on_calls : IsNextCall true w w1 → w.done ≤ length (under_way w) → w0.part < 4 → d1.clock + calls_left w1 ≡ d0.clock + calls_left w0
      on_calls step within low =
          let whole = calls_part w0.plan w0.part low in
          let at : w1.part ≡ suc w0.part = omega (arith, step.1, ran.at) in
          let rest : calls_from w1.plan w1.part ≡ calls_from w0.plan (suc w0.part) = ap (λ (q : Parts). calls_from q w1.part) on_plan ∙ ap (calls_from w0.plan) at in
          omega (arith, whole, rest, step.0, step.2, within, one, ran.clock, ran.done, same_length)

  -- after four writes
  pub end_next : k ≡ 4 → IsNext w0 w
  end_next four = inl (omega (arith, four, ran.done, ran.within (omega (arith, four))), ran.at, omega (arith, four, ran.done))

  pub end_clock : k ≡ 4 → (d0.clock + 1 ≤ d.clock) × (d.clock ≤ d0.clock + 4) × (d.clock < 2 ^ 64)
  end_clock four = (omega (arith, four, ran.clock), omega (arith, four, ran.clock), ran.below (omega (arith, four)))

  pub end_calls : k ≡ 4 → w0.part < 4 → d.clock + calls_left w ≡ d0.clock + calls_left w0
  end_calls four low =
      let whole = calls_part w0.plan w0.part low in
      let same : calls_from w.plan w.part ≡ calls_from w0.plan w0.part = ap (λ (q : Parts). calls_from q w.part) ran.plan ∙ ap (calls_from w0.plan) ran.at in
      let within : w.done ≤ length (under_way w0) = ran.within (omega (arith, four)) in
      omega (arith, whole, same, within, ran.clock, ran.done)

-- all calls of a commit
pub all_calls : (p : LogPlan) (plan : Parts) → IsOrderOf (parts_of p) plan → calls_from plan 0 ≡ length p.placed + length p.wandered + length p.records + 1 + 1 + length p.wandered + 1 + 4
all_calls p plan order =
    let firsts : length plan.first ≡ length (first p) = length_permutation (first p) plan.first order.first in
    let homes : length plan.homes ≡ length (news p) = length_permutation (news p) plan.homes order.homes in
    omega (
      arith,
      firsts,
      homes,
      length-append (placed_writes p) (scratch p),
      length-append (copies p) (record_writes p ++ head_write p ∷ []),
      length-append (record_writes p) (head_write p ∷ []),
      length-map {A = Placed} {B = Write} p.placed (λ c. (c.at, c.cell.block)),
      length-map {A = Copy} {B = Write} p.wandered (λ w. (w.copy, w.block)),
      length-map {A = Copy} {B = Write} p.wandered (λ w. (w.original, w.block)),
      length-map-range_with_len {X = Write} (record_write p) 0 (length p.records),
    )
