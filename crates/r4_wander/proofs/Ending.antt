-- How a commit begins and ends.
use Rattle.std.proofs.Common.{◌≡◌, inl, ℕ, ◌≤◌, List, [], ◌∷◌, take, sym, ◌∙◌, ap, subst, arith, length}
use Rattle.std.proofs.lemmas.List.{take_all}
use Rattle.r4_base.specs.Image.{Image, block_at, sector}
use Rattle.r4_base.specs.Chain.{Txn, HasLog}
use Rattle.r4_outside.specs.Device.{State, IsQuiet, TellsReads}
use Rattle.r4_wander.specs.Torn.{IsTornBy, Write, put_writes}
use Rattle.r4_wander.specs.Parts.{Parts, part, base_of, IsOrderOf, HasHomes}
use Rattle.r4_wander.specs.declared.plan.LogPlan.{LogPlan}
use Rattle.r4_wander.specs.LogPlan.{parts_of, txn_of}
use Rattle.r4_wander.specs.Safe.{IsSafe, IsEncoded, ByPart, WithAtom}
use Rattle.r4_wander.specs.Progress.{Progress, under_way, HasMade, ReadsAs, Stands, Commits, EndsQuiet}
use Rattle.r4_wander.proofs.Settling.{log2, log4, settles_by_part}
use Rattle.r4_wander.proofs.Order.{base_order, torn_order}
use Rattle.r4_wander.proofs.Encoding.{is_commit, by_part}
use Rattle.r4_wander.proofs.Standing.{begins, is_quiet, settles_now, homes_differ}

-- the same writes leave the same, in whatever order each part makes them
module _ (n : ℕ) (base : Image) (chain : List Txn) (p : LogPlan) (plan : Parts) (safe : IsSafe n base chain p) (order : IsOrderOf (parts_of p) plan) where
  pub same_base : (i : ℕ) → base_of plan base i ≡ base_of (parts_of p) base i
  same_base i = base_order (parts_of p) plan order safe.different (homes_differ n base chain p safe) base i

  pub any_order : (i : ℕ) (image : Image) → IsTornBy (part plan i) (base_of plan base i) image → IsTornBy (part (parts_of p) i) (base_of (parts_of p) base i) image
  any_order i image t = torn_order (parts_of p) plan order safe.different (homes_differ n base chain p safe) base i image t

  module _ (code : IsEncoded p) where
    pub settles_by : (i : ℕ) (image : Image) → i ≤ 4 → (2 ≤ i → HasHomes n base chain (txn_of p) (parts_of p)) → IsTornBy (part plan i) (base_of plan base i) image → ByPart n base chain p i image
    settles_by i image lt fin t = by_part n base chain p safe code i image (settles_by_part n base chain (txn_of p) (parts_of p) (is_commit n base chain p safe code) i image lt fin (any_order i image t))

    pub logged : HasLog n (base_of plan base 2) (txn_of p ∷ chain)
    logged = subst (λ (i : Image). HasLog n i (txn_of p ∷ chain)) (sym (same_base 2)) (log2 n base chain (txn_of p) (parts_of p) (is_commit n base chain p safe code))

    pub footed : HasHomes n base chain (txn_of p) (parts_of p) → HasLog n (base_of plan base 4) []
    footed fin = subst (λ (i : Image). HasLog n i []) (sym (same_base 4)) (log4 n base chain (txn_of p) (parts_of p) (is_commit n base chain p safe code) fin)

-- a quiet device and a writer at its beginning
pub stands_first : (w : Progress) (d : State) → IsQuiet d → w.part ≡ 0 → w.done ≡ 0 → Stands w d.seen d
stands_first w d quiet first none = subst (λ (i : ℕ). HasMade (part w.plan i) (base_of w.plan d.seen i) w.done d) (sym first) (subst (λ (k : ℕ). HasMade (part w.plan 0) d.seen k d) (sym none) (begins (part w.plan 0) d quiet))

-- where a part has just begun the device is quiet
pub quiet_between : (w : Progress) (base : Image) (d : State) → w.done ≡ 0 → Stands w base d → IsQuiet d
quiet_between w base d none made = is_quiet (under_way w) (base_of w.plan base w.part) d (subst (λ (k : ℕ). HasMade (under_way w) (base_of w.plan base w.part) k d) none made)

-- after the last part
pub ends : (w : Progress) (n : ℕ) (base : Image) (chain : List Txn) (p : LogPlan) (d : State) → Commits w n base chain p → w.part ≡ 4 → w.done ≡ 0 → Stands w base d → EndsQuiet n base chain p d
ends w n base chain p d c last none made =
    let here : HasMade [] (base_of w.plan base 4) 0 d = subst (λ (i : ℕ). HasMade (part w.plan i) (base_of w.plan base i) 0 d) last (subst (λ (k : ℕ). HasMade (under_way w) (base_of w.plan base w.part) k d) none made) in
    let now = settles_now w n base chain p d (omega (arith, last)) c made in
    record {
      quiet = quiet_between w base d none made;
      log = subst (λ (i : Image). HasLog n i []) (sym here.seen) (footed n base chain p w.plan c.safe c.order c.encoded (c.homes (omega (arith, last))));
      settles = subst (λ (i : ℕ). ByPart n base chain p i d.seen) last (now.each d.clock d.seen (omega arith) (omega arith) made.tells);
    }

-- ---- on a device that tells what reading gives

pub reads_first : (w : Progress) (d : State) → TellsReads d → w.part ≡ 0 → w.done ≡ 0 → ReadsAs w d.seen d
reads_first w d told first none = record {
  image = told;
  seen = sym (ap (λ (k : ℕ). put_writes (take k (part w.plan w.part)) (base_of w.plan d.seen w.part)) none ∙ ap (λ (i : ℕ). put_writes (take 0 (part w.plan i)) (base_of w.plan d.seen i)) first);
}

pub ends_reading : (w : Progress) (n : ℕ) (base : Image) (chain : List Txn) (p : LogPlan) (d : State) → TellsReads d → Commits w n base chain p → w.part ≡ 4 → ReadsAs w base d → HasLog n d.seen [] × WithAtom n base chain p d.seen
ends_reading w n base chain p d told c last reads =
    let at_end : d.seen ≡ base_of w.plan base 4 =
    reads.seen ∙ ap (λ (i : ℕ). put_writes (take w.done (part w.plan i)) (base_of w.plan base i)) last ∙ ap (λ (ws : List Write). put_writes ws (base_of w.plan base 4)) (take_all w.done (part w.plan 4) (omega arith)) in
    let torn : IsTornBy (part w.plan 4) (base_of w.plan base 4) d.seen = record {
      blocks = ap (λ (i : Image). length i) at_end;
      whole = λ b lt. told.whole b (omega (arith, lt, told.blocks, ap (λ (i : Image). length i) at_end));
      sectors = λ b s lt ls. inl (ap (λ (i : Image). sector (block_at i b) s) at_end);
    } in (
      subst (λ (i : Image). HasLog n i []) (sym at_end) (footed n base chain p w.plan c.safe c.order c.encoded (c.homes (omega (arith, last)))),
      settles_by n base chain p w.plan c.safe c.order c.encoded 4 d.seen (omega arith) (λ le. c.homes (omega (arith, last))) torn,
    )
