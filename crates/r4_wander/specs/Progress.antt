-- Where a writer stands in its commit, and its device with it (docs/commit.md, "Steps").
use Rattle.std.specs.Prelude.{◌≡◌, ◌⊎◌, ℕ, zero, suc, ◌+◌, ◌-◌, ◌<◌, ◌≤◌, List, [], length, take, slice_index_or, All, Bool, true, false}
use Rattle.r4_base.specs.Image.{Image, IsImage, block_at, sector}
use Rattle.r4_base.specs.Chain.{Txn, HasLog}
use Rattle.r4_outside.specs.Device.{State, TellsCrashes, IsQuiet}
use Rattle.r4_wander.specs.Torn.{Write, put_writes, targets, IsWritten}
use Rattle.r4_wander.specs.Parts.{Parts, part, base_of, IsOrderOf, HasHomes}
use Rattle.r4_wander.specs.LogPlan.{parts_of, txn_of}
use Rattle.r4_wander.specs.Safe.{IsSafe, IsEncoded, WithAtom}
use Rattle.r4_wander.specs.declared.plan.LogPlan.{LogPlan}
use Rattle.r4_wander.specs.declared.stage.Stage.{Stage}
use Rattle.r4_wander.specs.declared.stage.Stage.TheVariants.{Copies, Logged, Headed, Homes, Footed}

-- What contracts see of a writer: its four parts, the part that is under way, counted from 0, and how many of its writes are made.
pub record Progress : Type 0 where
  pub plan : Parts
  pub part : ℕ
  pub done : ℕ

-- the writes of the part that is under way
abbrev pub under_way : Progress → List Write
under_way w = part w.plan w.part

-- write k of a list, counted from 0
abbrev pub write_at : List Write → ℕ → Write
write_at ws k = slice_index_or ws k (0, [])

-- every block that is written is below the number of blocks
pub record FitOn (blocks : ℕ) (plan : Parts) : Type 0 where
  pub more : 64 ≤ blocks
  pub first : All (λ b. b < blocks) (targets plan.first)
  pub homes : All (λ b. b < blocks) (targets plan.homes)

-- A call is the next write of the part, or its sync where all its writes are made.
abbrev pub IsNextCall : (synced : Bool) → Progress → Progress → Type 0
IsNextCall false old new = (old.done < length (under_way old)) × (new.part ≡ old.part) × (new.done ≡ old.done + 1)
IsNextCall true old new = (length (under_way old) ≤ old.done) × (new.part ≡ old.part + 1) × (new.done ≡ 0)

-- A step makes four writes of its part, or those that are left of it and its sync.
abbrev pub IsNext : Progress → Progress → Type 0
IsNext old new = ((old.done + 4 ≤ length (under_way old)) × (new.part ≡ old.part) × (new.done ≡ old.done + 4))
    ⊎ ((length (under_way old) < old.done + 4) × (new.part ≡ old.part + 1) × (new.done ≡ 0))

-- what is answered by what is behind
abbrev pub stage_at : ℕ → ℕ → Stage
stage_at zero k = Copies
stage_at (suc zero) k = Logged
stage_at (suc (suc zero)) zero = Headed
stage_at (suc (suc zero)) (suc k) = Homes
stage_at (suc (suc (suc zero))) k = Homes
stage_at (suc (suc (suc (suc i)))) k = Footed

-- the writes and syncs of a part and those behind it: each write once, and one sync for each part
abbrev pub calls_from : Parts → ℕ → ℕ
calls_from plan zero = length plan.first + 1 + (1 + 1) + (length plan.homes + 1) + (1 + 1)
calls_from plan (suc zero) = 1 + 1 + (length plan.homes + 1) + (1 + 1)
calls_from plan (suc (suc zero)) = length plan.homes + 1 + (1 + 1)
calls_from plan (suc (suc (suc zero))) = 1 + 1
calls_from plan (suc (suc (suc (suc i)))) = 0

-- those that are left
abbrev pub calls_left : Progress → ℕ
calls_left w = calls_from w.plan w.part - w.done

-- Of the first k writes a crash may have left any sector, and else there is what the image has.
pub record HasMade (ws : List Write) (base : Image) (k : ℕ) (d : State) : Type 0 where
  pub image : IsImage d.blocks base
  pub tells : TellsCrashes d
  pub seen : d.seen ≡ put_writes (take k ws) base
  pub within : (b s : ℕ) (x : List ℕ) → b < d.blocks → s < 8 → d.may_hold d.clock b s x → (x ≡ sector (block_at base b) s) ⊎ IsWritten (take k ws) b s x

-- The device is where the writer is, in a commit that began on this image.
abbrev pub Stands : Progress → Image → State → Type 0
Stands w base d = HasMade (under_way w) (base_of w.plan base w.part) w.done d

-- Reading gives what the writer has made so far, in a commit that began on this image.
pub record ReadsAs (w : Progress) (base : Image) (d : State) : Type 0 where
  pub image : IsImage d.blocks base
  pub seen : d.seen ≡ put_writes (take w.done (under_way w)) (base_of w.plan base w.part)

-- The writer makes the commit of this plan, which is safe on this image with this chain. From the homes on they have to be those of the whole chain.
pub record Commits (w : Progress) (n : ℕ) (base : Image) (chain : List Txn) (p : LogPlan) : Type 0 where
  pub safe : IsSafe n base chain p
  pub encoded : IsEncoded p
  pub order : IsOrderOf (parts_of p) w.plan
  pub homes : 2 ≤ w.part → HasHomes n base chain (txn_of p) (parts_of p)

-- Nothing is unflushed, what reading gives has the atom's cells, and a crash leaves that and nothing else.
pub record EndsQuiet (n : ℕ) (base : Image) (chain : List Txn) (p : LogPlan) (d : State) : Type 0 where
  pub quiet : IsQuiet d
  pub log : HasLog n d.seen []
  pub settles : WithAtom n base chain p d.seen
