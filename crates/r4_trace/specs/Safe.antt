-- What a crash leaves, in the words of a trace (docs/traces.md). `means image x` says that an image
-- has the content x.
use Rattle.std.specs.Prelude.{◌≡◌, ℕ, ◌+◌, ◌<◌, ◌≤◌, min, true, List, ◌∷◌, Option, Some}
use Rattle.r4_base.specs.Image.{Image}
use Rattle.r4_base.specs.Value.{Content}
use Rattle.r4_base.specs.Volume.{HasVolume, IsLost}
use Rattle.r4_base.specs.declared.things.AtomNo.{AtomNo}
use Rattle.r4_content.specs.Locality.{Meaning}
use Rattle.r4_content.specs.declared.command.Command.{Command}
use Rattle.r4_content.specs.declared.reply.Reply.{Reply}
use Rattle.r4_outside.specs.Device.{State, Goes, Leaves, LeavesOnly, TellsCrashes}
use Rattle.r4_trace.specs.declared.entry.Entry.{Entry}
use Rattle.r4_trace.specs.declared.entry.Entry.TheVariants.{Committed}
use Rattle.r4_trace.specs.Traced.{committed_in, committed_by, latest, sealed_in, is_first, IsAcked, IsBegun, IsEnded}
use Rattle.r4_trace.specs.Folds.{after_first, HasFirstReplies}
use Rattle.r4_trace.specs.Ids.{no_id}
use Rattle.r4_trace.specs.Order.{IsOrdered}

-- The image has what the first k atoms made, and in that each Done has its reply.
pub record HasFirst
    (means : Image → Content → Type 0) (w : Meaning Command Reply) (x : Content)
    (trace : List Entry) (k : ℕ) (image : Image) : Type 0 where
  pub content : means image (after_first w x trace k)
  pub replies : HasFirstReplies w x trace k

-- of as many atoms as a crash at moment m may leave: the committed ones, or one more that is sealed
pub record Found
    (means : Image → Content → Type 0) (w : Meaning Command Reply) (x : Content)
    (trace : List Entry) (m : ℕ) (image : Image) : Type 0 where
  pub k : ℕ
  pub at_least : committed_by m trace ≤ k
  pub at_most : k ≤ committed_by m trace + 1
  pub in_sealed : k ≤ sealed_in trace
  pub has : HasFirst means w x trace k image

-- What a crash now may leave: what the committed atoms made, or one more that is sealed.
pub record HasNow
    (means : Image → Content → Type 0) (w : Meaning Command Reply) (x : Content)
    (trace : List Entry) (image : Image) : Type 0 where
  pub k : ℕ
  pub at_least : committed_in trace ≤ k
  pub at_most : k ≤ committed_in trace + 1
  pub in_sealed : k ≤ sealed_in trace
  pub has : HasFirst means w x trace k image

-- The same whether or not a start and a clock are named. Every acknowledged transaction is among
-- them, and each of theirs has ended.
pub record Holds
    (means : Image → Content → Type 0) (w : Meaning Command Reply)
    (start : Option Content) (clock : Option ℕ)
    (trace : List Entry) (m : ℕ) (image : Image) : Type 0 where
  pub k : ℕ
  pub at_least : committed_by m trace ≤ k
  pub at_most : k ≤ committed_by m trace + 1
  pub in_sealed : k ≤ sealed_in trace
  pub acked : (t : ℕ) → IsAcked trace m t → is_first trace k t ≡ true
  pub ended : (t s : ℕ) → IsBegun trace t s → is_first trace k t ≡ true → IsEnded trace t
  pub has : (x : Content) (t : ℕ) → start ≡ Some x → clock ≡ Some t → t ≤ m
      → HasFirst means w x trace k image

-- at every moment up to now
pub record IsCrashSafe
    (means : Image → Content → Type 0) (w : Meaning Command Reply)
    (start : Option Content) (clock : Option ℕ)
    (trace : List Entry) (d : State) : Type 0 where
  pub each : TellsCrashes d → (m : ℕ) (image : Image) → m ≤ d.clock → Leaves d m image
      → Holds means w start clock trace m image

-- for a named start, from its clock on
pub record IsSafeFrom
    (means : Image → Content → Type 0) (w : Meaning Command Reply) (x : Content) (t : ℕ)
    (trace : List Entry) (d : State) : Type 0 where
  pub each : (m : ℕ) (image : Image) → t ≤ m → m ≤ d.clock → Leaves d m image
      → Found means w x trace m image

-- ---- steps

-- The entry makes no atom durable.
abbrev pub IsNoCommit : Entry → Type 0
IsNoCommit (Committed atom clock) = ⊥
IsNoCommit e = Unit {0}

-- Calls of the device, during which a crash leaves what was found when they began.
pub record Step
    (means : Image → Content → Type 0) (w : Meaning Command Reply) (x : Content)
    (trace : List Entry) (old new : State) : Type 0 where
  pub ordered : IsOrdered trace
  pub time : latest trace ≤ old.clock
  pub goes : Goes old new
  pub leaves : LeavesOnly old new (HasNow means w x trace)

-- Such calls, the last of which makes the sealed atom durable: what it leaves has one atom more.
pub record CommitStep
    (means : Image → Content → Type 0) (w : Meaning Command Reply) (x : Content)
    (older : List Entry) (atom : AtomNo) (old new : State) : Type 0 where
  pub step : Step means w x older old new
  pub ordered : IsOrdered (Committed atom new.clock ∷ older)
  pub rose : old.clock < new.clock
  pub durable : (image : Image) → Leaves new new.clock image
      → HasFirst means w x older (committed_in older + 1) image

-- The next atom changes nothing, and in it each Done has its reply.
pub record AddsNothing
    (w : Meaning Command Reply) (x : Content) (older : List Entry) : Type 0 where
  pub same : after_first w x older (committed_in older + 1)
      ≡ after_first w x older (committed_in older)
  pub replies : HasFirstReplies w x older (committed_in older + 1)

-- Calls of the device while a trace grows: what was found at earlier moments is found still, and
-- the right thing is found at moments within them and at their end.
pub record Moments
    (means : Image → Content → Type 0) (w : Meaning Command Reply) (x : Content)
    (older trace : List Entry) (old new : State) : Type 0 where
  pub goes : Goes old new
  pub before : (m : ℕ) (image : Image) → m ≤ old.clock
      → Found means w x older m image → Found means w x trace m image
  pub within : (m : ℕ) (image : Image) → old.clock < m → m < new.clock
      → Leaves new m image → Found means w x trace m image
  pub now : (image : Image) → old.clock < new.clock
      → Leaves new new.clock image → Found means w x trace new.clock image

-- ---- the meaning of images

-- The image has this volume; of its ids at most n more are drawn than at the start, where o was the
-- next one; and what is lost was lost there.
pub record IsVolumeOf
    (blocks o n : ℕ) (lost : ℕ → Type 0) (image : Image) (m : Content) : Type 0 where
  pub volume : HasVolume blocks image m
  pub least : o ≤ volume.content.super.oid
  pub most : volume.content.super.oid ≤ min no_id (o + n)
  pub none_lost : (b : ℕ) → IsLost volume.content b → lost b
