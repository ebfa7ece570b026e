-- What an image means in a run that began with a volume, and when a trace is crash-safe, whatever its run names
-- (docs/durable.md).
--     Beginning    with what a run begins
--     means        an image has a volume, next id and lost blocks as after that beginning
--     IsSafeTrace  a trace is crash-safe on a device
use Rattle.std.specs.Prelude.{◌≡◌, ◌↔◌, ℕ, ◌+◌, ◌≤◌, min, List, Option, Some, None}
use Rattle.std.specs.Option.{option_map}
use Rattle.r4_base.specs.Image.{Image}
use Rattle.r4_base.specs.Value.{Content}
use Rattle.r4_base.specs.Volume.{HasContent, HasVolume, IsLost}
use Rattle.r4_content.specs.Locality.{commands}
use Rattle.r4_outside.specs.Device.{State}
use Rattle.r4_flushed.specs.r4_trace.declared.entry.Entry.{Entry}
use Rattle.r4_flushed.specs.r4_trace.Ids.{Start, makers, no_id}
use Rattle.r4_flushed.specs.r4_trace.Job.{Asked}
use Rattle.r4_flushed.specs.r4_trace.Safe.{IsCrashSafe, IsVolumeOf}

-- ---- meanings

-- With what a run begins: an image of so many blocks, its volume, and how many ids the run may draw.
pub record Beginning : Type 0 where
  pub blocks : ℕ
  pub image : Image
  pub content : Content
  pub volume : HasVolume blocks image content
  pub ids : ℕ

-- the first id that no object had then
abbrev pub first_id : Beginning → ℕ
first_id b = b.volume.content.super.oid

-- with what its trace begins
abbrev pub start_of : Beginning → Start
start_of b = record { content = b.content; next_id = first_id b }

-- the block was lost then
abbrev pub WasLost : Beginning → ℕ → Type 0
WasLost b k = IsLost b.volume.content k

-- The image has the volume m; its next id is one that may have been reached; and what is lost was lost at the
-- beginning.
abbrev pub means : Beginning → Image → Content → Type 0
means b image m = IsVolumeOf b.blocks (first_id b) b.ids (WasLost b) image m

-- the run began on what this device reads
pub record IsOn (b : Beginning) (d : State) : Type 0 where
  pub size : b.blocks ≡ d.blocks
  pub image : b.image ≡ d.seen

-- an id that may be the next one
abbrev pub IsNextId : Beginning → ℕ → Type 0
IsNextId b i = (first_id b ≤ i) × (i ≤ min no_id (first_id b + b.ids))

-- More exactly: the image has the volume m, this is its next id, and just the blocks are lost that are lost in c.
pub record IsVolumeLike {n : ℕ} {old : Image} {o : Content} (c : HasContent n old o) (next_id : ℕ) (image : Image)
    (m : Content) : Type 0 where
  pub volume : HasVolume n image m
  pub id_is : volume.content.super.oid ≡ next_id
  pub lost : (b : ℕ) → IsLost volume.content b ↔ IsLost c b

-- ---- what a run names

-- the image with which it began, the clock of then, and its job, each where the run names it
pub record Names : Type 0 where
  pub start : Option Image
  pub clock : Option ℕ
  pub job : Option Asked

-- how many ids a job may draw; without a named job any
abbrev pub ids_for : Option Asked → ℕ
ids_for None = no_id
ids_for (Some job) = makers job

-- The run, on a device of so many blocks, began with this.
pub record IsNamed (r : Names) (blocks : ℕ) (b : Beginning) : Type 0 where
  pub start : r.start ≡ Some b.image
  pub size : b.blocks ≡ blocks
  pub ids : b.ids ≡ ids_for r.job

-- the same, where anything is said of its beginning
abbrev pub BeginsWith : Names → (blocks : ℕ) → Option Beginning → Type 0
BeginsWith r blocks None = Unit {0}
BeginsWith r blocks (Some b) = IsNamed r blocks b

-- ---- crash-safe

-- an image means anything where no volume is named
abbrev pub meaning_of : Option Beginning → Image → Content → Type 0
meaning_of None image m = Unit {0}
meaning_of (Some b) image m = means b image m

abbrev pub content_of : Option Beginning → Option Content
content_of o = option_map (λ b. b.content) o

-- The trace is crash-safe on the device: with the meaning of real volumes, where the run names an image that has one;
-- and in any case as far as no content is spoken of.
abbrev pub IsSafeTrace : (limit : ℕ) → Names → List Entry → State → Type 0
IsSafeTrace limit r trace d =
    (o : Option Beginning) → BeginsWith r d.blocks o
    → IsCrashSafe (meaning_of o) (commands limit) (content_of o) r.clock trace d
