-- What a command answers, prints and leaves on the device (docs/program.md, "Lines and statuses").
use Rattle.std.specs.Prelude.{◌≡◌, ◌⊎◌, ℕ, List, Some}
use Rattle.r4_base.specs.Fresh.{fresh_free}
use Rattle.r4_base.specs.Refusal.{Refusal}
use Rattle.r4_base.specs.Image.{AgreesOutside, IsLawful}
use Rattle.r4_base.specs.Value.{Content}
use Rattle.r4_base.specs.Volume.{HasVolume}
use Rattle.r4_base.specs.declared.items.CellFault.{CellFault}
use Rattle.r4_base.specs.Words.{cell_word_of, log_word_of}
use Rattle.r4_mkfs.specs.r4_cell.Words.{image_word_of}
use Rattle.r4_outside.specs.Device.{State, Spares, TellsReads, Rose, Untouched}
use Rattle.r4_outside.specs.Sink.{SinkState, AppendsPart}
use Rattle.r4_replay.specs.Replay.{PutInPlace, RefusedAs, SettlesAlways}
use Rattle.r4_replay.specs.declared.fault.ReplayFault.{ReplayFault}
use Rattle.r4_replay.specs.declared.fault.ReplayFault.TheVariants.{Log, Device, Size, Memory}
use Rattle.r4_check_laws.specs.r4_list.Listing.{IsListing}
use Rattle.r4_check_laws.specs.r4_list.Lists.{HasRefusedNode, IsOpened, OfSettled}
use Rattle.r4_check_laws.specs.r4_list.Printing.{Prints as PrintsSome}
use Rattle.r4_check_laws.specs.r4_list.declared.fault.ListFault.{ListFault}
use Rattle.r4_check_laws.specs.r4_list.declared.fault.ListFault.TheVariants.{Log as ListLog, Image as ListImage}
use Rattle.r4_check_laws.specs.r4_list.declared.fault.ListFault.TheVariants.{Device as ListDevice, Size as ListSize}
use Rattle.r4_check_laws.specs.r4_list.declared.fault.ListFault.TheVariants.{Sink as ListSink, Memory as ListMemory}
use Rattle.r4_lines.specs.Lines.{device_line, size_line, image_line}
use Rattle.r4_lines.specs.Lines.{made_line, memory_line, replayed_line}
use Rattle.r4_lines.specs.Printed.{Gets, GetsPart, Prints}
use Rattle.r4_mkfs.specs.Mkfs.{IsMade, IsWritten, MakesInOrder, TakesCalls, calls_of}
use Rattle.r4_mkfs.specs.declared.fault.MkfsFault.{MkfsFault}
use Rattle.r4_mkfs.specs.declared.fault.MkfsFault.TheVariants.{Small, Large}
use Rattle.r4_mkfs.specs.declared.fault.MkfsFault.TheVariants.{Device as MkfsDevice, Memory as MkfsMemory}
use Rattle.r4_offline.specs.Checks.{ChecksImage}
use Rattle.r4_offline.specs.Refused.{IsUnlawful, IsUnopened}
use Rattle.r4_words.specs.Words.{AskedOffline, AsksReplay, AsksMkfs, AsksList, AsksCheck}

-- The transactions of the log were put in place, so many. Where there was none, nothing was written.
pub record PutAll (old : State) (count : ℕ) (new : State) : Type 0 where
  pub lawful : IsLawful old.blocks
  pub none : count ≡ 0 → Untouched old new
  pub put : TellsReads old → PutInPlace old count new

-- The log is refused so, where the device tells what reading gives; nothing was written.
pub record Refuses (old : State) (r : Refusal) (new : State) : Type 0 where
  pub lawful : IsLawful old.blocks
  pub idle : Untouched old new
  pub refused : TellsReads old → RefusedAs old.blocks old.seen r

-- What the command `replay` answers with a code: d and k are the device and the sink before the call,
-- d' and k' those after it.
pub record Replays
    (d : State) (k : SinkState) (code : ℕ) (d' : State) (k' : SinkState) : Type 0
  where
    pub codes : (code ≡ 0) ⊎ ((code ≡ 5) ⊎ ((code ≡ 6) ⊎ ((code ≡ 7) ⊎ ((code ≡ 8) ⊎ (code ≡ 9)))))
    pub done : code ≡ 0 → (n : ℕ) × PutAll d n d' × Gets (replayed_line n) k k'
    -- the device stands as 0 leaves it
    pub sink : code ≡ 5 → (n : ℕ) × PutAll d n d' × GetsPart (replayed_line n) k k'
        × Rose k.faults k'.faults
    pub device : code ≡ 6 → Rose d.faults d'.faults × Prints (device_line d'.clock d'.faults) k k'
    pub image : code ≡ 7 → (r : Refusal) × Refuses d r d'
        × Prints (image_line r.block (log_word_of r.fault)) k k'
    pub size : code ≡ 8 → IsUnlawful d.blocks × Untouched d d' × Prints (size_line d.blocks) k k'
    -- an unlawful number of blocks is not passed over
    pub size_only : IsUnlawful d.blocks → (code ≡ 8) ⊎ (code ≡ 6)
    pub memory : code ≡ 9 → Untouched d d' × Prints memory_line k k'
    -- where nothing stands against it, the log is replayed
    pub complete : IsLawful d.blocks → TellsReads d
        → ((r : Refusal) → RefusedAs d.blocks d.seen r → ⊥)
        → (Rose d.faults d'.faults → ⊥) → (Rose k.faults k'.faults → ⊥) → (code ≡ 0) ⊎ (code ≡ 9)

-- An empty volume of this label was made: where the device tells what reading gives, it reads as one.
-- Its blocks were written, each once, and no others.
pub record MakesAll (old : State) (label : List ℕ) (new : State) : Type 0 where
  pub lawful : IsLawful old.blocks
  pub made : TellsReads old → IsMade label new
  pub others : AgreesOutside (IsWritten old.blocks) old.seen new.seen
  pub once : TakesCalls (calls_of old.blocks) old new

-- What the command `mkfs` answers with a code.
pub record Makes
    (label : List ℕ) (d : State) (k : SinkState) (code : ℕ) (d' : State) (k' : SinkState) : Type 0
  where
    pub codes : (code ≡ 0) ⊎ ((code ≡ 5) ⊎ ((code ≡ 6) ⊎ ((code ≡ 8) ⊎ (code ≡ 9))))
    pub done : code ≡ 0 → MakesAll d label d' × Gets (made_line d.blocks (fresh_free d.blocks)) k k'
    -- the device stands as 0 leaves it
    pub sink : code ≡ 5 → MakesAll d label d'
        × GetsPart (made_line d.blocks (fresh_free d.blocks)) k k' × Rose k.faults k'.faults
    pub device : code ≡ 6 → Rose d.faults d'.faults × Prints (device_line d'.clock d'.faults) k k'
    pub size : code ≡ 8 → IsUnlawful d.blocks × Untouched d d' × Prints (size_line d.blocks) k k'
    -- an unlawful number of blocks is not passed over
    pub size_only : IsUnlawful d.blocks → (code ≡ 8) ⊎ (code ≡ 6)
    pub memory : code ≡ 9 → Untouched d d' × Prints memory_line k k'
    -- where nothing stands against it, the volume is made
    pub complete : IsLawful d.blocks → (Rose d.faults d'.faults → ⊥)
        → (Rose k.faults k'.faults → ⊥) → (code ≡ 0) ⊎ (code ≡ 9)

-- ---- list

-- A node of that image is refused.
abbrev pub IsRefusedNode : State → (block : ℕ) (what : List ℕ) → Type 0
IsRefusedNode d block what = (f : CellFault) × (what ≡ cell_word_of f)
    × OfSettled d (λ image. HasRefusedNode d.blocks image block f)

-- Where the device tells what reading gives, and its image has a volume, this holds of the text of the
-- path's listing.
abbrev pub OfListing : State → (path : List ℕ) → (List ℕ → Type 0) → Type 0
OfListing d path P = (m : Content) (text : List ℕ) → TellsReads d → HasVolume d.blocks d.seen m
    → IsListing m path text → P text

-- A listing was printed as far as it went, a prefix of its text where there is one, and then a line,
-- as far as the sink takes it.
pub record PrintsThen (d : State) (path line : List ℕ) (old new : SinkState) : Type 0 where
  pub listed : SinkState
  pub some : PrintsSome old listed
  pub part : OfListing d path (λ text. (before : List ℕ) → old.written ≡ Some before
      → AppendsPart text before listed.written)
  pub then_line : Prints line listed new

-- What the command `list` answers with a code. Nothing is written to the device.
pub record Lists
    (path : List ℕ) (d : State) (k : SinkState) (code : ℕ) (d' : State) (k' : SinkState) : Type 0
  where
    pub codes : (code ≡ 0) ⊎ ((code ≡ 5) ⊎ ((code ≡ 6) ⊎ ((code ≡ 7) ⊎ ((code ≡ 8) ⊎ (code ≡ 9)))))
    pub idle : Untouched d d'
    pub done : code ≡ 0 → IsOpened d × OfListing d path (λ text. Gets text k k')
    pub sink : code ≡ 5 → IsOpened d × Rose k.faults k'.faults
        × OfListing d path (λ text. GetsPart text k k')
    pub device : code ≡ 6 → Rose d.faults d'.faults
        × PrintsThen d path (device_line d'.clock d'.faults) k k'
    -- what was printed before a node was refused stays
    pub image : code ≡ 7 → IsLawful d.blocks × ((block : ℕ) × (what : List ℕ)
        × ((IsUnopened d block what × Prints (image_line block what) k k')
        ⊎ (IsRefusedNode d block what × PrintsThen d path (image_line block what) k k')))
    pub size : code ≡ 8 → IsUnlawful d.blocks × Prints (size_line d.blocks) k k'
    -- an unlawful number of blocks is not passed over
    pub size_only : IsUnlawful d.blocks → (code ≡ 8) ⊎ (code ≡ 6)
    pub memory : code ≡ 9 → PrintsThen d path memory_line k k'
    -- where nothing stands against it, the path of a volume is listed
    pub complete : IsLawful d.blocks → (m : Content) → TellsReads d → HasVolume d.blocks d.seen m
        → (Rose d.faults d'.faults → ⊥) → (Rose k.faults k'.faults → ⊥) → (code ≡ 0) ⊎ (code ≡ 9)

-- What a command answers, by what is asked for.
abbrev pub Answers : AskedOffline → State → SinkState → ℕ → State → SinkState → Type 0
Answers AsksReplay d k code d' k' = Replays d k code d' k'
Answers (AsksMkfs label) d k code d' k' = Makes label d k code d' k'
Answers (AsksList path) d k code d' k' = Lists path d k code d' k'
Answers AsksCheck d k code d' k' = ChecksImage d k code d' k'

-- What crashes leave at any moment of a command on a quiet device: an image that settles as before, but
-- for the footer's block; for `mkfs`, the master superblock that was there, or all the rest of an empty
-- volume, and in blocks that are not written what might have been there before.
abbrev pub HasMoments : AskedOffline → State → State → Type 0
HasMoments AsksReplay d d' = SettlesAlways d d'
HasMoments (AsksMkfs label) d d' = MakesInOrder d d' × Spares (IsWritten d.blocks) d d'
HasMoments (AsksList path) d d' = SettlesAlways d d'
HasMoments AsksCheck d d' = SettlesAlways d d'

-- The code and the line of a fault.
abbrev pub TellsFault : ReplayFault → ℕ → SinkState → SinkState → Type 0
TellsFault (Device clock faults) code k k' = (code ≡ 6) × Prints (device_line clock faults) k k'
TellsFault (Log block fault) code k k' =
    (code ≡ 7) × Prints (image_line block.0 (log_word_of fault)) k k'
TellsFault (Size blocks) code k k' = (code ≡ 8) × Prints (size_line blocks) k k'
TellsFault Memory code k k' = (code ≡ 9) × Prints memory_line k k'

abbrev pub TellsMkfsFault : MkfsFault → ℕ → SinkState → SinkState → Type 0
TellsMkfsFault (MkfsDevice clock faults) code k k' =
    (code ≡ 6) × Prints (device_line clock faults) k k'
TellsMkfsFault (Small blocks) code k k' = (code ≡ 8) × Prints (size_line blocks) k k'
TellsMkfsFault (Large blocks) code k k' = (code ≡ 8) × Prints (size_line blocks) k k'
TellsMkfsFault MkfsMemory code k k' = (code ≡ 9) × Prints memory_line k k'

-- at a fault of the sink nothing more is printed
abbrev pub TellsListFault : ListFault → ℕ → SinkState → SinkState → Type 0
TellsListFault (ListLog block fault) code k k' =
    (code ≡ 7) × Prints (image_line block.0 (log_word_of fault)) k k'
TellsListFault (ListImage block fault) code k k' =
    (code ≡ 7) × Prints (image_line block.0 (image_word_of fault)) k k'
TellsListFault (ListDevice clock faults) code k k' =
    (code ≡ 6) × Prints (device_line clock faults) k k'
TellsListFault (ListSize blocks) code k k' = (code ≡ 8) × Prints (size_line blocks) k k'
TellsListFault (ListSink faults) code k k' = (code ≡ 5) × (k' ≡ k)
TellsListFault ListMemory code k k' = (code ≡ 9) × Prints memory_line k k'
