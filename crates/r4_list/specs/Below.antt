-- A listing that is being printed (docs/program.md, "Listing"): a number that falls with each step, and the directories that are open.
use Rattle.std.specs.Prelude.{◌≡◌, ◌⊎◌, ℕ, ◌+◌, ◌*◌, ◌-◌, ◌^◌, Bool, true, false, List, [], ◌∷◌, ◌++◌, length, Some, Result, IfErr, OnOk, OnErr}
use Rattle.std.specs.List.{sum_by}
use Rattle.std.specs.Arc.{arc_value}
use Rattle.std.specs.Ordering.{nat_cmp}
use Rattle.std.specs.BTreeSet.{contains_by}
use Rattle.r4_base.specs.Image.{Image}
use Rattle.r4_base.specs.Key.{rank}
use Rattle.r4_base.specs.Value.{Content}
use Rattle.r4_base.specs.Volume.{HasContent, is_directory}
use Rattle.r4_base.specs.declared.items.Attr.{Attr}
use Rattle.r4_base.specs.declared.items.Target.{Target}
use Rattle.r4_cell.specs.declared.change.Root.{Root}
use Rattle.r4_outside.specs.Sink.{SinkState, AppendsPart}
use Rattle.r4_search.specs.Pool.{PoolState}
use Rattle.r4_list.specs.Frame.{IsOpenAt}
use Rattle.r4_list.specs.Listing.{line_of}
use Rattle.r4_list.specs.Over.{IsOver}
use Rattle.r4_list.specs.Printed.{IsUndamagedStop, PrintsOver}
use Rattle.r4_list.specs.Walking.{IsWalking, NoneLeft, OpenDir, PrintsToo, open_dir, rest_of}
use Rattle.r4_list.specs.declared.fault.Stop.{Stop}
use Rattle.r4_list.specs.declared.frame.Frame.{Frame}
use Rattle.r4_list.specs.declared.below.Below.{Below}

-- the keys, items and entries behind the place of a directory
abbrev pub weight : Frame → ℕ
weight f = (2 ^ 256 - rank (arc_value f.leaf).hi) * 2 ^ 34 + (2 ^ 16 - f.item) * 2 ^ 17 + (2 ^ 16 - f.entry) + 1

abbrev pub left_in : Below → ℕ
left_in b = (2 ^ 64 - length b.printed.keys) * 2 ^ 300 + sum_by weight b.frames.items

-- whether the line of the directory of this id was printed
abbrev pub printed_in : Below → (id : ℕ) → Bool
printed_in b id = contains_by (nat_cmp id) b.printed

-- the second text begins with the first
abbrev pub IsBegun : (beginning text : List ℕ) → Type 0
IsBegun beginning text = (rest : List ℕ) × (text ≡ beginning ++ rest)

-- The frame has the place from which on an open directory goes on, and the length of its path.
pub record IsFrameOf {n : ℕ} {image : Image} {m : Content} (c : HasContent n image m) (f : OpenDir) (frame : Frame) : Type 0 where
  pub place : IsOpenAt c f frame.dir.0 (arc_value frame.leaf) frame.item frame.entry
  pub path : frame.path ≡ length f.path

-- The frames are those of the open directories, of which the deepest is the first, and the last frame. Each directory's path begins
-- the one of the directory below it.
abbrev pub IsStack : {n : ℕ} {image : Image} {m : Content} (c : HasContent n image m) (path : List ℕ) → List OpenDir → List Frame → Type 0
IsStack c path [] frames = frames ≡ []
IsStack c path (f ∷ fs) frames = (rest : List Frame) × (frame : Frame) × (frames ≡ rest ++ frame ∷ []) × IsFrameOf c f frame × IsBegun f.path path × IsStack c f.path fs rest

-- A frame was taken away, and the rest are those of the directories that were opened before.
pub record IsHeld {n : ℕ} {image : Image} {m : Content} (c : HasContent n image m) (f : OpenDir) (fs : List OpenDir) (b : Below) (frame : Frame) : Type 0 where
  pub held : IsFrameOf c f frame
  pub path : IsBegun f.path b.path.items
  pub stack : IsStack c f.path fs b.frames.items

-- the frame of a directory is put on the others
pub record IsPut {n : ℕ} {image : Image} {m : Content} (c : HasContent n image m) (f : OpenDir) (old new : List Frame) : Type 0 where
  pub frame : Frame
  pub is : new ≡ old ++ frame ∷ []
  pub of : IsFrameOf c f frame

-- nothing is left of a directory, or its frame is put on the others
abbrev pub GoesInto : {n : ℕ} {image : Image} {m : Content} (c : HasContent n image m) → OpenDir → (old new : List Frame) → Type 0
GoesInto {n} {image} {m} c f old new = (NoneLeft m f × (new ≡ old)) ⊎ IsPut c f old new

-- the frame is put on the others, with another place in its leaf
pub record IsPushed (frame : Frame) (item entry : ℕ) (old new : List Frame) : Type 0 where
  pub next : Frame
  pub is : new ≡ old ++ next ∷ []
  pub dir : next.dir ≡ frame.dir
  pub path : next.path ≡ frame.path
  pub leaf : next.leaf ≡ frame.leaf
  pub item_is : next.item ≡ item
  pub entry_is : next.entry ≡ entry

-- What printing an object's line does: a directory that was not printed before is gone into.
pub record PrintsOne {T : Type 0} {n : ℕ} {image : Image} {m : Content} (c : HasContent n image m) (root : Root) (o : Target) (a : Attr) (b : Below) (k : SinkState) (result : Result T Stop) (new : PoolState) (b' : Below) (k' : SinkState) : Type 0 where
  pub prints : PrintsOver c root (line_of a b.path.items) k result new k'
  pub path : OnOk result (b'.path.items ≡ b.path.items)
  pub file : is_directory a ≡ false → OnOk result ((b'.frames.items ≡ b.frames.items) × (b'.printed ≡ b.printed))
  pub dir : is_directory a ≡ true → printed_in b o.oid.0 ≡ false → OnOk result (PrintsToo (printed_in b) o.oid.0 (printed_in b') × GoesInto c (open_dir o b.path.items 0) b.frames.items b'.frames.items)

-- What going into a directory that is open does.
pub record GoesDown {T : Type 0} {n : ℕ} {image : Image} {m : Content} (c : HasContent n image m) (root : Root) (f : OpenDir) (b : Below) (result : Result T Stop) (new : PoolState) (b' : Below) : Type 0 where
  pub over : IsOver c root new
  pub goes : OnOk result ((b'.path.items ≡ b.path.items) × (b'.printed ≡ b.printed) × GoesInto c f b.frames.items b'.frames.items)
  pub undamaged : IfErr result IsUndamagedStop

-- A part of a text was written, and the rest is what is left of the directories that are open.
pub record IsOnward {n : ℕ} {image : Image} {m : Content} (c : HasContent n image m) (start : Target) (steps : ℕ) (text : List ℕ) (k : SinkState) (b : Below) (k' : SinkState) : Type 0 where
  pub fs : List OpenDir
  pub done : List ℕ
  pub stack : IsStack c b.path.items fs b.frames.items
  pub walks : IsWalking m start fs (printed_in b)
  pub is : text ≡ done ++ rest_of m steps fs
  pub written : (before : List ℕ) → k.written ≡ Some before → k'.written ≡ Some (before ++ done)

-- What a step of a walk does whose text is left to be printed: a part of it is, and a prefix where it stops.
pub record GoesOn {T : Type 0} {n : ℕ} {image : Image} {m : Content} (c : HasContent n image m) (root : Root) (start : Target) (steps : ℕ) (text : List ℕ) (k : SinkState) (result : Result T Stop) (new : PoolState) (b : Below) (k' : SinkState) : Type 0 where
  pub over : IsOver c root new
  pub onward : OnOk result (IsOnward c start steps text k b k')
  pub part : (before : List ℕ) → k.written ≡ Some before → OnErr result (AppendsPart text before k'.written)
  pub undamaged : IfErr result IsUndamagedStop
