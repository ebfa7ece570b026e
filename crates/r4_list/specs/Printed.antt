-- What is printed over a pool that reads the tree of a content (docs/program.md, "Listing").
use Rattle.std.specs.Prelude.{◌≡◌, ℕ, List, ◌++◌, Some, Result, IfErr, OnOk, OnErr}
use Rattle.r4_base.specs.Image.{Image}
use Rattle.r4_base.specs.Value.{Content}
use Rattle.r4_base.specs.Volume.{HasContent}
use Rattle.r4_outside.specs.Sink.{SinkState, AppendsPart}
use Rattle.r4_cell.specs.declared.change.Root.{Root}
use Rattle.r4_search.specs.Pool.{PoolState}
use Rattle.r4_list.specs.Over.{IsOver, IsUndamaged}
use Rattle.r4_list.specs.declared.fault.Stop.{Stop}
use Rattle.r4_list.specs.declared.fault.Stop.TheVariants.{Fetch, Sink, Memory}

-- no block is refused
abbrev pub IsUndamagedStop : Stop → Type 0
IsUndamagedStop (Fetch e) = IsUndamaged e
IsUndamagedStop Sink = Unit {0}
IsUndamagedStop Memory = Unit {0}

-- What a call prints of a content whose tree the pool reads: the text, or a prefix of it where it stops, whatever it stops at.
pub record PrintsOver {T : Type 0} {n : ℕ} {image : Image} {m : Content} (c : HasContent n image m) (root : Root) (text : List ℕ) (k : SinkState) (result : Result T Stop) (new : PoolState) (k' : SinkState) : Type 0 where
  pub over : IsOver c root new
  pub whole : (before : List ℕ) → k.written ≡ Some before → OnOk result (k'.written ≡ Some (before ++ text))
  pub part : (before : List ℕ) → k.written ≡ Some before → OnErr result (AppendsPart text before k'.written)
  pub undamaged : IfErr result IsUndamagedStop
