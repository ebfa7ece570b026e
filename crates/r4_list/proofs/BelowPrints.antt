-- What is printed of a content, where one text is written.
use Rattle.std.proofs.Common.{◌≡◌, ℕ, List, [], sym, subst, append-nil}
use Rattle.std.specs.Prelude.{Result, Ok, Err, Some}
use Rattle.std.specs.Result.{IsErrAnd}
use Rattle.r4_base.specs.Image.{Image}
use Rattle.r4_base.specs.Value.{Content}
use Rattle.r4_base.specs.Volume.{HasContent}
use Rattle.r4_outside.specs.Sink.{SinkState, Appends, AppendsPart}
use Rattle.r4_cell.specs.declared.change.Root.{Root}
use Rattle.r4_search.specs.Pool.{PoolState}
use Rattle.r4_list.specs.Over.{IsOver}
use Rattle.r4_list.specs.Printed.{IsUndamagedStop, PrintsOver}
use Rattle.r4_list.specs.declared.fault.Stop.{Stop}
use Rattle.r4_list.specs.declared.fault.Stop.TheVariants.{Sink}

-- All of a text was appended.
pub whole_part : {X E : Type 0} (text : List ℕ) (k k' : SinkState) (x : X) → Appends {E = E} text k (Ok x) k' → (before : List ℕ) → k.written ≡ Some before → AppendsPart text before k'.written
whole_part {X} {E} text k k' x a before w = record { part = text; rest = []; splits = sym (append-nil text); written = a.whole before w }

module _ {T : Type 0} {n : ℕ} {image : Image} {m : Content} (c : HasContent n image m) (root : Root) (text : List ℕ) (k k' : SinkState) (p : PoolState) (over : IsOver c root p) where
  -- it stopped where a part was appended
  pub stopped_other : (r : Result T Stop) (e : Stop) → IsErrAnd r (λ y. y ≡ e) → IsUndamagedStop e → ((before : List ℕ) → k.written ≡ Some before → AppendsPart text before k'.written) → PrintsOver c root text k r p k'
  stopped_other (Ok x) e is u part = absurd is
  stopped_other (Err y) e is u part = record {
    over = over;
    whole = λ before w. tt;
    part = part;
    undamaged = subst IsUndamagedStop (sym is) u;
  }

  pub stopped_writing : {X E : Type 0} (r : Result T Stop) (x : E) → Appends {T = X} text k (Err x) k' → IsErrAnd r (λ y. y ≡ Sink) → PrintsOver c root text k r p k'
  stopped_writing {X} {E} (Ok y) x a is = absurd is
  stopped_writing {X} {E} (Err y) x a is = record {
    over = over;
    whole = λ before w. tt;
    part = λ before w. a.part before w;
    undamaged = subst IsUndamagedStop (sym is) tt;
  }

  pub printed_whole : {X E : Type 0} (v : T) (x : X) → Appends {E = E} text k (Ok x) k' → PrintsOver c root text k (Ok v) p k'
  printed_whole {X} {E} v x a = record {
    over = over;
    whole = λ before w. a.whole before w;
    part = λ before w. tt;
    undamaged = tt;
  }

pub same_appends : {T E : Type 0} (a b : List ℕ) (k k' : SinkState) (r : Result T E) → a ≡ b → Appends a k r k' → Appends b k r k'
same_appends {T} {E} a b k k' r is h = subst (λ (text : List ℕ). Appends text k r k') is h
