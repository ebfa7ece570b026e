-- What a loop over a pool keeps, and what a printing one keeps.
use Rattle.std.proofs.Common.{◌≡◌, ℕ, List, [], ◌++◌, sym, ap, subst, ◌∙◌, arith}
use Rattle.std.proofs.lemmas.List.{append-nil, append_assoc}
use Rattle.std.specs.Prelude.{Some, Result, Ok, Err, IfErr}
use Rattle.std.specs.Result.{IsErrAnd}
use Rattle.r4_outside.specs.Device.{State}
use Rattle.r4_outside.specs.Sink.{SinkState, Appends}
use Rattle.r4_cell.specs.declared.change.Root.{Root}
use Rattle.r4_search.specs.Pool.{PoolState, Goes, LeavesDevice}
use Rattle.r4_search.specs.declared.pool.FetchFault.{FetchFault}
use Rattle.r4_search.proofs.Walks.{goes_both, goes_same, leaves_both, leaves_same}
use Rattle.r4_list.specs.Printing.{Fetched, IsCause, IsFetchCause, Printed, Prints}
use Rattle.r4_list.specs.declared.fault.Stop.{Stop}
use Rattle.r4_list.specs.declared.fault.Stop.TheVariants.{Fetch, Sink, Memory}
use Rattle.r4_list.proofs.Lookups.{cause_before}

-- the pool went on, and nothing was written to its device
pub record Moves (old now : PoolState) (before after : State) : Type 0 where
  pub goes : Goes old now
  pub device : LeavesDevice before after

pub moves_same : (p : PoolState) (d : State) → Moves p p d d
moves_same p d = record { goes = goes_same p; device = leaves_same d }

module _ (p q r : PoolState) (a b c : State) where
  pub moves_both : Moves p q a b → Moves q r b c → Moves p r a c
  moves_both f g = record { goes = goes_both p q r f.goes g.goes; device = leaves_both a b c f.device g.device }

pub moved : {T : Type 0} (root : Root) (old : PoolState) (r : Result T FetchFault) (new : PoolState) (a b : State) → Fetched root old r new a b → Moves old new a b
moved {T} root old r new a b f = record { goes = f.goes; device = f.device }

-- ---- what was printed

pub prints_same : (k : SinkState) → Prints k k
prints_same k = record { told = (λ t. t, λ t. t); faults = omega arith; some = λ before is. ([], is ∙ no_more before) }
  where
    no_more : (before : List ℕ) → Some before ≡ Some (before ++ [])
    no_more before = sym (ap (λ (l : List ℕ). Some l) (append-nil before))

pub prints_both : (a b c : SinkState) → Prints a b → Prints b c → Prints a c
prints_both a b c f g =
    let x = f.faults in
    let y = g.faults in
    record {
      told = (λ t. f.told.0 (g.told.0 t), λ t. g.told.1 (f.told.1 t));
      faults = omega (arith, x, y);
      some = λ before is.
          let (s, e) = f.some before is in
          let (t, h) = g.some (before ++ s) e in
          (s ++ t, h ∙ ap (λ (l : List ℕ). Some l) (append_assoc before s t));
    }

pub appended : {T E : Type 0} (bytes : List ℕ) (old new : SinkState) (r : Result T E) → Appends bytes old r new → Prints old new
appended {T} {E} bytes old new (Ok x) a = record { told = a.told; faults = a.faults; some = λ before is. (bytes, a.whole before is) }
appended {T} {E} bytes old new (Err e) a = record { told = a.told; faults = a.faults; some = λ before is. let p = a.part before is in (p.part, p.written) }

-- ---- what was done so far

pub record Went (old now : PoolState) (before after : State) (k k' : SinkState) : Type 0 where
  pub goes : Goes old now
  pub device : LeavesDevice before after
  pub prints : Prints k k'

pub went_same : (p : PoolState) (d : State) (k : SinkState) → Went p p d d k k
went_same p d k = record { goes = goes_same p; device = leaves_same d; prints = prints_same k }

module _ (p q r : PoolState) (a b c : State) (k l m : SinkState) where
  pub went_both : Went p q a b k l → Went q r b c l m → Went p r a c k m
  went_both f g = record { goes = goes_both p q r f.goes g.goes; device = leaves_both a b c f.device g.device; prints = prints_both k l m f.prints g.prints }

pub went_fetched : {T : Type 0} (root : Root) (p q : PoolState) (r : Result T FetchFault) (a b : State) (k : SinkState) → Fetched root p r q a b → Went p q a b k k
went_fetched {T} root p q r a b k f = record { goes = f.goes; device = f.device; prints = prints_same k }

pub went_printed : {T : Type 0} (root : Root) (p q : PoolState) (r : Result T Stop) (a b : State) (k l : SinkState) → Printed root p k r q l a b → Went p q a b k l
went_printed {T} root p q r a b k l f = record { goes = f.goes; device = f.device; prints = f.prints }

pub went_written : {T E : Type 0} (bytes : List ℕ) (p : PoolState) (d : State) (k l : SinkState) (r : Result T E) → Appends bytes k r l → Went p p d d k l
went_written {T} {E} bytes p d k l r a = record { goes = goes_same p; device = leaves_same d; prints = appended bytes k l r a }

-- ---- how it ended

pub cause_on : (root : Root) (old mid new : PoolState) (k l m : SinkState) (e : Stop) → Goes old mid → Prints k l → IsCause root mid l e new m → IsCause root old k e new m
cause_on root old mid new k l m (Fetch e) g p h = cause_before root old mid new e g h
cause_on root old mid new k l m Sink g p h = let before = p.faults in omega (arith, before, h)
cause_on root old mid new k l m Memory g p h = tt

pub causes_on : {T : Type 0} (root : Root) (old mid new : PoolState) (k l m : SinkState) (r : Result T Stop) → Goes old mid → Prints k l → IfErr r (λ e. IsCause root mid l e new m) → IfErr r (λ e. IsCause root old k e new m)
causes_on {T} root old mid new k l m (Ok x) g p h = tt
causes_on {T} root old mid new k l m (Err e) g p h = cause_on root old mid new k l m e g p h

handed_stop : {T : Type 0} (P : Stop → Type 0) (r : Result T Stop) (e : Stop) → IsErrAnd r (λ y. y ≡ e) → P e → IfErr r P
handed_stop {T} P (Ok x) e h p = tt
handed_stop {T} P (Err y) e h p = subst P (sym h) p

module _ {T : Type 0} (root : Root) (old mid : PoolState) (a b : State) (k l : SinkState) (w : Went old mid a b k l) where
  pub ended_well : (x : T) → Printed root old k (Ok x) mid l a b
  ended_well x = record { goes = w.goes; device = w.device; prints = w.prints; cause = tt }

  -- the rest of it is another call
  pub ended_by : (new : PoolState) (c : State) (m : SinkState) (r : Result T Stop) → Printed root mid l r new m b c → Printed root old k r new m a c
  ended_by new c m r f = record {
    goes = goes_both old mid new w.goes f.goes;
    device = leaves_both a b c w.device f.device;
    prints = prints_both k l m w.prints f.prints;
    cause = causes_on root old mid new k l m r w.goes w.prints f.cause;
  }

  -- a cell was not fetched
  pub ended_fetching : (new : PoolState) (c : State) (r : Result T Stop) (e : FetchFault) → Goes mid new → LeavesDevice b c → IsFetchCause root mid e new → IsErrAnd r (λ y. y ≡ Fetch e) → Printed root old k r new l a c
  ended_fetching new c r e g d h is = record {
    goes = goes_both old mid new w.goes g;
    device = leaves_both a b c w.device d;
    prints = w.prints;
    cause = handed_stop (λ y. IsCause root old k y new l) r (Fetch e) is (cause_before root old mid new e w.goes h);
  }

  -- a call that prints stopped
  pub ended_printing : {X : Type 0} (new : PoolState) (c : State) (m : SinkState) (r : Result T Stop) (q : Result X Stop) (e : Stop) → q ≡ Err e → Printed root mid l q new m b c → IsErrAnd r (λ y. y ≡ e) → Printed root old k r new m a c
  ended_printing {X} new c m r q e qe f is = record {
    goes = goes_both old mid new w.goes f.goes;
    device = leaves_both a b c w.device f.device;
    prints = prints_both k l m w.prints f.prints;
    cause = handed_stop (λ y. IsCause root old k y new m) r e is (cause_on root old mid new k l m e w.goes w.prints (subst (λ (z : Result X Stop). IfErr z (λ y. IsCause root mid l y new m)) qe f.cause));
  }

  -- the sink failed
  pub ended_writing : {X E : Type 0} (bytes : List ℕ) (m : SinkState) (r : Result T Stop) (x : E) → Appends {T = X} bytes l (Err x) m → IsErrAnd r (λ y. y ≡ Sink) → Printed root old k r mid m a b
  ended_writing {X} {E} bytes m r x f is = record {
    goes = w.goes;
    device = w.device;
    prints = prints_both k l m w.prints (appended {T = X} bytes l m (Err x) f);
    cause = handed_stop (λ y. IsCause root old k y mid m) r Sink is (let before = w.prints.faults in let rose = f.cause in omega (arith, before, rose));
  }

  -- no memory was found
  pub ended_without : (r : Result T Stop) → IsErrAnd r (λ y. y ≡ Memory) → Printed root old k r mid l a b
  ended_without r is = record { goes = w.goes; device = w.device; prints = w.prints; cause = handed_stop (λ y. IsCause root old k y mid l) r Memory is tt }
