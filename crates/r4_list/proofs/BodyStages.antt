-- What a call keeps that prints and fetches blocks that a cell names.
use Rattle.std.proofs.Common.{◌≡◌, ℕ, List, sym, subst, arith}
use Rattle.std.specs.Prelude.{Contains, Result, Ok, Err, IfErr}
use Rattle.std.specs.Result.{IsErrAnd}
use Rattle.r4_base.specs.Tree.{Name}
use Rattle.r4_outside.specs.Device.{State}
use Rattle.r4_outside.specs.Sink.{SinkState, Appends}
use Rattle.r4_cell.specs.Seen.{CellSeen, node_of}
use Rattle.r4_cell.specs.declared.change.Root.{Root}
use Rattle.r4_search.specs.Path.{root_name}
use Rattle.r4_search.specs.Pool.{PoolState, Goes, IsKnown, IsOf, IsRefused, LeavesDevice}
use Rattle.r4_list.proofs.Lookups.{named_there}
use Rattle.r4_search.specs.declared.pool.FetchFault.{FetchFault}
use Rattle.r4_search.specs.declared.pool.FetchFault.TheVariants.{Read, Damaged, Memory as NoRoom}
use Rattle.r4_search.proofs.Walks.{goes_both, goes_same, leaves_both, leaves_same}
use Rattle.r4_list.specs.Body.{PrintsNamed}
use Rattle.r4_list.specs.Printing.{IsCause, IsFetchCause, Printed}
use Rattle.r4_list.specs.declared.fault.Stop.{Stop}
use Rattle.r4_list.specs.declared.fault.Stop.TheVariants.{Fetch, Sink, Memory}
use Rattle.r4_list.proofs.Stages.{Went, appended, prints_both, cause_on}

handed_on : {T : Type 0} (P : Stop → Type 0) (r : Result T Stop) (e : Stop) → IsErrAnd r (λ y. y ≡ e) → P e → IfErr r P
handed_on {T} P (Ok x) e h p = tt
handed_on {T} P (Err y) e h p = subst P (sym h) p

pub went_named : {T : Type 0} (root : Root) (names : List Name) (p q : PoolState) (r : Result T Stop) (a b : State) (k l : SinkState) → PrintsNamed root names p a k r q b l → Went p q a b k l
went_named {T} root names p q r a b k l f = record { goes = f.goes; device = f.device; prints = f.prints }

-- a block that a cell names is not fetched
pub block_cause : (root : Root) (first old new : PoolState) (n : Name) (e : FetchFault) → Goes first old → old.root ≡ root_name root → IsKnown old n → IsRefused n old e new → IsFetchCause root first e new
block_cause root first old new n (Read at faults) g is known h = let rose = h.2 in let before = g.faults in omega (arith, rose, before)
block_cause root first old new n (Damaged at fault) g is known h = record {
  now = old;
  came = g;
  later = old;
  goes = goes_same old;
  name = n;
  named = named_there root old n is known;
  block = h.0;
  has = h.1;
}
block_cause root first old new n NoRoom g is known h = tt

module _ {T : Type 0} (root : Root) (names : List Name) (old mid : PoolState) (a b : State) (k l : SinkState) (w : Went old mid a b k l) where
  pub named_well : (x : T) → PrintsNamed root names old a k (Ok x) mid b l
  named_well x = record { goes = w.goes; device = w.device; prints = w.prints; cause = λ first c g is has. tt }

  -- the sink failed
  pub named_writing : {X E : Type 0} (bytes : List ℕ) (m : SinkState) (r : Result T Stop) (x : E) → Appends {T = X} bytes l (Err x) m → IsErrAnd r (λ y. y ≡ Sink) → PrintsNamed root names old a k r mid b m
  named_writing {X} {E} bytes m r x f is = record {
    goes = w.goes;
    device = w.device;
    prints = prints_both k l m w.prints (appended {T = X} bytes l m (Err x) f);
    cause = λ first c g of_first has. handed_on (λ y. IsCause root first k y mid m) r Sink is (let before = w.prints.faults in let rose = f.cause in omega (arith, before, rose));
  }

  -- no memory was found
  pub named_without : (r : Result T Stop) → IsErrAnd r (λ y. y ≡ Memory) → PrintsNamed root names old a k r mid b l
  named_without r is = record { goes = w.goes; device = w.device; prints = w.prints; cause = λ first c g of_first has. handed_on (λ y. IsCause root first k y mid l) r Memory is tt }

  -- a call that prints stopped
  pub named_printing : {X : Type 0} (less : List Name) (new : PoolState) (c : State) (m : SinkState) (r : Result T Stop) (q : Result X Stop) (e : Stop) → ((n : Name) → Contains less n → Contains names n) → q ≡ Err e → PrintsNamed root less mid b l q new c m → IsErrAnd r (λ y. y ≡ e) → PrintsNamed root names old a k r new c m
  named_printing {X} less new c m r q e among qe f is = record {
    goes = goes_both old mid new w.goes f.goes;
    device = leaves_both a b c w.device f.device;
    prints = prints_both k l m w.prints f.prints;
    cause = λ first s g of_first has. handed_on (λ y. IsCause root first k y new m) r e is
        (cause_on root first first new k l m e (goes_same first) w.prints (subst (λ (z : Result X Stop). IfErr z (λ y. IsCause root first l y new m)) qe (f.cause first s (goes_both first old mid g w.goes) of_first (λ n h. has n (among n h)))));
  }

  -- the rest of it is another call
  pub named_by : (less : List Name) (new : PoolState) (c : State) (m : SinkState) (r : Result T Stop) → ((n : Name) → Contains less n → Contains names n) → PrintsNamed root less mid b l r new c m → PrintsNamed root names old a k r new c m
  named_by less new c m r among f = record {
    goes = goes_both old mid new w.goes f.goes;
    device = leaves_both a b c w.device f.device;
    prints = prints_both k l m w.prints f.prints;
    cause = λ first s g of_first has. ends first r (f.cause first s (goes_both first old mid g w.goes) of_first (λ n h. has n (among n h)));
  }
    where
      ends : (first : PoolState) (q : Result T Stop) → IfErr q (λ e. IsCause root first l e new m) → IfErr q (λ e. IsCause root first k e new m)
      ends first (Ok x) h = tt
      ends first (Err e) h = cause_on root first first new k l m e (goes_same first) w.prints h

  -- a block was not fetched
  pub named_fetching : (n : Name) (new : PoolState) (c : State) (r : Result T Stop) (e : FetchFault) → mid.root ≡ root_name root → IsKnown mid n → Goes mid new → LeavesDevice b c → IsRefused n mid e new → IsErrAnd r (λ y. y ≡ Fetch e) → PrintsNamed root names old a k r new c l
  named_fetching n new c r e begins known g d h is = record {
    goes = goes_both old mid new w.goes g;
    device = leaves_both a b c w.device d;
    prints = w.prints;
    cause = λ first s goes of_first has. handed_on (λ y. IsCause root first k y new l) r (Fetch e) is (block_cause root first mid new n e (goes_both first old mid goes w.goes) begins known h);
  }

-- nothing is fetched
pub named_appending : {T : Type 0} (root : Root) (names : List Name) (p : PoolState) (d : State) (bytes : List ℕ) (k l : SinkState) (r : Result T Stop) → Appends bytes k r l → IfErr r (λ e. e ≡ Sink) → PrintsNamed root names p d k r p d l
named_appending {T} root names p d bytes k l (Ok x) a is = record { goes = goes_same p; device = leaves_same d; prints = appended {E = Stop} bytes k l (Ok x) a; cause = λ first c g of_first has. tt }
named_appending {T} root names p d bytes k l (Err e) a is = record {
  goes = goes_same p;
  device = leaves_same d;
  prints = appended {T = T} bytes k l (Err e) a;
  cause = λ first c g of_first has. subst (λ (y : Stop). IsCause root first k y p l) (sym is) a.cause;
}

-- the cell was fetched first
pub named_printed : {T : Type 0} (root : Root) (names : List Name) (first old new : PoolState) (a b c : State) (k l m : SinkState) (r : Result T Stop) (s : CellSeen) → Went first old a b k l → IsOf first s → ((n : Name) → Contains names n → Contains (node_of s).names n) → PrintsNamed root names old b l r new c m → Printed root first k r new m a c
named_printed {T} root names first old new a b c k l m r s w is has f = record {
  goes = goes_both first old new w.goes f.goes;
  device = leaves_both a b c w.device f.device;
  prints = prints_both k l m w.prints f.prints;
  cause = ends r (f.cause first s w.goes is has);
}
  where
    ends : (q : Result T Stop) → IfErr q (λ e. IsCause root first l e new m) → IfErr q (λ e. IsCause root first k e new m)
    ends (Ok x) h = tt
    ends (Err e) h = cause_on root first first new k l m e (goes_same first) w.prints h
