-- What is fetched and printed over a pool that reads the tree of a content.
use Rattle.std.proofs.Common.{◌≡◌, ℕ, zero, suc, false, List, [], ◌++◌, refl, sym, ap, subst, ◌∙◌}
use Rattle.std.specs.Prelude.{Option, Some, None, Result, Ok, Err, IfErr, OnOk, OnErr}
use Rattle.std.specs.Result.{IsErrAnd}
use Rattle.std.proofs.lemmas.Bool.{eq-eqb}
use Rattle.std.proofs.lemmas.List.{append-nil}
use Rattle.std.proofs.lemmas.Option.{none-some, same_Some}
use Rattle.r4_base.specs.Cell.{cell_of, cell_fault}
use Rattle.r4_base.specs.Image.{Image, block_at}
use Rattle.r4_base.specs.Key.{rank}
use Rattle.r4_base.specs.Tree.{Name, Node}
use Rattle.r4_base.specs.Value.{Content, Value}
use Rattle.r4_base.specs.Volume.{HasContent}
use Rattle.r4_base.specs.declared.items.CellFault.{CellFault}
use Rattle.r4_outside.specs.Sink.{SinkState, Appends, AppendsPart}
use Rattle.r4_cell.specs.Seen.{CellSeen, node_of}
use Rattle.r4_cell.specs.declared.change.Root.{Root}
use Rattle.r4_search.specs.Pool.{PoolState, FaultIs, Fetches, place_fault}
use Rattle.r4_search.specs.declared.pool.FetchFault.{FetchFault}
use Rattle.r4_search.specs.declared.pool.FetchFault.TheVariants.{Read, Damaged, Memory as NoRoom}
use Rattle.r4_list.specs.Over.{IsOver, IsUndamaged}
use Rattle.r4_list.specs.Printed.{IsUndamagedStop, PrintsOver}
use Rattle.r4_list.specs.declared.fault.Stop.{Stop}
use Rattle.r4_list.specs.declared.fault.Stop.TheVariants.{Fetch, Sink, Memory}
use Rattle.r4_list.proofs.OverPaths.{IsStored, Stored, hi_is, level_is, lo_is, over_still, stored_of}

-- ---- a block is fetched

node_block : (level lo hi : ℕ) (b : List ℕ) → (cell_of level lo hi b).block ≡ b
unfolding cell_of
node_block zero lo hi b = refl
node_block (suc l) lo hi b = refl

placed : (n : Name) (k : CellSeen) → k.level ≡ n.level → rank k.lo ≡ n.lo → rank k.hi ≡ n.hi → place_fault n k ≡ None
placed n k level lo hi = rw (level, lo, hi, eq-eqb n.level n.level refl, eq-eqb n.lo n.lo refl, eq-eqb n.hi n.hi refl) refl

data_good : (blocks level lo hi : ℕ) (b : List ℕ) → level ≡ 0 → cell_fault false blocks level lo hi b ≡ None
unfolding cell_fault
data_good blocks zero lo hi b e = refl
data_good blocks (suc l) lo hi b e = absurd cc

module _ {n : ℕ} {image : Image} {m : Content} (c : HasContent n image m) (root : Root) (p : PoolState) (over : IsOver c root p) {T : Type 0} (seen : T → CellSeen) (at : Name) (st : Stored c.store at) (new : PoolState) where
  is_stored : (x : T) → Fetches seen at p (Ok x) new → IsStored c.store (seen x)
  is_stored x f = stored_of c root p over at (seen x) st f.ok.named f.ok.is_of

  pub fetched_over : (x : T) → Fetches seen at p (Ok x) new → IsOver c root new
  fetched_over x f = over_still c root p over new f.goes (λ i k now before. subst (IsStored c.store) (sym (f.only i k now before)) (is_stored x f))

  pub fetched_block : (x : T) → Fetches seen at p (Ok x) new → (seen x).block ≡ block_at image at.id
  fetched_block x f =
      let y = seen x in
      let is = c.cells y.id (node_of y) (is_stored x f) in
      let own : (node_of y).block ≡ y.block = node_block y.level (rank y.lo) (rank y.hi) y.block in
      let said : (node_of y).block ≡ block_at image y.id = ap (λ (d : Node Value). d.block) is.says ∙ node_block (node_of y).level (node_of y).lo (node_of y).hi (block_at image y.id) in
      sym own ∙ (said ∙ ap (block_at image) f.ok.named.id)

  pub unfetched_over : (e : FetchFault) → Fetches seen at p (Err e) new → IsOver c root new
  unfetched_over e f = over_still c root p over new f.goes (λ i k now before. absurd (f.only i k now before))

  sound : (fault : CellFault) → at.level ≡ 0 → (o : Option CellSeen) → p.kept at.id ≡ o → FaultIs p.blocks at o (p.meant at.id) (Some fault) → ⊥
  sound fault low (Some k) ke h =
      let (d, e, f) = st in
      let same : d ≡ node_of k = same_Some d (node_of k) (sym e ∙ (over.kept at.id k ke).1) in
      let level = sym (level_is k) ∙ (ap (λ (y : Node Value). y.level) (sym same) ∙ f.level) in
      let lo = sym (lo_is k) ∙ (ap (λ (y : Node Value). y.lo) (sym same) ∙ f.lo) in
      let hi = sym (hi_is k) ∙ (ap (λ (y : Node Value). y.hi) (sym same) ∙ f.hi) in
      none-some fault (sym (placed at k level lo hi) ∙ sym h)
  sound fault low None ke h =
      let (d, e, f) = st in
      let read : Some fault ≡ cell_fault false p.blocks at.level at.lo at.hi (block_at image at.id) = subst (λ (b : Option (List ℕ)). FaultIs p.blocks at None b (Some fault)) (over.meant at.id d e) h in
      none-some fault (sym (data_good p.blocks at.level at.lo at.hi (block_at image at.id) low) ∙ sym read)

  pub unfetched_undamaged : (e : FetchFault) → at.level ≡ 0 → Fetches seen at p (Err e) new → IsUndamaged e
  unfetched_undamaged (Read b faults) low f = tt
  unfetched_undamaged (Damaged b fault) low f = sound fault low (p.kept at.id) refl f.err.1
  unfetched_undamaged NoRoom low f = tt

-- ---- what is printed

handed_stop : {T : Type 0} (P : Stop → Type 0) (r : Result T Stop) (e : Stop) → IsErrAnd r (λ y. y ≡ e) → P e → IfErr r P
handed_stop {T} P (Ok x) e h p = tt
handed_stop {T} P (Err y) e h p = subst P (sym h) p

pub not_well : {T : Type 0} (r : Result T Stop) (e : Stop) (P : Type 0) → IsErrAnd r (λ y. y ≡ e) → OnOk r P
not_well {T} (Ok x) e P h = absurd h
not_well {T} (Err y) e P h = tt

pub on_err : {T E : Type 0} (r : Result T E) (P : Type 0) → P → OnErr r P
on_err {T} {E} (Ok x) P h = tt
on_err {T} {E} (Err e) P h = h

-- nothing was appended
pub nothing_part : (text before : List ℕ) (after : Option (List ℕ)) → after ≡ Some before → AppendsPart text before after
nothing_part text before after w = record { part = []; rest = text; splits = refl; written = w ∙ sym (ap (λ (t : List ℕ). Some t) (append-nil before)) }

module _ {n : ℕ} {image : Image} {m : Content} (c : HasContent n image m) (root : Root) (p : PoolState) (over : IsOver c root p) {T : Type 0} (text : List ℕ) (k : SinkState) where
  pub over_written : {X E : Type 0} (l : SinkState) (x : X) (y : T) (bytes : List ℕ) → bytes ≡ text → Appends {E = E} bytes k (Ok x) l → PrintsOver c root text k (Ok y) p l
  over_written {X} {E} l x y bytes is a = record {
    over = over;
    whole = λ before e. subst (λ (t : List ℕ). l.written ≡ Some (before ++ t)) is (a.whole before e);
    part = λ before e. tt;
    undamaged = tt;
  }

  pub over_writing : {X E : Type 0} (l : SinkState) (r : Result T Stop) (x : E) (bytes : List ℕ) → bytes ≡ text → Appends {T = X} bytes k (Err x) l → IsErrAnd r (λ y. y ≡ Sink) → PrintsOver c root text k r p l
  over_writing {X} {E} l r x bytes is a h = record {
    over = over;
    whole = λ before e. not_well r Sink _ h;
    part = λ before e. on_err r _ (subst (λ (t : List ℕ). AppendsPart t before l.written) is (a.part before e));
    undamaged = handed_stop IsUndamagedStop r Sink h tt;
  }

  pub over_fetching : (r : Result T Stop) (e : FetchFault) → IsUndamaged e → IsErrAnd r (λ y. y ≡ Fetch e) → PrintsOver c root text k r p k
  over_fetching r e good h = record {
    over = over;
    whole = λ before is. not_well r (Fetch e) _ h;
    part = λ before is. on_err r _ (nothing_part text before k.written is);
    undamaged = handed_stop IsUndamagedStop r (Fetch e) h good;
  }

  pub over_without : (r : Result T Stop) → IsErrAnd r (λ y. y ≡ Memory) → PrintsOver c root text k r p k
  over_without r h = record {
    over = over;
    whole = λ before is. not_well r Memory _ h;
    part = λ before is. on_err r _ (nothing_part text before k.written is);
    undamaged = handed_stop IsUndamagedStop r Memory h tt;
  }
