-- What items have of a file's bytes, and what is printed of them.
use Rattle.std.proofs.Common.{◌≡◌, ℕ, zero, suc, ◌+◌, ◌-◌, ◌*◌, ◌<◌, ◌≤◌, Bool, true, false, List, ◌++◌, length, drop, get_or, refl, sym, ap, subst, ◌∙◌, arith}
use Rattle.std.specs.Prelude.{Option, Some, None, Result, Ok, Err, IfOk, IfErr, Contains, ◌==◌, if◌then◌else◌, replicate, slice_get, slice_range, slice_index}
use Rattle.std.specs.Result.{IsErrAnd}
use Rattle.std.proofs.lemmas.List.{append-nil, append_assoc, get_or-replicate, length-drop, length-replicate, length-take}
use Rattle.std.proofs.lemmas.Option.{same_Some}
use Rattle.r4_base.specs.Cell.{bytes_from as units_from, block_names, cell_of, hole_bytes, item_units}
use Rattle.r4_base.specs.Extents.{block_of, units_of}
use Rattle.r4_base.specs.Image.{Image, block_at}
use Rattle.r4_base.specs.Key.{rank, body_key}
use Rattle.r4_base.specs.Node.{Item, items_of}
use Rattle.r4_base.specs.Tree.{Node, Store, Fits, UnitAt}
use Rattle.r4_base.specs.Value.{Content, Value, Byte, at_key}
use Rattle.r4_base.specs.Volume.{HasContent, byte_rank}
use Rattle.r4_base.specs.declared.items.Target.{Target}
use Rattle.r4_base.specs.declared.items.Unit.{Unit as ExtentUnit}
use Rattle.r4_base.specs.declared.key.Key.{Key}
use Rattle.r4_base.proofs.Numbers.{get_or-slice_range}
use Rattle.r4_base.proofs.Visible.{whole_file}
use Rattle.r4_outside.specs.Sink.{SinkState, Appends, AppendsPart}
use Rattle.r4_cell.specs.Seen.{CellSeen, node_of}
use Rattle.r4_cell.specs.declared.change.Root.{Root}
use Rattle.r4_search.specs.Pool.{PoolState}
use Rattle.r4_search.specs.declared.pool.FetchFault.{FetchFault}
use Rattle.r4_list.specs.Body.{AreStored, AreUnits, IsFileTo, IsKeyOf, PrintsPart}
use Rattle.r4_units.specs.Extent.{IsUnitAt, block_name, unit_block}
use Rattle.r4_list.specs.Listing.{bytes_from}
use Rattle.r4_list.specs.Over.{IsOver, IsUndamaged}
use Rattle.r4_list.specs.Printed.{IsUndamagedStop, PrintsOver}
use Rattle.r4_list.specs.declared.fault.Stop.{Stop}
use Rattle.r4_list.specs.declared.fault.Stop.TheVariants.{Fetch, Sink}
use Rattle.r4_units.proofs.LeafUnits.{node_units}
use Rattle.r4_units.proofs.ItemUnits.{item_unit}
use Rattle.r4_list.proofs.BodyOver.{not_well, nothing_part, on_err}
use Rattle.r4_list.proofs.BodyText.{Spells, spelled, bytes_split, byte_unit, hole_unit}
use Rattle.r4_units.proofs.ExtentUnits.{AreOneBody, ranks_apart, unit_named}

-- ---- bytes of the tree are bytes of the file

pub byte_seen : {n : ℕ} {image : Image} {m : Content} (c : HasContent n image m) (o : Target) (to offset x : ℕ) → IsFileTo m o to → offset < to → UnitAt c.store (byte_rank o offset) (Byte x) → at_key m (byte_rank o offset) ≡ Some (Byte x)
byte_seen {n} {image} {m} c o to offset x f below unit =
    let within = f.within in
    let (y, at) = whole_file n image m c o f.attr offset f.stat f.file (omega (arith, below, within)) in
    let raw_y = ((c.visible (byte_rank o offset) (Byte y)).0 at).0 in
    let raw_x = (c.units (byte_rank o offset) (Byte x)).1 unit in
    subst (λ (v : Value). at_key m (byte_rank o offset) ≡ Some v) (same_Some (Byte y) (Byte x) (sym raw_y ∙ raw_x)) at

-- the key of a byte that stands so far behind an item's key
pub key_behind : (o : Target) (it key : Key) (offset : ℕ) → IsKeyOf o key → AreOneBody it key → slice_index it.el 3 ≤ offset → rank it + (offset - slice_index it.el 3) ≡ byte_rank o offset
key_behind o it key offset is one le =
    let k = body_key o.locality o.ordering o.oid offset in
    let a = ap (λ (y : Key). slice_index y.el 0) is in
    let b = ap (λ (y : Key). slice_index y.el 1) is in
    let d = ap (λ (y : Key). slice_index y.el 2) is in
    let h = ranks_apart it k (record { first = one.first ∙ a; second = one.second ∙ b; third = one.third ∙ d }) in
    omega (arith, h, le)

-- ---- the bytes of a block

data_units : (level lo hi : ℕ) (b : List ℕ) → level ≡ 0 → (cell_of level lo hi b).units ≡ units_from lo b
unfolding cell_of
data_units zero lo hi b e = refl
data_units (suc l) lo hi b e = absurd cc

run_unit : {n : ℕ} {image : Image} {m : Content} (c : HasContent n image m) (id lo i : ℕ) (d : Node Value) → c.store id ≡ Some d → Fits (block_name id lo) d → i < length (block_at image id) → UnitAt c.store (lo + i) (Byte (get_or (block_at image id) i 0))
run_unit {n} {image} {m} c id lo i d e f lt =
    let is = c.cells id d e in
    let units : d.units ≡ units_from d.lo (block_at image id) = ap (λ (x : Node Value). x.units) is.says ∙ data_units d.level d.lo d.hi (block_at image id) f.level in
    let at = byte_unit d.lo (block_at image id) i lt in
    let there : Contains d.units (d.lo + i, Byte (get_or (block_at image id) i 0)) = subst (λ (us : List (ℕ × Value)). Contains us (d.lo + i, Byte (get_or (block_at image id) i 0))) (sym units) at in
    (id, d, e, subst (λ (k : ℕ). Contains d.units (k + i, Byte (get_or (block_at image id) i 0))) f.lo there)

pub block_units : {n : ℕ} {image : Image} {m : Content} (c : HasContent n image m) (k : ℕ) (us : List ExtentUnit) (block : ℕ) (u : ExtentUnit) → IsUnitAt us block u → AreStored c.store (block_names k us)
    → ((j : ℕ) (v : Value) → Contains (hole_bytes k us) (j, v) → UnitAt c.store j v) → (i : ℕ) → i < length (unit_block image u) → UnitAt c.store (k + 4096 * block + i) (Byte (get_or (unit_block image u) i 0))
block_units {n} {image} {m} c k us block u at stored holes i lt = tested (u.start == 0) at.is lt
  where
    tested : (t : Bool) → block_of us block ≡ (if t then None else Some u.start) → i < length (if t then replicate 4096 0 else block_at image u.start) → UnitAt c.store (k + 4096 * block + i) (Byte (get_or (if t then replicate 4096 0 else block_at image u.start) i 0))
    tested true is small =
        let len = length-replicate {A = ℕ} 4096 0 in
        let below : i < 4096 = omega (arith, small, len) in
        let none : get_or (replicate 4096 0) i 0 ≡ 0 = get_or-replicate 4096 i 0 0 below in
        subst (λ (x : ℕ). UnitAt c.store (k + 4096 * block + i) (Byte x)) (sym none) (holes (k + 4096 * block + i) (Byte 0) (hole_unit k us block i is at.within below))
    tested false is small =
        let (d, e, f) = stored (block_name u.start (k + 4096 * block)) (unit_named k us block u.start is) in
        run_unit c u.start (k + 4096 * block) i d e f small

-- ---- texts

range_short : (s : List ℕ) (from to i : ℕ) → i < length (slice_range s from to) → (from + i < length s) × (from + i < to)
range_short s from to i lt =
    let a = length-take (to - from) (drop from s) in
    let b = length-drop from s in
    (omega (arith, lt, a, b), omega (arith, lt, a, b))

pub range_len : (s : List ℕ) (from to : ℕ) → length (slice_range s from to) ≤ to - from
range_len s from to = let a = length-take (to - from) (drop from s) in omega (arith, a)

-- the bytes from a place of some that stand at an item's key
pub stretch : {n : ℕ} {image : Image} {m : Content} (c : HasContent n image m) (o : Target) (it key : Key) (s : List ℕ) (place from to end : ℕ) → IsKeyOf o key → AreOneBody it key → IsFileTo m o end
    → slice_index it.el 3 + place ≤ slice_index key.el 3 → from ≡ slice_index key.el 3 - (slice_index it.el 3 + place) → slice_index it.el 3 + place + to ≤ end
    → ((i : ℕ) → i < length s → UnitAt c.store (rank it + place + i) (Byte (get_or s i 0))) → Spells m o (slice_index key.el 3) (slice_range s from to)
stretch {n} {image} {m} c o it key s place from to end is one f le start small units = record {
  at = λ i lt.
      let short = range_short s from to i lt in
      let off : ℕ = slice_index key.el 3 + i in
      let behind = key_behind o it key off is one (omega (arith, le)) in
      let same : get_or (slice_range s from to) i 0 ≡ get_or s (from + i) 0 = get_or-slice_range s from to i (omega (arith, short)) in
      let at : rank it + place + (from + i) ≡ byte_rank o off = omega (arith, behind, le, start) in
      let unit = units (from + i) short.0 in
      let there : UnitAt c.store (byte_rank o off) (Byte (get_or s (from + i) 0)) = subst (λ (k : ℕ). UnitAt c.store k (Byte (get_or s (from + i) 0))) at unit in
      let seen = byte_seen c o end off (get_or s (from + i) 0) f (omega (arith, short, start, le, small)) there in
      subst (λ (x : ℕ). at_key m (byte_rank o off) ≡ Some (Byte x)) (sym same) seen;
}

pub exact_len : (s : List ℕ) (from to : ℕ) → to ≤ length s → length (slice_range s from to) ≡ to - from
exact_len s from to le =
    let a = length-take (to - from) (drop from s) in
    let b = length-drop from s in
    omega (arith, a, b, le)

-- ---- units of items

pub tail_units : (it : Item) → it.plugin ≡ 6 → item_units it ≡ units_from (rank it.key) it.body
unfolding item_units
tail_units it is =
    let a : (it.plugin == 0) ≡ false = ap (λ (x : ℕ). x == 0) is in
    let b : (it.plugin == 2) ≡ false = ap (λ (x : ℕ). x == 2) is in
    let c : (it.plugin == 3) ≡ false = ap (λ (x : ℕ). x == 3) is in
    let d : (it.plugin == 5) ≡ false = ap (λ (x : ℕ). x == 5) is in
    rw (a, b, c, d) refl

pub extent_units : (it : Item) → it.plugin ≡ 5 → item_units it ≡ hole_bytes (rank it.key) (units_of it.body)
unfolding item_units
extent_units it is =
    let a : (it.plugin == 0) ≡ false = ap (λ (x : ℕ). x == 0) is in
    let b : (it.plugin == 2) ≡ false = ap (λ (x : ℕ). x == 2) is in
    let c : (it.plugin == 3) ≡ false = ap (λ (x : ℕ). x == 3) is in
    let d : (it.plugin == 5) ≡ true = ap (λ (x : ℕ). x == 5) is in
    rw (a, b, c, d) refl

module _ (t : Store Value) (c : CellSeen) (is : t c.id ≡ Some (node_of c)) (some : 1 ≤ c.level) (i : ℕ) (it : Item) (at : slice_get (items_of c.block) i ≡ Some it) where
  of_item : (u : ℕ × Value) → Contains (item_units it) u → UnitAt t u.0 u.1
  of_item u h = (c.id, node_of c, is, subst (λ (us : List (ℕ × Value)). Contains us u) (sym (node_units c.level (rank c.lo) (rank c.hi) c.block some)) (item_unit (items_of c.block) i it u at h))

  pub holes_stored : it.plugin ≡ 5 → AreUnits t (hole_bytes (rank it.key) (units_of it.body))
  holes_stored five k v h = of_item (k, v) (subst (λ (us : List (ℕ × Value)). Contains us (k, v)) (sym (extent_units it five)) h)

  pub bytes_stored : it.plugin ≡ 6 → (j : ℕ) → j < length it.body → UnitAt t (rank it.key + 0 + j) (Byte (get_or it.body j 0))
  bytes_stored six j lt =
      let e : rank it.key + j ≡ rank it.key + 0 + j = omega arith in
      let u = byte_unit (rank it.key) it.body j lt in
      subst (λ (k : ℕ). UnitAt t k (Byte (get_or it.body j 0))) e (of_item (rank it.key + j, Byte (get_or it.body j 0)) (subst (λ (us : List (ℕ × Value)). Contains us (rank it.key + j, Byte (get_or it.body j 0))) (sym (tail_units it six)) u))

-- ---- what is printed of them

handed_stop : {T : Type 0} (P : Stop → Type 0) (r : Result T Stop) (e : Stop) → IsErrAnd r (λ y. y ≡ e) → P e → IfErr r P
handed_stop {T} P (Ok x) e h p = tt
handed_stop {T} P (Err y) e h p = subst P (sym h) p

longer : (m : Content) (o : Target) (from most : ℕ) (s before : List ℕ) (after : Option (List ℕ)) → Spells m o from s → length s ≤ most → AppendsPart s before after → AppendsPart (bytes_from m o most from) before after
longer m o from most s before after h le a =
    let e : length s + (most - length s) ≡ most = omega (arith, le) in
    let more = bytes_from m o (most - length s) (from + length s) in
    let all : bytes_from m o most from ≡ s ++ more = sym (ap (λ (n : ℕ). bytes_from m o n from) e) ∙ (bytes_split m o (length s) (most - length s) from ∙ ap (λ (t : List ℕ). t ++ more) (spelled m o from s h)) in
    record { part = a.part; rest = a.rest ++ more; splits = all ∙ (ap (λ (t : List ℕ). t ++ more) a.splits ∙ append_assoc a.part a.rest more); written = a.written }

module _ {n : ℕ} {image : Image} {m : Content} (c : HasContent n image m) (root : Root) (o : Target) (from most : ℕ) (k : SinkState) where
  pub part_none : (p : PoolState) → IsOver c root p → PrintsPart c root o from most k (Ok 0) p k
  unfolding bytes_from
  part_none p over = record {
    over = over;
    whole = λ before e. e ∙ ap (λ (t : List ℕ). Some t) (sym (append-nil before));
    part = λ before e. tt;
    undamaged = tt;
  }

  module _ (s : List ℕ) (h : Spells m o from s) (le : length s ≤ most) where
    -- by one write
    pub part_written : (p : PoolState) (l : SinkState) (r : Result ℕ Stop) → IsOver c root p → Appends s k r l → IfErr r (λ e. e ≡ Sink) → ((len : ℕ) → r ≡ Ok len → len ≡ length s) → PrintsPart c root o from most k r p l
    part_written p l (Ok len) over a sink is = record {
      over = over;
      whole = λ before e. a.whole before e ∙ ap (λ (t : List ℕ). Some (before ++ t)) (sym (spelled m o from s h) ∙ ap (λ (j : ℕ). bytes_from m o j from) (sym (is len refl)));
      part = λ before e. tt;
      undamaged = tt;
    }
    part_written p l (Err e) over a sink is = record {
      over = over;
      whole = λ before w. tt;
      part = λ before w. longer m o from most s before l.written h le (a.part before w);
      undamaged = subst IsUndamagedStop (sym sink) tt;
    }

    -- by another call
    pub part_printed : {T : Type 0} (p : PoolState) (l : SinkState) (x : T) (len : ℕ) → length s ≡ len → PrintsOver c root s k (Ok x) p l → PrintsPart c root o from most k (Ok len) p l
    part_printed {T} p l x len same f = record {
      over = f.over;
      whole = λ before e. f.whole before e ∙ ap (λ (t : List ℕ). Some (before ++ t)) (sym (spelled m o from s h) ∙ ap (λ (j : ℕ). bytes_from m o j from) same);
      part = λ before e. tt;
      undamaged = tt;
    }

    pub part_stopped : {T : Type 0} (p : PoolState) (l : SinkState) (e : Stop) (r : Result ℕ Stop) → PrintsOver {T = T} c root s k (Err e) p l → IsErrAnd r (λ y. y ≡ e) → PrintsPart c root o from most k r p l
    part_stopped {T} p l e r f is = record {
      over = f.over;
      whole = λ before w. no_len _ r is;
      part = λ before w. on_err r _ (longer m o from most s before l.written h le (f.part before w));
      undamaged = handed_stop IsUndamagedStop r e is f.undamaged;
    }
      where
        no_len : (P : ℕ → Type 0) (q : Result ℕ Stop) → IsErrAnd q (λ y. y ≡ e) → IfOk q P
        no_len P (Ok x) i = absurd i
        no_len P (Err y) i = tt

module _ {n : ℕ} {image : Image} {m : Content} (c : HasContent n image m) (root : Root) (o : Target) (from most : ℕ) (k : SinkState) where
  no_len : (P : ℕ → Type 0) (q : Result ℕ Stop) (e : Stop) → IsErrAnd q (λ y. y ≡ e) → IfOk q P
  no_len P (Ok x) e i = absurd i
  no_len P (Err y) e i = tt

  -- an error that a `?` hands on
  pub part_handed : (p : PoolState) (l : SinkState) (e : Stop) (r : Result ℕ Stop) → PrintsPart c root o from most k (Err e) p l → IsErrAnd r (λ y. y ≡ e) → PrintsPart c root o from most k r p l
  part_handed p l e r f is = record {
    over = f.over;
    whole = λ before w. no_len _ r e is;
    part = λ before w. on_err r _ (f.part before w);
    undamaged = handed_stop IsUndamagedStop r e is f.undamaged;
  }

  pub part_unfetched : (p : PoolState) (e : FetchFault) (r : Result ℕ Stop) → IsOver c root p → IsUndamaged e → IsErrAnd r (λ y. y ≡ Fetch e) → PrintsPart c root o from most k r p k
  part_unfetched p e r over good is = record {
    over = over;
    whole = λ before w. no_len _ r (Fetch e) is;
    part = λ before w. on_err r _ (nothing_part _ before k.written w);
    undamaged = handed_stop IsUndamagedStop r (Fetch e) is good;
  }

-- ---- the whole body

-- the bytes below an offset were printed
pub record SoFar {n : ℕ} {image : Image} {m : Content} (c : HasContent n image m) (root : Root) (o : Target) (offset : ℕ) (k : SinkState) (p : PoolState) (l : SinkState) : Type 0 where
  pub over : IsOver c root p
  pub printed : (before : List ℕ) → k.written ≡ Some before → l.written ≡ Some (before ++ bytes_from m o offset 0)

module _ {n : ℕ} {image : Image} {m : Content} (c : HasContent n image m) (root : Root) (o : Target) (k : SinkState) where
  pub so_far_first : (p : PoolState) → IsOver c root p → SoFar c root o 0 k p k
  unfolding bytes_from
  so_far_first p over = record { over = over; printed = λ before e. e ∙ ap (λ (t : List ℕ). Some t) (sym (append-nil before)) }

  pub so_far_next : (offset from len most : ℕ) (p q : PoolState) (l j : SinkState) → from ≡ offset → SoFar c root o offset k p l → PrintsPart c root o from most l (Ok len) q j → SoFar c root o (offset + len) k q j
  so_far_next offset from len most p q l j same s h = let f : PrintsPart c root o offset most l (Ok len) q j = subst (λ (i : ℕ). PrintsPart c root o i most l (Ok len) q j) same h in record {
    over = f.over;
    printed = λ before e. f.whole (before ++ bytes_from m o offset 0) (s.printed before e) ∙ ap (λ (t : List ℕ). Some t) (append_assoc before (bytes_from m o offset 0) (bytes_from m o len offset) ∙ ap (λ (t : List ℕ). before ++ t) (sym (bytes_split m o offset len 0 ∙ later)));
  }
    where
      later : bytes_from m o offset 0 ++ bytes_from m o len (0 + offset) ≡ bytes_from m o offset 0 ++ bytes_from m o len offset
      later = let e : 0 + offset ≡ offset = omega arith in ap (λ (i : ℕ). bytes_from m o offset 0 ++ bytes_from m o len i) e

  module _ (end : ℕ) (tail : List ℕ) where
    -- a part stopped
    pub so_far_stopped : {T : Type 0} (offset from most : ℕ) (p q : PoolState) (l j : SinkState) (e : Stop) (r : Result T Stop) → from ≡ offset → most ≡ end - offset → offset ≤ end → SoFar c root o offset k p l → PrintsPart c root o from most l (Err e) q j → IsErrAnd r (λ y. y ≡ e) → PrintsOver c root (bytes_from m o end 0 ++ tail) k r q j
    so_far_stopped {T} offset from most p q l j e r same left le s h is = let f : PrintsPart c root o offset (end - offset) l (Err e) q j = subst (λ (i : ℕ). PrintsPart c root o i (end - offset) l (Err e) q j) same (subst (λ (i : ℕ). PrintsPart c root o from i l (Err e) q j) left h) in record {
      over = f.over;
      whole = λ before w. not_well r e _ is;
      part = λ before w.
          let a = f.part (before ++ bytes_from m o offset 0) (s.printed before w) in
          on_err r _ (record {
            part = bytes_from m o offset 0 ++ a.part;
            rest = a.rest ++ tail;
            splits = ap (λ (t : List ℕ). t ++ tail) (all ∙ ap (λ (t : List ℕ). bytes_from m o offset 0 ++ t) a.splits)
                ∙ (append_assoc (bytes_from m o offset 0) (a.part ++ a.rest) tail ∙ (ap (λ (t : List ℕ). bytes_from m o offset 0 ++ t) (append_assoc a.part a.rest tail) ∙ sym (append_assoc (bytes_from m o offset 0) a.part (a.rest ++ tail))));
            written = a.written ∙ ap (λ (t : List ℕ). Some t) (append_assoc before (bytes_from m o offset 0) a.part);
          });
      undamaged = handed_stop IsUndamagedStop r e is f.undamaged;
    }
      where
        all : bytes_from m o end 0 ≡ bytes_from m o offset 0 ++ bytes_from m o (end - offset) offset
        all = let a : offset + (end - offset) ≡ end = omega (arith, le) in let b : 0 + offset ≡ offset = omega arith in sym (ap (λ (i : ℕ). bytes_from m o i 0) a) ∙ (bytes_split m o offset (end - offset) 0 ∙ ap (λ (i : ℕ). bytes_from m o offset 0 ++ bytes_from m o (end - offset) i) b)

    -- the rest was written, or the sink failed
    pub so_far_written : {X E T : Type 0} (offset : ℕ) (p : PoolState) (l j : SinkState) (x : X) (y : T) → offset ≡ end → SoFar c root o offset k p l → Appends {E = E} tail l (Ok x) j → PrintsOver c root (bytes_from m o end 0 ++ tail) k (Ok y) p j
    so_far_written {X} {E} {T} offset p l j x y same h a = let s : SoFar c root o end k p l = subst (λ (i : ℕ). SoFar c root o i k p l) same h in record {
      over = s.over;
      whole = λ before w. a.whole (before ++ bytes_from m o end 0) (s.printed before w) ∙ ap (λ (t : List ℕ). Some t) (append_assoc before (bytes_from m o end 0) tail);
      part = λ before w. tt;
      undamaged = tt;
    }

    pub so_far_writing : {X E T : Type 0} (offset : ℕ) (p : PoolState) (l j : SinkState) (x : E) (r : Result T Stop) → offset ≡ end → SoFar c root o offset k p l → Appends {T = X} tail l (Err x) j → IsErrAnd r (λ y. y ≡ Sink) → PrintsOver c root (bytes_from m o end 0 ++ tail) k r p j
    so_far_writing {X} {E} {T} offset p l j x r same h a is = let s : SoFar c root o end k p l = subst (λ (i : ℕ). SoFar c root o i k p l) same h in record {
      over = s.over;
      whole = λ before w. not_well r Sink _ is;
      part = λ before w.
          let b = a.part (before ++ bytes_from m o end 0) (s.printed before w) in
          on_err r _ (record {
            part = bytes_from m o end 0 ++ b.part;
            rest = b.rest;
            splits = ap (λ (t : List ℕ). bytes_from m o end 0 ++ t) b.splits ∙ sym (append_assoc (bytes_from m o end 0) b.part b.rest);
            written = b.written ∙ ap (λ (t : List ℕ). Some t) (append_assoc before (bytes_from m o end 0) b.part);
          });
      undamaged = handed_stop IsUndamagedStop r Sink is tt;
    }
