-- The items of a leaf by their units: where these lie, and the bytes that each takes up.
use Rattle.std.proofs.Common.{◌≡◌, ◌⊎◌, inl, inr, ℕ, suc, ◌+◌, ◌-◌, ◌/◌, ◌^◌, ◌<◌, ◌≤◌, Bool, true, false, List, [], ◌∷◌, ◌++◌, length, map, refl, sym, ap, subst, ◌∙◌, arith}
use Rattle.std.specs.Prelude.{slice_get, slice_index, Option, Some, None, ◌==◌, if◌then◌else◌}
use Rattle.std.specs.List.{sum_by}
use Rattle.std.proofs.lemmas.Bool.{eq-eqb}
use Rattle.std.proofs.lemmas.List.Sums.{sum_by-cons}
use Rattle.std.proofs.lemmas.Option.{same_Some}
use Rattle.r4_base.specs.Cell.{bytes_from, entry_unit, item_end, item_units, units_in}
use Rattle.r4_base.specs.Dir.{Entry as DirEntry, dir_fault, entries_of, entry_at, entry_count, entry_key_at}
use Rattle.r4_base.specs.Entries.{EntriesRise, body_room, entries_room}
use Rattle.r4_base.specs.Key.{IsKey, rank}
use Rattle.r4_base.specs.Node.{Item}
use Rattle.r4_base.specs.Stat.{attr_of}
use Rattle.r4_base.specs.Value.{Byte, Stat as StatValue}
use Rattle.r4_base.specs.declared.key.Key.{Key}
use Rattle.r4_base.proofs.Dirs.{accepted, entry_key_fits, length-entries_of}
use Rattle.r4_base.proofs.EntryLists.{entries_in, entries_rise, entry_of, room_is}
use Rattle.r4_leaf.specs.Items.{IsSoundItem, Lie}
use Rattle.r4_leaf.specs.Units.{LeafUnit, bytes_behind, continues_tail, unit_bytes}
use Rattle.r4_leaf.proofs.Lying.{units_cons, units_nil}
use Rattle.r4_leaf.proofs.Rising.{Rise, bytes_rise, rise_append, rise_lower}
use Rattle.r4_leaf.proofs.SoundItems.{IsTailItem, entries_item, stat_item, stat_long, tail_item}
use Rattle.r4_leaf.specs.Measure.{last_or}
use Rattle.r4_leaf.proofs.Weighed.{behind_append, behind_one, entry_weighs, first_number, last_byte, last_entry, run_cost, stat_cost}

-- The units of an item of a leaf: the first has its key, and the last one stands before its end.
pub record IsSpread (x : Item) : Type 0 where
  pub first : LeafUnit
  pub more : List LeafUnit
  pub last : LeafUnit
  pub units : item_units x ≡ first ∷ more
  pub key : first.0 ≡ rank x.key
  pub ends : last_or (Some first) more ≡ Some last
  pub end : last.0 + 1 ≡ item_end x
  pub rise : Rise (rank x.key) (item_end x) (item_units x)
  pub weighs : (before : Option LeafUnit) → bytes_behind before (item_units x) ≤ 38 + length x.body

-- ---- stat data

stat_spread : (x : Item) → x.plugin ≡ 0 → IsSoundItem x → IsSpread x
stat_spread x is s =
    let i = stat_item x is s in
    let end = i.end in
    record {
      first = (rank x.key, StatValue (attr_of x.body));
      more = [];
      last = (rank x.key, StatValue (attr_of x.body));
      units = i.units;
      key = refl;
      ends = refl;
      end = sym i.end;
      rise = subst (Rise (rank x.key) (item_end x)) (sym i.units) (omega arith, omega (arith, end));
      weighs = λ before.
          let same = ap (bytes_behind before) i.units in
          let one = behind_one before (rank x.key, StatValue (attr_of x.body)) in
          let cost = stat_cost before (rank x.key) (attr_of x.body) in
          let long = stat_long x.body i.body in
          omega (arith, same, one, cost, long);
    }

-- ---- bytes of a tail

pub no_bytes : (before : Option LeafUnit) → bytes_behind before [] ≡ 0
unfolding bytes_behind
no_bytes before = refl

header_most : (t : Bool) → (if t then 0 else 38) ≤ 38
header_most true = omega arith
header_most false = omega arith

run_weighs : (before : Option LeafUnit) (k : ℕ) (bs : List ℕ) → bytes_behind before (bytes_from k bs) ≤ 38 + length bs
run_weighs before k [] = let none = no_bytes before in omega (arith, none)
run_weighs before k (b ∷ bs) =
    let all = run_cost before k (b ∷ bs) (omega arith) in
    let most = header_most (continues_tail before k) in
    omega (arith, all, most)

tail_spread : (x : Item) (bs : List ℕ) → bs ≡ x.body → IsTailItem x → IsSpread x
tail_spread x [] is i = let some = i.some in let long = ap length is in absurd (omega (arith, some, long))
tail_spread x (b ∷ bs) is i =
    let units : item_units x ≡ bytes_from (rank x.key) (b ∷ bs) = i.units ∙ ap (bytes_from (rank x.key)) (sym is) in
    let l = last_byte None (rank x.key) (b ∷ bs) (omega arith) in
    let long = ap length is in
    let end = i.end in
    let at = l.2 in
    record {
      first = (rank x.key, Byte b);
      more = bytes_from (rank x.key + 1) bs;
      last = (l.0, Byte l.1);
      units = units;
      key = refl;
      ends = l.3;
      end = omega (arith, at, long, end);
      rise = subst (Rise (rank x.key) (item_end x)) (sym i.units) (subst (λ e. Rise (rank x.key) e (bytes_from (rank x.key) x.body)) (sym i.end) (bytes_rise (rank x.key) x.body));
      weighs = λ before. let same = ap (bytes_behind before) i.units in let all = run_weighs before (rank x.key) x.body in omega (arith, same, all);
    }

-- ---- entries

-- the keys of the entries begin with this number
abbrev AreOf : ℕ → List DirEntry → Type 0
AreOf d es = (k : ℕ) (e : DirEntry) → slice_get es k ≡ Some e → rank e.key / 2 ^ 192 ≡ d

entries_bytes : List DirEntry → ℕ
entries_bytes es = sum_by (λ (x : DirEntry). 26 + body_room x) es

entries_cons : (e : DirEntry) (es : List DirEntry) → entries_bytes (e ∷ es) ≡ (26 + body_room e) + entries_bytes es
unfolding entries_bytes
entries_cons e es = sum_by-cons (λ (x : DirEntry). 26 + body_room x) e es

room_cons : (e : DirEntry) (es : List DirEntry) → entries_room (e ∷ es) ≡ 2 + entries_bytes (e ∷ es)
unfolding entries_bytes entries_room
room_cons e es = refl

next_weighs : (e f : DirEntry) → (rank e.key / 2 ^ 192 == rank f.key / 2 ^ 192) ≡ true → unit_bytes (Some (entry_unit e)) (entry_unit f) ≡ 26 + body_room f
unfolding unit_bytes
next_weighs e f same = rw same (omega arith)

rest_weighs : (d : ℕ) (e : DirEntry) (es : List DirEntry) → AreOf d (e ∷ es) → bytes_behind (Some (entry_unit e)) (map entry_unit es) ≡ entries_bytes es
unfolding bytes_behind entries_bytes
rest_weighs d e [] are = refl
rest_weighs d e (f ∷ es) are =
    let same : (rank e.key / 2 ^ 192 == rank f.key / 2 ^ 192) ≡ true = eq-eqb _ _ (are 0 e refl ∙ sym (are 1 f refl)) in
    let one = next_weighs e f same in
    let rest = rest_weighs d f es (λ k. are (suc k)) in
    let sum = sum_by-cons (λ (x : DirEntry). 26 + body_room x) f es in
    omega (arith, one, rest, sum)

entries_weigh : (d : ℕ) (before : Option LeafUnit) (e : DirEntry) (es : List DirEntry) → AreOf d (e ∷ es) → bytes_behind before (map entry_unit (e ∷ es)) ≤ 38 + entries_room (e ∷ es)
unfolding bytes_behind
entries_weigh d before e es are =
    let one = entry_weighs before (rank e.key) e.name e.target in
    let rest = rest_weighs d e es are in
    let sum = entries_cons e es in
    let room = room_cons e es in
    omega (arith, one.0, rest, sum, room)

row_rise : (lo hi : ℕ) (e : DirEntry) (es : List DirEntry) → EntriesRise (e ∷ es) → lo ≤ rank e.key → ((x : DirEntry) → slice_get (e ∷ es) (length es) ≡ Some x → rank x.key < hi)
    → Rise lo hi (map entry_unit (e ∷ es))
row_rise lo hi e [] rise low last = (low, let h = last e refl in omega (arith, h))
row_rise lo hi e (f ∷ es) rise low last = (
  low,
  row_rise (rank e.key + 1) hi f es
      (λ k x y at next. rise (suc k) x y at (ap (slice_get (e ∷ (f ∷ es))) (let step : suc k + 1 ≡ suc (k + 1) = omega arith in step) ∙ next))
      (let h = rise 0 e f refl refl in omega (arith, h)) last,
)

module _ (key : Key) (body : List ℕ) (is_key : IsKey key) (good : dir_fault key body ≡ None) where
  key_at_place : (k : ℕ) (e : DirEntry) → slice_get (entries_of key body) k ≡ Some e → e.key ≡ entry_key_at key body k
  unfolding entry_at
  key_at_place k e at = ap (λ (y : DirEntry). y.key) (entry_of key body k e at).is

  pub are_of : AreOf (slice_index key.el 0) (entries_of key body)
  are_of k e at =
      let fits : IsKey e.key = subst IsKey (sym (key_at_place k e at)) (entry_key_fits key body k is_key) in
      first_number e.key fits ∙ entries_in key body k e at

  pub first_key : (e : DirEntry) → slice_get (entries_of key body) 0 ≡ Some e → rank e.key ≡ rank key
  first_key e at = ap rank (key_at_place 0 e at) ∙ (accepted key body good).first

  pub last_key : (e : DirEntry) (n : ℕ) → n + 1 ≡ length (entries_of key body) → slice_get (entries_of key body) n ≡ Some e → rank e.key ≡ rank (entry_key_at key body (entry_count body - 1))
  last_key e n long at =
      let count = length-entries_of key body in
      ap rank (key_at_place n e at) ∙ ap (λ m. rank (entry_key_at key body m)) (omega (arith, long, count))

entries_spread : (x : Item) (es : List DirEntry) → es ≡ entries_of x.key x.body → x.plugin ≡ 2 → IsSoundItem x → IsSpread x
entries_spread x [] is plugin s =
    let some = (accepted x.key x.body (entries_item x plugin s).body).some in
    let count = length-entries_of x.key x.body in
    let long = ap length is in
    absurd (omega (arith, some, count, long))
entries_spread x (e ∷ es) is plugin s =
    let i = entries_item x plugin s in
    let units : item_units x ≡ map entry_unit (e ∷ es) = i.units ∙ ap (map entry_unit) (sym is) in
    let l = last_entry None (e ∷ es) (omega arith) in
    let long = ap length is in
    let first : rank e.key ≡ rank x.key = first_key x.key x.body s.key i.body e (ap (λ xs. slice_get xs 0) (sym is)) in
    let end_at : (y : DirEntry) (n : ℕ) → n ≡ length es → slice_get (e ∷ es) n ≡ Some y → rank y.key + 1 ≡ item_end x =
    (λ y n same at.
    let last = last_key x.key x.body s.key i.body y n (omega (arith, same, long)) (ap (λ xs. slice_get xs n) (sym is) ∙ at) in
    ap (λ m. m + 1) last ∙ sym i.end) in
    record {
      first = entry_unit e;
      more = map entry_unit es;
      last = entry_unit l.0;
      units = units;
      key = first;
      ends = l.2;
      end = end_at l.0 (length (e ∷ es) - 1) (omega arith) l.1;
      rise = subst (Rise (rank x.key) (item_end x)) (sym units)
          (row_rise (rank x.key) (item_end x) e es (subst EntriesRise (sym is) (entries_rise x.key x.body i.body)) (omega (arith, first))
          (λ y at. let end = end_at y (length es) refl at in omega (arith, end)));
      weighs = λ before.
          let same = ap (bytes_behind before) units in
          let all = entries_weigh (slice_index x.key.el 0) before e es (subst (AreOf (slice_index x.key.el 0)) (sym is) (are_of x.key x.body s.key i.body)) in
          let room = ap entries_room is ∙ room_is x.key x.body i.body in
          omega (arith, same, all, room);
    }

pub spread : (x : Item) → IsSoundItem x → IsSpread x
spread x s = by_plugin s.plugin
  where
    by_plugin : (x.plugin ≡ 0) ⊎ ((x.plugin ≡ 2) ⊎ (x.plugin ≡ 6)) → IsSpread x
    by_plugin (inl is) = stat_spread x is s
    by_plugin (inr (inl is)) = entries_spread x (entries_of x.key x.body) refl is s
    by_plugin (inr (inr is)) = tail_spread x x.body refl (tail_item x is s)

-- ---- items one after the other

pub lie_rise : (lo hi : ℕ) (xs : List Item) → Lie lo hi xs → Rise lo hi (units_in xs)
lie_rise lo hi [] h = subst (Rise lo hi) (sym units_nil) h
lie_rise lo hi (x ∷ xs) h =
    subst (Rise lo hi) (sym (units_cons x xs))
    (rise_append lo (item_end x) hi (item_units x) (units_in xs) (rise_lower (rank x.key) lo (item_end x) (item_units x) h.0 (spread x h.1).rise) (lie_rise (item_end x) hi xs h.2))

-- units behind those of which this is the last
rise_after : (u w : LeafUnit) (hi : ℕ) (us vs : List LeafUnit) → Rise (u.0 + 1) hi (us ++ vs) → last_or (Some u) us ≡ Some w → Rise (w.0 + 1) hi vs
rise_after u w hi [] vs h e = subst (λ (y : LeafUnit). Rise (y.0 + 1) hi vs) (same_Some u w e) h
rise_after u w hi (v ∷ us) vs h e = rise_after v w hi us vs h.1 e

-- items whose units lie in a range may stand in it
pub lie_narrower : (lo hi low high : ℕ) (xs : List Item) → Lie lo hi xs → Rise low high (units_in xs) → Lie low high xs
lie_narrower lo hi low high [] h r = subst (Rise low high) units_nil r
lie_narrower lo hi low high (x ∷ xs) h r =
    let s = spread x h.1 in
    let all : Rise low high (s.first ∷ (s.more ++ units_in xs)) = subst (Rise low high) (units_cons x xs ∙ ap (λ us. us ++ units_in xs) s.units) r in
    let key = s.key in
    let from = all.0 in
    let rest : Rise (item_end x) high (units_in xs) = subst (λ k. Rise k high (units_in xs)) s.end (rise_after s.first s.last high s.more (units_in xs) all.1 s.ends) in
    (omega (arith, key, from), h.1, lie_narrower (item_end x) hi (item_end x) high xs h.2 rest)
