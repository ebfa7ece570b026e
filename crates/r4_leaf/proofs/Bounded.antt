-- How many bytes a leaf's units need at most where an item is put in, or some are cut out.
use Rattle.std.proofs.Common.{◌≡◌, ◌⊎◌, ℕ, ◌+◌, ◌*◌, ◌≤◌, Bool, true, false, not, List, [], ◌∷◌, ◌++◌, length, map, inl, inr, refl, sym, ap, subst, ◌∙◌, arith}
use Rattle.std.specs.Prelude.{Contains, nat_lt, Option, None, Some, ◌==◌, if◌then◌else◌}
use Rattle.std.specs.List.{sum_by}
use Rattle.std.proofs.lemmas.Bool.{cases_lt}
use Rattle.std.proofs.lemmas.Bool.Decides.{nat_tests}
use Rattle.std.proofs.lemmas.List.Elements.{Contains-append_right, filter-append}
use Rattle.std.proofs.lemmas.List.Sums.{sum_by-cons}
use Rattle.r4_base.specs.Cell.{bytes_from, entry_unit, item_end, item_units, units_in}
use Rattle.r4_base.specs.Dir.{Entry as DirEntry, entries_of}
use Rattle.r4_base.specs.Entries.{body_room, entries_room}
use Rattle.r4_base.specs.Key.{rank}
use Rattle.r4_base.specs.Node.{Item, items_of}
use Rattle.r4_base.specs.Stat.{attr_of}
use Rattle.r4_base.specs.Value.{Byte, Stat as StatValue}
use Rattle.r4_base.proofs.EntryLists.{room_is}
use Rattle.r4_node40.specs.Laid.{IsLaid}
use Rattle.r4_node40.proofs.Accepted.{space}
use Rattle.r4_leaf.specs.Items.{IsSoundItem, Lie}
use Rattle.r4_leaf.specs.Leaves.{AreApart}
use Rattle.r4_leaf.specs.Units.{LeafUnit, bytes_behind, cut_units, is_between, leaf_bytes, put_unit, put_units, unit_bytes}
use Rattle.r4_leaf.proofs.Lying.{units_cons, units_nil}
use Rattle.r4_leaf.proofs.Merged.{byte_at, first_in}
use Rattle.r4_leaf.proofs.Rising.{Rise, below_kept, between_cut, bytes_rise, cut_high, put_behind, rise_lower}
use Rattle.r4_leaf.proofs.SoundItems.{entries_item, stat_item, stat_long, tail_item}
use Rattle.r4_leaf.proofs.Weighed.{behind_append, behind_one, byte_cost, entry_weighs, headed, run_cost, stat_cost, tail_weighs}
use Rattle.r4_leaf.specs.Measure.{last_or}

-- the bytes of entries, each with its header
entries_bytes : List DirEntry → ℕ
entries_bytes es = sum_by (λ (x : DirEntry). 26 + body_room x) es

-- the bytes of items, each with its header
items_bytes : List Item → ℕ
items_bytes xs = sum_by (λ (x : Item). 38 + length x.body) xs

entries_cons : (e : DirEntry) (es : List DirEntry) → entries_bytes (e ∷ es) ≡ (26 + body_room e) + entries_bytes es
unfolding entries_bytes
entries_cons e es = sum_by-cons (λ (x : DirEntry). 26 + body_room x) e es

items_cons : (x : Item) (xs : List Item) → items_bytes (x ∷ xs) ≡ (38 + length x.body) + items_bytes xs
unfolding items_bytes
items_cons x xs = sum_by-cons (λ (y : Item). 38 + length y.body) x xs

entries_least : (es : List DirEntry) → entries_bytes es ≤ entries_room es
unfolding entries_bytes entries_room
entries_least [] = omega arith
entries_least (e ∷ es) = omega arith

-- ---- the units of an item, all or without some

entries_behind : (before : Option LeafUnit) (es : List DirEntry) → bytes_behind before (map entry_unit es) ≤ 2 * entries_bytes es
unfolding bytes_behind
entries_behind before [] = omega arith
entries_behind before (e ∷ es) =
    let one = entry_weighs before (rank e.key) e.name e.target in
    let rest = entries_behind (Some (entry_unit e)) es in
    let sum = entries_cons e es in
    omega (arith, one.0, one.1, rest, sum)

kept_or_not : (before : Option LeafUnit) (u : LeafUnit) (rest : List LeafUnit) (n : ℕ) (t : Bool) → unit_bytes before u + bytes_behind (Some u) rest ≤ n → bytes_behind before rest ≤ n
    → bytes_behind before (if t then u ∷ rest else rest) ≤ n
unfolding bytes_behind
kept_or_not before u rest n true kept gone = kept
kept_or_not before u rest n false kept gone = gone

entries_cut : (from to : ℕ) (before : Option LeafUnit) (es : List DirEntry) → bytes_behind before (cut_units from to (map entry_unit es)) ≤ 2 * entries_bytes es
unfolding bytes_behind
entries_cut from to before [] = omega arith
entries_cut from to before (e ∷ es) =
    let one = entry_weighs before (rank e.key) e.name e.target in
    let kept = entries_cut from to (Some (entry_unit e)) es in
    let gone = entries_cut from to before es in
    let sum = entries_cons e es in
    kept_or_not before (entry_unit e) (cut_units from to (map entry_unit es)) (2 * entries_bytes (e ∷ es)) (not (is_between from to (rank e.key))) (omega (arith, one.0, one.1, kept, sum)) (omega (arith, gone, sum))

run_behind : (before : Option LeafUnit) (k : ℕ) (bs : List ℕ) → bytes_behind before (bytes_from k bs) ≤ length bs + 38
unfolding bytes_behind
run_behind before k [] = omega arith
run_behind before k (b ∷ bs) = let all = run_cost before k (b ∷ bs) (omega arith) in let one = byte_cost before k b in let most = tail_weighs before k b in omega (arith, all, one, most)

-- behind the first key, only the first byte that is kept has a header
run_cut_on : (from to : ℕ) (before : Option LeafUnit) (k : ℕ) (bs : List ℕ) → from ≤ k → bytes_behind before (cut_units from to (bytes_from k bs)) ≤ length bs + 38
unfolding bytes_behind
run_cut_on from to before k [] le = omega arith
run_cut_on from to before k (b ∷ bs) le = elim (cases_lt k to) [
  | inl within ↦
      let gone = between_cut from to k le within in
      let rest = run_cut_on from to before (k + 1) bs (omega (arith, le)) in
      rw gone (omega (arith, rest))
  | inr past ↦
      let same = ap (bytes_behind before) (cut_high from to k (k + length (b ∷ bs)) (bytes_from k (b ∷ bs)) past (bytes_rise k (b ∷ bs))) in
      let all = run_behind before k (b ∷ bs) in
      omega (arith, same, all)
]

-- a byte behind the one before it has no header
next_cut : (from to : ℕ) (k x : ℕ) (bs : List ℕ) → bytes_behind (Some (k, Byte x)) (cut_units from to (bytes_from (k + 1) bs)) ≤ length bs + 38
unfolding bytes_behind
next_cut from to k x [] = omega arith
next_cut from to k x (b ∷ bs) = elim (cases_lt (k + 1) from) [
  | inl below ↦
      let kept = below_kept from to (k + 1) below in
      let rest = next_cut from to (k + 1) b bs in
      let one = byte_cost (Some (k, Byte x)) (k + 1) b in
      let test : (k + 1 == k + 1) ≡ true = grind (arith, nat_tests) in
      let free = rw test at one in
      rw kept (omega (arith, rest, free))
  | inr past ↦ run_cut_on from to (Some (k, Byte x)) (k + 1) (b ∷ bs) past
]

run_cut : (from to : ℕ) (before : Option LeafUnit) (k : ℕ) (bs : List ℕ) → bytes_behind before (cut_units from to (bytes_from k bs)) ≤ length bs + 76
unfolding bytes_behind
run_cut from to before k [] = omega arith
run_cut from to before k (b ∷ bs) = elim (cases_lt k from) [
  | inl below ↦
      let kept = below_kept from to k below in
      let rest = next_cut from to k b bs in
      let one = tail_weighs before k b in
      rw kept (omega (arith, rest, one))
  | inr past ↦ let h = run_cut_on from to before k (b ∷ bs) past in omega (arith, h)
]

module _ (x : Item) (s : IsSoundItem x) where
  item_behind : (before : Option LeafUnit) → bytes_behind before (item_units x) ≤ 2 * (38 + length x.body)
  item_behind before = by_plugin s.plugin
    where
      by_plugin : (x.plugin ≡ 0) ⊎ ((x.plugin ≡ 2) ⊎ (x.plugin ≡ 6)) → bytes_behind before (item_units x) ≤ 2 * (38 + length x.body)
      by_plugin (inl is) =
          let i = stat_item x is s in
          let same = ap (bytes_behind before) i.units in
          let one = behind_one before (rank x.key, StatValue (attr_of x.body)) in
          let cost = stat_cost before (rank x.key) (attr_of x.body) in
          let long = stat_long x.body i.body in
          omega (arith, same, one, cost, long)
      by_plugin (inr (inl is)) =
          let i = entries_item x is s in
          let same = ap (bytes_behind before) i.units in
          let all = entries_behind before (entries_of x.key x.body) in
          let room = room_is x.key x.body i.body in
          let least = entries_least (entries_of x.key x.body) in
          omega (arith, same, all, room, least)
      by_plugin (inr (inr is)) =
          let i = tail_item x is s in
          let same = ap (bytes_behind before) i.units in
          let all = run_behind before (rank x.key) x.body in
          omega (arith, same, all)

  item_cut : (from to : ℕ) (before : Option LeafUnit) → bytes_behind before (cut_units from to (item_units x)) ≤ 2 * (38 + length x.body)
  unfolding bytes_behind
  item_cut from to before = by_plugin s.plugin
    where
      by_plugin : (x.plugin ≡ 0) ⊎ ((x.plugin ≡ 2) ⊎ (x.plugin ≡ 6)) → bytes_behind before (cut_units from to (item_units x)) ≤ 2 * (38 + length x.body)
      by_plugin (inl is) =
          let i = stat_item x is s in
          let same = ap (λ us. bytes_behind before (cut_units from to us)) i.units in
          let cost = stat_cost before (rank x.key) (attr_of x.body) in
          let long = stat_long x.body i.body in
          let one = kept_or_not before (rank x.key, StatValue (attr_of x.body)) [] 82 (not (is_between from to (rank x.key))) (omega (arith, cost)) (omega arith) in
          omega (arith, same, one, long)
      by_plugin (inr (inl is)) =
          let i = entries_item x is s in
          let same = ap (λ us. bytes_behind before (cut_units from to us)) i.units in
          let all = entries_cut from to before (entries_of x.key x.body) in
          let room = room_is x.key x.body i.body in
          let least = entries_least (entries_of x.key x.body) in
          omega (arith, same, all, room, least)
      by_plugin (inr (inr is)) =
          let i = tail_item x is s in
          let same = ap (λ us. bytes_behind before (cut_units from to us)) i.units in
          let all = run_cut from to before (rank x.key) x.body in
          omega (arith, same, all)

items_behind : (lo hi : ℕ) (before : Option LeafUnit) (xs : List Item) → Lie lo hi xs → bytes_behind before (units_in xs) ≤ 2 * items_bytes xs
unfolding bytes_behind
items_behind lo hi before [] h = let none = ap (bytes_behind before) units_nil in omega (arith, none)
items_behind lo hi before (x ∷ xs) h =
    let same = ap (bytes_behind before) (units_cons x xs) in
    let both = behind_append before (item_units x) (units_in xs) in
    let one = item_behind x h.1 before in
    let rest = items_behind (item_end x) hi (last_or before (item_units x)) xs h.2 in
    let sum = items_cons x xs in
    omega (arith, same, both, one, rest, sum)

items_cut : (lo hi from to : ℕ) (before : Option LeafUnit) (xs : List Item) → Lie lo hi xs → bytes_behind before (cut_units from to (units_in xs)) ≤ 2 * items_bytes xs
unfolding bytes_behind
items_cut lo hi from to before [] h = let none = ap (λ us. bytes_behind before (cut_units from to us)) units_nil in omega (arith, none)
items_cut lo hi from to before (x ∷ xs) h =
    let same = ap (bytes_behind before) (ap (cut_units from to) (units_cons x xs) ∙ filter-append _ (item_units x) (units_in xs)) in
    let both = behind_append before (cut_units from to (item_units x)) (cut_units from to (units_in xs)) in
    let one = item_cut x h.1 from to before in
    let rest = items_cut (item_end x) hi from to (last_or before (cut_units from to (item_units x))) xs h.2 in
    let sum = items_cons x xs in
    omega (arith, same, both, one, rest, sum)

-- ---- units that are put in

put_one : (before : Option LeafUnit) (u : LeafUnit) (us : List LeafUnit) → bytes_behind before (put_unit u us) ≤ bytes_behind before us + (unit_bytes None u + 40)
unfolding bytes_behind
put_one before u [] = let h = (headed before u).0 in omega (arith, h)
put_one before u (x ∷ xs) = by_test (nat_lt u.0 x.0) (put_one (Some x) u xs)
  where
    by_test : (t : Bool) → bytes_behind (Some x) (put_unit u xs) ≤ bytes_behind (Some x) xs + (unit_bytes None u + 40)
        → bytes_behind before (if t then u ∷ (x ∷ xs) else x ∷ put_unit u xs) ≤ unit_bytes before x + bytes_behind (Some x) xs + (unit_bytes None u + 40)
    by_test true rest =
        let own = (headed before u).0 in
        let next = (headed (Some u) x).0 in
        let was = (headed before x).1 in
        omega (arith, own, next, was)
    by_test false rest = omega (arith, rest)

put_entries : (es : List DirEntry) (us : List LeafUnit) → leaf_bytes (put_units (map entry_unit es) us) ≤ leaf_bytes us + 3 * entries_bytes es
put_entries [] us = omega arith
put_entries (e ∷ es) us =
    let one = put_one None (entry_unit e) (put_units (map entry_unit es) us) in
    let weighs = entry_weighs None (rank e.key) e.name e.target in
    let rest = put_entries es us in
    let sum = entries_cons e es in
    omega (arith, one, weighs.0, weighs.1, rest, sum)

-- units that are all behind the first one, and such that are all before it
put_past : (b : ℕ) (gs us : List LeafUnit) (x : LeafUnit) → Rise (x.0 + 1) b gs → put_units gs (x ∷ us) ≡ x ∷ put_units gs us
put_past b [] us x h = refl
put_past b (g ∷ gs) us x h =
    let low = h.0 in
    ap (put_unit g) (put_past b gs us x (rise_lower (g.0 + 1) (x.0 + 1) b gs (omega (arith, low)) h.1)) ∙ put_behind g x.0 (x ∷ []) (put_units gs us) (omega arith, low)

put_ahead : (a b : ℕ) (gs us : List LeafUnit) (x : LeafUnit) → b ≤ x.0 → Rise a b gs → put_units gs (x ∷ us) ≡ gs ++ x ∷ us
put_ahead a b [] us x le h = refl
put_ahead a b (g ∷ gs) us x le h = ap (put_unit g) (put_ahead (g.0 + 1) b gs us x le h.1) ∙ first gs h.1
  where
    first : (gs : List LeafUnit) → Rise (g.0 + 1) b gs → put_unit g (gs ++ x ∷ us) ≡ g ∷ (gs ++ x ∷ us)
    first [] r = let before : nat_lt g.0 x.0 ≡ true = grind (arith, nat_tests, le, r) in rw before refl
    first (y ∷ ys) r = let low = r.0 in let before : nat_lt g.0 y.0 ≡ true = grind (arith, nat_tests, low) in rw before refl

put_alone : (a b : ℕ) (gs : List LeafUnit) → Rise a b gs → put_units gs [] ≡ gs
put_alone a b [] h = refl
put_alone a b (g ∷ gs) h = ap (put_unit g) (put_alone (g.0 + 1) b gs h.1) ∙ first gs h.1
  where
    first : (gs : List LeafUnit) → Rise (g.0 + 1) b gs → put_unit g gs ≡ g ∷ gs
    first [] r = refl
    first (y ∷ ys) r = let low = r.0 in let before : nat_lt g.0 y.0 ≡ true = grind (arith, nat_tests, low) in rw before refl

-- a run of bytes stays whole
put_run_bytes : (k : ℕ) (bs : List ℕ) (before : Option LeafUnit) (us : List LeafUnit) → AreApart us (bytes_from k bs) → bytes_behind before (put_units (bytes_from k bs) us) ≤ bytes_behind before us + (length bs + 78)
unfolding bytes_behind
put_run_bytes k bs before [] apart =
    let same = ap (bytes_behind before) (put_alone k (k + length bs) (bytes_from k bs) (bytes_rise k bs)) in
    let all = run_behind before k bs in
    omega (arith, same, all)
put_run_bytes k bs before (x ∷ us) apart = elim (cases_lt x.0 k) [
  | inl below ↦
      let same = ap (bytes_behind before) (put_past (k + length bs) (bytes_from k bs) us x (rise_lower k (x.0 + 1) (k + length bs) (bytes_from k bs) (omega (arith, below)) (bytes_rise k bs))) in
      let rest = put_run_bytes k bs (Some x) us (λ j v w a b. apart j v w (Contains-append_right (x ∷ []) us (j, v) a) b) in
      omega (arith, same, rest)
  | inr past ↦ elim (cases_lt x.0 (k + length bs)) [
    | inl within ↦ let h = byte_at k bs x.0 past within in absurd (apart x.0 x.1 h.0 (first_in x x us refl) h.1)
    | inr above ↦
        let same = ap (bytes_behind before) (put_ahead k (k + length bs) (bytes_from k bs) us x above (bytes_rise k bs)) in
        let both = behind_append before (bytes_from k bs) (x ∷ us) in
        let all = run_behind before k bs in
        let next = (headed (last_or before (bytes_from k bs)) x).0 in
        let was = (headed before x).1 in
        omega (arith, same, both, all, next, was)
  ]
]

put_item : (x : Item) (us : List LeafUnit) → IsSoundItem x → AreApart us (item_units x) → leaf_bytes (put_units (item_units x) us) ≤ leaf_bytes us + 3 * (38 + length x.body)
put_item x us s apart = by_plugin s.plugin
  where
    by_plugin : (x.plugin ≡ 0) ⊎ ((x.plugin ≡ 2) ⊎ (x.plugin ≡ 6)) → leaf_bytes (put_units (item_units x) us) ≤ leaf_bytes us + 3 * (38 + length x.body)
    by_plugin (inl is) =
        let i = stat_item x is s in
        let same = ap (λ gs. leaf_bytes (put_units gs us)) i.units in
        let one = put_one None (rank x.key, StatValue (attr_of x.body)) us in
        let cost = stat_cost None (rank x.key) (attr_of x.body) in
        let long = stat_long x.body i.body in
        omega (arith, same, one, cost, long)
    by_plugin (inr (inl is)) =
        let i = entries_item x is s in
        let same = ap (λ gs. leaf_bytes (put_units gs us)) i.units in
        let all = put_entries (entries_of x.key x.body) us in
        let room = room_is x.key x.body i.body in
        let least = entries_least (entries_of x.key x.body) in
        omega (arith, same, all, room, least)
    by_plugin (inr (inr is)) =
        let i = tail_item x is s in
        let same = ap (λ gs. leaf_bytes (put_units gs us)) i.units in
        let all = put_run_bytes (rank x.key) x.body None us (λ j v w a b. apart j v w a (subst (λ gs. Contains gs (j, w)) (sym i.units) b)) in
        omega (arith, same, all)

-- ---- a leaf's units

module _ (lo hi : ℕ) (b : List ℕ) (laid : IsLaid b) (lie : Lie lo hi (items_of b)) where
  fits : items_bytes (items_of b) ≤ 4068
  unfolding items_bytes
  fits = let s = space b laid in omega (arith, s)

  pub put_bound : (x : Item) → IsSoundItem x → length x.body ≤ 4030 → AreApart (units_in (items_of b)) (item_units x) → leaf_bytes (put_units (item_units x) (units_in (items_of b))) ≤ 20340
  put_bound x s short apart =
      let all = items_behind lo hi None (items_of b) lie in
      let more = put_item x (units_in (items_of b)) s apart in
      let f = fits in
      omega (arith, all, more, f, short)

  pub cut_bound : (from to : ℕ) → leaf_bytes (cut_units from to (units_in (items_of b))) ≤ 8136
  cut_bound from to = let all = items_cut lo hi from to None (items_of b) lie in let f = fits in omega (arith, all, f)
