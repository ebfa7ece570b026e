-- The entries of a leaf of a tree, and what is left of a directory from a place of it on.
use Rattle.std.proofs.Common.{◌≡◌, ◌≢◌, inl, inr, ℕ, zero, suc, ◌+◌, ◌*◌, ◌/◌, ◌%◌, ◌^◌, ◌<◌, ◌≤◌, Bool, true, List, [], ◌∷◌, length, sym, ap, subst, ◌∙◌, arith}
use Rattle.std.specs.Prelude.{Some, None, slice_get, slice_index, not, ◌||◌, nat_le, nat_lt, ◌==◌, if◌then◌else◌}
use Rattle.std.proofs.lemmas.Bool.{and_parts, ltb-true}
use Rattle.std.proofs.Math.Decide.{dec_le, ℕ_discrete}
use Rattle.std.proofs.Math.Nat.{lt_of_not-le}
use Rattle.std.proofs.lemmas.Option.{same_Some, slice_get_within}
use Rattle.r4_base.specs.Cell.{item_body_fault, item_end, items_in_fault, next_key, offsets_fit, range_is_good}
use Rattle.r4_base.specs.declared.items.CellFault.TheVariants.{Range}
use Rattle.r4_base.specs.Dir.{Entry as DirEntry, dir_fault, entries_of, entry_at, entry_key_at}
use Rattle.r4_base.specs.Key.{IsKey, rank, key_of_rank, minor_of}
use Rattle.r4_base.specs.Name.{dir_of_key}
use Rattle.r4_base.specs.Node.{Item, KeysRise, items_of}
use Rattle.r4_base.specs.declared.key.Key.{Key}
use Rattle.r4_base.proofs.Dirs.{accepted, get-entries_of, length-entries_of, keys_apart}
use Rattle.r4_base.proofs.Choices.{chosen, or_none}
use Rattle.r4_cell.specs.Seen.{CellSeen}
use Rattle.r4_cell.proofs.Items.{good_item}
use Rattle.r4_cell.proofs.NodesAt.{node_at}
use Rattle.r4_search.proofs.Places.{item_in}
use Rattle.r4_search.specs.Pool.{StandsInMemory}
use Rattle.r4_list.specs.Frame.{EntryAt, IsFrom}
use Rattle.r4_units.proofs.Leaves.{keys_rise}
use Rattle.r4_units.proofs.Rising.{rises}
use Rattle.r4_units.proofs.LeafUnits.{dir_accepted}
use Rattle.r4_units.proofs.ItemUnits.{ends_before, entry_is_key, entry_within, item_is_key}

-- ---- an entry's key

entry_is : (item : Key) (b : List ℕ) (j : ℕ) (e : DirEntry) → slice_get (entries_of item b) j ≡ Some e → entry_at item b j ≡ e
entry_is item b j e at =
    let within = slice_get_within (entries_of item b) j e at in
    let count = length-entries_of item b in
    same_Some (entry_at item b j) e (sym (get-entries_of item b j (omega (arith, within, count))) ∙ at)

-- it begins with the number with which its item's key begins
first_same : (item : Key) (b : List ℕ) (j : ℕ) (e : DirEntry) → slice_get (entries_of item b) j ≡ Some e → slice_index e.key.el 0 ≡ slice_index item.el 0
unfolding entry_at entry_key_at
first_same item b j e at = ap (λ (x : DirEntry). slice_index x.key.el 0) (sym (entry_is item b j e at))

key_same : (item : Key) (b : List ℕ) (j : ℕ) (e : DirEntry) → slice_get (entries_of item b) j ≡ Some e → rank (entry_key_at item b j) ≡ rank e.key
unfolding entry_at
key_same item b j e at = ap (λ (x : DirEntry). rank x.key) (entry_is item b j e at)

in_order : (item : Key) (b : List ℕ) (j h : ℕ) (x y : DirEntry) → dir_fault item b ≡ None → slice_get (entries_of item b) j ≡ Some x → slice_get (entries_of item b) h ≡ Some y → j < h → rank x.key < rank y.key
in_order item b j h x y good ex ey lt =
    let count = length-entries_of item b in
    let within = slice_get_within (entries_of item b) h y ey in
    let up = keys_apart item b j h (accepted item b good) lt (omega (arith, within, count)) in
    let kx = key_same item b j x ex in
    let ky = key_same item b h y ey in
    omega (arith, up, kx, ky)

-- the rank of a key lies at its first number
digits_between : (a b c d : ℕ) → b < 2 ^ 64 → c < 2 ^ 64 → d < 2 ^ 64 → a * 2 ^ 192 + (b * 2 ^ 128 + (c * 2 ^ 64 + d)) < (a + 1) * 2 ^ 192
digits_between a b c d lb lc ld = omega (arith, lb, lc, ld)

pub first_low : (k : Key) → slice_index k.el 0 * 2 ^ 192 ≤ rank k
unfolding rank
first_low k = from (slice_index k.el 0) (slice_index k.el 1 * 2 ^ 128 + (slice_index k.el 2 * 2 ^ 64 + slice_index k.el 3))
  where
    from : (a rest : ℕ) → a * 2 ^ 192 ≤ a * 2 ^ 192 + rest
    from a rest = omega arith

pub first_high : (k : Key) → IsKey k → rank k < (slice_index k.el 0 + 1) * 2 ^ 192
unfolding rank
first_high k is = digits_between (slice_index k.el 0) (slice_index k.el 1) (slice_index k.el 2) (slice_index k.el 3) (is.small 1) (is.small 2) (is.small 3)

divided : (r a : ℕ) → a * 2 ^ 192 ≤ r → r < (a + 1) * 2 ^ 192 → r / 2 ^ 192 ≡ a
divided r a low high = omega (arith, low, high)

divided_sixteen : (a dir : ℕ) → a ≡ dir * 16 → a / 16 ≡ dir
divided_sixteen a dir is = omega (arith, is)

pub dir_of_rank : (r a dir : ℕ) → a * 2 ^ 192 ≤ r → r < (a + 1) * 2 ^ 192 → a ≡ dir * 16 → dir_of_key (key_of_rank r) ≡ dir
unfolding key_of_rank
dir_of_rank r a dir low high is = ap (λ (x : ℕ). x / 16) (divided r a low high) ∙ divided_sixteen a dir is

whole_number : (a dir : ℕ) → a / 16 ≡ dir → a % 16 ≡ 0 → a ≡ dir * 16
whole_number a dir d r = omega (arith, d, r)

pub number_of_rank : (r dir : ℕ) → dir_of_key (key_of_rank r) ≡ dir → minor_of (key_of_rank r) ≡ 0 → r / 2 ^ 192 ≡ dir * 16
unfolding key_of_rank
number_of_rank r dir d z = whole_number (r / 2 ^ 192) dir d z

pub between : (r a : ℕ) → r / 2 ^ 192 ≡ a → (a * 2 ^ 192 ≤ r) × (r < (a + 1) * 2 ^ 192)
between r a is = (omega (arith, is), omega (arith, is))

pub other_above : (a number rank : ℕ) → a ≢ number → number * 2 ^ 192 ≤ rank → a * 2 ^ 192 ≤ rank → rank < (a + 1) * 2 ^ 192 → (number + 1) * 2 ^ 192 ≤ rank
other_above a number r other low from to = elim (dec_le a number) [
  | yes le ↦ elim (ℕ_discrete a number) [
    | yes same ↦ absurd (other same)
    | no differs ↦ let lt : a + 1 ≤ number = omega (arith, le, differs) in omega (arith, lt, low, to)
  ]
  | no gt ↦ let lt = lt_of_not-le gt in omega (arith, lt, from)
]

-- where the items of a node begin and end
pub items_from : (in_memory : Bool) (blocks level lo hi from : ℕ) (items : List Item) (i : ℕ) (it : Item) → items_in_fault in_memory blocks level lo hi from items ≡ None → slice_get items i ≡ Some it → lo ≤ rank it.key
items_from in_memory blocks level lo hi from [] i it h is = absurd cc
items_from in_memory blocks level lo hi from (x ∷ items) zero it h is = let low = (good_item in_memory blocks level lo hi from x items h).range.low in subst (λ (a : Item). lo ≤ rank a.key) (same_Some x it is) low
items_from in_memory blocks level lo hi from (x ∷ items) (suc i) it h is = items_from in_memory blocks level lo hi (from + 1) items i it (good_item in_memory blocks level lo hi from x items h).rest is

key_below : (level lo hi next i : ℕ) (it : Item) → range_is_good level lo hi next i it ≡ true → rank it.key < hi
key_below level lo hi next i it good =
    let a = and_parts _ (nat_le level 1 || not (i == 0) || rank it.key == lo) good in
    let b = and_parts _ (nat_le (item_end it) next) a.0 in
    let c = and_parts _ (nat_le (item_end it) hi) b.0 in
    let d = and_parts _ (offsets_fit it) c.0 in
    ltb-true _ _ (and_parts (nat_le lo (rank it.key)) (nat_lt (rank it.key) hi) d.0).1

items_below : (level lo hi from : ℕ) (items : List Item) (i : ℕ) (it : Item) → items_in_fault true (2 ^ 64) level lo hi from items ≡ None → slice_get items i ≡ Some it → rank it.key < hi
unfolding items_in_fault
items_below level lo hi from [] i it h is = absurd cc
items_below level lo hi from (x ∷ items) zero it h is =
    let first = or_none (item_body_fault true (2 ^ 64) x) _ h in
    let rest = or_none (if range_is_good level lo hi (next_key hi items) from x then None else Some (Range from)) _ first.1 in
    subst (λ (a : Item). rank a.key < hi) (same_Some x it is) (key_below level lo hi (next_key hi items) from x (chosen _ (Range from) rest.0))
items_below level lo hi from (x ∷ items) (suc i) it h is = items_below level lo hi (from + 1) items i it (good_item true (2 ^ 64) level lo hi from x items h).rest is

-- ---- the entries of a leaf

module _ (x : CellSeen) (whole : length x.block ≡ 4096) (leaf : x.level ≡ 1) (stands : StandsInMemory x) where
  rise : KeysRise (items_of x.block)
  rise = keys_rise x whole (omega (arith, leaf)) stands

  good : items_in_fault true (2 ^ 64) x.level (rank x.lo) (rank x.hi) 0 (items_of x.block) ≡ None
  good = (node_at true (2 ^ 64) x.level (rank x.lo) (rank x.hi) x.block (omega (arith, leaf)) stands).items

  pub item_low : (i : ℕ) (it : Item) → slice_get (items_of x.block) i ≡ Some it → rank x.lo ≤ rank it.key
  item_low i it is = items_from true (2 ^ 64) x.level (rank x.lo) (rank x.hi) 0 (items_of x.block) i it good is

  pub item_high : (i : ℕ) (it : Item) → slice_get (items_of x.block) i ≡ Some it → rank it.key < rank x.hi
  item_high i it is = items_below x.level (rank x.lo) (rank x.hi) 0 (items_of x.block) i it good is

  pub within : (i j : ℕ) (e : DirEntry) (h : EntryAt x i j e) → (rank h.item.key ≤ rank e.key) × (rank e.key < item_end h.item)
  within i j e h = entry_within h.item j e h.plugin (dir_accepted x whole leaf stands i h.item h.is h.plugin) h.at

  pub items_order : (i h : ℕ) (a b : Item) → slice_get (items_of x.block) i ≡ Some a → slice_get (items_of x.block) h ≡ Some b → i ≤ h → rank a.key ≤ rank b.key
  items_order i h a b ea eb le = elim (ℕ_discrete i h) [
    | yes same ↦ let k = ap (λ (z : Item). rank z.key) (same_Some a b (sym ea ∙ (ap (slice_get (items_of x.block)) same ∙ eb))) in omega (arith, k)
    | no other ↦ let lt = rises (items_of x.block) rise i h a b ea eb (omega (arith, le, other)) in omega (arith, lt)
  ]

  -- the keys of entries rise
  pub entries_rise : (i j h g : ℕ) (a b : DirEntry) → EntryAt x i j a → EntryAt x h g b → IsFrom i (j + 1) h g → rank a.key < rank b.key
  entries_rise i j h g a b ea eb (inl lt) =
      let (y, ey) = item_in (items_of x.block) (i + 1) (let w = slice_get_within (items_of x.block) h eb.item eb.is in omega (arith, lt, w)) in
      let end = ends_before x.level (rank x.lo) (rank x.hi) 0 (items_of x.block) i ea.item y good ea.is ey in
      let (_, to) = within i j a ea in
      let (from, _) = within h g b eb in
      let up = items_order (i + 1) h y eb.item ey eb.is (omega (arith, lt)) in
      omega (arith, end, to, from, up)
  entries_rise i j h g a b ea eb (inr (same, le)) =
      let item : eb.item ≡ ea.item = same_Some eb.item ea.item (sym eb.is ∙ (ap (slice_get (items_of x.block)) (sym same) ∙ ea.is)) in
      let at = subst (λ (it : Item). slice_get (entries_of it.key it.body) g ≡ Some b) item eb.at in
      in_order ea.item.key ea.item.body j g a b (dir_accepted x whole leaf stands i ea.item ea.is ea.plugin) ea.at at (omega (arith, le))

  pub entry_first : (i j : ℕ) (e : DirEntry) (h : EntryAt x i j e) → slice_index e.key.el 0 ≡ slice_index h.item.key.el 0
  entry_first i j e h = first_same h.item.key h.item.body j e h.at

  pub entry_key : (i j : ℕ) (e : DirEntry) (h : EntryAt x i j e) → IsKey e.key
  entry_key i j e h = entry_is_key h.item.key h.item.body j e (item_is_key x.block i h.item h.is) h.at
