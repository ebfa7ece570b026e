-- The units of a leaf: the item that has one, and where that stands among the items.
use Rattle.std.proofs.Common.{◌≡◌, inl, inr, ℕ, zero, suc, ◌+◌, ◌-◌, ◌*◌, ◌^◌, ◌<◌, ◌≤◌, Bool, true, false, List, [], ◌∷◌, map, refl, sym, ap, subst, ◌∙◌, arith}
use Rattle.std.specs.Prelude.{Some, None, Contains, slice_get, ◌==◌, if◌then◌else◌}
use Rattle.std.proofs.Math.Decide.{dec_le, ℕ_discrete}
use Rattle.std.proofs.Math.Nat.{lt_of_not-le}
use Rattle.std.proofs.lemmas.Bool.{eqb-true}
use Rattle.std.proofs.lemmas.List.Elements.{Contains-append_cases, Contains-append_left, Contains-append_right, Contains-push}
use Rattle.std.proofs.lemmas.Option.{same_Some, slice_get_within}
use Rattle.r4_base.specs.Cell.{bytes_from, entry_unit, hole_bytes, is_dir, is_extent, is_pointer, is_stat, item_end, item_units, items_in_fault, last_entry_key, units_in, zeros_from}
use Rattle.r4_base.specs.Dir.{Entry as DirEntry, dir_fault, entries_of, entry_at, entry_key_at}
use Rattle.r4_base.specs.Extents.{is_hole, units_of}
use Rattle.r4_base.specs.Key.{IsKey, rank}
use Rattle.r4_base.specs.Node.{Item, count_of, header, item_at, items_of, key_at}
use Rattle.r4_base.specs.Stat.{attr_of}
use Rattle.r4_base.specs.Value.{Value, Stat, Entry, Byte}
use Rattle.r4_base.specs.declared.items.Attr.{Attr}
use Rattle.r4_base.specs.declared.items.Target.{Target}
use Rattle.r4_base.specs.declared.items.Unit.{Unit as ExtentUnit}
use Rattle.r4_base.specs.declared.key.Key.{Key}
use Rattle.r4_base.proofs.Dirs.{accepted, entry_key_fits, get-entries_of, length-entries_of, keys_rise as entry_keys_rise}
use Rattle.r4_base.proofs.Keys.{is_key}
use Rattle.r4_base.proofs.Numbers.{number_at-lt}
use Rattle.r4_node40.proofs.Laid.{get-items_of, length-items_of}
use Rattle.r4_base.proofs.FreshTree.{only}
use Rattle.r4_base.proofs.Choices.{nothing_in}
use Rattle.r4_search.proofs.r4_cell.Items.{good_item}
use Rattle.r4_search.proofs.r4_cell.ItemRows.{dir_row}
use Rattle.r4_search.proofs.Places.{item_in}
use Rattle.r4_units.specs.Leaf.{AreUpTo}

-- ---- elements and their places

pub place_of : {A : Type 0} (xs : List A) (x : A) → Contains xs x → (i : ℕ) × (slice_get xs i ≡ Some x)
place_of {A} [] x h = absurd (nothing_in x h)
place_of {A} (y ∷ ys) x h = elim (Contains-append_cases (y ∷ []) ys x h) [
  | inl is ↦ (0, ap (λ (z : A). Some z) (sym (only y x is)))
  | inr later ↦ let (i, e) = place_of ys x later in (suc i, e)
]

pub at_place : {A : Type 0} (xs : List A) (i : ℕ) (x : A) → slice_get xs i ≡ Some x → Contains xs x
at_place {A} [] i x e = absurd cc
at_place {A} (y ∷ ys) zero x e = subst (Contains (y ∷ ys)) (same_Some y x e) (Contains-append_left (y ∷ []) ys y (Contains-push [] y))
at_place {A} (y ∷ ys) (suc i) x e = Contains-append_right (y ∷ []) ys x (at_place ys i x e)

pub mapped_place : {A B : Type 0} (f : A → B) (xs : List A) (y : B) → Contains (map f xs) y → (i : ℕ) × (x : A) × (slice_get xs i ≡ Some x) × (f x ≡ y)
mapped_place {A} {B} f [] y h = absurd (nothing_in y h)
mapped_place {A} {B} f (x ∷ xs) y h = elim (Contains-append_cases (f x ∷ []) (map f xs) y h) [
  | inl is ↦ (0, x, refl, sym (only (f x) y is))
  | inr later ↦ let (i, z, e, g) = mapped_place f xs y later in (suc i, z, e, g)
]

pub at_mapped : {A B : Type 0} (f : A → B) (xs : List A) (i : ℕ) (x : A) → slice_get xs i ≡ Some x → Contains (map f xs) (f x)
at_mapped {A} {B} f [] i x e = absurd cc
at_mapped {A} {B} f (y ∷ ys) zero x e = subst (λ (z : A). Contains (map f (y ∷ ys)) (f z)) (same_Some y x e) (Contains-append_left (f y ∷ []) (map f ys) (f y) (Contains-push [] (f y)))
at_mapped {A} {B} f (y ∷ ys) (suc i) x e = Contains-append_right (f y ∷ []) (map f ys) (f x) (at_mapped f ys i x e)

-- ---- the item that has a unit

pub unit_item : (items : List Item) (u : ℕ × Value) → Contains (units_in items) u → (i : ℕ) × (it : Item) × (slice_get items i ≡ Some it) × Contains (item_units it) u
unfolding units_in
unit_item [] u h = absurd (nothing_in u h)
unit_item (it ∷ items) u h = elim (Contains-append_cases (item_units it) (units_in items) u h) [
  | inl here ↦ (0, it, refl, here)
  | inr later ↦ let (i, x, e, g) = unit_item items u later in (suc i, x, e, g)
]

pub item_unit : (items : List Item) (i : ℕ) (it : Item) (u : ℕ × Value) → slice_get items i ≡ Some it → Contains (item_units it) u → Contains (units_in items) u
unfolding units_in
item_unit [] i it u e h = absurd cc
item_unit (x ∷ items) zero it u e h = Contains-append_left (item_units x) (units_in items) u (subst (λ (y : Item). Contains (item_units y) u) (sym (same_Some x it e)) h)
item_unit (x ∷ items) (suc i) it u e h = Contains-append_right (item_units x) (units_in items) u (item_unit items i it u e h)

-- ---- bytes are no other units

abbrev pub IsByte : Value → Type 0
IsByte (Stat a) = ⊥
IsByte (Entry n o) = ⊥
IsByte (Byte x) = Unit {0}

pub bytes_are : (k : ℕ) (s : List ℕ) (u : ℕ × Value) → Contains (bytes_from k s) u → IsByte u.1
bytes_are k [] u h = absurd (nothing_in u h)
bytes_are k (x ∷ s) u h = elim (Contains-append_cases ((k, Byte x) ∷ []) (bytes_from (k + 1) s) u h) [
  | inl is ↦ subst (λ (v : ℕ × Value). IsByte v.1) (sym (only (k, Byte x) u is)) tt
  | inr later ↦ bytes_are (k + 1) s u later
]

zeros_are : (k n : ℕ) (u : ℕ × Value) → Contains (zeros_from k n) u → IsByte u.1
zeros_are k zero u h = absurd (nothing_in u h)
zeros_are k (suc n) u h = elim (Contains-append_cases ((k, Byte 0) ∷ []) (zeros_from (k + 1) n) u h) [
  | inl is ↦ subst (λ (v : ℕ × Value). IsByte v.1) (sym (only (k, Byte 0) u is)) tt
  | inr later ↦ zeros_are (k + 1) n u later
]

hole_are : (k n : ℕ) (b : Bool) (u : ℕ × Value) → Contains (if b then zeros_from k n else []) u → IsByte u.1
hole_are k n true u h = zeros_are k n u h
hole_are k n false u h = absurd (nothing_in u h)

holes_are : (k : ℕ) (us : List ExtentUnit) (u : ℕ × Value) → Contains (hole_bytes k us) u → IsByte u.1
holes_are k [] u h = absurd (nothing_in u h)
holes_are k (x ∷ us) u h = elim (Contains-append_cases (if is_hole x then zeros_from k (4096 * x.width) else []) (hole_bytes (k + 4096 * x.width) us) u h) [
  | inl here ↦ hole_are k (4096 * x.width) (is_hole x) u here
  | inr later ↦ holes_are (k + 4096 * x.width) us u later
]

-- ---- the keys of items are keys

key_at_is : (b : List ℕ) (i : ℕ) → IsKey (key_at b i)
unfolding key_at
key_at_is b i =
    let small = λ (at : ℕ). number_at-lt 8 at b in
    is_key (key_at b i) refl (omega (arith, small (header i))) (omega (arith, small (header i + 8))) (omega (arith, small (header i + 16))) (omega (arith, small (header i + 24)))

pub item_is_key : (b : List ℕ) (i : ℕ) (it : Item) → slice_get (items_of b) i ≡ Some it → IsKey it.key
unfolding item_at
item_is_key b i it e =
    let long = length-items_of b in
    let within = slice_get_within (items_of b) i it e in
    subst (λ (x : Item). IsKey x.key) (same_Some (item_at (count_of b) b i) it (sym (get-items_of b (count_of b) i refl (omega (arith, within, long))) ∙ e)) (key_at_is b i)

-- ---- what a unit of an item says of the item

-- the item is the one of a stat unit
pub record IsStatItem (it : Item) (k : ℕ) (a : Attr) : Type 0 where
  pub plugin : it.plugin ≡ 0
  pub key : k ≡ rank it.key
  pub attr : a ≡ attr_of it.body

-- the item has the entry
pub record IsEntryItem (it : Item) (k : ℕ) (name : List ℕ) (target : Target) : Type 0 where
  pub plugin : it.plugin ≡ 2
  pub at : ℕ
  pub entry : DirEntry
  pub is : slice_get (entries_of it.key it.body) at ≡ Some entry
  pub key : rank entry.key ≡ k
  pub named : entry.name ≡ name
  pub targets : entry.target ≡ target

abbrev stat_in_value : Value → Attr → Attr
stat_in_value (Stat a) b = a
stat_in_value (Entry n o) b = b
stat_in_value (Byte x) b = b

abbrev IsStat : Value → Type 0
IsStat (Stat a) = Unit {0}
IsStat (Entry n o) = ⊥
IsStat (Byte x) = ⊥

abbrev IsEntry : Value → Type 0
IsEntry (Stat a) = ⊥
IsEntry (Entry n o) = Unit {0}
IsEntry (Byte x) = ⊥

abbrev name_in : Value → List ℕ
name_in (Stat a) = []
name_in (Entry n o) = n
name_in (Byte x) = []

abbrev target_in : Value → Target → Target
target_in (Stat a) o = o
target_in (Entry n p) o = p
target_in (Byte x) o = o

stat_by : (it : Item) (k : ℕ) (a : Attr) (s d p e : Bool) → is_stat it ≡ s
    → Contains (if s then (rank it.key, Stat (attr_of it.body)) ∷ [] else if d then map entry_unit (entries_of it.key it.body) else if p then [] else if e then hole_bytes (rank it.key) (units_of it.body) else bytes_from (rank it.key) it.body) (k, Stat a)
    → IsStatItem it k a
stat_by it k a true d p e is h =
    let same = only (rank it.key, Stat (attr_of it.body)) (k, Stat a) h in
    record { plugin = eqb-true it.plugin 0 is; key = ap (λ (u : ℕ × Value). u.0) same; attr = ap (λ (u : ℕ × Value). stat_in_value u.1 a) same }
stat_by it k a false true p e is h =
    let (i, x, _, same) = mapped_place entry_unit (entries_of it.key it.body) (k, Stat a) h in
    absurd (subst (λ (u : ℕ × Value). IsEntry u.1) same tt)
stat_by it k a false false true e is h = absurd (nothing_in (k, Stat a) h)
stat_by it k a false false false true is h = absurd (holes_are (rank it.key) (units_of it.body) (k, Stat a) h)
stat_by it k a false false false false is h = absurd (bytes_are (rank it.key) it.body (k, Stat a) h)

pub stat_item : (it : Item) (k : ℕ) (a : Attr) → Contains (item_units it) (k, Stat a) → IsStatItem it k a
unfolding item_units
stat_item it k a h = stat_by it k a (is_stat it) (is_dir it) (is_pointer it) (is_extent it) refl h

entry_by : (it : Item) (k : ℕ) (name : List ℕ) (target : Target) (s d p e : Bool) → is_dir it ≡ d
    → Contains (if s then (rank it.key, Stat (attr_of it.body)) ∷ [] else if d then map entry_unit (entries_of it.key it.body) else if p then [] else if e then hole_bytes (rank it.key) (units_of it.body) else bytes_from (rank it.key) it.body) (k, Entry name target)
    → IsEntryItem it k name target
entry_by it k name target true d p e is h = absurd (subst (λ (u : ℕ × Value). IsEntry u.1) (only (rank it.key, Stat (attr_of it.body)) (k, Entry name target) h) tt)
entry_by it k name target false true p e is h =
    let (i, x, at, same) = mapped_place entry_unit (entries_of it.key it.body) (k, Entry name target) h in
    record {
      plugin = eqb-true it.plugin 2 is;
      at = i;
      entry = x;
      is = at;
      key = ap (λ (u : ℕ × Value). u.0) same;
      named = ap (λ (u : ℕ × Value). name_in u.1) same;
      targets = ap (λ (u : ℕ × Value). target_in u.1 target) same;
    }
entry_by it k name target false false true e is h = absurd (nothing_in (k, Entry name target) h)
entry_by it k name target false false false true is h = absurd (holes_are (rank it.key) (units_of it.body) (k, Entry name target) h)
entry_by it k name target false false false false is h = absurd (bytes_are (rank it.key) it.body (k, Entry name target) h)

pub entry_item : (it : Item) (k : ℕ) (name : List ℕ) (target : Target) → Contains (item_units it) (k, Entry name target) → IsEntryItem it k name target
unfolding item_units
entry_item it k name target h = entry_by it k name target (is_stat it) (is_dir it) (is_pointer it) (is_extent it) refl h

pub stat_unit : (it : Item) → it.plugin ≡ 0 → Contains (item_units it) (rank it.key, Stat (attr_of it.body))
unfolding item_units
stat_unit it is =
    let a : (it.plugin == 0) ≡ true = ap (λ (x : ℕ). x == 0) is in
    rw a (Contains-push [] (rank it.key, Stat (attr_of it.body)))

pub dir_unit : (it : Item) (i : ℕ) (e : DirEntry) → it.plugin ≡ 2 → slice_get (entries_of it.key it.body) i ≡ Some e → Contains (item_units it) (rank e.key, Entry e.name e.target)
unfolding item_units
dir_unit it i e is at =
    let a : (it.plugin == 0) ≡ false = ap (λ (x : ℕ). x == 0) is in
    let b : (it.plugin == 2) ≡ true = ap (λ (x : ℕ). x == 2) is in
    rw (a, b) (at_mapped entry_unit (entries_of it.key it.body) i e at)

-- ---- the last item whose key is not above a key

pub last_up_to : (items : List Item) (key n i : ℕ) (it : Item) → AreUpTo items key n → slice_get items i ≡ Some it → rank it.key ≤ key → ((y : Item) → slice_get items (i + 1) ≡ Some y → key < rank y.key) → i + 1 ≡ n
last_up_to items key n i it up is le next =
    let within = up.within in
    elim (dec_le n i) [
      | yes from ↦ let high = up.high i it is from in absurd (omega (arith, high, le))
      | no before ↦
          let lt = lt_of_not-le before in
          elim (ℕ_discrete (i + 1) n) [
            | yes same ↦ same
            | no other ↦
                let (y, e) = item_in items (i + 1) (omega (arith, lt, other, within)) in
                let above = next y e in
                let low = up.low (i + 1) y e (omega (arith, lt, other)) in
                absurd (omega (arith, above, low))
          ]
    ]

-- an item's units end where the next item begins
pub ends_before : (level lo hi from : ℕ) (items : List Item) (i : ℕ) (it y : Item) → items_in_fault true (2 ^ 64) level lo hi from items ≡ None → slice_get items i ≡ Some it → slice_get items (i + 1) ≡ Some y → item_end it ≤ rank y.key
ends_before level lo hi from [] i it y h is next = absurd cc
ends_before level lo hi from (x ∷ []) zero it y h is next = absurd cc
ends_before level lo hi from (x ∷ (z ∷ items)) zero it y h is next =
    let end = (good_item true (2 ^ 64) level lo hi from x (z ∷ items) h).range.end in
    subst (λ (a : Item). item_end a ≤ rank y.key) (same_Some x it is) (subst (λ (b : Item). item_end x ≤ rank b.key) (same_Some z y next) end)
ends_before level lo hi from (x ∷ items) (suc i) it y h is next =
    let e : suc i + 1 ≡ suc (i + 1) = omega arith in
    ends_before level lo hi (from + 1) items i it y (good_item true (2 ^ 64) level lo hi from x items h).rest is (subst (λ (n : ℕ). slice_get (x ∷ items) n ≡ Some y) e next)

pub dir_end : (it : Item) → it.plugin ≡ 2 → item_end it ≡ last_entry_key it + 1
unfolding item_end
dir_end it is =
    let a : (it.plugin == 0) ≡ false = ap (λ (x : ℕ). x == 0) is in
    let b : (it.plugin == 2) ≡ true = ap (λ (x : ℕ). x == 2) is in
    let c : (it.plugin == 3) ≡ false = ap (λ (x : ℕ). x == 3) is in
    rw (a, c, b) refl

-- an entry's key lies from its item's on, and below where the item ends
pub entry_within : (it : Item) (i : ℕ) (e : DirEntry) → it.plugin ≡ 2 → dir_fault it.key it.body ≡ None → slice_get (entries_of it.key it.body) i ≡ Some e → (rank it.key ≤ rank e.key) × (rank e.key < item_end it)
entry_within it i e is good at =
    let (from, to) = (dir_row it.key it.body good).unit_in (rank e.key) (Entry e.name e.target) (at_mapped entry_unit (entries_of it.key it.body) i e at) in
    let end = dir_end it is in
    (from, omega (arith, to, end))

key_at_place : (item : Key) (b : List ℕ) (i : ℕ) (x : DirEntry) → slice_get (entries_of item b) i ≡ Some x → rank (entry_key_at item b i) ≡ rank x.key
unfolding entry_at
key_at_place item b i x e =
    let within = slice_get_within (entries_of item b) i x e in
    let count = length-entries_of item b in
    ap (λ (z : DirEntry). rank z.key) (same_Some (entry_at item b i) x (sym (get-entries_of item b i (omega (arith, within, count))) ∙ e))

pub entry_is_key : (item : Key) (b : List ℕ) (i : ℕ) (x : DirEntry) → IsKey item → slice_get (entries_of item b) i ≡ Some x → IsKey x.key
unfolding entry_at
entry_is_key item b i x key e =
    let within = slice_get_within (entries_of item b) i x e in
    let count = length-entries_of item b in
    subst (λ (z : DirEntry). IsKey z.key) (same_Some (entry_at item b i) x (sym (get-entries_of item b i (omega (arith, within, count))) ∙ e)) (entry_key_fits item b i key)

entries_apart : (item : Key) (b : List ℕ) (i j : ℕ) (x y : DirEntry) → dir_fault item b ≡ None → slice_get (entries_of item b) i ≡ Some x → slice_get (entries_of item b) j ≡ Some y → i < j → rank x.key ≡ rank y.key → ⊥
entries_apart item b i j x y good ex ey lt same =
    let a = accepted item b good in
    let count = length-entries_of item b in
    let within = slice_get_within (entries_of item b) j y ey in
    let e : i + (j - i) ≡ j = omega (arith, lt) in
    let up = entry_keys_rise item b i (j - i) a (omega (arith, lt, within, count)) in
    let to = ap (λ (m : ℕ). rank (entry_key_at item b m)) e in
    let kx = key_at_place item b i x ex in
    let ky = key_at_place item b j y ey in
    omega (arith, up, to, kx, ky, same, lt)

-- two entries of one key are one
pub one_entry : (item : Key) (b : List ℕ) (i j : ℕ) (x y : DirEntry) → dir_fault item b ≡ None → slice_get (entries_of item b) i ≡ Some x → slice_get (entries_of item b) j ≡ Some y → rank x.key ≡ rank y.key → i ≡ j
one_entry item b i j x y good ex ey same = elim (ℕ_discrete i j) [
  | yes e ↦ e
  | no other ↦ elim (dec_le i j) [
    | yes le ↦ absurd (entries_apart item b i j x y good ex ey (omega (arith, le, other)) same)
    | no gt ↦ absurd (entries_apart item b j i y x good ey ex (lt_of_not-le gt) (sym same))
  ]
]
