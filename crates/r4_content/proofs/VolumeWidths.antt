-- Numbers of the attributes of a volume: links fit their field, and its directories can count many entries more.
use Rattle.std.specs.Prelude.{◌≡◌, ◌≢◌, ◌⊎◌, ℕ, zero, suc, ◌+◌, ◌*◌, ◌^◌, ◌<◌, ◌≤◌, List, [], ◌∷◌, ◌++◌, Bool, true, false, cond, ◌==◌, length, map, Contains, Some, None, if◌then◌else◌}
use Rattle.std.proofs.Common.{arith, inl, inr, refl, sym, ap, subst, ◌∙◌}
use Rattle.std.proofs.lemmas.Bool.{eq-eqb, eqb-true, ne_eqb}
use Rattle.std.proofs.lemmas.List.{length-append}
use Rattle.std.proofs.lemmas.List.Elements.{Contains-append_cases, Contains-append_left, Contains-append_right}
use Rattle.r4_base.proofs.Members.{member_cases, member_here, member_later, no_member}
use Rattle.r4_base.proofs.Numbers.{number_at-lt}
use Rattle.r4_base.proofs.Superblocks.{read_lawful}
use Rattle.r4_base.specs.Cell.{bytes_from, cell_of, entry_unit, hole_bytes, is_dir, is_extent, is_pointer, is_stat, item_units, units_in, zeros_from}
use Rattle.r4_base.specs.Dir.{Entry as DirEntry, entries_from, entries_of, entry_count}
use Rattle.r4_base.specs.Extents.{is_hole, units_of}
use Rattle.r4_base.specs.Image.{Image, block_at}
use Rattle.r4_base.specs.Key.{rank}
use Rattle.r4_base.specs.Node.{Item, count_of, items_from, items_of}
use Rattle.r4_base.specs.Stat.{attr_of}
use Rattle.r4_base.specs.Tree.{Node}
use Rattle.r4_base.specs.Value.{Value, Stat, Entry, Byte, Content, at_key}
use Rattle.r4_base.specs.Volume.{HasContent, HasStat, entries_in, is_entry_in, stat_rank}
use Rattle.r4_base.specs.declared.items.Attr.{Attr}
use Rattle.r4_base.specs.declared.items.Target.{Target}
use Rattle.r4_base.specs.declared.items.Unit.{Unit as ExtentUnit}
use Rattle.r4_base.specs.declared.key.Key.{Key}
use Rattle.r4_content.proofs.Counting.{at_cut_key, count, cut_at, here, here_small, none_there, one_count, pick}
use Rattle.r4_content.proofs.EditParts.{true_not_false}
use Rattle.r4_content.proofs.Volumes.{raw_of, volume_bodies, volume_objects}
use Rattle.r4_content.specs.Lawful.{IsLawful, RoomFor}

-- ---- what is a unit of a cell

-- stat data with links of their field, an entry with its key among these, or a byte
abbrev Fits : List ℕ → ℕ × Value → Type 0
Fits keys (k, Stat a) = a.nlink < 2 ^ 32
Fits keys (k, Entry n t) = Contains keys k
Fits keys (k, Byte x) = Unit {0}

abbrev AllFit : List ℕ → List (ℕ × Value) → Type 0
AllFit keys us = (u : ℕ × Value) → Contains us u → Fits keys u

first_or_later : {X : Type 0} (x : X) (xs : List X) (y : X) → Contains (x ∷ xs) y → (x ≡ y) ⊎ Contains xs y
first_or_later x xs y (zero, lt, is) = inl is
first_or_later x xs y (suc k, lt, is) = inr (k, omega (arith, lt), is)

none_in : {X : Type 0} (y : X) → Contains [] y → ⊥
none_in y (k, lt, is) = absurd (omega (arith, lt))

fits_more : (one two : List ℕ) (u : ℕ × Value) → ((k : ℕ) → Contains one k → Contains two k) → Fits one u → Fits two u
fits_more one two (k, Stat a) h f = f
fits_more one two (k, Entry n t) h f = h k f
fits_more one two (k, Byte x) h f = tt

all_none : (keys : List ℕ) → AllFit keys []
all_none keys u has = absurd (none_in u has)

all_append : (one two : List ℕ) (us vs : List (ℕ × Value)) → AllFit one us → AllFit two vs → AllFit (one ++ two) (us ++ vs)
all_append one two us vs f g u has = elim (Contains-append_cases us vs u has) [
  | inl a ↦ fits_more one (one ++ two) u (λ k c. Contains-append_left one two k c) (f u a)
  | inr b ↦ fits_more two (one ++ two) u (λ k c. Contains-append_right one two k c) (g u b)
]

all_bytes : (keys : List ℕ) (k : ℕ) (xs : List ℕ) → AllFit keys (bytes_from k xs)
all_bytes keys k [] = all_none keys
all_bytes keys k (x ∷ xs) = λ u has. elim (first_or_later (k, Byte x) (bytes_from (k + 1) xs) u has) [
  | inl is ↦ subst (Fits keys) is tt
  | inr later ↦ all_bytes keys (k + 1) xs u later
]

all_zeros : (keys : List ℕ) (k n : ℕ) → AllFit keys (zeros_from k n)
all_zeros keys k zero = all_none keys
all_zeros keys k (suc n) = λ u has. elim (first_or_later (k, Byte 0) (zeros_from (k + 1) n) u has) [
  | inl is ↦ subst (Fits keys) is tt
  | inr later ↦ all_zeros keys (k + 1) n u later
]

all_holes : (k : ℕ) (us : List ExtentUnit) → AllFit [] (hole_bytes k us)
all_holes k [] = all_none []
all_holes k (u ∷ us) = all_append [] [] (if is_hole u then zeros_from k (4096 * u.width) else []) (hole_bytes (k + 4096 * u.width) us) (by_hole (is_hole u)) (all_holes (k + 4096 * u.width) us)
  where
    by_hole : (b : Bool) → AllFit [] (if b then zeros_from k (4096 * u.width) else [])
    by_hole true = all_zeros [] k (4096 * u.width)
    by_hole false = all_none []

entry_keys : List DirEntry → List ℕ
entry_keys [] = []
entry_keys (e ∷ es) = rank e.key ∷ entry_keys es

all_entries : (es : List DirEntry) → AllFit (entry_keys es) (map entry_unit es)
unfolding entry_keys
all_entries [] = all_none []
all_entries (e ∷ es) = λ u has. elim (first_or_later (entry_unit e) (map entry_unit es) u has) [
  | inl is ↦ subst (Fits (entry_keys (e ∷ es))) is (member_here (rank e.key) (entry_keys es) (rank e.key) refl)
  | inr later ↦ fits_more (entry_keys es) (entry_keys (e ∷ es)) u (λ k c. member_later (rank e.key) (entry_keys es) k c) (all_entries es u later)
]

many_entries : (it : Key) (n i : ℕ) (b : List ℕ) → length (entry_keys (entries_from it n i b)) ≤ n
unfolding entry_keys entries_from
many_entries it zero i b = omega arith
many_entries it (suc n) i b = let rest = many_entries it n (i + 1) b in omega (arith, rest)

-- the keys of an item's entries
item_keys : Item → List ℕ
item_keys it = if is_dir it then entry_keys (entries_of it.key it.body) else []

few_keys : (it : Item) → length (item_keys it) ≤ 2 ^ 16
unfolding item_keys entries_of
few_keys it = by_kind (is_dir it)
  where
    by_kind : (b : Bool) → length (if b then entry_keys (entries_from it.key (entry_count it.body) 0 it.body) else []) ≤ 2 ^ 16
    by_kind true =
        let many = many_entries it.key (entry_count it.body) 0 it.body in
        let small = number_at-lt 2 0 it.body in
        omega (arith, many, small)
    by_kind false = omega arith

links_fit : (b : List ℕ) → (attr_of b).nlink < 2 ^ 32
unfolding attr_of
links_fit b = let small = number_at-lt 4 4 b in omega (arith, small)

all_item : (it : Item) → AllFit (item_keys it) (item_units it)
unfolding item_keys item_units
all_item it = by_kind (is_stat it) (is_dir it) (is_pointer it) (is_extent it)
  where
    one_stat : (keys : List ℕ) → AllFit keys ((rank it.key, Stat (attr_of it.body)) ∷ [])
    one_stat keys u has = elim (first_or_later (rank it.key, Stat (attr_of it.body)) [] u has) [
      | inl is ↦ subst (Fits keys) is (links_fit it.body)
      | inr later ↦ absurd (none_in u later)
    ]

    by_kind : (s d p x : Bool) → AllFit (if d then entry_keys (entries_of it.key it.body) else [])
        (if s then (rank it.key, Stat (attr_of it.body)) ∷ [] else if d then map entry_unit (entries_of it.key it.body) else if p then [] else if x then hole_bytes (rank it.key) (units_of it.body) else bytes_from (rank it.key) it.body)
    by_kind true d p x = one_stat (if d then entry_keys (entries_of it.key it.body) else [])
    by_kind false true p x = all_entries (entries_of it.key it.body)
    by_kind false false true x = all_none []
    by_kind false false false true = all_holes (rank it.key) (units_of it.body)
    by_kind false false false false = all_bytes [] (rank it.key) it.body

keys_in : List Item → List ℕ
keys_in [] = []
keys_in (it ∷ items) = item_keys it ++ keys_in items

all_units : (items : List Item) → AllFit (keys_in items) (units_in items)
unfolding keys_in units_in
all_units [] = all_none []
all_units (it ∷ items) = all_append (item_keys it) (keys_in items) (item_units it) (units_in items) (all_item it) (all_units items)

few_in : (items : List Item) → length (keys_in items) ≤ 2 ^ 16 * length items
unfolding keys_in
few_in [] = omega arith
few_in (it ∷ items) =
    let rest = few_in items in
    let one = few_keys it in
    let all = length-append (item_keys it) (keys_in items) in
    omega (arith, rest, one, all)

many_items : (n k i : ℕ) (b : List ℕ) → length (items_from n k i b) ≤ k
unfolding items_from
many_items n zero i b = omega arith
many_items n (suc k) i b = let rest = many_items n k (i + 1) b in omega (arith, rest)

-- the keys of the entries of a block that is a node
block_keys : List ℕ → List ℕ
block_keys b = keys_in (items_of b)

few_in_block : (b : List ℕ) → length (block_keys b) ≤ 2 ^ 32
unfolding block_keys items_of
few_in_block b =
    let few = few_in (items_of b) in
    let many = many_items (count_of b) (count_of b) 0 b in
    let small = number_at-lt 2 2 b in
    omega (arith, few, many, small)

all_cell : (level lo hi : ℕ) (b : List ℕ) → AllFit (block_keys b) (cell_of level lo hi b).units
unfolding cell_of block_keys
all_cell zero lo hi b = all_bytes (keys_in (items_of b)) lo b
all_cell (suc l) lo hi b = all_units (items_of b)

-- ---- all blocks

keys_below : Image → ℕ → List ℕ
keys_below image zero = []
keys_below image (suc i) = block_keys (block_at image i) ++ keys_below image i

few_below : (image : Image) (i : ℕ) → length (keys_below image i) ≤ 2 ^ 32 * i
unfolding keys_below
few_below image zero = omega arith
few_below image (suc i) =
    let rest = few_below image i in
    let one = few_in_block (block_at image i) in
    let all = length-append (block_keys (block_at image i)) (keys_below image i) in
    omega (arith, rest, one, all)

in_below : (image : Image) (n i k : ℕ) → i < n → Contains (block_keys (block_at image i)) k → Contains (keys_below image n) k
unfolding keys_below
in_below image zero i k lt has = absurd (omega (arith, lt))
in_below image (suc n) i k lt has = by_last (i == n) refl (λ less. in_below image n i k less has)
  where
    by_last : (b : Bool) → (i == n) ≡ b → (i < n → Contains (keys_below image n) k) → Contains (block_keys (block_at image n) ++ keys_below image n) k
    by_last true e rest = Contains-append_left (block_keys (block_at image n)) (keys_below image n) k (subst (λ (j : ℕ). Contains (block_keys (block_at image j)) k) (eqb-true i n e) has)
    by_last false e rest =
        let ne : i ≡ n → ⊥ = λ same. true_not_false (sym (eq-eqb i n same) ∙ e) in
        Contains-append_right (block_keys (block_at image n)) (keys_below image n) k (rest (omega (arith, lt, ne)))

-- ---- what is counted stands at one of so many keys

pub counted_few : (p : ℕ × Value → Bool) (keys : List ℕ) (m : Content) → ((k : ℕ) (v : Value) → at_key m k ≡ Some v → p (k, v) ≡ true → Contains keys k) → count p m ≤ length keys
counted_few p [] m h = let none = none_there p m fails in omega (arith, none)
  where
    fails : (k : ℕ) (v : Value) → at_key m k ≡ Some v → p (k, v) ≡ false
    fails k v at = by_test (p (k, v)) refl
      where
        by_test : (b : Bool) → p (k, v) ≡ b → b ≡ false
        by_test false e = refl
        by_test true e = absurd (no_member k (h k v at e))
counted_few p (x ∷ keys) m h = adds (counted_few p keys (cut_at m x))
  where
    cut_there : at_key (cut_at m x) x ≡ None
    cut_there = at_cut_key m x x ∙ ap (λ (b : Bool). cond b None (at_key m x)) (eq-eqb x x refl)

    same_elsewhere : (k : ℕ) → k ≢ x → pick p k (at_key (cut_at m x) k) ≡ pick p k (at_key m k)
    same_elsewhere k ne = ap (pick p k) (at_cut_key m x k ∙ ap (λ (b : Bool). cond b None (at_key m k)) (ne_eqb k x ne))

    later : (k : ℕ) (v : Value) → at_key (cut_at m x) k ≡ Some v → p (k, v) ≡ true → Contains keys k
    later k v at e = by_key (k == x) refl
      where
        not_some : None ≡ Some v → ⊥
        not_some f = cc

        by_key : (b : Bool) → (k == x) ≡ b → Contains keys k
        by_key true is = absurd (not_some (sym (at_cut_key m x k ∙ ap (λ (b : Bool). cond b None (at_key m k)) is) ∙ at))
        by_key false is =
            let old = sym (at_cut_key m x k ∙ ap (λ (b : Bool). cond b None (at_key m k)) is) ∙ at in
            elim (member_cases x keys k (h k v old e)) [
              | inl same ↦ absurd (true_not_false (sym (eq-eqb k x same) ∙ is))
              | inr rest ↦ rest
            ]

    adds : (((k : ℕ) (v : Value) → at_key (cut_at m x) k ≡ Some v → p (k, v) ≡ true → Contains keys k) → count p (cut_at m x) ≤ length keys) → count p m ≤ length (x ∷ keys)
    adds rest =
        let all = one_count p p (cut_at m x) m x same_elsewhere in
        let one = here_small p x (at_key m x) in
        let gone : here p x (at_key (cut_at m x) x) ≡ 0 = ap (here p x) cut_there in
        let fewer = rest later in
        omega (arith, all, one, gone, fewer)

-- ---- a volume

module _ (n : ℕ) (image : Image) (m : Content) (c : HasContent n image m) where
  unit_fits : (k : ℕ) (v : Value) → at_key m k ≡ Some v → Fits (keys_below image c.super.block_count) (k, v)
  unit_fits k v at =
      let (i, d, is, has) = (c.units k v).0 (raw_of n image m c k v at) in
      let says = (c.cells i d is).says in
      let fits = all_cell d.level d.lo d.hi (block_at image i) (k, v) (subst (λ (x : Node Value). Contains x.units (k, v)) says has) in
      fits_more (block_keys (block_at image i)) (keys_below image c.super.block_count) (k, v) (λ q h. in_below image c.super.block_count i q (c.places i d is).0 h) fits

  pub volume_links : (t : Target) (a : Attr) → HasStat m t a → a.nlink < 2 ^ 32
  volume_links t a h = unit_fits (stat_rank t) (Stat a) h.1

  pub volume_entries : (t : Target) → entries_in m t ≤ 2 ^ 52
  volume_entries t =
      let keys = keys_below image c.super.block_count in
      let all = counted_few (is_entry_in t.oid.0) keys m counted in
      let few = few_below image c.super.block_count in
      let blocks = (read_lawful n (block_at image 17) c.super c.layout.format).0.blocks.1 in
      omega (arith, all, few, blocks)
    where
      counted : (k : ℕ) (v : Value) → at_key m k ≡ Some v → is_entry_in t.oid.0 (k, v) ≡ true → Contains (keys_below image c.super.block_count) k
      counted k (Stat a) at e = absurd cc
      counted k (Entry s u) at e = unit_fits k (Entry s u) at
      counted k (Byte x) at e = absurd cc

  pub volume_room : (k : ℕ) → k ≤ 2 ^ 63 → RoomFor k m
  volume_room k le t a h is =
      let size = ((volume_objects n image m c).directories t a h is).0 in
      let few = volume_entries t in
      omega (arith, size, few, le)

  pub volume_lawful : IsLawful (2 ^ 30) m
  volume_lawful = record {
    objects = volume_objects n image m c;
    bodies = volume_bodies n image m c;
    room = λ t a h is. let r = volume_room 1 (omega arith) t a h is in omega (arith, r);
    links = volume_links;
  }
