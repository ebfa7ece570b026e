-- What the cells of a tree hold beside bodies, as things that a check looks at and as units.
use Rattle.std.proofs.Common.{◌≡◌, inl, inr, ℕ, zero, suc, ◌+◌, ◌*◌, Bool, true, false, cond, List, [], ◌∷◌, ◌++◌, length, map, refl, sym, ap, subst, ◌∙◌, arith}
use Rattle.std.specs.Prelude.{Contains, Some, sum_by, count_by, ◌==◌, slice_get, if◌then◌else◌}
use Rattle.std.specs.List.{flat_map}
use Rattle.std.proofs.lemmas.Bool.{cases_eq, eq-eqb}
use Rattle.std.proofs.lemmas.Bool.Decides.{nat_tests}
use Rattle.std.proofs.lemmas.List.Sums.{sum_by-append}
use Rattle.r4_base.specs.Cell.{bytes_from, cell_of, entry_unit, hole_bytes, item_units, units_in, zeros_from}
use Rattle.r4_base.specs.Dir.{Entry as DirEntry, entries_of, entry_at}
use Rattle.r4_base.specs.Extents.{blocks_in, is_hole, units_of}
use Rattle.r4_base.specs.Key.{IsKey, rank}
use Rattle.r4_base.specs.Node.{Item, count_of, item_at, items_of}
use Rattle.r4_node40.proofs.Laid.{get-items_of, key_fits, length-items_of}
use Rattle.std.proofs.lemmas.Option.{same_Some, slice_get_within}
use Rattle.r4_base.specs.Stat.{attr_of}
use Rattle.r4_base.specs.Tree.{Node}
use Rattle.r4_base.specs.Value.{Byte, Entry as EntryValue, Stat as StatValue, Value}
use Rattle.r4_base.specs.declared.items.Unit.{Unit as ExtentUnit}
use Rattle.r4_base.proofs.Dirs.{entry_key_fits}
use Rattle.r4_base.proofs.EntryLists.{entry_of}
use Rattle.r4_check_objects.specs.Held.{counted, facts_of, held_at, held_by, held_entry, held_in}
use Rattle.r4_check_objects.specs.declared.held.Held.{Held}
use Rattle.r4_check_objects.specs.declared.held.Thing.{Thing}
use Rattle.r4_check_objects.specs.declared.held.Thing.TheVariants.{Entry, Extent, Stat, Tail}
use Rattle.r4_check_laws.proofs.Contents.{PassesNamed, Units, is_named}
use Rattle.r4_check.specs.Walk.{found_in}
use Rattle.r4_check_laws.proofs.Stores.{Cells}
use Rattle.r4_check_laws.proofs.Lists.{either_in, here, in_back, in_front, later, no_terms, none_in, one_of}

-- a thing and its unit
abbrev pub Pair : Type 0
Pair = Held × (ℕ × Value)

abbrev pub IsSame : Thing → Value → Type 0
IsSame (Stat f) (StatValue a) = f ≡ facts_of a
IsSame (Stat f) (EntryValue n o) = ⊥
IsSame (Stat f) (Byte x) = ⊥
IsSame (Entry t) (StatValue a) = ⊥
IsSame (Entry t) (EntryValue n o) = t ≡ o
IsSame (Entry t) (Byte x) = ⊥
IsSame (Tail n) v = ⊥
IsSame (Extent n) v = ⊥

pub record IsPair (p : Pair) : Type 0 where
  pub key : IsKey p.0.key
  pub at : p.1.0 ≡ rank p.0.key
  pub same : IsSame p.0.thing p.1.1

-- whether it is a part of a body
abbrev pub is_body : Thing → Bool
is_body (Stat f) = false
is_body (Entry t) = false
is_body (Tail n) = true
is_body (Extent n) = true

-- what parts of bodies add nothing to
abbrev pub IsBare : (Held → ℕ) → Type 0
IsBare f = (h : Held) → is_body h.thing ≡ true → f h ≡ 0

-- The pairs are what both lists have beside bodies, each in order.
pub record Mirrors (hs : List Held) (us : Units) (ps : List Pair) : Type 0 where
  pub pair : (p : Pair) → Contains ps p → IsPair p
  pub to_held : (p : Pair) → Contains ps p → Contains hs p.0
  pub to_unit : (p : Pair) → Contains ps p → Contains us p.1
  pub held : (h : Held) → Contains hs h → is_body h.thing ≡ false → (u : ℕ × Value) × Contains ps (h, u)
  pub unit : (u : ℕ × Value) → Contains us u → is_named u.1 ≡ true → (h : Held) × Contains ps (h, u)
  pub sums : (f : Held → ℕ) → IsBare f → sum_by f hs ≡ sum_by (λ (p : Pair). f p.0) ps
  pub counts : (q : ℕ × Value → Bool) → PassesNamed q → count_by q us ≡ count_by (λ (p : Pair). q p.1) ps

abbrev bit : (ℕ × Value → Bool) → ℕ × Value → ℕ
bit q u = cond (q u) 1 0

pub mirrors_bodies : (hs : List Held) (us : Units) → ((h : Held) → Contains hs h → is_body h.thing ≡ true) → ((u : ℕ × Value) → Contains us u → is_named u.1 ≡ false) → Mirrors hs us []
mirrors_bodies hs us bodies bytes = record {
  pair = λ p at. absurd (none_in p at);
  to_held = λ p at. absurd (none_in p at);
  to_unit = λ p at. absurd (none_in p at);
  held = λ h at none. (let some = bodies h at in absurd (cc));
  unit = λ u at some. (let none = bytes u at in absurd (cc));
  sums = λ f bare. no_terms f hs (λ h at. bare h (bodies h at));
  counts = λ q named. no_terms (λ (u : ℕ × Value). cond (q u) 1 0) us (λ u at. zero_at q named u (bytes u at) (q u) refl);
}
  where
    zero_at : (q : ℕ × Value → Bool) → PassesNamed q → (u : ℕ × Value) → is_named u.1 ≡ false → (b : Bool) → q u ≡ b → bit q u ≡ 0
    zero_at q named u bare true t = let some = named u.0 u.1 t in absurd (cc)
    zero_at q named u bare false t = rw t refl

pub mirrors_one : (h : Held) (u : ℕ × Value) → IsPair (h, u) → is_body h.thing ≡ false → Mirrors (h ∷ []) (u ∷ []) ((h, u) ∷ [])
mirrors_one h u is some = record {
  pair = λ p at. elim (one_of _ [] p at) [ inl e ↦ subst IsPair e is | inr more ↦ absurd (none_in p more) ];
  to_held = λ p at. elim (one_of _ [] p at) [ inl e ↦ subst (λ (x : Pair). Contains (h ∷ []) x.0) e (here h []) | inr more ↦ absurd (none_in p more) ];
  to_unit = λ p at. elim (one_of _ [] p at) [ inl e ↦ subst (λ (x : Pair). Contains (u ∷ []) x.1) e (here u []) | inr more ↦ absurd (none_in p more) ];
  held = λ g at none. elim (one_of h [] g at) [ inl e ↦ (u, subst (λ (x : Held). Contains {X = Pair} ((h, u) ∷ []) (x, u)) e (here {X = Pair} (h, u) [])) | inr more ↦ absurd (none_in g more) ];
  unit = λ w at none. elim (one_of u [] w at) [ inl e ↦ (h, subst (λ (x : ℕ × Value). Contains {X = Pair} ((h, u) ∷ []) (h, x)) e (here {X = Pair} (h, u) [])) | inr more ↦ absurd (none_in w more) ];
  sums = λ f bare. refl;
  counts = λ q named. refl;
}

pub mirrors_both : (hs gs : List Held) (us vs : Units) (ps qs : List Pair) → Mirrors hs us ps → Mirrors gs vs qs → Mirrors (hs ++ gs) (us ++ vs) (ps ++ qs)
mirrors_both hs gs us vs ps qs a b = record {
  pair = λ p at. elim (either_in ps qs p at) [ inl x ↦ a.pair p x | inr y ↦ b.pair p y ];
  to_held = λ p at. elim (either_in ps qs p at) [ inl x ↦ in_front hs gs p.0 (a.to_held p x) | inr y ↦ in_back hs gs p.0 (b.to_held p y) ];
  to_unit = λ p at. elim (either_in ps qs p at) [ inl x ↦ in_front us vs p.1 (a.to_unit p x) | inr y ↦ in_back us vs p.1 (b.to_unit p y) ];
  held = λ h at none. elim (either_in hs gs h at) [
    | inl x ↦ let w = a.held h x none in (w.0, in_front ps qs (h, w.0) w.1)
    | inr y ↦ let w = b.held h y none in (w.0, in_back ps qs (h, w.0) w.1)
  ];
  unit = λ u at some. elim (either_in us vs u at) [
    | inl x ↦ let w = a.unit u x some in (w.0, in_front ps qs (w.0, u) w.1)
    | inr y ↦ let w = b.unit u y some in (w.0, in_back ps qs (w.0, u) w.1)
  ];
  sums = λ f bare. (
      let x = a.sums f bare in
      let y = b.sums f bare in
      let c = sum_by-append f hs gs in
      let d = sum_by-append (λ (p : Pair). f p.0) ps qs in
      omega (arith, x, y, c, d)
      );
  counts = λ q named. (
      let x = a.counts q named in
      let y = b.counts q named in
      let c = sum_by-append (λ (u : ℕ × Value). cond (q u) 1 0) us vs in
      let d = sum_by-append (λ (p : Pair). cond (q p.1) 1 0) ps qs in
      omega (arith, x, y, c, d)
      );
}

-- ---- items

entries_mirror : (b : ℕ) (es : List DirEntry) → ((e : DirEntry) → Contains es e → IsKey e.key) → Mirrors (map (held_entry b) es) (map entry_unit es) (map (λ (e : DirEntry). (held_entry b e, entry_unit e)) es)
entries_mirror b [] keys = mirrors_bodies [] [] (λ h at. absurd (none_in h at)) (λ u at. absurd (none_in u at))
entries_mirror b (e ∷ es) keys =
    mirrors_both (held_entry b e ∷ []) (map (held_entry b) es) (entry_unit e ∷ []) (map entry_unit es) ((held_entry b e, entry_unit e) ∷ []) (map (λ (x : DirEntry). (held_entry b x, entry_unit x)) es)
    (mirrors_one (held_entry b e) (entry_unit e) (record { key = keys e (here e es); at = refl; same = refl }) refl)
    (entries_mirror b es (λ x at. keys x (later e es x at)))

pub place_of : {A : Type 0} (xs : List A) (x : A) → Contains xs x → (i : ℕ) × (slice_get xs i ≡ Some x)
place_of [] x at = absurd (none_in x at)
place_of (y ∷ xs) x at = elim (one_of y xs x at) [
  | inl e ↦ (0, ap (λ (z : _). Some z) e)
  | inr more ↦ let (i, is) = place_of xs x more in (suc i, is)
]

entry_keys : (item : Item) → IsKey item.key → (e : DirEntry) → Contains (entries_of item.key item.body) e → IsKey e.key
unfolding entry_at
entry_keys item key e at =
    let (i, is) = place_of (entries_of item.key item.body) e at in
    subst IsKey (sym (ap (λ (x : DirEntry). x.key) (entry_of item.key item.body i e is).is)) (entry_key_fits item.key item.body i key)

pub bytes_bare : (k : ℕ) (s : List ℕ) (u : ℕ × Value) → Contains (bytes_from k s) u → is_named u.1 ≡ false
bytes_bare k [] u at = absurd (none_in u at)
bytes_bare k (x ∷ s) u at = elim (one_of (k, Byte x) (bytes_from (k + 1) s) u at) [
  | inl e ↦ ap (λ (y : ℕ × Value). is_named y.1) (sym e)
  | inr more ↦ bytes_bare (k + 1) s u more
]

zeros_bare : (k n : ℕ) (u : ℕ × Value) → Contains (zeros_from k n) u → is_named u.1 ≡ false
zeros_bare k zero u at = absurd (none_in u at)
zeros_bare k (suc n) u at = elim (one_of (k, Byte 0) (zeros_from (k + 1) n) u at) [
  | inl e ↦ ap (λ (y : ℕ × Value). is_named y.1) (sym e)
  | inr more ↦ zeros_bare (k + 1) n u more
]

hole_bare : (k n : ℕ) (b : Bool) (u : ℕ × Value) → Contains (if b then zeros_from k n else []) u → is_named u.1 ≡ false
hole_bare k n true u at = zeros_bare k n u at
hole_bare k n false u at = absurd (none_in u at)

pub holes_bare : (k : ℕ) (us : List ExtentUnit) (u : ℕ × Value) → Contains (hole_bytes k us) u → is_named u.1 ≡ false
holes_bare k [] u at = absurd (none_in u at)
holes_bare k (x ∷ us) u at = elim (either_in (if is_hole x then zeros_from k (4096 * x.width) else []) (hole_bytes (k + 4096 * x.width) us) u at) [
  | inl front ↦ hole_bare k (4096 * x.width) (is_hole x) u front
  | inr back ↦ holes_bare (k + 4096 * x.width) us u back
]

-- ---- an item, by its plugin

abbrev pub IsMirrored : List Held → Units → Type 0
IsMirrored hs us = (ps : List Pair) × Mirrors hs us ps

mirrored_as : (hs gs : List Held) (us vs : Units) → hs ≡ gs → us ≡ vs → IsMirrored gs vs → IsMirrored hs us
mirrored_as hs gs us vs e f h = subst (λ (x : List Held). IsMirrored x us) (sym e) (subst (λ (y : Units). IsMirrored gs y) (sym f) h)

one_body : (h : Held) → is_body h.thing ≡ true → (g : Held) → Contains (h ∷ []) g → is_body g.thing ≡ true
one_body h is g at = elim (one_of h [] g at) [
  | inl e ↦ subst (λ (x : Held). is_body x.thing ≡ true) e is
  | inr more ↦ absurd (none_in g more)
]

pub stat_held : (b : ℕ) (it : Item) → it.plugin ≡ 0 → held_by b it ≡ held_at b it.key (Stat (facts_of (attr_of it.body))) ∷ []
unfolding held_by
stat_held b it is = let d : (it.plugin == 2) ≡ false = ap (λ (k : ℕ). k == 2) is in let t = eq-eqb it.plugin 0 is in rw (d, t) refl

pub stat_units : (it : Item) → it.plugin ≡ 0 → item_units it ≡ (rank it.key, StatValue (attr_of it.body)) ∷ []
unfolding item_units
stat_units it is = let t = eq-eqb it.plugin 0 is in rw t refl

pub dir_held : (b : ℕ) (it : Item) → it.plugin ≡ 2 → held_by b it ≡ map (held_entry b) (entries_of it.key it.body)
unfolding held_by
dir_held b it is = let t = eq-eqb it.plugin 2 is in rw t refl

pub dir_units : (it : Item) → it.plugin ≡ 2 → item_units it ≡ map entry_unit (entries_of it.key it.body)
unfolding item_units
dir_units it is = let n : (it.plugin == 0) ≡ false = ap (λ (k : ℕ). k == 0) is in let t = eq-eqb it.plugin 2 is in rw (n, t) refl

pub pointer_held : (b : ℕ) (it : Item) → it.plugin ≡ 3 → held_by b it ≡ []
unfolding held_by
pointer_held b it is =
    let d : (it.plugin == 2) ≡ false = ap (λ (k : ℕ). k == 2) is in
    let n : (it.plugin == 0) ≡ false = ap (λ (k : ℕ). k == 0) is in
    let t = eq-eqb it.plugin 3 is in
    rw (d, n, t) refl

pub pointer_units : (it : Item) → it.plugin ≡ 3 → item_units it ≡ []
unfolding item_units
pointer_units it is =
    let d : (it.plugin == 2) ≡ false = ap (λ (k : ℕ). k == 2) is in
    let n : (it.plugin == 0) ≡ false = ap (λ (k : ℕ). k == 0) is in
    let t = eq-eqb it.plugin 3 is in
    rw (n, d, t) refl

-- how an extent counts its blocks
abbrev pub extent_thing : Item → Thing
extent_thing it = Extent (counted (blocks_in (units_of it.body)))

pub extent_held : (b : ℕ) (it : Item) → it.plugin ≡ 5 → held_by b it ≡ held_at b it.key (extent_thing it) ∷ []
unfolding held_by
extent_held b it is =
    let d : (it.plugin == 2) ≡ false = ap (λ (k : ℕ). k == 2) is in
    let n : (it.plugin == 0) ≡ false = ap (λ (k : ℕ). k == 0) is in
    let p : (it.plugin == 3) ≡ false = ap (λ (k : ℕ). k == 3) is in
    let t = eq-eqb it.plugin 5 is in
    rw (d, n, p, t) refl

pub extent_units : (it : Item) → it.plugin ≡ 5 → item_units it ≡ hole_bytes (rank it.key) (units_of it.body)
unfolding item_units
extent_units it is =
    let d : (it.plugin == 2) ≡ false = ap (λ (k : ℕ). k == 2) is in
    let n : (it.plugin == 0) ≡ false = ap (λ (k : ℕ). k == 0) is in
    let p : (it.plugin == 3) ≡ false = ap (λ (k : ℕ). k == 3) is in
    let t = eq-eqb it.plugin 5 is in
    rw (n, d, p, t) refl

-- no other plugin
pub record IsTail (it : Item) : Type 0 where
  pub no_stat : it.plugin ≡ 0 → ⊥
  pub no_dir : it.plugin ≡ 2 → ⊥
  pub no_pointer : it.plugin ≡ 3 → ⊥
  pub no_extent : it.plugin ≡ 5 → ⊥

apart_from : (a b : ℕ) → (a ≡ b → ⊥) → (a == b) ≡ false
apart_from a b ne = grind (arith, nat_tests)

pub tail_held : (b : ℕ) (it : Item) → IsTail it → held_by b it ≡ held_at b it.key (Tail (length it.body)) ∷ []
unfolding held_by
tail_held b it is =
    let d = apart_from it.plugin 2 is.no_dir in
    let n = apart_from it.plugin 0 is.no_stat in
    let p = apart_from it.plugin 3 is.no_pointer in
    let t = apart_from it.plugin 5 is.no_extent in
    rw (d, n, p, t) refl

pub tail_units : (it : Item) → IsTail it → item_units it ≡ bytes_from (rank it.key) it.body
unfolding item_units
tail_units it is =
    let d = apart_from it.plugin 2 is.no_dir in
    let n = apart_from it.plugin 0 is.no_stat in
    let p = apart_from it.plugin 3 is.no_pointer in
    let t = apart_from it.plugin 5 is.no_extent in
    rw (n, d, p, t) refl

item_mirrored : (b : ℕ) (it : Item) → IsKey it.key → IsMirrored (held_by b it) (item_units it)
item_mirrored b it key = elim (cases_eq it.plugin 0) [
  | inl is ↦ mirrored_as _ _ _ _ (stat_held b it is) (stat_units it is) (_, mirrors_one (held_at b it.key (Stat (facts_of (attr_of it.body)))) (rank it.key, StatValue (attr_of it.body)) (record { key = key; at = refl; same = refl }) refl)
  | inr no_stat ↦ elim (cases_eq it.plugin 2) [
    | inl is ↦ mirrored_as _ _ _ _ (dir_held b it is) (dir_units it is) (_, entries_mirror b (entries_of it.key it.body) (entry_keys it key))
    | inr no_dir ↦ elim (cases_eq it.plugin 3) [
      | inl is ↦ mirrored_as _ _ _ _ (pointer_held b it is) (pointer_units it is) (_, mirrors_bodies [] [] (λ h at. absurd (none_in h at)) (λ u at. absurd (none_in u at)))
      | inr no_pointer ↦ elim (cases_eq it.plugin 5) [
        | inl is ↦ mirrored_as _ _ _ _ (extent_held b it is) (extent_units it is) (_, mirrors_bodies (held_at b it.key (extent_thing it) ∷ []) (hole_bytes (rank it.key) (units_of it.body)) (one_body (held_at b it.key (extent_thing it)) refl) (holes_bare (rank it.key) (units_of it.body)))
        | inr no_extent ↦
            let is : IsTail it = record { no_stat = no_stat; no_dir = no_dir; no_pointer = no_pointer; no_extent = no_extent } in
            mirrored_as _ _ _ _ (tail_held b it is) (tail_units it is) (_, mirrors_bodies (held_at b it.key (Tail (length it.body)) ∷ []) (bytes_from (rank it.key) it.body) (one_body (held_at b it.key (Tail (length it.body))) refl) (bytes_bare (rank it.key) it.body))
      ]
    ]
  ]
]

items_mirrored : (b : ℕ) (items : List Item) → ((it : Item) → Contains items it → IsKey it.key) → IsMirrored (flat_map (held_by b) items) (units_in items)
unfolding units_in
items_mirrored b [] keys = (_, mirrors_bodies [] [] (λ h at. absurd (none_in h at)) (λ u at. absurd (none_in u at)))
items_mirrored b (it ∷ items) keys =
    let first = item_mirrored b it (keys it (here it items)) in
    let rest = items_mirrored b items (λ x at. keys x (later it items x at)) in
    (first.0 ++ rest.0, mirrors_both (held_by b it) (flat_map (held_by b) items) (item_units it) (units_in items) first.0 rest.0 first.1 rest.1)

-- ---- cells

pub item_keys : (block : List ℕ) (it : Item) → Contains (items_of block) it → IsKey it.key
unfolding item_at
item_keys block it at =
    let (i, is) = place_of (items_of block) it at in
    let within = slice_get_within (items_of block) i it is in
    let long = length-items_of block in
    let same = same_Some _ it (sym (get-items_of block (count_of block) i refl (omega (arith, within, long))) ∙ is) in
    subst IsKey (ap (λ (y : Item). y.key) same) (key_fits block i)

cell_mirrored : (b level lo hi : ℕ) (block : List ℕ) → IsMirrored (held_in b (cell_of level lo hi block)) (cell_of level lo hi block).units
unfolding cell_of
cell_mirrored b zero lo hi block = (_, mirrors_bodies [] (bytes_from lo block) (λ h at. absurd (none_in h at)) (bytes_bare lo block))
cell_mirrored b (suc l) lo hi block =
    let n = apart_from (suc l) 0 (λ e. omega (arith, e)) in
    mirrored_as _ (flat_map (held_by b) (items_of block)) _ _ (ap (λ (t : Bool). cond t [] (flat_map (held_by b) (items_of block))) n) refl (items_mirrored b (items_of block) (item_keys block))

-- the units of cells, in the order of what they hold
abbrev pub all_units : Cells → Units
all_units [] = []
all_units (c ∷ cells) = all_units cells ++ c.1.units

-- each is what some block says
abbrev pub AreSaid : Cells → Type 0
AreSaid cells = (i : ℕ) (c : Node Value) → Contains cells (i, c) → (block : List ℕ) × (c ≡ cell_of c.level c.lo c.hi block)

pub cells_mirrored : (cells : Cells) → AreSaid cells → IsMirrored (found_in cells) (all_units cells)
cells_mirrored [] said = (_, mirrors_bodies [] [] (λ h at. absurd (none_in h at)) (λ u at. absurd (none_in u at)))
cells_mirrored (c ∷ cells) said =
    let rest = cells_mirrored cells (λ i d at. said i d (later c cells (i, d) at)) in
    let (block, is) = said c.0 c.1 (here c cells) in
    let one = subst (λ (d : Node Value). IsMirrored (held_in c.0 d) d.units) (sym is) (cell_mirrored c.0 c.1.level c.1.lo c.1.hi block) in
    (rest.0 ++ one.0, mirrors_both (found_in cells) (held_in c.0 c.1) (all_units cells) c.1.units rest.0 one.0 rest.1 one.1)
