-- The blocks of an extent, one by one, and the names of them.
use Rattle.std.proofs.Common.{◌≡◌, ◌≢◌, inl, inr, ℕ, zero, suc, ◌+◌, ◌-◌, ◌*◌, ◌/◌, ◌%◌, ◌^◌, ◌<◌, ◌≤◌, Bool, true, false, List, [], ◌∷◌, ◌++◌, length, drop, refl, sym, ap, subst, ◌∙◌, arith}
use Rattle.std.specs.Prelude.{Some, None, Contains, ◌==◌, ◌&&◌, if◌then◌else◌, slice_get, slice_index}
use Rattle.std.proofs.lemmas.Bool.{and_parts, cases_lt, eqb-true, le-ltb, lt-ltb}
use Rattle.std.proofs.lemmas.Bool.Decides.{nat_tests}
use Rattle.std.proofs.lemmas.List.Elements.{Contains-append_left, Contains-append_right}
use Rattle.r4_base.specs.Cell.{block_names, cell_of, item_names, names_in, next_key, run_names}
use Rattle.r4_base.specs.Extents.{AreLawfulUnits, IsLawfulUnit, block_of, blocks_in, is_hole, units_of}
use Rattle.r4_base.specs.Image.{Image, block_at}
use Rattle.r4_base.specs.Key.{rank, with_offset}
use Rattle.r4_base.specs.Node.{Item, items_of}
use Rattle.r4_base.specs.Tree.{Name}
use Rattle.r4_base.specs.declared.items.Unit.{Unit as ExtentUnit}
use Rattle.r4_base.specs.declared.key.Key.{Key}
use Rattle.r4_node40.proofs.Following.{item_first}
use Rattle.r4_search.specs.r4_cell.Seen.{CellSeen, node_of}
use Rattle.r4_search.proofs.Places.{names_at}
use Rattle.r4_units.specs.Extent.{IsUnitAt, block_name, unit_block, unit_names}

-- ---- keys of one body

pub record AreOneBody (a b : Key) : Type 0 where
  pub first : slice_index a.el 0 ≡ slice_index b.el 0
  pub second : slice_index a.el 1 ≡ slice_index b.el 1
  pub third : slice_index a.el 2 ≡ slice_index b.el 2

pub one_body : (a b : Key) → (slice_index a.el 0 == slice_index b.el 0 && slice_index a.el 1 == slice_index b.el 1 && slice_index a.el 2 == slice_index b.el 2) ≡ true → AreOneBody a b
one_body a b h =
    let x = and_parts _ (slice_index a.el 2 == slice_index b.el 2) h in
    let y = and_parts (slice_index a.el 0 == slice_index b.el 0) (slice_index a.el 1 == slice_index b.el 1) x.0 in
    record { first = eqb-true _ _ y.0; second = eqb-true _ _ y.1; third = eqb-true _ _ x.1 }

-- the offsets tell how far the ranks are apart
pub ranks_apart : (a b : Key) → AreOneBody a b → rank a + slice_index b.el 3 ≡ rank b + slice_index a.el 3
unfolding rank
ranks_apart a b h = let x = h.first in let y = h.second in let z = h.third in rw (x, y, z) (omega arith)

pub rank_from : (l o i offset : ℕ) → rank (record { el = l ∷ o ∷ i ∷ offset ∷ [] }) ≡ rank (record { el = l ∷ o ∷ i ∷ 0 ∷ [] }) + offset
unfolding rank
rank_from l o i offset = omega arith

abbrev With : (k h : Key) (offset : ℕ) → Type 0
With k h offset = h ≡ with_offset k offset

pub with_one_body : (k h : Key) (offset : ℕ) → With k h offset → AreOneBody h k
with_one_body k h offset e = record { first = rw e refl; second = rw e refl; third = rw e refl }

pub offset_is : (k h : Key) (offset : ℕ) → With k h offset → slice_index h.el 3 ≡ offset
offset_is k h offset e = rw e refl

pub rank_behind : (k h : Key) → With k h (slice_index k.el 3 + 4096) → rank h ≡ rank k + 4096
rank_behind k h e =
    let apart = ranks_apart h k (with_one_body k h _ e) in
    let offset = offset_is k h _ e in
    omega (arith, apart, offset)

-- the first byte of a block
pub rank_of_block : (it key lo : Key) → AreOneBody it key → slice_index it.el 3 ≤ slice_index key.el 3
    → With key lo (slice_index key.el 3 - (slice_index key.el 3 - slice_index it.el 3) % 4096) → rank lo ≡ rank it + 4096 * ((slice_index key.el 3 - slice_index it.el 3) / 4096)
rank_of_block it key lo one le e =
    let a = ranks_apart it key one in
    let b = ranks_apart lo key (with_one_body key lo _ e) in
    let offset = offset_is key lo _ e in
    omega (arith, a, b, offset, le)

pub offsets_up_to : (a b : Key) → AreOneBody a b → rank a ≤ rank b → slice_index a.el 3 ≤ slice_index b.el 3
offsets_up_to a b one le = let h = ranks_apart a b one in omega (arith, h, le)

pub offsets_above : (a b : Key) → AreOneBody a b → rank b < rank a → slice_index b.el 3 < slice_index a.el 3
offsets_above a b one lt = let h = ranks_apart a b one in omega (arith, h, lt)

-- ---- units

pub lawful_at : (us : List ExtentUnit) (i : ℕ) (u : ExtentUnit) → AreLawfulUnits true (2 ^ 64) us → slice_get us i ≡ Some u → IsLawfulUnit true (2 ^ 64) u
lawful_at [] i u h is = absurd cc
lawful_at (x ∷ us) zero u h is = let e : x ≡ u = cc in subst (IsLawfulUnit true (2 ^ 64)) e h.0
lawful_at (x ∷ us) (suc i) u h is = lawful_at us i u h.1 is

-- so many blocks behind the beginning is so many behind a unit
pub record IsLeft (us : List ExtentUnit) (i block left : ℕ) : Type 0 where
  pub order : left ≤ block
  pub blocks : (block - left) + blocks_in (drop i us) ≡ blocks_in us
  pub is : block_of us block ≡ block_of (drop i us) left

pub left_first : (us : List ExtentUnit) (block : ℕ) → IsLeft us 0 block block
left_first us block = record { order = omega arith; blocks = omega arith; is = refl }

drop_next : (us : List ExtentUnit) (i : ℕ) (u : ExtentUnit) → slice_get us i ≡ Some u → drop i us ≡ u ∷ drop (i + 1) us
drop_next [] i u is = absurd cc
drop_next (x ∷ us) zero u is = let e : x ≡ u = cc in ap (λ (y : ExtentUnit). y ∷ us) e
drop_next (x ∷ us) (suc i) u is = let e : suc (i + 1) ≡ suc i + 1 = omega arith in subst (λ (n : ℕ). drop i us ≡ u ∷ drop n (x ∷ us)) e (drop_next us i u is)

still_some : (s k : ℕ) → (s == 0) ≡ false → (s + k == 0) ≡ false
still_some s k z = grind (arith, nat_tests)

not_zero : (s : ℕ) → s ≢ 0 → (s == 0) ≡ false
not_zero s h = grind (arith, nat_tests)

module _ (us : List ExtentUnit) (i block left : ℕ) (h : IsLeft us i block left) (u : ExtentUnit) (is : slice_get us i ≡ Some u) where
  pub left_next : u.width ≤ left → IsLeft us (i + 1) block (left - u.width)
  unfolding block_of
  left_next past =
      let split = drop_next us i u is in
      let order = h.order in
      let blocks = h.blocks in
      let parts : blocks_in (drop i us) ≡ u.width + blocks_in (drop (i + 1) us) = ap blocks_in split in
      let later : block_of (u ∷ drop (i + 1) us) left ≡ block_of (drop (i + 1) us) (left - u.width) = rw (le-ltb left u.width past) refl in
      record {
        order = omega (arith, order);
        blocks = omega (arith, order, blocks, parts, past);
        is = h.is ∙ (ap (λ (vs : List ExtentUnit). block_of vs left) split ∙ later);
      }

  pub unit_here : (v : ExtentUnit) → left < u.width → v.start ≡ (if u.start == 0 then 0 else (u.start + left)) → v.width ≡ 1
      → IsUnitAt us block v
  unfolding block_of
  unit_here v lt start one =
      let split = drop_next us i u is in
      let order = h.order in
      let blocks = h.blocks in
      let parts : blocks_in (drop i us) ≡ u.width + blocks_in (drop (i + 1) us) = ap blocks_in split in
      let here : block_of (u ∷ drop (i + 1) us) left ≡ (if is_hole u then None else Some (u.start + left)) = rw (lt-ltb left u.width lt) refl in
      record {
        is = h.is ∙ (ap (λ (vs : List ExtentUnit). block_of vs left) split ∙ (here ∙ started u.start v.start left start));
        within = omega (arith, order, blocks, parts, lt);
        width = one;
      }
    where
      started : (s t k : ℕ) → t ≡ (if s == 0 then 0 else (s + k)) → (if s == 0 then None else Some (s + k)) ≡ (if t == 0 then None else Some t)
      started s t k e = tested (s == 0) refl e
        where
          tested : (hole : Bool) → (s == 0) ≡ hole → t ≡ (if hole then 0 else (s + k)) → (if hole then None else Some (s + k)) ≡ (if t == 0 then None else Some t)
          tested true z f = rw f refl
          tested false z f = let n : (s + k == 0) ≡ false = still_some s k z in rw f (rw n refl)

pub left_end : (us : List ExtentUnit) (block left : ℕ) → IsLeft us (length us) block left → blocks_in us ≤ block
left_end us block left h =
    let order = h.order in
    let blocks = h.blocks in
    let none : blocks_in (drop (length us) us) ≡ 0 = ends us in
    omega (arith, order, blocks, none)
  where
    ends : (vs : List ExtentUnit) → blocks_in (drop (length vs) vs) ≡ 0
    ends [] = refl
    ends (x ∷ vs) = ends vs

-- ---- names

run_named : (k start n j : ℕ) → j < n → Contains (run_names k start n) (block_name (start + j) (k + 4096 * j))
run_named k start zero j lt = absurd (omega (arith, lt))
run_named k start (suc n) zero lt =
    let a : start ≡ start + 0 = omega arith in
    let b : k ≡ k + 4096 * 0 = omega arith in
    let x : Name = block_name start k in
    subst (λ (s : ℕ). Contains (run_names k start (suc n)) (block_name s (k + 4096 * 0))) a (subst (λ (l : ℕ). Contains (run_names k start (suc n)) (block_name start l)) b (zero, omega arith, refl))
run_named k start (suc n) (suc j) lt =
    let a : start + 1 + j ≡ start + suc j = omega arith in
    let b : k + 4096 + 4096 * j ≡ k + 4096 * suc j = omega arith in
    let rest = run_named (k + 4096) (start + 1) n j (omega (arith, lt)) in
    let at : Contains (run_names (k + 4096) (start + 1) n) (block_name (start + suc j) (k + 4096 * suc j)) = subst (λ (s : ℕ). Contains (run_names (k + 4096) (start + 1) n) (block_name s (k + 4096 * suc j))) a (subst (λ (l : ℕ). Contains (run_names (k + 4096) (start + 1) n) (block_name (start + 1 + j) l)) b rest) in
    Contains-append_right (block_name start k ∷ []) (run_names (k + 4096) (start + 1) n) _ at

pub unit_named : (k : ℕ) (us : List ExtentUnit) (block id : ℕ) → block_of us block ≡ Some id → Contains (block_names k us) (block_name id (k + 4096 * block))
unfolding block_of
unit_named k [] block id is = absurd cc
unit_named k (u ∷ us) block id is = elim (cases_lt block u.width) [
  | inl lt ↦ here (is_hole u) (sym (at_first lt) ∙ is) lt
  | inr past ↦
      let later : block_of (u ∷ us) block ≡ block_of us (block - u.width) = rw (le-ltb block u.width past) refl in
      let e : k + 4096 * u.width + 4096 * (block - u.width) ≡ k + 4096 * block = omega (arith, past) in
      Contains-append_right (if is_hole u then [] else run_names k u.start u.width) (block_names (k + 4096 * u.width) us) _
      (subst (λ (l : ℕ). Contains (block_names (k + 4096 * u.width) us) (block_name id l)) e (unit_named (k + 4096 * u.width) us (block - u.width) id (sym later ∙ is)))
]
  where
    at_first : block < u.width → block_of (u ∷ us) block ≡ (if is_hole u then None else Some (u.start + block))
    at_first lt = rw (lt-ltb block u.width lt) refl

    here : (hole : Bool) → (if hole then None else Some (u.start + block)) ≡ Some id → block < u.width → Contains ((if hole then [] else run_names k u.start u.width) ++ block_names (k + 4096 * u.width) us) (block_name id (k + 4096 * block))
    here true e lt = absurd cc
    here false e lt =
        let same : u.start + block ≡ id = cc in
        Contains-append_left (run_names k u.start u.width) (block_names (k + 4096 * u.width) us) _
        (subst (λ (s : ℕ). Contains (run_names k u.start u.width) (block_name s (k + 4096 * block))) same (run_named k u.start u.width block lt))

-- a block's own name
pub unit_in : (u : ExtentUnit) (lo : ℕ) → u.start ≢ 0 → Contains (unit_names u lo) (block_name u.start lo)
unit_in u lo some = let z : (u.start == 0) ≡ false = not_zero u.start some in rw z (zero, omega arith, refl)

-- and its bytes
pub run_block : (image : Image) (u : ExtentUnit) → u.start ≢ 0 → unit_block image u ≡ block_at image u.start
run_block image u some = let z : (u.start == 0) ≡ false = not_zero u.start some in rw z refl

-- a unit of one block is named where its extent's blocks are
pub unit_among : (k : ℕ) (us : List ExtentUnit) (block lo : ℕ) (u : ExtentUnit) → IsUnitAt us block u → lo ≡ k + 4096 * block → (n : Name) → Contains (unit_names u lo) n → Contains (block_names k us) n
unit_among k us block lo u at e n h = tested (u.start == 0) refl (at.is) h
  where
    only : (x y : Name) → Contains (x ∷ []) y → y ≡ x
    only x y (zero, l, is) = sym is
    only x y (suc i, l, is) = absurd (omega (arith, l))

    tested : (t : Bool) → (u.start == 0) ≡ t → block_of us block ≡ (if t then None else Some u.start) → Contains (if t then [] else (block_name u.start lo ∷ [])) n → Contains (block_names k us) n
    tested true z is (i, l, q) = absurd (omega (arith, l))
    tested false z is has =
        let same : block_name u.start (k + 4096 * block) ≡ n = ap (λ (a : ℕ). block_name u.start a) (sym e) ∙ sym (only (block_name u.start lo) n has) in
        subst (Contains (block_names k us)) same (unit_named k us block u.start is)

-- ---- what a cell names

pub names_of : (level lo hi : ℕ) (b : List ℕ) → 1 ≤ level → (cell_of level lo hi b).names ≡ names_in level hi (items_of b)
unfolding cell_of
names_of zero lo hi b some = absurd (omega (arith, some))
names_of (suc l) lo hi b some = refl

pub extent_names : (level next : ℕ) (it : Item) → it.plugin ≡ 5 → item_names level next it ≡ block_names (rank it.key) (units_of it.body)
unfolding item_names
extent_names level next it is =
    let c : (it.plugin == 3) ≡ false = ap (λ (x : ℕ). x == 3) is in
    let d : (it.plugin == 5) ≡ true = ap (λ (x : ℕ). x == 5) is in
    rw (c, d) refl

pub extent_among : (c : CellSeen) (i : ℕ) (it : Item) → 1 ≤ c.level → slice_get (items_of c.block) i ≡ Some it → it.plugin ≡ 5 → (n : Name) → Contains (block_names (rank it.key) (units_of it.body)) n → Contains (node_of c).names n
extent_among c i it some is five n h =
    let there : Contains (item_names c.level (next_key (rank c.hi) (drop (i + 1) (items_of c.block))) it) n = subst (λ (ns : List Name). Contains ns n) (sym (extent_names c.level _ it five)) h in
    subst (λ (ns : List Name). Contains ns n) (sym (names_of c.level (rank c.lo) (rank c.hi) c.block some)) (names_at c.level (rank c.hi) (items_of c.block) i it (drop (i + 1) (items_of c.block)) n (item_first (items_of c.block) i it is) there)
