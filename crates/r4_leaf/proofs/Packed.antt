-- Leaves that are filled one after the other.
use Rattle.std.proofs.Common.{◌≡◌, ℕ, suc, ◌+◌, ◌-◌, ◌^◌, ◌<◌, ◌≤◌, Bool, true, false, ◌&&◌, List, [], ◌∷◌, ◌++◌, length, cond, inl, inr, refl, sym, ap, subst, ◌∙◌, arith}
use Rattle.std.specs.Prelude.{slice_get, Option, Some, None, ◌==◌, nat_le, nat_lt, reverse, if◌then◌else◌}
use Rattle.std.proofs.lemmas.Bool.{and_from, eq-eqb, le-leb, lt-ltb}
use Rattle.std.proofs.lemmas.List.{append_assoc, append-nil, length-append, reverse-append}
use Rattle.std.proofs.lemmas.Option.{same_Some}
use Rattle.r4_base.specs.Cell.{bytes_from, cell_fault, entry_unit, item_end, items_in_fault, next_key, range_is_good, units_in}
use Rattle.r4_base.specs.Dir.{Entry as DirEntry}
use Rattle.r4_base.specs.Entries.{IsLawfulEntry}
use Rattle.r4_base.specs.Key.{rank}
use Rattle.r4_base.specs.Name.{is_long_name}
use Rattle.r4_base.specs.Stat.{attr_of}
use Rattle.r4_base.specs.declared.items.Attr.{Attr}
use Rattle.r4_cde.specs.Shown.{entry_shown}
use Rattle.r4_base.specs.Node.{Item, KeysRise, PluginsFit, count_of, is_empty_branch, items_of, level_of, mkfs_id_of, node_fault}
use Rattle.r4_base.specs.Value.{Stat as StatValue, Byte}
use Rattle.r4_base.specs.declared.node.NodeFault.TheVariants.{Empty}
use Rattle.r4_base.proofs.Names.{is_name}
use Rattle.r4_base.proofs.Choices.{none_at}
use Rattle.r4_node40.specs.Laid.{IsFresh, room_of}
use Rattle.r4_node40.proofs.Accepted.{accepted}
use Rattle.r4_leaf.specs.Filling.{IsFilled, last_of}
use Rattle.r4_leaf.specs.Items.{Lie}
use Rattle.r4_leaf.specs.Leaves.{MayStand, Packs}
use Rattle.r4_leaf.specs.Packing.{Fills, FillsUp, IsLeft, Stops, TakesPiece}
use Rattle.r4_leaf.specs.Pieces.{Follow, IsSound, piece_end, piece_key, piece_units, units_of}
use Rattle.r4_leaf.specs.Filling.{Puts}
use Rattle.r4_leaf.specs.Units.{LeafUnit, entry_bytes, leaf_bytes, unit_bytes}
use Rattle.r4_leaf.specs.declared.leaf.Leaf.{Leaf}
use Rattle.r4_leaf.specs.declared.piece.Piece.{Piece}
use Rattle.r4_leaf.specs.declared.piece.Piece.TheVariants.{Stat, Entry, Bytes}
use Rattle.r4_leaf.proofs.Filled.{lie_wider}
use Rattle.r4_leaf.proofs.SoundItems.{item_has_end}
use Rattle.r4_leaf.proofs.Weighed.{headed, no_weight}

-- ---- a leaf that may stand

pub lie_order : (from to : ℕ) (xs : List Item) → Lie from to xs → from ≤ to
lie_order from to [] h = h
lie_order from to (x ∷ xs) h = let r = lie_order (item_end x) to xs h.2 in let own = item_has_end x h.1 in let low = h.0 in omega (arith, r, own, low)

next_is : (from hi : ℕ) (xs : List Item) → Lie from hi xs → from ≤ next_key hi xs
next_is from hi [] h = h
next_is from hi (y ∷ ys) h = h.0

pub lie_good : (from lo hi i : ℕ) (xs : List Item) → lo ≤ from → Lie from hi xs → items_in_fault true (2 ^ 64) 1 lo hi i xs ≡ None
unfolding items_in_fault
lie_good from lo hi i [] le h = refl
lie_good from lo hi i (x ∷ xs) le h =
    let low = h.0 in
    let own = item_has_end x h.1 in
    let order = lie_order (item_end x) hi xs h.2 in
    let next = next_is (item_end x) hi xs h.2 in
    let body = h.1.body in
    let a : nat_le lo (rank x.key) ≡ true = le-leb _ _ (omega (arith, le, low)) in
    let b : nat_lt (rank x.key) hi ≡ true = lt-ltb _ _ (omega (arith, own, order)) in
    let d : nat_le (item_end x) hi ≡ true = le-leb _ _ order in
    let e : nat_le (item_end x) (next_key hi xs) ≡ true = le-leb _ _ next in
    let good : range_is_good 1 lo hi (next_key hi xs) i x ≡ true = and_from _ _ (and_from _ _ (and_from _ _ (and_from _ _ (and_from _ _ a b) h.1.fits) d) e) refl in
    let rest = lie_good (item_end x) lo hi (i + 1) xs (omega (arith, le, low, own)) h.2 in
    rw (body, good) rest

pub may_stand : (lo to hi : ℕ) (us : List LeafUnit) (b : List ℕ) → IsFilled lo to us b → to ≤ hi → MayStand lo hi b
unfolding cell_fault
may_stand lo to hi us b f le =
    let low : nat_lt 1 (level_of b) ≡ false = ap (nat_lt 1) f.level in
    let full : is_empty_branch b ≡ false = ap (λ t. t && (count_of b == 0)) low in
    let none : node_fault b ≡ None = accepted b f.node ∙ ap (λ (e : Bool). cond e (Some Empty) None) full in
    let same : (level_of b == 1) ≡ true = eq-eqb _ _ f.level in
    let good = lie_good lo lo hi 0 (items_of b) (omega arith) (lie_wider lo to hi (items_of b) le f.lie) in
    (f.node.laid.whole, rw (none, same) good)

pub fresh_filled : (lo mkfs_id : ℕ) (b : List ℕ) → IsFresh b 1 mkfs_id → IsFilled lo lo [] b
unfolding units_in
fresh_filled lo mkfs_id b fresh = record {
  node = record {
    laid = fresh.laid;
    head = fresh.head;
    plugins = subst (PluginsFit (level_of b)) (sym fresh.items) (λ k x e. absurd (none_at k x e));
    keys = subst KeysRise (sym fresh.items) (λ k x y e g. absurd (none_at k x e));
  };
  level = fresh.level_is;
  lie = subst (λ xs. Lie lo lo xs) (sym fresh.items) (omega arith);
  units = ap units_in fresh.items;
  room = let r = fresh.room in let z = no_bytes in omega (arith, r, z);
}
  where
    no_bytes : leaf_bytes [] ≡ 0
    no_bytes = no_weight

-- ---- filling

turned : (ps : List Piece) (p : Piece) → reverse (ps ++ p ∷ []) ≡ p ∷ reverse ps
turned ps p = reverse-append ps (p ∷ [])

pub fill_begins : (lo hi : ℕ) (pieces : List Piece) (b : List ℕ) → IsFilled lo lo [] b → Follow lo hi (reverse pieces) → Fills lo hi pieces pieces b
fill_begins lo hi pieces b f h = record { us = []; to = lo; units = refl; filled = f; follow = h }

module _ (lo hi : ℕ) (pieces ps qs : List Piece) (p : Piece) (b c : List ℕ) (is : ps ≡ qs ++ p ∷ []) (f : Fills lo hi pieces ps b) where
  stack : reverse ps ≡ p ∷ reverse qs
  stack = ap reverse is ∙ turned qs p

  pub behind : Follow f.to hi (p ∷ reverse qs)
  behind = subst (λ xs. Follow f.to hi xs) stack f.follow

  units_split : units_of (reverse pieces) ≡ f.us ++ (piece_units p ++ units_of (reverse qs))
  units_split = f.units ∙ ap (λ xs. f.us ++ units_of xs) stack

  pub fill_more : Puts (rank (piece_key p)) (piece_end p) (piece_units p) b c → Fills lo hi pieces qs c
  fill_more puts = record {
    us = f.us ++ piece_units p;
    to = piece_end p;
    units = units_split ∙ sym (append_assoc f.us (piece_units p) (units_of (reverse qs)));
    filled = puts.filled lo f.to f.us f.filled behind.0;
    follow = behind.2;
  }

  -- the mkfs_id stays
  pub takes_kept : (left : Option Piece) → TakesPiece p left b c → mkfs_id_of c ≡ mkfs_id_of b
  takes_kept None puts = puts.mkfs_id lo f.to f.us f.filled behind.0
  takes_kept (Some q) l = l.puts.mkfs_id lo f.to f.us f.filled behind.0

  pub fill_stops : (q : Piece) (new : List Piece) → new ≡ qs ++ q ∷ [] → IsLeft p q b c → FillsUp lo hi pieces new c
  fill_stops q new pushed l = record {
    fills = record {
      us = f.us ++ l.done;
      to = rank (piece_key q);
      units = units_split ∙ (ap (λ us. f.us ++ (us ++ units_of (reverse qs))) l.units ∙ (ap (λ us. f.us ++ us) (append_assoc l.done (piece_units q) (units_of (reverse qs)))
          ∙ (sym (append_assoc f.us l.done (piece_units q ++ units_of (reverse qs))) ∙ ap (λ xs. (f.us ++ l.done) ++ units_of xs) (sym (ap reverse pushed ∙ turned qs q)))));
      filled = l.puts.filled lo f.to f.us f.filled behind.0;
      follow = subst (λ xs. Follow (rank (piece_key q)) hi xs) (sym (ap reverse pushed ∙ turned qs q)) (omega arith, l.sound, subst (λ t. Follow t hi (reverse qs)) (sym l.end) behind.2);
    };
    stops = inr (record { before = qs; q = q; is = pushed; next = l.next; more = l.more; first = l.first; key = l.key; full = l.full });
  }

-- ---- packing

-- What is packed of the pieces that are left goes behind the leaves that are filled.
pub record Packing (lo0 : ℕ) (pieces0 : List Piece) (lo : ℕ) (pieces : List Piece) (leaves : List Leaf) : Type 0 where
  pub follow : (hi : ℕ) → Follow lo0 hi (reverse pieces0) → Follow lo hi (reverse pieces)
  pub packs : (hi : ℕ) (made : List Leaf) → Follow lo0 hi (reverse pieces0) → Packs lo hi (units_of (reverse pieces)) made → Packs lo0 hi (units_of (reverse pieces0)) (leaves ++ made)

pub pack_begins : (lo : ℕ) (pieces : List Piece) → Packing lo pieces lo pieces []
pack_begins lo pieces = record { follow = λ hi h. h; packs = λ hi made h p. p }

same_head : (u v : LeafUnit) (us vs : List LeafUnit) → u ∷ us ≡ v ∷ vs → u ≡ v
same_head u v us vs e = cc

byte_small : (k x : ℕ) → unit_bytes None (k, Byte x) ≤ 346
unfolding unit_bytes
byte_small k x = omega arith

stat_small : (k : ℕ) (a : Attr) → unit_bytes None (k, StatValue a) ≤ 346
unfolding unit_bytes
stat_small k a = omega arith

entry_small : (e : DirEntry) → IsLawfulEntry e → unit_bytes None (entry_unit e) ≤ 346
unfolding unit_bytes
entry_small e lawful =
    let few = (is_name e.name lawful.legal).few in
    let n = name_small e.name few in
    omega (arith, n)
  where
    name_small : (s : List ℕ) → length s ≤ 255 → entry_bytes s ≤ 280
    name_small s few = by_test (is_long_name s) few
      where
        by_test : (t : Bool) → length s ≤ 255 → (let n : ℕ = if t then 24 + (length s + 1) else 24 in n) ≤ 280
        by_test true few = omega (arith, few)
        by_test false few = omega arith

first_small : (q : Piece) (next : LeafUnit) (more : List LeafUnit) → IsSound q → piece_units q ≡ next ∷ more → unit_bytes None next ≤ 346
unfolding piece_units
first_small (Stat k body) next more sound is = subst (λ u. unit_bytes None u ≤ 346) (same_head _ next [] more is) (stat_small (rank k) (attr_of body.now))
first_small (Entry e) next more sound is = subst (λ u. unit_bytes None u ≤ 346) (same_head _ next [] more is) (entry_small (entry_shown e) sound.0)
first_small (Bytes k bytes) next more sound is = of_bytes bytes sound.0 is
  where
    of_bytes : (bs : List ℕ) → 1 ≤ length bs → bytes_from (rank k) bs ≡ next ∷ more → unit_bytes None next ≤ 346
    of_bytes [] some e = absurd (omega (arith, some))
    of_bytes (x ∷ bs) some e = subst (λ u. unit_bytes None u ≤ 346) (same_head (rank k, Byte x) next (bytes_from (rank k + 1) bs) more e) (byte_small (rank k) x)

leaf_some : (us : List LeafUnit) (next : LeafUnit) → unit_bytes None next ≤ 4068 → 4068 < leaf_bytes us + unit_bytes (last_of us) next → 1 ≤ length us
leaf_some [] next small full = let z = no_weight in absurd (omega (arith, z, small, full))
leaf_some (u ∷ us) next small full = omega arith

packs_lo : (lo hi : ℕ) (us : List LeafUnit) (y : Leaf) (more : List Leaf) → Packs lo hi us (y ∷ more) → rank y.lo ≡ lo
packs_lo lo hi us y [] p = p.from
packs_lo lo hi us y (z ∷ more) p = p.6.from

module _ (lo0 lo : ℕ) (pieces0 pieces left : List Piece) (leaves : List Leaf) (x : Leaf) (from : rank x.lo ≡ lo) (p : Packing lo0 pieces0 lo pieces leaves)
    (fills : (hi : ℕ) → Follow lo hi (reverse pieces) → FillsUp lo hi pieces left x.block) where
  -- the last leaf
  pub pack_ends : left ≡ [] → (hi : ℕ) → Follow lo0 hi (reverse pieces0) → Packs lo0 hi (units_of (reverse pieces0)) (leaves ++ x ∷ [])
  pack_ends none hi h =
      let f = (fills hi (p.follow hi h)).fills in
      let le : f.to ≤ hi = subst (λ ps. Follow f.to hi (reverse ps)) none f.follow in
      let all : f.us ≡ units_of (reverse pieces) = sym (append-nil f.us) ∙ (ap (λ ps. f.us ++ units_of (reverse ps)) (sym none) ∙ sym f.units) in
      p.packs hi (x ∷ []) h (record { from = from; stands = may_stand lo f.to hi f.us x.block f.filled le; units = f.filled.units ∙ all; fits = subst (λ us. leaf_bytes us ≤ 4068) all (let r = f.filled.room in omega (arith, r)); room = subst (λ us. room_of x.block + leaf_bytes us ≡ 4068) all f.filled.room })

  -- one more leaf behind which others come
  module _ (q : Piece) (before : List Piece) (is : left ≡ before ++ q ∷ []) where
    stack_left : reverse left ≡ q ∷ reverse before
    stack_left = ap reverse is ∙ turned before q

    pub pack_follow : (hi : ℕ) → Follow lo0 hi (reverse pieces0) → Follow (rank (piece_key q)) hi (reverse left)
    pack_follow hi h =
        let f = (fills hi (p.follow hi h)).fills in
        let g : Follow f.to hi (q ∷ reverse before) = subst (λ ps. Follow f.to hi ps) stack_left f.follow in
        subst (λ ps. Follow (rank (piece_key q)) hi ps) (sym stack_left) (omega arith, g.1, g.2)

    same_last : (xs ys : List Piece) (a b : Piece) → xs ++ a ∷ [] ≡ ys ++ b ∷ [] → a ≡ b
    same_last xs ys a b e =
        let r : a ∷ reverse xs ≡ b ∷ reverse ys = sym (turned xs a) ∙ (ap reverse e ∙ turned ys b) in
        cc

    some_left : left ≡ [] → ⊥
    some_left none = let r : q ∷ reverse before ≡ [] = sym stack_left ∙ ap reverse none in absurd cc

    stop_of : {hi : ℕ} → FillsUp lo hi pieces left x.block → Stops left x.block
    stop_of f = elim f.stops [ inl none ↦ absurd (some_left none) | inr s ↦ s ]

    some_items : (from to : ℕ) (xs : List Item) → Lie from to xs → 1 ≤ length (units_in xs) → from < to
    unfolding units_in
    some_items from to [] h some = absurd (omega (arith, some))
    some_items from to (y ∷ xs) h some = let low = h.0 in let own = item_has_end y h.1 in let order = lie_order (item_end y) to xs h.2 in omega (arith, low, own, order)

    pub pack_more : (hi : ℕ) (made : List Leaf) → Follow lo0 hi (reverse pieces0) → Packs (rank (piece_key q)) hi (units_of (reverse left)) made → Packs lo0 hi (units_of (reverse pieces0)) ((leaves ++ x ∷ []) ++ made)
    pack_more hi [] h m = absurd m
    pack_more hi (y ∷ ys) h m =
        let up = fills hi (p.follow hi h) in
        let f = up.fills in
        let s = stop_of up in
        let same : s.q ≡ q = same_last s.before before s.q q (sym s.is ∙ is) in
        let key : s.next.0 ≡ rank (piece_key q) = s.key ∙ ap (λ (z : Piece). rank (piece_key z)) same in
        let rest = s.more ++ units_of (reverse before) in
        let units : units_of (reverse left) ≡ s.next ∷ rest = ap units_of stack_left ∙ ap (λ us. us ++ units_of (reverse before)) (ap piece_units (sym same) ∙ s.first) in
        let full = s.full.full lo f.to f.us f.filled in
        let behind_all : Follow f.to hi (q ∷ reverse before) = subst (λ ps. Follow f.to hi ps) stack_left f.follow in
        let small = first_small s.q s.next s.more (subst IsSound (sym same) behind_all.1) s.first in
        let some = leaf_some f.us s.next (omega (arith, small)) full in
        let le = behind_all.0 in
        let below = some_items lo f.to (items_of x.block) f.filled.lie (subst (λ us. 1 ≤ length us) (sym f.filled.units) some) in
        let packed : Packs s.next.0 hi (s.next ∷ rest) (y ∷ ys) = subst (λ k. Packs k hi (s.next ∷ rest) (y ∷ ys)) (sym key) (subst (λ us. Packs (rank (piece_key q)) hi us (y ∷ ys)) units m) in
        subst (λ ls. Packs lo0 hi (units_of (reverse pieces0)) ls) (sym (append_assoc leaves (x ∷ []) (y ∷ ys)))
        (p.packs hi (x ∷ (y ∷ ys)) h (
          f.us,
          s.next,
          rest,
          f.units ∙ ap (λ us. f.us ++ us) units,
          packs_lo s.next.0 hi (s.next ∷ rest) y ys packed,
          omega (arith, below, le, key),
          record { from = from; stands = may_stand lo f.to s.next.0 f.us x.block f.filled (omega (arith, le, key)); units = f.filled.units; fits = (let r = f.filled.room in omega (arith, r)); room = f.filled.room },
          record { some = some; full = full; filled = (let most = (headed (last_of f.us) s.next).0 in omega (arith, full, small, most)) },
          packed,
        ))

    pub packing_more : Packing lo0 pieces0 (rank (piece_key q)) left (leaves ++ x ∷ [])
    packing_more = record { follow = pack_follow; packs = pack_more }

    pub fewer : (hi : ℕ) → Follow lo0 hi (reverse pieces0) → length (units_of (reverse left)) < length (units_of (reverse pieces))
    fewer hi h =
        let up = fills hi (p.follow hi h) in
        let f = up.fills in
        let s = stop_of up in
        let same : s.q ≡ q = same_last s.before before s.q q (sym s.is ∙ is) in
        let behind_all : Follow f.to hi (q ∷ reverse before) = subst (λ ps. Follow f.to hi ps) stack_left f.follow in
        let small = first_small s.q s.next s.more (subst IsSound (sym same) behind_all.1) s.first in
        let some = leaf_some f.us s.next (omega (arith, small)) (s.full.full lo f.to f.us f.filled) in
        let all = ap length f.units in
        let and_from = length-append f.us (units_of (reverse left)) in
        omega (arith, all, and_from, some)

pub last_split : (left : List Piece) (q : Piece) → slice_get left (length left - 1) ≡ Some q → (before : List Piece) × (left ≡ before ++ q ∷ [])
last_split [] q at = absurd cc
last_split (x ∷ []) q at = ([], ap (λ z. z ∷ []) (same_Some x q at))
last_split (x ∷ (y ∷ ys)) q at =
    let r = last_split (y ∷ ys) q (subst (λ n. slice_get (x ∷ (y ∷ ys)) n ≡ Some q) (let e : length (x ∷ (y ∷ ys)) - 1 ≡ suc (length (y ∷ ys) - 1) = omega arith in e) at) in
    (x ∷ r.0, ap (λ zs. x ∷ zs) r.1)

pub none_left : (left : List Piece) → slice_get left (length left - 1) ≡ None → left ≡ []
none_left [] at = refl
none_left (x ∷ []) at = absurd cc
none_left (x ∷ (y ∷ ys)) at =
    let rest = none_left (y ∷ ys) (subst (λ n. slice_get (x ∷ (y ∷ ys)) n ≡ None) (let e : length (x ∷ (y ∷ ys)) - 1 ≡ suc (length (y ∷ ys) - 1) = omega arith in e) at) in
    absurd cc
