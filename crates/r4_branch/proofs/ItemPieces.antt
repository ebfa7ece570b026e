-- The pieces of an item, and of a twig that may stand.
use Rattle.std.proofs.Common.{◌≡◌, ◌⊎◌, inl, inr, ℕ, zero, suc, ◌+◌, ◌*◌, ◌^◌, ◌≤◌, true, false, List, [], ◌∷◌, ◌++◌, length, take, refl, sym, ap, subst, ◌∙◌, arith}
use Rattle.std.specs.Prelude.{None, Some, ◌==◌, slice_get}
use Rattle.std.specs.List.{sum_by}
use Rattle.std.proofs.lemmas.List.{append_assoc, append-nil}
use Rattle.std.proofs.lemmas.List.Sums.{sum_by-cons}
use Rattle.std.proofs.lemmas.Option.{same_Some}
use Rattle.r4_base.specs.Bytes.{number_at}
use Rattle.r4_base.specs.Cell.{block_names, hole_bytes, item_end, item_names, item_units, names_in, next_key, units_in}
use Rattle.r4_base.specs.Extents.{units_of as units_of_body}
use Rattle.r4_base.specs.Key.{rank}
use Rattle.r4_base.specs.Node.{Item, items_of}
use Rattle.r4_base.specs.declared.items.Unit.{Unit as ExtentUnit}
use Rattle.r4_base.specs.declared.key.Key.{Key}
use Rattle.r4_node40.proofs.Accepted.{takes}
use Rattle.r4_twig.proofs.Faults.{body_lawful}
use Rattle.r4_twig.proofs.Places.{length-units_of}
use Rattle.r4_branch.specs.Items.{IsSoundItem, Lie}
use Rattle.r4_branch.specs.Pieces.{AreTwigPieces, Follow, MayStand, bytes_behind, item_pieces, last_end, names_of, next_of, part_names, part_units, piece_end, pieces_in, twig_bytes, unit_pieces, units_of}
use Rattle.r4_branch.specs.declared.piece.TwigPart.TheVariants.{Pointer}
use Rattle.r4_branch.specs.declared.piece.TwigPiece.{TwigPiece}
use Rattle.r4_branch.proofs.Counted.{behind_append, behind_most}
use Rattle.r4_branch.proofs.Following.{follow_wider}
use Rattle.r4_branch.proofs.SoundItems.{extent_item, pointer_item}
use Rattle.r4_branch.proofs.Standing.{some_items, stand_first, stand_lie, weight}
use Rattle.r4_branch.proofs.UnitPieces.{bytes_of_units, follow_units, names_of_units, rank_later, units_of_units}

-- ---- an item's pieces, by its plugin

pub pointer_pieces : (it : Item) → it.plugin ≡ 3 → item_pieces it ≡ (record { key = it.key; part = Pointer (record { 0 = number_at 8 0 it.body }) }) ∷ []
pointer_pieces it is = let test : (it.plugin == 3) ≡ true = ap (λ (x : ℕ). x == 3) is in rw test refl

pub extent_pieces : (it : Item) → it.plugin ≡ 5 → item_pieces it ≡ unit_pieces it.key 0 (units_of_body it.body)
extent_pieces it is = let test : (it.plugin == 3) ≡ false = ap (λ (x : ℕ). x == 3) is in rw test refl

-- What is said of the pieces of an item.
record SayItem (it : Item) (ps : List TwigPiece) : Type 0 where
  pub names : (next : ℕ) → names_of next ps ≡ item_names 2 next it
  pub units : units_of ps ≡ item_units it
  pub follow : Follow (rank it.key) (item_end it) ps
  pub first : (hi : ℕ) → next_of hi ps ≡ rank it.key
  pub bytes : twig_bytes ps ≤ 38 + length it.body

of_pointer : (it : Item) → it.plugin ≡ 3 → IsSoundItem it → SayItem it ((record { key = it.key; part = Pointer (record { 0 = number_at 8 0 it.body }) }) ∷ [])
unfolding names_of units_of bytes_behind
of_pointer it is s =
    let own = pointer_item it is s in
    let end = own.end in
    let long = own.long in
    record {
      names = λ next. sym (own.names next);
      units = sym own.units;
      follow = (omega arith, (s.key, own.named), omega (arith, end));
      first = λ hi. refl;
      bytes = omega (arith, long);
    }

first_of_units : (hi : ℕ) (k : Key) (us : List ExtentUnit) → 1 ≤ length us → next_of hi (unit_pieces k 0 us) ≡ rank k
first_of_units hi k [] some = absurd (omega (arith, some))
first_of_units hi k (u ∷ us) some = let h = rank_later k (4096 * 0) in omega (arith, h)

of_extent : (it : Item) → it.plugin ≡ 5 → IsSoundItem it → SayItem it (unit_pieces it.key 0 (units_of_body it.body))
of_extent it is s =
    let own = extent_item it is s in
    let lawful = body_lawful true (2 ^ 64) it.body own.body in
    let long = lawful.0 in
    let even = lawful.1 in
    let n = length-units_of it.body in
    let us = units_of_body it.body in
    let start : rank it.key + 4096 * 0 ≡ rank it.key = omega arith in
    let fits = own.fits in
    let end = own.end in
    let f = follow_units it.key 0 us s.key lawful.2 (omega (arith, fits)) in
    let b = bytes_of_units it.key 0 us lawful.2 (omega (arith, fits)) in
    record {
      names = λ next. names_of_units next it.key 0 us ∙ (ap (λ (m : ℕ). block_names m us) start ∙ sym (own.names next));
      units = units_of_units it.key 0 us ∙ (ap (λ (m : ℕ). hole_bytes m us) start ∙ sym own.units);
      follow = subst (λ (m : ℕ). Follow m (item_end it) (unit_pieces it.key 0 us)) start (follow_wider _ _ _ (unit_pieces it.key 0 us) (omega (arith, end)) f);
      first = λ hi. first_of_units hi it.key us (omega (arith, long, even, n));
      bytes = omega (arith, b, n, even);
    }

say_item : (it : Item) → IsSoundItem it → SayItem it (item_pieces it)
say_item it s = by_plugin s.plugin
  where
    by_plugin : (it.plugin ≡ 3) ⊎ (it.plugin ≡ 5) → SayItem it (item_pieces it)
    by_plugin (inl is) = subst (SayItem it) (sym (pointer_pieces it is)) (of_pointer it is s)
    by_plugin (inr is) = subst (SayItem it) (sym (extent_pieces it is)) (of_extent it is s)

-- ---- an item's pieces say what the item says

pub names_of_item : (it : Item) → IsSoundItem it → (next : ℕ) → names_of next (item_pieces it) ≡ item_names 2 next it
names_of_item it s = (say_item it s).names

pub units_of_item : (it : Item) → IsSoundItem it → units_of (item_pieces it) ≡ item_units it
units_of_item it s = (say_item it s).units

pub follow_item : (it : Item) → IsSoundItem it → Follow (rank it.key) (item_end it) (item_pieces it)
follow_item it s = (say_item it s).follow

pub next_of_item : (it : Item) → IsSoundItem it → (hi : ℕ) → next_of hi (item_pieces it) ≡ rank it.key
next_of_item it s = (say_item it s).first

pub bytes_of_item : (it : Item) → IsSoundItem it → twig_bytes (item_pieces it) ≤ 38 + length it.body
bytes_of_item it s = (say_item it s).bytes

-- ---- pieces behind others

next_append : (hi : ℕ) (ps qs : List TwigPiece) → next_of hi (ps ++ qs) ≡ next_of (next_of hi qs) ps
next_append hi [] qs = refl
next_append hi (p ∷ ps) qs = refl

names_append : (hi : ℕ) (ps qs : List TwigPiece) → names_of hi (ps ++ qs) ≡ names_of (next_of hi qs) ps ++ names_of hi qs
unfolding names_of
names_append hi [] qs = refl
names_append hi (p ∷ ps) qs =
    (λ j. part_names (rank p.key) (next_append hi ps qs j) p.part ++ names_append hi ps qs j)
    ∙ sym (append_assoc (part_names (rank p.key) (next_of (next_of hi qs) ps) p.part) (names_of (next_of hi qs) ps) (names_of hi qs))

pub units_append : (ps qs : List TwigPiece) → units_of (ps ++ qs) ≡ units_of ps ++ units_of qs
unfolding units_of
units_append [] qs = refl
units_append (p ∷ ps) qs = ap (λ us. part_units (rank p.key) p.part ++ us) (units_append ps qs) ∙ sym (append_assoc (part_units (rank p.key) p.part) (units_of ps) (units_of qs))

follow_append : (from mid low to : ℕ) (ps qs : List TwigPiece) → Follow from mid ps → mid ≤ low → Follow low to qs → Follow from to (ps ++ qs)
follow_append from mid low to [] qs h le g = follow_lower from low to qs (omega (arith, h, le)) g
  where
    follow_lower : (from low to : ℕ) (qs : List TwigPiece) → from ≤ low → Follow low to qs → Follow from to qs
    follow_lower from low to [] le g = omega (arith, le, g)
    follow_lower from low to (q ∷ qs) le g = (let at = g.0 in omega (arith, le, at), g.1, g.2)
follow_append from mid low to (p ∷ ps) qs h le g = (h.0, h.1, follow_append (piece_end p) mid low to ps qs h.2 le g)

bytes_append : (ps qs : List TwigPiece) → twig_bytes (ps ++ qs) ≤ twig_bytes ps + twig_bytes qs
bytes_append ps qs = let both = behind_append None ps qs in let most = behind_most (last_end None ps) qs in omega (arith, both, most)

-- ---- the pieces of items that lie one after the other

pub next_of_items : (from to : ℕ) (xs : List Item) → Lie from to xs → (hi : ℕ) → next_of hi (pieces_in xs) ≡ next_key hi xs
next_of_items from to [] h hi = refl
next_of_items from to (x ∷ xs) h hi = next_append hi (item_pieces x) (pieces_in xs) ∙ next_of_item x h.1 (next_of hi (pieces_in xs))

pub names_of_items : (from to : ℕ) (xs : List Item) → Lie from to xs → (hi : ℕ) → names_of hi (pieces_in xs) ≡ names_in 2 hi xs
unfolding names_of names_in
names_of_items from to [] h hi = refl
names_of_items from to (x ∷ xs) h hi =
    names_append hi (item_pieces x) (pieces_in xs)
    ∙ (λ j. (names_of_item x h.1 (next_of hi (pieces_in xs)) ∙ ap (λ (n : ℕ). item_names 2 n x) (next_of_items (item_end x) to xs h.2 hi)) j ++ names_of_items (item_end x) to xs h.2 hi j)

pub units_of_items : (from to : ℕ) (xs : List Item) → Lie from to xs → units_of (pieces_in xs) ≡ units_in xs
unfolding units_of units_in
units_of_items from to [] h = refl
units_of_items from to (x ∷ xs) h = units_append (item_pieces x) (pieces_in xs) ∙ (λ j. units_of_item x h.1 j ++ units_of_items (item_end x) to xs h.2 j)

pub follow_items : (from to : ℕ) (xs : List Item) → Lie from to xs → Follow from to (pieces_in xs)
follow_items from to [] h = h
follow_items from to (x ∷ xs) h =
    follow_append from from (rank x.key) to [] (item_pieces x ++ pieces_in xs) (omega arith) h.0
    (follow_append (rank x.key) (item_end x) (item_end x) to (item_pieces x) (pieces_in xs) (follow_item x h.1) (omega arith) (follow_items (item_end x) to xs h.2))

pub bytes_of_items : (from to : ℕ) (xs : List Item) → Lie from to xs → twig_bytes (pieces_in xs) ≤ sum_by takes xs
unfolding bytes_behind
bytes_of_items from to [] h = omega arith
bytes_of_items from to (x ∷ xs) h =
    let both = bytes_append (item_pieces x) (pieces_in xs) in
    let one = bytes_of_item x h.1 in
    let rest = bytes_of_items (item_end x) to xs h.2 in
    let cons = sum_by-cons takes x xs in
    omega (arith, both, one, rest, cons)

some_pieces : (items : List Item) (ps : List TwigPiece) → 1 ≤ length items → ((hi : ℕ) → next_of hi ps ≡ next_key hi items) → 1 ≤ length ps
some_pieces [] ps some h = absurd (omega (arith, some))
some_pieces (x ∷ xs) [] some h = let a = h (rank x.key + 1) in absurd (omega (arith, a))
some_pieces (x ∷ xs) (p ∷ ps) some h = omega arith

-- ---- the pieces of a twig that may stand

module _ (lo hi : ℕ) (b : List ℕ) (stand : MayStand lo hi b) where
  pub names_of_twig : (to : ℕ) → names_of to (pieces_in (items_of b)) ≡ names_in 2 to (items_of b)
  names_of_twig to = names_of_items lo hi (items_of b) (stand_lie lo hi b stand) to

  pub units_of_twig : units_of (pieces_in (items_of b)) ≡ units_in (items_of b)
  units_of_twig = units_of_items lo hi (items_of b) (stand_lie lo hi b stand)

  pub next_of_twig : (to : ℕ) → next_of to (pieces_in (items_of b)) ≡ next_key to (items_of b)
  next_of_twig to = next_of_items lo hi (items_of b) (stand_lie lo hi b stand) to

  pub pieces_of_twig : AreTwigPieces lo hi (pieces_in (items_of b))
  pieces_of_twig = record {
    some = some_pieces (items_of b) (pieces_in (items_of b)) (some_items lo hi b stand) next_of_twig;
    first = next_of_twig hi ∙ stand_first lo hi b stand;
    follow = follow_items lo hi (items_of b) (stand_lie lo hi b stand);
  }

  pub bytes_of_twig : twig_bytes (pieces_in (items_of b)) ≤ 4068
  bytes_of_twig =
      let sum = bytes_of_items lo hi (items_of b) (stand_lie lo hi b stand) in
      let most = weight lo hi b stand in
      omega (arith, sum, most)

-- ---- one item's pieces more

pub pieces_more : (i : ℕ) (xs : List Item) (x : Item) → slice_get xs i ≡ Some x → pieces_in (take (i + 1) xs) ≡ pieces_in (take i xs) ++ item_pieces x
pieces_more zero [] x e = absurd cc
pieces_more (suc i) [] x e = absurd cc
pieces_more zero (y ∷ ys) x e = append-nil (item_pieces y) ∙ ap item_pieces (same_Some y x e)
pieces_more (suc i) (y ∷ ys) x e =
    ap (λ n. pieces_in (take n (y ∷ ys))) (let step : suc i + 1 ≡ suc (i + 1) = omega arith in step)
    ∙ (ap (λ ps. item_pieces y ++ ps) (pieces_more i ys x e) ∙ sym (append_assoc (item_pieces y) (pieces_in (take i ys)) (item_pieces x)))
