-- A twig that has one piece more than before: its last item is new, or longer.
use Rattle.std.proofs.Common.{◌≡◌, ℕ, zero, suc, ◌+◌, ◌-◌, ◌≤◌, List, [], ◌∷◌, ◌++◌, length, take, inl, inr, refl, sym, ap, subst, ◌∙◌, arith}
use Rattle.std.specs.Prelude.{Option, slice_get, Some, None}
use Rattle.std.proofs.lemmas.Bool.{cases_lt}
use Rattle.std.proofs.lemmas.List.{append_assoc, append-nil, take_all}
use Rattle.std.proofs.lemmas.Option.{same_Some, slice_get_within}
use Rattle.r4_base.specs.Cell.{item_end, item_names, item_units, names_in, next_key, units_in}
use Rattle.r4_base.specs.Key.{IsBelow, rank}
use Rattle.r4_base.specs.Node.{Item, count_of, item_at, items_of}
use Rattle.r4_base.specs.declared.key.Key.{Key}
use Rattle.r4_node40.specs.Edits.{GoesBetween}
use Rattle.r4_node40.proofs.Laid.{get-items_of, length-items_of}
use Rattle.r4_branch.specs.Filling.{Holds, IsFilled, IsPlace, item_open_end, items_open_end, need}
use Rattle.r4_branch.specs.Items.{IsSoundItem, Lie}
use Rattle.r4_branch.specs.Pieces.{last_end, names_of, next_of, open_end, part_bytes, part_names, part_units, piece_end, units_of}
use Rattle.r4_branch.specs.declared.piece.TwigPiece.{TwigPiece}
use Rattle.r4_branch.proofs.Filled.{item_has_end, lie_order}
use Rattle.r4_branch.proofs.Following.{bytes_more, first_more, last_more, names_more, units_more}
use Rattle.r4_branch.proofs.Opened.{split_last}

-- ---- one item more

lie_more : (from mid to : ℕ) (xs : List Item) (x : Item) → Lie from mid xs → mid ≤ rank x.key → IsSoundItem x → item_end x ≤ to → Lie from to (xs ++ x ∷ [])
lie_more from mid to [] x h le sound end = (omega (arith, h, le), sound, end)
lie_more from mid to (y ∷ xs) x h le sound end = (h.0, h.1, lie_more (item_end y) mid to xs x h.2 le sound end)

lie_last : (from to : ℕ) (xs : List Item) (x : Item) → Lie from to (xs ++ x ∷ []) → Lie from (rank x.key) xs × IsSoundItem x × (item_end x ≤ to)
lie_last from to [] x h = (h.0, h.1, h.2)
lie_last from to (y ∷ xs) x h = let e = lie_last (item_end y) to xs x h.2 in ((h.0, h.1, e.0), e.1, e.2)

next_key_more : (hi : ℕ) (xs : List Item) (x : Item) → next_key hi (xs ++ x ∷ []) ≡ next_key (rank x.key) xs
next_key_more hi [] x = refl
next_key_more hi (y ∷ xs) x = refl

names_in_more : (hi : ℕ) (xs : List Item) (x : Item) → names_in 2 hi (xs ++ x ∷ []) ≡ names_in 2 (rank x.key) xs ++ item_names 2 hi x
unfolding names_in
names_in_more hi [] x = append-nil (item_names 2 hi x)
names_in_more hi (y ∷ xs) x =
    ap (λ (n : ℕ). item_names 2 n y ++ names_in 2 hi (xs ++ x ∷ [])) (next_key_more hi xs x)
    ∙ (ap (λ ns. item_names 2 (next_key (rank x.key) xs) y ++ ns) (names_in_more hi xs x)
    ∙ sym (append_assoc (item_names 2 (next_key (rank x.key) xs) y) (names_in 2 (rank x.key) xs) (item_names 2 hi x)))

units_in_more : (xs : List Item) (x : Item) → units_in (xs ++ x ∷ []) ≡ units_in xs ++ item_units x
unfolding units_in
units_in_more [] x = append-nil (item_units x)
units_in_more (y ∷ xs) x = ap (λ us. item_units y ++ us) (units_in_more xs x) ∙ sym (append_assoc (item_units y) (units_in xs) (item_units x))

pub open_end_more : (before : Option ℕ) (xs : List Item) (x : Item) → items_open_end before (xs ++ x ∷ []) ≡ item_open_end x
open_end_more before [] x = refl
open_end_more before (y ∷ xs) x = open_end_more (item_open_end y) xs x

-- ---- the last item has one piece more

-- What the item is to be, with a body that has this piece behind what it had.
pub record Grows (ps : List TwigPiece) (p : TwigPiece) (it : Item) (ws : List ℕ) : Type 0 where
  pub sound : IsSoundItem (record { key = it.key; plugin = it.plugin; body = ws })
  pub end : item_end (record { key = it.key; plugin = it.plugin; body = ws }) ≡ piece_end p
  pub start : length it.body ≡ 0 → rank it.key ≡ rank p.key
  pub names_new : length it.body ≡ 0 → (hi : ℕ) → item_names 2 hi (record { key = it.key; plugin = it.plugin; body = ws }) ≡ part_names (rank p.key) hi p.part
  pub names_old : 1 ≤ length it.body → (hi : ℕ) → item_names 2 hi (record { key = it.key; plugin = it.plugin; body = ws }) ≡ item_names 2 (rank p.key) it ++ part_names (rank p.key) hi p.part
  pub units_new : length it.body ≡ 0 → item_units (record { key = it.key; plugin = it.plugin; body = ws }) ≡ part_units (rank p.key) p.part
  pub units_old : 1 ≤ length it.body → item_units (record { key = it.key; plugin = it.plugin; body = ws }) ≡ item_units it ++ part_units (rank p.key) p.part
  pub last : item_open_end (record { key = it.key; plugin = it.plugin; body = ws }) ≡ open_end p
  pub cost : part_bytes (last_end None ps) (rank p.key) p.part + length it.body ≡ need it (length ws)

module _ (lo mid : ℕ) (ps : List TwigPiece) (b : List ℕ) (i : ℕ) (it : Item) (ws c : List ℕ) (p : TwigPiece) (f : IsFilled lo mid ps b) (place : IsPlace b i it) (h : Holds b i it ws c) (low : mid ≤ rank p.key) (g : Grows ps p it ws) where
  before : List Item
  before = take i (items_of b)

  it2 : Item
  it2 = record { key = it.key; plugin = it.plugin; body = ws }

  all_new : length it.body ≡ 0 → before ≡ items_of b
  unfolding before
  all_new none = let at = (place.new none).0 in let n = length-items_of b in take_all i (items_of b) (omega (arith, at, n))

  all_old : 1 ≤ length it.body → before ++ it ∷ [] ≡ items_of b
  unfolding before
  all_old some = let at = place.old some in sym (split_last i (items_of b) it (at.0 ∙ sym (length-items_of b)) at.1)

  lies_new : length it.body ≡ 0 → Lie lo (piece_end p) (before ++ it2 ∷ [])
  unfolding it2
  lies_new none =
      let start = g.start none in
      let end = g.end in
      lie_more lo mid (piece_end p) before it2 (subst (λ xs. Lie lo mid xs) (sym (all_new none)) f.lie) (omega (arith, start, low)) g.sound (omega (arith, end))

  lies_old : 1 ≤ length it.body → Lie lo (piece_end p) (before ++ it2 ∷ [])
  unfolding it2
  lies_old some =
      let e = lie_last lo mid before it (subst (λ xs. Lie lo mid xs) (sym (all_old some)) f.lie) in
      let end = g.end in
      lie_more lo (rank it.key) (piece_end p) before it2 e.0 (omega arith) g.sound (omega (arith, end))

  names_new : length it.body ≡ 0 → (hi : ℕ) → names_in 2 hi (before ++ it2 ∷ []) ≡ names_of hi (ps ++ p ∷ [])
  unfolding it2
  names_new none hi =
      names_in_more hi before it2
      ∙ ((λ j. names_in 2 (g.start none j) (all_new none j) ++ g.names_new none hi j)
      ∙ (ap (λ ns. ns ++ part_names (rank p.key) hi p.part) (f.names (rank p.key)) ∙ sym (names_more hi ps p)))

  names_old : 1 ≤ length it.body → (hi : ℕ) → names_in 2 hi (before ++ it2 ∷ []) ≡ names_of hi (ps ++ p ∷ [])
  unfolding it2
  names_old some hi =
      names_in_more hi before it2
      ∙ (ap (λ ns. names_in 2 (rank it.key) before ++ ns) (g.names_old some hi)
      ∙ (sym (append_assoc (names_in 2 (rank it.key) before) (item_names 2 (rank p.key) it) (part_names (rank p.key) hi p.part))
      ∙ (ap (λ ns. ns ++ part_names (rank p.key) hi p.part) (sym (names_in_more (rank p.key) before it) ∙ (ap (names_in 2 (rank p.key)) (all_old some) ∙ f.names (rank p.key)))
      ∙ sym (names_more hi ps p))))

  units_new : length it.body ≡ 0 → units_in (before ++ it2 ∷ []) ≡ units_of (ps ++ p ∷ [])
  unfolding it2
  units_new none =
      units_in_more before it2
      ∙ ((λ j. units_in (all_new none j) ++ g.units_new none j)
      ∙ (ap (λ us. us ++ part_units (rank p.key) p.part) f.units ∙ sym (units_more ps p)))

  units_old : 1 ≤ length it.body → units_in (before ++ it2 ∷ []) ≡ units_of (ps ++ p ∷ [])
  unfolding it2
  units_old some =
      units_in_more before it2
      ∙ (ap (λ us. units_in before ++ us) (g.units_old some)
      ∙ (sym (append_assoc (units_in before) (item_units it) (part_units (rank p.key) p.part))
      ∙ (ap (λ us. us ++ part_units (rank p.key) p.part) (sym (units_in_more before it) ∙ (ap units_in (all_old some) ∙ f.units))
      ∙ sym (units_more ps p))))

  first_new : length it.body ≡ 0 → (hi : ℕ) → next_key hi (before ++ it2 ∷ []) ≡ next_of hi (ps ++ p ∷ [])
  unfolding it2
  first_new none hi = next_key_more hi before it2 ∙ ((λ j. next_key (g.start none j) (all_new none j)) ∙ (f.first (rank p.key) ∙ sym (first_more hi ps p)))

  first_old : 1 ≤ length it.body → (hi : ℕ) → next_key hi (before ++ it2 ∷ []) ≡ next_of hi (ps ++ p ∷ [])
  unfolding it2
  first_old some hi = next_key_more hi before it2 ∙ (sym (next_key_more (rank p.key) before it) ∙ (ap (next_key (rank p.key)) (all_old some) ∙ (f.first (rank p.key) ∙ sym (first_more hi ps p))))

  ended : items_open_end None (before ++ it2 ∷ []) ≡ last_end None (ps ++ p ∷ [])
  unfolding it2
  ended = open_end_more None before it2 ∙ (g.last ∙ sym (last_more None ps p))

  by_body : {A : Type 0} → (length it.body ≡ 0 → A) → (1 ≤ length it.body → A) → A
  by_body new old = elim (cases_lt 0 (length it.body)) [ inl some ↦ old some | inr past ↦ new (omega (arith, past)) ]

  pub filled_more : IsFilled lo (piece_end p) (ps ++ p ∷ []) c
  unfolding before it2
  filled_more = record {
    node = h.node;
    level = h.level;
    lie = subst (λ xs. Lie lo (piece_end p) xs) (sym h.items) (by_body lies_new lies_old);
    names = λ hi. ap (names_in 2 hi) h.items ∙ by_body (λ none. names_new none hi) (λ some. names_old some hi);
    units = ap units_in h.items ∙ by_body units_new units_old;
    first = λ hi. ap (next_key hi) h.items ∙ by_body (λ none. first_new none hi) (λ some. first_old some hi);
    last = ap (items_open_end None) h.items ∙ ended;
    room =
        let cost = g.cost in
        let room = h.room in
        let was = f.room in
        let all = bytes_more ps p in
        omega (arith, cost, room, was, all);
  }

-- ---- the place of a piece

-- what the last item says of the last piece
pub tip : (lo mid : ℕ) (ps : List TwigPiece) (b : List ℕ) (it : Item) → IsFilled lo mid ps b → 1 ≤ count_of b → slice_get (items_of b) (count_of b - 1) ≡ Some it → last_end None ps ≡ item_open_end it
tip lo mid ps b it f some at =
    let n = length-items_of b in
    let split = split_last (count_of b - 1) (items_of b) it (omega (arith, n, some)) at in
    sym f.last ∙ (ap (items_open_end None) split ∙ open_end_more None (take (count_of b - 1) (items_of b)) it)

no_items : (b : List ℕ) → count_of b ≡ 0 → items_of b ≡ []
no_items b none = nothing (items_of b) (length-items_of b ∙ none)
  where
    nothing : (xs : List Item) → length xs ≡ 0 → xs ≡ []
    nothing [] e = refl
    nothing (x ∷ xs) e = absurd (omega (arith, e))

pub no_tip : (lo mid : ℕ) (ps : List TwigPiece) (b : List ℕ) → IsFilled lo mid ps b → count_of b ≡ 0 → last_end None ps ≡ None
no_tip lo mid ps b f none = sym f.last ∙ ap (items_open_end None) (no_items b none)

-- a key from where the items end goes behind them all
pub goes_last : (lo mid : ℕ) (ps : List TwigPiece) (b : List ℕ) (key : Key) → IsFilled lo mid ps b → mid ≤ rank key → GoesBetween (items_of b) (count_of b) key
goes_last lo mid ps b key f le = record {
  above = λ k x next at. above_all lo mid (items_of b) k x f.lie at le;
  below = λ y at. let w = slice_get_within (items_of b) (count_of b) y at in let n = length-items_of b in absurd (omega (arith, w, n));
}
  where
    above_all : (from to : ℕ) (xs : List Item) (k : ℕ) (x : Item) → Lie from to xs → slice_get xs k ≡ Some x → to ≤ rank key → IsBelow x.key key
    above_all from to [] k x h at high = absurd cc
    above_all from to (y ∷ ys) zero x h at high = let e = lie_order (item_end y) to ys h.2 in let own = item_has_end y h.1 in let same = ap (λ (z : Item). rank z.key) (same_Some y x at) in omega (arith, e, own, same, high)
    above_all from to (y ∷ ys) (suc k) x h at high = above_all (item_end y) to ys k x h.2 at high

pub last_item : (b : List ℕ) → 1 ≤ count_of b → (it : Item) × (slice_get (items_of b) (count_of b - 1) ≡ Some it)
last_item b some = (item_at (count_of b) b (count_of b - 1), get-items_of b (count_of b) (count_of b - 1) refl (omega (arith, some)))
