-- Twigs that are filled one after the other.
use Rattle.std.proofs.Common.{◌≡◌, ℕ, zero, suc, ◌+◌, ◌<◌, ◌≤◌, List, [], ◌∷◌, ◌++◌, length, get_or, take, drop, inl, inr, refl, sym, ap, subst, ◌∙◌, arith}
use Rattle.std.specs.Prelude.{Contains, slice_get, Some, None}
use Rattle.std.proofs.lemmas.List.{append_assoc, append-nil, length-append, take-append-drop}
use Rattle.std.proofs.lemmas.List.Elements.{Contains-push_cases}
use Rattle.std.proofs.lemmas.Option.{same_Some}
use Rattle.r4_base.specs.Cell.{item_end, next_key}
use Rattle.r4_base.specs.Key.{rank}
use Rattle.r4_base.specs.Node.{Item, count_of, items_of, mkfs_id_of}
use Rattle.r4_node40.proofs.Laid.{length-items_of}
use Rattle.r4_branch.specs.Filling.{IsFilled, IsFullFor, Puts}
use Rattle.r4_branch.specs.Items.{Lie}
use Rattle.r4_branch.specs.Packing.{Fills, FillsUp}
use Rattle.r4_branch.specs.Pieces.{AreTwigPieces, Follow, MayStand, bytes_behind, last_end, next_of, part_bytes, piece_end, twig_bytes}
use Rattle.r4_branch.specs.Twigs.{IsTwig, PacksTwigs}
use Rattle.r4_branch.specs.declared.piece.TwigPart.TheVariants.{Pointer}
use Rattle.r4_branch.specs.declared.piece.TwigPiece.{TwigPiece}
use Rattle.r4_branch.specs.declared.twig.Twig.{Twig}
use Rattle.r4_branch.proofs.Counted.{costs}
use Rattle.r4_branch.proofs.Filled.{item_has_end, lie_order, may_stand}
use Rattle.r4_branch.proofs.Lying.{drop_at}

-- ---- one twig

-- what a read of a slice of pieces gives
abbrev pub no_piece : TwigPiece
no_piece = record { key = record { el = [] }; part = Pointer (record { 0 = 0 }) }

abbrev pub piece_at : List TwigPiece → ℕ → TwigPiece
piece_at ps i = get_or ps i no_piece

pub shown_at : (i : ℕ) (ps : List TwigPiece) → i < length ps → slice_get ps i ≡ Some (piece_at ps i)
shown_at i [] lt = absurd (omega (arith, lt))
shown_at zero (p ∷ ps) lt = refl
shown_at (suc i) (p ∷ ps) lt = shown_at i ps (omega (arith, lt))

take_more : (i : ℕ) (xs : List TwigPiece) (x : TwigPiece) → slice_get xs i ≡ Some x → take (i + 1) xs ≡ take i xs ++ x ∷ []
take_more zero [] x e = absurd cc
take_more (suc i) [] x e = absurd cc
take_more zero (y ∷ ys) x e = ap (λ z. z ∷ []) (same_Some y x e)
take_more (suc i) (y ∷ ys) x e = ap (λ n. take n (y ∷ ys)) (let step : suc i + 1 ≡ suc (i + 1) = omega arith in step) ∙ ap (λ zs. y ∷ zs) (take_more i ys x e)

pub fill_begins : (lo hi : ℕ) (ps : List TwigPiece) (b : List ℕ) → IsFilled lo lo [] b → Follow lo hi ps → Fills lo hi ps 0 b
fill_begins lo hi ps b f h = record { to = lo; filled = f; follow = h }

module _ (lo hi : ℕ) (ps : List TwigPiece) (i : ℕ) (p : TwigPiece) (b : List ℕ) (at : slice_get ps i ≡ Some p) (f : Fills lo hi ps i b) where
  pub behind : Follow f.to hi (p ∷ drop (i + 1) ps)
  behind = subst (λ xs. Follow f.to hi xs) (drop_at i ps p at) f.follow

  pub fill_more : (c : List ℕ) → Puts p b c → Fills lo hi ps (i + 1) c
  fill_more c puts = record {
    to = piece_end p;
    filled = subst (λ xs. IsFilled lo (piece_end p) xs c) (sym (take_more i ps p at)) (puts.filled lo f.to (take i ps) f.filled behind.0);
    follow = behind.2;
  }

  pub fill_stops : (c : List ℕ) → c ≡ b → IsFullFor p c → FillsUp lo hi ps i c
  fill_stops c same full = record {
    fills = subst (λ x. Fills lo hi ps i x) (sym same) f;
    full = λ q here. subst (λ (x : TwigPiece). IsFullFor x c) (same_Some p q (sym at ∙ here)) full;
  }

none_past : (ps : List TwigPiece) (p : TwigPiece) → slice_get ps (length ps) ≡ Some p → ⊥
none_past [] p e = absurd cc
none_past (q ∷ ps) p e = none_past ps p e

pub fill_ends : (lo hi : ℕ) (ps : List TwigPiece) (i : ℕ) (b : List ℕ) → i ≡ length ps → Fills lo hi ps i b → FillsUp lo hi ps (length ps) b
fill_ends lo hi ps i b all f = record { fills = subst (λ n. Fills lo hi ps n b) all f; full = λ p at. absurd (none_past ps p at) }

-- ---- packing

-- pieces behind which there is no room are some
full_some : (ps : List TwigPiece) (q : TwigPiece) → 4068 < twig_bytes ps + part_bytes (last_end None ps) (rank q.key) q.part → 1 ≤ length ps
unfolding bytes_behind
full_some [] q full = let small = (costs None (rank q.key) q.part).most in absurd (omega (arith, full, small))
full_some (p ∷ ps) q full = omega arith

some_items : (items : List Item) (ps : List TwigPiece) → ((hi : ℕ) → next_key hi items ≡ next_of hi ps) → 1 ≤ length ps → 1 ≤ length items
some_items items [] h some = absurd (omega (arith, some))
some_items [] (p ∷ ps) h some = let a = h (rank p.key + 1) in absurd (omega (arith, a))
some_items (x ∷ xs) (p ∷ ps) h some = omega arith

some_count : (lo to : ℕ) (ps : List TwigPiece) (b : List ℕ) → IsFilled lo to ps b → 1 ≤ length ps → 1 ≤ count_of b
some_count lo to ps b f some = let n = length-items_of b in let m = some_items (items_of b) ps f.first some in omega (arith, n, m)

lie_some : (from to : ℕ) (xs : List Item) → Lie from to xs → 1 ≤ length xs → from < to
lie_some from to [] h some = absurd (omega (arith, some))
lie_some from to (y ∷ xs) h some = let low = h.0 in let own = item_has_end y h.1 in let order = lie_order (item_end y) to xs h.2 in omega (arith, low, own, order)

is_twig : (lo to hi : ℕ) (ps : List TwigPiece) (x : Twig) → IsFilled lo to ps x.block → rank x.lo ≡ lo → 1 ≤ length ps → next_of lo ps ≡ lo → to ≤ hi → IsTwig lo hi ps x
is_twig lo to hi ps x f from some first le = record {
  from = from;
  stands = may_stand lo to hi ps x.block f (some_count lo to ps x.block f some) first le;
  names = f.names hi;
  units = f.units;
  fits = let r = f.room in omega (arith, r);
  room = f.room;
}

first_of_more : (a hi : ℕ) (xs ys : List TwigPiece) → 1 ≤ length xs → next_of a xs ≡ next_of hi (xs ++ ys)
first_of_more a hi [] ys some = absurd (omega (arith, some))
first_of_more a hi (x ∷ xs) ys some = refl

-- What is packed of the pieces that are left goes behind the twigs that are filled.
pub record Packing (lo0 : ℕ) (all : List TwigPiece) (lo : ℕ) (ps : List TwigPiece) (twigs : List Twig) : Type 0 where
  pub are : (hi : ℕ) → AreTwigPieces lo0 hi all → AreTwigPieces lo hi ps
  pub packs : (hi : ℕ) (made : List Twig) → AreTwigPieces lo0 hi all → PacksTwigs lo hi ps made → PacksTwigs lo0 hi all (twigs ++ made)

pub pack_begins : (lo : ℕ) (ps : List TwigPiece) → Packing lo ps lo ps []
pack_begins lo ps = record { are = λ hi h. h; packs = λ hi made h p. p }

module _ (lo0 lo : ℕ) (all ps : List TwigPiece) (n : ℕ) (twigs : List Twig) (x : Twig) (from : rank x.lo ≡ lo) (p : Packing lo0 all lo ps twigs)
    (fills : (hi : ℕ) → Follow lo hi ps → FillsUp lo hi ps n x.block) where
  -- the last twig
  pub pack_ends : drop n ps ≡ [] → (hi : ℕ) → AreTwigPieces lo0 hi all → PacksTwigs lo0 hi all (twigs ++ x ∷ [])
  pack_ends none hi h =
      let are = p.are hi h in
      let f = (fills hi are.follow).fills in
      let le : f.to ≤ hi = subst (λ xs. Follow f.to hi xs) none f.follow in
      let whole : take n ps ≡ ps = sym (append-nil (take n ps)) ∙ (ap (λ zs. take n ps ++ zs) (sym none) ∙ take-append-drop n ps) in
      let filled = subst (λ xs. IsFilled lo f.to xs x.block) whole f.filled in
      let first = first_of_more lo hi ps [] are.some ∙ (ap (next_of hi) (append-nil ps) ∙ are.first) in
      p.packs hi (x ∷ []) h (is_twig lo f.to hi ps x filled from are.some first le)

  -- one more twig behind which others come
  module _ (q : TwigPiece) (at : slice_get ps n ≡ Some q) where
    left : drop n ps ≡ q ∷ drop (n + 1) ps
    left = drop_at n ps q at

    split : ps ≡ take n ps ++ q ∷ drop (n + 1) ps
    split = sym (take-append-drop n ps) ∙ ap (λ zs. take n ps ++ zs) left

    some_first : (hi : ℕ) → Follow lo hi ps → 1 ≤ length (take n ps)
    some_first hi h =
        let up = fills hi h in
        full_some (take n ps) q ((up.full q at).full lo up.fills.to (take n ps) up.fills.filled)

    pub pack_are : (hi : ℕ) → AreTwigPieces lo0 hi all → AreTwigPieces (rank q.key) hi (drop n ps)
    pack_are hi h =
        let f = (fills hi (p.are hi h).follow).fills in
        let g = behind lo hi ps n q x.block at f in
        subst (λ xs. AreTwigPieces (rank q.key) hi xs) (sym left) (record { some = omega arith; first = refl; follow = (omega arith, g.1, g.2) })

    pub pack_more : (hi : ℕ) (made : List Twig) → AreTwigPieces lo0 hi all → PacksTwigs (rank q.key) hi (drop n ps) made → PacksTwigs lo0 hi all ((twigs ++ x ∷ []) ++ made)
    pack_more hi [] h m = absurd m
    pack_more hi (y ∷ ys) h m =
        let are = p.are hi h in
        let up = fills hi are.follow in
        let f = up.fills in
        let g = behind lo hi ps n q x.block at f in
        let full = (up.full q at).full lo f.to (take n ps) f.filled in
        let some = some_first hi are.follow in
        let first = first_of_more lo hi (take n ps) (drop n ps) some ∙ (ap (next_of hi) (take-append-drop n ps) ∙ are.first) in
        let le = g.0 in
        let below = lie_some lo f.to (items_of x.block) f.filled.lie (some_items (items_of x.block) (take n ps) f.filled.first some) in
        let packed : PacksTwigs (rank q.key) hi (q ∷ drop (n + 1) ps) (y ∷ ys) = subst (λ xs. PacksTwigs (rank q.key) hi xs (y ∷ ys)) left m in
        subst (λ ts. PacksTwigs lo0 hi all ts) (sym (append_assoc twigs (x ∷ []) (y ∷ ys)))
        (p.packs hi (x ∷ (y ∷ ys)) h (
          take n ps,
          q,
          drop (n + 1) ps,
          split,
          packs_lo (rank q.key) hi (q ∷ drop (n + 1) ps) y ys packed,
          omega (arith, below, le),
          is_twig lo f.to (rank q.key) (take n ps) x f.filled from some first le,
          record { some = some; full = full },
          packed,
        ))
      where
        packs_lo : (k hi : ℕ) (qs : List TwigPiece) (y : Twig) (more : List Twig) → PacksTwigs k hi qs (y ∷ more) → rank y.lo ≡ k
        packs_lo k hi qs y [] t = t.from
        packs_lo k hi qs y (z ∷ more) t = t.6.from

    pub packing_more : Packing lo0 all (rank q.key) (drop n ps) (twigs ++ x ∷ [])
    packing_more = record { are = pack_are; packs = pack_more }

    pub fewer : (hi : ℕ) → AreTwigPieces lo0 hi all → length (drop n ps) < length ps
    fewer hi h =
        let some = some_first hi (p.are hi h).follow in
        let both = length-append (take n ps) (drop n ps) in
        let whole = ap length (take-append-drop n ps) in
        omega (arith, some, both, whole)

-- ---- what is left, and the twigs' ids

pub none_left : (n : ℕ) (ps left : List TwigPiece) → left ≡ drop n ps → slice_get left 0 ≡ None → drop n ps ≡ []
none_left n ps [] is none = sym is
none_left n ps (q ∷ left) is none = absurd cc

pub next_at : (n : ℕ) (ps left : List TwigPiece) (q : TwigPiece) → left ≡ drop n ps → slice_get left 0 ≡ Some q → slice_get ps n ≡ Some q
next_at n ps left q is at = at_drop n ps (subst (λ xs. slice_get xs 0 ≡ Some q) is at)
  where
    at_drop : (n : ℕ) (ps : List TwigPiece) → slice_get (drop n ps) 0 ≡ Some q → slice_get ps n ≡ Some q
    at_drop zero [] e = e
    at_drop zero (p ∷ ps) e = e
    at_drop (suc n) [] e = absurd cc
    at_drop (suc n) (p ∷ ps) e = at_drop n ps e

pub no_ids : (id : ℕ) (twigs : List Twig) → twigs ≡ [] → (x : Twig) → Contains twigs x → mkfs_id_of x.block ≡ id
no_ids id [] e x h = let lt = h.1 in absurd (omega (arith, lt))
no_ids id (y ∷ twigs) e x h = absurd cc

pub ids_more : (id : ℕ) (twigs : List Twig) (x : Twig) → ((y : Twig) → Contains twigs y → mkfs_id_of y.block ≡ id) → mkfs_id_of x.block ≡ id → (y : Twig) → Contains (twigs ++ x ∷ []) y → mkfs_id_of y.block ≡ id
ids_more id twigs x old new y h = elim (Contains-push_cases twigs x y h) [
  | inl there ↦ old y there
  | inr same ↦ subst (λ (z : Twig). mkfs_id_of z.block ≡ id) same new
]

-- each twig may stand
pub packs_stand : (lo hi : ℕ) (ps : List TwigPiece) (twigs : List Twig) (i : ℕ) (d : Twig) → PacksTwigs lo hi ps twigs → i < length twigs → (from : ℕ) × (to : ℕ) × MayStand from to (get_or twigs i d).block
packs_stand lo hi ps [] i d p lt = absurd p
packs_stand lo hi ps (x ∷ []) zero d p lt = (lo, hi, p.stands)
packs_stand lo hi ps (x ∷ []) (suc i) d p lt = absurd (omega (arith, lt))
packs_stand lo hi ps (x ∷ (y ∷ more)) zero d p lt = (lo, rank p.1.key, p.6.stands)
packs_stand lo hi ps (x ∷ (y ∷ more)) (suc i) d p lt = packs_stand (rank p.1.key) hi (p.1 ∷ p.2) (y ∷ more) i d p.8 (omega (arith, lt))
