-- Whether units of a body come to a twig or go.
use Rattle.std.specs.Prelude.{◌≡◌, ◌⊎◌, ℕ, zero, suc, ◌+◌, ◌-◌, ◌*◌, ◌<◌, ◌≤◌, List, [], ◌∷◌, ◌++◌, length}
use Rattle.std.specs.Prelude.{Bool, true, false, not, ◌&&◌, ◌||◌, ◌==◌, nat_lt, drop, slice_get, None, Option, Some}
use Rattle.std.proofs.Common.{arith, inl, inr, refl, sym, ap, ◌∙◌}
use Rattle.std.specs.List.{list_any}
use Rattle.std.proofs.lemmas.List.{drop_more}
use Rattle.std.proofs.lemmas.List.Folds.{list_any-append}
use Rattle.std.proofs.lemmas.Option.{get_or_from_slice_get, slice_get_within}
use Rattle.std.proofs.lemmas.Bool.{both_ways, cases_lt, le-ltb, lt-ltb, ne_eqb, or_cases, or_left, or_parts, or_right}
use Rattle.r4_base.specs.Key.{key_of_rank}
use Rattle.r4_base.specs.Node.{Item, items_of}
use Rattle.r4_base.specs.Tree.{Node}
use Rattle.r4_base.specs.Value.{Value}
use Rattle.r4_base.specs.declared.items.Unit.{Unit as ExtentUnit}
use Rattle.r4_base.specs.declared.key.Key.{Key}
use Rattle.r4_graft.specs.r4_branch.Pieces.{item_pieces, pieces_in}
use Rattle.r4_graft.proofs.r4_branch.ItemPieces.{pointer_pieces}
use Rattle.r4_graft.proofs.r4_node40.Following.{item_first}
use Rattle.r4_graft.specs.r4_branch.declared.piece.TwigPart.TheVariants.{Blocks}
use Rattle.r4_graft.specs.r4_branch.declared.piece.TwigPiece.{TwigPiece}
use Rattle.r4_content.specs.Edited.{Edits}
use Rattle.r4_bodies.specs.r4_leaf_edits.r4_reach.Needs.{changes_pieces, filled, gets_bytes, is_hole_part, put_among, runs}
use Rattle.r4_bodies.specs.r4_leaf_edits.r4_reach.Touched.{Body, going}
use Rattle.r4_extent_demands.specs.Changing.{changes_units, comes_in, goes_from, is_changed, is_other, is_refilled}
use Rattle.r4_extent_demands.specs.Pieces.{block_at, hole_at}
use Rattle.r4_extent_demands.proofs.Runs.{AreQuiet, hole_some, next_runs, quiet_runs}

any_on : {X : Type 0} (f g : X → Bool) (xs : List X) → ((x : X) → g x ≡ true → f x ≡ true) → list_any g xs ≡ true
    → list_any f xs ≡ true
any_on f g [] more e = absurd (both_ways false refl e)
any_on f g (x ∷ xs) more e = elim (or_cases (g x) (list_any g xs) e) [
  | inl first ↦ or_left (f x) (list_any f xs) (more x first)
  | inr rest ↦ or_right (f x) (list_any f xs) (any_on f g xs more rest)
]

any_off : {X : Type 0} (f g : X → Bool) (xs : List X) → ((x : X) → g x ≡ false → f x ≡ false) → list_any g xs ≡ false
    → list_any f xs ≡ false
any_off f g [] less e = refl
any_off f g (x ∷ xs) less e =
    let (first, rest) = or_parts (g x) (list_any g xs) e in
    (λ i. less x first i || any_off f g xs less rest i)

any_both : {X : Type 0} (f g : X → Bool) (xs : List X) → list_any (λ x. f x || g x) xs
    ≡ (list_any f xs || list_any g xs)
any_both f g [] = refl
any_both f g (x ∷ xs) = ap (λ (t : Bool). (f x || g x) || t) (any_both f g xs)
    ∙ shuffle (f x) (g x) (list_any f xs) (list_any g xs)
  where
    shuffle : (p q r s : Bool) → ((p || q) || (r || s)) ≡ ((p || r) || (q || s))
    shuffle true q r s = refl
    shuffle false true true s = refl
    shuffle false true false s = refl
    shuffle false false r s = refl

list_cases : (xs : List TwigPiece) → (xs ≡ []) ⊎ ((q : TwigPiece) × (qs : List TwigPiece) × (xs ≡ q ∷ qs))
list_cases [] = inl refl
list_cases (x ∷ xs) = inr (x, xs, refl)

all_off : (p q r s : Bool) → p ≡ false → q ≡ false → r ≡ false → s ≡ false → (p || (q || (r || s))) ≡ false
all_off p q r s a b c d = (λ i. a i || (b i || (c i || d i)))

fourth_on : (p q r s : Bool) → s ≡ true → (p || (q || (r || s))) ≡ true
fourth_on p q r s d = or_right p (q || (r || s)) (or_right q (r || s) (or_right r s d))

three_on : (p q r s : Bool) → (p || (q || r)) ≡ true → (p || (q || (r || s))) ≡ true
three_on true q r s e = refl
three_on false true r s e = refl
three_on false false true s e = refl
three_on false false false s e = absurd (both_ways false refl e)

split_on : (p q r s : Bool) → (p || (q || (r || s))) ≡ true → ((p || (q || r)) ≡ true) ⊎ (s ≡ true)
split_on true q r s e = inl refl
split_on false true r s e = inl refl
split_on false false true s e = inl refl
split_on false false false s e = inr e

module _ (b : Body) (e : Edits) (c : Node Value) where
  abbrev ps : List TwigPiece
  ps = pieces_in (items_of c.block)

  abbrev put : Bool
  put = nat_lt 0 (put_among (Some b) e c)

  abbrev come : Bool
  come = list_any (comes_in b) c.spans

  abbrev go : Bool
  go = list_any (goes_from (going b)) (pieces_in (items_of c.block))

  is_off : (put || (come || (go || list_any (is_refilled b e) ps))) ≡ false → changes_pieces (Some b) e c ≡ false
  is_off h =
      let (one, rest) = or_parts put (come || (go || list_any (is_refilled b e) ps)) h in
      let (two, more) = or_parts come (go || list_any (is_refilled b e) ps) rest in
      let (three, four) = or_parts go (list_any (is_refilled b e) ps) more in
      all_off (nat_lt 0 (put_among (Some b) e c)) (list_any (comes_in b) c.spans)
      (list_any (goes_from (going b)) (pieces_in (items_of c.block))) _ one two three
      (any_off _ (is_refilled b e) (pieces_in (items_of c.block))
      (λ p no_more. elim (list_cases (filled b e p)) [
        | inl is ↦ rw is refl
        | inr (q, qs, is) ↦ rw is (sym (ap (is_other p) is) ∙ no_more)
      ]) four)

  is_on : (put || (come || (go || list_any (is_refilled b e) ps))) ≡ true → changes_pieces (Some b) e c ≡ true
  is_on h = elim (split_on put come go (list_any (is_refilled b e) ps) h) [
    | inl some ↦ three_on (nat_lt 0 (put_among (Some b) e c)) (list_any (comes_in b) c.spans)
        (list_any (goes_from (going b)) (pieces_in (items_of c.block))) _ some
    | inr last ↦ fourth_on (nat_lt 0 (put_among (Some b) e c)) (list_any (comes_in b) c.spans)
        (list_any (goes_from (going b)) (pieces_in (items_of c.block))) _
        (any_on _ (is_refilled b e) (pieces_in (items_of c.block))
        (λ p more. elim (list_cases (filled b e p)) [
          | inl is ↦ absurd (both_ways false refl (sym (ap (is_other p) is) ∙ more))
          | inr (q, qs, is) ↦ rw is (sym (ap (is_other p) is) ∙ more)
        ]) last)
  ]

  by_test : (t : Bool) → (put || (come || (go || list_any (is_refilled b e) ps))) ≡ t → changes_pieces (Some b) e c ≡ t
  by_test true h = is_on h
  by_test false h = is_off h

  pub changes_is : changes_pieces (Some b) e c ≡ (nat_lt 0 (put_among (Some b) e c) || changes_units (Some b) e c)
  changes_is = by_test (put || (come || (go || list_any (is_refilled b e) ps))) refl
      ∙ ap (λ (t : Bool). put || (come || t)) (sym (any_both (goes_from (going b)) (is_refilled b e) ps))

or_false : (t : Bool) → t ≡ (t || false)
or_false true = refl
or_false false = refl

pub changes_both : (b : Option Body) (e : Edits) (c : Node Value)
    → changes_pieces b e c ≡ (nat_lt 0 (put_among b e c) || changes_units b e c)
changes_both None e c = or_false (nat_lt 0 (put_among None e c))
changes_both (Some b) e c = changes_is b e c

-- ---- items and units, one after the other

pub items_any : (f : TwigPiece → Bool) (items : List Item) (i : ℕ) (it : Item) → slice_get items i ≡ Some it
    → list_any f (pieces_in (drop i items))
    ≡ (list_any f (item_pieces it) || list_any f (pieces_in (drop (i + 1) items)))
items_any f items i it is = ap (λ (xs : List Item). list_any f (pieces_in xs)) (item_first items i it is)
    ∙ list_any-append f (item_pieces it) (pieces_in (drop (i + 1) items))

pub unit_first : (us : List ExtentUnit) (i : ℕ) (u : ExtentUnit) → slice_get us i ≡ Some u
    → drop i us ≡ u ∷ drop (i + 1) us
unit_first us i u is = drop_more us i u (slice_get_within us i u is)
    ∙ ap (λ (x : ExtentUnit). x ∷ drop (i + 1) us) (get_or_from_slice_get us i u u is)

-- a pointer stays
pub pointer_still : (b : Body) (e : Edits) (it : Item) → it.plugin ≡ 3
    → list_any (is_changed b e) (item_pieces it) ≡ false
pointer_still b e it is = ap (list_any (is_changed b e)) (pointer_pieces it is)

-- ---- a piece

no_other : (t : Bool) → (not (0 == 0) || (t && not t)) ≡ false
no_other true = refl
no_other false = refl

pub same_piece : (p : TwigPiece) (xs : List TwigPiece) → xs ≡ p ∷ [] → is_other p xs ≡ false
same_piece p xs is = ap (is_other p) is ∙ no_other (is_hole_part p.part)

off_both : (t : Bool) → (not (0 == 0) || (t && false)) ≡ false
off_both true = refl
off_both false = refl

-- a hole of which no block gets bytes is one, or nothing
pub same_hole : (p : TwigPiece) (xs : List TwigPiece) (k : Key) (n : ℕ) → xs ≡ hole_at k n → is_other p xs ≡ false
same_hole p xs k n is = by_count n refl
  where
    by_count : (m : ℕ) → n ≡ m → is_other p xs ≡ false
    by_count zero none = ap (is_other p) (is ∙ ap (hole_at k) none)
    by_count (suc m) some = ap (is_other p) (is ∙ hole_some k n (omega (arith, some))) ∙ off_both (is_hole_part p.part)

more_first : (p q : TwigPiece) (qs : List TwigPiece) → 1 ≤ length qs → is_other p (q ∷ qs) ≡ true
more_first p q qs some = let t : (length qs == 0) ≡ false = ne_eqb (length qs) 0 (λ e. omega (arith, e, some)) in rw t refl

-- one of which a block gets bytes is several, or a block
pub other_hole : (p : TwigPiece) (xs rest : List TwigPiece) (k j : Key) (n : ℕ) → is_hole_part p.part ≡ true
    → xs ≡ hole_at k n ++ (block_at j ∷ rest) → is_other p xs ≡ true
other_hole p xs rest k j n hole is = by_count n refl
  where
    block_only : (t : Bool) (m : ℕ) → t ≡ true → (not (m == 0) || (t && true)) ≡ true
    block_only t m e = ap (λ (x : Bool). not (m == 0) || (x && true)) e ∙ by_test (m == 0)
      where
        by_test : (x : Bool) → (not x || (true && true)) ≡ true
        by_test true = refl
        by_test false = refl

    by_count : (m : ℕ) → n ≡ m → is_other p xs ≡ true
    by_count zero none = ap (is_other p) (is ∙ ap (λ (m : ℕ). hole_at k m ++ (block_at j ∷ rest)) none)
        ∙ block_only (is_hole_part p.part) (length rest) hole
    by_count (suc m) some = ap (is_other p) (is ∙ ap (λ (hs : List TwigPiece). hs ++ (block_at j ∷ rest))
        (hole_some k n (omega (arith, some)))) ∙ more_first p
        (record { key = k; part = Blocks (record { start = 0; width = n }) }) (block_at j ∷ rest) (omega arith)

-- blocks of a hole, of which so many stand before the first one that gets bytes
module _ (b : Body) (e : Edits) (p : TwigPiece) (k w m : ℕ) (le : m ≤ w) (none : AreQuiet (gets_bytes b e) k m)
    (next : m < w → gets_bytes b e (k + 4096 * m) ≡ true) (hole : is_hole_part p.part ≡ true)
    (fill : filled b e p ≡ runs (gets_bytes b e) k w) where
  pub refill_is : nat_lt m w ≡ is_refilled b e p
  refill_is = elim (cases_lt m w) [
    | inl lt ↦
        let count : w ≡ m + suc (w - m - 1) = omega (arith, lt) in
        lt-ltb m w lt ∙ sym (other_hole p (filled b e p) (runs (gets_bytes b e) (k + 4096 * (m + 1)) (w - m - 1)) (key_of_rank k)
        (key_of_rank (k + 4096 * m)) m hole
        (fill ∙ ap (runs (gets_bytes b e) k) count ∙ next_runs (gets_bytes b e) k m (w - m - 1) none (next lt)))
    | inr ge ↦
        let same : w ≡ m = omega (arith, ge, le) in
        le-ltb m w ge ∙ sym (same_hole p (filled b e p) (key_of_rank k) m
        (fill ∙ ap (runs (gets_bytes b e) k) same ∙ quiet_runs (gets_bytes b e) k m none))
  ]
