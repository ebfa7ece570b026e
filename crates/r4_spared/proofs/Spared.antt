-- What is asked of a tree where the keys that change lie in leaves.
use Rattle.std.specs.Prelude.{◌≡◌, ◌⊎◌, ℕ, ◌+◌, ◌*◌, ◌^◌, ◌<◌, ◌≤◌, List, [], ◌∷◌, ◌++◌, map, Bool, true}
use Rattle.std.specs.Prelude.{false, not}
use Rattle.std.specs.Prelude.{◌||◌, ◌&&◌, ◌==◌, nat_lt, sum_by, Contains, Option, Some, None, if◌then◌else◌}
use Rattle.std.specs.List.{filter, list_any}
use Rattle.std.proofs.Common.{arith, cond, inl, inr, refl, sym, ap, subst, ◌∙◌}
use Rattle.std.proofs.lemmas.Grind.{common_steps}
use Rattle.std.proofs.lemmas.List.Sums.{sum_by-cons}
use Rattle.std.proofs.lemmas.Option.{none-some}
use Rattle.r4_base.specs.Cell.{cell_fault, spans_in}
use Rattle.r4_base.specs.Extents.{is_hole}
use Rattle.r4_base.specs.Key.{key_of_rank, rank}
use Rattle.r4_base.specs.Node.{items_of}
use Rattle.r4_base.specs.Tree.{InSpan, Name, Node, Root, Span, Store}
use Rattle.r4_base.specs.Value.{Value}
use Rattle.r4_base.specs.declared.items.Unit.{Unit as ExtentUnit}
use Rattle.r4_base.specs.declared.key.Key.{Key}
use Rattle.r4_build.specs.r4_branch.Pieces.{MayStand, pieces_in}
use Rattle.r4_build.specs.r4_branch.declared.piece.TwigPart.{TwigPart}
use Rattle.r4_build.specs.r4_branch.declared.piece.TwigPart.TheVariants.{Blocks, Pointer}
use Rattle.r4_build.specs.r4_branch.declared.piece.TwigPiece.{TwigPiece}
use Rattle.r4_build.proofs.r4_branch.Standing.{stand_lie}
use Rattle.r4_search.specs.r4_cell.Seen.{CellSeen, node_of}
use Rattle.r4_content.specs.Edited.{Edits, Intervals, Pairs, changed, is_between, is_in, put_keys}
use Rattle.r4_content.specs.Listed.{list_edited}
use Rattle.r4_content.specs.declared.command.Command.{Command}
use Rattle.r4_content.proofs.EditLaws.{in_append}
use Rattle.r4_build.specs.r4_leaf_edits.Made.{spread_keys}
use Rattle.r4_build.proofs.r4_leaf_edits.Lookups.{edited_rises}
use Rattle.r4_build.specs.r4_patch.Part.{IsPart}
use Rattle.r4_build.proofs.r4_patch.Members.{here, later}
use Rattle.r4_build.proofs.r4_patch.PartCells.{leaf_or_extent}
use Rattle.r4_build.proofs.r4_measure.Kept.{block_is}
use Rattle.r4_build.proofs.r4_path.CellNodes.{spans_are as cell_spans}
use Rattle.r4_build.proofs.r4_path.Rising.{level_is}
use Rattle.r4_build.specs.r4_reach.Leaves.{LieInLeaves}
use Rattle.r4_build.specs.r4_reach.Needs.{changes_pieces, come_of, demand_of, filled, gets_bytes, goes_in, going_of, is_met}
use Rattle.r4_build.specs.r4_reach.Needs.{is_hole_part, leaf_edits, leaves_for}
use Rattle.r4_build.specs.r4_reach.Needs.{put_among, runs}
use Rattle.r4_build.specs.r4_reach.Touched.{Body, blocks_end, body_on, coming, edits_on, first_byte, going, is_spread}
use Rattle.r4_build.specs.r4_reach.Touched.{raw_changes, reads_on, turns_out}
use Rattle.r4_build.specs.r4_reach.Touched.{with_blocks}
use Rattle.r4_suited.proofs.Left.{without_body}
use Rattle.r4_build.proofs.r4_work.Halving.{true_or_false}
use Rattle.r4_build.specs.Building.{SparesExtents}
use Rattle.r4_build.proofs.LeafKeys.{listed_off}
use Rattle.r4_build.proofs.MetKeys.{key_met, met_key}
use Rattle.r4_build.proofs.Pairs.{rising_found}
use Rattle.r4_spared.specs.Spared.{AreAccepted, IsAskedInLeaves, Spares}
use Rattle.r4_spared.proofs.Climbing.{unmet}
use Rattle.r4_spared.proofs.Pieces.{IsSpanned, hole, part_spanned, pieces_spanned, run_is_hole}

-- ---- lists and tests

pub no_true : (b : Bool) → b ≡ true → b ≡ false → ⊥
no_true true h g = absurd cc
no_true false h g = absurd cc

not_true : (b : Bool) → (b ≡ true → ⊥) → b ≡ false
not_true true h = absurd (h refl)
not_true false h = refl

left_off : (a b : Bool) → (a || b) ≡ false → a ≡ false
left_off true b h = absurd cc
left_off false b h = refl

all_off : (a b c d : Bool) → a ≡ false → b ≡ false → c ≡ false → d ≡ false → (a || (b || (c || d))) ≡ false
all_off false false false false h g f e = refl
all_off true b c d h g f e = absurd cc
all_off false true c d h g f e = absurd cc
all_off false false true d h g f e = absurd cc
all_off false false false true h g f e = absurd cc

module _ {X : Type 0} where
  none_of : (test : X → Bool) (xs : List X) → ((x : X) → Contains xs x → test x ≡ false) → list_any test xs ≡ false
  none_of test [] h = refl
  none_of test (x ∷ xs) h =
      ap (λ (v : Bool). v || list_any test xs) (h x (here x xs)) ∙ none_of test xs (λ y c. h y (later x y xs c))

  none_kept : (test : X → Bool) (xs : List X) → ((x : X) → Contains xs x → test x ≡ false) → filter test xs ≡ []
  none_kept test [] h = refl
  none_kept test (x ∷ xs) h =
      ap (λ (v : Bool). cond v (x ∷ filter test xs) (filter test xs)) (h x (here x xs))
      ∙ none_kept test xs (λ y c. h y (later x y xs c))

  none_summed : (f : X → ℕ) (xs : List X) → ((x : X) → Contains xs x → f x ≡ 0) → sum_by f xs ≡ 0
  none_summed f [] h = refl
  none_summed f (x ∷ xs) h =
      let cons = sum_by-cons f x xs in
      let own = h x (here x xs) in
      let rest = none_summed f xs (λ y c. h y (later x y xs c)) in
      omega (arith, cons, own, rest)

-- ---- a body that does not stand in extents

abbrev whole : Body → ℕ × ℕ
whole b = (first_byte b, first_byte b + 2 ^ 64)

pub unspread : (b : Body) → spread_keys (Some b) ≡ None → is_spread b ≡ false
unspread b h = by_test (is_spread b) h
  where
    by_test : (v : Bool) → (if v then Some (whole b) else None) ≡ None → v ≡ false
    by_test true g = absurd (none-some (whole b) (sym g))
    by_test false g = refl

in_tails : (b : Body) → is_spread b ≡ false → b.in_extents ≡ false
in_tails b h = left_off b.in_extents (nat_lt 16384 b.now) h

none_comes : (b : Body) → is_spread b ≡ false → coming b ≡ (0, 0)
none_comes b h = ap
    (λ (v : Bool). if v then (if b.in_extents then blocks_end b b.was else first_byte b, blocks_end b b.now) else
    (0, 0)) h

none_goes : (b : Body) → is_spread b ≡ false → going b ≡ (0, 0)
none_goes b h = ap (λ (v : Bool). if v then (blocks_end b b.now, blocks_end b b.was) else (0, 0)) (in_tails b h)

pub none_come : (b : Option Body) → spread_keys b ≡ None → come_of b ≡ (0, 0)
none_come None h = refl
none_come (Some b) h = none_comes b (unspread b h)

pub none_go : (b : Option Body) → spread_keys b ≡ None → going_of b ≡ (0, 0)
none_go None h = refl
none_go (Some b) h = none_goes b (unspread b h)

pub own_edits : (b : Option Body) (e : Edits) → spread_keys b ≡ None → leaf_edits b e ≡ e
own_edits None e h = refl
own_edits (Some b) e h =
    ap (λ (v : Bool). if v then without_body (whole b) e else e) (unspread b h)

pub own_changes : (b : Option Body) (rs : Intervals) → spread_keys b ≡ None → raw_changes b rs ≡ rs
own_changes None rs h = refl
own_changes (Some b) rs h = by_test (is_spread b) (unspread b h)
  where
    by_test : (v : Bool) → v ≡ false
        → (if v then (if turns_out b then coming b ∷ map (with_blocks b) rs else map (with_blocks b) rs) else rs) ≡ rs
    by_test true g = absurd cc
    by_test false g = refl

pub asked_in_leaves : (c : Command) (s : Pairs) (in_extents : Bool) → spread_keys (body_on c s in_extents) ≡ None
    → IsAskedInLeaves c s in_extents
asked_in_leaves c s in_extents h =
    ap (λ (rs : Intervals). demand_of (body_on c s in_extents) (edits_on c s) (reads_on c s in_extents) rs)
    (own_changes (body_on c s in_extents) (changed (edits_on c s)) h)

-- ---- pieces that stay

-- nothing, or one piece, which is a hole where it was one
abbrev IsKept : TwigPart → List TwigPiece → Type 0
IsKept part qs = (qs ≡ [])
    ⊎ ((q : TwigPiece) × (qs ≡ q ∷ []) × ((is_hole_part part && not (is_hole_part q.part)) ≡ false))

-- ---- the keys that edits set

set_keys : (e : Edits) (k : ℕ) (v : Value) → Contains (list_edited e []) (k, v) → is_in (changed e) k ≡ true
set_keys e k v has = elim (true_or_false (is_in (changed e) k)) [
  | inl on ↦ on
  | inr off ↦ absurd
      (none-some v (sym (listed_off e [] k tt off) ∙ rising_found (list_edited e []) k v (edited_rises e [] tt) has))
]

put_changes : (e : Edits) (k : ℕ) → is_in (put_keys e.puts) k ≡ true → is_in (changed e) k ≡ true
put_changes e k h =
    in_append (put_keys e.puts) (e.zeros ++ e.cuts) k ∙ ap (λ (v : Bool). v || is_in (e.zeros ++ e.cuts) k) h

-- ---- in a part of a tree

module _ (t : Store Value) (root : Root) (it : IsPart t root) (e : Edits) (lie : LieInLeaves t (is_in (changed e))) where
  pub spares : SparesExtents e t
  spares i c s at has = not_true (is_met (changed e) s.lo s.hi) (λ met.
      let (k, on, low, high) = met_key (changed e) s.lo s.hi met in
      let node = it.nodes i c at in
      let a = node.from_least in
      let b = node.span_from s has in
      let d = node.span_to s has in
      let f = node.to_top in
      let (j, leaf, there, level, inside) = lie k on (omega (arith, a, b, low)) (omega (arith, d, f, high)) in
      leaf_or_extent t root it j i leaf c s k there at level has inside (low, high))

-- ---- no pieces change

no_bytes : (b : Body) (e : Edits) (k : ℕ) → is_spread b ≡ false
    → ((j : ℕ) → k ≤ j → j < k + 4096 → is_in (changed e) j ≡ false) → gets_bytes b e k ≡ false
no_bytes b e k tails h =
    let unmet : is_met (put_keys e.puts) k (k + 4096) ≡ false = not_true (is_met (put_keys e.puts) k (k + 4096)) (λ met.
    let (j, on, low, high) = met_key (put_keys e.puts) k (k + 4096) met in
    no_true (is_in (changed e) j) (put_changes e j on) (h j low high)) in
    ap (λ (v : Bool). v || (turns_out b && nat_lt k (first_byte b + b.was))) unmet
    ∙ ap (λ (v : Bool). v && not b.in_extents && nat_lt k (first_byte b + b.was)) tails

-- what becomes of a piece of which no block gets bytes
filled_kept : (b : Body) (e : Edits) (k : Key) (part : TwigPart) → is_spread b ≡ false
    → (ss : List Span) → part_spanned ss (rank k) part
    → ((j : ℕ) → ((s : Span) × Contains ss s × InSpan s j) → is_in (changed e) j ≡ false)
    → IsKept part (filled b e (record { key = k; part = part }))
filled_kept b e k (Pointer to) tails ss spanned same = inr (record { key = k; part = Pointer to }, refl, refl)
filled_kept b e k (Blocks u) tails ss spanned same = by_test (is_hole u) refl
    (is_between (first_byte b) (first_byte b + 2 ^ 64) (rank k))
  where
    both : (v : Bool) → (v && not v) ≡ false
    both true = refl
    both false = refl

    of_run : (rs : List TwigPiece) → (rs ≡ []) ⊎ ((w : ℕ) × (rs ≡ hole (rank k) w ∷ [])) → IsKept (Blocks u) rs
    of_run rs (inl is) = inl is
    of_run rs (inr (w, is)) = inr (hole (rank k) w, is, ends (is_hole u))
      where
        ends : (v : Bool) → (v && false) ≡ false
        ends true = refl
        ends false = refl

    by_test : (v : Bool) → is_hole u ≡ v → (w : Bool)
        → IsKept (Blocks u)
        (if v && w then runs (gets_bytes b e) (rank k) u.width else (record { key = k; part = Blocks u }) ∷ [])
    by_test false h w = inr (record { key = k; part = Blocks u }, refl, both (is_hole u))
    by_test true h false = inr (record { key = k; part = Blocks u }, refl, both (is_hole u))
    by_test true h true = of_run (runs (gets_bytes b e) (rank k) u.width)
        (run_is_hole (gets_bytes b e) (rank k) u.width
        (λ j from to. no_bytes b e j tails
        (λ i low high. same i (spanned i (omega (arith, from, low)) (omega (arith, to, high))))))

module _ (b : Option Body) (e : Edits) (t : Store Value) (spared : SparesExtents e t) (i : ℕ) (c : Node Value)
    (at : t i ≡ Some c) (tails : spread_keys b ≡ None) where
  -- no key of an extent changes
  off : (k : ℕ) → ((s : Span) × Contains c.spans s × InSpan s k) → is_in (changed e) k ≡ false
  off k (s, has, (from, to)) = not_true (is_in (changed e) k)
      (λ on. no_true (is_met (changed e) s.lo s.hi) (key_met (changed e) s.lo s.hi k on from to) (spared i c s at has))

  own_put : (s : Span) → Contains c.spans s
      → leaves_for (filter (λ u. is_between s.lo s.hi u.0) (list_edited e [])) ≡ 0
  own_put s has = ap leaves_for (none_kept (λ (u : ℕ × Value). is_between s.lo s.hi u.0) (list_edited e []) (λ u there.
      not_true (is_between s.lo s.hi u.0) (λ within.
      no_true (is_in (changed e) u.0) (set_keys e u.0 u.1 there)
      (off u.0 (s, has, (low_of s.lo s.hi u.0 within, high_of s.lo s.hi u.0 within))))))
    where
      low_of : (lo hi k : ℕ) → is_between lo hi k ≡ true → lo ≤ k
      low_of lo hi k h = grind (arith, common_steps, h)

      high_of : (lo hi k : ℕ) → is_between lo hi k ≡ true → k < hi
      high_of lo hi k h = grind (arith, common_steps, h)

  none_put : put_among b e c ≡ 0
  none_put = none_summed
      (λ (s : Span). leaves_for (filter (λ u. is_between s.lo s.hi u.0) (list_edited (leaf_edits b e) []))) c.spans
      (λ s has.
      ap (λ (f : Edits). leaves_for (filter (λ u. is_between s.lo s.hi u.0) (list_edited f []))) (own_edits b e tails)
      ∙ own_put s has)

  module _ (accepted : AreAccepted t) (two : c.level ≡ 2) where
    cell : CellSeen
    cell = (accepted.cells i c at).0

    is_cell : c ≡ node_of cell
    unfolding cell
    is_cell = (accepted.cells i c at).1

    level_two : cell.level ≡ 2
    level_two = sym (level_is cell) ∙ (ap (λ (y : Node Value). y.level) (sym is_cell) ∙ two)

    stands : MayStand (rank cell.lo) (rank cell.hi) cell.block
    unfolding cell
    stands = let whole_block = (accepted.cells i c at).2 in
        let good = (accepted.cells i c at).3 in (
          whole_block,
          subst (λ (l : ℕ). cell_fault true (2 ^ 64) l (rank cell.lo) (rank cell.hi) cell.block ≡ None)
              level_two good,
        )

    pieces : List TwigPiece
    pieces = pieces_in (items_of cell.block)

    pieces_are : pieces_in (items_of c.block) ≡ pieces
    unfolding pieces
    pieces_are = ap (λ (x : List ℕ). pieces_in (items_of x)) (ap (λ (y : Node Value). y.block) is_cell ∙ block_is cell)

    spans_are : c.spans ≡ spans_in (rank cell.hi) (items_of cell.block)
    spans_are = ap (λ (y : Node Value). y.spans) is_cell ∙ cell_spans cell 1 level_two

    spanned : (p : TwigPiece) → Contains pieces p → IsSpanned c.spans p
    unfolding pieces
    spanned p has = subst (λ (ss : List Span). IsSpanned ss p) (sym spans_are)
        (pieces_spanned (rank cell.lo) (rank cell.hi) (items_of cell.block)
        (stand_lie (rank cell.lo) (rank cell.hi) cell.block stands) p has)

    -- no piece is filled
    unfilled : (bd : Body) → is_spread bd ≡ false → (p : TwigPiece) → Contains (pieces_in (items_of c.block)) p
        → IsKept p.part (filled bd e p)
    unfilled bd tail p has =
        let there : Contains pieces p = subst (λ (ps : List TwigPiece). Contains ps p) pieces_are has in
        filled_kept bd e p.key p.part tail c.spans (spanned p there) off

    none_goes_in : (bd : Body) → is_spread bd ≡ false → (p : TwigPiece) → goes_in (going bd) p p.part ≡ false
    none_goes_in bd tail p = ap (λ (r : ℕ × ℕ). goes_in r p p.part) (none_goes bd tail) ∙ by_part p.part
      where
        by_part : (part : TwigPart) → goes_in (0, 0) p part ≡ false
        by_part (Pointer to) = refl
        by_part (Blocks u) = unmet (rank p.key) (rank p.key + 4096 * u.width)

    none_comes_in : (bd : Body) → is_spread bd ≡ false → (s : Span)
        → (is_between s.lo s.hi (coming bd).0 && nat_lt (coming bd).0 (coming bd).1) ≡ false
    none_comes_in bd tail s = ap (λ (r : ℕ × ℕ). is_between s.lo s.hi r.0 && nat_lt r.0 r.1) (none_comes bd tail)
        ∙ no_more (is_between s.lo s.hi 0)
      where
        no_more : (v : Bool) → (v && nat_lt 0 0) ≡ false
        no_more true = refl
        no_more false = refl

    unchanged : (o : Option Body) → o ≡ b → changes_pieces o e c ≡ false
    unchanged None is = ap (λ (n : ℕ). nat_lt 0 n) (ap (λ (x : Option Body). put_among x e c) is ∙ none_put)
    unchanged (Some bd) is =
        let tail = unspread bd (ap spread_keys is ∙ tails) in
        all_off (nat_lt 0 (put_among (Some bd) e c)) _ _ _
        (ap (λ (n : ℕ). nat_lt 0 n) (ap (λ (x : Option Body). put_among x e c) is ∙ none_put))
        (none_of _ c.spans (λ s has. none_comes_in bd tail s))
        (none_of _ (pieces_in (items_of c.block)) (λ p has. none_goes_in bd tail p))
        (none_of _ (pieces_in (items_of c.block))
        (λ p has. elim
        (unfilled bd tail p has)
        [ inl is ↦ rw is refl | inr (q, is, stays) ↦ rw is stays ]))

-- ---- the law

pub all_spared : (t : Store Value) (root : Root) (b : Option Body) (e : Edits) → IsPart t root → AreAccepted t
    → spread_keys b ≡ None → LieInLeaves t (is_in (changed e)) → Spares b e t
all_spared t root b e it accepted tails lie = record {
  come = none_come b tails;
  go = none_go b tails;
  extents = spares t root it e lie;
  still = λ i c at two. unchanged b e t (spares t root it e lie) i c at tails accepted two b refl;
}
