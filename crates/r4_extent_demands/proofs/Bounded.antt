-- How many bytes the pieces of a twig need at most after a command.
use Rattle.std.specs.Prelude.{◌≡◌, ℕ, zero, suc, ◌+◌, ◌-◌, ◌*◌, ◌/◌, ◌^◌, ◌<◌, ◌≤◌, List, [], ◌∷◌, ◌++◌, length, take, drop}
use Rattle.std.specs.Prelude.{All, Bool, true, false, ◌&&◌, ◌||◌, None, Option, Some, nat_le, nat_lt, if◌then◌else◌}
use Rattle.std.proofs.Common.{arith, inl, inr, refl, sym, ap, subst, ◌∙◌, length-append}
use Rattle.std.specs.List.{filter, flat_map}
use Rattle.std.proofs.lemmas.Bool.{and_parts, cases_lt, leb-true, ltb-true}
use Rattle.std.proofs.lemmas.Grind.{flat_map-append}
use Rattle.std.proofs.lemmas.List.{take-append-drop}
use Rattle.std.proofs.lemmas.List.Elements.{All-head, All-tail}
use Rattle.r4_base.specs.Extents.{is_hole}
use Rattle.r4_base.specs.Key.{key_of_rank, later, offset_of, rank}
use Rattle.r4_base.specs.Tree.{Node}
use Rattle.r4_base.specs.Value.{Value}
use Rattle.r4_base.specs.declared.key.Key.{Key}
use Rattle.r4_graft.specs.r4_branch.Pieces.{Follow, bytes_behind, is_at, last_end, open_end, part_end, piece_end, twig_bytes}
use Rattle.r4_graft.specs.r4_branch.declared.piece.TwigPart.{TwigPart}
use Rattle.r4_graft.specs.r4_branch.declared.piece.TwigPart.TheVariants.{Blocks, Pointer}
use Rattle.r4_graft.specs.r4_branch.declared.piece.TwigPiece.{TwigPiece}
use Rattle.r4_graft.proofs.r4_branch.Counted.{behind_append, behind_most, costs}
use Rattle.r4_content.specs.Edited.{Edits}
use Rattle.r4_graft.specs.Splices.{blocks_past, first_blocks, halves, is_within, parted, parted_piece, place, spliced}
use Rattle.r4_graft.proofs.Halves.{later_key, later_rank}
use Rattle.r4_bodies.specs.r4_leaf.Units.{is_between}
use Rattle.r4_bodies.specs.r4_leaf_edits.Suiting.{SuitLeaves}
use Rattle.r4_bodies.proofs.r4_leaf_edits.KeyRanks.{key_again}
use Rattle.r4_bodies.specs.r4_leaf_edits.r4_reach.Needs.{cut_pieces, filled, gets_bytes, has_left_leaf, pointer_at, runs, taken_up, widened}
use Rattle.r4_bodies.specs.r4_leaf_edits.r4_reach.Touched.{Body, blocks_end, coming, first_byte, going, is_spread}
use Rattle.r4_extent_demands.specs.Pieces.{AreInOrder, HasRoom, PartHasRoom, block_at, hole_at, remade}
use Rattle.r4_extent_demands.specs.Sizes.{IsFirstKey, IsSizedBody}
use Rattle.r4_extent_demands.proofs.Low.{at_offset, gets_low}
use Rattle.r4_extent_demands.proofs.Rooms.{parted_room}
use Rattle.r4_extent_demands.proofs.RunBytes.{behind_cons, behind_least, behind_nil, cost_least, runs_bytes, wider}
use Rattle.r4_extent_demands.proofs.Runs.{AreQuiet, hole_some, quiet_runs}

-- ---- how many pieces blocks are

module _ (gets : ℕ → Bool) where
  by_get : (k n : ℕ) (t : Bool) → gets k ≡ t → runs gets k (suc n)
      ≡ (if t then block_at (key_of_rank k) ∷ runs gets (k + 4096) n else widened k (runs gets (k + 4096) n))
  by_get k n t e = ap (λ (b : Bool). if b then block_at (key_of_rank k) ∷ runs gets (k + 4096) n
      else widened k (runs gets (k + 4096) n)) e

  -- one more than the others at most
  one_more : (k n : ℕ) → length (runs gets k (suc n)) ≤ 1 + length (runs gets (k + 4096) n)
  one_more k n = by_test (gets k) refl
    where
      by_test : (t : Bool) → gets k ≡ t → length (runs gets k (suc n)) ≤ 1 + length (runs gets (k + 4096) n)
      by_test true e = let l = ap length (by_get k n true e) in omega (arith, l)
      by_test false e =
          let w = wider k (runs gets (k + 4096) n) in
          let l = ap length (by_get k n false e) in
          let m = ap length w.is in
          elim w.how [
            | inl (same, one) ↦ let x = ap length same in omega (arith, l, m, x)
            | inr (u, p, split, part, one) ↦ let x = ap length split in omega (arith, l, m, x)
          ]

  pub runs_most : (k n : ℕ) → length (runs gets k n) ≤ n
  runs_most k zero = omega arith
  runs_most k (suc n) = let more = one_more k n in let rest = runs_most (k + 4096) n in omega (arith, more, rest)

  quiet_most : (k n : ℕ) → AreQuiet gets k n → length (runs gets k n) ≤ 1
  quiet_most k n none = let l = ap length (quiet_runs gets k n none) in let one = by_count n refl in omega (arith, l, one)
    where
      by_count : (m : ℕ) → n ≡ m → length (hole_at (key_of_rank k) n) ≤ 1
      by_count zero e = let l = ap (λ (j : ℕ). length (hole_at (key_of_rank k) j)) e in omega (arith, l)
      by_count (suc m) e = let l = ap length (hole_some (key_of_rank k) n (omega (arith, e))) in omega (arith, l)

  -- where those that get bytes begin below a limit
  runs_long : (lim k n : ℕ) → ((j : ℕ) → k ≤ j → j + 4096 ≤ k + 4096 * n → gets j ≡ true → j < lim)
      → 4096 * length (runs gets k n) ≤ 4096 + (lim + 4095 - k)
  runs_long lim k zero low = omega arith
  runs_long lim k (suc n) low = elim (cases_lt k lim) [
    | inl lt ↦
        let more = one_more k n in
        let rest = runs_long lim (k + 4096) n (λ j from to. low j (omega (arith, from)) (omega (arith, to))) in
        omega (arith, more, rest, lt)
    | inr ge ↦
        let one = quiet_most k (suc n) (λ i less. late i less (gets (k + 4096 * i)) refl ge) in
        omega (arith, one)
  ]
    where
      late : (i : ℕ) → i < suc n → (t : Bool) → gets (k + 4096 * i) ≡ t → lim ≤ k → gets (k + 4096 * i) ≡ false
      late i less false e ge = e
      late i less true e ge = let lt = low (k + 4096 * i) (omega arith) (omega (arith, less)) e in absurd (omega (arith, lt, ge))

-- ---- pieces that stand in order

end_above : (p : TwigPiece) → rank p.key ≤ piece_end p
end_above p = by_part p.part
  where
    by_part : (t : TwigPart) → rank p.key ≤ part_end (rank p.key) t
    by_part (Pointer to) = omega arith
    by_part (Blocks u) = omega arith

lies_less : (low from : ℕ) (ps : List TwigPiece) → low ≤ from → AreInOrder from ps → AreInOrder low ps
lies_less low from [] le h = tt
lies_less low from (p ∷ ps) le h = let a = h.0 in (omega (arith, a, le), h.1)

pub follow_lies : (from to : ℕ) (ps : List TwigPiece) → Follow from to ps → AreInOrder from ps
follow_lies from to [] f = tt
follow_lies from to (p ∷ ps) f = (f.0, follow_lies (piece_end p) to ps f.2)

pub lies_filter : (test : TwigPiece → Bool) (from : ℕ) (ps : List TwigPiece) → AreInOrder from ps → AreInOrder from (filter test ps)
lies_filter test from [] h = tt
lies_filter test from (p ∷ ps) h = by_test (test p) (lies_filter test (piece_end p) ps h.1)
  where
    by_test : (t : Bool) → AreInOrder (piece_end p) (filter test ps)
        → AreInOrder from (if t then p ∷ filter test ps else filter test ps)
    by_test true rest = (h.0, rest)
    by_test false rest =
        let a = h.0 in
        let b = end_above p in
        lies_less from (piece_end p) (filter test ps) (omega (arith, a, b)) rest

filter_short : (test : TwigPiece → Bool) (ps : List TwigPiece) → length (filter test ps) ≤ length ps
filter_short test [] = omega arith
filter_short test (p ∷ ps) = by_test (test p) (filter_short test ps)
  where
    by_test : (t : Bool) → length (filter test ps) ≤ length ps
        → length (if t then p ∷ filter test ps else filter test ps) ≤ suc (length ps)
    by_test true r = omega (arith, r)
    by_test false r = omega (arith, r)

module _ (k : ℕ) where
  parts_lie : (from : ℕ) (p : TwigPiece) (rest : List TwigPiece) → from ≤ rank p.key → AreInOrder (piece_end p) rest
      → AreInOrder from (parted_piece k p ++ rest)
  parts_lie from p rest low h = by_test (is_within k p) refl
    where
      by_part : (t : TwigPart) → p.part ≡ t → rank p.key < k → k < piece_end p
          → (part_end (rank p.key) (first_blocks ((k - rank p.key) / 4096) t) ≡ rank p.key + 4096 * ((k - rank p.key) / 4096))
          × (part_end (rank p.key + 4096 * ((k - rank p.key) / 4096)) (blocks_past ((k - rank p.key) / 4096) t) ≡ piece_end p)
      by_part (Pointer to) is low high =
          let end : piece_end p ≡ rank p.key + 1 = ap (part_end (rank p.key)) is in
          absurd (omega (arith, end, low, high))
      by_part (Blocks u) is low high =
          let end : piece_end p ≡ rank p.key + 4096 * u.width = ap (part_end (rank p.key)) is in
          (refl, omega (arith, end, low, high))

      by_test : (t : Bool) → is_within k p ≡ t
          → AreInOrder from ((if t then halves ((k - rank p.key) / 4096) p else p ∷ []) ++ rest)
      by_test false e = (low, h)
      by_test true e =
          let (a, c) = and_parts (nat_lt (rank p.key) k) (nat_lt k (piece_end p)) e in
          let above = ltb-true (rank p.key) k a in
          let below = ltb-true k (piece_end p) c in
          let (one, two) = by_part p.part refl above below in
          let at = later_rank p.key (4096 * ((k - rank p.key) / 4096)) in
          let end : part_end (rank (later p.key (4096 * ((k - rank p.key) / 4096)))) (blocks_past ((k - rank p.key) / 4096) p.part) ≡ piece_end p
          = ap (λ (j : ℕ). part_end j (blocks_past ((k - rank p.key) / 4096) p.part)) at ∙ two in
          (low, (omega (arith, one, at), subst (λ (j : ℕ). AreInOrder j rest) (sym end) h))

  pub lies_parted : (from : ℕ) (ps : List TwigPiece) → AreInOrder from ps → AreInOrder from (parted k ps)
  lies_parted from [] h = tt
  lies_parted from (p ∷ ps) h = parts_lie from p (parted k ps) h.0 (lies_parted (piece_end p) ps h.1)

  parted_short : (ps : List TwigPiece) → length (parted k ps) ≤ 2 * length ps
  parted_short [] = omega arith
  parted_short (p ∷ ps) =
      let both = length-append (parted_piece k p) (parted k ps) in
      let one = by_test (is_within k p) in
      let rest = parted_short ps in
      omega (arith, both, one, rest)
    where
      by_test : (t : Bool) → length (if t then halves ((k - rank p.key) / 4096) p else p ∷ []) ≤ 2
      by_test true = omega arith
      by_test false = omega arith

-- ---- bytes of pieces

-- how many there are at most
pub few_pieces : (before : Option ℕ) (ps : List TwigPiece) → 16 * length ps ≤ bytes_behind before ps
few_pieces before [] = omega arith
few_pieces before (p ∷ ps) =
    let c = behind_cons before p ps in
    let least = cost_least before (rank p.key) p.part in
    let rest = few_pieces (open_end p) ps in
    omega (arith, c, least, rest)

bytes_both : (xs ys : List TwigPiece) → twig_bytes (xs ++ ys) ≤ twig_bytes xs + twig_bytes ys
bytes_both xs ys = let all = behind_append None xs ys in let most = behind_most (last_end None xs) ys in omega (arith, all, most)

both_bytes : (xs ys : List TwigPiece) → twig_bytes xs + twig_bytes ys ≤ twig_bytes (xs ++ ys) + 38
both_bytes xs ys = let all = behind_append None xs ys in let most = behind_least (last_end None xs) ys in omega (arith, all, most)

one_bytes : (p : TwigPiece) → twig_bytes (p ∷ []) ≤ 54
one_bytes p =
    let c = behind_cons None p [] in
    let z = behind_nil (open_end p) in
    let most = (costs None (rank p.key) p.part).most in
    omega (arith, c, z, most)

module _ (b : Body) (h : Key) (first : IsFirstKey b h) (spread : IsSizedBody b) (e : Edits) (suit : SuitLeaves (2 ^ 30) e) where
  low : (k n : ℕ) → first_byte b ≤ k → k + 4096 * n ≤ first_byte b + 2 ^ 64
      → (j : ℕ) → k ≤ j → j + 4096 ≤ k + 4096 * n → gets_bytes b e j ≡ true → j < first_byte b + 2 ^ 30
  low k n above fits j from to gets = gets_low b h first e j suit spread.was (omega (arith, above, from)) (omega (arith, fits, to)) gets

  -- with what is left of the body's keys behind them, not more than from the first of them on
  run_long : (k n : ℕ) → first_byte b ≤ k → k + 4096 * n ≤ first_byte b + 2 ^ 64
      → 4096 * length (runs (gets_bytes b e) k n) + (2 ^ 30 + 4096 - (k + 4096 * n - first_byte b))
      ≤ 8192 + (2 ^ 30 + 4096 - (k - first_byte b))
  run_long k n above fits =
      let most = runs_most (gets_bytes b e) k n in
      let long = runs_long (gets_bytes b e) (first_byte b + 2 ^ 30) k n (low k n above fits) in
      omega (arith, most, long, above)

  -- what becomes of a piece
  pub record IsFew (p : TwigPiece) (xs : List TwigPiece) : Type 0 where
    bytes : twig_bytes xs ≤ 38 + 16 * length xs
    long : 4096 * length xs + (2 ^ 30 + 4096 - (piece_end p - first_byte b)) ≤ 8192 + (2 ^ 30 + 4096 - (rank p.key - first_byte b))

  same_few : (p : TwigPiece) → IsFew p (p ∷ [])
  same_few p = record { bytes = let o = one_bytes p in omega (arith, o); long = let a = end_above p in omega (arith, a) }

  fill_few : (p : TwigPiece) → HasRoom p → IsFew p (filled b e p)
  fill_few p room = by_part p.part refl
    where
      front : (t : TwigPart) → p.part ≡ t → filled b e p ≡ filled b e (record p { part = t })
      front t is = ap (λ (x : TwigPart). filled b e (record p { part = x })) is

      by_part : (t : TwigPart) → p.part ≡ t → IsFew p (filled b e p)
      by_part (Pointer to) is = subst (IsFew p)
          (sym (front (Pointer to) is ∙ ap (λ (x : TwigPart). record p { part = x } ∷ []) (sym is))) (same_few p)
      by_part (Blocks u) is = by_test (is_hole u && is_between (first_byte b) (first_byte b + 2 ^ 64) (rank p.key)) refl
        where
          by_test : (t : Bool) → (is_hole u && is_between (first_byte b) (first_byte b + 2 ^ 64) (rank p.key)) ≡ t
              → IsFew p (filled b e p)
          by_test false off = subst (IsFew p)
              (sym (front (Blocks u) is ∙ (rw off (ap (λ (x : TwigPart). record p { part = x } ∷ []) (sym is))))) (same_few p)
          by_test true on =
              let (hole, between) = and_parts (is_hole u) (is_between (first_byte b) (first_byte b + 2 ^ 64) (rank p.key)) on in
              let (a, c) = and_parts (nat_le (first_byte b) (rank p.key)) (nat_lt (rank p.key) (first_byte b + 2 ^ 64)) between in
              let above = leb-true (first_byte b) (rank p.key) a in
              let below = ltb-true (rank p.key) (first_byte b + 2 ^ 64) c in
              let has = subst (PartHasRoom (offset_of p.key)) is room.part in
              let fits = has.bytes in
              let at : offset_of p.key ≡ rank p.key - first_byte b
              = ap offset_of (sym (key_again p.key room.key)) ∙ at_offset b h first (rank p.key) above below in
              let end : piece_end p ≡ rank p.key + 4096 * u.width = ap (part_end (rank p.key)) is in
              let long = run_long (rank p.key) u.width above (omega (arith, fits, at, above)) in
              let tight = runs_bytes (gets_bytes b e) p.key (rank p.key) u.width room.key refl fits in
              let least = behind_least (Some (rank p.key)) (runs (gets_bytes b e) (rank p.key) u.width) in
              let is_runs : filled b e p ≡ runs (gets_bytes b e) (rank p.key) u.width = front (Blocks u) is ∙ (rw on refl) in
              let few : IsFew p (runs (gets_bytes b e) (rank p.key) u.width)
              = record { bytes = omega (arith, tight, least); long = omega (arith, long, end) } in
              subst (IsFew p) (sym is_runs) few

  each_bytes : (qs : List TwigPiece) → All HasRoom qs
      → twig_bytes (flat_map (filled b e) qs) ≤ 38 * length qs + 16 * length (flat_map (filled b e) qs)
  each_bytes [] all = let z = behind_nil None in omega (arith, z)
  each_bytes (q ∷ qs) all =
      let one = (fill_few q (All-head HasRoom q qs all)).bytes in
      let rest = each_bytes qs (All-tail HasRoom q qs all) in
      let both = bytes_both (filled b e q) (flat_map (filled b e) qs) in
      let long = length-append (filled b e q) (flat_map (filled b e) qs) in
      omega (arith, one, rest, both, long)

  each_long : (from : ℕ) (qs : List TwigPiece) → All HasRoom qs → AreInOrder from qs
      → 4096 * length (flat_map (filled b e) qs) ≤ 8192 * length qs + (2 ^ 30 + 4096 - (from - first_byte b))
  each_long from [] all lies = omega arith
  each_long from (q ∷ qs) all lies =
      let one = (fill_few q (All-head HasRoom q qs all)).long in
      let rest = each_long (piece_end q) qs (All-tail HasRoom q qs all) lies.1 in
      let long = length-append (filled b e q) (flat_map (filled b e) qs) in
      let above = lies.0 in
      omega (arith, one, rest, long, above)

  -- some of the pieces, twice at most, and one more
  pub cut_bytes : (i j : ℕ) (middle qs : List TwigPiece) → length middle ≤ 1 → All HasRoom (spliced i j middle qs)
      → flat_map (filled b e) middle ≡ middle
      → twig_bytes (flat_map (filled b e) (spliced i j middle qs))
      ≤ 38 * length (spliced i j middle qs) + 16 * (2 * length (flat_map (filled b e) qs) + 1)
  cut_bytes i j middle qs few room same =
      let all = each_bytes (spliced i j middle qs) room in
      let a = ap length (flat_map-append (filled b e) (take i qs) (middle ++ drop j qs)) in
      let a2 = length-append (flat_map (filled b e) (take i qs)) (flat_map (filled b e) (middle ++ drop j qs)) in
      let c = ap length (flat_map-append (filled b e) middle (drop j qs)) in
      let c2 = length-append (flat_map (filled b e) middle) (flat_map (filled b e) (drop j qs)) in
      let m = ap length same in
      let x = part_long i in
      let y = part_long j in
      let x1 = x.0 in
      let y1 = y.1 in
      omega (arith, all, a, a2, c, c2, m, few, x1, y1)
    where
      part_long : (n : ℕ) → (length (flat_map (filled b e) (take n qs)) ≤ length (flat_map (filled b e) qs))
          × (length (flat_map (filled b e) (drop n qs)) ≤ length (flat_map (filled b e) qs))
      part_long n =
          let whole = ap (λ (xs : List TwigPiece). length (flat_map (filled b e) xs)) (take-append-drop n qs) in
          let a = ap length (flat_map-append (filled b e) (take n qs) (drop n qs)) in
          let c = length-append (flat_map (filled b e) (take n qs)) (flat_map (filled b e) (drop n qs)) in
          (omega (arith, whole, a, c), omega (arith, whole, a, c))

-- pieces that are put among others
pub put_bytes : (n : ℕ) (middle ps : List TwigPiece)
    → twig_bytes (spliced n n middle ps) ≤ twig_bytes ps + twig_bytes middle + 38
put_bytes n middle ps =
    let a = bytes_both (take n ps) (middle ++ drop n ps) in
    let c = bytes_both middle (drop n ps) in
    let d = both_bytes (take n ps) (drop n ps) in
    let whole = ap twig_bytes (take-append-drop n ps) in
    omega (arith, a, c, d, whole)

-- ---- all of it

short_bytes : (ps : List TwigPiece) → twig_bytes ps ≤ 54 * length ps
short_bytes [] = let z = behind_nil None in omega (arith, z)
short_bytes (p ∷ ps) =
    let one = one_bytes p in
    let rest = short_bytes ps in
    let both = bytes_both (p ∷ []) ps in
    omega (arith, one, rest, both)

pub without_bytes : (test : TwigPiece → Bool) (ps : List TwigPiece) → twig_bytes ps ≤ 4068
    → (16 * length (filter test ps) ≤ 4068) × (twig_bytes (filter test ps) ≤ 12800000)
without_bytes test ps fits =
    let some = few_pieces None ps in
    let less = filter_short test ps in
    let most = short_bytes (filter test ps) in
    (omega (arith, fits, some, less), omega (arith, fits, some, less, most))

taken_few : (c : Node Value) (below between : List TwigPiece) → length (taken_up c below between) ≤ 1
taken_few c below [] = omega arith
taken_few c below (p ∷ ps) = by_test (has_left_leaf c (rank p.key) || is_at (last_end None below) (rank p.key))
  where
    by_test : (t : Bool) → length (if t then [] else pointer_at (rank p.key)) ≤ 1
    by_test true = omega arith
    by_test false = omega arith

taken_same : (b : Body) (e : Edits) (c : Node Value) (below between : List TwigPiece)
    → flat_map (filled b e) (taken_up c below between) ≡ taken_up c below between
taken_same b e c below [] = refl
taken_same b e c below (p ∷ ps) = by_test (has_left_leaf c (rank p.key) || is_at (last_end None below) (rank p.key))
  where
    by_test : (t : Bool) → flat_map (filled b e) (if t then [] else pointer_at (rank p.key))
        ≡ (if t then [] else pointer_at (rank p.key))
    by_test true = refl
    by_test false = refl

no_bytes : twig_bytes [] ≡ 0
unfolding bytes_behind
no_bytes = refl

spliced_short : (i j : ℕ) (middle ps : List TwigPiece) → length middle ≤ 1
    → length (spliced i j middle ps) ≤ 2 * length ps + 1
spliced_short i j middle ps few =
    let a = length-append (take i ps) (middle ++ drop j ps) in
    let c = length-append middle (drop j ps) in
    let d = length-append (take i ps) (drop i ps) in
    let e = length-append (take j ps) (drop j ps) in
    let f = ap length (take-append-drop i ps) in
    let g = ap length (take-append-drop j ps) in
    omega (arith, few, a, c, d, e, f, g)

module _ (b : Body) (h : Key) (first : IsFirstKey b h) (spread : IsSizedBody b) (e : Edits) (suit : SuitLeaves (2 ^ 30) e)
    (c : Node Value) (from : ℕ) (ps : List TwigPiece) (short : 16 * length ps ≤ 4068) (order : AreInOrder from ps)
    (room : All HasRoom ps) where
  parts_count : length (parted (going b).1 (parted (going b).0 ps)) ≤ 1016
  parts_count =
      let one = parted_short (going b).0 ps in
      let two = parted_short (going b).1 (parted (going b).0 ps) in
      omega (arith, short, one, two)

  parts_long : 4096 * length (flat_map (filled b e) (parted (going b).1 (parted (going b).0 ps))) ≤ 8192 * 1016 + (2 ^ 30 + 4096)
  parts_long =
      let count = parts_count in
      let long = each_long b h first spread e suit from (parted (going b).1 (parted (going b).0 ps))
      (parted_room (going b).1 (parted (going b).0 ps) (parted_room (going b).0 ps room))
      (lies_parted (going b).1 from (parted (going b).0 ps) (lies_parted (going b).0 from ps order)) in
      omega (arith, count, long)

  cut_few : All HasRoom (cut_pieces (going b) c ps)
      → twig_bytes (flat_map (filled b e) (cut_pieces (going b) c ps)) ≤ 8540000
  cut_few has =
      let qs = parted (going b).1 (parted (going b).0 ps) in
      let i = place (going b).0 (parted (going b).1 (parted (going b).0 ps)) in
      let j = place (going b).1 (parted (going b).1 (parted (going b).0 ps)) in
      let below = take (place (going b).0 (parted (going b).1 (parted (going b).0 ps))) (parted (going b).1 (parted (going b).0 ps)) in
      let between = take (place (going b).1 (parted (going b).1 (parted (going b).0 ps)) - place (going b).0 (parted (going b).1 (parted (going b).0 ps)))
      (drop (place (going b).0 (parted (going b).1 (parted (going b).0 ps))) (parted (going b).1 (parted (going b).0 ps))) in
      let most = taken_few c below between in
      let bytes = cut_bytes b h first spread e suit i j (taken_up c below between) qs most has (taken_same b e c below between) in
      let count = spliced_short i j (taken_up c below between) qs most in
      let parts_few = parts_count in
      let long = parts_long in
      omega (arith, bytes, count, parts_few, long)

  -- ---- the blocks that come

  abbrev come_pair : Bool → ℕ × ℕ
  come_pair t = if t then (if b.in_extents then blocks_end b b.was else first_byte b, blocks_end b b.now) else (0, 0)

  from_low : (t : Bool) → (first_byte b ≤ (if t then blocks_end b b.was else first_byte b))
      × ((if t then blocks_end b b.was else first_byte b) ≤ first_byte b + 2 ^ 30)
  from_low true = let was = spread.was in (omega arith, omega (arith, was))
  from_low false = (omega arith, omega arith)

  come_spread : coming b ≡ come_pair true
      → twig_bytes (runs (gets_bytes b e) (coming b).0 (((coming b).1 - (coming b).0) / 4096)) ≤ 4194342
  come_spread is =
      let x : (coming b).0 ≡ (if b.in_extents then blocks_end b b.was else first_byte b) = ap (λ (p : ℕ × ℕ). p.0) is in
      let y : (coming b).1 ≡ blocks_end b b.now = ap (λ (p : ℕ × ℕ). p.1) is in
      let (low, high) = from_low b.in_extents in
      let now = spread.now in
      let begins = first.begins in
      let at = first.at in
      let above : first_byte b ≤ (coming b).0 = omega (arith, x, low) in
      let below : (coming b).0 ≤ first_byte b + 2 ^ 30 = omega (arith, x, high) in
      let end : (coming b).1 ≤ first_byte b + 2 ^ 30 = omega (arith, y, now) in
      let r = later_rank h ((coming b).0 - first_byte b) in
      let key = later_key h ((coming b).0 - first_byte b) first.key (omega (arith, begins, below)) in
      let tight = runs_bytes (gets_bytes b e) (later h ((coming b).0 - first_byte b)) (coming b).0
      (((coming b).1 - (coming b).0) / 4096) key (omega (arith, r, at, above))
      (omega (arith, begins, above, below, end)) in
      let least = behind_least (Some (coming b).0) (runs (gets_bytes b e) (coming b).0 (((coming b).1 - (coming b).0) / 4096)) in
      let most = runs_most (gets_bytes b e) (coming b).0 (((coming b).1 - (coming b).0) / 4096) in
      omega (arith, tight, least, most, above, end)

  come_none : coming b ≡ (0, 0)
      → twig_bytes (runs (gets_bytes b e) (coming b).0 (((coming b).1 - (coming b).0) / 4096)) ≤ 4194342
  come_none is =
      let none = ap (λ (p : ℕ × ℕ). twig_bytes (runs (gets_bytes b e) p.0 ((p.1 - p.0) / 4096))) is in
      let z = no_bytes in
      omega (arith, none, z)

  come_bytes : twig_bytes (runs (gets_bytes b e) (coming b).0 (((coming b).1 - (coming b).0) / 4096)) ≤ 4194342
  come_bytes = by_spread (is_spread b) refl
    where
      by_spread : (t : Bool) → is_spread b ≡ t
          → twig_bytes (runs (gets_bytes b e) (coming b).0 (((coming b).1 - (coming b).0) / 4096)) ≤ 4194342
      by_spread true on = come_spread (ap come_pair on)
      by_spread false off = come_none (ap come_pair off)

  pub remade_few : All HasRoom (cut_pieces (going b) c ps) → twig_bytes (remade b e c ps) ≤ 12800000
  remade_few has = by_test (is_between c.lo c.hi (coming b).0)
    where
      by_test : (t : Bool) → twig_bytes (if t then spliced
          (place (coming b).0 (flat_map (filled b e) (cut_pieces (going b) c ps)))
          (place (coming b).0 (flat_map (filled b e) (cut_pieces (going b) c ps)))
          (runs (gets_bytes b e) (coming b).0 (((coming b).1 - (coming b).0) / 4096))
          (flat_map (filled b e) (cut_pieces (going b) c ps))
          else flat_map (filled b e) (cut_pieces (going b) c ps)) ≤ 12800000
      by_test false = let few = cut_few has in omega (arith, few)
      by_test true =
          let few = cut_few has in
          let come = come_bytes in
          let put = put_bytes (place (coming b).0 (flat_map (filled b e) (cut_pieces (going b) c ps)))
          (runs (gets_bytes b e) (coming b).0 (((coming b).1 - (coming b).0) / 4096))
          (flat_map (filled b e) (cut_pieces (going b) c ps)) in
          omega (arith, few, come, put)
