-- A turned twig needs no more room than is told of it without the leaves that ask to go, and a pointer for what stays of
-- the last leaf, where none is left there; nor more than is told of it without any pointer to leaves that begin there, and
-- that pointer.
use Rattle.std.proofs.Common.{◌≡◌, ◌⊎◌, inl, inr, ℕ, suc, ◌+◌, ◌*◌, ◌^◌, ◌<◌, ◌≤◌, Bool, true, false, cond, List, [], ◌∷◌, ◌++◌, length, take, drop, refl, sym, ap, subst, ◌∙◌, arith, eqb-true}
use Rattle.std.specs.Prelude.{Contains, Option, None, Some, ◌==◌, ◌&&◌, not, nat_lt}
use Rattle.std.specs.List.{filter}
use Rattle.std.proofs.Math.Seq.{drop-append_seam, take-append_seam}
use Rattle.std.proofs.lemmas.List.{append_assoc, append-nil}
use Rattle.std.proofs.lemmas.List.Elements.{Contains-append_cases, Contains-append_left, Contains-append_right, filter-append}
use Rattle.r4_base.specs.Key.{offset_of, rank}
use Rattle.r4_base.specs.Tree.{Name}
use Rattle.r4_base.specs.declared.key.Key.{Key}
use Rattle.r4_base.specs.declared.things.NodeId.{NodeId}
use Rattle.r4_build.specs.r4_branch.Pieces.{bytes_behind, last_end, open_end, part_bytes, part_end, piece_end, twig_bytes}
use Rattle.r4_build.specs.r4_branch.declared.piece.TwigPart.{TwigPart}
use Rattle.r4_build.specs.r4_branch.declared.piece.TwigPart.TheVariants.{Blocks, Pointer}
use Rattle.r4_build.specs.r4_branch.declared.piece.TwigPiece.{TwigPiece}
use Rattle.r4_extent_build.specs.r4_cell.Seen.{CellSeen, node_of}
use Rattle.r4_content.specs.Edited.{Edits}
use Rattle.r4_extent_build.specs.r4_edit.Extents.{given_cells, pointer_to}
use Rattle.r4_extent_build.specs.r4_edit.LeafParts.{HasLeft}
use Rattle.r4_extent_build.specs.Growing.{end_after}
use Rattle.r4_extent_build.proofs.r4_extent_edit.ExtentEffect.{is_off, is_on}
use Rattle.r4_extent_build.proofs.r4_extent_edit.SpanBorders.{follow_within as piece_within}
use Rattle.r4_extent_build.proofs.r4_extent_edit.TurnPieces.{last_low}
use Rattle.r4_extent_build.specs.r4_graft.Splices.{place}
use Rattle.r4_extent_build.proofs.r4_graft.Joined.{bytes_join, bytes_most}
use Rattle.r4_extent_build.proofs.r4_graft.Placed.{follow_above, has_end, place_none, place_some}
use Rattle.r4_build.specs.r4_leaf.Units.{is_between}
use Rattle.r4_build.proofs.r4_patch.Members.{cases, here, later, none}
use Rattle.r4_build.specs.r4_path.TwigPieces.{twig_pieces}
use Rattle.r4_build.proofs.r4_path.Rising.{follow_within}
use Rattle.r4_build.specs.r4_reach.Needs.{Ask, pieces_after, without_gone}
use Rattle.r4_build.specs.r4_reach.Touched.{Body, first_byte}
use Rattle.r4_extent_turn.specs.Asked.{OnlyTurnedGo, goes_by, is_pointer, pointers_left, points_there, without_turned}
use Rattle.r4_extent_turn.specs.Turning.{AreKept, IsTurnFor, IsTurningBody, Kept, Turn, in_turned, last_of, leaves_of, left_pointer, told_extent, told_pieces}
use Rattle.r4_extent_turn.proofs.Bodies.{coming_is, told_follow}
use Rattle.r4_extent_turn.proofs.Comes.{before_follow, behind_follow, over, p, right_low}
use Rattle.r4_extent_turn.proofs.GivenLeaves.{in_twig}
use Rattle.r4_extent_turn.proofs.MadeTurn.{sound_of}
use Rattle.r4_extent_turn.proofs.Room.{SameRoom, open_by, open_is, same_all, same_join}
use Rattle.r4_extent_turn.proofs.ToldRuns.{after_of, kept_member}
use Rattle.r4_extent_turn.proofs.NoPointers.{filter_all, told_stays}

-- ---- lists

filter_none : {X : Type 0} (f : X → Bool) (xs : List X) → ((x : X) → Contains xs x → f x ≡ false) → filter f xs ≡ []
filter_none f [] all = refl
filter_none f (x ∷ xs) all = ap (λ (t : Bool). cond t (x ∷ filter f xs) (filter f xs)) (all x (here x xs)) ∙ filter_none f xs (λ y at. all y (later x y xs at))

place_at : (k : ℕ) (xs ys : List TwigPiece) → ((q : TwigPiece) → Contains xs q → rank q.key < k) → ((q : TwigPiece) → Contains ys q → k ≤ rank q.key) → place k (xs ++ ys) ≡ length xs
place_at k [] [] low high = refl
place_at k [] (y ∷ ys) low high = place_none k y ys (high y (here y ys))
place_at k (x ∷ xs) ys low high = place_some k x (xs ++ ys) (low x (here x xs)) ∙ ap suc (place_at k xs ys (λ q at. low q (later x q xs at)) high)

-- ---- where a list of pieces may go on

abbrev IsLow : Option ℕ → ℕ → Type 0
IsLow None k = Unit {0}
IsLow (Some e) k = e ≤ k

low_test : (k : ℕ) (t : Bool) (end : ℕ) → end ≤ k → IsLow (cond t (Some end) None) k
low_test k true end low = low
low_test k false end low = tt

low_open : (q : TwigPiece) (k : ℕ) → piece_end q ≤ k → IsLow (open_end q) k
unfolding open_by
low_open q k le = by_part q.part refl
  where
    by_part : (t : TwigPart) → q.part ≡ t → IsLow (open_end q) k
    by_part (Pointer to) is = subst (λ (o : Option ℕ). IsLow o k) (sym (open_is q ∙ ap (open_by (offset_of q.key) (rank q.key)) is)) tt
    by_part (Blocks u) is =
        let ends : piece_end q ≡ rank q.key + 4096 * u.width = ap (part_end (rank q.key)) is in
        subst (λ (o : Option ℕ). IsLow o k) (sym (open_is q ∙ ap (open_by (offset_of q.key) (rank q.key)) is)) (low_test k (nat_lt (offset_of q.key + 4096 * u.width) (2 ^ 64)) (rank q.key + 4096 * u.width) (omega (arith, ends, le)))

low_end : (k : ℕ) (ps : List TwigPiece) (d : Option ℕ) → ((q : TwigPiece) → Contains ps q → piece_end q ≤ k) → IsLow d k → IsLow (last_end d ps) k
low_end k [] d low h = h
low_end k (q ∷ ps) d low h = low_end k ps (open_end q) (λ r at. low r (later q r ps at)) (low_open q k (low q (here q ps)))

-- pieces behind that do not go on what stands before them
behind_bytes : (k : ℕ) (d : Option ℕ) (ps : List TwigPiece) → IsLow d k → ((q : TwigPiece) → Contains ps q → k < rank q.key) → twig_bytes ps ≤ bytes_behind d ps
unfolding bytes_behind
behind_bytes k d [] low high = omega arith
behind_bytes k d (q ∷ ps) low high = let h = by_part d q.part low (high q (here q ps)) in omega (arith, h)
  where
    by_part : (o : Option ℕ) (t : TwigPart) → IsLow o k → k < rank q.key → part_bytes None (rank q.key) t ≤ part_bytes o (rank q.key) t
    by_part o (Pointer to) l lt = omega arith
    by_part None (Blocks u) l lt = omega arith
    by_part (Some e) (Blocks u) l lt = by_test (e == rank q.key) refl
      where
        by_test : (t : Bool) → (e == rank q.key) ≡ t → 54 ≤ cond (e == rank q.key) 16 54
        by_test true same = absurd (let at = eqb-true e (rank q.key) same in omega (arith, at, l, lt))
        by_test false other = subst (λ (t : Bool). 54 ≤ cond t 16 54) (sym other) (omega arith)

-- ---- pointers

abbrev IsPointer : TwigPiece → Type 0
IsPointer q = (i : NodeId) × (q.part ≡ Pointer i)

pointers_bytes : (d : Option ℕ) (ps : List TwigPiece) → ((q : TwigPiece) → Contains ps q → IsPointer q) → bytes_behind d ps ≡ 46 * length ps
unfolding bytes_behind
pointers_bytes d [] are = omega arith
pointers_bytes d (q ∷ ps) are =
    let (i, is) = are q (here q ps) in
    let one : part_bytes d (rank q.key) q.part ≡ 46 = ap (part_bytes d (rank q.key)) is in
    let rest = pointers_bytes (open_end q) ps (λ r at. are r (later q r ps at)) in
    omega (arith, one, rest)

pointer_open : (q : TwigPiece) → IsPointer q → open_end q ≡ None
unfolding open_by
pointer_open q (i, is) = open_is q ∙ ap (open_by (offset_of q.key) (rank q.key)) is

pointers_end : (d : Option ℕ) (q : TwigPiece) (ps : List TwigPiece) → ((r : TwigPiece) → Contains (q ∷ ps) r → IsPointer r) → last_end d (q ∷ ps) ≡ None
pointers_end d q [] are = pointer_open q (are q (here q []))
pointers_end d q (r ∷ ps) are = pointers_end (open_end q) r ps (λ z at. are z (later q z (r ∷ ps) at))

-- What stays of the last leaf, and pieces behind it, against the pointers that are left there.
rights_bytes : (k : ℕ) (d : Option ℕ) (o : Option CellSeen) (left behind : List TwigPiece) (more : ℕ) → IsLow d k → ((q : TwigPiece) → Contains left q → IsPointer q)
    → ((l : CellSeen) → o ≡ Some l → (q : TwigPiece) → Contains behind q → k < rank q.key) → length (given_cells o) ≤ length left + more
    → bytes_behind d (pointer_to o ++ behind) ≤ bytes_behind d (left ++ behind) + 46 * more
unfolding bytes_behind
rights_bytes k d None [] behind more low are high few = omega arith
rights_bytes k d None (q ∷ left) behind more low are high few =
    let a = bytes_join d (q ∷ left) behind in
    let e = ap (λ (o : Option ℕ). bytes_behind o behind) (pointers_end d q left are) in
    let m = bytes_most d behind in
    omega (arith, a, e, m)
rights_bytes k d (Some l) [] behind more low are high few = let h = behind_bytes k d behind low (high l refl) in omega (arith, h, few)
rights_bytes k d (Some l) (q ∷ left) behind more low are high few =
    let a = bytes_join d (q ∷ left) behind in
    let e = ap (λ (o : Option ℕ). bytes_behind o behind) (pointers_end d q left are) in
    let n : bytes_behind d (q ∷ left) ≡ 46 * length (q ∷ left) = pointers_bytes d (q ∷ left) are in
    omega (arith, a, e, n)

-- ---- the twig's pieces

module _ (b : Body) (x : Turn) (c : IsTurnFor b x) where
  abbrev fb : ℕ
  fb = first_byte b

  -- those before the extent, and the pointers at its keys
  record Split (s : Kept) : Type 0 where
    front : List TwigPiece
    middle : List TwigPiece
    is : twig_pieces x.twig ≡ front ++ (middle ++ (p b x c).behind)
    low : (q : TwigPiece) → Contains front q → (rank q.key < fb) × (piece_end q ≤ fb)
    within : (q : TwigPiece) → Contains middle q → (fb ≤ rank q.key) × (rank q.key < end_after b)
    pointers : (q : TwigPiece) → Contains middle q → IsPointer q
    room : SameRoom ((p b x c).before ++ left_pointer s.left) front

  before_low : (q : TwigPiece) → Contains (p b x c).before q → (rank q.key < rank x.leaf.lo) × (piece_end q ≤ rank x.leaf.lo)
  before_low q at =
      let w = piece_within (rank x.twig.lo) (rank x.leaf.lo) (p b x c).before q (before_follow b x c) at in
      let e = has_end q (sound_of (rank x.twig.lo) (rank x.leaf.lo) (p b x c).before q (before_follow b x c) at) in
      (omega (arith, w, e), w.1)

  one_wide : (t : TwigPart) (key : ℕ) → part_end key t ≡ key + 1 → (i : NodeId) × (t ≡ Pointer i)
  one_wide (Pointer to) key is = (to, refl)
  one_wide (Blocks u) key is = absurd (omega (arith, is))

  other : (q : TwigPiece) → Contains (p b x c).others q → ((rank x.leaf.hi ≤ rank q.key) × (rank q.key < end_after b)) × IsPointer q
  other q at =
      let (d, (m, (key, wide))) = (p b x c).each q at in
      let w = follow_within 1 (rank x.leaf.hi) (rank (last_of x).hi) x.more d c.beside.3 m in
      let from = w.from in
      let l = last_low (rank x.leaf.lo) (rank (last_of x).hi) x.leaf x.more d c.beside (later x.leaf d x.more m) in
      let ends = c.around.ends in
      ((omega (arith, key, from), omega (arith, key, l, ends)), one_wide q.part (rank q.key) wide)

  piece_pointer : IsPointer (p b x c).piece
  piece_pointer = (record { 0 = x.leaf.id }, (p b x c).part)

  leaf_low : rank x.leaf.lo < end_after b
  leaf_low = let l = last_low (rank x.leaf.lo) (rank (last_of x).hi) x.leaf x.more x.leaf c.beside (here x.leaf x.more) in let ends = c.around.ends in omega (arith, l, ends)

  pointer_room : (l : CellSeen) → SameRoom (left_pointer (Some l)) ((p b x c).piece ∷ [])
  unfolding bytes_behind
  pointer_room l d = (
    sym (ap (λ (t : TwigPart). part_bytes d (rank (p b x c).piece.key) t + 0) (p b x c).part),
    sym (pointer_open (p b x c).piece piece_pointer),
  )

  split : (s : Kept) (k : AreKept b x s) → Split s
  split s k = by_left s.left refl k.left
    where
      same_room : (o : Option CellSeen) → s.left ≡ o → (zs : List TwigPiece) → SameRoom ((p b x c).before ++ left_pointer o) zs → SameRoom ((p b x c).before ++ left_pointer s.left) zs
      same_room o is zs h = subst (λ (z : Option CellSeen). SameRoom ((p b x c).before ++ left_pointer z) zs) (sym is) h

      by_left : (o : Option CellSeen) → s.left ≡ o → HasLeft x.leaf k.from o → Split s
      by_left None is h =
          let at : fb ≡ rank x.leaf.lo = sym k.from_is ∙ h in
          record {
            front = (p b x c).before;
            middle = (p b x c).piece ∷ (p b x c).others;
            is = (p b x c).is;
            low = λ q m. let l = before_low q m in (omega (arith, l, at), omega (arith, l, at));
            within = λ q m. elim (cases (p b x c).piece q (p b x c).others m) [
              | inl same ↦ let key : rank q.key ≡ rank x.leaf.lo = ap (λ (z : TwigPiece). rank z.key) same ∙ (p b x c).key in let l = leaf_low in (omega (arith, key, at), omega (arith, key, l))
              | inr more ↦ let o = (other q more).0 in let begins = c.around.begins in (omega (arith, o, begins), o.1)
            ];
            pointers = λ q m. elim (cases (p b x c).piece q (p b x c).others m) [
              | inl same ↦ subst IsPointer (sym same) piece_pointer
              | inr more ↦ (other q more).1
            ];
            room = same_room None is (p b x c).before (subst (λ zs. SameRoom zs (p b x c).before) (sym (append-nil (p b x c).before)) (same_all (p b x c).before));
          }
      by_left (Some l) is h =
          let lt : rank x.leaf.lo < fb = let a = h.0 in let z = k.from_is in omega (arith, a, z) in
          record {
            front = (p b x c).before ++ ((p b x c).piece ∷ []);
            middle = (p b x c).others;
            is = (p b x c).is ∙ sym (append_assoc (p b x c).before ((p b x c).piece ∷ []) ((p b x c).others ++ (p b x c).behind));
            low = λ q m. elim (Contains-append_cases (p b x c).before ((p b x c).piece ∷ []) q m) [
              | inl one ↦ let a = before_low q one in (omega (arith, a, lt), omega (arith, a, lt))
              | inr two ↦ elim (cases (p b x c).piece q [] two) [
                | inl same ↦
                    let key : rank q.key ≡ rank x.leaf.lo = ap (λ (z : TwigPiece). rank z.key) same ∙ (p b x c).key in
                    let ends : piece_end q ≡ rank q.key + 1 = ap (λ (z : TwigPiece). piece_end z) same ∙ (ap (part_end (rank (p b x c).piece.key)) (p b x c).part ∙ ap (λ (z : TwigPiece). rank z.key + 1) (sym same)) in
                    (omega (arith, key, lt), omega (arith, key, ends, lt))
                | inr nothing ↦ absurd (none q nothing)
              ]
            ];
            within = λ q m. let o = (other q m).0 in let begins = c.around.begins in (omega (arith, o, begins), o.1);
            pointers = λ q m. (other q m).1;
            room = same_room (Some l) is ((p b x c).before ++ ((p b x c).piece ∷ []))
                (same_join (p b x c).before (p b x c).before (left_pointer (Some l)) ((p b x c).piece ∷ []) (same_all (p b x c).before) (pointer_room l));
          }

  behind_high : (q : TwigPiece) → Contains (p b x c).behind q → rank (last_of x).hi ≤ rank q.key
  behind_high q at = follow_above (rank (last_of x).hi) (rank x.twig.hi) (p b x c).behind (behind_follow b x c) q at

  -- ---- without the pointers that go

  module _ (hs : List (Name × Ask)) (only : OnlyTurnedGo b x hs) (s : Kept) (k : AreKept b x s) where
    abbrev sp : Split s
    sp = split s k

    abbrev keep : TwigPiece → Bool
    keep q = not (goes_by hs q)

    abbrev left : List TwigPiece
    left = filter keep sp.middle

    stays : (q : TwigPiece) → Contains (twig_pieces x.twig) q → in_turned b (rank q.key) ≡ false → keep q ≡ true
    stays q at off = by_test (goes_by hs q) refl
      where
        by_test : (t : Bool) → goes_by hs q ≡ t → not (goes_by hs q) ≡ true
        by_test true goes = absurd (let on = only q at goes in let bad : true ≡ false = sym on ∙ off in cc)
        by_test false goes = ap not goes

    front_off : (q : TwigPiece) → Contains sp.front q → in_turned b (rank q.key) ≡ false
    front_off q at = let l = (sp.low q at).0 in is_off fb (end_after b) (rank q.key) (λ a z. omega (arith, a, l))

    behind_off : (q : TwigPiece) → Contains (p b x c).behind q → in_turned b (rank q.key) ≡ false
    behind_off q at = let h = behind_high q at in let high = c.around.high in is_off fb (end_after b) (rank q.key) (λ a z. omega (arith, z, h, high))

    among : (q : TwigPiece) → Contains sp.front q ⊎ Contains (p b x c).behind q → Contains (twig_pieces x.twig) q
    among q m = subst (λ zs. Contains zs q) (sym sp.is) (elim m [
      | inl one ↦ Contains-append_left sp.front (sp.middle ++ (p b x c).behind) q one
      | inr two ↦ Contains-append_right sp.front (sp.middle ++ (p b x c).behind) q (Contains-append_right sp.middle (p b x c).behind q two)
    ])

    left_are : without_gone hs (twig_pieces x.twig) ≡ sp.front ++ (left ++ (p b x c).behind)
    left_are =
        ap (filter keep) sp.is
        ∙ (filter-append keep sp.front (sp.middle ++ (p b x c).behind)
        ∙ ((λ i. filter_all keep sp.front (λ q at. stays q (among q (inl at)) (front_off q at)) i ++ filter-append keep sp.middle (p b x c).behind i)
        ∙ ap (λ zs. sp.front ++ (left ++ zs)) (filter_all keep (p b x c).behind (λ q at. stays q (among q (inr at)) (behind_off q at)))))

    abbrev inside : TwigPiece → Bool
    inside q = in_turned b (rank q.key)

    many : pointers_left b x hs ≡ length left
    many =
        ap (λ zs. length (filter inside zs)) left_are
        ∙ (ap length (filter-append inside sp.front (left ++ (p b x c).behind))
        ∙ ((λ i. length (filter_none inside sp.front front_off i ++ filter-append inside left (p b x c).behind i))
        ∙ ((λ i. length (filter_all inside left (λ q at. let w = sp.within q (kept_member keep sp.middle q at) in is_on fb (end_after b) (rank q.key) w.0 w.1) i ++ filter_none inside (p b x c).behind behind_off i))
        ∙ ap length (append-nil left))))

    at_front : place fb (without_gone hs (twig_pieces x.twig)) ≡ length sp.front
    at_front = ap (place fb) left_are ∙ place_at fb sp.front (left ++ (p b x c).behind) (λ q at. (sp.low q at).0) (λ q at. elim (Contains-append_cases left (p b x c).behind q at) [
      | inl one ↦ (sp.within q (kept_member keep sp.middle q one)).0
      | inr two ↦
          let h = behind_high q two in
          let begins = c.around.begins in
          let f = follow_within 1 (rank x.leaf.lo) (rank (last_of x).hi) (leaves_of x) x.leaf c.beside (here x.leaf x.more) in
          let up = f.to in
          omega (arith, h, begins, up)
    ])

    module _ (first : Key) (g : IsTurningBody b first) (e : Edits) where
      abbrev ts : List TwigPiece
      ts = told_extent b e

      after_are : pieces_after (Some b) e (node_of x.twig) hs ≡ sp.front ++ (ts ++ (left ++ (p b x c).behind))
      after_are =
          after_of b first g e x.twig c.pieces (in_twig b x c) c.no_holes hs
          ∙ ((λ i. take (at_front i) (left_are i) ++ (ts ++ drop (at_front i) (left_are i)))
          ∙ (λ i. take-append_seam sp.front (left ++ (p b x c).behind) i ++ (ts ++ drop-append_seam sp.front (left ++ (p b x c).behind) i)))

      told_are : told_pieces b e x s ≡ ((p b x c).before ++ left_pointer s.left) ++ (ts ++ (pointer_to s.right ++ (p b x c).behind))
      told_are = over b x c (left_pointer s.left ++ (ts ++ pointer_to s.right)) ∙ regroup (p b x c).before (left_pointer s.left) ts (pointer_to s.right) (p b x c).behind
        where
          regroup : (us vs ws ys zs : List TwigPiece) → us ++ ((vs ++ (ws ++ ys)) ++ zs) ≡ (us ++ vs) ++ (ws ++ (ys ++ zs))
          regroup us vs ws ys zs = simp append_assoc

      -- whatever pointers are left there
      room_by : (lefts : List TwigPiece) → ((q : TwigPiece) → Contains lefts q → IsPointer q) → (more : ℕ) → length (given_cells s.right) ≤ length lefts + more
          → twig_bytes (told_pieces b e x s) ≤ twig_bytes (sp.front ++ (ts ++ (lefts ++ (p b x c).behind))) + 46 * more
      room_by lefts are more few =
          let front = sp.front in
          let ours = (p b x c).before ++ left_pointer s.left in
          let rs = pointer_to s.right ++ (p b x c).behind in
          let ls = lefts ++ (p b x c).behind in
          let d1 = last_end None front in
          let d2 = last_end d1 ts in
          let room = sp.room None in
          let a1 = ap twig_bytes told_are ∙ bytes_join None ours (ts ++ rs) in
          let a2 : bytes_behind (last_end None ours) (ts ++ rs) ≡ bytes_behind d1 ts + bytes_behind d2 rs = ap (λ (o : Option ℕ). bytes_behind o (ts ++ rs)) room.1 ∙ bytes_join d1 ts rs in
          let z1 = bytes_join None front (ts ++ ls) in
          let z2 = bytes_join d1 ts ls in
          let begins : fb ≤ end_after b = omega arith in
          let low1 : IsLow d1 (end_after b) = low_end (end_after b) front None (λ q at. let l = (sp.low q at).1 in omega (arith, l, begins)) tt in
          let low2 : IsLow d2 (end_after b) = low_end (end_after b) ts d1 (λ q at. (piece_within fb (end_after b) ts q (told_follow b first g e) at).1) low1 in
          let r = rights_bytes (end_after b) d2 s.right lefts (p b x c).behind more low2 are
          (λ l is q at. let h = behind_high q at in let w = right_low b x c s k l is in omega (arith, h, w)) few in
          let same = room.0 in
          omega (arith, a1, a2, z1, z2, r, same)

      pub asked_room : (more : ℕ) → length (given_cells s.right) ≤ pointers_left b x hs + more → twig_bytes (told_pieces b e x s) ≤ twig_bytes (pieces_after (Some b) e (node_of x.twig) hs) + 46 * more
      asked_room more few =
          let n = many in
          let r = room_by left (λ q at. sp.pointers q (kept_member keep sp.middle q at)) more (omega (arith, few, n)) in
          let same = ap twig_bytes after_are in
          omega (arith, r, same)

      -- ---- without those that point to leaves which begin there

      abbrev stay : TwigPiece → Bool
      stay q = not (points_there b q)

      pointed : (q : TwigPiece) → points_there b q ≡ (in_turned b (rank q.key) && is_pointer q.part)
      pointed q = ap (λ (r : ℕ × ℕ). is_between r.0 r.1 (rank q.key) && is_pointer q.part) (coming_is b first g)

      stays_off : (q : TwigPiece) → in_turned b (rank q.key) ≡ false → stay q ≡ true
      stays_off q off = ap not (pointed q ∙ ap (λ (v : Bool). v && is_pointer q.part) off)

      goes_on : (q : TwigPiece) → Contains left q → stay q ≡ false
      goes_on q at =
          let m = kept_member keep sp.middle q at in
          let w = sp.within q m in
          let on = is_on fb (end_after b) (rank q.key) w.0 w.1 in
          let (i, is) = sp.pointers q m in
          ap not (pointed q ∙ (λ j. on j && is_pointer (is j)))

      turned_are : without_turned b (pieces_after (Some b) e (node_of x.twig) hs) ≡ sp.front ++ (ts ++ (p b x c).behind)
      turned_are =
          ap (filter stay) after_are
          ∙ (filter-append stay sp.front (ts ++ (left ++ (p b x c).behind))
          ∙ ((λ i. filter_all stay sp.front (λ q at. stays_off q (front_off q at)) i ++ filter-append stay ts (left ++ (p b x c).behind) i)
          ∙ ((λ i. sp.front ++ (filter_all stay ts (λ q at. told_stays b e q at) i ++ filter-append stay left (p b x c).behind i))
          ∙ (λ i. sp.front ++ (ts ++ (filter_none stay left goes_on i ++ filter_all stay (p b x c).behind (λ q at. stays_off q (behind_off q at)) i))))))

      pub turned_room : twig_bytes (told_pieces b e x s) ≤ twig_bytes (without_turned b (pieces_after (Some b) e (node_of x.twig) hs)) + 46 * length (given_cells s.right)
      turned_room =
          let r = room_by [] (λ q at. absurd (none q at)) (length (given_cells s.right)) (omega arith) in
          let same = ap twig_bytes turned_are in
          omega (arith, r, same)
