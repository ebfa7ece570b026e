-- An extent over leaves that stand one beside the other: the pieces, their units, and what they name.
use Rattle.std.proofs.Common.{map, ◌≡◌, ◌≢◌, ◌↔◌, ◌⊎◌, inl, inr, ℕ, suc, ◌+◌, ◌<◌, ◌≤◌, Bool, true, false, List, []}
use Rattle.std.proofs.Common.{◌∷◌, ◌++◌, length, take, drop, refl, sym, ap, subst, ◌∙◌, arith}
use Rattle.std.specs.Prelude.{Contains, Option, None, Some, ◌==◌, if◌then◌else◌}
use Rattle.std.proofs.Math.Seq.{drop-append_seam, take-append_seam}
use Rattle.std.proofs.lemmas.Bool.{cases_lt, eqb-true, eqb-false, le-ltb, lt-ltb}
use Rattle.std.proofs.lemmas.List.{append_assoc, append-nil, length-append}
use Rattle.std.proofs.lemmas.List.Elements.{Contains-append_cases}
use Rattle.r4_base.specs.Cell.{item_end, item_units}
use Rattle.r4_base.specs.Key.{rank}
use Rattle.r4_base.specs.Node.{Item}
use Rattle.r4_base.specs.Tree.{Name}
use Rattle.r4_work.specs.r4_branch.Pieces.{AreTwigPieces, Follow, bytes_behind, item_pieces, last_end, names_of, next_of}
use Rattle.r4_work.specs.r4_branch.Pieces.{part_bytes, part_end, part_names, part_units, piece_end, twig_bytes, units_of}
use Rattle.r4_work.specs.r4_branch.declared.piece.TwigPiece.{TwigPiece}
use Rattle.r4_work.proofs.r4_branch.ItemPieces.{bytes_of_item, follow_item, names_of_item, next_of_item, units_append}
use Rattle.r4_work.proofs.r4_branch.ItemPieces.{units_of_item}
use Rattle.r4_work.specs.r4_cell.Seen.{CellSeen, node_of}
use Rattle.r4_work.specs.r4_graft.Splices.{IsBorder, parted, parted_piece, place}
use Rattle.r4_work.proofs.r4_graft.Joined.{bytes_join, bytes_most, end_of, follow_join, follow_parts, names_join, next_join}
use Rattle.r4_work.proofs.r4_graft.Joined.{spliced_bytes}
use Rattle.r4_work.proofs.r4_graft.Placed.{first_member, first_or_later, follow_above, has_end, later_member, place_none}
use Rattle.r4_work.proofs.r4_graft.Placed.{place_some}
use Rattle.r4_work.proofs.r4_graft.SplicedNames.{spliced_names}
use Rattle.r4_work.specs.r4_leaf.Units.{put_units}
use Rattle.r4_work.proofs.r4_leaf.Rising.{Rise, put_run, rise_lower, rise_wider}
use Rattle.r4_work.proofs.r4_patch.Members.{cases, here, later, none}
use Rattle.r4_work.specs.r4_path.Steps.{Follow as FollowCells, name_of}
use Rattle.r4_work.specs.r4_path.TwigPieces.{ArePiecesOf, twig_pieces}
use Rattle.r4_work.proofs.r4_path.Rising.{follow_within}
use Rattle.r4_work.specs.r4_edit.CutBlocks.{parted_twice}
use Rattle.r4_work.specs.r4_edit.Extents.{IsGivenExtent, given_cells, item_blocks, pointer_to}
use Rattle.r4_work.proofs.r4_edit.CutNames.{units_rise}
use Rattle.r4_work.proofs.r4_edit.CutParts.{follow_from}
use Rattle.r4_work.proofs.r4_edit.OverPieces.{MayStandBehind, item_some, pointer_bytes, pointer_follows, pointer_names}
use Rattle.r4_work.proofs.r4_edit.OverUnits.{pointer_none}
use Rattle.r4_work.proofs.r4_edit.Spread.{extent_names}
use Rattle.r4_extent_edit.specs.Between.{pieces_over, put_between}
use Rattle.r4_extent_edit.specs.Turning.{AreAround, last_leaf, turned_pieces}
use Rattle.r4_extent_edit.proofs.LeafPointers.{HasPointers, find_pointers}
use Rattle.r4_extent_edit.proofs.SpanBorders.{follow_within as piece_within}

-- ---- places and parting

place_at : (k hi : ℕ) (xs ys : List TwigPiece) → ((p : TwigPiece) → Contains xs p → rank p.key < k)
    → k ≤ next_of hi ys → place k (xs ++ ys) ≡ length xs
place_at k hi [] [] low high = refl
place_at k hi [] (y ∷ ys) low high = place_none k y ys high
place_at k hi (x ∷ xs) ys low high =
    place_some k x (xs ++ ys) (low x (first_member x xs))
    ∙ ap suc (place_at k hi xs ys (λ p at. low p (later_member x xs p at)) high)

-- the key lies in none of the pieces
abbrev IsBeside : ℕ → List TwigPiece → Type 0
IsBeside k ps = (p : TwigPiece) → Contains ps p → rank p.key < k → k < piece_end p → ⊥

whole_piece : (k : ℕ) (p : TwigPiece) → (rank p.key < k → k < piece_end p → ⊥) → parted_piece k p ≡ p ∷ []
whole_piece k p never = elim (cases_lt (rank p.key) k) [
  | inl lt ↦ elim (cases_lt k (piece_end p)) [
    | inl high ↦ absurd (never lt high)
    | inr ge ↦ rw (lt-ltb (rank p.key) k lt, le-ltb k (piece_end p) ge) refl
  ]
  | inr ge ↦ rw (le-ltb (rank p.key) k ge) refl
]

parted_same : (k : ℕ) (ps : List TwigPiece) → IsBeside k ps → parted k ps ≡ ps
parted_same k [] never = refl
parted_same k (p ∷ ps) never =
    (λ i. whole_piece k p (never p (first_member p ps)) i ++ parted_same k ps (λ q at. never q
    (later_member p ps q at)) i)

-- ---- leaves that stand one beside the other

pub last_low : (lo end : ℕ) (leaf : CellSeen) (more : List CellSeen) (c : CellSeen)
    → FollowCells 1 lo end (leaf ∷ more) → Contains (leaf ∷ more) c
    → rank c.lo ≤ rank (last_leaf leaf more).lo
last_low lo end leaf [] c f at = elim (cases leaf c [] at) [
  | inl is ↦ let e : rank c.lo ≡ rank leaf.lo = ap (λ (x : CellSeen). rank x.lo) is in omega (arith, e)
  | inr none_is ↦ absurd (none c none_is)
]
last_low lo end leaf (d ∷ ds) c f at = elim (cases leaf c (d ∷ ds) at) [
  | inl is ↦
      let e : rank c.lo ≡ rank leaf.lo = ap (λ (x : CellSeen). rank x.lo) is in
      let r = last_low (rank leaf.hi) end d ds d f.3 (here d ds) in
      let a = f.1 in
      let lt = f.2 in
      let next = f.3.1 in
      omega (arith, e, r, a, lt, next)
  | inr more ↦ last_low (rank leaf.hi) end d ds c f.3 more
]

pub last_in : (leaf : CellSeen) (more : List CellSeen) → Contains (leaf ∷ more) (last_leaf leaf more)
last_in leaf [] = here leaf []
last_in leaf (d ∷ ds) = later leaf (last_leaf d ds) (d ∷ ds) (last_in d ds)

module _ (twig : CellSeen) (are : ArePiecesOf twig (twig_pieces twig)) (leaf : CellSeen) (more : List CellSeen)
    (beside : FollowCells 1 (rank leaf.lo) (rank (last_leaf leaf more).hi) (leaf ∷ more))
    (named : (c : CellSeen) → Contains (leaf ∷ more) c → Contains (node_of twig).names (name_of c)) where
  abbrev pub ps : List TwigPiece
  ps = twig_pieces twig

  abbrev pub last : CellSeen
  last = last_leaf leaf more

  pub h : HasPointers (rank twig.hi) ps leaf more (rank last.hi)
  h = find_pointers (rank twig.lo) (rank twig.hi) (rank last.hi) ps leaf more are.pieces.follow beside
      (λ c at. subst (λ ns. Contains ns (name_of c)) (sym are.names) (named c at))

  parts : Follow (rank twig.lo) (end_of (rank twig.lo) h.before) h.before
      × Follow (end_of (rank twig.lo) h.before) (rank twig.hi) (h.piece ∷ (h.others ++ h.behind))
  parts = follow_parts (rank twig.lo) (rank twig.hi) h.before (h.piece ∷ (h.others ++ h.behind)) (subst (Follow
      (rank twig.lo) (rank twig.hi)) h.is are.pieces.follow)

  pub piece_ends : piece_end h.piece ≡ rank h.piece.key + 1
  piece_ends = ap (part_end (rank h.piece.key)) h.part

  others_parts : Follow (piece_end h.piece) (end_of (piece_end h.piece) h.others) h.others
      × Follow (end_of (piece_end h.piece) h.others) (rank twig.hi) h.behind
  others_parts = follow_parts (piece_end h.piece) (rank twig.hi) h.others h.behind parts.1.2

  -- what is behind the pointers begins where the last leaf ends
  pub rest : Follow (rank last.hi) (rank twig.hi) h.behind
  rest = let n = h.next in follow_from (end_of (piece_end h.piece) h.others) (rank last.hi) (rank twig.hi) h.behind
      (omega (arith, n)) others_parts.1

  -- what is before them ends where the first leaf begins
  pub front : Follow (rank twig.lo) (rank leaf.lo) h.before
  front =
      let low = parts.1.0 in
      let key = h.key in
      widened (rank twig.lo) (end_of (rank twig.lo) h.before) (rank leaf.lo) h.before (omega (arith, low, key)) parts.0
    where
      widened : (a b c : ℕ) (xs : List TwigPiece) → b ≤ c → Follow a b xs → Follow a c xs
      widened a b c [] le f = omega (arith, le, f)
      widened a b c (x ∷ xs) le f = (f.0, f.1, widened (piece_end x) b c xs le f.2)

  front_low : (p : TwigPiece) → Contains h.before p → piece_end p ≤ rank leaf.lo
  front_low p at = (piece_within (rank twig.lo) (rank leaf.lo) h.before p front at).1

  front_key : (p : TwigPiece) → Contains h.before p → rank p.key < rank leaf.lo
  front_key p at = let w = sound_in (rank twig.lo) (end_of (rank twig.lo) h.before) h.before p parts.0 at in
      let e = front_low p at in omega (arith, w, e)
    where
      sound_in : (a b : ℕ) (xs : List TwigPiece) (p : TwigPiece) → Follow a b xs → Contains xs p
          → rank p.key < piece_end p
      sound_in a b [] p f at = absurd (none p at)
      sound_in a b (x ∷ xs) p f at = elim (first_or_later x xs p at) [
        | inl is ↦ subst (λ (y : TwigPiece). rank y.key < piece_end y) is (has_end x f.1)
        | inr rest_at ↦ sound_in (piece_end x) b xs p f.2 rest_at
      ]

  module _ (from to : ℕ) (around : AreAround leaf more from to) where
    -- both keys are beside all pieces
    beside_key : (k : ℕ) → rank leaf.lo ≤ k → k ≤ rank last.hi → IsBeside k ps
    beside_key k low high p at below above = elim (Contains-append_cases h.before (h.piece ∷ (h.others
        ++ h.behind)) p (subst (λ qs. Contains qs p) h.is at)) [
          | inl left ↦ let e = front_low p left in omega (arith, e, low, above)
          | inr more_at ↦ elim (first_or_later h.piece (h.others ++ h.behind) p more_at) [
            | inl is ↦
                let e = piece_ends in
                let same : piece_end h.piece ≡ piece_end p = ap (λ (x : TwigPiece). piece_end x) is in
                let key : rank h.piece.key ≡ rank p.key = ap (λ (x : TwigPiece). rank x.key) is in
                omega (arith, e, same, key, below, above)
            | inr rest_at ↦ elim (Contains-append_cases h.others h.behind p rest_at) [
              | inl mine ↦ let e = (h.each p mine).1.1.1 in omega (arith, e, below, above)
              | inr right ↦ let e = follow_above (rank last.hi) (rank twig.hi) h.behind rest p right in
                  omega (arith, e, high, below)
            ]
          ]
        ]

    pub turn_border : IsBorder from ps
    turn_border p at low high = let a = around.low in let b = from_high in absurd (beside_key from a b p at low high)
      where
        from_high : from ≤ rank last.hi
        from_high =
            let w = last_low (rank leaf.lo) (rank last.hi) leaf more leaf beside (here leaf more) in
            let w2 = follow_within 1 (rank leaf.lo) (rank last.hi) (leaf ∷ more) leaf beside (here leaf more) in
            let up = w2.to in
            let begins = around.begins in
            omega (arith, up, begins)

    from_in : (rank leaf.lo ≤ from) × (from ≤ rank last.hi)
    from_in =
        let w2 = follow_within 1 (rank leaf.lo) (rank last.hi) (leaf ∷ more) leaf beside (here leaf more) in
        let up = w2.to in
        let begins = around.begins in
        (around.low, omega (arith, up, begins))

    to_in : (rank leaf.lo ≤ to) × (to ≤ rank last.hi)
    to_in =
        let w = last_low (rank leaf.lo) (rank last.hi) leaf more leaf beside (here leaf more) in
        let ends = around.ends in
        (omega (arith, w, ends), around.high)

    pub turn_end_border : IsBorder to ps
    turn_end_border p at low high = absurd (beside_key to to_in.0 to_in.1 p at low high)

    pp_is : parted_twice from to ps ≡ ps
    pp_is = ap (parted to) (parted_same from ps (beside_key from from_in.0 from_in.1))
        ∙ parted_same to ps (beside_key to to_in.0 to_in.1)

    -- the first pointer, where it stays
    abbrev pub kept : List TwigPiece
    kept = if from == rank leaf.lo then [] else h.piece ∷ []

    pointers_low : (p : TwigPiece) → Contains (h.before ++ (h.piece ∷ h.others)) p → rank p.key < to
    pointers_low p at =
        let lows = around.low in
        let ends = around.ends in
        let w = last_low (rank leaf.lo) (rank last.hi) leaf more leaf beside (here leaf more) in
        elim (Contains-append_cases h.before (h.piece ∷ h.others) p at) [
          | inl left ↦ let e = front_key p left in omega (arith, e, w, ends)
          | inr more_at ↦ elim (first_or_later h.piece h.others p more_at) [
            | inl is ↦ let key : rank h.piece.key ≡ rank p.key = ap (λ (x : TwigPiece). rank x.key) is in
                let k = h.key in omega (arith, key, k, w, ends)
            | inr mine ↦
                let e = h.each p mine in
                let key = e.1.1.0 in
                let l = last_low (rank leaf.lo) (rank last.hi) leaf more e.0 beside (later leaf e.0 more e.1.0) in
                omega (arith, key, l, ends)
          ]
        ]

    behind_is : drop (place to ps) ps ≡ h.behind
    behind_is =
        let all : ps ≡ (h.before ++ (h.piece ∷ h.others)) ++ h.behind = h.is
        ∙ sym (append_assoc h.before (h.piece ∷ h.others) h.behind) in
        let n = h.next in
        let high = around.high in
        let at : place to ps ≡ length (h.before ++ (h.piece ∷ h.others)) = ap (place to) all
        ∙ place_at to (rank twig.hi) (h.before ++ (h.piece ∷ h.others)) h.behind pointers_low (omega
        (arith, n, high)) in
        (λ i. drop (at i) (all i)) ∙ drop-append_seam (h.before ++ (h.piece ∷ h.others)) h.behind

    before_is : take (place from ps) ps ≡ h.before ++ kept
    before_is = by_test (from == rank leaf.lo) refl
      where
        by_test : (b : Bool) → b ≡ (from == rank leaf.lo) → take (place from ps) ps
            ≡ h.before ++ (if b then [] else h.piece ∷ [])
        by_test true same =
            let e : from ≡ rank leaf.lo = eqb-true from (rank leaf.lo) (sym same) in
            let key = h.key in
            let at : place from ps ≡ length h.before = ap (place from) h.is
            ∙ place_at from (rank twig.hi) h.before (h.piece ∷ (h.others ++ h.behind))
            (λ p in_p. let l = front_key p in_p in omega (arith, l, e)) (omega (arith, key, e)) in
            (λ i. take (at i) (h.is i)) ∙ (take-append_seam h.before (h.piece ∷ (h.others ++ h.behind))
            ∙ sym (append-nil h.before))
        by_test false same =
            let other = eqb-false from (rank leaf.lo) (sym same) in
            let low = around.low in
            let begins = around.begins in
            let all : ps ≡ (h.before ++ (h.piece ∷ [])) ++ (h.others ++ h.behind) = h.is
            ∙ sym (append_assoc h.before (h.piece ∷ []) (h.others ++ h.behind)) in
            let next : next_of (rank twig.hi) (h.others ++ h.behind)
            ≡ rank leaf.hi = next_join (rank twig.hi) h.others h.behind
            ∙ (ap (λ (k : ℕ). next_of k h.others) h.next ∙ h.begins) in
            let at : place from ps ≡ length (h.before ++ (h.piece ∷ [])) = ap (place from) all
            ∙ place_at from (rank twig.hi) (h.before ++ (h.piece ∷ [])) (h.others ++ h.behind)
            (λ p in_p. front_from p in_p other low) (omega (arith, next, begins)) in
            (λ i. take (at i) (all i)) ∙ take-append_seam (h.before ++ (h.piece ∷ [])) (h.others ++ h.behind)
          where
            front_from : (p : TwigPiece) → Contains (h.before ++ (h.piece ∷ [])) p → (from ≢ rank leaf.lo)
                → rank leaf.lo ≤ from → rank p.key < from
            front_from p in_p other low = elim (Contains-append_cases h.before (h.piece ∷ []) p in_p) [
              | inl left ↦ let l = front_key p left in omega (arith, l, low)
              | inr mine ↦ elim (first_or_later h.piece [] p mine) [
                | inl is ↦ let key : rank h.piece.key ≡ rank p.key = ap (λ (x : TwigPiece). rank x.key) is in
                    let k = h.key in omega (arith, key, k, other, low)
                | inr none_is ↦ absurd (none p none_is)
              ]
            ]

    pub over_is : (others : List TwigPiece) → pieces_over from to others twig
        ≡ h.before ++ ((kept ++ others) ++ h.behind)
    over_is others =
        (λ i. put_between from to others (pp_is i))
        ∙ ((λ i. before_is i ++ (others ++ behind_is i))
        ∙ (append_assoc h.before kept (others ++ h.behind) ∙ ap (λ xs. h.before ++ xs) (sym
        (append_assoc kept others h.behind))))

-- ---- the extent

module _ (twig : CellSeen) (are : ArePiecesOf twig (twig_pieces twig)) (leaf : CellSeen) (more : List CellSeen)
    (beside : FollowCells 1 (rank leaf.lo) (rank (last_leaf leaf more).hi) (leaf ∷ more))
    (named : (c : CellSeen) → Contains (leaf ∷ more) c → Contains (node_of twig).names (name_of c))
    (it : Item) (right : Option CellSeen) (given : IsGivenExtent it) (around : AreAround leaf more (rank it.key)
    (item_end it)) where
  abbrev pub p : HasPointers (rank twig.hi) (twig_pieces twig) leaf more (rank (last_leaf leaf more).hi)
  p = h twig are leaf more beside named

  abbrev pub end : ℕ
  end = rank (last_leaf leaf more).hi

  abbrev pub stays : List TwigPiece
  stays = kept twig are leaf more beside named (rank it.key) (item_end it) around

  abbrev pub comes : List TwigPiece
  comes = stays ++ (item_pieces it ++ pointer_to right)

  pub turned_is : turned_pieces it right twig ≡ p.before ++ (comes ++ p.behind)
  turned_is = over_is twig are leaf more beside named (rank it.key) (item_end it) around (item_pieces it
      ++ pointer_to right)

  kept_bytes : (b : Bool) → twig_bytes (if b then [] else p.piece ∷ []) ≤ 54
  unfolding bytes_behind
  kept_bytes true = omega arith
  kept_bytes false = let e = ap (part_bytes None (rank p.piece.key)) p.part in omega (arith, e)

  gone_is : p.before ++ ((p.piece ∷ p.others) ++ p.behind) ≡ twig_pieces twig
  gone_is = sym p.is

  pub turned_bytes : twig_bytes (turned_pieces it right twig) ≤ 4068 + 4300
  turned_bytes =
      let is = ap twig_bytes turned_is in
      let all = spliced_bytes p.before (p.piece ∷ p.others) p.behind comes in
      let were = ap twig_bytes gone_is in
      let fits = are.fits in
      let a = bytes_join None stays (item_pieces it ++ pointer_to right) in
      let b = bytes_join (last_end None stays) (item_pieces it) (pointer_to right) in
      let c = bytes_most (last_end None stays) (item_pieces it) in
      let d = bytes_most (last_end (last_end None stays) (item_pieces it)) (pointer_to right) in
      let e = bytes_of_item it given.sound in
      let f = pointer_bytes right in
      let g = kept_bytes (rank it.key == rank leaf.lo) in
      let short = given.short in
      omega (arith, is, all, were, fits, a, b, c, d, e, f, g, short)

  module _ (behind : MayStandBehind it (last_leaf leaf more) right) where
    from : rank leaf.lo ≤ rank it.key
    from = around.low

    piece_sound : Follow (rank leaf.lo) (rank leaf.lo + 1) (p.piece ∷ [])
    piece_sound =
        let key = p.key in
        let e = piece_ends twig are leaf more beside named in
        let f = (follow_parts (rank twig.lo) (rank twig.hi) p.before (p.piece ∷ (p.others ++ p.behind)) (subst (Follow
        (rank twig.lo) (rank twig.hi)) p.is are.pieces.follow)).1 in
        (omega (arith, key), f.1, omega (arith, key, e))

    kept_follows : (b : Bool) → b ≡ (rank it.key == rank leaf.lo)
        → Follow (rank leaf.lo) (rank it.key) (if b then [] else p.piece ∷ [])
    kept_follows true same = from
    kept_follows false same =
        let other = eqb-false (rank it.key) (rank leaf.lo) (sym same) in
        let low = from in
        let s = piece_sound in
        (s.0, s.1, let e = s.2 in omega (arith, e, other, low))

    comes_follow : Follow (rank leaf.lo) end comes
    comes_follow =
        follow_join (rank leaf.lo) (rank it.key) end stays (item_pieces it ++ pointer_to right) (kept_follows
        (rank it.key == rank leaf.lo) refl)
        (follow_join (rank it.key) (item_end it) end (item_pieces it) (pointer_to right) (follow_item it given.sound)
        (pointer_follows it (last_leaf leaf more) right behind))

    -- the first of what comes has the first leaf's first key
    first_comes : (z : ℕ) → next_of z comes ≡ rank leaf.lo
    first_comes z = by_test (rank it.key == rank leaf.lo) refl
      where
        by_test : (b : Bool) → b ≡ (rank it.key == rank leaf.lo)
            → next_of z ((if b then [] else p.piece ∷ []) ++ (item_pieces it ++ pointer_to right)) ≡ rank leaf.lo
        by_test true same = next_join z (item_pieces it) (pointer_to right)
            ∙ (next_of_item it given.sound (next_of z (pointer_to right))
            ∙ eqb-true (rank it.key) (rank leaf.lo) (sym same))
        by_test false same = p.key

    pub turned_twigs : AreTwigPieces (rank twig.lo) (rank twig.hi) (turned_pieces it right twig)
    turned_twigs =
        let before = length-append p.before (comes ++ p.behind) in
        let rest_long = length-append comes p.behind in
        let mine = item_some it given in
        let whole = length-append stays (item_pieces it ++ pointer_to right) in
        let both = length-append (item_pieces it) (pointer_to right) in
        subst (AreTwigPieces (rank twig.lo) (rank twig.hi)) (sym turned_is) (record {
          some = omega (arith, before, rest_long, mine, whole, both);
          first = next_join (rank twig.hi) p.before (comes ++ p.behind)
              ∙ (ap (λ (n : ℕ). next_of n p.before) (next_join (rank twig.hi) comes p.behind
              ∙ (first_comes (next_of (rank twig.hi) p.behind) ∙ sym p.key))
              ∙ (sym (next_join (rank twig.hi) p.before (p.piece ∷ (p.others ++ p.behind)))
              ∙ (ap (next_of (rank twig.hi)) (sym p.is) ∙ are.pieces.first)));
          follow = follow_join (rank twig.lo) (rank leaf.lo) (rank twig.hi) p.before (comes ++ p.behind)
              (front twig are leaf more beside named)
              (follow_join (rank leaf.lo) end (rank twig.hi) comes p.behind comes_follow
              (rest twig are leaf more beside named));
        })

    -- ---- units

    kept_none : (b : Bool) → units_of (if b then [] else p.piece ∷ []) ≡ []
    unfolding units_of
    kept_none true = refl
    kept_none false = ap (λ t. part_units (rank p.piece.key) t ++ []) p.part

    gone_none : units_of (p.piece ∷ p.others) ≡ []
    unfolding units_of
    gone_none = (λ i. part_units (rank p.piece.key) (p.part i) ++ p.units i)

    come_units : units_of comes ≡ item_units it
    come_units =
        units_append stays (item_pieces it ++ pointer_to right)
        ∙ ((λ i. kept_none (rank it.key == rank leaf.lo) i ++ units_append (item_pieces it) (pointer_to right) i)
        ∙ ((λ i. units_of_item it given.sound i ++ pointer_none right i) ∙ append-nil (item_units it)))

    were_units : (node_of twig).units ≡ units_of p.before ++ units_of p.behind
    were_units =
        sym are.units
        ∙ (ap units_of p.is
        ∙ (units_append p.before ((p.piece ∷ p.others) ++ p.behind)
        ∙ ap (λ us. units_of p.before ++ us) (units_append (p.piece ∷ p.others) p.behind
        ∙ ap (λ us. us ++ units_of p.behind) gone_none)))

    before_rise : Rise (rank twig.lo) (rank it.key) (units_of p.before)
    before_rise = rise_wider (rank twig.lo) (rank leaf.lo) (rank it.key) (units_of p.before) from
        (units_rise (rank twig.lo) (rank leaf.lo) p.before (front twig are leaf more beside named))

    behind_rise : Rise (item_end it) (rank twig.hi) (units_of p.behind)
    behind_rise = rise_lower end (item_end it) (rank twig.hi) (units_of p.behind) around.high
        (units_rise end (rank twig.hi) p.behind (rest twig are leaf more beside named))

    item_rise : Rise (rank it.key) (item_end it) (item_units it)
    item_rise = subst (Rise (rank it.key) (item_end it)) (units_of_item it given.sound)
        (units_rise (rank it.key) (item_end it) (item_pieces it) (follow_item it given.sound))

    pub turned_units : units_of (turned_pieces it right twig) ≡ put_units (item_units it) (node_of twig).units
    turned_units =
        ap units_of turned_is
        ∙ (units_append p.before (comes ++ p.behind)
        ∙ (ap (λ us. units_of p.before ++ us) (units_append comes p.behind)
        ∙ (ap (λ us. units_of p.before ++ (us ++ units_of p.behind)) come_units
        ∙ (sym (put_run (rank twig.lo) (rank it.key) (item_end it) (rank twig.hi) (item_units it) (units_of p.before)
        (units_of p.behind) before_rise item_rise behind_rise)
        ∙ ap (put_units (item_units it)) (sym were_units)))))

    -- ---- what they name

    begins : next_of end (item_pieces it ++ pointer_to right) ≡ rank it.key
    begins = next_join end (item_pieces it) (pointer_to right)
        ∙ next_of_item it given.sound (next_of end (pointer_to right))

    module _ (left : Option CellSeen) (none_is : rank it.key ≡ rank leaf.lo → left ≡ None)
        (some_is : (rank it.key ≢ rank leaf.lo) → (c : CellSeen) × (left ≡ Some c) × (name_of c
        ≡ record { id = leaf.id; level = 1; lo = rank leaf.lo; hi = rank it.key })) where
      kept_names : (b : Bool) → b ≡ (rank it.key == rank leaf.lo)
          → names_of (next_of end (item_pieces it ++ pointer_to right)) (if b then [] else p.piece ∷ [])
          ≡ map name_of (given_cells left)
      unfolding names_of
      kept_names true same = ap (λ o. map name_of (given_cells o)) (sym (none_is (eqb-true (rank it.key) (rank leaf.lo)
          (sym same))))
      kept_names false same =
          let some = some_is (eqb-false (rank it.key) (rank leaf.lo) (sym same)) in
          (λ i. part_names (p.key i) (begins i) (p.part i) ++ [])
          ∙ ((λ i. sym some.2 i ∷ []) ∙ ap (λ o. map name_of (given_cells o)) (sym some.1))

      -- What comes names what stays of the leaves, and the blocks.
      pub comes_names : names_of (next_of (rank twig.hi) p.behind) comes
          ≡ map name_of (given_cells left) ++ (item_blocks it ++ map name_of (given_cells right))
      comes_names =
          let item : names_of (next_of end (pointer_to right)) (item_pieces it)
          ≡ item_blocks it = names_of_item it given.sound _ ∙ extent_names it _ given.plugin in
          ap (λ (n : ℕ). names_of n comes) p.next
          ∙ (names_join end stays (item_pieces it ++ pointer_to right)
          ∙ ((λ i. kept_names (rank it.key == rank leaf.lo) refl i ++ names_join end (item_pieces it)
          (pointer_to right) i)
          ∙ (λ i. map name_of (given_cells left) ++ (item i ++ pointer_names it (last_leaf leaf more) right behind i))))

    -- The leaves go.
    pub gone_names : names_of (next_of (rank twig.hi) p.behind) (p.piece ∷ p.others) ≡ map name_of (leaf ∷ more)
    unfolding names_of
    gone_names =
        ap (λ (n : ℕ). names_of n (p.piece ∷ p.others)) p.next
        ∙ ((λ i. part_names (p.key i) (p.begins i) (p.part i) ++ p.names i)
        ∙ (λ i. record { id = leaf.id; level = sym beside.0 i; lo = rank leaf.lo; hi = rank leaf.hi }
        ∷ map name_of more))

    pub turned_names : (n : Name) → Contains (names_of (rank twig.hi) (turned_pieces it right twig)) n ↔
        ((Contains (node_of twig).names n × (Contains (map name_of (leaf ∷ more)) n → ⊥))
        ⊎ Contains (names_of (next_of (rank twig.hi) p.behind) comes) n)
    turned_names n =
        subst (λ ns. Contains ns n ↔ ((Contains (node_of twig).names n × (Contains (map name_of (leaf ∷ more)) n → ⊥))
        ⊎ Contains (names_of (next_of (rank twig.hi) p.behind) comes) n)) (ap (names_of (rank twig.hi))
        (sym turned_is))
        (subst (λ gone. Contains (names_of (rank twig.hi) (p.before ++ (comes ++ p.behind))) n
        ↔ ((Contains (node_of twig).names n × (Contains gone n → ⊥))
        ⊎ Contains (names_of (next_of (rank twig.hi) p.behind) comes) n)) gone_names
        (subst (λ ns. Contains (names_of (rank twig.hi) (p.before ++ (comes ++ p.behind))) n ↔ ((Contains ns n
        × (Contains (names_of (next_of (rank twig.hi) p.behind) (p.piece ∷ p.others)) n → ⊥))
        ⊎ Contains (names_of (next_of (rank twig.hi) p.behind) comes) n))
        (ap (names_of (rank twig.hi)) gone_is ∙ are.names)
        (spliced_names (rank twig.hi) (rank twig.lo) (rank twig.hi) p.before (p.piece ∷ p.others) comes p.behind (subst
        (Follow (rank twig.lo) (rank twig.hi)) p.is are.pieces.follow)
        (ap (λ (k : ℕ). names_of k p.before) (first_comes (next_of (rank twig.hi) p.behind) ∙ sym p.key)) n)))
