-- Pieces parted at two keys: those below, between and behind them.
use Rattle.std.proofs.Common.{◌≡◌, inl, inr, ℕ, ◌+◌, ◌-◌, ◌*◌, ◌<◌, ◌≤◌, List, [], ◌∷◌, ◌++◌, take, drop, sym, ap, subst, ◌∙◌, arith}
use Rattle.std.specs.Prelude.{Contains, None}
use Rattle.std.proofs.Math.Seq.{take-add}
use Rattle.std.proofs.lemmas.Bool.{cases_lt}
use Rattle.std.proofs.lemmas.List.{drop-drop, take-append-drop}
use Rattle.std.proofs.lemmas.List.Elements.{Contains-append_cases, Contains-append_left, Contains-append_right}
use Rattle.r4_base.specs.Key.{rank, later}
use Rattle.r4_path.specs.r4_branch.Pieces.{Follow, IsSound, names_of, next_of, part_end, piece_end, twig_bytes, units_of}
use Rattle.r4_path.specs.r4_branch.declared.piece.TwigPiece.{TwigPiece}
use Rattle.r4_path.specs.r4_graft.Splices.{IsBorder, blocks_past, first_blocks, parted, parted_piece, place}
use Rattle.r4_path.proofs.r4_graft.Halves.{later_rank}
use Rattle.r4_path.proofs.r4_graft.Joined.{end_of, follow_parts}
use Rattle.r4_path.proofs.r4_graft.Parted.{IsHalved, halved_or_not, parted_apart, parted_bytes, parted_follow, parted_names, parted_next, parted_units}
use Rattle.r4_path.proofs.r4_graft.Placed.{first_member, first_or_later, later_member, next_above, not_in_none, place_none, place_some, take_below}
use Rattle.r4_edit.specs.CutBlocks.{parted_twice, pieces_behind, pieces_below, pieces_between}

-- ---- a later border of pieces that are parted

module _ (k to : ℕ) (lt : k < to) where
  abbrev Border : TwigPiece → Type 0
  Border p = rank p.key < to → to < piece_end p → (n : ℕ) × (to ≡ rank p.key + 4096 * n)

  module _ (p : TwigPiece) (sound : IsSound p) (first : rank p.key < k → k < piece_end p → (n : ℕ) × (k ≡ rank p.key + 4096 * n)) (second : Border p) where
    halved_border : (h : IsHalved k p) (q : TwigPiece) → Contains (parted_piece k p) q → Border q
    halved_border h q at low high =
        let one : TwigPiece = record p { part = first_blocks h.n p.part } in
        let two : TwigPiece = record { key = later p.key (4096 * h.n); part = blocks_past h.n p.part } in
        elim (first_or_later one (two ∷ []) q (subst (λ ps. Contains ps q) h.parts at)) [
          | inl is ↦
              let e : piece_end one ≡ rank p.key + 4096 * h.n = ap (λ t. part_end (rank p.key) (first_blocks h.n t)) h.is in
              let same : piece_end one ≡ piece_end q = ap (λ (x : TwigPiece). piece_end x) is in
              let m = h.at in
              absurd (omega (arith, e, same, m, high, lt))
          | inr more ↦ elim (first_or_later two [] q more) [
            | inl is ↦
                let c : rank two.key ≡ rank p.key + 4096 * h.n = later_rank p.key (4096 * h.n) in
                let e : piece_end two ≡ rank two.key + 4096 * (h.unit.width - h.n) = ap (λ t. part_end (rank two.key) (blocks_past h.n t)) h.is in
                let w : piece_end p ≡ rank p.key + 4096 * h.unit.width = ap (part_end (rank p.key)) h.is in
                let same_end : piece_end two ≡ piece_end q = ap (λ (x : TwigPiece). piece_end x) is in
                let same_key : rank two.key ≡ rank q.key = ap (λ (x : TwigPiece). rank x.key) is in
                let inside = h.inside in
                let b = second (omega (arith, c, same_key, low)) (omega (arith, c, e, w, same_end, inside, high)) in
                let m = b.1 in
                (b.0 - h.n, omega (arith, m, c, same_key, low))
            | inr none ↦ absurd (not_in_none q none)
          ]
        ]

    piece_border : (q : TwigPiece) → Contains (parted_piece k p) q → Border q
    piece_border q at = elim (halved_or_not k p sound first) [
      | inl h ↦ halved_border h q at
      | inr whole ↦ elim (first_or_later p [] q (subst (λ ps. Contains ps q) whole.0 at)) [
        | inl is ↦ subst Border is second
        | inr none ↦ absurd (not_in_none q none)
      ]
    ]

  pub border_again : (from hi : ℕ) (ps : List TwigPiece) → Follow from hi ps → IsBorder k ps → IsBorder to ps → IsBorder to (parted k ps)
  border_again from hi [] f b c q at = absurd (not_in_none q at)
  border_again from hi (p ∷ ps) f b c q at = elim (Contains-append_cases (parted_piece k p) (parted k ps) q at) [
    | inl mine ↦ piece_border p f.1 (b p (first_member p ps)) (c p (first_member p ps)) q mine
    | inr more ↦ border_again (piece_end p) hi ps f.2 (λ x in_ps. b x (later_member p ps x in_ps)) (λ x in_ps. c x (later_member p ps x in_ps)) q more
  ]

  -- ---- pieces that end before the first key, parted at the second

  abbrev Ends : TwigPiece → Type 0
  Ends p = rank p.key < k → piece_end p ≤ k

  piece_ends : (p : TwigPiece) → IsSound p → (rank p.key < to → to < piece_end p → (n : ℕ) × (to ≡ rank p.key + 4096 * n)) → Ends p → (q : TwigPiece) → Contains (parted_piece to p) q → Ends q
  piece_ends p sound border ends q at low = elim (halved_or_not to p sound border) [
    | inl h ↦
        let w : piece_end p ≡ rank p.key + 4096 * h.unit.width = ap (part_end (rank p.key)) h.is in
        let m = h.at in
        let inside = h.inside in
        let high : k ≤ rank p.key = elim (cases_lt (rank p.key) k) [
          | inl before ↦ let e = ends before in absurd (omega (arith, e, w, m, inside, lt))
          | inr ge ↦ ge
        ] in
        elim (first_or_later (record p { part = first_blocks h.n p.part }) (record { key = later p.key (4096 * h.n); part = blocks_past h.n p.part } ∷ []) q (subst (λ ps. Contains ps q) h.parts at)) [
          | inl is ↦ let same : rank p.key ≡ rank q.key = ap (λ (x : TwigPiece). rank x.key) is in absurd (omega (arith, same, high, low))
          | inr more ↦ elim (first_or_later (record { key = later p.key (4096 * h.n); part = blocks_past h.n p.part }) [] q more) [
            | inl is ↦
                let c = later_rank p.key (4096 * h.n) in
                let same : rank (later p.key (4096 * h.n)) ≡ rank q.key = ap (λ (x : TwigPiece). rank x.key) is in
                absurd (omega (arith, c, same, high, low))
            | inr none ↦ absurd (not_in_none q none)
          ]
        ]
    | inr whole ↦ elim (first_or_later p [] q (subst (λ ps. Contains ps q) whole.0 at)) [
      | inl is ↦ subst Ends is ends low
      | inr none ↦ absurd (not_in_none q none)
    ]
  ]

  pub ends_again : (from hi : ℕ) (ps : List TwigPiece) → Follow from hi ps → IsBorder to ps → ((p : TwigPiece) → Contains ps p → Ends p) → (q : TwigPiece) → Contains (parted to ps) q → Ends q
  ends_again from hi [] f b e q at = absurd (not_in_none q at)
  ends_again from hi (p ∷ ps) f b e q at = elim (Contains-append_cases (parted_piece to p) (parted to ps) q at) [
    | inl mine ↦ piece_ends p f.1 (b p (first_member p ps)) (e p (first_member p ps)) q mine
    | inr more ↦ ends_again (piece_end p) hi ps f.2 (λ x in_ps. b x (later_member p ps x in_ps)) (λ x in_ps. e x (later_member p ps x in_ps)) q more
  ]

-- ---- order

place_more : (k l : ℕ) (ps : List TwigPiece) → k ≤ l → place k ps ≤ place l ps
place_more k l [] le = omega arith
place_more k l (p ∷ ps) le = elim (cases_lt (rank p.key) k) [
  | inl lt ↦
      let a = place_some k p ps lt in
      let b = place_some l p ps (omega (arith, lt, le)) in
      let r = place_more k l ps le in
      omega (arith, a, b, r)
  | inr ge ↦ let a = place_none k p ps ge in omega (arith, a)
]

pub end_below : (from k : ℕ) (ps : List TwigPiece) → from ≤ k
    → ((p : TwigPiece) → Contains ps p → piece_end p ≤ k) → end_of from ps ≤ k
end_below from k [] le each = le
end_below from k (p ∷ ps) le each = end_below (piece_end p) k ps (each p (first_member p ps)) (λ q at. each q (later_member p ps q at))

pub follow_higher : (from mid to : ℕ) (ps : List TwigPiece) → mid ≤ to → Follow from mid ps → Follow from to ps
follow_higher from mid to [] le f = omega (arith, le, f)
follow_higher from mid to (p ∷ ps) le f = (f.0, f.1, follow_higher (piece_end p) mid to ps le f.2)

pub follow_from : (low from to : ℕ) (ps : List TwigPiece) → from ≤ next_of to ps → Follow low to ps → Follow from to ps
follow_from low from to [] le f = le
follow_from low from to (p ∷ ps) le f = (le, f.1, f.2)

-- ---- the three parts

-- Pieces of a range, of which some end before the first key, some lie between the keys, and some begin behind the second.
pub record AreSplit (lo hi from to : ℕ) (ps xs ms ys : List TwigPiece) : Type 0 where
  pub is : ps ≡ xs ++ (ms ++ ys)
  pub left : Follow lo from xs
  pub mid : Follow from to ms
  pub right : Follow to hi ys

module _ (lo hi from to : ℕ) (ps : List TwigPiece) (follow : Follow lo hi ps) (low : lo ≤ from) (some : from < to) (high : to ≤ hi)
    (one : IsBorder from ps) (two : IsBorder to ps) where
  abbrev once : List TwigPiece
  once = parted from ps

  once_follow : Follow lo hi once
  once_follow = parted_follow from lo hi ps follow one

  once_border : IsBorder to once
  once_border = border_again from to some lo hi ps follow one two

  abbrev pp : List TwigPiece
  pp = parted_twice from to ps

  pub twice_follow : Follow lo hi pp
  twice_follow = parted_follow to lo hi once once_follow once_border

  pub twice_names : (h : ℕ) → names_of h pp ≡ names_of h ps
  twice_names h = parted_names to h lo hi once once_follow once_border ∙ parted_names from h lo hi ps follow one

  pub twice_units : units_of pp ≡ units_of ps
  twice_units = parted_units to lo hi once once_follow once_border ∙ parted_units from lo hi ps follow one

  pub twice_next : (h : ℕ) → next_of h pp ≡ next_of h ps
  twice_next h = parted_next to h once ∙ parted_next from h ps

  pub twice_bytes : twig_bytes pp ≤ twig_bytes ps + 32
  twice_bytes =
      let a = parted_bytes to None lo hi once once_follow once_border in
      let b = parted_bytes from None lo hi ps follow one in
      omega (arith, a, b)

  ends_second : (q : TwigPiece) → Contains pp q → rank q.key < to → piece_end q ≤ to
  ends_second = parted_apart to lo hi once once_follow once_border

  ends_first : (q : TwigPiece) → Contains pp q → rank q.key < from → piece_end q ≤ from
  ends_first = ends_again from to some lo hi once once_follow once_border (parted_apart from lo hi ps follow one)

  abbrev a : ℕ
  a = place from pp

  abbrev z : ℕ
  z = place to pp

  order : a + (z - a) ≡ z
  order = let le = place_more from to pp (omega (arith, some)) in omega (arith, le)

  abbrev xs : List TwigPiece
  xs = pieces_below from pp

  abbrev ms : List TwigPiece
  ms = pieces_between from to pp

  abbrev ys : List TwigPiece
  ys = pieces_behind to pp

  rest_is : drop a pp ≡ ms ++ ys
  rest_is = sym (take-append-drop (z - a) (drop a pp)) ∙ ap (λ qs. ms ++ qs) (drop-drop (z - a) a pp ∙ ap (λ n. drop n pp) order)

  whole_is : pp ≡ xs ++ (ms ++ ys)
  whole_is = sym (take-append-drop a pp) ∙ ap (λ qs. xs ++ qs) rest_is

  front_is : take z pp ≡ xs ++ ms
  front_is = ap (λ n. take n pp) (sym order) ∙ take-add a (z - a) pp

  in_left : (q : TwigPiece) → Contains xs q → piece_end q ≤ from
  in_left q at = ends_first q (subst (λ qs. Contains qs q) (sym whole_is) (Contains-append_left xs (ms ++ ys) q at)) (take_below from pp q at)

  in_mid : (q : TwigPiece) → Contains ms q → piece_end q ≤ to
  in_mid q at =
      ends_second q (subst (λ qs. Contains qs q) (sym whole_is) (Contains-append_right xs (ms ++ ys) q (Contains-append_left ms ys q at)))
      (take_below to pp q (subst (λ qs. Contains qs q) (sym front_is) (Contains-append_right xs ms q at)))

  pub split : AreSplit lo hi from to pp xs ms ys
  split =
      let parts = follow_parts lo hi xs (ms ++ ys) (subst (Follow lo hi) whole_is twice_follow) in
      let rest = follow_from (end_of lo xs) from hi (ms ++ ys) (subst (λ qs. from ≤ next_of hi qs) rest_is (next_above from hi pp (omega (arith, some, high)))) parts.1 in
      let more = follow_parts from hi ms ys rest in
      record {
        is = whole_is;
        left = follow_higher lo (end_of lo xs) from xs (end_below lo from xs low in_left) parts.0;
        mid = follow_higher from (end_of from ms) to ms (end_below from to ms (omega (arith, some)) in_mid) more.0;
        right = follow_from (end_of from ms) to hi ys (next_above to hi pp high) more.1;
      }
