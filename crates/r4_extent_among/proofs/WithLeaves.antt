-- The pieces of a twig with pointers to new leaves: what they name, their units, and the room that they need.
use Rattle.std.proofs.Common.{◌≡◌, ◌↔◌, ◌⊎◌, inl, inr, ℕ, ◌+◌, ◌-◌, ◌*◌, ◌^◌, ◌<◌, ◌≤◌, Bool, true, false, List, [], ◌∷◌, ◌++◌, length, refl, sym, ap, subst, ◌∙◌, arith}
use Rattle.std.specs.Prelude.{Contains, None, Option, Some, nat_lt, if◌then◌else◌}
use Rattle.std.proofs.Math.Seq.{drop-append_seam, take-append_seam}
use Rattle.std.proofs.lemmas.Bool.{le-leb, ne_eqb}
use Rattle.std.proofs.lemmas.List.{length-append}
use Rattle.std.proofs.lemmas.Option.{none-some, same_Some}
use Rattle.std.proofs.lemmas.List.Elements.{Contains-append_cases, Contains-append_left, Contains-append_right}
use Rattle.r4_base.specs.Cell.{names_block}
use Rattle.r4_base.specs.Key.{offset_of, rank, top}
use Rattle.r4_base.specs.Tree.{IsNode, Name}
use Rattle.r4_build.specs.r4_branch.Pieces.{AreTwigPieces, Follow, bytes_behind, is_at, last_end, names_of, next_of, open_end, part_bytes, part_end, piece_end, twig_bytes, units_of}
use Rattle.r4_build.specs.r4_branch.declared.piece.TwigPart.{TwigPart}
use Rattle.r4_build.specs.r4_branch.declared.piece.TwigPart.TheVariants.{Blocks, Pointer}
use Rattle.r4_build.specs.r4_branch.declared.piece.TwigPiece.{TwigPiece}
use Rattle.r4_build.proofs.r4_branch.ItemPieces.{units_append}
use Rattle.r4_extent_build.specs.r4_cell.Seen.{CellSeen, node_of}
use Rattle.r4_build.proofs.r4_edit.Gaps.{same_first}
use Rattle.r4_extent_build.specs.r4_graft.Places.{AreClear, HasGap}
use Rattle.r4_extent_build.specs.r4_graft.Splices.{place, spliced}
use Rattle.r4_extent_build.proofs.r4_graft.FoundPlaces.{find_gap}
use Rattle.r4_extent_build.proofs.r4_graft.Joined.{bytes_join, follow_join}
use Rattle.r4_extent_build.proofs.r4_graft.Placed.{first_or_later, follow_above, follow_end, has_end, not_in_none}
use Rattle.r4_extent_build.proofs.r4_graft.SplicedNames.{spliced_names}
use Rattle.r4_build.proofs.r4_patch.Members.{cases, here, later, none}
use Rattle.r4_build.specs.r4_path.Steps.{IsNameOf, name_of}
use Rattle.r4_build.specs.r4_path.TwigPieces.{ArePiecesOf, twig_pieces}
use Rattle.r4_build.proofs.r4_path.Rising.{hi_is}
use Rattle.r4_extent_among.specs.Among.{pointer_of, with_leaves}
use Rattle.r4_extent_among.proofs.Alike.{open_by, open_is}
use Rattle.r4_extent_among.proofs.Chain.{EndsWell, IsChain, IsLink}
use Rattle.r4_extent_among.proofs.Ranks.{key_there, rank_again}
use Rattle.r4_extent_among.proofs.SpansRise.{IsEnd}

-- ---- where pieces begin and end

ends_low : (o k : ℕ) (t : TwigPart) (z : ℕ) → open_by o k t ≡ Some z → z ≤ part_end k t
ends_low o k (Pointer to) z h = absurd (none-some z h)
ends_low o k (Blocks u) z h = by_test (nat_lt (o + 4096 * u.width) (2 ^ 64)) h
  where
    by_test : (t : Bool) → (if t then Some (k + 4096 * u.width) else None) ≡ Some z → z ≤ k + 4096 * u.width
    by_test true same = let e = same_Some (k + 4096 * u.width) z same in omega (arith, e)
    by_test false same = absurd (none-some z same)

last_low : (from to : ℕ) (before : Option ℕ) (ps : List TwigPiece) (z : ℕ) → Follow from to ps → ((y : ℕ) → before ≡ Some y → y ≤ from) → last_end before ps ≡ Some z → z ≤ to
last_low from to before [] z f low is = let l = low z is in omega (arith, l, f)
last_low from to before (p ∷ ps) z f low is =
    last_low (piece_end p) to (open_end p) ps z f.2 (λ y h. ends_low (offset_of p.key) (rank p.key) p.part y (sym (open_is p) ∙ h)) is

begins_below : (from to : ℕ) (ps : List TwigPiece) (p : TwigPiece) → Follow from to ps → Contains ps p → rank p.key < to
begins_below from to [] p f at = absurd (not_in_none p at)
begins_below from to (q ∷ ps) p f at = elim (first_or_later q ps p at) [
  | inl is ↦ let e = has_end q f.1 in let z = follow_end (piece_end q) to ps f.2 in subst (λ (x : TwigPiece). rank x.key < to) is (omega (arith, e, z))
  | inr more ↦ begins_below (piece_end q) to ps p f.2 more
]

first_lowest : (from to : ℕ) (ps : List TwigPiece) (p : TwigPiece) → Follow from to ps → Contains ps p → next_of to ps ≤ rank p.key
first_lowest from to [] p f at = absurd (not_in_none p at)
first_lowest from to (q ∷ ps) p f at = elim (first_or_later q ps p at) [
  | inl is ↦ subst (λ (x : TwigPiece). rank q.key ≤ rank x.key) is (omega arith)
  | inr more ↦ let a = follow_above (piece_end q) to ps f.2 p more in let e = has_end q f.1 in omega (arith, a, e)
]

next_high : (from to : ℕ) (ps : List TwigPiece) → Follow from to ps → next_of to ps ≤ to
next_high from to [] f = omega arith
next_high from to (q ∷ ps) f = let e = has_end q f.1 in let z = follow_end (piece_end q) to ps f.2 in omega (arith, e, z)

-- behind a unit that ends before them pieces need as much as by themselves
bytes_apart : (last : Option ℕ) (hi from : ℕ) (ps : List TwigPiece) → ((z : ℕ) → last ≡ Some z → z < next_of hi ps) → bytes_behind last ps ≡ twig_bytes ps
unfolding bytes_behind
bytes_apart last hi from [] low = refl
bytes_apart last hi from (q ∷ ps) low = ap (λ n. n + bytes_behind (open_end q) ps) (by_part q.part)
  where
    off : (o : Option ℕ) → last ≡ o → is_at o (rank q.key) ≡ false
    off None is = refl
    off (Some z) is = let l = low z is in ne_eqb z (rank q.key) (λ same. omega (arith, l, same))

    by_part : (t : TwigPart) → part_bytes last (rank q.key) t ≡ part_bytes None (rank q.key) t
    by_part (Pointer to) = refl
    by_part (Blocks u) = ap (λ (t : Bool). if t then 16 else 54) (off last refl)

top_is : top ≡ 2 ^ 256 - 1
unfolding top
top_is = refl

-- ---- the pieces with leaves

abbrev FirstKey : List CellSeen → List TwigPiece → Type 0
FirstKey [] qs = Unit {0}
FirstKey (d ∷ ds) qs = (p : TwigPiece) × Contains qs p × (rank p.key ≡ rank d.lo)

-- The pieces with pointers to these leaves: what they name, their units and the room that they need.
pub record ArePut (twig : CellSeen) (cells : List CellSeen) (qs : List TwigPiece) : Type 0 where
  pub pieces : AreTwigPieces (rank twig.lo) (rank twig.hi) qs
  pub names : (n : Name) → Contains (names_of (rank twig.hi) qs) n ↔ (Contains (node_of twig).names n ⊎ IsNameOf cells n)
  pub units : units_of qs ≡ (node_of twig).units
  pub bytes : twig_bytes qs ≡ twig_bytes (twig_pieces twig) + 46 * length cells
  keeps : (p : TwigPiece) → Contains (twig_pieces twig) p → Contains qs p
  first : FirstKey cells qs

module _ (twig : CellSeen) (node : IsNode (node_of twig)) where
  abbrev lo : ℕ
  lo = rank twig.lo

  abbrev hi : ℕ
  hi = rank twig.hi

  ends_still : (k : ℕ) (cs : List CellSeen) (qs : List TwigPiece) → ArePut twig cs qs → EndsWell twig k cs → IsEnd qs hi k
  ends_still k cs qs put end = by_cells cs put.first end
    where
      still : IsEnd (twig_pieces twig) hi k → IsEnd qs hi k
      still (inl is) = inl is
      still (inr (p, at, is)) = inr (p, put.keeps p at, is)

      by_cells : (ds : List CellSeen) → FirstKey ds qs → EndsWell twig k ds → IsEnd qs hi k
      by_cells [] first e = still e
      by_cells (d ∷ ds) first (inl e) = still e
      by_cells (d ∷ ds) (p, at, is) (inr e) = inr (p, at, is ∙ e)

  module _ (c : CellSeen) (cs : List CellSeen) (l : IsLink twig c cs) (high : 2 ^ 63 ≤ c.id) (qs : List TwigPiece) (put : ArePut twig cs qs) where
    abbrev from : ℕ
    from = rank c.lo

    abbrev to : ℕ
    to = rank c.hi

    clear : AreClear (names_of hi qs) (units_of qs) from to
    clear = record {
      named = λ n at. elim ((put.names n).0 at) [
        | inl was ↦ l.keys.clear.named n was
        | inr (d, in_cs, same) ↦ let a = l.apart d in_cs in let e = ap (λ (x : Name). x.lo) same in inr (omega (arith, a, e))
      ];
      own = λ k v at. l.keys.clear.own k v (subst (λ us. Contains us (k, v)) put.units at);
    }

    g : HasGap lo hi from to qs
    g = find_gap lo hi from to qs put.pieces l.keys.low l.keys.some l.keys.high clear

    -- the gap ends where the leaf's range does
    next_is : next_of hi g.behind ≡ to
    next_is = let a = g.next in let z = at_most (ends_still to cs qs put l.ends) in omega (arith, a, z)
      where
        at_most : IsEnd qs hi to → next_of hi g.behind ≤ to
        at_most (inl is) = let h = next_high to hi g.behind g.high in omega (arith, is, h)
        at_most (inr (p, at, is)) = elim (Contains-append_cases g.before g.behind p (subst (λ ps. Contains ps p) g.is at)) [
          | inl left ↦ let b = begins_below lo from g.before p g.low left in let s = l.keys.some in absurd (omega (arith, b, is, s))
          | inr right ↦ let f = first_lowest to hi g.behind p g.high right in omega (arith, f, is)
        ]

    abbrev ptr : TwigPiece
    ptr = pointer_of c

    all_is : spliced (place from qs) (place from qs) (ptr ∷ []) qs ≡ g.before ++ (ptr ∷ g.behind)
    all_is =
        (λ i. spliced (g.at i) (g.at i) (ptr ∷ []) (g.is i))
        ∙ (λ i. take-append_seam g.before g.behind i ++ (ptr ∷ drop-append_seam g.before g.behind i))

    key_is : rank ptr.key ≡ from
    key_is = rank_again from

    low_key : from < 2 ^ 256
    low_key = let s = l.keys.some in let h = l.keys.high in let t = node.to_top in let e = hi_is twig in let z = top_is in omega (arith, s, h, t, e, z)

    ptr_follows : Follow from to (ptr ∷ [])
    ptr_follows =
        let at = key_is in
        let named : names_block true (2 ^ 64) (Some c.id) ≡ true = rw (le-leb (2 ^ 63) c.id high) refl in
        let s = l.keys.some in
        (omega (arith, at), (key_there from low_key, named), omega (arith, at, s))

    ptr_names : names_of (next_of hi g.behind) (ptr ∷ []) ≡ name_of c ∷ []
    unfolding names_of
    ptr_names = λ i. record { id = c.id; level = sym l.level i; lo = key_is i; hi = next_is i } ∷ []

    put_pieces : AreTwigPieces lo hi (g.before ++ (ptr ∷ g.behind))
    put_pieces =
        let long = length-append g.before (ptr ∷ g.behind) in
        record {
          some = omega (arith, long);
          first = same_first hi g.before (ptr ∷ g.behind) g.behind g.some ∙ (ap (next_of hi) (sym g.is) ∙ put.pieces.first);
          follow = follow_join lo from hi g.before (ptr ∷ g.behind) g.low (follow_join from to hi (ptr ∷ []) g.behind ptr_follows g.high);
        }

    put_names : (n : Name) → Contains (names_of hi (g.before ++ (ptr ∷ g.behind))) n ↔ (Contains (node_of twig).names n ⊎ IsNameOf (c ∷ cs) n)
    unfolding names_of
    put_names n = (
      λ at. elim (names.0 at) [
        | inl was ↦ elim ((put.names n).0 (subst (λ ps. Contains (names_of hi ps) n) (sym g.is) was.0)) [
          | inl twigs ↦ inl twigs
          | inr (d, in_cs, same) ↦ inr (d, later c d cs in_cs, same)
        ]
        | inr new ↦ elim (cases (name_of c) n [] (subst (λ ns. Contains ns n) ptr_names new)) [
          | inl is ↦ inr (c, here c cs, is)
          | inr none_is ↦ absurd (none n none_is)
        ]
      ],
      λ at. names.1 (elim at [
        | inl twigs ↦ inl (was_there (inl twigs), none n)
        | inr (d, in_all, same) ↦ elim (cases c d cs in_all) [
          | inl is ↦ inr (subst (λ ns. Contains ns n) (sym ptr_names) (subst (λ m. Contains (name_of c ∷ []) m) (sym (same ∙ ap name_of is)) (here (name_of c) [])))
          | inr more ↦ inl (was_there (inr (d, more, same)), none n)
        ]
      ]),
    )
      where
        was_there : Contains (node_of twig).names n ⊎ IsNameOf cs n → Contains (names_of hi (g.before ++ g.behind)) n
        was_there h = subst (λ ps. Contains (names_of hi ps) n) g.is ((put.names n).1 h)

        names : Contains (names_of hi (g.before ++ (ptr ∷ g.behind))) n ↔ ((Contains (names_of hi (g.before ++ g.behind)) n × (Contains (names_of (next_of hi g.behind) []) n → ⊥)) ⊎ Contains (names_of (next_of hi g.behind) (ptr ∷ [])) n)
        names = spliced_names hi lo hi g.before [] (ptr ∷ []) g.behind (subst (Follow lo hi) g.is put.pieces.follow) (g.left (next_of (next_of hi g.behind) (ptr ∷ []))) n

    put_units : units_of (g.before ++ (ptr ∷ g.behind)) ≡ (node_of twig).units
    unfolding units_of
    put_units = units_append g.before (ptr ∷ g.behind) ∙ (sym (units_append g.before g.behind) ∙ (ap units_of (sym g.is) ∙ put.units))

    put_bytes : twig_bytes (g.before ++ (ptr ∷ g.behind)) ≡ twig_bytes (twig_pieces twig) + 46 * length (c ∷ cs)
    unfolding bytes_behind
    put_bytes =
        let last = last_end None g.before in
        let one = bytes_join None g.before (ptr ∷ g.behind) in
        let two = bytes_join None g.before g.behind in
        let next = next_is in
        let s = l.keys.some in
        let same = bytes_apart last hi from g.behind (λ z h. let low = last_low lo from None g.before z g.low (λ y n. absurd (none-some y n)) h in omega (arith, low, next, s)) in
        let was = ap twig_bytes (sym g.is) ∙ put.bytes in
        omega (arith, one, two, same, was)

    pub put_one : ArePut twig (c ∷ cs) (spliced (place from qs) (place from qs) (ptr ∷ []) qs)
    put_one = subst (ArePut twig (c ∷ cs)) (sym all_is) (record {
      pieces = put_pieces;
      names = put_names;
      units = put_units;
      bytes = put_bytes;
      keeps = λ p at. elim (Contains-append_cases g.before g.behind p (subst (λ ps. Contains ps p) g.is (put.keeps p at))) [
        | inl left ↦ Contains-append_left g.before (ptr ∷ g.behind) p left
        | inr right ↦ Contains-append_right g.before (ptr ∷ g.behind) p (later ptr p g.behind right)
      ];
      first = (ptr, Contains-append_right g.before (ptr ∷ g.behind) ptr (here ptr g.behind), key_is);
    })

  module _ (are : ArePiecesOf twig (twig_pieces twig)) where
    pub put_all : (cs : List CellSeen) → IsChain twig cs → ((c : CellSeen) → Contains cs c → 2 ^ 63 ≤ c.id) → ArePut twig cs (with_leaves cs (twig_pieces twig))
    put_all [] chain high = record {
      pieces = are.pieces;
      names = λ n. (λ at. inl (subst (λ ns. Contains ns n) are.names at), λ at. elim at [ inl was ↦ subst (λ ns. Contains ns n) (sym are.names) was | inr (d, m, same) ↦ absurd (none d m) ]);
      units = are.units;
      bytes = omega arith;
      keeps = λ p at. at;
      first = tt;
    }
    put_all (c ∷ cs) chain high =
        put_one c cs chain.0 (high c (here c cs)) (with_leaves cs (twig_pieces twig)) (put_all cs chain.1 (λ d m. high d (later c d cs m)))
