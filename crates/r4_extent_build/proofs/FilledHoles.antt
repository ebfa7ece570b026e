-- Holes of a twig with blocks in them that come: the pieces with numbers name what the twig named, and these blocks.
use Rattle.std.proofs.Common.{◌≡◌, ◌⊎◌, ◌↔◌, inl, inr, ℕ, ◌+◌, ◌*◌, ◌^◌, ◌≤◌, Bool, true, false, cond, List, [], ◌∷◌, ◌++◌, refl, sym, ap, subst, ◌∙◌, arith}
use Rattle.std.specs.Prelude.{Contains, ◌==◌, ◌&&◌, ◌||◌, not}
use Rattle.std.specs.List.{flat_map, list_any}
use Rattle.std.proofs.lemmas.Bool.{eq-eqb, eqb-true}
use Rattle.std.proofs.lemmas.List.{append-nil}
use Rattle.std.proofs.lemmas.List.Elements.{Contains-append_cases, Contains-append_left, Contains-append_right}
use Rattle.r4_base.specs.Extents.{is_hole}
use Rattle.r4_base.specs.Key.{offset_of, rank}
use Rattle.r4_base.specs.Tree.{Name}
use Rattle.r4_extent_demands.specs.r4_branch.Pieces.{Follow, IsSound, IsSoundPart, names_of, next_of, part_end, part_names, piece_end}
use Rattle.r4_extent_demands.specs.r4_branch.declared.piece.TwigPart.{TwigPart}
use Rattle.r4_extent_demands.specs.r4_branch.declared.piece.TwigPart.TheVariants.{Blocks, Pointer}
use Rattle.r4_extent_demands.specs.r4_branch.declared.piece.TwigPiece.{TwigPiece}
use Rattle.r4_content.specs.Edited.{Edits}
use Rattle.r4_extent_demands.proofs.r4_graft.Joined.{follow_join, follow_lower, names_join, next_join}
use Rattle.r4_extent_demands.proofs.r4_graft.Placed.{follow_above, has_end}
use Rattle.r4_extent_demands.specs.r4_leaf.Units.{is_between}
use Rattle.r4_extent_demands.proofs.r4_patch.Members.{cases, here, later, none}
use Rattle.r4_extent_demands.specs.r4_reach.Needs.{filled, gets_bytes, runs}
use Rattle.r4_extent_demands.specs.r4_reach.Touched.{Body, first_byte}
use Rattle.r4_extent_build.specs.Numbering.{coming_count, has_block_at, is_coming, is_told_block, names_coming, with_numbers}
use Rattle.r4_extent_build.proofs.Numbers.{names_append, names_off, numbers_append, numbers_next, numbers_off}
use Rattle.r4_extent_build.proofs.RunPieces.{AreFree, are_runs, not_coming}

-- ---- pieces of one list

pub apart_pieces : (from to : ℕ) (ps : List TwigPiece) (p q : TwigPiece) → Follow from to ps → Contains ps p → Contains ps q → (q ≡ p) ⊎ ((piece_end p ≤ rank q.key) ⊎ (piece_end q ≤ rank p.key))
apart_pieces from to [] p q f at_p at_q = absurd (none p at_p)
apart_pieces from to (r ∷ rs) p q f at_p at_q = elim (cases r p rs at_p) [
  | inl p_is ↦ elim (cases r q rs at_q) [
    | inl q_is ↦ inl (q_is ∙ sym p_is)
    | inr more ↦ inr (inl (subst (λ (x : TwigPiece). piece_end x ≤ rank q.key) (sym p_is) (follow_above (piece_end r) to rs f.2 q more)))
  ]
  | inr p_more ↦ elim (cases r q rs at_q) [
    | inl q_is ↦ inr (inr (subst (λ (x : TwigPiece). piece_end x ≤ rank p.key) (sym q_is) (follow_above (piece_end r) to rs f.2 p p_more)))
    | inr q_more ↦ apart_pieces (piece_end r) to rs p q f.2 p_more q_more
  ]
]

pub any_none : (test : TwigPiece → Bool) (ps : List TwigPiece) → ((q : TwigPiece) → Contains ps q → test q ≡ false) → list_any test ps ≡ false
any_none test [] h = refl
any_none test (p ∷ ps) h = by_tests (test p) (list_any test ps) (h p (here p ps)) (any_none test ps (λ q m. h q (later p q ps m)))
  where
    by_tests : (a b : Bool) → a ≡ false → b ≡ false → (a || b) ≡ false
    by_tests true b e f = absurd cc
    by_tests false b e f = f

pub any_some : (test : TwigPiece → Bool) (ps : List TwigPiece) (q : TwigPiece) → Contains ps q → test q ≡ true → list_any test ps ≡ true
any_some test [] q m e = absurd (none q m)
any_some test (p ∷ ps) q m e = elim (cases p q ps m) [
  | inl is ↦ first (test p) (list_any test ps) (ap test (sym is) ∙ e)
  | inr more ↦ rest (test p) (list_any test ps) (any_some test ps q more e)
]
  where
    first : (a b : Bool) → a ≡ true → (a || b) ≡ true
    first true b h = refl
    first false b h = absurd cc

    rest : (a b : Bool) → b ≡ true → (a || b) ≡ true
    rest true b h = refl
    rest false b h = h

module _ (old : List TwigPiece) (lo hi : ℕ) (all : Follow lo hi old) where
  -- a piece that stands is none that comes
  pub stays : (p : TwigPiece) → Contains old p → is_coming old p ≡ false
  stays p at = by_told (is_told_block p.part) refl
    where
      both : (a b : Bool) → a ≡ true → b ≡ true → (a && b) ≡ true
      both true b e f = f
      both false b e f = absurd cc

      same : (rank p.key == rank p.key) ≡ true
      same = eq-eqb (rank p.key) (rank p.key) refl

      by_told : (t : Bool) → is_told_block p.part ≡ t → is_coming old p ≡ false
      by_told false e = not_coming old p e
      by_told true e =
          let there : has_block_at (rank p.key) old ≡ true = any_some (λ (q : TwigPiece). (rank q.key == rank p.key) && is_told_block q.part) old p at (both (rank p.key == rank p.key) (is_told_block p.part) same e) in
          (λ i. e i && not (there i))

  -- no block that stands begins in a hole
  pub hole_free : (p : TwigPiece) (w : ℕ) → Contains old p → p.part ≡ Blocks (record { start = 0; width = w }) → AreFree old (rank p.key) w
  hole_free p w at part i lt = any_none (λ (q : TwigPiece). (rank q.key == rank p.key + 4096 * i) && is_told_block q.part) old (λ q m. by_key q m (rank q.key == rank p.key + 4096 * i) refl)
    where
      ends : piece_end p ≡ rank p.key + 4096 * w
      ends = ap (part_end (rank p.key)) part

      sound_of : (from to : ℕ) (ps : List TwigPiece) (q : TwigPiece) → Follow from to ps → Contains ps q → IsSound q
      sound_of from to [] q f m = absurd (none q m)
      sound_of from to (r ∷ rs) q f m = elim (cases r q rs m) [ inl is ↦ subst IsSound (sym is) f.1 | inr more ↦ sound_of (piece_end r) to rs q f.2 more ]

      by_key : (q : TwigPiece) → Contains old q → (t : Bool) → (rank q.key == rank p.key + 4096 * i) ≡ t → ((rank q.key == rank p.key + 4096 * i) && is_told_block q.part) ≡ false
      by_key q m false e = ap (λ (t : Bool). t && is_told_block q.part) e
      by_key q m true e =
          let k = eqb-true (rank q.key) (rank p.key + 4096 * i) e in
          let told : is_told_block q.part ≡ false = elim (apart_pieces lo hi old p q all at m) [
            | inl same ↦ ap (λ (x : TwigPiece). is_told_block x.part) same ∙ ap is_told_block part
            | inr rest ↦ absurd (elim rest [
              | inl behind ↦ let n = ends in omega (arith, behind, k, n, lt)
              | inr before ↦ let h = has_end q (sound_of lo hi old q all m) in omega (arith, before, k, h)
            ])
          ] in
          (λ j. e j && told j)

  -- ---- one piece

  module _ (b : Body) (e : Edits) where
    abbrev gets : ℕ → Bool
    gets = gets_bytes b e

    -- a piece that is no hole of the body stays; a hole becomes its blocks
    filled_as : (p : TwigPiece) → (filled b e p ≡ p ∷ []) ⊎ ((w : ℕ) × (p.part ≡ Blocks (record { start = 0; width = w })) × (filled b e p ≡ runs (gets_bytes b e) (rank p.key) w))
    filled_as p = by_part p.part refl
      where
        front : (t : TwigPart) → p.part ≡ t → filled b e p ≡ filled b e (record p { part = t })
        front t is = ap (λ (x : TwigPart). filled b e (record p { part = x })) is

        by_part : (t : TwigPart) → p.part ≡ t → (filled b e p ≡ p ∷ []) ⊎ ((w : ℕ) × (p.part ≡ Blocks (record { start = 0; width = w })) × (filled b e p ≡ runs (gets_bytes b e) (rank p.key) w))
        by_part (Pointer to) is = inl (front (Pointer to) is ∙ ap (λ (x : TwigPart). record p { part = x } ∷ []) (sym is))
        by_part (Blocks u) is = by_test (is_hole u && is_between (first_byte b) (first_byte b + 2 ^ 64) (rank p.key)) refl
          where
            first : (x y : Bool) → (x && y) ≡ true → x ≡ true
            first true y h = refl
            first false y h = absurd cc

            by_test : (t : Bool) → (is_hole u && is_between (first_byte b) (first_byte b + 2 ^ 64) (rank p.key)) ≡ t
                → (filled b e p ≡ p ∷ []) ⊎ ((w : ℕ) × (p.part ≡ Blocks (record { start = 0; width = w })) × (filled b e p ≡ runs (gets_bytes b e) (rank p.key) w))
            by_test false h = inl (front (Blocks u) is ∙ (ap (λ (t : Bool). cond t (runs (gets_bytes b e) (rank p.key) u.width) (record p { part = Blocks u } ∷ [])) h ∙ ap (λ (x : TwigPart). record p { part = x } ∷ []) (sym is)))
            by_test true h =
                let hole : u.start ≡ 0 = eqb-true u.start 0 (first (is_hole u) (is_between (first_byte b) (first_byte b + 2 ^ 64) (rank p.key)) h) in
                inr (
                  u.width,
                  is ∙ ap (λ (s : ℕ). Blocks (record { start = s; width = u.width })) hole,
                  front (Blocks u) is ∙ ap (λ (t : Bool). cond t (runs (gets_bytes b e) (rank p.key) u.width) (record p { part = Blocks u } ∷ [])) h,
                )

    -- what becomes of a piece: it covers the same keys, and with numbers it names what it named, and blocks that come
    record IsFilled (p : TwigPiece) (xs : List TwigPiece) : Type 0 where
      follow : Follow (rank p.key) (piece_end p) xs
      next : (h : ℕ) → next_of h xs ≡ rank p.key
      names : (m h : ℕ) → 1 ≤ m → (n : Name) → Contains (names_of h (with_numbers old m xs)) n ↔ (Contains (part_names (rank p.key) h p.part) n ⊎ Contains (names_coming old m xs) n)

    piece_filled : (p : TwigPiece) → Contains old p → IsSound p → IsFilled p (filled b e p)
    unfolding names_of with_numbers names_coming
    piece_filled p at sound = elim (filled_as p) [
      | inl same ↦
          let off = stays p at in
          subst (IsFilled p) (sym same) (record {
            follow = (omega arith, sound, omega arith);
            next = λ h. refl;
            names = λ m h s n.
                let was : names_of h (with_numbers old m (p ∷ [])) ≡ part_names (rank p.key) h p.part = ap (names_of h) (numbers_off old m p [] off) ∙ append-nil (part_names (rank p.key) h p.part) in
                let no_more : names_coming old m (p ∷ []) ≡ [] = names_off old m p [] off in (
                  λ c. inl (subst (λ ns. Contains ns n) was c),
                  λ c. elim c [ inl mine ↦ subst (λ ns. Contains ns n) (sym was) mine | inr come ↦ absurd (none n (subst (λ ns. Contains ns n) no_more come)) ],
                );
          })
      | inr hole ↦
          let (w, part, is) = hole in
          let told : IsSoundPart (offset_of p.key) (Blocks (record { start = 0; width = w })) = subst (IsSoundPart (offset_of p.key)) part sound.1 in
          let r = are_runs old (gets_bytes b e) w p.key sound.0 told.1 (hole_free p w at part) in
          let ends : piece_end p ≡ rank p.key + 4096 * w = ap (part_end (rank p.key)) part in
          let some : 1 ≤ w = let h = has_end p sound in omega (arith, h, ends) in
          subst (IsFilled p) (sym is) (record {
            follow = subst (λ k. Follow (rank p.key) k (runs (gets_bytes b e) (rank p.key) w)) (sym ends) r.follow;
            next = λ h. r.some h some;
            names = λ m h s n. (
              λ c. inr (subst (λ ns. Contains ns n) (r.names m h s) c),
              λ c. elim c [ inl mine ↦ absurd (none n (subst (λ (t : TwigPart). Contains (part_names (rank p.key) h t) n) part mine)) | inr come ↦ subst (λ ns. Contains ns n) (sym (r.names m h s)) come ],
            );
          })
    ]

    -- ---- all pieces

    pub record AreFilled (from to : ℕ) (ps qs : List TwigPiece) : Type 0 where
      pub follow : Follow from to qs
      pub next : (h : ℕ) → next_of h qs ≡ next_of h ps
      pub names : (m h : ℕ) → 1 ≤ m → (n : Name) → Contains (names_of h (with_numbers old m qs)) n ↔ (Contains (names_of h ps) n ⊎ Contains (names_coming old m qs) n)

    pub are_filled : (from to : ℕ) (ps : List TwigPiece) → Follow from to ps → ((p : TwigPiece) → Contains ps p → Contains old p) → AreFilled from to ps (flat_map (filled b e) ps)
    unfolding names_of with_numbers names_coming
    are_filled from to [] f of = record { follow = f; next = λ h. refl; names = λ m h s n. (λ c. inl c, λ c. elim c [ inl x ↦ x | inr x ↦ absurd (none n x) ]) }
    are_filled from to (p ∷ ps) f of = joined (piece_filled p (of p (here p ps)) f.1) (are_filled (piece_end p) to ps f.2 (λ q m. of q (later p q ps m)))
      where
        joined : IsFilled p (filled b e p) → AreFilled (piece_end p) to ps (flat_map (filled b e) ps) → AreFilled from to (p ∷ ps) (filled b e p ++ flat_map (filled b e) ps)
        joined one rest = record {
          follow = follow_join from (piece_end p) to (filled b e p) (flat_map (filled b e) ps) (follow_lower (rank p.key) from (piece_end p) (filled b e p) f.0 one.follow) rest.follow;
          next = λ h. next_join h (filled b e p) (flat_map (filled b e) ps) ∙ one.next (next_of h (flat_map (filled b e) ps));
          names = λ m h s n.
              let xs = filled b e p in
              let ys = flat_map (filled b e) ps in
              let c = coming_count old xs in
              let next_is : next_of h (with_numbers old (m + c) ys) ≡ next_of h ps = numbers_next old (m + c) h ys ∙ rest.next h in
              let parts : names_of h (with_numbers old m (xs ++ ys)) ≡ names_of (next_of h ps) (with_numbers old m xs) ++ names_of h (with_numbers old (m + c) ys) =
              ap (names_of h) (numbers_append old m xs ys) ∙ (names_join h (with_numbers old m xs) (with_numbers old (m + c) ys) ∙ ap (λ k. names_of k (with_numbers old m xs) ++ names_of h (with_numbers old (m + c) ys)) next_is) in
              let come = names_append old m xs ys in
              let a = one.names m (next_of h ps) s n in
              let d = rest.names (m + c) h (omega (arith, s)) n in (
                λ x. elim (Contains-append_cases (names_of (next_of h ps) (with_numbers old m xs)) (names_of h (with_numbers old (m + c) ys)) n (subst (λ ns. Contains ns n) parts x)) [
                  | inl mine ↦ elim (a.0 mine) [
                    | inl was ↦ inl (Contains-append_left (part_names (rank p.key) (next_of h ps) p.part) (names_of h ps) n was)
                    | inr new ↦ inr (subst (λ ns. Contains ns n) (sym come) (Contains-append_left (names_coming old m xs) (names_coming old (m + c) ys) n new))
                  ]
                  | inr others ↦ elim (d.0 others) [
                    | inl was ↦ inl (Contains-append_right (part_names (rank p.key) (next_of h ps) p.part) (names_of h ps) n was)
                    | inr new ↦ inr (subst (λ ns. Contains ns n) (sym come) (Contains-append_right (names_coming old m xs) (names_coming old (m + c) ys) n new))
                  ]
                ],
                λ x. subst (λ ns. Contains ns n) (sym parts) (elim x [
                  | inl was ↦ elim (Contains-append_cases (part_names (rank p.key) (next_of h ps) p.part) (names_of h ps) n was) [
                    | inl mine ↦ Contains-append_left (names_of (next_of h ps) (with_numbers old m xs)) (names_of h (with_numbers old (m + c) ys)) n (a.1 (inl mine))
                    | inr others ↦ Contains-append_right (names_of (next_of h ps) (with_numbers old m xs)) (names_of h (with_numbers old (m + c) ys)) n (d.1 (inl others))
                  ]
                  | inr new ↦ elim (Contains-append_cases (names_coming old m xs) (names_coming old (m + c) ys) n (subst (λ ns. Contains ns n) come new)) [
                    | inl mine ↦ Contains-append_left (names_of (next_of h ps) (with_numbers old m xs)) (names_of h (with_numbers old (m + c) ys)) n (a.1 (inr mine))
                    | inr others ↦ Contains-append_right (names_of (next_of h ps) (with_numbers old m xs)) (names_of h (with_numbers old (m + c) ys)) n (d.1 (inr others))
                  ]
                ]),
              );
        }
