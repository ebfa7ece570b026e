-- Blocks that come behind those of a body: the pieces with numbers name what the twig named, and these blocks.
use Rattle.std.proofs.Common.{◌≡◌, ◌⊎◌, ◌↔◌, inl, inr, ℕ, suc, ◌+◌, ◌*◌, ◌^◌, ◌<◌, ◌≤◌, Bool, true, false, List, [], ◌∷◌, ◌++◌, length, take, drop, refl, sym, ap, subst, ◌∙◌, arith}
use Rattle.std.specs.Prelude.{Contains, ◌==◌, ◌&&◌}
use Rattle.std.specs.List.{flat_map}
use Rattle.std.proofs.lemmas.Bool.{eqb-true}
use Rattle.std.proofs.lemmas.List.{drop_at, take_at}
use Rattle.std.proofs.lemmas.List.Concat.{flat_map-append}
use Rattle.std.proofs.lemmas.List.Elements.{Contains-append_cases, Contains-append_left, Contains-append_right}
use Rattle.r4_base.specs.Key.{IsKey, offset_of, rank}
use Rattle.r4_base.specs.Tree.{Name}
use Rattle.r4_base.specs.declared.key.Key.{Key}
use Rattle.r4_extent_demands.specs.r4_branch.Pieces.{Follow, names_of, next_of, piece_end}
use Rattle.r4_extent_demands.specs.r4_branch.declared.piece.TwigPiece.{TwigPiece}
use Rattle.r4_content.specs.Edited.{Edits}
use Rattle.r4_extent_demands.specs.r4_graft.Places.{HasGap}
use Rattle.r4_extent_demands.specs.r4_graft.Splices.{place, spliced}
use Rattle.r4_extent_demands.proofs.r4_graft.Joined.{follow_join, names_join, next_join}
use Rattle.r4_extent_demands.proofs.r4_graft.Placed.{follow_above, follow_end, has_end, place_none, place_some}
use Rattle.r4_extent_demands.proofs.r4_patch.Members.{cases, none}
use Rattle.r4_extent_demands.specs.r4_reach.Needs.{filled, gets_bytes, runs}
use Rattle.r4_extent_demands.specs.r4_reach.Touched.{Body}
use Rattle.r4_extent_build.specs.Numbering.{coming_count, is_told_block, names_coming, with_numbers}
use Rattle.r4_extent_build.proofs.Numbers.{names_append, numbers_append}
use Rattle.r4_extent_build.proofs.RunPieces.{AreFree, are_runs}
use Rattle.r4_extent_build.proofs.FilledHoles.{AreFilled, any_none, are_filled}

-- the place of a key between pieces
place_between : (k from : ℕ) (xs ys : List TwigPiece) → Follow from k xs → k ≤ next_of k ys → place k (xs ++ ys) ≡ length xs
place_between k from [] [] f le = refl
place_between k from [] (y ∷ ys) f le = place_none k y ys le
place_between k from (x ∷ xs) ys f le =
    let e = has_end x f.1 in
    let g = follow_end (piece_end x) k xs f.2 in
    place_some k x (xs ++ ys) (omega (arith, e, g)) ∙ ap suc (place_between k (piece_end x) xs ys f.2 le)

next_high : (k from to : ℕ) (ys : List TwigPiece) → Follow from to ys → k ≤ from → k ≤ next_of k ys
next_high k from to [] f le = omega arith
next_high k from to (y ∷ ys) f le = let low = f.0 in omega (arith, low, le)

below_end : (from to : ℕ) (ps : List TwigPiece) (q : TwigPiece) → Follow from to ps → Contains ps q → rank q.key < to
below_end from to [] q f m = absurd (none q m)
below_end from to (p ∷ ps) q f m = elim (cases p q ps m) [
  | inl is ↦
      let e = has_end p f.1 in
      let g = follow_end (piece_end p) to ps f.2 in
      subst (λ (x : TwigPiece). rank x.key < to) (sym is) (omega (arith, e, g))
  | inr more ↦ below_end (piece_end p) to ps q f.2 more
]

three_from : (xs ys zs : List Name) (n : Name) → Contains (xs ++ (ys ++ zs)) n → Contains xs n ⊎ (Contains ys n ⊎ Contains zs n)
three_from xs ys zs n m = elim (Contains-append_cases xs (ys ++ zs) n m) [ inl a ↦ inl a | inr rest ↦ inr (Contains-append_cases ys zs n rest) ]

three_to : (xs ys zs : List Name) (n : Name) → Contains xs n ⊎ (Contains ys n ⊎ Contains zs n) → Contains (xs ++ (ys ++ zs)) n
three_to xs ys zs n (inl a) = Contains-append_left xs (ys ++ zs) n a
three_to xs ys zs n (inr (inl b)) = Contains-append_right xs (ys ++ zs) n (Contains-append_left ys zs n b)
three_to xs ys zs n (inr (inr c)) = Contains-append_right xs (ys ++ zs) n (Contains-append_right ys zs n c)

module _ (old : List TwigPiece) (lo hi from to : ℕ) (all : Follow lo hi old) (gap : HasGap lo hi from to old) (b : Body) (e : Edits) (k : Key) (is : IsKey k) (at : rank k ≡ from) (count : ℕ) (ends : to ≡ from + 4096 * count)
    (fits : offset_of k + 4096 * count ≤ 2 ^ 64) (some : 1 ≤ count) where
  abbrev pub front : List TwigPiece
  front = flat_map (filled b e) gap.before

  abbrev pub back : List TwigPiece
  back = flat_map (filled b e) gap.behind

  abbrev pub middle : List TwigPiece
  middle = runs (gets_bytes b e) from count

  abbrev pub grown : List TwigPiece
  grown = front ++ (middle ++ back)

  pub of_front : (p : TwigPiece) → Contains gap.before p → Contains old p
  of_front p m = subst (λ ps. Contains ps p) (sym gap.is) (Contains-append_left gap.before gap.behind p m)

  pub of_back : (p : TwigPiece) → Contains gap.behind p → Contains old p
  of_back p m = subst (λ ps. Contains ps p) (sym gap.is) (Contains-append_right gap.before gap.behind p m)

  first : AreFilled old lo hi all b e lo from gap.before front
  first = are_filled old lo hi all b e lo from gap.before gap.low of_front

  last : AreFilled old lo hi all b e to hi gap.behind back
  last = are_filled old lo hi all b e to hi gap.behind gap.high of_back

  pub free : AreFree old from count
  free i lt = any_none (λ (q : TwigPiece). (rank q.key == from + 4096 * i) && is_told_block q.part) old (λ q m. by_key q m (rank q.key == from + 4096 * i) refl)
    where
      by_key : (q : TwigPiece) → Contains old q → (t : Bool) → (rank q.key == from + 4096 * i) ≡ t → ((rank q.key == from + 4096 * i) && is_told_block q.part) ≡ false
      by_key q m false h = ap (λ (t : Bool). t && is_told_block q.part) h
      by_key q m true h =
          let here_is = eqb-true (rank q.key) (from + 4096 * i) h in
          absurd (elim (Contains-append_cases gap.before gap.behind q (subst (λ ps. Contains ps q) gap.is m)) [
            | inl before ↦ let n = below_end lo from gap.before q gap.low before in omega (arith, n, here_is)
            | inr behind ↦ let n = follow_above to hi gap.behind gap.high q behind in omega (arith, n, here_is, ends, lt)
          ])

  mid : (h : ℕ) → next_of h middle ≡ from
  mid h = let r = are_runs old (gets_bytes b e) count k is fits (subst (λ (j : ℕ). AreFree old j count) (sym at) free) in
      subst (λ (j : ℕ). next_of h (runs (gets_bytes b e) j count) ≡ j) at (r.some h some)

  mid_follow : Follow from to middle
  mid_follow = let r = are_runs old (gets_bytes b e) count k is fits (subst (λ (j : ℕ). AreFree old j count) (sym at) free) in
      subst (λ (j : ℕ). Follow from j middle) (sym ends) (subst (λ (j : ℕ). Follow j (j + 4096 * count) (runs (gets_bytes b e) j count)) at r.follow)

  mid_names : (m h : ℕ) → 1 ≤ m → names_of h (with_numbers old m middle) ≡ names_coming old m middle
  mid_names m h s = let r = are_runs old (gets_bytes b e) count k is fits (subst (λ (j : ℕ). AreFree old j count) (sym at) free) in
      subst (λ (j : ℕ). names_of h (with_numbers old m (runs (gets_bytes b e) j count)) ≡ names_coming old m (runs (gets_bytes b e) j count)) at (r.names m h s)

  -- the blocks that come stand in the gap
  pub spliced_is : spliced (place from (flat_map (filled b e) old)) (place from (flat_map (filled b e) old)) middle (flat_map (filled b e) old) ≡ grown
  spliced_is =
      let parts : flat_map (filled b e) old ≡ front ++ back = ap (flat_map (filled b e)) gap.is ∙ flat_map-append (filled b e) gap.before gap.behind in
      let n : place from (flat_map (filled b e) old) ≡ length front = ap (place from) parts ∙ place_between from lo front back first.follow (next_high from to hi back last.follow (omega (arith, ends))) in
      (λ i. take (n i) (parts i) ++ (middle ++ drop (n i) (parts i)))
      ∙ (λ i. take_at front back (length front) refl i ++ (middle ++ drop_at front back (length front) refl i))

  some_front : (h : ℕ) → next_of h front ≡ next_of h gap.before
  some_front h = first.next h

  pub are_grown : AreFilled old lo hi all b e lo hi old grown
  are_grown = record {
    follow = follow_join lo from hi front (middle ++ back) first.follow (follow_join from to hi middle back mid_follow last.follow);
    next = λ h. next_join h front (middle ++ back) ∙ (first.next (next_of h (middle ++ back)) ∙ (first_some gap.before gap.some (next_of h (middle ++ back)) (next_of h gap.behind) ∙ (sym (next_join h gap.before gap.behind) ∙ ap (next_of h) (sym gap.is))));
    names = λ m h s n. grown_names m h s n;
  }
    where
      first_some : (ps : List TwigPiece) → 1 ≤ length ps → (i j : ℕ) → next_of i ps ≡ next_of j ps
      first_some [] none_is i j = absurd (omega (arith, none_is))
      first_some (p ∷ ps) some_is i j = refl

      grown_names : (m h : ℕ) → 1 ≤ m → (n : Name) → Contains (names_of h (with_numbers old m grown)) n ↔ (Contains (names_of h old) n ⊎ Contains (names_coming old m grown) n)
      grown_names m h s n =
          let m1 = m + coming_count old front in
          let m2 = m1 + coming_count old middle in
          let wm = with_numbers old m1 middle in
          let wb = with_numbers old m2 back in
          let wf = with_numbers old m front in
          let j = next_of h (wm ++ wb) in
          let parts : names_of h (with_numbers old m grown) ≡ names_of j wf ++ (names_of (next_of h wb) wm ++ names_of h wb) =
          ap (names_of h) (numbers_append old m front (middle ++ back) ∙ ap (λ qs. wf ++ qs) (numbers_append old m1 middle back))
          ∙ (names_join h wf (wm ++ wb) ∙ ap (λ ns. names_of j wf ++ ns) (names_join h wm wb)) in
          let come : names_coming old m grown ≡ names_coming old m front ++ (names_coming old m1 middle ++ names_coming old m2 back) =
          names_append old m front (middle ++ back) ∙ ap (λ ns. names_coming old m front ++ ns) (names_append old m1 middle back) in
          let was : names_of h old ≡ names_of j gap.before ++ names_of h gap.behind =
          ap (names_of h) gap.is ∙ (names_join h gap.before gap.behind ∙ ap (λ ns. ns ++ names_of h gap.behind) (gap.left (next_of h gap.behind) ∙ sym (gap.left j))) in
          let a = first.names m j s n in
          let d = last.names m2 h (omega (arith, s)) n in
          let c = mid_names m1 (next_of h wb) (omega (arith, s)) in (
            λ x. elim (three_from (names_of j wf) (names_of (next_of h wb) wm) (names_of h wb) n (subst (λ ns. Contains ns n) parts x)) [
              | inl one ↦ elim (a.0 one) [
                | inl old_one ↦ inl (subst (λ ns. Contains ns n) (sym was) (Contains-append_left (names_of j gap.before) (names_of h gap.behind) n old_one))
                | inr new_one ↦ inr (subst (λ ns. Contains ns n) (sym come) (three_to (names_coming old m front) (names_coming old m1 middle) (names_coming old m2 back) n (inl new_one)))
              ]
              | inr more ↦ elim more [
                | inl two ↦ inr (subst (λ ns. Contains ns n) (sym come) (three_to (names_coming old m front) (names_coming old m1 middle) (names_coming old m2 back) n (inr (inl (subst (λ ns. Contains ns n) c two)))))
                | inr three_in ↦ elim (d.0 three_in) [
                  | inl old_one ↦ inl (subst (λ ns. Contains ns n) (sym was) (Contains-append_right (names_of j gap.before) (names_of h gap.behind) n old_one))
                  | inr new_one ↦ inr (subst (λ ns. Contains ns n) (sym come) (three_to (names_coming old m front) (names_coming old m1 middle) (names_coming old m2 back) n (inr (inr new_one))))
                ]
              ]
            ],
            λ x. subst (λ ns. Contains ns n) (sym parts) (three_to (names_of j wf) (names_of (next_of h wb) wm) (names_of h wb) n (elim x [
              | inl old_one ↦ elim (Contains-append_cases (names_of j gap.before) (names_of h gap.behind) n (subst (λ ns. Contains ns n) was old_one)) [
                | inl one ↦ inl (a.1 (inl one))
                | inr three_in ↦ inr (inr (d.1 (inl three_in)))
              ]
              | inr new_one ↦ elim (three_from (names_coming old m front) (names_coming old m1 middle) (names_coming old m2 back) n (subst (λ ns. Contains ns n) come new_one)) [
                | inl one ↦ inl (a.1 (inr one))
                | inr more ↦ elim more [
                  | inl two ↦ inr (inl (subst (λ ns. Contains ns n) (sym c) two))
                  | inr three_in ↦ inr (inr (d.1 (inr three_in)))
                ]
              ]
            ])),
          )
