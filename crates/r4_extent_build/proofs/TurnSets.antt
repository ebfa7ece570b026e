-- The turn of a twig of a growing body sets the bytes that edits set.
use Rattle.std.proofs.Common.{◌≡◌, ◌⊎◌, ◌↔◌, inl, inr, ℕ, ◌+◌, ◌-◌, ◌*◌, ◌/◌, ◌^◌, ◌<◌, ◌≤◌, Bool, true, false, cond, List, [], ◌∷◌, ◌++◌, refl, sym, ap, subst, ◌∙◌, arith}
use Rattle.std.specs.Prelude.{Contains, Some, unwrap_or, ◌&&◌, ◌||◌}
use Rattle.std.specs.List.{flat_map}
use Rattle.std.proofs.lemmas.Bool.{cases_lt}
use Rattle.std.proofs.lemmas.List.{append_assoc}
use Rattle.std.proofs.lemmas.List.Folds.{list_any-append}
use Rattle.std.proofs.lemmas.List.Elements.{Contains-append_cases, Contains-append_left, Contains-append_right}
use Rattle.std.proofs.lemmas.Option.{same_Some}
use Rattle.r4_base.specs.Key.{IsKey, offset_of, rank}
use Rattle.r4_base.specs.Value.{Value}
use Rattle.r4_base.specs.declared.key.Key.{Key}
use Rattle.r4_extent_demands.specs.r4_branch.Pieces.{Follow, part_units, piece_end, units_of}
use Rattle.r4_extent_demands.specs.r4_branch.declared.piece.TwigPiece.{TwigPiece}
use Rattle.r4_extent_demands.proofs.r4_branch.ItemPieces.{units_append}
use Rattle.r4_extent_demands.specs.r4_cell.Seen.{CellSeen, node_of}
use Rattle.r4_content.specs.Edited.{Edits, is_between}
use Rattle.r4_extent_blocks.specs.Setting.{byte_set}
use Rattle.r4_extent_demands.specs.r4_leaf.Units.{is_between as between}
use Rattle.r4_extent_demands.specs.r4_graft.Places.{HasGap}
use Rattle.r4_extent_demands.proofs.r4_patch.Members.{none}
use Rattle.r4_twig_turns.specs.r4_patch.Effect.{Placed}
use Rattle.r4_extent_demands.specs.r4_path.TwigPieces.{twig_pieces}
use Rattle.r4_extent_demands.specs.r4_reach.Needs.{filled, gets_bytes, pieces_after, runs}
use Rattle.r4_extent_demands.specs.r4_reach.Touched.{Body}
use Rattle.r4_twig_turns.specs.r4_twig_work.Regrafting.{SetsBelow, StandsBelow}
use Rattle.r4_extent_build.specs.Growing.{IsClearFor, IsGrowing, end_after, end_before}
use Rattle.r4_extent_build.specs.Numbering.{cells_coming, coming_count, with_numbers}
use Rattle.r4_extent_build.specs.Setting.{AreKeysOf, byte_after, bytes_after, in_coming, in_hole_of, is_hole_of}
use Rattle.r4_extent_build.specs.Turns.{growing_turn}
use Rattle.r4_extent_build.proofs.FilledHoles.{apart_pieces}
use Rattle.r4_extent_build.proofs.GrownTwigs.{free, of_back, of_front, spliced_is}
use Rattle.r4_extent_build.proofs.Numbers.{cells_append, numbers_units}
use Rattle.r4_extent_build.proofs.PackedTwigs.{coming_at, count_is, key, key_at, key_fits, key_is, none_put, put_in, qs_is}
use Rattle.r4_extent_build.proofs.RunPieces.{AreFree}
use Rattle.r4_extent_build.proofs.TurnEffect.{calm, hole_in, old_units, other_in}
use Rattle.r4_extent_build.proofs.UnitsFilled.{filled_stand, in_off, in_on, or_cases, or_left, or_right, other_units}
use Rattle.r4_extent_build.proofs.UnitsOfRuns.{IsIn, runs_stand, stands_append}

-- ---- pieces behind others

holes_append : (b : Body) (xs ys : List TwigPiece) (j : ℕ) → in_hole_of b (xs ++ ys) j ≡ (in_hole_of b xs j || in_hole_of b ys j)
holes_append b xs ys j = list_any-append (λ (p : TwigPiece). is_hole_of b p && between (rank p.key) (piece_end p) j) xs ys

others_append : (b : Body) (xs ys : List TwigPiece) → other_units b (xs ++ ys) ≡ other_units b xs ++ other_units b ys
others_append b [] ys = refl
others_append b (x ∷ xs) ys =
    ap (λ us. cond (is_hole_of b x) [] (part_units (rank x.key) x.part) ++ us) (others_append b xs ys)
    ∙ sym (append_assoc (cond (is_hole_of b x) [] (part_units (rank x.key) x.part)) (other_units b xs) (other_units b ys))

module _ (old : List TwigPiece) (lo hi from to : ℕ) (all : Follow lo hi old) (gap : HasGap lo hi from to old) (b : Body) (e : Edits) (k : Key) (is : IsKey k) (at : rank k ≡ from) (count : ℕ) (ends : to ≡ from + 4096 * count)
    (fits : offset_of k + 4096 * count ≤ 2 ^ 64) (some : 1 ≤ count) (still : (i : ℕ) → gets_bytes b e i ≡ false → (j : ℕ) → i ≤ j → j < i + 4096 → unwrap_or (byte_set e j) 0 ≡ 0) where
  abbrev xs : List TwigPiece
  xs = flat_map (filled b e) gap.before

  abbrev ys : List TwigPiece
  ys = flat_map (filled b e) gap.behind

  abbrev ms : List TwigPiece
  ms = runs (gets_bytes b e) from count

  mid_stand : (m j : ℕ) (u : Placed Value) → StandsBelow (cells_coming e old m ms) (units_of ms) j u ↔ (IsIn from (4096 * count) j × (u ≡ (byte_after e j, false)))
  mid_stand m j u =
      subst (λ (i : ℕ). StandsBelow (cells_coming e old m (runs (gets_bytes b e) i count)) (units_of (runs (gets_bytes b e) i count)) j u ↔ (IsIn i (4096 * count) j × (u ≡ (byte_after e j, false)))) at
      (runs_stand old e (gets_bytes b e) still count k is fits (subst (λ (i : ℕ). AreFree old i count) (sym at) (free old lo hi from to all gap b e k is at count ends fits some)) m j u)

  pub grown_stand : (m j : ℕ) (u : Placed Value) → StandsBelow (cells_coming e old m (xs ++ (ms ++ ys))) (units_of (xs ++ (ms ++ ys))) j u
      ↔ ((((in_hole_of b old j ≡ true) ⊎ IsIn from (4096 * count) j) × (u ≡ (byte_after e j, false))) ⊎ (Contains (other_units b old) (j, u.0) × (u.1 ≡ false)))
  grown_stand m j u =
      let m1 = m + coming_count old xs in
      let m2 = m1 + coming_count old ms in
      let cells : cells_coming e old m (xs ++ (ms ++ ys)) ≡ cells_coming e old m xs ++ (cells_coming e old m1 ms ++ cells_coming e old m2 ys) = cells_append old e m xs (ms ++ ys) ∙ ap (λ cs. cells_coming e old m xs ++ cs) (cells_append old e m1 ms ys) in
      let units : units_of (xs ++ (ms ++ ys)) ≡ units_of xs ++ (units_of ms ++ units_of ys) = units_append xs (ms ++ ys) ∙ ap (λ us. units_of xs ++ us) (units_append ms ys) in
      let outer = stands_append (cells_coming e old m xs) (cells_coming e old m1 ms ++ cells_coming e old m2 ys) (units_of xs) (units_of ms ++ units_of ys) j u in
      let inner = stands_append (cells_coming e old m1 ms) (cells_coming e old m2 ys) (units_of ms) (units_of ys) j u in
      let one = filled_stand old lo hi all b e still lo from gap.before gap.low (λ p h. of_front old lo hi from to all gap b e k is at count ends fits some p h) m j u in
      let two = mid_stand m1 j u in
      let three = filled_stand old lo hi all b e still to hi gap.behind gap.high (λ p h. of_back old lo hi from to all gap b e k is at count ends fits some p h) m2 j u in
      let holes : in_hole_of b old j ≡ (in_hole_of b gap.before j || in_hole_of b gap.behind j) = ap (λ ps. in_hole_of b ps j) gap.is ∙ holes_append b gap.before gap.behind j in
      let others : other_units b old ≡ other_units b gap.before ++ other_units b gap.behind = ap (other_units b) gap.is ∙ others_append b gap.before gap.behind in (
        λ s. elim (outer.0 (subst (λ us. StandsBelow (cells_coming e old m xs ++ (cells_coming e old m1 ms ++ cells_coming e old m2 ys)) us j u) units (subst (λ cs. StandsBelow cs (units_of (xs ++ (ms ++ ys))) j u) cells s))) [
          | inl a ↦ elim (one.0 a) [ inl h ↦ inl (inl (holes ∙ or_left (in_hole_of b gap.before j) (in_hole_of b gap.behind j) h.0), h.1) | inr h ↦ inr (subst (λ us. Contains us (j, u.0)) (sym others) (Contains-append_left (other_units b gap.before) (other_units b gap.behind) (j, u.0) h.0), h.1) ]
          | inr rest ↦ elim (inner.0 rest) [
            | inl a ↦ let h = two.0 a in inl (inr h.0, h.1)
            | inr a ↦ elim (three.0 a) [ inl h ↦ inl (inl (holes ∙ or_right (in_hole_of b gap.before j) (in_hole_of b gap.behind j) h.0), h.1) | inr h ↦ inr (subst (λ us. Contains us (j, u.0)) (sym others) (Contains-append_right (other_units b gap.before) (other_units b gap.behind) (j, u.0) h.0), h.1) ]
          ]
        ],
        λ s. subst (λ cs. StandsBelow cs (units_of (xs ++ (ms ++ ys))) j u) (sym cells) (subst (λ us. StandsBelow (cells_coming e old m xs ++ (cells_coming e old m1 ms ++ cells_coming e old m2 ys)) us j u) (sym units) (outer.1 (elim s [
          | inl h ↦ elim h.0 [
            | inl hole ↦ elim (or_cases (in_hole_of b gap.before j) (in_hole_of b gap.behind j) (sym holes ∙ hole)) [ inl a ↦ inl (one.1 (inl (a, h.1))) | inr a ↦ inr (inner.1 (inr (three.1 (inl (a, h.1))))) ]
            | inr come ↦ inr (inner.1 (inl (two.1 (come, h.1))))
          ]
          | inr h ↦ elim (Contains-append_cases (other_units b gap.before) (other_units b gap.behind) (j, u.0) (subst (λ us. Contains us (j, u.0)) others h.0)) [ inl a ↦ inl (one.1 (inr (a, h.1))) | inr a ↦ inr (inner.1 (inr (three.1 (inr (a, h.1))))) ]
        ]))),
      )

-- ---- all of it

module _ (b : Body) (first : Key) (e : Edits) (twig : CellSeen) (g : IsGrowing b first) (c : IsClearFor b twig) where
  abbrev ps : List TwigPiece
  ps = twig_pieces twig

  abbrev StandIn : List TwigPiece → Type 0
  StandIn qs = (m j : ℕ) (u : Placed Value) → StandsBelow (cells_coming e ps m qs) (units_of qs) j u
      ↔ ((((in_hole_of b ps j ≡ true) ⊎ (in_coming b twig j ≡ true)) × (u ≡ (byte_after e j, false))) ⊎ (Contains (other_units b ps) (j, u.0) × (u.1 ≡ false)))

  still : (i : ℕ) → gets_bytes b e i ≡ false → (j : ℕ) → i ≤ j → j < i + 4096 → unwrap_or (byte_set e j) 0 ≡ 0
  still = calm b e

  -- where nothing comes
  quiet : ((j : ℕ) → in_coming b twig j ≡ true → ⊥) → StandIn (flat_map (filled b e) ps)
  quiet never m j u =
      let h = filled_stand ps (rank twig.lo) (rank twig.hi) c.pieces.pieces.follow b e still (rank twig.lo) (rank twig.hi) ps c.pieces.pieces.follow (λ p at. at) m j u in (
        λ s. elim (h.0 s) [ inl a ↦ inl (inl a.0, a.1) | inr a ↦ inr a ],
        λ s. h.1 (elim s [ inl a ↦ elim a.0 [ inl hole ↦ inl (hole, a.1) | inr come ↦ absurd (never j come) ] | inr a ↦ inr a ]),
      )

  both_true : (x y : Bool) → (x && y) ≡ true → (x ≡ true) × (y ≡ true)
  both_true true y h = (refl, h)
  both_true false y h = absurd cc

  on_off : (x : Bool) → x ≡ true → x ≡ false → ⊥
  on_off x h f = absurd cc

  pub stand_in : StandIn (pieces_after (Some b) e (node_of twig) [])
  stand_in = subst StandIn (sym (qs_is b first e twig g c ∙ coming_at b first e twig g c (flat_map (filled b e) ps))) (by_test (is_between (rank twig.lo) (rank twig.hi) (end_before b)) refl)
    where
      by_test : (t : Bool) → is_between (rank twig.lo) (rank twig.hi) (end_before b) ≡ t → StandIn (cond t (put_in b first e twig g c (flat_map (filled b e) ps)) (flat_map (filled b e) ps))
      by_test false h = quiet (λ j come. on_off (is_between (rank twig.lo) (rank twig.hi) (end_before b)) (both_true (is_between (rank twig.lo) (rank twig.hi) (end_before b)) (between (end_before b) (end_after b) j) come).0 h)
      by_test true h = elim (cases_lt (end_before b) (end_after b)) [
        | inl more ↦
            let some : 1 ≤ (end_after b - end_before b) / 4096 = let n = count_is b first e twig g c in omega (arith, more, n) in
            let gap = c.gap h more in
            subst StandIn (sym (spliced_is ps (rank twig.lo) (rank twig.hi) (end_before b) (end_after b) c.pieces.pieces.follow gap b e (key b first e twig g c) (key_is b first e twig g c) (key_at b first e twig g c) ((end_after b - end_before b) / 4096) (count_is b first e twig g c) (key_fits b first e twig g c) some))
            (λ m j u.
            let s = grown_stand ps (rank twig.lo) (rank twig.hi) (end_before b) (end_after b) c.pieces.pieces.follow gap b e (key b first e twig g c) (key_is b first e twig g c) (key_at b first e twig g c) ((end_after b - end_before b) / 4096) (count_is b first e twig g c) (key_fits b first e twig g c) some still m j u in
            let n = count_is b first e twig g c in (
              λ x. elim (s.0 x) [
                | inl a ↦ inl (
                  elim a.0 [
                    | inl hole ↦ inl hole
                    | inr come ↦ inr (both_on h (in_on (end_before b) (end_after b) j (omega (arith, come)) (omega (arith, come, n))))
                  ],
                  a.1,
                )
                | inr a ↦ inr a
              ],
              λ x. s.1 (elim x [
                | inl a ↦ inl (
                  elim a.0 [
                    | inl hole ↦ inl hole
                    | inr come ↦
                        let r = in_off (end_before b) (end_after b) j (both_true (is_between (rank twig.lo) (rank twig.hi) (end_before b)) (between (end_before b) (end_after b) j) come).1 in
                        inr (omega (arith, r), omega (arith, r, n))
                  ],
                  a.1,
                )
                | inr a ↦ inr a
              ]),
            ))
        | inr same ↦
            let zero_is : (end_after b - end_before b) / 4096 ≡ 0 = omega (arith, same) in
            subst StandIn (sym (none_put b first e twig g c (flat_map (filled b e) ps) zero_is))
            (quiet (λ j come. let r = in_off (end_before b) (end_after b) j (both_true (is_between (rank twig.lo) (rank twig.hi) (end_before b)) (between (end_before b) (end_after b) j) come).1 in absurd (omega (arith, r, same))))
      ]
        where
          both_on : {x y : Bool} → x ≡ true → y ≡ true → (x && y) ≡ true
          both_on {x} {y} p q = (λ i. p i && q i)

  -- ---- what that does to units

  apart_hole : (j : ℕ) (v : Value) → in_hole_of b ps j ≡ true → Contains (other_units b ps) (j, v) → ⊥
  apart_hole j v hole other =
      let (p, at_p, on, low_p, high_p) = hole_in b ps j hole in
      let (q, at_q, off, low_q, high_q) = other_in b ps j v other in
      elim (apart_pieces (rank twig.lo) (rank twig.hi) ps p q c.pieces.pieces.follow at_p at_q) [
        | inl same ↦ on_off (is_hole_of b p) on (sym (ap (is_hole_of b) same) ∙ off)
        | inr rest ↦ elim rest [ inl behind ↦ omega (arith, behind, low_q, high_p) | inr before ↦ omega (arith, before, low_p, high_q) ]
      ]

  apart_come : (j : ℕ) (v : Value) → in_coming b twig j ≡ true → Contains (other_units b ps) (j, v) → ⊥
  apart_come j v come other =
      let r = in_off (end_before b) (end_after b) j (both_true (is_between (rank twig.lo) (rank twig.hi) (end_before b)) (between (end_before b) (end_after b) j) come).1 in
      let (q, at_q, off, low_q, high_q) = other_in b ps j v other in
      elim (c.clear q at_q) [ inl below ↦ omega (arith, below, high_q, r) | inr behind ↦ omega (arith, behind, low_q, r) ]

  pub sets_below : (at : ℕ → Bool) → AreKeysOf b e twig at → (n : ℕ) → 1 ≤ n → SetsBelow twig ((growing_turn b e twig).pieces n) ((growing_turn b e twig).beside n) at (bytes_after e)
  sets_below at keys n some = record {
    held = λ k on. (twig, inr refl, keys.held k on);
    there = λ k u on.
        let s = stand_in n k u in (
          λ x. elim (s.0 (own k u x)) [
            | inl h ↦ ap Some (sym h.1)
            | inr other ↦ absurd (elim (keys.within k on) [ inl hole ↦ apart_hole k u.0 hole other.0 | inr come ↦ apart_come k u.0 come other.0 ])
          ],
          λ is. back k u (s.1 (inl (keys.within k on, sym (same_Some (byte_after e k, false) u is)))),
        );
    others = λ k u off.
        let s = stand_in n k u in
        let was = old_units b ps k u.0 in (
          λ x. elim (s.0 (own k u x)) [
            | inl h ↦ elim h.0 [
              | inl hole ↦
                  let zero_is = keys.holes k off hole in
                  inr (subst (λ us. Contains us (k, u.0)) c.pieces.units (was.1 (inl (hole, ap (λ (y : Placed Value). y.0) h.1 ∙ zero_is))), ap (λ (y : Placed Value). y.1) h.1)
              | inr come ↦ absurd (on_off (at k) (keys.coming k come) off)
            ]
            | inr other ↦ inr (subst (λ us. Contains us (k, u.0)) c.pieces.units (was.1 (inr other.0)), other.1)
          ],
          λ x. back k u (s.1 (elim x [
            | inl cell ↦ absurd (none cell.0 cell.1)
            | inr own_unit ↦ elim (was.0 (subst (λ us. Contains us (k, u.0)) (sym c.pieces.units) own_unit.0)) [
              | inl hole ↦ (let zero_is = keys.holes k off hole.0 in inl (inl hole.0, (λ i. ((hole.1 ∙ sym zero_is) i, own_unit.1 i))))
              | inr other ↦ inr (other, own_unit.1)
            ]
          ])),
        );
  }
    where
      qs_units : units_of (with_numbers ps n (pieces_after (Some b) e (node_of twig) [])) ≡ units_of (pieces_after (Some b) e (node_of twig) [])
      qs_units = numbers_units ps n (pieces_after (Some b) e (node_of twig) []) some

      own : (k : ℕ) (u : Placed Value) → StandsBelow (cells_coming e ps n (pieces_after (Some b) e (node_of twig) [])) (units_of (with_numbers ps n (pieces_after (Some b) e (node_of twig) []))) k u
          → StandsBelow (cells_coming e ps n (pieces_after (Some b) e (node_of twig) [])) (units_of (pieces_after (Some b) e (node_of twig) [])) k u
      own k u x = subst (λ us. StandsBelow (cells_coming e ps n (pieces_after (Some b) e (node_of twig) [])) us k u) qs_units x

      back : (k : ℕ) (u : Placed Value) → StandsBelow (cells_coming e ps n (pieces_after (Some b) e (node_of twig) [])) (units_of (pieces_after (Some b) e (node_of twig) [])) k u
          → StandsBelow (cells_coming e ps n (pieces_after (Some b) e (node_of twig) [])) (units_of (with_numbers ps n (pieces_after (Some b) e (node_of twig) []))) k u
      back k u x = subst (λ us. StandsBelow (cells_coming e ps n (pieces_after (Some b) e (node_of twig) [])) us k u) (sym qs_units) x
