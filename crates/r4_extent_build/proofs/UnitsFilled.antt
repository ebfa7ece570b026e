-- Holes of a twig with blocks in them that come: what stands at their keys, and elsewhere what stood there.
use Rattle.std.proofs.Common.{◌≡◌, ◌⊎◌, ◌↔◌, inl, inr, ℕ, ◌+◌, ◌*◌, ◌^◌, ◌<◌, ◌≤◌, Bool, true, false, cond, List, [], ◌∷◌, ◌++◌, refl, sym, ap, subst, ◌∙◌, arith}
use Rattle.std.specs.Prelude.{Contains, unwrap_or, ◌&&◌, ◌||◌}
use Rattle.std.specs.List.{flat_map}
use Rattle.std.proofs.lemmas.Bool.{eqb-true}
use Rattle.std.proofs.lemmas.Bool.Decides.{nat_tests}
use Rattle.std.proofs.lemmas.List.{append-nil}
use Rattle.std.proofs.lemmas.List.Elements.{Contains-append_cases, Contains-append_left, Contains-append_right}
use Rattle.r4_base.specs.Extents.{is_hole}
use Rattle.r4_base.specs.Key.{offset_of, rank}
use Rattle.r4_base.specs.Value.{Value}
use Rattle.r4_extent_demands.specs.r4_branch.Pieces.{Follow, IsSound, IsSoundPart, part_end, part_units, piece_end, units_of}
use Rattle.r4_extent_demands.specs.r4_branch.declared.piece.TwigPart.{TwigPart}
use Rattle.r4_extent_demands.specs.r4_branch.declared.piece.TwigPart.TheVariants.{Blocks, Pointer}
use Rattle.r4_extent_demands.specs.r4_branch.declared.piece.TwigPiece.{TwigPiece}
use Rattle.r4_extent_demands.proofs.r4_branch.ItemPieces.{units_append}
use Rattle.r4_content.specs.Edited.{Edits}
use Rattle.r4_extent_blocks.specs.Setting.{byte_set}
use Rattle.r4_extent_demands.specs.r4_leaf.Units.{is_between}
use Rattle.r4_extent_demands.proofs.r4_patch.Members.{here, later, none}
use Rattle.r4_twig_turns.specs.r4_patch.Effect.{Placed}
use Rattle.r4_extent_demands.specs.r4_reach.Needs.{filled, gets_bytes, is_hole_part, runs}
use Rattle.r4_extent_demands.specs.r4_reach.Touched.{Body, first_byte}
use Rattle.r4_twig_turns.specs.r4_twig_work.Regrafting.{StandsBelow}
use Rattle.r4_extent_build.specs.Numbering.{cells_coming, coming_count}
use Rattle.r4_extent_build.specs.Setting.{byte_after, in_hole_of, is_hole_of}
use Rattle.r4_extent_build.proofs.FilledHoles.{hole_free, stays}
use Rattle.r4_extent_build.proofs.Numbers.{cells_append, cells_off}
use Rattle.r4_extent_build.proofs.UnitsOfRuns.{runs_stand, stands_append, stands_none}

module _ (b : Body) where
  -- the units of the other pieces
  abbrev pub other_units : List TwigPiece → List (ℕ × Value)
  other_units [] = []
  other_units (p ∷ ps) = cond (is_hole_of b p) [] (part_units (rank p.key) p.part) ++ other_units ps

-- a piece is a hole of the body, or not
HoleOf : Body → Edits → TwigPiece → Type 0
HoleOf b e p = (w : ℕ) × (p.part ≡ Blocks (record { start = 0; width = w })) × (filled b e p ≡ runs (gets_bytes b e) (rank p.key) w)

as_hole : (b : Body) (e : Edits) (p : TwigPiece) → is_hole_of b p ≡ true → HoleOf b e p
unfolding HoleOf
as_hole b e p on = by_part p.part refl
  where
    by_part : (t : TwigPart) → p.part ≡ t → (w : ℕ) × (p.part ≡ Blocks (record { start = 0; width = w })) × (filled b e p ≡ runs (gets_bytes b e) (rank p.key) w)
    by_part (Pointer to) is = absurd (no_pointer (sym (ap (λ (x : TwigPart). is_hole_part x && is_between (first_byte b) (first_byte b + 2 ^ 64) (rank p.key)) is) ∙ on))
      where
        no_pointer : false ≡ true → ⊥
        no_pointer h = absurd cc
    by_part (Blocks u) is =
        let h : (is_hole u && is_between (first_byte b) (first_byte b + 2 ^ 64) (rank p.key)) ≡ true = sym (ap (λ (x : TwigPart). is_hole_part x && is_between (first_byte b) (first_byte b + 2 ^ 64) (rank p.key)) is) ∙ on in
        let hole : u.start ≡ 0 = eqb-true u.start 0 (first (is_hole u) (is_between (first_byte b) (first_byte b + 2 ^ 64) (rank p.key)) h) in (
          u.width,
          is ∙ ap (λ (s : ℕ). Blocks (record { start = s; width = u.width })) hole,
          ap (λ (x : TwigPart). filled b e (record p { part = x })) is ∙ ap (λ (t : Bool). cond t (runs (gets_bytes b e) (rank p.key) u.width) (record p { part = Blocks u } ∷ [])) h,
        )
      where
        first : (x y : Bool) → (x && y) ≡ true → x ≡ true
        first true y g = refl
        first false y g = absurd cc

as_it_is : (b : Body) (e : Edits) (p : TwigPiece) → is_hole_of b p ≡ false → filled b e p ≡ p ∷ []
as_it_is b e p off = by_part p.part refl
  where
    by_part : (t : TwigPart) → p.part ≡ t → filled b e p ≡ p ∷ []
    by_part (Pointer to) is = ap (λ (x : TwigPart). filled b e (record p { part = x })) is ∙ ap (λ (x : TwigPart). record p { part = x } ∷ []) (sym is)
    by_part (Blocks u) is =
        let h : (is_hole u && is_between (first_byte b) (first_byte b + 2 ^ 64) (rank p.key)) ≡ false = sym (ap (λ (x : TwigPart). is_hole_part x && is_between (first_byte b) (first_byte b + 2 ^ 64) (rank p.key)) is) ∙ off in
        ap (λ (x : TwigPart). filled b e (record p { part = x })) is ∙ (ap (λ (t : Bool). cond t (runs (gets_bytes b e) (rank p.key) u.width) (record p { part = Blocks u } ∷ [])) h
        ∙ ap (λ (x : TwigPart). record p { part = x } ∷ []) (sym is))

pub in_on : (from to k : ℕ) → from ≤ k → k < to → is_between from to k ≡ true
in_on from to k low high = grind (arith, nat_tests)

pub in_off : (from to k : ℕ) → is_between from to k ≡ true → (from ≤ k) × (k < to)
in_off from to k h = (grind (arith, nat_tests), grind (arith, nat_tests))

pub or_cases : (x y : Bool) → (x || y) ≡ true → (x ≡ true) ⊎ (y ≡ true)
or_cases true y h = inl refl
or_cases false y h = inr h

pub or_left : (x y : Bool) → x ≡ true → (x || y) ≡ true
or_left true y h = refl
or_left false y h = absurd cc

pub or_right : (x y : Bool) → y ≡ true → (x || y) ≡ true
or_right true y h = refl
or_right false y h = h

module _ (old : List TwigPiece) (lo hi : ℕ) (all : Follow lo hi old) (b : Body) (e : Edits) (calm : (k : ℕ) → gets_bytes b e k ≡ false → (j : ℕ) → k ≤ j → j < k + 4096 → unwrap_or (byte_set e j) 0 ≡ 0) where
  -- what stands of some pieces: in the body's holes what is set, and elsewhere what stood
  abbrev pub StandAs : (ps qs : List TwigPiece) → Type 0
  StandAs ps qs = (m j : ℕ) (u : Placed Value) → StandsBelow (cells_coming e old m qs) (units_of qs) j u
      ↔ (((in_hole_of b ps j ≡ true) × (u ≡ (byte_after e j, false))) ⊎ (Contains (other_units b ps) (j, u.0) × (u.1 ≡ false)))

  one_stands : (p : TwigPiece) → Contains old p → IsSound p → (m j : ℕ) (u : Placed Value) → StandsBelow (cells_coming e old m (filled b e p)) (units_of (filled b e p)) j u
      ↔ ((((is_hole_of b p && is_between (rank p.key) (piece_end p) j) ≡ true) × (u ≡ (byte_after e j, false))) ⊎ (Contains (cond (is_hole_of b p) [] (part_units (rank p.key) p.part)) (j, u.0) × (u.1 ≡ false)))
  unfolding units_of cells_coming HoleOf
  one_stands p at sound m j u = by_test (is_hole_of b p) refl
    where
      by_test : (t : Bool) → is_hole_of b p ≡ t → StandsBelow (cells_coming e old m (filled b e p)) (units_of (filled b e p)) j u
          ↔ ((((is_hole_of b p && is_between (rank p.key) (piece_end p) j) ≡ true) × (u ≡ (byte_after e j, false))) ⊎ (Contains (cond (is_hole_of b p) [] (part_units (rank p.key) p.part)) (j, u.0) × (u.1 ≡ false)))
      by_test true on =
          let (w, part, is) = as_hole b e p on in
          let told : IsSoundPart (offset_of p.key) (Blocks (record { start = 0; width = w })) = subst (IsSoundPart (offset_of p.key)) part sound.1 in
          let r = runs_stand old e (gets_bytes b e) calm w p.key sound.0 told.1 (hole_free old lo hi all p w at part) m j u in
          let ends : piece_end p ≡ rank p.key + 4096 * w = ap (part_end (rank p.key)) part in
          let test : (is_hole_of b p && is_between (rank p.key) (piece_end p) j) ≡ is_between (rank p.key) (rank p.key + 4096 * w) j = (λ i. on i && is_between (rank p.key) (ends i) j) in (
            λ s. let h = r.0 (subst (λ qs. StandsBelow (cells_coming e old m qs) (units_of qs) j u) is s) in inl (test ∙ in_on (rank p.key) (rank p.key + 4096 * w) j h.0.0 h.0.1, h.1),
            λ s. subst (λ qs. StandsBelow (cells_coming e old m qs) (units_of qs) j u) (sym is) (r.1 (elim s [
              | inl hole ↦ (in_off (rank p.key) (rank p.key + 4096 * w) j (sym test ∙ hole.0), hole.1)
              | inr other ↦ absurd (none (j, u.0) (subst (λ (t : Bool). Contains (cond t [] (part_units (rank p.key) p.part)) (j, u.0)) on other.0))
            ])),
          )
      by_test false off =
          let is = as_it_is b e p off in
          let no_cells : cells_coming e old m (p ∷ []) ≡ [] = cells_off old e m p [] (stays old lo hi all p at) in
          let units : part_units (rank p.key) p.part ++ [] ≡ part_units (rank p.key) p.part = append-nil (part_units (rank p.key) p.part) in (
            λ s. elim (subst (λ us. StandsBelow [] us j u) units (subst (λ cs. StandsBelow cs (part_units (rank p.key) p.part ++ []) j u) no_cells (subst (λ qs. StandsBelow (cells_coming e old m qs) (units_of qs) j u) is s))) [
              | inl cell ↦ absurd (none cell.0 cell.1)
              | inr own ↦ inr (subst (λ (t : Bool). Contains (cond t [] (part_units (rank p.key) p.part)) (j, u.0)) (sym off) own.0, own.1)
            ],
            λ s. elim s [
              | inl hole ↦ absurd (not_so (is_hole_of b p) (is_between (rank p.key) (piece_end p) j) off hole.0)
              | inr other ↦ subst (λ qs. StandsBelow (cells_coming e old m qs) (units_of qs) j u) (sym is) (subst (λ cs. StandsBelow cs (part_units (rank p.key) p.part ++ []) j u) (sym no_cells)
                  (subst (λ us. StandsBelow [] us j u) (sym units) (inr (subst (λ (t : Bool). Contains (cond t [] (part_units (rank p.key) p.part)) (j, u.0)) off other.0, other.1))))
            ],
          )
        where
          not_so : (x y : Bool) → x ≡ false → (x && y) ≡ true → ⊥
          not_so true y h g = absurd cc
          not_so false y h g = absurd cc

  pub filled_stand : (from to : ℕ) (ps : List TwigPiece) → Follow from to ps → ((p : TwigPiece) → Contains ps p → Contains old p) → StandAs ps (flat_map (filled b e) ps)
  unfolding units_of cells_coming
  filled_stand from to [] f of m j u = (λ s. absurd (stands_none j u s), λ s. elim s [ inl h ↦ absurd (none_true h.0) | inr h ↦ absurd (none (j, u.0) h.0) ])
    where
      none_true : false ≡ true → ⊥
      none_true h = absurd cc
  filled_stand from to (p ∷ ps) f of m j u =
      let xs = filled b e p in
      let ys = flat_map (filled b e) ps in
      let cells = cells_append old e m xs ys in
      let units = units_append xs ys in
      let both = stands_append (cells_coming e old m xs) (cells_coming e old (m + coming_count old xs) ys) (units_of xs) (units_of ys) j u in
      let one = one_stands p (of p (here p ps)) f.1 m j u in
      let rest = filled_stand (piece_end p) to ps f.2 (λ q at. of q (later p q ps at)) (m + coming_count old xs) j u in
      let here_test = is_hole_of b p && is_between (rank p.key) (piece_end p) j in
      let here_units = cond (is_hole_of b p) [] (part_units (rank p.key) p.part) in (
        λ s. elim (both.0 (subst (λ us. StandsBelow (cells_coming e old m xs ++ cells_coming e old (m + coming_count old xs) ys) us j u) units (subst (λ cs. StandsBelow cs (units_of (xs ++ ys)) j u) cells s))) [
          | inl a ↦ elim (one.0 a) [ inl h ↦ inl (or_left (is_hole_of b p && is_between (rank p.key) (piece_end p) j) (in_hole_of b ps j) h.0, h.1) | inr h ↦ inr (Contains-append_left (cond (is_hole_of b p) [] (part_units (rank p.key) p.part)) (other_units b ps) (j, u.0) h.0, h.1) ]
          | inr a ↦ elim (rest.0 a) [ inl h ↦ inl (or_right (is_hole_of b p && is_between (rank p.key) (piece_end p) j) (in_hole_of b ps j) h.0, h.1) | inr h ↦ inr (Contains-append_right (cond (is_hole_of b p) [] (part_units (rank p.key) p.part)) (other_units b ps) (j, u.0) h.0, h.1) ]
        ],
        λ s. subst (λ cs. StandsBelow cs (units_of (xs ++ ys)) j u) (sym cells) (subst (λ us. StandsBelow (cells_coming e old m xs ++ cells_coming e old (m + coming_count old xs) ys) us j u) (sym units) (both.1 (elim s [
          | inl h ↦ elim (or_cases (is_hole_of b p && is_between (rank p.key) (piece_end p) j) (in_hole_of b ps j) h.0) [ inl a ↦ inl (one.1 (inl (a, h.1))) | inr a ↦ inr (rest.1 (inl (a, h.1))) ]
          | inr h ↦ elim (Contains-append_cases (cond (is_hole_of b p) [] (part_units (rank p.key) p.part)) (other_units b ps) (j, u.0) h.0) [ inl a ↦ inl (one.1 (inr (a, h.1))) | inr a ↦ inr (rest.1 (inr (a, h.1))) ]
        ]))),
      )
