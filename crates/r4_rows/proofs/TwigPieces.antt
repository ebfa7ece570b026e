-- A row of twigs by the pieces of its twigs.
use Rattle.std.proofs.Common.{map, ◌≡◌, ◌⊎◌, inl, inr, ℕ, ◌+◌, ◌≤◌, List, [], ◌∷◌, ◌++◌, length, refl, sym}
use Rattle.std.proofs.Common.{ap, subst}
use Rattle.std.proofs.Common.{◌∙◌, arith}
use Rattle.std.specs.Prelude.{◌↔◌, Contains}
use Rattle.std.proofs.lemmas.List.Elements.{Contains-append_cases, Contains-append_left, Contains-append_right}
use Rattle.r4_base.specs.Key.{rank}
use Rattle.r4_base.specs.Node.{mkfs_id_of}
use Rattle.r4_base.specs.Tree.{Name, Store}
use Rattle.r4_base.specs.Value.{Value}
use Rattle.r4_base.specs.declared.key.Key.{Key}
use Rattle.r4_branch.specs.Pieces.{names_of, next_of, units_of}
use Rattle.r4_branch.specs.Pieces.{Follow as PiecesFollow}
use Rattle.r4_branch.specs.Twigs.{AreFewTwigs, PacksTwigs}
use Rattle.r4_branch.specs.declared.piece.TwigPiece.{TwigPiece}
use Rattle.r4_branch.specs.declared.twig.Twig.{Twig}
use Rattle.r4_branch.proofs.ItemPieces.{units_append}
use Rattle.r4_cell.specs.Seen.{CellSeen}
use Rattle.r4_graft.proofs.SplicedNames.{spliced_names}
use Rattle.r4_patch.specs.Joining.{ids_of}
use Rattle.r4_path.specs.Grafts.{IsTwigLevel, TwigsHaveMkfsId, twig_cells}
use Rattle.r4_path.specs.Levels.{units_of_cells}
use Rattle.r4_path.specs.Steps.{AreNaming, Follow, name_of}
use Rattle.r4_path.proofs.Grown.{map_names, names_map}
use Rattle.r4_path.proofs.TwigCells.{twigs_step}
use Rattle.r4_rows.specs.Fewest.{joined}
use Rattle.r4_rows.specs.Packed.{AreSlumPieces, renumbered}
use Rattle.r4_rows.specs.Pieces.{ArePointersTo, AreTwigsOfPieces, PiecesBelow, pointer_to}
use Rattle.r4_rows.specs.Rows.{AreNamedAfter, AreThere, IsRow, Row}
use Rattle.r4_rows.proofs.LeafSlum.{follow_new, sound_new, units_new}
use Rattle.r4_rows.proofs.SlumPieces.{slum_pieces, twig_pieces}
use Rattle.r4_rows.proofs.TwigSlum.{any_twig, long_twigs, naming_new, new_naming}

-- ---- packed twigs with any numbers

all_ids : (ids : List ℕ) (cells : List CellSeen) → length cells ≡ length ids → ids_of (renumbered ids cells) ≡ ids
all_ids [] cells e = refl
all_ids (i ∷ ids) [] e = absurd (omega (arith, e))
all_ids (i ∷ ids) (c ∷ cells) e = ap (λ (is : List ℕ). i ∷ is) (all_ids ids cells (omega (arith, e)))

pub packed_pieces : (lo hi : Key) (ps : List TwigPiece) (twigs : List Twig) (ids b : List ℕ)
    → PacksTwigs (rank lo) (rank hi) ps twigs → AreFewTwigs ps twigs → TwigsHaveMkfsId (mkfs_id_of b) twigs
    → length ids ≡ length twigs
    → AreTwigsOfPieces (rank lo) (rank hi) ids ps (renumbered ids (twig_cells 0 0 hi twigs))
packed_pieces lo hi ps [] ids b p few own many = absurd p
packed_pieces lo hi ps (x ∷ more) ids b p few own many =
    let step : IsTwigLevel (any_twig lo hi b) ps (record { next = 0; end = 0 })
    (record { next = 0 + length more; end = 0 })
    (record { old = any_twig lo hi b; new = twig_cells 0 0 hi (x ∷ more) }) =
    twigs_step (any_twig lo hi b) ps (x ∷ more) x more (record { next = 0; end = 0 })
    (record { next = 0 + length more; end = 0 })
    (record { old = any_twig lo hi b; new = twig_cells 0 0 hi (x ∷ more) }) refl p few refl refl refl own in
    let row = step.row in
    let long = long_twigs 0 0 hi (x ∷ more) in
    let same : length (twig_cells 0 0 hi (x ∷ more)) ≡ length ids = omega (arith, long, many) in
    let le : length (twig_cells 0 0 hi (x ∷ more)) ≤ length ids = omega (arith, long, many) in
    record {
      has = record {
        follow = follow_new 2 (rank lo) (rank hi) ids (twig_cells 0 0 hi (x ∷ more)) le row.ranges;
        names = λ n. (
          λ h. (row.names n).0 (naming_new ids (twig_cells 0 0 hi (x ∷ more)) n le h),
          λ h. new_naming ids (twig_cells 0 0 hi (x ∷ more)) n le ((row.names n).1 h),
        );
        units = units_new ids (twig_cells 0 0 hi (x ∷ more)) le ∙ row.units;
      };
      numbers = all_ids ids (twig_cells 0 0 hi (x ∷ more)) same;
      sound = sound_new ids (twig_cells 0 0 hi (x ∷ more)) row.sound;
    }

-- ---- pointers to leaves

points_next : (from to : ℕ) (cells : List CellSeen) → Follow 1 from to cells → next_of to (map pointer_to cells) ≡ from
points_next from to [] e = sym e
points_next from to (c ∷ cells) f = f.1

points_name : (from to : ℕ) (cells : List CellSeen) → Follow 1 from to cells
    → names_of to (map pointer_to cells) ≡ map name_of cells
unfolding names_of
points_name from to [] e = refl
points_name from to (c ∷ cells) (level, at, less, rest) =
    let next = points_next (rank c.hi) to cells rest in
    let more = points_name (rank c.hi) to cells rest in
    (λ j. record { id = c.id; level = sym level j; lo = rank c.lo; hi = next j } ∷ more j)

points_units : (cells : List CellSeen) → units_of (map pointer_to cells) ≡ []
unfolding units_of
points_units [] = refl
points_units (c ∷ cells) = points_units cells

pub pieces_point : (from to : ℕ) (cells : List CellSeen) → Follow 1 from to cells
    → ArePointersTo from to cells (map pointer_to cells)
pieces_point from to cells f =
    let is = points_name from to cells f in
    record {
      begin = points_next from to cells f;
      names = λ n. (
        λ h. names_map cells n (subst (λ ns. Contains ns n) is h),
        λ h. subst (λ ns. Contains ns n) (sym is) (map_names cells n h),
      );
      units = points_units cells;
    }

-- ---- the row

module _ (b s : Row) (is : PiecesBelow b s) where
  slum : AreSlumPieces s.old is.from is.to (joined is.each) is.each
  slum = slum_pieces s.old is.from is.to is.each is.were is.some is.pieces

  follow : PiecesFollow is.from is.to (is.before ++ (is.gone ++ is.behind))
  follow = subst (PiecesFollow is.from is.to) is.had
      (twig_pieces s.old is.from is.to is.each is.were is.some is.pieces).follow

  old_names : (n : Name) → AreNaming s.old n ↔ Contains (names_of is.to (is.before ++ (is.gone ++ is.behind))) n
  old_names n = subst (λ ps. AreNaming s.old n ↔ Contains (names_of is.to ps) n) is.had (slum.names n)

  spliced : (n : Name) → Contains (names_of is.to (is.before ++ (is.come ++ is.behind))) n
      ↔ ((Contains (names_of is.to (is.before ++ (is.gone ++ is.behind))) n
      × (Contains (names_of (next_of is.to is.behind) is.gone) n → ⊥))
      ⊎ Contains (names_of (next_of is.to is.behind) is.come) n)
  spliced n = spliced_names is.to is.from is.to is.before is.gone is.come is.behind follow
      (ap (λ (k : ℕ). names_of k is.before) is.begin) n

  named_after : (n : Name) → AreNaming s.new n ↔ AreNamedAfter b s n
  named_after n = (
    λ h. elim ((spliced n).0 ((is.have.names n).0 h)) [
      | inl stays ↦ inl ((old_names n).1 stays.0, λ g. stays.1 ((is.names_old n).1 g))
      | inr comes ↦ inr ((is.names_new n).0 comes)
    ],
    λ h. (is.have.names n).1 ((spliced n).1 (elim h [
      | inl stays ↦ inl ((old_names n).0 stays.0, λ g. stays.1 ((is.names_old n).0 g))
      | inr comes ↦ inr ((is.names_new n).1 comes)
    ])),
  )

  -- what the pieces that go name, the old twigs name
  leads : (c : CellSeen) → Contains b.old c → AreNaming s.old (name_of c)
  leads c mc = (old_names (name_of c)).1 (gone_named (name_of c) ((is.names_old (name_of c)).1 (c, mc, refl)))
    where
      gone_named : (n : Name) → Contains (names_of (next_of is.to is.behind) is.gone) n
          → Contains (names_of is.to (is.before ++ (is.gone ++ is.behind))) n
      gone_named n at = (spliced_names is.to is.from is.to is.before is.gone is.gone is.behind follow refl n).1 (inr at)

  pub pieces_row : (t : Store Value) → AreThere t s.old → IsRow t 2 b s
  pieces_row t there = record {
    from = is.from;
    to = is.to;
    were = is.were;
    are = is.have.follow;
    there = there;
    leads = leads;
    names = named_after;
  }

  -- ---- units

  in_middle : (ms : List TwigPiece) (w : ℕ × Value) → Contains (units_of (is.before ++ (ms ++ is.behind))) w
      → Contains (units_of (is.before ++ is.behind)) w ⊎ Contains (units_of ms) w
  in_middle ms w at = elim (Contains-append_cases (units_of is.before) (units_of (ms ++ is.behind)) w
      (subst (λ us. Contains us w) (units_append is.before (ms ++ is.behind)) at)) [
        | inl first ↦ inl (subst (λ us. Contains us w) (sym (units_append is.before is.behind))
            (Contains-append_left (units_of is.before) (units_of is.behind) w first))
        | inr more ↦ elim (Contains-append_cases (units_of ms) (units_of is.behind) w
            (subst (λ us. Contains us w) (units_append ms is.behind) more)) [
              | inl mine ↦ inr mine
              | inr last ↦ inl (subst (λ us. Contains us w) (sym (units_append is.before is.behind))
                  (Contains-append_right (units_of is.before) (units_of is.behind) w last))
            ]
      ]

  of_middle : (ms : List TwigPiece) (w : ℕ × Value)
      → Contains (units_of (is.before ++ is.behind)) w ⊎ Contains (units_of ms) w
      → Contains (units_of (is.before ++ (ms ++ is.behind))) w
  of_middle ms w h = subst (λ us. Contains us w) (sym (units_append is.before (ms ++ is.behind))) (elim h [
    | inl beside ↦ elim (Contains-append_cases (units_of is.before) (units_of is.behind) w
        (subst (λ us. Contains us w) (units_append is.before is.behind) beside)) [
          | inl first ↦ Contains-append_left (units_of is.before) (units_of (ms ++ is.behind)) w first
          | inr last ↦ Contains-append_right (units_of is.before) (units_of (ms ++ is.behind)) w
              (subst (λ us. Contains us w) (sym (units_append ms is.behind))
              (Contains-append_right (units_of ms) (units_of is.behind) w last))
        ]
    | inr mine ↦ Contains-append_right (units_of is.before) (units_of (ms ++ is.behind)) w
        (subst (λ us. Contains us w) (sym (units_append ms is.behind))
        (Contains-append_left (units_of ms) (units_of is.behind) w mine))
  ])

  old_units : units_of_cells s.old ≡ units_of (is.before ++ (is.gone ++ is.behind))
  old_units = slum.units ∙ ap units_of is.had

  nothing : (w : ℕ × Value) → units_of is.gone ≡ [] → Contains (units_of is.gone) w → ⊥
  nothing w e at = let (k, less, is_at) = subst (λ (us : List (ℕ × Value)). Contains us w) e at in
      omega (arith, less)

  pub pieces_units : units_of is.gone ≡ [] → (w : ℕ × Value) → Contains (units_of_cells s.new) w
      ↔ (Contains (units_of_cells s.old) w ⊎ Contains (units_of is.come) w)
  pieces_units e w = (
    λ h. elim (in_middle is.come w (subst (λ us. Contains us w) is.have.units h)) [
      | inl beside ↦ inl (subst (λ us. Contains us w) (sym old_units) (of_middle is.gone w (inl beside)))
      | inr mine ↦ inr mine
    ],
    λ h. subst (λ us. Contains us w) (sym is.have.units) (of_middle is.come w (elim h [
      | inl was ↦ elim (in_middle is.gone w (subst (λ us. Contains us w) old_units was)) [
        | inl beside ↦ inl beside
        | inr goes ↦ absurd (nothing w e goes)
      ]
      | inr mine ↦ inr mine
    ])),
  )

  all_units : (ms : List TwigPiece) → units_of (is.before ++ (ms ++ is.behind))
      ≡ units_of is.before ++ (units_of ms ++ units_of is.behind)
  all_units ms = units_append is.before (ms ++ is.behind)
      ∙ ap (λ us. units_of is.before ++ us) (units_append ms is.behind)

  pub pieces_keep : units_of is.come ≡ units_of is.gone → units_of_cells s.new ≡ units_of_cells s.old
  pieces_keep e =
      is.have.units
      ∙ (all_units is.come
      ∙ (ap (λ us. units_of is.before ++ (us ++ units_of is.behind)) e
      ∙ (sym (all_units is.gone) ∙ sym old_units)))
