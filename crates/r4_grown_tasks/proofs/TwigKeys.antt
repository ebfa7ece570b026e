-- The keys at which bytes come into a twig of a growing body: those of the body's holes, and those of
-- the blocks that come. The twig holds them.
use Rattle.std.proofs.Common.{◌≡◌, inl, inr, ℕ, zero, suc, ◌+◌, ◌*◌, ◌<◌, ◌≤◌, Bool, true, false, List, []}
use Rattle.std.proofs.Common.{◌∷◌, refl, sym, ap, subst, ◌∙◌, arith}
use Rattle.std.specs.Prelude.{Contains, ◌||◌, if◌then◌else◌}
use Rattle.std.proofs.lemmas.Bool.{and_parts, or_cases, or_left, or_right}
use Rattle.std.proofs.lemmas.List.Elements.{Contains-append_cases}
use Rattle.r4_base.specs.Cell.{run_names}
use Rattle.r4_base.specs.Extents.{is_hole}
use Rattle.r4_base.specs.Key.{rank}
use Rattle.r4_base.specs.Tree.{Holds, InName, IsNode, Name}
use Rattle.r4_base.specs.Value.{Byte, Value}
use Rattle.r4_content.specs.Edited.{Edits, is_between}
use Rattle.r4_content.proofs.Ranks.{between_is}
use Rattle.r4_lost_tasks.specs.r4_extent_growth.r4_extent_build.Growing.{IsClearFor, end_after, end_before}
use Rattle.r4_lost_tasks.specs.r4_extent_growth.r4_extent_build.Setting.{AreKeysOf, in_coming, in_hole_of}
use Rattle.r4_lost_tasks.specs.r4_extent_growth.r4_extent_build.r4_graft.Places.{HasGap}
use Rattle.r4_lost_tasks.specs.r4_extent_growth.r4_measure.r4_branch.Pieces.{Follow, names_of, next_of, part_end, part_names, piece_end}
use Rattle.r4_lost_tasks.specs.r4_extent_growth.r4_measure.r4_branch.declared.piece.TwigPart.{TwigPart}
use Rattle.r4_lost_tasks.specs.r4_extent_growth.r4_measure.r4_branch.declared.piece.TwigPart.TheVariants.{Blocks, Pointer}
use Rattle.r4_lost_tasks.specs.r4_extent_growth.r4_measure.r4_branch.declared.piece.TwigPiece.{TwigPiece}
use Rattle.r4_lost_tasks.specs.r4_extent_growth.r4_measure.r4_cell.Seen.{CellSeen, node_of}
use Rattle.r4_lost_tasks.specs.r4_extent_growth.r4_measure.r4_path.TwigPieces.{twig_pieces}
use Rattle.r4_lost_tasks.specs.r4_extent_growth.r4_measure.r4_reach.Touched.{Body}
use Rattle.r4_lost_tasks.proofs.r4_extent_growth.r4_extent_change.r4_extent_build.TurnEffect.{old_units}
use Rattle.r4_lost_tasks.proofs.r4_extent_growth.r4_extent_change.r4_extent_build.r4_extent_edit.PutEffect.{twig_holds}
use Rattle.r4_lost_tasks.proofs.r4_extent_growth.r4_extent_change.r4_extent_build.r4_patch.Holding.{unit_held}
use Rattle.r4_lost_tasks.proofs.r4_extent_growth.r4_graft.Joined.{names_join}
use Rattle.r4_lost_tasks.proofs.r4_extent_growth.r4_graft.Placed.{first_or_later, follow_end, has_end, not_in_none}
use Rattle.r4_lost_tasks.proofs.r4_extent_growth.r4_graft.SplicedNames.{names_begin}

-- ---- where names end

runs_end : (k start count : ℕ) (n : Name) → Contains (run_names k start count) n → n.hi ≤ k + 4096 * count
runs_end k start zero n at = absurd (not_in_none n at)
runs_end k start (suc m) n at = elim (first_or_later _ _ n at) [
  | inl is ↦ let e : k + 4096 ≡ n.hi = ap (λ (x : Name). x.hi) is in omega (arith, e)
  | inr more ↦ let r = runs_end (k + 4096) (start + 1) m n more in omega (arith, r)
]

part_ends : (k next hi : ℕ) (t : TwigPart) (n : Name) → part_end k t ≤ hi → next ≤ hi
    → Contains (part_names k next t) n → n.hi ≤ hi
part_ends k next hi (Pointer to) n end le at = elim (first_or_later _ [] n at) [
  | inl is ↦ let e : next ≡ n.hi = ap (λ (x : Name). x.hi) is in omega (arith, e, le)
  | inr none ↦ absurd (not_in_none n none)
]
part_ends k next hi (Blocks u) n end le at = by_hole (is_hole u) at
  where
    by_hole : (t : Bool) → Contains (if t then [] else run_names k u.start u.width) n → n.hi ≤ hi
    by_hole true none = absurd (not_in_none n none)
    by_hole false here = let r = runs_end k u.start u.width n here in omega (arith, r, end)

next_before : (from to hi : ℕ) (ps : List TwigPiece) → Follow from to ps → to ≤ hi → next_of hi ps ≤ hi
next_before from to hi [] f le = omega arith
next_before from to hi (p ∷ ps) f le =
    let end = has_end p f.1 in
    let rest = follow_end (piece_end p) to ps f.2 in
    omega (arith, end, rest, le)

-- what pieces name ends where the last one's range does
names_end : (from to hi : ℕ) (ps : List TwigPiece) (n : Name) → Follow from to ps → to ≤ hi
    → Contains (names_of hi ps) n → n.hi ≤ hi
unfolding names_of
names_end from to hi [] n f le at = absurd (not_in_none n at)
names_end from to hi (p ∷ ps) n f le at =
    elim (Contains-append_cases (part_names (rank p.key) (next_of hi ps) p.part) (names_of hi ps) n at) [
      | inl mine ↦
          let rest = follow_end (piece_end p) to ps f.2 in
          part_ends (rank p.key) (next_of hi ps) hi p.part n (omega (arith, rest, le)) (next_before (piece_end p) to hi ps f.2 le) mine
      | inr more ↦ names_end (piece_end p) to hi ps n f.2 le more
    ]

-- no name has a key of a gap
gap_free : (lo hi from to k : ℕ) (ps : List TwigPiece) → HasGap lo hi from to ps → from ≤ k → k < to → (n : Name)
    → Contains (names_of hi ps) n → InName n k → ⊥
gap_free lo hi from to k ps gap low high n at (start, end) =
    elim (Contains-append_cases (names_of (next_of hi gap.behind) gap.before) (names_of hi gap.behind) n
    (subst (λ ns. Contains ns n) (names_join hi gap.before gap.behind)
    (subst (λ qs. Contains (names_of hi qs) n) gap.is at))) [
      | inl mine ↦
          let e = names_end lo from from gap.before n gap.low (omega arith)
          (subst (λ ns. Contains ns n) (sym (gap.left from)) mine) in
          omega (arith, e, low, end)
      | inr more ↦ let s = (names_begin to hi hi gap.behind n gap.high more).0 in omega (arith, s, high, start)
    ]

-- ---- the keys

-- those of the body's holes in the twig, and of the blocks that come into it
abbrev pub coming_keys : Body → CellSeen → ℕ → Bool
coming_keys b c k = in_hole_of b (twig_pieces c) k || in_coming b c k

module _ (b : Body) (e : Edits) (c : CellSeen) (node : IsNode (node_of c)) (level : c.level ≡ 2) (clear : IsClearFor b c) where
  hole_held : (k : ℕ) → in_hole_of b (twig_pieces c) k ≡ true → Holds (node_of c) k
  hole_held k on =
      unit_held (node_of c) k (Byte 0) node
      (subst (λ (us : List (ℕ × Value)). Contains us (k, Byte 0)) clear.pieces.units
      ((old_units b (twig_pieces c) k (Byte 0)).1 (inl (on, refl))))

  coming_held : (k : ℕ) → in_coming b c k ≡ true → Holds (node_of c) k
  coming_held k on =
      let (inside, between) = and_parts (is_between (rank c.lo) (rank c.hi) (end_before b))
      (is_between (end_before b) (end_after b) k) on in
      let (low, high) = between_is (end_before b) (end_after b) k between in
      let (start, _) = between_is (rank c.lo) (rank c.hi) (end_before b) inside in
      let gap = clear.gap inside (omega (arith, low, high)) in
      let behind = follow_end (end_after b) (rank c.hi) gap.behind gap.high in
      twig_holds c k node level (omega (arith, start, low)) (omega (arith, high, behind)) (λ n at in_n.
      gap_free (rank c.lo) (rank c.hi) (end_before b) (end_after b) k (twig_pieces c) gap low high n
      (subst (λ ns. Contains ns n) (sym clear.pieces.names) at) in_n)

  pub keys_of : AreKeysOf b e c (coming_keys b c)
  keys_of = record {
    held = λ k on. elim (or_cases (in_hole_of b (twig_pieces c) k) (in_coming b c k) on) [
      | inl hole ↦ hole_held k hole
      | inr come ↦ coming_held k come
    ];
    within = λ k on. or_cases (in_hole_of b (twig_pieces c) k) (in_coming b c k) on;
    coming = λ k on. or_right (in_hole_of b (twig_pieces c) k) (in_coming b c k) on;
    holes = λ k off hole. absurd (let f : true ≡ false = sym (or_left (in_hole_of b (twig_pieces c) k) (in_coming b c k) hole) ∙ off in cc);
  }
