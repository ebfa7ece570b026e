-- Holes of a body of which no block gets bytes stay.
use Rattle.std.proofs.Common.{◌≡◌, ℕ, ◌+◌, ◌-◌, ◌*◌, ◌^◌, ◌<◌, Bool, true, false, cond, List, [], ◌∷◌, ◌++◌, refl, sym, ap, subst, ◌∙◌, arith}
use Rattle.std.specs.Prelude.{◌||◌, ◌&&◌, nat_lt}
use Rattle.std.specs.List.{flat_map}
use Rattle.std.proofs.lemmas.Bool.{eqb-true}
use Rattle.r4_base.specs.Extents.{is_hole}
use Rattle.r4_base.specs.Key.{key_of_rank, offset_of, rank}
use Rattle.r4_base.specs.declared.key.Key.{Key}
use Rattle.r4_extent_build.specs.r4_branch.Pieces.{Follow, IsSound, IsSoundPart, part_end, piece_end}
use Rattle.r4_extent_build.specs.r4_branch.declared.piece.TwigPart.{TwigPart}
use Rattle.r4_extent_build.specs.r4_branch.declared.piece.TwigPart.TheVariants.{Blocks, Pointer}
use Rattle.r4_extent_build.specs.r4_branch.declared.piece.TwigPiece.{TwigPiece}
use Rattle.r4_content.specs.Edited.{Edits}
use Rattle.r4_extent_build.proofs.r4_graft.Placed.{has_end}
use Rattle.r4_extent_build.specs.r4_leaf.Units.{is_between}
use Rattle.r4_extent_build.proofs.r4_leaf_edits.KeyRanks.{key_again}
use Rattle.r4_extent_build.specs.r4_reach.Needs.{filled, gets_bytes, runs}
use Rattle.r4_extent_build.specs.r4_reach.Touched.{Body, coming, first_byte, going}
use Rattle.r4_extent_build.proofs.r4_work.UnitMembers.{between}
use Rattle.r4_extent_build.specs.Growing.{end_after, end_before}
use Rattle.r4_extent_build.proofs.r4_extent_demands.Low.{at_offset}
use Rattle.r4_extent_build.proofs.r4_extent_demands.Runs.{hole_some, quiet_runs}
use Rattle.r4_extent_loss.specs.Losing.{IsLosing}

module _ (b : Body) (first : Key) (e : Edits) (g : IsLosing b first e) where
  -- the keys of the blocks that go, and that none come
  pub going_is : going b ≡ (end_after b, end_before b)
  going_is = ap (λ (t : Bool). cond t (end_after b, end_before b) (0, 0)) g.in_extents

  pub coming_is : coming b ≡ (end_before b, end_after b)
  coming_is =
      ap (λ (t : Bool). cond (t || nat_lt 16384 b.now) (cond b.in_extents (end_before b) (first_byte b), end_after b) (0, 0)) g.in_extents
      ∙ ap (λ (t : Bool). (cond t (end_before b) (first_byte b), end_after b)) g.in_extents

  both_on : (x y : Bool) → (x && y) ≡ true → (x ≡ true) × (y ≡ true)
  both_on true y h = (refl, h)
  both_on false y h = absurd cc

  pub calm_piece : (p : TwigPiece) → IsSound p → filled b e p ≡ p ∷ []
  calm_piece p sound = by_part p.part refl
    where
      front : (t : TwigPart) → p.part ≡ t → filled b e p ≡ filled b e (record p { part = t })
      front t is = ap (λ (x : TwigPart). filled b e (record p { part = x })) is

      back : (t : TwigPart) → p.part ≡ t → record p { part = t } ∷ [] ≡ p ∷ []
      back t is = ap (λ (x : TwigPart). record p { part = x } ∷ []) (sym is)

      by_part : (t : TwigPart) → p.part ≡ t → filled b e p ≡ p ∷ []
      by_part (Pointer to) is = front (Pointer to) is ∙ back (Pointer to) is
      by_part (Blocks u) is = by_test (is_hole u && is_between (first_byte b) (first_byte b + 2 ^ 64) (rank p.key)) refl
        where
          by_test : (t : Bool) → (is_hole u && is_between (first_byte b) (first_byte b + 2 ^ 64) (rank p.key)) ≡ t → filled b e p ≡ p ∷ []
          by_test false h = front (Blocks u) is ∙ (ap (λ (t : Bool). cond t (runs (gets_bytes b e) (rank p.key) u.width) (record p { part = Blocks u } ∷ [])) h ∙ back (Blocks u) is)
          by_test true h =
              let (hole, inside) = both_on (is_hole u) (is_between (first_byte b) (first_byte b + 2 ^ 64) (rank p.key)) h in
              let start : u.start ≡ 0 = eqb-true u.start 0 hole in
              let (low, high) = between (first_byte b) (first_byte b + 2 ^ 64) (rank p.key) inside in
              let lies : IsSoundPart (offset_of p.key) (Blocks u) = subst (IsSoundPart (offset_of p.key)) is sound.1 in
              let room = lies.1 in
              let offset : offset_of p.key ≡ rank p.key - first_byte b = ap offset_of (sym (key_again p.key sound.0)) ∙ at_offset b first g.key (rank p.key) low high in
              let some : 0 < u.width = let n = has_end p sound in let m : piece_end p ≡ rank p.key + 4096 * u.width = ap (part_end (rank p.key)) is in omega (arith, n, m) in
              front (Blocks u) is
              ∙ (ap (λ (t : Bool). cond t (runs (gets_bytes b e) (rank p.key) u.width) (record p { part = Blocks u } ∷ [])) h
              ∙ (quiet_runs (gets_bytes b e) (rank p.key) u.width (λ i lt. g.quiet (rank p.key + 4096 * i) (omega (arith, low)) (omega (arith, lt, room, offset, low)))
              ∙ (hole_some (key_of_rank (rank p.key)) u.width some
              ∙ ((λ i. record { key = key_again p.key sound.0 i; part = Blocks (record { start = sym start i; width = u.width }) } ∷ [])
              ∙ back (Blocks u) is))))

  pub calm_pieces : (from to : ℕ) (ps : List TwigPiece) → Follow from to ps → flat_map (filled b e) ps ≡ ps
  calm_pieces from to [] f = refl
  calm_pieces from to (p ∷ ps) f = (λ i. calm_piece p f.1 i ++ calm_pieces (piece_end p) to ps f.2 i)
