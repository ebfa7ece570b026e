-- What the tests of a body and of a twig say.
use Rattle.std.proofs.Common.{◌≡◌, ◌⊎◌, inl, inr, ℕ, ◌+◌, ◌*◌, ◌/◌, ◌^◌, ◌<◌, ◌≤◌, Bool, true, false, List, [], refl, sym, ap, subst, ◌∙◌, arith}
use Rattle.std.specs.Prelude.{◌&&◌, ◌||◌, Contains, None, Some, if◌then◌else◌, is_some, nat_le, nat_lt, not, take}
use Rattle.std.specs.List.{list_all}
use Rattle.std.proofs.lemmas.Bool.{and_parts, leb-true, lt-ltb, ltb-true}
use Rattle.std.proofs.lemmas.List.Sums.{AllPass-from_list_all}
use Rattle.r4_base.specs.Key.{offset_of, rank}
use Rattle.r4_base.specs.declared.key.Key.{Key}
use Rattle.r4_content.specs.Edited.{Edits, is_between}
use Rattle.r4_twig_asks.specs.r4_graft.Places.{HasGap}
use Rattle.r4_twig_asks.specs.r4_graft.Splices.{place}
use Rattle.r4_extent_change.proofs.r4_measure.r4_work.Remade.{or_true}
use Rattle.r4_extent_change.specs.r4_measure.r4_branch.Pieces.{last_end, part_end, piece_end, twig_bytes}
use Rattle.r4_extent_change.specs.r4_measure.r4_branch.declared.piece.TwigPart.{TwigPart}
use Rattle.r4_extent_change.specs.r4_measure.r4_branch.declared.piece.TwigPart.TheVariants.{Blocks, Pointer}
use Rattle.r4_extent_change.specs.r4_measure.r4_branch.declared.piece.TwigPiece.{TwigPiece}
use Rattle.r4_extent_change.specs.r4_measure.r4_cell.Seen.{CellSeen, node_of}
use Rattle.r4_extent_change.specs.r4_measure.r4_path.TwigPieces.{ArePiecesOf, twig_pieces}
use Rattle.r4_extent_change.specs.r4_measure.r4_reach.Needs.{pieces_after}
use Rattle.r4_extent_change.specs.r4_measure.r4_reach.Touched.{Body, coming, first_byte}
use Rattle.r4_extent_change.specs.r4_extent_build.Growing.{IsClearFor, IsGrowing, end_after, end_before}
use Rattle.r4_extent_change.specs.r4_extent_build.Numbering.{is_coming}
use Rattle.r4_extent_growth.specs.Turning.{HasTurn, comes_into, ends_by, has_gap, has_next, is_clear, is_open_by, may_be_packed, may_turn, stands_clear}
use Rattle.r4_extent_growth.proofs.Gaps.{gap_behind_unit}

-- what holds of all, holds of each
pub each : {A : Type 0} (p : A → Bool) (xs : List A) → list_all p xs ≡ true → (x : A) → Contains xs x → p x ≡ true
each p xs all x (k, lt, is) = subst (λ y. p y ≡ true) is (AllPass-from_list_all p xs all k x lt)

pub second : (x y : Bool) → x ≡ false → (x || y) ≡ true → y ≡ true
second true y h e = absurd cc
second false y h e = e

pub off : (x : Bool) → x ≡ true → not x ≡ false
off true h = refl
off false h = absurd cc

-- ---- the body

-- where blocks come, where a body grows
pub comes_from : (b : Body) (first : Key) → IsGrowing b first → coming b ≡ (end_before b, end_after b)
comes_from b first g = by_kind b.in_extents refl
  where
    spread : (v : Bool) → b.in_extents ≡ v → coming b ≡ (if v then end_before b else first_byte b, end_after b)
    spread v h = (λ i. if g.spread i then (if b.in_extents then end_before b else first_byte b, end_after b) else (0, 0))
        ∙ ap (λ (w : Bool). (if w then end_before b else first_byte b, end_after b)) h

    none : b.was ≡ 0 → first_byte b ≡ end_before b
    none h = let at : end_before b ≡ first_byte b + 4096 * 0 = ap (λ n. first_byte b + 4096 * ((n + 4095) / 4096)) h in omega (arith, at)

    by_kind : (v : Bool) → b.in_extents ≡ v → coming b ≡ (end_before b, end_after b)
    by_kind true h = spread true h
    by_kind false h = spread false h ∙ elim g.stood [
      | inl stood ↦ let no = sym h ∙ stood in absurd cc
      | inr empty ↦ (λ i. (none empty i, end_after b))
    ]

-- ---- a piece

pub part_ends : (key : Key) (t : TwigPart) (k : ℕ) → ends_by k (record { key = key; part = t }) ≡ true → part_end (rank key) t ≤ k
part_ends key (Pointer to) k h = let lt = ltb-true (rank key) k h in omega (arith, lt)
part_ends key (Blocks u) k h = by_test (nat_lt (offset_of key + 4096 * u.width) (2 ^ 64)) h
  where
    by_test : (v : Bool) → is_open_by k (if v then Some (rank key + 4096 * u.width) else None) ≡ true → rank key + 4096 * u.width ≤ k
    by_test true e = leb-true (rank key + 4096 * u.width) k e
    by_test false e = absurd cc

-- ---- a twig

module _ (b : Body) (first : Key) (g : IsGrowing b first) (c : CellSeen) (are : ArePiecesOf c (twig_pieces c)) where
  abbrev ps : List TwigPiece
  ps = twig_pieces c

  clear_pieces : list_all (stands_clear b) ps ≡ true → (p : TwigPiece) → Contains ps p → (piece_end p ≤ end_before b) ⊎ (end_after b ≤ rank p.key)
  clear_pieces all p at =
      let h : (nat_le (end_after b) (rank p.key) || ends_by (end_before b) p) ≡ true
      = subst (λ (r : ℕ × ℕ). (nat_le r.1 (rank p.key) || ends_by r.0 p) ≡ true) (comes_from b first g) (each (stands_clear b) ps all p at) in
      elim (or_true (nat_le (end_after b) (rank p.key)) (ends_by (end_before b) p) h) [
        | inl behind ↦ inr (leb-true (end_after b) (rank p.key) behind)
        | inr before ↦ inl (part_ends p.key p.part (end_before b) before)
      ]

  clear_is : is_clear b c ps ≡ true → IsClearFor b c
  clear_is h =
      let (all, room) = and_parts (list_all (stands_clear b) ps) (not (comes_into b c) || has_gap b c ps) h in
      let clear = clear_pieces all in
      record { pieces = are; clear = clear; gap = λ inside some. gap_is clear room inside some }
    where
      gap_is : ((p : TwigPiece) → Contains ps p → (piece_end p ≤ end_before b) ⊎ (end_after b ≤ rank p.key)) → (not (comes_into b c) || has_gap b c ps) ≡ true
          → is_between (rank c.lo) (rank c.hi) (end_before b) ≡ true → end_before b < end_after b → HasGap (rank c.lo) (rank c.hi) (end_before b) (end_after b) ps
      gap_is clear room inside some =
          let come = comes_from b first g in
          let into : comes_into b c ≡ true
          = (λ i. is_between (rank c.lo) (rank c.hi) (come i).0 && nat_lt (come i).0 (come i).1)
          ∙ (λ i. inside i && lt-ltb (end_before b) (end_after b) some i) in
          let gap : has_gap b c ps ≡ true = second (not (comes_into b c)) (has_gap b c ps) (off (comes_into b c) into) room in
          let told : (nat_le (end_after b) (rank c.hi) && is_some (last_end None (take (place (end_before b) ps) ps))) ≡ true
          = subst (λ (r : ℕ × ℕ). (nat_le r.1 (rank c.hi) && is_some (last_end None (take (place r.0 ps) ps))) ≡ true) come gap in
          let (high, unit) = and_parts _ _ told in
          let (low, below) = and_parts (nat_le (rank c.lo) (end_before b)) (nat_lt (end_before b) (rank c.hi)) inside in
          gap_behind_unit (rank c.lo) (rank c.hi) (end_before b) (end_after b) ps are.pieces.follow
          (leb-true (rank c.lo) (end_before b) low) some (leb-true (end_after b) (rank c.hi) high) clear unit

  pub has_turn : (e : Edits) → c.level ≡ 2 → may_turn b e c ≡ true → HasTurn b e c
  has_turn e level h =
      let new : List TwigPiece = pieces_after (Some b) e (node_of c) [] in
      let (clear, packed) = and_parts (is_clear b c ps) (may_be_packed ps new) h in
      let (near, bytes) = and_parts (list_all (has_next ps) new) (nat_le (twig_bytes new) 16000) packed in
      record {
        twig = record {
          level = level;
          near = λ p at comes. ltb-true (offset_of p.key + 4096) (2 ^ 64)
              (second (not (is_coming ps p)) (nat_lt (offset_of p.key + 4096) (2 ^ 64)) (off (is_coming ps p) comes) (each (has_next ps) new near p at));
        };
        clear = clear_is clear;
        bytes = leb-true (twig_bytes new) 16000 bytes;
      }
