-- The turn of a twig of a body that grows is one of a twig that is packed anew.
use Rattle.std.proofs.Common.{◌≡◌, inl, inr, ℕ, ◌+◌, ◌^◌, ◌≤◌, Bool, true, false, List, [], ◌∷◌, length, refl, sym, ap, subst, ◌∙◌, arith}
use Rattle.std.specs.Prelude.{Contains, Some}
use Rattle.r4_base.specs.Key.{rank}
use Rattle.r4_base.specs.Tree.{IsData, Name}
use Rattle.r4_base.specs.declared.key.Key.{Key}
use Rattle.r4_extent_demands.specs.r4_branch.Pieces.{AreTwigPieces, names_of, twig_bytes}
use Rattle.r4_extent_demands.specs.r4_branch.declared.piece.TwigPiece.{TwigPiece}
use Rattle.r4_extent_demands.specs.r4_cell.Seen.{CellSeen, node_of}
use Rattle.r4_content.specs.Edited.{Edits}
use Rattle.r4_extent_demands.proofs.r4_patch.Members.{cases, have_names, none}
use Rattle.r4_extent_demands.specs.r4_path.TwigPieces.{twig_pieces}
use Rattle.r4_extent_demands.proofs.r4_path.Rising.{hi_is, lo_is}
use Rattle.r4_extent_demands.specs.r4_reach.Needs.{pieces_after}
use Rattle.r4_extent_demands.specs.r4_reach.Touched.{Body}
use Rattle.r4_extent_blocks.proofs.MadeCells.{new_whole}
use Rattle.r4_extent_blocks.specs.Setting.{new_cell}
use Rattle.r4_twig_turns.specs.Turning.{IsTurnOf}
use Rattle.r4_extent_build.specs.Growing.{IsClearFor, IsGrowing, MayBePacked}
use Rattle.r4_extent_build.specs.Numbering.{block_name, cells_coming, is_coming, names_coming, with_numbers}
use Rattle.r4_extent_build.specs.Turns.{growing_turn}
use Rattle.r4_extent_build.proofs.Numbers.{cells_named, cells_off, cells_on, names_off, names_on}
use Rattle.r4_extent_build.proofs.PackedTwigs.{may_be_packed}

module _ (old : List TwigPiece) where
  names_data : (n : ℕ) (ps : List TwigPiece) (m : Name) → Contains (names_coming old n ps) m → IsData m
  unfolding names_coming
  names_data n [] m at = absurd (none m at)
  names_data n (p ∷ ps) m at = by_test (is_coming old p) refl (λ k h. names_data k ps m h)
    where
      by_test : (b : Bool) → is_coming old p ≡ b → ((k : ℕ) → Contains (names_coming old k ps) m → IsData m) → IsData m
      by_test false t rest = rest n (subst (λ ns. Contains ns m) (names_off old n p ps t) at)
      by_test true t rest = elim (cases (block_name (rank p.key) n) m (names_coming old (n + 1) ps) (subst (λ ns. Contains ns m) (names_on old n p ps t) at)) [
        | inl is ↦ ap (λ (x : Name). x.level) is
        | inr more ↦ rest (n + 1) more
      ]

  pub cells_whole : (e : Edits) (n : ℕ) (ps : List TwigPiece) (c : CellSeen) → Contains (cells_coming e old n ps) c → (c.level ≡ 0) × (length c.block ≡ 4096)
  unfolding cells_coming
  cells_whole e n [] c at = absurd (none c at)
  cells_whole e n (p ∷ ps) c at = by_test (is_coming old p) refl (λ k h. cells_whole e k ps c h)
    where
      by_test : (b : Bool) → is_coming old p ≡ b → ((k : ℕ) → Contains (cells_coming e old k ps) c → (c.level ≡ 0) × (length c.block ≡ 4096)) → (c.level ≡ 0) × (length c.block ≡ 4096)
      by_test false t rest = rest n (subst (λ cs. Contains cs c) (cells_off old e n p ps t) at)
      by_test true t rest = elim (cases (new_cell e n p.key) c (cells_coming e old (n + 1) ps) (subst (λ cs. Contains cs c) (cells_on old e n p ps t) at)) [
        | inl is ↦ (ap (λ (x : CellSeen). x.level) is, ap (λ (x : CellSeen). length x.block) is ∙ new_whole e (rank p.key))
        | inr more ↦ rest (n + 1) more
      ]

module _ (b : Body) (first : Key) (e : Edits) (twig : CellSeen) (g : IsGrowing b first) (c : IsClearFor b twig) (small : twig_bytes (pieces_after (Some b) e (node_of twig) []) ≤ 16000) (n : ℕ) (high : 2 ^ 63 ≤ n) where
  abbrev ps : List TwigPiece
  ps = twig_pieces twig

  abbrev qs : List TwigPiece
  qs = pieces_after (Some b) e (node_of twig) []

  packed : MayBePacked twig n qs
  packed = may_be_packed b first e twig g c n high

  pub turn_of : IsTurnOf (node_of twig) (growing_turn b e twig) n
  turn_of =
      let p = packed in
      record {
        pieces = subst (λ k. AreTwigPieces k (node_of twig).hi (with_numbers ps n qs)) (sym (lo_is twig)) (subst (λ k. AreTwigPieces (rank twig.lo) k (with_numbers ps n qs)) (sym (hi_is twig)) p.pieces);
        bytes = let s = p.bytes in omega (arith, s, small);
        data_names = names_coming ps n qs;
        blocks = record { names = cells_named ps e n qs; whole = λ x m. (cells_whole ps e n qs x m).1 };
        of_data = names_data ps n qs;
        block_numbers = p.numbers;
        block_count = p.count;
        goes = λ x m. absurd (none x m);
        names = λ m.
            let h = p.names m in (
              λ x. elim (h.0 (subst (λ k. Contains (names_of k (with_numbers ps n qs)) m) (hi_is twig) x)) [
                | inl was ↦ inl (was, λ y. none y.0 y.1)
                | inr new ↦ inr (inr new)
              ],
              λ x. subst (λ k. Contains (names_of k (with_numbers ps n qs)) m) (sym (hi_is twig)) (h.1 (elim x [
                | inl was ↦ inl was.0
                | inr more ↦ elim more [ inl nothing ↦ absurd (none nothing.0 nothing.1) | inr new ↦ inr new ]
              ])),
            );
        nodes = λ x m. absurd (none x m);
        low = λ x m. let h = (cells_whole ps e n qs x m).0 in omega (arith, h);
        old = have_names [] tt;
        new = have_names [] tt;
        mine = [];
        each = λ x m. absurd (none x m);
        few = omega arith;
        leaf_numbers = tt;
        leaf_count = omega arith;
      }
