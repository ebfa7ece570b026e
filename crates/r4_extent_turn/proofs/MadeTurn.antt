-- What is made for the turn of a twig of a body that comes to extents, as the calls tell it.
use Rattle.std.proofs.Common.{◌≡◌, ℕ, ◌+◌, ◌*◌, ◌^◌, ◌<◌, ◌≤◌, inl, inr, true, List, [], ◌∷◌, ◌++◌, refl, sym, ap, subst, ◌∙◌, arith}
use Rattle.std.specs.Prelude.{Contains, None, Option, Some, option_map}
use Rattle.r4_base.specs.Key.{offset_of, rank}
use Rattle.r4_base.specs.declared.key.Key.{Key}
use Rattle.r4_build.specs.r4_branch.Pieces.{Follow, IsSound, part_end, piece_end}
use Rattle.r4_build.specs.r4_branch.declared.piece.TwigPiece.{TwigPiece}
use Rattle.r4_extent_build.specs.r4_cell.Seen.{CellSeen}
use Rattle.r4_extent_build.specs.r4_cell.declared.change.Fresh.{Fresh}
use Rattle.r4_content.specs.Edited.{Edits}
use Rattle.r4_extent_build.specs.r4_edit.Extents.{given_cells, pointer_to}
use Rattle.r4_extent_build.specs.r4_edit.LeafParts.{HasRight}
use Rattle.r4_extent_build.specs.r4_extent_blocks.Setting.{byte_set, last_put}
use Rattle.r4_extent_build.specs.Growing.{end_after}
use Rattle.r4_extent_build.specs.Numbering.{CanNumber, IsNumbered, is_coming}
use Rattle.r4_extent_build.proofs.Numbers.{told}
use Rattle.r4_extent_build.specs.r4_extent_edit.Between.{pieces_over}
use Rattle.r4_extent_build.proofs.r4_extent_edit.SpanBorders.{follow_within}
use Rattle.r4_build.specs.r4_measure.Grafting.{Beside}
use Rattle.r4_build.proofs.r4_patch.Members.{cases, none}
use Rattle.r4_build.specs.r4_reach.Touched.{Body, first_byte}
use Rattle.r4_extent_turn.specs.Gathering.{units_within}
use Rattle.r4_extent_turn.specs.Keeping.{KeepsEnds}
use Rattle.r4_extent_turn.specs.Turning.{AreKept, IsTurningBody, Kept, Turn, blocks_turned, last_of, left_pointer}
use Rattle.r4_extent_turn.specs.Turning.{leaves_of, numbered, right_number, set_over, tails_of, told_extent, with_id}
use Rattle.r4_extent_turn.specs.TurningIn.{IsMadeFor, numbers_to_turn}
use Rattle.r4_extent_turn.proofs.Bodies.{count, fits, told_follow}
use Rattle.r4_extent_turn.proofs.GivenLeaves.{near}
use Rattle.r4_extent_turn.proofs.OverBlocks.{same_cells}
use Rattle.r4_extent_turn.proofs.SetOver.{or_none}

-- ---- numbers for the blocks

pub sound_of : (from to : ℕ) (ps : List TwigPiece) (q : TwigPiece) → Follow from to ps → Contains ps q → IsSound q
sound_of from to [] q f m = absurd (none q m)
sound_of from to (r ∷ rs) q f m = elim (cases r q rs m) [ inl is ↦ subst IsSound (sym is) f.1 | inr more ↦ sound_of (piece_end r) to rs q f.2 more ]

module _ (b : Body) (first : Key) (g : IsTurningBody b first) (e : Edits) where
  near_end : (p : TwigPiece) → Contains (told_extent b e) p → is_coming [] p ≡ true → offset_of p.key + 4096 < 2 ^ 64
  near_end p at on =
      let follow = told_follow b first g e in
      let w = follow_within (first_byte b) (end_after b) (told_extent b e) p follow at in
      let ends : piece_end p ≡ rank p.key + 4096 * 1 = ap (part_end (rank p.key)) (told [] p on).is in
      let is = g.key.at in
      let f = fits b first g in
      let o = g.key.begins in
      let n = near first p.key 4096 (4096 * count b first g) (sound_of (first_byte b) (end_after b) (told_extent b e) p follow at).0 g.key.begins (omega (arith, w, is)) (omega (arith, w, ends, is)) (omega (arith, f, o)) in
      omega (arith, n, f, o)

  pub can_number : (ps : List TwigPiece) (f : Fresh) → ps ≡ told_extent b e → f.next + numbers_to_turn b e ≤ f.end → CanNumber [] ps f
  can_number ps f is enough = subst (λ qs. CanNumber [] qs f) (sym is) (record { numbers = omega (arith, enough); near = near_end })

-- ---- what stays of the last leaf under its number

same_id : (leaf : CellSeen) (key : Key) (i : ℕ) (o : Option CellSeen) → HasRight leaf key i o → o ≡ option_map (with_id i) o
same_id leaf key i None h = refl
same_id leaf key i (Some c) h = λ j. Some (record c { id = h.number j })

module _ (b : Body) (e : Edits) (x : Turn) (f f1 f2 : Fresh) (tails : Edits) (ps extent : List TwigPiece) (blocks : List CellSeen) (from to : Key) (left right : Option CellSeen)
    (from_is : rank from ≡ first_byte b) (to_is : rank to ≡ end_after b) (ps_is : ps ≡ told_extent b e)
    (tails_are : (k : ℕ) → byte_set tails k ≡ last_put (units_within (rank from) (rank to) (leaves_of x)) k)
    (num : IsNumbered [] ps (set_over tails e) f f1 extent blocks) (keeps : KeepsEnds x from to f1 f2 left right) where
  abbrev s : Kept
  s = record { left = left; right = right }

  numbers : IsNumbered [] (told_extent b e) (set_over tails e) f f1 extent blocks
  numbers = subst (λ qs. IsNumbered [] qs (set_over tails e) f f1 extent blocks) ps_is num

  next : f1.next ≡ f.next + blocks_turned b e
  next = ap (λ (h : Fresh). h.next) numbers.left

  right_is : right ≡ (numbered x (f.next + blocks_turned b e) s).right
  right_is = same_id (last_of x) to (right_number x f1.next) right keeps.right_is
      ∙ ap (λ (n : ℕ). option_map (with_id (right_number x n)) right) next

  same_tails : (k : ℕ) → byte_set tails k ≡ byte_set (tails_of b x) k
  same_tails k = tails_are k ∙ ((λ i. last_put (units_within (from_is i) (to_is i) (leaves_of x)) k) ∙ sym (or_none (last_put (units_within (first_byte b) (end_after b) (leaves_of x)) k)))

  pub kept_are : AreKept b x s
  kept_are = record {
    from = from;
    from_is = from_is;
    left = keeps.left_is;
    to = to;
    to_is = to_is;
    right_id = right_number x f1.next;
    right = keeps.right_is;
  }

  pub made_for : (pieces : List TwigPiece) (beside : Beside) (cells : List CellSeen)
      → pieces ≡ pieces_over (rank x.leaf.lo) (rank to) (left_pointer left ++ (extent ++ pointer_to right)) x.twig
      → beside ≡ record { below = record { old = leaves_of x; new = given_cells left ++ given_cells right }; blocks = blocks }
      → cells ≡ given_cells left ++ given_cells right → IsMadeFor b e x f f2 pieces beside cells
  made_for pieces beside cells pieces_is beside_is cells_is = record {
    kept = s;
    are = kept_are;
    pieces_are = pieces_is ∙ (λ i. pieces_over (rank x.leaf.lo) (to_is i) (left_pointer left ++ (numbers.pieces i ++ pointer_to (right_is i))) x.twig);
    beside_is = beside_is ∙ (λ i. record {
      below = record { old = leaves_of x; new = given_cells left ++ given_cells (right_is i) };
      blocks = (numbers.cells ∙ same_cells tails (tails_of b x) e same_tails [] f.next (told_extent b e)) i;
    });
    cells_are = cells_is ∙ (λ i. given_cells left ++ given_cells (right_is i));
    left =
        let n = next in
        let m = ap (λ (h : Fresh). h.next) keeps.number in
        let end : f2.end ≡ f.end = ap (λ (h : Fresh). h.end) keeps.number ∙ ap (λ (h : Fresh). h.end) numbers.left in
        let at : f2.next ≡ f.next + (blocks_turned b e + 2) = omega (arith, n, m) in
        (λ i. record { next = at i; end = end i });
  }
