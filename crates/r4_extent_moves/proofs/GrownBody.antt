-- The holes and the blocks that come of a body in extents that grows.
use Rattle.std.proofs.Common.{◌≡◌, inl, inr, ℕ, ◌+◌, ◌*◌, ◌/◌, ◌<◌, ◌≤◌, ◌==◌, ◌^◌, Bool, true, false, List, [], ◌∷◌, Some, refl, sym, ap, subst, ◌∙◌, arith}
use Rattle.std.specs.Prelude.{Contains, ◌||◌}
use Rattle.std.proofs.lemmas.Bool.{and_parts, eqb-true, or_left, or_right}
use Rattle.r4_base.specs.Key.{body_key, key_of_rank, offset_of, rank}
use Rattle.r4_base.specs.Tree.{Store}
use Rattle.r4_base.specs.Value.{Byte, Content, Value, at_key}
use Rattle.r4_base.specs.Volume.{InExtent, blocks_for}
use Rattle.r4_base.proofs.Visible.{byte_back}
use Rattle.r4_content.specs.Edited.{Edits, is_between}
use Rattle.r4_content.proofs.Ranks.{between_is}
use Rattle.r4_applied.proofs.r4_build.r4_leaf_edits.KeyRanks.{key_again}
use Rattle.r4_applied.specs.r4_build.r4_branch.Pieces.{Follow, IsSound, IsSoundPart, part_end, piece_end}
use Rattle.r4_applied.specs.r4_build.r4_branch.declared.piece.TwigPart.{TwigPart}
use Rattle.r4_applied.specs.r4_build.r4_branch.declared.piece.TwigPart.TheVariants.{Blocks, Pointer}
use Rattle.r4_applied.specs.r4_build.r4_branch.declared.piece.TwigPiece.{TwigPiece}
use Rattle.r4_applied.proofs.r4_build.r4_patch.Members.{cases, here, later, none}
use Rattle.r4_applied.proofs.r4_build.r4_path.Rising.{level_is}
use Rattle.r4_applied.proofs.r4_build.r4_path.r4_graft.Parts.{sound_at}
use Rattle.r4_applied.specs.r4_path.TwigPieces.{twig_pieces}
use Rattle.r4_applied.specs.r4_reach.Needs.{is_hole_part}
use Rattle.r4_applied.specs.r4_reach.Touched.{Body, first_byte}
use Rattle.r4_applied.specs.r4_sets_told.r4_cell.Seen.{CellSeen, node_of}
use Rattle.r4_allowed.specs.r4_extent_change.r4_extent_build.Growing.{IsClearFor, end_after, end_before}
use Rattle.r4_allowed.specs.r4_extent_change.r4_extent_build.Looping.{keys_of_each}
use Rattle.r4_allowed.specs.r4_extent_change.r4_extent_build.Setting.{in_coming, in_hole_of, is_hole_of}
use Rattle.r4_allowed.proofs.r4_extent_change.r4_extent_build.TurnEffect.{hole_in, old_units}
use Rattle.r4_allowed.specs.r4_extent_change.Beside.{is_turning, turning_among}
use Rattle.r4_allowed.proofs.r4_extent_change.Chosen.{picked}
use Rattle.r4_extent_moves.specs.Grown.{GrowsBody}
use Rattle.r4_extent_moves.specs.Moving.{ChangesBody, in_body}
use Rattle.r4_extent_moves.proofs.BodyKeys.{at_offset, in_on, offset_at}

-- ---- members

sound_of : (from to : ℕ) (ps : List TwigPiece) (p : TwigPiece) → Follow from to ps → Contains ps p → IsSound p
sound_of from to ps p f (i, low, is) = subst IsSound is (sound_at from to ps i p f low)

-- one of the cells has a key that all of them have
pub one_of : (at : CellSeen → ℕ → Bool) (cs : List CellSeen) (k : ℕ) → keys_of_each at cs k ≡ true
    → (c : CellSeen) × Contains cs c × (at c k ≡ true)
one_of at [] k h = absurd (let f : false ≡ true = h in cc)
one_of at (c ∷ cs) k h = by (at c k) refl h (one_of at cs k)
  where
    by : (t : Bool) → at c k ≡ t → (t || keys_of_each at cs k) ≡ true
        → (keys_of_each at cs k ≡ true → (d : CellSeen) × Contains cs d × (at d k ≡ true))
        → (d : CellSeen) × Contains (c ∷ cs) d × (at d k ≡ true)
    by true on g rest = (c, here c cs, on)
    by false off g rest = let (d, m, on) = rest g in (d, later c d cs m, on)

pub all_of : (at : CellSeen → ℕ → Bool) (cs : List CellSeen) (k : ℕ) (c : CellSeen) → Contains cs c → at c k ≡ true
    → keys_of_each at cs k ≡ true
all_of at [] k c m on = absurd (none c m)
all_of at (d ∷ cs) k c m on = elim (cases d c cs m) [
  | inl same ↦ or_left (at d k) (keys_of_each at cs k) (ap (λ (x : CellSeen). at x k) (sym same) ∙ on)
  | inr more ↦ or_right (at d k) (keys_of_each at cs k) (all_of at cs k c more on)
]

module _ (b : Body) (e : Edits) (u : Store Value) (raw n : Content) (cells : List CellSeen) (keys : CellSeen → ℕ → Bool)
    (h : ChangesBody b e u raw n) (g : GrowsBody b e u raw cells keys) where
  -- ---- keys of the body

  -- a hole that begins at a key of the body lies in it
  hole_ends : (p : TwigPiece) → IsSound p → is_hole_of b p ≡ true → (first_byte b ≤ rank p.key) × (piece_end p ≤ first_byte b + 2 ^ 64)
  hole_ends p sound on = by p.part refl
    where
      at : (is_hole_part p.part ≡ true) × (is_between (first_byte b) (first_byte b + 2 ^ 64) (rank p.key) ≡ true)
      at = and_parts (is_hole_part p.part) (is_between (first_byte b) (first_byte b + 2 ^ 64) (rank p.key)) on

      by : (t : TwigPart) → p.part ≡ t → (first_byte b ≤ rank p.key) × (piece_end p ≤ first_byte b + 2 ^ 64)
      by (Pointer to) is = let f : false ≡ true = sym (ap is_hole_part is) ∙ at.0 in absurd cc
      by (Blocks x) is =
          let (o, lt, key) = offset_at b h.object (rank p.key) at.1 in
          let same : p.key ≡ body_key b.file.locality b.file.ordering b.file.oid o =
          sym (key_again p.key sound.0) ∙ (ap key_of_rank key ∙ byte_back b.file o h.object lt) in
          let off : offset_of p.key ≡ o = ap offset_of same in
          let part : IsSoundPart (offset_of p.key) (Blocks x) = subst (IsSoundPart (offset_of p.key)) is sound.1 in
          let fits : offset_of p.key + 4096 * x.width ≤ 2 ^ 64 = part.1 in
          let end : piece_end p ≡ rank p.key + 4096 * x.width = ap (part_end (rank p.key)) is in
          let step : rank p.key ≡ first_byte b + o = key ∙ at_offset b h.object o in
          (omega (arith, step), omega (arith, step, end, fits, off))

  pub coming_at : (c : CellSeen) (k : ℕ) → in_coming b c k ≡ true → (end_before b ≤ k) × (k < end_after b)
  coming_at c k on = between_is (end_before b) (end_after b) k (and_parts (is_between (rank c.lo) (rank c.hi) (end_before b)) (is_between (end_before b) (end_after b) k) on).1

  pub coming_in_body : (c : CellSeen) (k : ℕ) → in_coming b c k ≡ true → in_body b k ≡ true
  coming_in_body c k on =
      let (low, high) = coming_at c k on in
      let small = g.growing.sized.now in
      let blocks : blocks_for b.now ≡ (b.now + 4095) / 4096 = refl in
      in_on b k (omega (arith, low)) (omega (arith, high, small, blocks))

  -- ---- what stood

  -- a hole of a twig that is packed anew has a 0 at each of its keys, in the body's extents
  pub record IsHole (k : ℕ) : Type 0 where
    pub body : in_body b k ≡ true
    pub value : at_key raw k ≡ Some (Byte 0)
    pub extent : InExtent u k

  pub hole_at : (c : CellSeen) → Contains (turning_among b e cells) c → (k : ℕ) → in_hole_of b (twig_pieces c) k ≡ true → IsHole k
  hole_at c m k on = record {
    body =
        let (p, at, hole, low, high) = hole_in b (twig_pieces c) k on in
        let (from, to) = hole_ends p (sound_of (rank c.lo) (rank c.hi) (twig_pieces c) p clear.pieces.pieces.follow at) hole in
        in_on b k (omega (arith, from, low)) (omega (arith, to, high));
    value = (h.units k (Byte 0)).1 (c.id, node_of c, stands, unit);
    extent = (c.id, node_of c, Byte 0, stands, (λ one. omega (arith, one, level)), unit);
  }
    where
      clear : IsClearFor b c
      clear = g.twigs.clear c m

      of_cells : Contains cells c × (is_turning b e c ≡ true)
      of_cells = picked (is_turning b e) cells c m

      stands : u c.id ≡ Some (node_of c)
      stands = g.cells_in c of_cells.0

      level : (node_of c).level ≡ 2
      level = level_is c ∙ eqb-true c.level 2 (and_parts (c.level == 2) _ of_cells.1).0

      unit : Contains (node_of c).units (k, Byte 0)
      unit = subst (λ (us : List (ℕ × Value)). Contains us (k, Byte 0)) clear.pieces.units ((old_units b (twig_pieces c) k (Byte 0)).1 (inl (on, refl)))
