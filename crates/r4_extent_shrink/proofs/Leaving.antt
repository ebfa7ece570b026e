-- What may leave a twig, as its pieces and names tell it.
use Rattle.std.proofs.Common.{◌≡◌, ◌⊎◌, inl, inr, ℕ, ◌+◌, ◌-◌, ◌*◌, ◌/◌, ◌%◌, ◌^◌, ◌<◌, ◌≤◌, Bool, true, false, List, sym, ap, ◌∙◌, arith}
use Rattle.std.specs.Prelude.{◌&&◌, ◌||◌, ◌==◌, None, Some, if◌then◌else◌, nat_le, nat_lt, not}
use Rattle.std.specs.List.{list_all, list_any}
use Rattle.std.proofs.lemmas.Bool.{and_parts, eq-eqb, eqb-true, leb-true, ltb-true}
use Rattle.r4_base.specs.Key.{offset_of, rank}
use Rattle.r4_base.specs.Tree.{Name}
use Rattle.r4_base.specs.declared.key.Key.{Key}
use Rattle.r4_extent_growth.specs.r4_extent_change.Among.{is_losing}
use Rattle.r4_extent_growth.proofs.Found.{some_of}
use Rattle.r4_extent_growth.proofs.Turns.{each, off, part_ends, second}
use Rattle.r4_extent_growth.specs.Turning.{ends_by}
use Rattle.r4_extent_growth.specs.r4_extent_loss.Losing.{gone_from, gone_to}
use Rattle.r4_extent_growth.proofs.r4_measure.r4_work.Remade.{or_true}
use Rattle.r4_extent_growth.specs.r4_measure.r4_branch.Pieces.{open_end, part_end, piece_end}
use Rattle.r4_extent_growth.specs.r4_measure.r4_branch.declared.piece.TwigPart.{TwigPart}
use Rattle.r4_extent_growth.specs.r4_measure.r4_branch.declared.piece.TwigPart.TheVariants.{Blocks, Pointer}
use Rattle.r4_extent_growth.specs.r4_measure.r4_branch.declared.piece.TwigPiece.{TwigPiece}
use Rattle.r4_extent_growth.specs.r4_measure.r4_cell.Seen.{CellSeen, node_of}
use Rattle.r4_extent_growth.specs.r4_measure.r4_leaf.Units.{is_between}
use Rattle.r4_extent_growth.specs.r4_measure.r4_path.TwigPieces.{twig_pieces}
use Rattle.r4_extent_growth.specs.r4_measure.r4_reach.Touched.{Body}
use Rattle.r4_extent_shrink.specs.Going.{HasNumber, IsKnown, MayLeave, block_suits, has_key, has_number, is_behind, is_border, leaf_suits, may_leave, name_suits, pieces_suit}

border_is : (k : ℕ) (p : TwigPiece) → is_border k p ≡ true → rank p.key < k → k < piece_end p → (n : ℕ) × (k ≡ rank p.key + 4096 * n)
border_is k p h low high = elim (or_true (nat_le k (rank p.key)) (ends_by k p || (k % 4096 == rank p.key % 4096)) h) [
  | inl before ↦ let le = leb-true k (rank p.key) before in absurd (omega (arith, le, low))
  | inr more ↦ elim (or_true (ends_by k p) (k % 4096 == rank p.key % 4096) more) [
    | inl ends ↦ let le = part_ends p.key p.part k ends in absurd (omega (arith, le, high))
    | inr same ↦ let e = eqb-true (k % 4096) (rank p.key % 4096) same in (k / 4096 - rank p.key / 4096, omega (arith, e, low))
  ]
]

behind_is : (k : ℕ) (key : Key) (t : TwigPart) → is_behind k (open_end (record { key = key; part = t })) ≡ true → k < part_end (rank key) t
behind_is k key (Pointer to) h = absurd cc
behind_is k key (Blocks u) h = by_test (nat_lt (offset_of key + 4096 * u.width) (2 ^ 64)) h
  where
    by_test : (v : Bool) → is_behind k (if v then Some (rank key + 4096 * u.width) else None) ≡ true → k < rank key + 4096 * u.width
    by_test true e = ltb-true k (rank key + 4096 * u.width) e
    by_test false e = absurd cc

number_is : (cells : List CellSeen) (id : ℕ) → has_number cells id ≡ true → HasNumber cells id
number_is cells id h = let (c, at, on) = some_of (λ (x : CellSeen). x.id == id) cells h in (c, at, eqb-true c.id id on)

module _ (from to : ℕ) (cells : List CellSeen) (n : Name) (h : name_suits from to cells n ≡ true) where
  as_leaf : n.level ≡ 1 → leaf_suits from to cells n.lo n.hi n.id ≡ true
  as_leaf level = sym (ap (λ (l : ℕ). if l == 0 then block_suits from to cells n.lo n.id else leaf_suits from to cells n.lo n.hi n.id) level) ∙ h

  as_block : n.level ≡ 0 → block_suits from to cells n.lo n.id ≡ true
  as_block level = sym (ap (λ (l : ℕ). if l == 0 then block_suits from to cells n.lo n.id else leaf_suits from to cells n.lo n.hi n.id) level) ∙ h

  leaf_clear : n.level ≡ 1 → (n.hi ≤ from) ⊎ (to ≤ n.lo)
  leaf_clear level =
      let (clear, left) = and_parts (nat_le to n.lo || nat_le n.hi from) (not (n.hi == from) || has_number cells n.id) (as_leaf level) in
      elim (or_true (nat_le to n.lo) (nat_le n.hi from) clear) [
        | inl behind ↦ inr (leb-true to n.lo behind)
        | inr before ↦ inl (leb-true n.hi from before)
      ]

  leaf_left : n.level ≡ 1 → n.hi ≡ from → HasNumber cells n.id
  leaf_left level ends =
      let (clear, left) = and_parts (nat_le to n.lo || nat_le n.hi from) (not (n.hi == from) || has_number cells n.id) (as_leaf level) in
      number_is cells n.id (second (not (n.hi == from)) (has_number cells n.id) (off (n.hi == from) (eq-eqb n.hi from ends)) left)

  block_there : n.level ≡ 0 → is_between from to n.lo ≡ true → HasNumber cells n.id
  block_there level inside =
      number_is cells n.id (second (not (is_between from to n.lo)) (has_number cells n.id) (off (is_between from to n.lo) inside) (as_block level))

pub leaving : (b : Body) (cells : List CellSeen) (c : CellSeen) → IsKnown b c → is_losing b c ≡ true → may_leave b cells c ≡ true → MayLeave b cells c
leaving b cells c known losing h =
    let from = gone_from b c in
    let to = gone_to b c in
    let ps = twig_pieces c in
    let (pieces, names) = and_parts (pieces_suit from to ps) (list_all (name_suits from to cells) (node_of c).names) h in
    let (first, more) = and_parts (list_all (is_border from) ps) (list_all (is_border to) ps && list_any (has_key from) ps) pieces in
    let (last, some) = and_parts (list_all (is_border to) ps) (list_any (has_key from) ps) more in
    let (p, at, on) = some_of (has_key from) ps some in
    let (low, high) = and_parts (nat_le (rank p.key) from) (is_behind from (open_end p)) on in
    record {
      pieces = known.pieces losing;
      first_border = λ q in_q. border_is from q (each (is_border from) ps first q in_q);
      last_border = λ q in_q. border_is to q (each (is_border to) ps last q in_q);
      begins = (p, at, leb-true (rank p.key) from low, behind_is from p.key p.part high);
      clear = λ n in_n. leaf_clear from to cells n (each (name_suits from to cells) (node_of c).names names n in_n);
      blocks = λ n in_n. block_there from to cells n (each (name_suits from to cells) (node_of c).names names n in_n);
      left = λ n in_n. leaf_left from to cells n (each (name_suits from to cells) (node_of c).names names n in_n);
      mkfs_id = known.mkfs_id losing;
    }
