-- Twigs with other pieces in the place of a row.
use Rattle.std.proofs.Common.{◌≡◌, ◌∙◌, inl, inr, ℕ, suc, ◌+◌, ◌-◌, ◌≤◌, List, [], ◌∷◌, ◌++◌, length, map, take, refl, sym, ap, subst, arith}
use Rattle.std.proofs.lemmas.List.{length-append}
use Rattle.std.proofs.lemmas.List.Elements.{All-append}
use Rattle.std.specs.Prelude.{Contains}
use Rattle.r4_base.specs.Key.{rank}
use Rattle.r4_base.specs.Node.{mkfs_id_of}
use Rattle.r4_base.specs.declared.key.Key.{Key}
use Rattle.r4_branch.specs.Twigs.{AreFewTwigs, PacksTwigs}
use Rattle.r4_branch.specs.declared.piece.TwigPiece.{TwigPiece}
use Rattle.r4_branch.specs.declared.twig.Twig.{Twig}
use Rattle.r4_cell.specs.Seen.{CellSeen}
use Rattle.r4_cell.specs.declared.change.Fresh.{Fresh}
use Rattle.r4_patch.specs.Joining.{ids_of}
use Rattle.r4_path.proofs.Upwards.{long_ids}
use Rattle.r4_path.specs.Nodes.{IsPointable}
use Rattle.r4_path.specs.Grafts.{TwigsHaveMkfsId}
use Rattle.r4_rows.proofs.Fewer.{packs_fewest_twigs}
use Rattle.r4_rows.proofs.TwigPieces.{packed_pieces}
use Rattle.r4_rows.specs.Pieces.{AreTwigsOfPieces}
use Rattle.r4_squeeze.proofs.NodeCells.{filled_ids, filled_many}
use Rattle.r4_squeeze.proofs.PackedLeft.{twigs_filled, twigs_stand}
use Rattle.r4_squeeze.proofs.SqueezedSlums.{AllHaveId, cells_ids, follow_as, same_range, twigs_ids}
use Rattle.r4_squeeze.specs.Packing.{MayStandAll, cells_filled, filled_twig, first_mkfs_id}
use Rattle.r4_squeeze.specs.declared.filled.Filled.{Filled}
use Rattle.r4_row_edit.proofs.Climbs.{able_of, ids_able, least_taken, low_able, none_or_some, numbers_less, stand_less, taken_able}
use Rattle.r4_row_edit.proofs.Counted.{all_taken}
use Rattle.r4_row_edit.specs.Climbing.{CanClimb, HasNumbers, numbers_for}
use Rattle.r4_row_edit.specs.Shifting.{CanShift}
use Rattle.r4_row_edit.proofs.Packed.{some_cells}
use Rattle.r4_row_edit.specs.Numbers.{TakesNumbers}
use Rattle.r4_row_edit.specs.Twigs.{AreTwigsWith, MayGet}

long_filled : (twigs : List Twig) → length (map filled_twig twigs) ≡ length twigs
long_filled [] = refl
long_filled (x ∷ twigs) = ap suc (long_filled twigs)

-- no more twigs come than any way to share the pieces out needs
fewest : (row : List CellSeen) (ps : List TwigPiece) (more : ℕ) (g : MayGet row ps more) (twigs : List Twig)
    → PacksTwigs g.from g.to ps twigs → length twigs ≤ length row + more
fewest row ps more g twigs packs =
    let few = g.few in
    let least = packs_fewest_twigs g.from g.to ps twigs g.each packs g.are g.fit g.one in
    omega (arith, few, least)

module _ (row : List CellSeen) (ps : List TwigPiece) (more : ℕ) (g : MayGet row ps more) (twigs : List Twig)
    (packs : PacksTwigs g.from g.to ps twigs) (filled : List Filled) (same : filled ≡ map filled_twig twigs) where
  pub filled_few : length filled ≤ length row + more
  filled_few =
      let few = fewest row ps more g twigs packs in
      let long = ap length same ∙ long_filled twigs in
      omega (arith, few, long)

  pub filled_may_stand : (hi : ℕ) → hi ≡ g.to → MayStandAll 2 hi filled
  filled_may_stand hi is = subst (λ k. MayStandAll 2 k filled) (sym is)
      (subst (MayStandAll 2 g.to) (sym same) (twigs_stand g.from g.to ps twigs packs))

  module _ (m : ℕ) (few : AreFewTwigs ps twigs) (own : TwigsHaveMkfsId m twigs) (b : List ℕ) (block : m ≡ mkfs_id_of b)
      (first : m ≡ first_mkfs_id row) (before after : Fresh) (ns : List ℕ)
      (t : TakesNumbers (ids_of row) (length filled) before after ns) (lo hi : Key) (begin : rank lo ≡ g.from)
      (end : rank hi ≡ g.to) (cells : List CellSeen) (are : cells ≡ cells_filled 2 ns hi filled) where
    enough : length filled ≤ length ns
    enough = let many = t.many in omega (arith, many)

    long : length cells ≡ length filled
    long = ap length are ∙ filled_many 2 ns hi filled enough

    all_ids : ids_of cells ≡ ns
    all_ids = ap ids_of are ∙ (filled_ids 2 ns hi filled
        ∙ (ap (λ k. take k ns) (filled_many 2 ns hi filled enough)
        ∙ all_taken (ids_of row) (length filled) before after ns t))

    are_twigs : AreTwigsOfPieces g.from g.to (ids_of cells) ps cells
    are_twigs =
        let many : length ns ≡ length twigs = t.many ∙ (ap length same ∙ long_filled twigs) in
        let packs-2 : PacksTwigs (rank lo) (rank hi) ps twigs = subst (λ k. PacksTwigs k (rank hi) ps twigs) (sym begin)
        (subst (λ k. PacksTwigs g.from k ps twigs) (sym end) packs) in
        let made = packed_pieces lo hi ps twigs ns b packs-2 few (subst (λ k. TwigsHaveMkfsId k twigs) block own) many in
        subst (λ is. AreTwigsOfPieces g.from g.to is ps cells) (sym all_ids)
        (subst (λ k. AreTwigsOfPieces k g.to ns ps cells) begin
        (subst (λ k. AreTwigsOfPieces (rank lo) k ns ps cells) end
        (subst (AreTwigsOfPieces (rank lo) (rank hi) ns ps)
        (sym (twigs_filled 0 0 ns hi twigs) ∙ (ap (cells_filled 2 ns hi) (sym same) ∙ sym are)) made)))

    pub twigs_are : AreTwigsWith row ps before after cells
    twigs_are = record {
      from = g.from;
      to = g.to;
      along = g.along;
      twigs = are_twigs;
      grows = λ other h.
          let (level, from, to) = same_range 2 2 g.from g.to h.from h.to row
          (some_cells 2 g.from g.to row g.some g.along) g.along h.along in
          let few-2 = fewest row ps other h twigs
          (subst (λ k. PacksTwigs k h.to ps twigs) from (subst (λ k. PacksTwigs g.from k ps twigs) to packs)) in
          let count = ap length same ∙ long_filled twigs in
          let cells_many = long in
          omega (arith, few-2, count, cells_many);
      taken = t.taken;
      ids = all_ids ∙ (t.are ∙ ap (λ k. take k (ids_of row) ++ t.taken) (sym long));
      count = t.counts;
      left = t.left;
      mkfs_id = λ c at. cells_ids m 2 ns hi filled
          (subst (AllHaveId m) (sym same) (twigs_ids m twigs own)) c (subst (λ cs. Contains cs c) are at) ∙ first;
    }

-- ---- the rows above may be packed anew over them

pub can_climb_on : (row cells : List CellSeen) (ps : List TwigPiece) (above : List (List CellSeen)) (more : ℕ)
    (before mid : Fresh) → CanShift row ps above more before → AreTwigsWith row ps before mid cells
    → CanClimb 2 (record { old = row; new = cells }) above mid
can_climb_on row cells ps above more before mid can w =
    let grown = w.grows more can.may in
    let few = can.few in
    let less : length cells - length row ≤ more = omega (arith, grown) in
    record {
      low = omega arith;
      up = stand_less (length cells - length row) more 2 row above less can.up;
      ranges = λ m a b f.
          let (lm, fa, tb) = same_range 2 m w.from w.to a b row
          (some_cells 2 can.may.from can.may.to row can.may.some can.may.along) w.along f in
          follow_as 2 m w.from w.to a b cells lm fa tb w.twigs.has.follow;
      able = λ some. able_of (take (length cells) (ids_of row) ++ w.taken) cells w.ids
          (All-append IsPointable (take (length cells) (ids_of row)) w.taken
          (ids_able (length cells) row (low_able more 2 row above can.up (omega (arith, some, less))))
          (taken_able before.next more (more + numbers_for more above) before w.taken refl taken_few (omega arith)
          can.numbers w.count));
      further = w.taken;
      ids = w.ids;
      few = omega (arith, grown, few);
      height = λ one. can.height (omega (arith, one, grown));
      ordered = elim (none_or_some more) [
        | inl none ↦ let took = taken_few in let order = can.ordered in omega (arith, none, took, next, end, order)
        | inr some ↦ let enough = (have some).enough in omega (arith, enough)
      ];
      numbers = λ one. have (omega (arith, one, grown));
    }
  where
    taken_few : length w.taken ≤ more
    taken_few =
        let ids = ap length w.ids in
        let many = long_ids cells in
        let both = length-append (take (length cells) (ids_of row)) w.taken in
        let grown = w.grows more can.may in
        let front = least_taken (length cells) (ids_of row) in
        let rows_many = long_ids row in
        omega (arith, ids, many, both, grown, front, rows_many)

    next : mid.next ≡ before.next + length w.taken
    next = ap (λ (f : Fresh). f.next) w.left

    end : mid.end ≡ before.end
    end = ap (λ (f : Fresh). f.end) w.left

    have : 1 ≤ more → HasNumbers (numbers_for (length cells - length row) above) mid
    have some =
        let h = can.numbers some in
        let unplaced = h.unplaced in
        let enough = h.enough in
        let fits = h.fits in
        let took = taken_few in
        let at = next in
        let to = end in
        let grown = w.grows more can.may in
        let fewer = numbers_less (length cells - length row) more above (omega (arith, grown)) in
        record {
          unplaced = omega (arith, unplaced, at);
          enough = omega (arith, at, took, to, enough, fewer);
          fits = omega (arith, to, fits);
        }

pub room_for : (row : List CellSeen) (ps : List TwigPiece) (above : List (List CellSeen)) (more : ℕ) (fresh : Fresh)
    → CanShift row ps above more fresh → fresh.next + more ≤ fresh.end
room_for row ps above more fresh can = elim (none_or_some more) [
  | inl none ↦ let order = can.ordered in omega (arith, none, order)
  | inr some ↦ let enough = (can.numbers some).enough in omega (arith, enough)
]
