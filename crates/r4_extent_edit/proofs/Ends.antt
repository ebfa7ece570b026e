-- Where the pieces of an extent end.
use Rattle.std.proofs.Common.{◌≡◌, ℕ, ◌+◌, ◌*◌, ◌^◌, ◌<◌, List, [], ◌∷◌, length, refl, sym, ap, subst, ◌∙◌, arith}
use Rattle.r4_base.specs.Cell.{item_end}
use Rattle.r4_base.specs.Extents.{blocks_in, units_of as units_of_body}
use Rattle.r4_base.specs.Key.{offset_of, rank, later}
use Rattle.r4_base.specs.Node.{Item}
use Rattle.r4_base.specs.declared.items.Unit.{Unit as ExtentUnit}
use Rattle.r4_base.specs.declared.key.Key.{Key}
use Rattle.r4_work.specs.r4_branch.Pieces.{item_pieces, unit_pieces}
use Rattle.r4_work.specs.r4_branch.declared.piece.TwigPart.TheVariants.{Blocks}
use Rattle.r4_work.specs.r4_branch.declared.piece.TwigPiece.{TwigPiece}
use Rattle.r4_work.proofs.r4_branch.ItemPieces.{extent_pieces}
use Rattle.r4_work.proofs.r4_branch.SoundItems.{extent_item}
use Rattle.r4_work.proofs.r4_branch.UnitPieces.{rank_later}
use Rattle.r4_work.specs.r4_edit.Extents.{IsGivenExtent}
use Rattle.r4_work.proofs.r4_edit.OverPieces.{item_some}
use Rattle.r4_extent_edit.specs.Between.{EndsAt, HasKeyBehind}

units_end : (k : Key) (n : ℕ) (u : ExtentUnit) (us : List ExtentUnit)
    → offset_of k + 4096 * (n + blocks_in (u ∷ us)) < 2 ^ 64
    → EndsAt (rank k + 4096 * (n + blocks_in (u ∷ us))) (unit_pieces k n (u ∷ us))
units_end k n u [] fits =
    let at = rank_later k (4096 * n) in
    record {
      before = [];
      key = later k (4096 * n);
      unit = u;
      is = refl;
      end = omega (arith, at);
      below = omega (arith, fits);
    }
units_end k n u (v ∷ us) fits =
    let r = units_end k (n + u.width) v us (omega (arith, fits)) in
    let end = r.end in
    record {
      before = record { key = later k (4096 * n); part = Blocks u } ∷ r.before;
      key = r.key;
      unit = r.unit;
      is = ap (λ ps. record { key = later k (4096 * n); part = Blocks u } ∷ ps) r.is;
      end = omega (arith, end);
      below = r.below;
    }

-- An extent's pieces end where it does.
pub extent_ends : (it : Item) → IsGivenExtent it → HasKeyBehind it → EndsAt (item_end it) (item_pieces it)
extent_ends it given fits = by_units (units_of_body it.body) refl
  where
    by_units : (us : List ExtentUnit) → us ≡ units_of_body it.body → EndsAt (item_end it) (item_pieces it)
    by_units [] same =
        let some = item_some it given in
        let none : length {A = TwigPiece} (item_pieces it) ≡ 0 = ap length (extent_pieces it given.plugin)
        ∙ ap (λ us. length (unit_pieces it.key 0 us)) (sym same) in
        absurd (omega (arith, some, none))
    by_units (u ∷ us) same =
        let e = (extent_item it given.plugin given.sound).end in
        let count : blocks_in (u ∷ us) ≡ blocks_in (units_of_body it.body) = ap blocks_in same in
        let to : rank it.key + 4096 * (0 + blocks_in (u ∷ us)) ≡ item_end it = omega (arith, e, count) in
        subst (λ ps. EndsAt (item_end it) ps) (sym (extent_pieces it given.plugin))
        (subst (λ vs. EndsAt (item_end it) (unit_pieces it.key 0 vs)) same
        (subst (λ (n : ℕ). EndsAt n (unit_pieces it.key 0 (u ∷ us))) to (units_end it.key 0 u us (omega
        (arith, fits, count)))))
