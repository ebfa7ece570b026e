-- Which pieces twigs get.
use Rattle.std.proofs.Common.{◌≡◌, ◌∙◌, ℕ, ◌≤◌, List, [], ◌∷◌, length, map, refl, sym, ap, subst}
use Rattle.std.specs.Prelude.{Contains}
use Rattle.std.specs.Arc.{arc_value}
use Rattle.r4_work.specs.r4_branch.Pieces.{next_of}
use Rattle.r4_work.specs.r4_branch.declared.piece.TwigPiece.{TwigPiece}
use Rattle.r4_work.specs.r4_cell.Seen.{CellSeen}
use Rattle.r4_work.proofs.r4_patch.Members.{none}
use Rattle.r4_rows.specs.Fewest.{joined}
use Rattle.r4_rows.specs.Packed.{AreTheirPieces}
use Rattle.r4_row_gather.specs.Clearing.{Fate, IsCleared, MayHave, Stays, coming, going, staying}
use Rattle.r4_row_gather.specs.Finding.{IsRowFrom}
use Rattle.r4_row_gather.specs.Parting.{AreParts}
use Rattle.r4_row_gather.specs.Planning.{IsPlanOf}
use Rattle.r4_row_gather.specs.declared.clearing.Clearing.{Clearing}
use Rattle.r4_row_gather.specs.declared.planning.Plan.{Plan}

-- ---- all stay

abbrev all_stay : List TwigPiece → List Fate
all_stay [] = []
all_stay (p ∷ ps) = Stays ∷ all_stay ps

staying_all : (ps : List TwigPiece) → staying ps (all_stay ps) ≡ ps
staying_all [] = refl
staying_all (p ∷ ps) = ap (λ qs. p ∷ qs) (staying_all ps)

none_coming : (ps : List TwigPiece) → coming (all_stay ps) ≡ []
none_coming [] = refl
none_coming (p ∷ ps) = none_coming ps

none_going : (ps : List TwigPiece) → going (all_stay ps) ≡ []
none_going [] = refl
none_going (p ∷ ps) = none_going ps

may_stay : (hi : ℕ) (ps : List TwigPiece) → MayHave hi ps (all_stay ps)
may_stay hi [] = tt
may_stay hi (p ∷ ps) = ((λ pointer. ap (next_of hi) (staying_all ps)), may_stay hi ps)

-- ---- the plans

module _ (cells : List CellSeen) (begin from to hi : ℕ) (x : Plan) (row : IsRowFrom cells 2 begin hi x.row)
    (each : List (List TwigPiece)) (pieces : AreTheirPieces x.row each)
    (few : length x.parts.items ≤ length x.row) where
  pub plan_to_clear : (ps : List TwigPiece) (end : ℕ) (y : Clearing) → ps ≡ joined each → end ≡ hi
      → IsCleared cells from to end ps y → x.below.old ≡ map (λ c. arc_value c) y.gone.items
      → x.below.new ≡ map (λ c. arc_value c) y.come.items
      → AreParts y.pieces.items (map (λ v. v.items) x.parts.items) → IsPlanOf cells from to x
  plan_to_clear ps end y same at is gone come parts =
      let may = subst (λ k. MayHave k (joined each) is.fates) at
      (subst (λ qs. MayHave end qs is.fates) same is.may) in
      let stay = is.pieces ∙ ap (λ qs. staying qs is.fates) same in
      record {
        begin = begin;
        hi = hi;
        row = row;
        each = each;
        pieces = pieces;
        fates = is.fates;
        may = may;
        first = subst (λ k. next_of k (staying (joined each) is.fates) ≡ next_of k (joined each)) at
            (subst (λ qs. next_of end (staying qs is.fates) ≡ next_of end qs) same is.first);
        gone = gone ∙ is.gone;
        come = come ∙ is.come;
        among = is.among;
        clear = λ c m p there. is.clear p (subst (λ qs. Contains (staying qs is.fates) p) (sym same) there);
        parts = subst (λ qs. AreParts qs (map (λ v. v.items) x.parts.items)) stay parts;
        few = few;
      }

  pub plan_to_gather : (ps : List TwigPiece) → ps ≡ joined each → x.below.old ≡ []
      → x.below.new ≡ []
      → AreParts ps (map (λ v. v.items) x.parts.items) → IsPlanOf cells from to x
  plan_to_gather ps same gone come parts = record {
    begin = begin;
    hi = hi;
    row = row;
    each = each;
    pieces = pieces;
    fates = all_stay (joined each);
    may = may_stay hi (joined each);
    first = ap (next_of hi) (staying_all (joined each));
    gone = gone ∙ sym (none_going (joined each));
    come = come ∙ sym (none_coming (joined each));
    among = λ c m. absurd (none c (subst (λ cs. Contains cs c) (none_going (joined each)) m));
    clear = λ c m p there. absurd (none c (subst (λ cs. Contains cs c) (none_going (joined each)) m));
    parts = subst (λ qs. AreParts qs (map (λ v. v.items) x.parts.items)) (same ∙ sym (staying_all (joined each))) parts;
    few = few;
  }
