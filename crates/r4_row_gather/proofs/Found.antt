-- Cells beside each other, one more at a time.
use Rattle.std.proofs.Common.{◌≡◌, inl, inr, ℕ, ◌<◌, List, [], ◌∷◌, ◌++◌, refl, sym, subst, ◌∙◌, arith}
use Rattle.std.specs.Prelude.{Contains}
use Rattle.std.proofs.lemmas.List.Elements.{Contains-append_cases}
use Rattle.r4_base.specs.Key.{rank}
use Rattle.r4_work.specs.r4_cell.Seen.{CellSeen}
use Rattle.r4_work.proofs.r4_patch.Members.{cases, none}
use Rattle.r4_work.specs.r4_path.Steps.{Follow}
use Rattle.r4_work.specs.Order.{IsAt}
use Rattle.r4_row_gather.specs.Finding.{BeginsAt, IsRowFrom}

follow_more : (level lo hi : ℕ) (row : List CellSeen) (c : CellSeen) → Follow level lo hi row → c.level ≡ level
    → rank c.lo ≡ hi → hi < rank c.hi → Follow level lo (rank c.hi) (row ++ c ∷ [])
follow_more level lo hi [] c follow is begins less = (is, begins ∙ sym follow, omega (arith, follow, less), refl)
follow_more level lo hi (d ∷ row) c follow is begins less =
    (follow.0, follow.1, follow.2, follow_more level (rank d.hi) hi row c follow.3 is begins less)

only_among : (cells : List CellSeen) (c : CellSeen) → Contains cells c → (x : CellSeen) → Contains (c ∷ []) x
    → Contains cells x
only_among cells c there x at = elim (cases c x [] at) [
  | inl is ↦ subst (Contains cells) (sym is) there
  | inr more ↦ absurd (none x more)
]

pub one_row : (cells : List CellSeen) (level key : ℕ) (c : CellSeen) → IsAt cells level key c
    → IsRowFrom cells level key (rank c.hi) (c ∷ [])
one_row cells level key c at =
    let (low, high) = at.range in
    let less : rank c.lo < rank c.hi = omega (arith, low, high) in
    record {
      lo = rank c.lo;
      some = less;
      along = (at.level_is, refl, less, refl);
      begins = low;
      among = only_among cells c at.among;
    }

pub one_more_row : (cells : List CellSeen) (level key hi : ℕ) (row : List CellSeen) (c : CellSeen)
    → IsRowFrom cells level key hi row → BeginsAt cells level hi c
    → IsRowFrom cells level key (rank c.hi) (row ++ c ∷ [])
one_more_row cells level key hi row c is at =
    let some = is.some in
    let less = at.some in
    record {
      lo = is.lo;
      some = omega (arith, some, less);
      along = follow_more level is.lo hi row c is.along at.level_is at.begins less;
      begins = is.begins;
      among = λ x m. elim (Contains-append_cases row (c ∷ []) x m) [
        | inl old ↦ is.among x old
        | inr one ↦ only_among cells c at.among x one
      ];
    }
