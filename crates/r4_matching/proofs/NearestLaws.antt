-- The smallest node at which two lists of cells differ, as both are gone through.
use Rattle.std.proofs.Common.{◌≡◌, inl, inr, ℕ, ◌<◌, ◌==◌, List, [], ◌∷◌, arith}
use Rattle.std.proofs.Common.{Bool, true, false, cond, Option, Some, None, MatchOption, ap, refl, sym, subst, ◌∙◌}
use Rattle.std.proofs.lemmas.Bool.{eqb-true}
use Rattle.r4_base.specs.declared.things.NodeId.{NodeId}
use Rattle.r4_cell.specs.Seen.{CellSeen}
use Rattle.r4_matching.specs.Matching.{DifferNowhere, IsFirstDifference, cell_named}
use Rattle.r4_matching.specs.Nearest.{IsFound, IsMerged, IsNearer, IsSettled}
use Rattle.r4_matching.specs.declared.cells.Differs.{Differs}

module _ (had has : List CellSeen) where
  -- what is settled stays so where something nearer is found
  still : (a b : Option (NodeId × Differs)) → IsNearer had has a b → (n : ℕ) → IsSettled had has a n
      → IsSettled had has b n
  still a b p n (inl e) = inl e
  still a b p n (inr h) = inr (p.near n h)

  -- ---- the lists are gone through

  -- before the first of their cells
  pub merged_none : (first : Option (NodeId × Differs)) → IsMerged had has first had has
  merged_none first n e = inl e

  pub merged_swapped : (first : Option (NodeId × Differs)) (mine kept : List CellSeen)
      → IsMerged had has first mine kept → IsMerged had has first kept mine
  merged_swapped first mine kept f n e = f n (sym e)

  -- both have the same cell next
  pub merged_both : (first : Option (NodeId × Differs)) (mine kept mine' kept' : List CellSeen) (x : CellSeen)
      → mine ≡ x ∷ mine' → kept ≡ x ∷ kept' → IsMerged had has first mine kept
      → IsMerged had has first mine' kept'
  merged_both first mine kept mine' kept' x e d f n same =
      f n (ap (cell_named n) e ∙ (ap (λ (c : Option CellSeen). cond (x.id == n) (Some x) c) same
      ∙ sym (ap (cell_named n) d)))

  -- the next cell of one is settled
  module _ (a b : Option (NodeId × Differs)) (nearer : IsNearer had has a b) (x : CellSeen)
      (settled : IsSettled had has b x.id) where
    by_name : (mine' kept : List CellSeen) (n : ℕ) (t : Bool) → x.id == n ≡ t
        → (cond t (Some x) (cell_named n mine') ≡ cell_named n kept → IsSettled had has a n)
        → cell_named n mine' ≡ cell_named n kept → IsSettled had has b n
    by_name mine' kept n true is f same = subst (IsSettled had has b) (eqb-true x.id n is) settled
    by_name mine' kept n false is f same = still a b nearer n (f same)

    pub merged_one : (mine mine' kept : List CellSeen) → mine ≡ x ∷ mine' → IsMerged had has a mine kept
        → IsMerged had has b mine' kept
    merged_one mine mine' kept e f n same =
        by_name mine' kept n (x.id == n) refl (λ h. f n (ap (cell_named n) e ∙ h)) same

  -- ---- and have no cell left

  below_first : (found : NodeId × Differs) → IsMerged had has (Some found) [] [] → (n : ℕ)
      → n < found.0.0 → cell_named n had ≡ cell_named n has
  below_first found f n lt = elim (f n refl) [ inl e ↦ e | inr h ↦ absurd (omega (arith, h, lt)) ]

  -- what was found is the first difference
  pub is_first : (first : Option (NodeId × Differs)) → IsFound had has first → IsMerged had has first [] []
      → MatchOption first (DifferNowhere had has) (λ d. IsFirstDifference had has d.0.0 d.1)
  is_first None found f = λ n. elim (f n refl) [ inl e ↦ e | inr h ↦ absurd h ]
  is_first (Some d) found f = record { below = below_first d f; there = found }
