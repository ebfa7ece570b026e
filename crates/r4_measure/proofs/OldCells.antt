-- The old cells of an edit stand.
use Rattle.std.proofs.Common.{◌≡◌, ◌∙◌, inl, inr, ℕ, zero, suc, ◌+◌, List, ◌∷◌, length, refl, sym, subst}
use Rattle.std.specs.Prelude.{Contains, None, Option, Some}
use Rattle.r4_reach.specs.r4_cell.Seen.{CellSeen}
use Rattle.r4_reach.specs.r4_cell.declared.change.Change.{Change}
use Rattle.r4_reach.specs.r4_cell.declared.change.Fresh.{Fresh}
use Rattle.r4_reach.specs.r4_leaf.Units.{LeafUnit}
use Rattle.r4_reach.proofs.r4_patch.Members.{cases, here, later, none}
use Rattle.r4_work.specs.r4_edit.Editing.{Edits}
use Rattle.r4_reach.specs.r4_path.Steps.{olds}
use Rattle.r4_work.specs.Order.{cell_at}
use Rattle.r4_work.specs.Working.{first_and, path_of, standing, ups_of}
use Rattle.r4_work.specs.declared.working.WorkingSet.{WorkingSet}
use Rattle.r4_work.proofs.LeafEffect.{taken}
use Rattle.r4_work.proofs.Paths.{found_is}

-- the cells of a path are cells of those in which it was looked up
pub path_among : (n : ℕ) (cells : List CellSeen) (level k : ℕ) (x : CellSeen) → Contains (ups_of n cells level k) x → Contains cells x
unfolding ups_of
path_among zero cells level k x h = absurd (none x h)
path_among (suc n) cells level k x h = by_first (cell_at cells level k) (ups_of n cells (level + 1) k) refl (path_among n cells (level + 1) k x) h
  where
    by_first : (o : Option CellSeen) (rest : List CellSeen) → cell_at cells level k ≡ o → (Contains rest x → Contains cells x) → Contains (first_and o rest) x → Contains cells x
    by_first None rest is more h = absurd (none x h)
    by_first (Some c) rest is more h = elim (cases c x rest h) [
      | inl same ↦ subst (Contains cells) (sym same) (found_is cells level k c is).among
      | inr m ↦ more m
    ]

pub old_stands : (w : WorkingSet) (k : ℕ) (leaf : CellSeen) (ups : List CellSeen) → path_of w k ≡ leaf ∷ ups → (us : List LeafUnit) (before after : Fresh) (d : Change) → Edits leaf ups us before after d → (c : CellSeen) → Contains d.old c → Contains (standing w) c
old_stands w k leaf ups path us before after d e c at = elim (cases e.lowest.old c (olds e.more) (subst (λ cs. Contains cs c) e.levels.old at)) [
  | inl is ↦ in_path c (subst (Contains (leaf ∷ ups)) (sym (is ∙ e.old)) (here leaf ups))
  | inr more ↦ in_path c (later leaf c ups (taken (length e.more) ups c (subst (λ cs. Contains cs c) e.ups_are more)))
]
  where
    in_path : (x : CellSeen) → Contains (leaf ∷ ups) x → Contains (standing w) x
    in_path x m = path_among 8 (standing w) 1 k x (subst (λ cs. Contains cs x) (sym path) m)
