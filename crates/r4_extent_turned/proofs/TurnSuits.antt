-- A turn that was looked at part by part.
use Rattle.std.proofs.Common.{◌≡◌, Bool, false, List, [], ◌∷◌, length, map, refl, sym, ap, ◌∙◌}
use Rattle.std.specs.Prelude.{◌==◌, ◌&&◌, true}
use Rattle.r4_content.specs.Edited.{Edits}
use Rattle.r4_extent_shrink.specs.r4_extent_growth.r4_extent_build.r4_extent_edit.Turning.{last_leaf}
use Rattle.r4_extent_shrink.specs.r4_extent_growth.r4_measure.r4_cell.Seen.{CellSeen}
use Rattle.r4_extent_shrink.specs.r4_extent_growth.r4_measure.r4_cell.declared.change.Fresh.{Fresh}
use Rattle.r4_extent_shrink.specs.r4_extent_growth.r4_measure.r4_reach.Touched.{Body}
use Rattle.r4_extent_shrink.proofs.r4_extent_growth.Tests.{and_off, and_on}
use Rattle.r4_extent_turn.specs.Turning.{Turn, last_of}
use Rattle.r4_extent_turn.specs.TurningIn.{turn_from}
use Rattle.r4_extent_turned.specs.Suiting.{has_leaves, leaves_suit, twig_suits}

pub some_first : {A : Type 0} (f : A → CellSeen) (xs : List A) → (length xs == 0) ≡ false → (leaf : CellSeen) × (more : List CellSeen) × (map f xs ≡ leaf ∷ more)
some_first f [] h = absurd cc
some_first f (x ∷ xs) h = (f x, map f xs, refl)

-- all that is asked of a turn
abbrev pub turn_suits : Body → Edits → Fresh → List CellSeen → Turn → Bool
turn_suits b e f cells x = has_leaves b x.twig (last_of x) && (leaves_suit b x.leaf x.more && twig_suits b e f cells x.twig (last_of x))

module _ (b : Body) (e : Edits) (f : Fresh) (cells : List CellSeen) (twig : CellSeen) (cs : List CellSeen) (leaf : CellSeen) (more : List CellSeen) (same : cs ≡ leaf ∷ more) where
  as_is : turn_suits b e f cells (turn_from twig (leaf ∷ more)) ≡ turn_suits b e f cells (turn_from twig cs)
  as_is = ap (λ zs. turn_suits b e f cells (turn_from twig zs)) (sym same)

  pub not_there : has_leaves b twig (last_leaf leaf more) ≡ false → false ≡ turn_suits b e f cells (turn_from twig cs)
  not_there off = and_off _ (leaves_suit b leaf more && twig_suits b e f cells twig (last_leaf leaf more)) false off refl ∙ as_is

  pub not_lying : has_leaves b twig (last_leaf leaf more) ≡ true → leaves_suit b leaf more ≡ false → false ≡ turn_suits b e f cells (turn_from twig cs)
  not_lying on off = and_on _ (leaves_suit b leaf more && twig_suits b e f cells twig (last_leaf leaf more)) false on (and_off _ (twig_suits b e f cells twig (last_leaf leaf more)) false off refl) ∙ as_is

  pub as_twig : has_leaves b twig (last_leaf leaf more) ≡ true → leaves_suit b leaf more ≡ true → (ok : Bool) → ok ≡ twig_suits b e f cells twig (last_leaf leaf more) → ok ≡ turn_suits b e f cells (turn_from twig cs)
  as_twig on lie ok is = and_on _ (leaves_suit b leaf more && twig_suits b e f cells twig (last_leaf leaf more)) ok on (and_on _ (twig_suits b e f cells twig (last_leaf leaf more)) ok lie is) ∙ as_is
