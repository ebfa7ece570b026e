-- A slum of twigs that is packed.
use Rattle.std.proofs.Common.{◌≡◌, inl, inr, ℕ, suc, ◌+◌, ◌≤◌, List, [], ◌∷◌, length, refl, sym, ap, subst, ◌∙◌}
use Rattle.std.proofs.Common.{arith}
use Rattle.std.specs.Prelude.{Contains}
use Rattle.r4_base.specs.Key.{rank}
use Rattle.r4_base.specs.Node.{mkfs_id_of}
use Rattle.r4_base.specs.Tree.{Name}
use Rattle.r4_base.specs.declared.key.Key.{Key}
use Rattle.r4_branch.specs.Twigs.{AreFewTwigs, PacksTwigs}
use Rattle.r4_branch.specs.declared.piece.TwigPiece.{TwigPiece}
use Rattle.r4_branch.specs.declared.twig.Twig.{Twig}
use Rattle.r4_cell.specs.Seen.{CellSeen, node_of}
use Rattle.r4_cell.specs.declared.change.Fresh.{Fresh}
use Rattle.r4_patch.specs.Joining.{ids_of}
use Rattle.r4_path.specs.Grafts.{IsTwigLevel, TwigsHaveMkfsId, twig_cells}
use Rattle.r4_path.specs.Steps.{AreNaming}
use Rattle.r4_patch.proofs.Members.{cases, here, later, none}
use Rattle.r4_path.proofs.TwigCells.{twigs_step}
use Rattle.r4_path.proofs.Upwards.{long_ids}
use Rattle.r4_rows.specs.Packed.{AreSlumPieces, AreTwigsLeft, renumbered}
use Rattle.r4_rows.proofs.Fewer.{packs_fewest_twigs}
use Rattle.r4_rows.proofs.LeafSlum.{follow_new, ids_new, long_new, some_each, sound_new, units_new}

pub long_twigs : (id next : ℕ) (hi : Key) (twigs : List Twig) → length (twig_cells id next hi twigs) ≡ length twigs
long_twigs id next hi [] = refl
long_twigs id next hi (x ∷ []) = refl
long_twigs id next hi (x ∷ (y ∷ more)) = ap suc (long_twigs next (next + 1) hi (y ∷ more))

pub naming_new : (ids : List ℕ) (cells : List CellSeen) (n : Name) → length cells ≤ length ids
    → AreNaming (renumbered ids cells) n
    → AreNaming cells n
naming_new [] cells n le (x, mx, member) = absurd (none x mx)
naming_new (i ∷ ids) [] n le (x, mx, member) = absurd (none x mx)
naming_new (i ∷ ids) (c ∷ cells) n le (x, mx, member) = elim (cases (record c { id = i }) x (renumbered ids cells) mx) [
  | inl is ↦ (c, here c cells, subst (λ (z : CellSeen). Contains (node_of z).names n) is member)
  | inr more ↦
      let (y, my, in_y) = naming_new ids cells n (omega (arith, le)) (x, more, member) in
      (y, later c y cells my, in_y)
]

pub new_naming : (ids : List ℕ) (cells : List CellSeen) (n : Name) → length cells ≤ length ids → AreNaming cells n
    → AreNaming (renumbered ids cells) n
new_naming [] [] n le (x, mx, member) = absurd (none x mx)
new_naming [] (c ∷ cells) n le h = absurd (omega (arith, le))
new_naming (i ∷ ids) [] n le (x, mx, member) = absurd (none x mx)
new_naming (i ∷ ids) (c ∷ cells) n le (x, mx, member) = elim (cases c x cells mx) [
  | inl is ↦ (
    record c { id = i },
    here (record c { id = i }) (renumbered ids cells),
    subst (λ (z : CellSeen). Contains (node_of z).names n) is member,
  )
  | inr more ↦
      let (y, my, in_y) = new_naming ids cells n (omega (arith, le)) (x, more, member) in
      (y, later (record c { id = i }) y (renumbered ids cells) my, in_y)
]

abbrev pub any_twig : Key → Key → List ℕ → CellSeen
any_twig lo hi b = record { id = 0; level = 2; lo = lo; hi = hi; block = b }

pub twigs_squeezed : (slum : List CellSeen) (lo hi : Key) (ps : List TwigPiece) (each : List (List TwigPiece))
    (twigs : List Twig)
    (b : List ℕ) → AreSlumPieces slum (rank lo) (rank hi) ps each → PacksTwigs (rank lo) (rank hi) ps twigs
    → AreFewTwigs ps twigs
    → TwigsHaveMkfsId (mkfs_id_of b) twigs
    → AreTwigsLeft slum (rank lo) (rank hi) (renumbered (ids_of slum) (twig_cells 0 0 hi twigs))
twigs_squeezed slum lo hi ps each [] b are p few ids = absurd p
twigs_squeezed slum lo hi ps each (x ∷ more) b are p few own =
    let zero_fresh : Fresh = record { next = 0; end = 0 } in
    let step : IsTwigLevel (any_twig lo hi b) ps (record { next = 0; end = 0 })
    (record { next = 0 + length more; end = 0 })
    (record { old = any_twig lo hi b; new = twig_cells 0 0 hi (x ∷ more) }) =
    twigs_step (any_twig lo hi b) ps (x ∷ more) x more (record { next = 0; end = 0 })
    (record { next = 0 + length more; end = 0 })
    (record { old = any_twig lo hi b; new = twig_cells 0 0 hi (x ∷ more) }) refl p few refl refl refl own in
    let row = step.row in
    let some = some_each 2 (rank lo) (rank hi) slum are.follow are.some in
    let many = are.many in
    let fewest = packs_fewest_twigs (rank lo) (rank hi) ps (x ∷ more) each p are.all are.fit
    (omega (arith, some, many)) in
    let long = long_twigs 0 0 hi (x ∷ more) in
    let ids = long_ids slum in
    let le : length (twig_cells 0 0 hi (x ∷ more)) ≤ length (ids_of slum) = omega (arith, fewest, many, long, ids) in
    let same = long_new (ids_of slum) (twig_cells 0 0 hi (x ∷ more)) le in
    record {
      few = omega (arith, same, le, ids);
      ids = ids_new (ids_of slum) (twig_cells 0 0 hi (x ∷ more));
      follow = follow_new 2 (rank lo) (rank hi) (ids_of slum) (twig_cells 0 0 hi (x ∷ more)) le row.ranges;
      units = units_new (ids_of slum) (twig_cells 0 0 hi (x ∷ more)) le ∙ (row.units ∙ sym are.units);
      names = λ n. (
        λ h. (are.names n).1 ((row.names n).0 (naming_new (ids_of slum) (twig_cells 0 0 hi (x ∷ more)) n le h)),
        λ h. new_naming (ids_of slum) (twig_cells 0 0 hi (x ∷ more)) n le ((row.names n).1 ((are.names n).0 h)),
      );
      sound = sound_new (ids_of slum) (twig_cells 0 0 hi (x ∷ more)) row.sound;
    }
