-- The pieces of twigs beside each other, one twig's after the other's.
use Rattle.std.proofs.Common.{◌≡◌, ◌⊎◌, inl, inr, ℕ, suc, ◌<◌, ◌≤◌, List, [], ◌∷◌, ◌++◌, length, refl, sym, ap, subst}
use Rattle.std.proofs.Common.{◌∙◌, arith}
use Rattle.std.specs.Prelude.{◌↔◌, Contains}
use Rattle.std.proofs.lemmas.List.Elements.{Contains-append_cases, Contains-append_left, Contains-append_right}
use Rattle.r4_base.specs.Key.{rank}
use Rattle.r4_base.specs.Tree.{Name}
use Rattle.r4_branch.specs.Pieces.{AreTwigPieces, names_of, next_of, twig_bytes, units_of}
use Rattle.r4_branch.specs.Pieces.{Follow as PiecesFollow}
use Rattle.r4_branch.specs.declared.piece.TwigPiece.{TwigPiece}
use Rattle.r4_branch.proofs.ItemPieces.{units_append}
use Rattle.r4_cell.specs.Seen.{CellSeen, node_of}
use Rattle.r4_graft.proofs.Joined.{follow_join, names_join, next_join}
use Rattle.r4_patch.proofs.Members.{cases, here, later, none}
use Rattle.r4_path.specs.Levels.{units_of_cells}
use Rattle.r4_path.specs.Steps.{AreNaming, Follow}
use Rattle.r4_rows.specs.Fewest.{EachFits, joined}
use Rattle.r4_rows.specs.Packed.{AreSlumPieces, AreTheirPieces}

naming_first : (c : CellSeen) (slum : List CellSeen) (n : Name) → AreNaming (c ∷ slum) n
    → Contains (node_of c).names n ⊎ AreNaming slum n
naming_first c slum n (x, mx, member) = elim (cases c x slum mx) [
  | inl is ↦ inl (subst (λ (z : CellSeen). Contains (node_of z).names n) is member)
  | inr more ↦ inr (x, more, member)
]

first_naming : (c : CellSeen) (slum : List CellSeen) (n : Name) → Contains (node_of c).names n ⊎ AreNaming slum n
    → AreNaming (c ∷ slum) n
first_naming c slum n (inl mine) = (c, here c slum, mine)
first_naming c slum n (inr (x, mx, member)) = (x, later c x slum mx, member)

record Together (from to : ℕ) (slum : List CellSeen) (ps : List TwigPiece) : Type 0 where
  pub next : next_of to ps ≡ from
  pub follow : PiecesFollow from to ps
  pub names : (n : Name) → AreNaming slum n ↔ Contains (names_of to ps) n
  pub units : units_of_cells slum ≡ units_of ps

no_names : (to : ℕ) (n : Name) → Contains (names_of to []) n → ⊥
unfolding names_of
no_names to n at = none n at

none_of_none : units_of_cells [] ≡ units_of []
unfolding units_of
none_of_none = refl

together : (from to : ℕ) (slum : List CellSeen) (each : List (List TwigPiece)) → Follow 2 from to slum
    → AreTheirPieces slum each → Together from to slum (joined each)
together from to [] [] e h = record {
  next = sym e;
  follow = omega (arith, e);
  names = λ n. (λ (x, mx, member). absurd (none x mx), λ at. absurd (no_names to n at));
  units = none_of_none;
}
together from to [] (ps ∷ each) e h = absurd h
together from to (c ∷ slum) [] f h = absurd h
together from to (c ∷ slum) (ps ∷ each) (level, at, less, rest) (mine, others) =
    let more = together (rank c.hi) to slum each rest others in
    let is : names_of to (ps ++ joined each) ≡ (node_of c).names ++ names_of to (joined each) =
    names_join to ps (joined each)
    ∙ ap (λ ns. ns ++ names_of to (joined each))
    (ap (λ (k : ℕ). names_of k ps) more.next ∙ mine.names) in
    record {
      next = next_join to ps (joined each) ∙ (ap (λ (k : ℕ). next_of k ps) more.next ∙ (mine.pieces.first ∙ at));
      follow = follow_join from (rank c.hi) to ps (joined each)
          (subst (λ (k : ℕ). PiecesFollow k (rank c.hi) ps) at mine.pieces.follow) more.follow;
      names = λ n. (
        λ h. subst (λ ns. Contains ns n) (sym is) (elim (naming_first c slum n h) [
          | inl own ↦ Contains-append_left (node_of c).names (names_of to (joined each)) n own
          | inr next ↦
              Contains-append_right (node_of c).names (names_of to (joined each)) n ((more.names n).0 next)
        ]),
        λ h. first_naming c slum n (elim (Contains-append_cases (node_of c).names (names_of to (joined each)) n
            (subst (λ ns. Contains ns n) is h)) [
              | inl own ↦ inl own
              | inr next ↦ inr ((more.names n).1 next)
            ]),
      );
      units = (λ j. sym mine.units j ++ more.units j) ∙ sym (units_append ps (joined each));
    }

each_fits : (slum : List CellSeen) (each : List (List TwigPiece)) → AreTheirPieces slum each
    → EachFits twig_bytes 4068 each
each_fits [] [] h = tt
each_fits [] (ps ∷ each) h = absurd h
each_fits (c ∷ slum) [] h = absurd h
each_fits (c ∷ slum) (ps ∷ each) (mine, others) = (mine.fits, each_fits slum each others)

as_many : (slum : List CellSeen) (each : List (List TwigPiece)) → AreTheirPieces slum each → length each ≡ length slum
as_many [] [] h = refl
as_many [] (ps ∷ each) h = absurd h
as_many (c ∷ slum) [] h = absurd h
as_many (c ∷ slum) (ps ∷ each) (mine, others) = ap suc (as_many slum each others)

one_piece : (from to : ℕ) (ps : List TwigPiece) → next_of to ps ≡ from → from < to → 1 ≤ length ps
one_piece from to [] e less = absurd (omega (arith, e, less))
one_piece from to (p ∷ ps) e less = omega arith

pub slum_pieces : (slum : List CellSeen) (from to : ℕ) (each : List (List TwigPiece)) → Follow 2 from to slum
    → from < to
    → AreTheirPieces slum each → AreSlumPieces slum from to (joined each) each
slum_pieces slum from to each follow less are =
    let all = together from to slum each follow are in
    record {
      follow = follow;
      some = less;
      all = refl;
      fit = each_fits slum each are;
      many = as_many slum each are;
      names = all.names;
      units = all.units;
    }

pub twig_pieces : (slum : List CellSeen) (from to : ℕ) (each : List (List TwigPiece)) → Follow 2 from to slum
    → from < to
    → AreTheirPieces slum each → AreTwigPieces from to (joined each)
twig_pieces slum from to each follow less are =
    let all = together from to slum each follow are in
    record { some = one_piece from to (joined each) all.next less; first = all.next; follow = all.follow }
