-- Pieces with others in the place of those between two keys, where what stands there names nothing.
use Rattle.std.proofs.Common.{◌≡◌, ◌↔◌, ◌⊎◌, inl, inr, ℕ, ◌+◌, ◌<◌, ◌≤◌, List, [], ◌∷◌, ◌++◌, refl, sym, ap, subst, ◌∙◌}
use Rattle.std.proofs.Common.{arith}
use Rattle.std.specs.Prelude.{Contains}
use Rattle.std.proofs.lemmas.List.Elements.{Contains-append_left, Contains-append_right}
use Rattle.r4_base.specs.Key.{rank}
use Rattle.r4_base.specs.Tree.{Name}
use Rattle.r4_work.specs.r4_branch.Pieces.{AreTwigPieces, Follow, names_of, next_of, part_names, piece_end, twig_bytes}
use Rattle.r4_work.specs.r4_branch.Pieces.{units_of}
use Rattle.r4_work.specs.r4_branch.declared.piece.TwigPart.{TwigPart}
use Rattle.r4_work.specs.r4_branch.declared.piece.TwigPart.TheVariants.{Pointer, Blocks}
use Rattle.r4_work.specs.r4_branch.declared.piece.TwigPiece.{TwigPiece}
use Rattle.r4_work.proofs.r4_graft.FoundPlaces.{next_lower}
use Rattle.r4_work.proofs.r4_graft.Joined.{follow_join, names_join, next_join, spliced_bytes}
use Rattle.r4_work.proofs.r4_graft.Placed.{first_member, has_end}
use Rattle.r4_work.proofs.r4_graft.SplicedNames.{spliced_names}
use Rattle.r4_work.specs.r4_leaf.Units.{cut_units, put_units}
use Rattle.r4_work.proofs.r4_edit.CutNames.{between_names, names_lie, units_without}
use Rattle.r4_work.proofs.r4_edit.CutOut.{nonempty}
use Rattle.r4_work.proofs.r4_edit.CutParts.{AreSplit}
use Rattle.r4_work.proofs.r4_edit.PutUnits.{units_among}

-- ---- pieces before keys that no leaf has

part_left : (k next from to : ℕ) (t : TwigPart) → ((n : Name) → Contains (part_names k next t) n → (n.hi ≤ from)
    ⊎ (to ≤ n.lo))
    → k < from → from < to → from ≤ next → part_names k from t ≡ part_names k next t
part_left k next from to (Blocks u) clear low some le = refl
part_left k next from to (Pointer i) clear low some le =
    let n : Name = record { id = i.0; level = 1; lo = k; hi = next } in
    let same : from ≡ next = elim (clear n (first_member n [])) [
      | inl below ↦ omega (arith, below, le)
      | inr behind ↦ absurd (omega (arith, behind, low, some))
    ] in
    ap (λ (h : ℕ). part_names k h (Pointer i)) same

left_names : (lo next from to : ℕ) (xs : List TwigPiece) → Follow lo from xs
    → ((n : Name) → Contains (names_of next xs) n → (n.hi ≤ from) ⊎ (to ≤ n.lo)) → from < to → from ≤ next
    → names_of from xs ≡ names_of next xs
unfolding names_of
left_names lo next from to [] f clear some le = refl
left_names lo next from to (x ∷ []) f clear some le =
    let e = has_end x f.1 in
    let end = f.2 in
    ap (λ ns. ns ++ []) (part_left (rank x.key) next from to x.part (λ n at. clear n (Contains-append_left
    (part_names (rank x.key) next x.part) [] n at))
    (omega (arith, e, end)) some le)
left_names lo next from to (x ∷ (y ∷ ys)) f clear some le =
    ap (λ ns. part_names (rank x.key) (rank y.key) x.part ++ ns)
    (left_names (piece_end x) next from to (y ∷ ys) f.2 (λ n at. clear n (in_more n at)) some le)
  where
    in_more : (n : Name) → Contains (names_of next (y ∷ ys)) n → Contains (names_of next (x ∷ (y ∷ ys))) n
    in_more n at = Contains-append_right (part_names (rank x.key) (rank y.key) x.part) (names_of next (y ∷ ys)) n at

module _ (lo hi from to : ℕ) (pp xs ms ys ns : List TwigPiece) (s : AreSplit lo hi from to pp xs ms ys)
    (f : Follow from to ns)
    (begins : (h : ℕ) → next_of h ns ≡ from) where
  abbrev pub qs : List TwigPiece
  qs = xs ++ (ns ++ ys)

  abbrev next : ℕ
  next = next_of hi ys

  over_first : lo ≤ from → next_of hi pp ≡ lo → next_of hi qs ≡ lo
  over_first low first = by_xs xs s.is
    where
      by_xs : (us : List TwigPiece) → pp ≡ us ++ (ms ++ ys) → next_of hi (us ++ (ns ++ ys)) ≡ lo
      by_xs [] is =
          let a : next_of hi (ms ++ ys) ≡ lo = ap (next_of hi) (sym is) ∙ first in
          let b = next_lower from hi (ms ++ ys) (follow_join from to hi ms ys s.mid s.right) in
          let c : next_of hi (ns ++ ys) ≡ from = next_join hi ns ys ∙ begins next in
          omega (arith, a, b, c, low)
      by_xs (x ∷ us) is = ap (next_of hi) (sym is) ∙ first

  pub over_twigs : lo ≤ from → lo < hi → next_of hi pp ≡ lo → AreTwigPieces lo hi qs
  over_twigs low some first =
      let at = over_first low first in
      record {
        some = nonempty lo hi qs at some;
        first = at;
        follow = follow_join lo from hi xs (ns ++ ys) s.left (follow_join from to hi ns ys f s.right);
      }

  pub over_bytes : twig_bytes qs ≤ twig_bytes pp + twig_bytes ns + 38
  over_bytes =
      let a = spliced_bytes xs ms ys ns in
      let b = ap twig_bytes s.is in
      omega (arith, a, b)

  pub over_units : units_of qs ≡ put_units (units_of ns) (cut_units from to (units_of pp))
  unfolding units_of
  over_units =
      units_among lo from to hi xs ns ys s.left f s.right
      ∙ ap (put_units (units_of ns)) (units_without lo hi from to pp xs ms ys [] s refl)

  -- ---- names

  module _ (some : from < to) (clear : (n : Name) → Contains (names_of hi pp) n → (n.hi ≤ from) ⊎ (to ≤ n.lo)) where
    abbrev before : List Name
    before = names_of (next_of next ms) xs

    all_names : names_of hi pp ≡ before ++ (names_of next ms ++ names_of hi ys)
    all_names = ap (names_of hi) s.is ∙ (names_join hi xs (ms ++ ys)
        ∙ (λ i. names_of (next_join hi ms ys i) xs ++ names_join hi ms ys i))

    from_next : from ≤ next_of next ms
    from_next = subst (λ (k : ℕ). from ≤ k) (next_join hi ms ys) (next_lower from hi (ms ++ ys)
        (follow_join from to hi ms ys s.mid s.right))

    left : names_of (next_of next ns) xs ≡ before
    left =
        ap (λ (k : ℕ). names_of k xs) (begins next)
        ∙ left_names lo (next_of next ms) from to xs s.left
        (λ n at. clear n (subst (λ ks. Contains ks n) (sym all_names) (Contains-append_left before
        (names_of next ms ++ names_of hi ys) n at)))
        some from_next

    none_between : (n : Name) → Contains (names_of next ms) n → ⊥
    none_between n at =
        let h = (between_names lo hi from to pp xs ms ys s (λ m in_m leaf. clear m in_m) n).0 at in
        let lies = (names_lie from to next ms n s.mid (next_lower to hi ys s.right) at).0 in
        let low = h.1.1.0 in
        let high = h.1.1.1 in
        elim (clear n h.0) [
          | inl below ↦ omega (arith, below, lies, low)
          | inr behind ↦ omega (arith, behind, high)
        ]

    -- What they name: what the pieces named, and what the others name.
    pub over_names : Follow lo hi pp → (n : Name) → Contains (names_of hi qs) n ↔ (Contains (names_of hi pp) n
        ⊎ Contains (names_of next ns) n)
    over_names follow n =
        let all = spliced_names hi lo hi xs ms ns ys (subst (Follow lo hi) s.is follow) left n in (
          (λ at. elim (all.0 at) [
            | inl was ↦ inl (subst (λ ps. Contains (names_of hi ps) n) (sym s.is) was.0)
            | inr new ↦ inr new
          ]),
          (λ h. all.1 (elim h [
            | inl was ↦ inl (subst (λ ps. Contains (names_of hi ps) n) s.is was, none_between n)
            | inr new ↦ inr new
          ])),
        )
