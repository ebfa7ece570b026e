-- The pieces that a twig has where blocks are cut out, and what they name.
use Rattle.std.proofs.Common.{◌≡◌, ◌↔◌, ◌⊎◌, inl, inr, ℕ, ◌+◌, ◌^◌, ◌<◌, ◌≤◌, true, List, [], ◌∷◌, ◌++◌, length, map, refl, sym, ap, subst, ◌∙◌, arith}
use Rattle.std.specs.Prelude.{Contains, Option, None, Some}
use Rattle.std.proofs.lemmas.List.{append_assoc, length-append}
use Rattle.r4_base.specs.Cell.{names_block}
use Rattle.r4_base.specs.Key.{rank}
use Rattle.r4_base.specs.Tree.{Name}
use Rattle.r4_base.specs.declared.key.Key.{Key}
use Rattle.r4_path.specs.r4_branch.Pieces.{AreTwigPieces, Follow, bytes_behind, last_end, names_of, next_of, part_names, twig_bytes, units_of}
use Rattle.r4_path.specs.r4_branch.declared.piece.TwigPiece.{TwigPiece}
use Rattle.r4_path.specs.r4_cell.Seen.{CellSeen}
use Rattle.r4_path.proofs.r4_graft.Joined.{follow_join, spliced_bytes}
use Rattle.r4_path.proofs.r4_graft.Placed.{follow_end, not_in_none}
use Rattle.r4_path.proofs.r4_graft.SplicedNames.{spliced_names}
use Rattle.r4_path.specs.r4_leaf.Units.{cut_units}
use Rattle.r4_edit.specs.CutBlocks.{BeginsAt, IsTakenUp, pointer_for}
use Rattle.r4_edit.specs.Extents.{given_cells}
use Rattle.r4_path.specs.Steps.{IsNameOf, name_of}
use Rattle.r4_edit.proofs.CutNames.{EndsWithLeaf, ends_with_leaf, units_without}
use Rattle.r4_edit.proofs.CutParts.{AreSplit}
use Rattle.r4_edit.proofs.CutTaken.{name_append, over_bytes, over_follow, over_left, over_new, over_next, over_units}
use Rattle.r4_edit.proofs.Gaps.{same_first}
use Rattle.r4_path.proofs.Grown.{map_names, names_map}
use Rattle.r4_path.proofs.r4_patch.Members.{cases, here, later}

pub exchange : {N P G C P' G' C' : Type 0} → N ↔ ((P × (G → ⊥)) ⊎ C)
    → P ↔ P' → G ↔ G' → C ↔ C' → N ↔ ((P' × (G' → ⊥)) ⊎ C')
exchange all p g c = (
  (λ n. elim (all.0 n) [
    | inl stays ↦ inl (p.0 stays.0, λ gone. stays.1 (g.1 gone))
    | inr comes ↦ inr (c.0 comes)
  ]),
  (λ h. all.1 (elim h [
    | inl stays ↦ inl (p.1 stays.0, λ gone. stays.1 (g.0 gone))
    | inr comes ↦ inr (c.1 comes)
  ])),
)

pub both : {A : Type 0} → (P : A → Type 0) (x y : A) → x ≡ y → P x ↔ P y
both P x y is = ((λ h. subst P is h), (λ h. subst P (sym is) h))

pub nonempty : (lo hi : ℕ) (qs : List TwigPiece) → next_of hi qs ≡ lo → lo < hi → 1 ≤ length qs
nonempty lo hi [] first some = absurd (omega (arith, first, some))
nonempty lo hi (q ∷ qs) first some = omega arith

-- a leaf that is given ends the pieces before the keys, where the next one begins
abbrev pub IsLed : Option CellSeen → (xs ms : List TwigPiece) → Type 0
IsLed None xs ms = Unit {0}
IsLed (Some l) xs ms = EndsWithLeaf xs (name_of l) × ((l.level ≡ 1) × BeginsAt (rank l.hi) ms)

begins_next : (k h : ℕ) (ms : List TwigPiece) → BeginsAt k ms → next_of h ms ≡ k
begins_next k h [] begins = absurd begins
begins_next k h (m ∷ ms) begins = begins

pub led_by : (lo hi : ℕ) (xs ms ys : List TwigPiece) (l : CellSeen) → BeginsAt (rank l.hi) ms → Follow lo hi (xs ++ (ms ++ ys)) → Contains (names_of hi (xs ++ (ms ++ ys))) (name_of l) → l.level ≡ 1 → EndsWithLeaf xs (name_of l)
led_by lo hi xs [] ys l begins f at level = absurd begins
led_by lo hi xs (m ∷ ms) ys l begins f at level = ends_with_leaf lo hi hi xs m (ms ++ ys) (name_of l) f (omega arith) at level (sym begins)

module _ (lo hi from to : ℕ) (pp xs ms ys : List TwigPiece) (s : AreSplit lo hi from to pp xs ms ys) (id : ℕ) where
  abbrev ns : Option CellSeen → List TwigPiece
  ns leaf = pointer_for leaf (last_end None xs) id ms

  abbrev qs : Option CellSeen → List TwigPiece
  qs leaf = xs ++ (ns leaf ++ ys)

  cut_follow : (leaf : Option CellSeen) → names_block true (2 ^ 64) (Some id) ≡ true → Follow from to (ns leaf)
  cut_follow None may = over_follow from to (last_end None xs) id ms may s.mid
  cut_follow (Some l) may = let e = follow_end from to ms s.mid in omega (arith, e)

  cut_first : (leaf : Option CellSeen) → IsLed leaf xs ms → next_of hi (qs leaf) ≡ next_of hi pp
  cut_first None led = over_next hi xs ms ys id ∙ ap (next_of hi) (sym s.is)
  cut_first (Some l) led =
      let long = ap length led.0.is ∙ length-append led.0.before (led.0.piece ∷ []) in
      same_first hi xs ys (ms ++ ys) (omega (arith, long)) ∙ ap (next_of hi) (sym s.is)

  pub cut_twigs : (leaf : Option CellSeen) → IsLed leaf xs ms → names_block true (2 ^ 64) (Some id) ≡ true → lo < hi → next_of hi pp ≡ lo → AreTwigPieces lo hi (qs leaf)
  cut_twigs leaf led may some first =
      let begins = cut_first leaf led ∙ first in
      record {
        some = nonempty lo hi (qs leaf) begins some;
        first = begins;
        follow = follow_join lo from hi xs (ns leaf ++ ys) s.left (follow_join from to hi (ns leaf) ys (cut_follow leaf may) s.right);
      }

  pointer_bytes : (leaf : Option CellSeen) → twig_bytes (ns leaf) ≤ 46
  unfolding bytes_behind
  pointer_bytes None = over_bytes (last_end None xs) id ms
  pointer_bytes (Some l) = omega arith

  pub cut_bytes : (leaf : Option CellSeen) → twig_bytes (qs leaf) ≤ twig_bytes pp + 84
  cut_bytes leaf =
      let a = spliced_bytes xs ms ys (ns leaf) in
      let b = ap twig_bytes s.is in
      let c = pointer_bytes leaf in
      omega (arith, a, b, c)

  pointer_units : (leaf : Option CellSeen) → units_of (ns leaf) ≡ []
  unfolding units_of
  pointer_units None = over_units (last_end None xs) id ms
  pointer_units (Some l) = refl

  pub cut_units_are : (leaf : Option CellSeen) → units_of (qs leaf) ≡ cut_units from to (units_of pp)
  cut_units_are leaf = units_without lo hi from to pp xs ms ys (ns leaf) s (pointer_units leaf)

  -- ---- names

  module _ (blocks : List CellSeen) (follow : Follow lo hi pp) (key : Key) (mkfs_id : ℕ) (ends : rank key ≡ next_of hi ys)
      (between : (n : Name) → Contains (names_of (next_of hi ys) ms) n ↔ IsNameOf blocks n) where
    gone_none : (n : Name) → Contains (names_of (next_of hi ys) ms) n ↔ IsNameOf (blocks ++ []) n
    gone_none n = (
      (λ at. (name_append blocks [] n).1 (inl ((between n).0 at))),
      (λ h. elim ((name_append blocks [] n).0 h) [
        | inl block ↦ (between n).1 block
        | inr none ↦ absurd (not_in_none none.0 none.1)
      ]),
    )

    comes_names : (cells : List CellSeen) (names : List Name) → names ≡ map name_of cells → (n : Name) → Contains names n ↔ IsNameOf cells n
    comes_names cells names is n = (
      (λ at. names_map cells n (subst (λ ks. Contains ks n) is at)),
      (λ h. subst (λ ks. Contains ks n) (sym is) (map_names cells n h)),
    )

    module _ (l : CellSeen) (led : IsLed (Some l) xs ms) where
      abbrev piece : TwigPiece
      piece = led.0.piece

      abbrev before : List TwigPiece
      before = led.0.before

      are_is : xs ++ ys ≡ before ++ ((piece ∷ []) ++ ys)
      are_is = (λ i. led.0.is i ++ ys) ∙ append_assoc before (piece ∷ []) ys

      were_is : pp ≡ before ++ ((piece ∷ ms) ++ ys)
      were_is = s.is ∙ ((λ i. led.0.is i ++ (ms ++ ys)) ∙ append_assoc before (piece ∷ []) (ms ++ ys))

      gone_is : names_of (next_of hi ys) (piece ∷ ms) ≡ name_of l ∷ names_of (next_of hi ys) ms
      unfolding names_of
      gone_is =
          (λ i. part_names (led.0.key i) (begins_next (rank l.hi) (next_of hi ys) ms led.1.1 i) (led.0.part i) ++ names_of (next_of hi ys) ms)
          ∙ (λ i. record { id = l.id; level = sym led.1.0 i; lo = rank l.lo; hi = rank l.hi } ∷ names_of (next_of hi ys) ms)

      gone_leaf : (n : Name) → Contains (names_of (next_of hi ys) (piece ∷ ms)) n ↔ IsNameOf (blocks ++ (l ∷ [])) n
      gone_leaf n = (
        (λ at. elim (cases (name_of l) n (names_of (next_of hi ys) ms) (subst (λ ks. Contains ks n) gone_is at)) [
          | inl is ↦ (name_append blocks (l ∷ []) n).1 (inr (l, here l [], is))
          | inr more ↦ (name_append blocks (l ∷ []) n).1 (inl ((between n).0 more))
        ]),
        (λ h. subst (λ ks. Contains ks n) (sym gone_is) (elim ((name_append blocks (l ∷ []) n).0 h) [
          | inl block ↦ later (name_of l) n (names_of (next_of hi ys) ms) ((between n).1 block)
          | inr (c, at, is) ↦ elim (cases l c [] at) [
            | inl same ↦ subst (λ k. Contains (name_of l ∷ names_of (next_of hi ys) ms) k) (sym (is ∙ ap name_of same)) (here (name_of l) (names_of (next_of hi ys) ms))
            | inr none ↦ absurd (not_in_none c none)
          ]
        ])),
      )

      comes_is : (c : CellSeen) → c ≡ record l { hi = key } → names_of (next_of hi ys) (piece ∷ []) ≡ name_of c ∷ []
      unfolding names_of
      comes_is c is =
          (λ i. part_names (led.0.key i) (next_of hi ys) (led.0.part i) ++ [])
          ∙ ((λ i. record { id = l.id; level = sym led.1.0 i; lo = rank l.lo; hi = sym ends i } ∷ [])
          ∙ ap (λ (x : CellSeen). name_of x ∷ []) (sym is))

    -- What they name: what the twig named but for the cells that go, and the cells that come.
    pub cut_names : (leaf : Option CellSeen) → IsLed leaf xs ms → (come : List CellSeen) → IsTakenUp leaf (ns leaf) id key mkfs_id come → (n : Name)
        → Contains (names_of hi (qs leaf)) n ↔ ((Contains (names_of hi pp) n × (IsNameOf (blocks ++ given_cells leaf) n → ⊥)) ⊎ IsNameOf come n)
    cut_names None led come taken n =
        let f = subst (Follow lo hi) s.is follow in
        exchange
        (spliced_names hi lo hi xs ms (ns None) ys f (over_left (next_of hi ys) xs ms id) n)
        (both (λ ps. Contains (names_of hi ps) n) (xs ++ (ms ++ ys)) pp (sym s.is))
        (gone_none n)
        (comes_names come (names_of (next_of hi ys) (ns None)) (over_new from to id (next_of hi ys) key (last_end None xs) ms mkfs_id come s.mid ends taken).names n)
    cut_names (Some l) led come (c, is, wide) n =
        let f = subst (Follow lo hi) (were_is l led) follow in
        subst (λ ps. Contains (names_of hi ps) n ↔ ((Contains (names_of hi pp) n × (IsNameOf (blocks ++ (l ∷ [])) n → ⊥)) ⊎ IsNameOf come n)) (sym (are_is l led))
        (exchange
        (spliced_names hi lo hi led.0.before (led.0.piece ∷ ms) (led.0.piece ∷ []) ys f refl n)
        (both (λ ps. Contains (names_of hi ps) n) (led.0.before ++ ((led.0.piece ∷ ms) ++ ys)) pp (sym (were_is l led)))
        (gone_leaf l led n)
        (comes_names come (names_of (next_of hi ys) (led.0.piece ∷ [])) (comes_is l led c wide.is ∙ ap (map name_of) (sym is)) n))
