-- The pieces that a twig has after edits, where blocks go of it.
use Rattle.std.proofs.Common.{◌≡◌, inl, inr, ℕ, ◌+◌, ◌-◌, ◌/◌, ◌^◌, ◌<◌, ◌≤◌, Bool, true, false, cond, List, [], ◌∷◌, ◌++◌, refl, sym, ap, subst, ◌∙◌, arith}
use Rattle.std.specs.Prelude.{Contains, Option, None, Some, ◌==◌, ◌&&◌, ◌||◌}
use Rattle.std.specs.List.{flat_map, list_any}
use Rattle.std.proofs.lemmas.Bool.{cases_lt, eq-eqb, eqb-true}
use Rattle.std.proofs.lemmas.List.{take-append-drop}
use Rattle.r4_base.specs.Key.{rank}
use Rattle.r4_base.specs.Node.{items_of}
use Rattle.r4_base.specs.Tree.{Name}
use Rattle.r4_base.specs.declared.key.Key.{Key}
use Rattle.r4_extent_build.specs.r4_branch.Pieces.{Follow, is_at, last_end, names_of, next_of, pieces_in, twig_bytes}
use Rattle.r4_extent_build.specs.r4_branch.declared.piece.TwigPart.TheVariants.{Pointer}
use Rattle.r4_extent_build.specs.r4_branch.declared.piece.TwigPiece.{TwigPiece}
use Rattle.r4_extent_build.specs.r4_cell.Seen.{CellSeen, node_of}
use Rattle.r4_content.specs.Edited.{Edits, is_between}
use Rattle.r4_extent_build.specs.r4_edit.CutBlocks.{BeginsAt, pieces_behind, pieces_below, pieces_between, pointer_for}
use Rattle.r4_extent_build.proofs.r4_edit.CutGraft.{may_be_named}
use Rattle.r4_extent_build.proofs.r4_edit.CutOut.{IsLed, cut_twigs, led_by}
use Rattle.r4_extent_build.proofs.r4_edit.CutParts.{AreSplit, split, twice_bytes, twice_follow, twice_names, twice_next}
use Rattle.r4_extent_build.specs.r4_graft.Splices.{place, spliced}
use Rattle.r4_extent_build.proofs.r4_leaf_edits.KeyRanks.{key_again}
use Rattle.r4_extent_build.proofs.r4_measure.Kept.{block_is}
use Rattle.r4_extent_build.proofs.r4_patch.Members.{cases, here, later, none}
use Rattle.r4_extent_build.specs.r4_path.Steps.{name_of}
use Rattle.r4_extent_build.specs.r4_path.TwigPieces.{twig_pieces}
use Rattle.r4_extent_build.specs.r4_reach.Needs.{cut_pieces, filled, gets_bytes, has_left_leaf, pieces_after, pointer_at, runs, taken_up, with_coming, without_gone}
use Rattle.r4_extent_build.specs.r4_reach.Touched.{Body, coming, going}
use Rattle.r4_extent_build.specs.Growing.{end_after, end_before}
use Rattle.r4_extent_build.proofs.UncutTwigs.{none_gone}
use Rattle.r4_extent_loss.specs.Losing.{IsLeft, IsLosing, IsLossOf, Loss, gone_from, gone_to, parted_pieces}
use Rattle.r4_extent_loss.proofs.Calm.{calm_pieces, coming_is, going_is}
use Rattle.r4_extent_loss.proofs.Clipped.{clipped, larger_high, larger_low, smaller_high, smaller_low}

any_off : (test : Name → Bool) (ns : List Name) → ((n : Name) → Contains ns n → test n ≡ false) → list_any test ns ≡ false
any_off test [] h = refl
any_off test (n ∷ ns) h = by_tests (test n) (list_any test ns) (h n (here n ns)) (any_off test ns (λ m at. h m (later n m ns at)))
  where
    by_tests : (a b : Bool) → a ≡ false → b ≡ false → (a || b) ≡ false
    by_tests true b e f = absurd cc
    by_tests false b e f = f

any_on : (test : Name → Bool) (ns : List Name) (n : Name) → Contains ns n → test n ≡ true → list_any test ns ≡ true
any_on test [] n at h = absurd (none n at)
any_on test (m ∷ ns) n at h = elim (cases m n ns at) [
  | inl is ↦ first (test m) (list_any test ns) (ap test (sym is) ∙ h)
  | inr more ↦ rest (test m) (list_any test ns) (any_on test ns n more h)
]
  where
    first : (a b : Bool) → a ≡ true → (a || b) ≡ true
    first true b e = refl
    first false b e = absurd cc

    rest : (a b : Bool) → b ≡ true → (a || b) ≡ true
    rest true b e = refl
    rest false b e = e

both_off : (a b : ℕ) (k j : ℕ) → (a ≡ k → b ≡ j → ⊥) → ((a == k) && (b == j)) ≡ false
both_off a b k j never = by_first (a == k) refl
  where
    by_first : (t : Bool) → (a == k) ≡ t → ((a == k) && (b == j)) ≡ false
    by_first false e = ap (λ (t : Bool). t && (b == j)) e
    by_first true e = by_second (b == j) refl
      where
        by_second : (t : Bool) → (b == j) ≡ t → ((a == k) && (b == j)) ≡ false
        by_second false f = (λ i. e i && f i)
        by_second true f = absurd (never (eqb-true a k e) (eqb-true b j f))

-- what goes of a twig lies in its range
pub gone_low : (b : Body) (twig : CellSeen) → rank twig.lo ≤ gone_from b twig
gone_low b twig = elim (cases_lt (rank twig.lo) (end_after b)) [
  | inl lt ↦ let e = larger_high (rank twig.lo) (end_after b) lt in omega (arith, e, lt)
  | inr le ↦ let e = larger_low (rank twig.lo) (end_after b) le in omega (arith, e)
]

pub gone_high : (b : Body) (twig : CellSeen) → gone_to b twig ≤ rank twig.hi
gone_high b twig = elim (cases_lt (rank twig.hi) (end_before b)) [
  | inl lt ↦ let e = smaller_low (rank twig.hi) (end_before b) lt in omega (arith, e)
  | inr le ↦ let e = smaller_high (rank twig.hi) (end_before b) le in omega (arith, e, le)
]

module _ (b : Body) (x : Loss) (c : IsLossOf b x) where
  abbrev pub lo : ℕ
  lo = rank x.twig.lo

  abbrev pub hi : ℕ
  hi = rank x.twig.hi

  abbrev pub ps : List TwigPiece
  ps = twig_pieces x.twig

  abbrev pub pp : List TwigPiece
  pp = parted_pieces b x.twig

  abbrev pub xs : List TwigPiece
  xs = pieces_below (gone_from b x.twig) pp

  abbrev pub ms : List TwigPiece
  ms = pieces_between (gone_from b x.twig) (gone_to b x.twig) pp

  abbrev pub ys : List TwigPiece
  ys = pieces_behind (gone_to b x.twig) pp

  follow : Follow lo hi ps
  follow = c.pieces.pieces.follow

  pub low : lo ≤ gone_from b x.twig
  low = gone_low b x.twig

  pub high : gone_to b x.twig ≤ hi
  high = gone_high b x.twig

  pub some : lo < hi
  some = let l = low in let h = high in let s = c.some in omega (arith, l, h, s)

  pub parts : AreSplit lo hi (gone_from b x.twig) (gone_to b x.twig) pp xs ms ys
  parts = split lo hi (gone_from b x.twig) (gone_to b x.twig) ps follow low c.some high c.first_border c.last_border

  pub all_follow : Follow lo hi pp
  all_follow = twice_follow lo hi (gone_from b x.twig) (gone_to b x.twig) ps follow low c.some high c.first_border c.last_border

  pub all_names : names_of hi pp ≡ (node_of x.twig).names
  all_names = twice_names lo hi (gone_from b x.twig) (gone_to b x.twig) ps follow low c.some high c.first_border c.last_border hi ∙ c.pieces.names

  pub all_first : next_of hi pp ≡ lo
  all_first = twice_next lo hi (gone_from b x.twig) (gone_to b x.twig) ps follow low c.some high c.first_border c.last_border hi ∙ c.pieces.pieces.first

  pub all_bytes : twig_bytes pp ≤ twig_bytes ps + 32
  all_bytes = twice_bytes lo hi (gone_from b x.twig) (gone_to b x.twig) ps follow low c.some high c.first_border c.last_border

  -- the leaf that is given ends the pieces below what goes
  pub led : (l : Option CellSeen) → IsLeft b x.twig l → IsLed l xs ms
  led None left = tt
  led (Some l) left =
      let begins : BeginsAt (rank l.hi) ms = subst (λ k. BeginsAt k ms) (sym left.ends) c.begins in (
        led_by lo hi xs ms ys l begins (subst (Follow lo hi) parts.is all_follow)
            (subst (λ qs. Contains (names_of hi qs) (name_of l)) parts.is (subst (λ ns. Contains ns (name_of l)) (sym all_names) left.named)) left.level,
        (left.level, begins),
      )

  abbrev pub rest : List TwigPiece
  rest = xs ++ (pointer_for x.leaf (last_end None xs) (2 ^ 63) ms ++ ys)

  rest_follow : Follow lo hi rest
  rest_follow = (cut_twigs lo hi (gone_from b x.twig) (gone_to b x.twig) pp xs ms ys parts (2 ^ 63) x.leaf (led x.leaf c.left) (may_be_named (2 ^ 63) (omega arith)) some all_first).follow

  pub taken : (qs : List TwigPiece) → BeginsAt (gone_from b x.twig) qs → Follow (gone_from b x.twig) (gone_to b x.twig) qs
      → taken_up (node_of x.twig) xs qs ≡ pointer_for x.leaf (last_end None xs) (2 ^ 63) qs
  taken [] begins f = absurd begins
  taken (m ∷ more) begins f = by_leaf x.leaf c.left
    where
      by_leaf : (l : Option CellSeen) → IsLeft b x.twig l → taken_up (node_of x.twig) xs (m ∷ more) ≡ pointer_for l (last_end None xs) (2 ^ 63) (m ∷ more)
      by_leaf None none_left =
          let off : has_left_leaf (node_of x.twig) (rank m.key) ≡ false = any_off (λ (n : Name). (n.level == 1) && (n.hi == rank m.key)) (node_of x.twig).names
          (λ n at. both_off n.level n.hi 1 (rank m.key) (λ one ends. none_left n at one (ends ∙ begins))) in
          ap (λ (t : Bool). cond (t || is_at (last_end None xs) (rank m.key)) [] (pointer_at (rank m.key))) off
          ∙ ap (λ (k : Key). cond (is_at (last_end None xs) (rank m.key)) [] (record { key = k; part = Pointer (record { 0 = 2 ^ 63 }) } ∷ [])) (key_again m.key f.1.0)
      by_leaf (Some l) left =
          let on : has_left_leaf (node_of x.twig) (rank m.key) ≡ true = any_on (λ (n : Name). (n.level == 1) && (n.hi == rank m.key)) (node_of x.twig).names (name_of l) left.named
          (λ i. eq-eqb l.level 1 left.level i && eq-eqb (rank l.hi) (rank m.key) (left.ends ∙ sym begins) i) in
          ap (λ (t : Bool). cond (t || is_at (last_end None xs) (rank m.key)) [] (pointer_at (rank m.key))) on

  module _ (first : Key) (e : Edits) (g : IsLosing b first e) where
    left_is : cut_pieces (going b) (node_of x.twig) (without_gone [] (pieces_in (items_of (node_of x.twig).block))) ≡ rest
    left_is =
        ap (λ bytes. cut_pieces (going b) (node_of x.twig) (without_gone [] (pieces_in (items_of bytes)))) (block_is x.twig)
        ∙ (ap (cut_pieces (going b) (node_of x.twig)) (none_gone ps)
        ∙ (ap (λ (r : ℕ × ℕ). cut_pieces r (node_of x.twig) ps) (going_is b first e g)
        ∙ (clipped (node_of x.twig) lo hi (end_after b) (end_before b) ps follow c.first_border all_follow
        ∙ ap (λ ts. xs ++ (ts ++ ys)) (taken ms c.begins parts.mid))))

    none_is : ((coming b).1 - (coming b).0) / 4096 ≡ 0
    none_is = ap (λ (r : ℕ × ℕ). (r.1 - r.0) / 4096) (coming_is b first e g) ∙ (let s = g.shorter in let z : (end_after b - end_before b) / 4096 ≡ 0 = omega (arith, s) in z)

    nothing_comes : (qs : List TwigPiece) → with_coming b e (node_of x.twig) qs ≡ qs
    nothing_comes qs = by_test (is_between (node_of x.twig).lo (node_of x.twig).hi (coming b).0)
      where
        by_test : (t : Bool) → cond t (spliced (place (coming b).0 qs) (place (coming b).0 qs) (runs (gets_bytes b e) (coming b).0 (((coming b).1 - (coming b).0) / 4096)) qs) qs ≡ qs
        by_test false = refl
        by_test true =
            (λ i. spliced (place (coming b).0 qs) (place (coming b).0 qs) (runs (gets_bytes b e) (coming b).0 (none_is i)) qs)
            ∙ take-append-drop (place (coming b).0 qs) qs

    pub after_is : pieces_after (Some b) e (node_of x.twig) [] ≡ rest
    after_is =
        ap (λ qs. with_coming b e (node_of x.twig) (flat_map (filled b e) qs)) left_is
        ∙ (ap (with_coming b e (node_of x.twig)) (calm_pieces b first e g lo hi rest rest_follow)
        ∙ nothing_comes rest)
