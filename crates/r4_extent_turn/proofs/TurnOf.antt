-- The turn of a twig of a body that comes to extents is one of a twig that is packed anew.
use Rattle.std.proofs.Common.{map, ◌≡◌, ◌⊎◌, inl, inr, ℕ, ◌+◌, ◌^◌, ◌≤◌, Bool, true, false, List, [], ◌∷◌, ◌++◌, refl, sym, ap, subst, arith}
use Rattle.std.specs.Prelude.{Contains}
use Rattle.std.proofs.lemmas.List.Elements.{Contains-append_cases, Contains-append_left, Contains-append_right}
use Rattle.r4_base.specs.Key.{rank}
use Rattle.r4_base.specs.Tree.{IsData, Name}
use Rattle.r4_base.specs.declared.key.Key.{Key}
use Rattle.r4_build.specs.r4_branch.Pieces.{AreTwigPieces, names_of, twig_bytes}
use Rattle.r4_build.specs.r4_branch.declared.piece.TwigPiece.{TwigPiece}
use Rattle.r4_extent_build.specs.r4_cell.Seen.{CellSeen, node_of}
use Rattle.r4_content.specs.Edited.{Edits}
use Rattle.r4_extent_build.specs.r4_edit.Extents.{given_cells}
use Rattle.r4_extent_build.specs.Numbering.{block_name, cells_coming, is_coming, names_coming}
use Rattle.r4_extent_build.specs.r4_twig_turns.Turning.{IsTurnOf}
use Rattle.r4_extent_build.proofs.GrowingTurns.{cells_whole}
use Rattle.r4_extent_build.proofs.Numbers.{cells_named, names_count, names_off, names_on}
use Rattle.r4_build.specs.r4_patch.Joining.{ids_of}
use Rattle.r4_build.proofs.r4_patch.Members.{cases, have_names, here, none}
use Rattle.r4_build.specs.r4_path.Steps.{IsNameOf, name_of}
use Rattle.r4_build.proofs.r4_path.Grown.{map_names, names_map}
use Rattle.r4_build.proofs.r4_path.Rising.{hi_is, id_member, lo_is}
use Rattle.r4_build.specs.r4_reach.Touched.{Body}
use Rattle.r4_extent_turn.specs.Turning.{AreKept, IsTurnFor, IsTurningBody, Kept, Turn, blocks_turned, kept_cells, leaves_of, numbered, right_number}
use Rattle.r4_extent_turn.specs.Turning.{set_over, tails_of, told_extent, told_pieces, turning_turn}
use Rattle.r4_extent_turn.proofs.Comes.{come_names, new, qs, qs_names, qs_pieces}
use Rattle.r4_extent_turn.proofs.Keeps.{few_kept, kept_node, number_taken, numbers_are}
use Rattle.r4_extent_turn.proofs.Room.{same_bytes}

names_data : (old : List TwigPiece) (n : ℕ) (ps : List TwigPiece) (m : Name) → Contains (names_coming old n ps) m → IsData m
unfolding names_coming
names_data old n [] m at = absurd (none m at)
names_data old n (p ∷ ps) m at = by_test (is_coming old p) refl (λ k h. names_data old k ps m h)
  where
    by_test : (t : Bool) → is_coming old p ≡ t → ((k : ℕ) → Contains (names_coming old k ps) m → IsData m) → IsData m
    by_test false t rest = rest n (subst (λ ns. Contains ns m) (names_off old n p ps t) at)
    by_test true t rest = elim (cases (block_name (rank p.key) n) m (names_coming old (n + 1) ps) (subst (λ ns. Contains ns m) (names_on old n p ps t) at)) [
      | inl is ↦ ap (λ (x : Name). x.level) is
      | inr more ↦ rest (n + 1) more
    ]

module _ (b : Body) (x : Turn) (c : IsTurnFor b x) (s : Kept) (k : AreKept b x s) (first : Key) (g : IsTurningBody b first) (e : Edits)
    (small : twig_bytes (told_pieces b e x s) ≤ 16000) (n : ℕ) (high : 2 ^ 63 ≤ n) where
  abbrev all : List TwigPiece
  all = qs b x c s k first g e n high

  abbrev come : List CellSeen
  come = kept_cells (numbered x (n + blocks_turned b e) s)

  abbrev data_names : List Name
  data_names = names_coming [] n (told_extent b e)

  pieces : AreTwigPieces (node_of x.twig).lo (node_of x.twig).hi all
  pieces = subst (λ j. AreTwigPieces j (node_of x.twig).hi all) (sym (lo_is x.twig)) (subst (λ j. AreTwigPieces (rank x.twig.lo) j all) (sym (hi_is x.twig)) (qs_pieces b x c s k first g e n high))

  from_come : (m : Name) → Contains (come_names b x c s k first g e n high) m → IsNameOf come m ⊎ Contains data_names m
  from_come m at = elim (Contains-append_cases (map name_of (given_cells (new b x c s k first g e n high).left)) (data_names ++ map name_of (given_cells (new b x c s k first g e n high).right)) m at) [
    | inl l ↦ let z = names_map (given_cells (new b x c s k first g e n high).left) m l in
        inl (z.0, Contains-append_left (given_cells (new b x c s k first g e n high).left) (given_cells (new b x c s k first g e n high).right) z.0 z.1, z.2)
    | inr more ↦ elim (Contains-append_cases data_names (map name_of (given_cells (new b x c s k first g e n high).right)) m more) [
      | inl d ↦ inr d
      | inr r ↦ let z = names_map (given_cells (new b x c s k first g e n high).right) m r in
          inl (z.0, Contains-append_right (given_cells (new b x c s k first g e n high).left) (given_cells (new b x c s k first g e n high).right) z.0 z.1, z.2)
    ]
  ]

  to_come : (m : Name) → IsNameOf come m ⊎ Contains data_names m → Contains (come_names b x c s k first g e n high) m
  to_come m (inr d) = Contains-append_right (map name_of (given_cells (new b x c s k first g e n high).left)) (data_names ++ map name_of (given_cells (new b x c s k first g e n high).right)) m
      (Contains-append_left data_names (map name_of (given_cells (new b x c s k first g e n high).right)) m d)
  to_come m (inl z) = elim (Contains-append_cases (given_cells (new b x c s k first g e n high).left) (given_cells (new b x c s k first g e n high).right) z.0 z.1) [
    | inl l ↦ Contains-append_left (map name_of (given_cells (new b x c s k first g e n high).left)) (data_names ++ map name_of (given_cells (new b x c s k first g e n high).right)) m
        (map_names (given_cells (new b x c s k first g e n high).left) m (z.0, l, z.2))
    | inr r ↦ Contains-append_right (map name_of (given_cells (new b x c s k first g e n high).left)) (data_names ++ map name_of (given_cells (new b x c s k first g e n high).right)) m
        (Contains-append_right data_names (map name_of (given_cells (new b x c s k first g e n high).right)) m (map_names (given_cells (new b x c s k first g e n high).right) m (z.0, r, z.2)))
  ]

  pub turn_of : IsTurnOf (node_of x.twig) (turning_turn b e x s) n
  turn_of =
      let numbers = numbers_are x k.from (n + blocks_turned b e) s k.left in
      let counts = names_count [] n (told_extent b e) in
      record {
        pieces = pieces;
        bytes = let z = same_bytes b x c e s n (right_number x (n + blocks_turned b e)) in omega (arith, z, small);
        data_names = data_names;
        blocks = record {
          names = cells_named [] (set_over (tails_of b x) e) n (told_extent b e);
          whole = λ d m. (cells_whole [] (set_over (tails_of b x) e) n (told_extent b e) d m).1;
        };
        of_data = names_data [] n (told_extent b e);
        block_numbers = counts.0;
        block_count = counts.1;
        goes = c.named;
        names = λ m.
            let h = qs_names b x c s k first g e n high m in (
              (λ at. elim (h.0 (subst (λ j. Contains (names_of j all) m) (hi_is x.twig) at)) [
                | inl was ↦ inl (was.0, λ y. was.1 (map_names (leaves_of x) m y))
                | inr now ↦ inr (from_come m now)
              ]),
              (λ at. subst (λ j. Contains (names_of j all) m) (sym (hi_is x.twig)) (h.1 (elim at [
                | inl was ↦ inl (was.0, λ y. was.1 (names_map (leaves_of x) m y))
                | inr now ↦ inr (to_come m now)
              ]))),
            );
        nodes = λ d at. (kept_node b x c s k (n + blocks_turned b e) d at).0;
        low = λ d at. elim (Contains-append_cases come (cells_coming (set_over (tails_of b x) e) [] n (told_extent b e)) d at) [
          | inl a ↦ let l = (kept_node b x c s k (n + blocks_turned b e) d a).1 in omega (arith, l)
          | inr a ↦ let l = (cells_whole [] (set_over (tails_of b x) e) n (told_extent b e) d a).0 in omega (arith, l)
        ];
        old = c.once;
        new = have_names come numbers.distinct;
        mine = (n + blocks_turned b e) ∷ (n + blocks_turned b e + 1) ∷ [];
        each = λ d at. elim (numbers.each d at) [
          | inl same ↦ inl (subst (Contains (ids_of (leaves_of x))) (sym same) (id_member (leaves_of x) x.leaf (here x.leaf x.more)))
          | inr same ↦ inr (subst (Contains ((n + blocks_turned b e) ∷ (n + blocks_turned b e + 1) ∷ [])) (sym same) (number_taken x (n + blocks_turned b e)))
        ];
        few = let l = numbers.long in let f = few_kept s in omega (arith, l, f);
        leaf_numbers = (refl, (refl, tt));
        leaf_count = omega arith;
      }
