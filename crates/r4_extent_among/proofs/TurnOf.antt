-- The turn of a twig among whose extents values come is one of a twig that is packed anew.
use Rattle.std.proofs.Common.{◌≡◌, inl, inr, ℕ, ◌+◌, ◌*◌, ◌^◌, ◌≤◌, List, [], ◌∷◌, ◌++◌, length, refl, sym, ap, subst, arith}
use Rattle.std.specs.Prelude.{Contains, Option}
use Rattle.std.proofs.lemmas.List.{length-append}
use Rattle.std.proofs.lemmas.List.Elements.{Contains-append_cases}
use Rattle.std.proofs.lemmas.List.Sums.{sum_by-cons}
use Rattle.r4_base.specs.Key.{rank}
use Rattle.r4_base.specs.Node.{mkfs_id_of}
use Rattle.r4_base.specs.Tree.{Span}
use Rattle.r4_build.specs.r4_branch.Pieces.{AreTwigPieces, names_of, twig_bytes}
use Rattle.r4_extent_build.specs.r4_cell.Seen.{CellSeen, node_of}
use Rattle.r4_content.specs.Edited.{Edits}
use Rattle.r4_extent_build.specs.r4_twig_turns.Turning.{IsTurnOf}
use Rattle.r4_extent_build.specs.r4_extent_demands.Putting.{leaves_in, put_into}
use Rattle.r4_extent_build.proofs.r4_extent_edit.SpanBorders.{sound_pieces}
use Rattle.r4_build.specs.r4_leaf.Units.{LeafUnit}
use Rattle.r4_build.specs.r4_patch.Joining.{ids_of}
use Rattle.r4_build.proofs.r4_patch.Members.{have_names, none}
use Rattle.r4_build.specs.r4_path.Steps.{CountUp}
use Rattle.r4_build.specs.r4_path.TwigPieces.{ArePiecesOf, twig_pieces}
use Rattle.r4_build.proofs.r4_path.Rising.{count_within, hi_is, id_member, lo_is}
use Rattle.r4_build.proofs.r4_path.Upwards.{long_ids}
use Rattle.r4_build.specs.r4_reach.Needs.{leaves_for, put_among}
use Rattle.r4_build.specs.r4_reach.Touched.{Body}
use Rattle.r4_extent_among.specs.Among.{AreLeavesFor, AreLeavesIn, AreNewLeaves, IsAmong, among_need, among_turn, numbered, with_leaves}
use Rattle.r4_extent_among.proofs.Alike.{same_bytes}
use Rattle.r4_extent_among.proofs.Chain.{IsChain, chain_cell, chain_of}
use Rattle.r4_extent_among.proofs.Numbered.{all_numbered, numbered_counts, numbered_distinct, numbered_long}
use Rattle.r4_extent_among.proofs.WithLeaves.{ArePut, put_all}

-- ---- how many leaves come

pub few_for : (us : List LeafUnit) (hi m : ℕ) (cs : List CellSeen) → AreLeavesFor us hi m cs → length cs ≤ leaves_for us
few_for [] hi m cs h = let l = ap length h in omega (arith, l)
few_for (u ∷ us) hi m cs h = h.few

few_in : (b : Option Body) (e : Edits) (m : ℕ) (ss : List Span) (cs : List CellSeen) → AreLeavesIn b e m ss cs → length cs ≤ leaves_in b e ss
few_in b e m [] cs h = let l = ap length h in omega (arith, l)
few_in b e m (s ∷ ss) cs (mine, others, is, for_it, rest) =
    let one = few_for (put_into b e s.lo s.hi) s.hi m mine for_it in
    let more = few_in b e m ss others rest in
    let l = ap length is in
    let a = length-append mine others in
    let z = sum_by-cons (λ (x : Span). leaves_for (put_into b e x.lo x.hi)) s ss in
    omega (arith, one, more, l, a, z)

pub few_leaves : (b : Option Body) (e : Edits) (twig : CellSeen) (cs : List CellSeen) → AreNewLeaves b e twig cs → length cs ≤ put_among b e (node_of twig)
few_leaves b e twig cs h = few_in b e (mkfs_id_of twig.block) (node_of twig).spans cs h

module _ (b : Option Body) (e : Edits) (twig : CellSeen) (cells : List CellSeen) (is : IsAmong b e twig) (are : AreNewLeaves b e twig cells) where
  pub own_pieces : ArePiecesOf twig (twig_pieces twig)
  own_pieces = sound_pieces twig is.sound is.level

  module _ (n : ℕ) where
    abbrev pub come : List CellSeen
    come = numbered n cells

    pub chain : IsChain twig come
    chain = chain_of b e twig is (mkfs_id_of twig.block) come (all_numbered b e (mkfs_id_of twig.block) n (node_of twig).spans cells are)

    within : (c : CellSeen) → Contains come c → n ≤ c.id
    within c at = (count_within n (ids_of come) c.id (numbered_counts n cells) (id_member come c at)).0

    module _ (high : 2 ^ 63 ≤ n) where
      pub put : ArePut twig come (with_leaves come (twig_pieces twig))
      put = put_all twig is.node own_pieces come chain (λ c at. let w = within c at in omega (arith, w, high))

      turn_for : twig_bytes (with_leaves come (twig_pieces twig)) ≤ among_need b e twig → among_need b e twig ≤ 16000 → IsTurnOf (node_of twig) (among_turn twig cells) n
      turn_for fits small = record {
        pieces = subst (λ j. AreTwigPieces j (node_of twig).hi (with_leaves come (twig_pieces twig))) (sym (lo_is twig)) (subst (λ j. AreTwigPieces (rank twig.lo) j (with_leaves come (twig_pieces twig))) (sym (hi_is twig)) put.pieces);
        bytes = omega (arith, fits, small);
        data_names = [];
        blocks = record { names = refl; whole = λ c at. absurd (none c at) };
        of_data = λ m at. absurd (none m at);
        block_numbers = tt;
        block_count = refl;
        goes = λ c at. absurd (none c at);
        names = λ m. (
          λ at. elim ((put.names m).0 (subst (λ j. Contains (names_of j (with_leaves come (twig_pieces twig))) m) (hi_is twig) at)) [
            | inl was ↦ inl (was, λ y. none y.0 y.1)
            | inr new ↦ inr (inl new)
          ],
          λ at. subst (λ j. Contains (names_of j (with_leaves come (twig_pieces twig))) m) (sym (hi_is twig)) ((put.names m).1 (elim at [
            | inl was ↦ inl was.0
            | inr now ↦ elim now [ inl new ↦ inr new | inr nothing ↦ absurd (none m nothing) ]
          ])),
        );
        nodes = λ c at. (chain_cell twig come c is.node chain at).0;
        low = λ c at. by_append c at;
        old = have_names [] tt;
        new = have_names come (numbered_distinct n cells);
        mine = ids_of come;
        each = λ c at. inr (id_member come c at);
        few = let l = numbered_long n cells in omega (arith, l);
        leaf_numbers = subst (λ j. CountUp j (ids_of come)) (let z : n ≡ n + 0 = omega arith in z) (numbered_counts n cells);
        leaf_count = let l = long_ids come in let k = numbered_long n cells in omega (arith, l, k);
      }
        where
          by_append : (c : CellSeen) → Contains (come ++ []) c → c.level ≤ 1
          by_append c at = elim (Contains-append_cases come [] c at) [
            | inl m ↦ let l = (chain_cell twig come c is.node chain m).1 in omega (arith, l)
            | inr nothing ↦ absurd (none c nothing)
          ]

  -- each leaf takes the room of a pointer
  pub room : (n : ℕ) → twig_bytes (with_leaves (come n) (twig_pieces twig)) ≡ twig_bytes (twig_pieces twig) + 46 * length cells
  room n =
      let same = same_bytes n (2 ^ 63) cells (twig_pieces twig) in
      let h = (put (2 ^ 63) (omega arith)).bytes in
      let l = numbered_long (2 ^ 63) cells in
      omega (arith, same, h, l)

  pub few_bytes : (n : ℕ) → twig_bytes (with_leaves (come n) (twig_pieces twig)) ≤ among_need b e twig
  few_bytes n = let h = room n in let few = few_leaves b e twig cells are in omega (arith, h, few)

  pub turn_of : (n : ℕ) → 2 ^ 63 ≤ n → among_need b e twig ≤ 16000 → IsTurnOf (node_of twig) (among_turn twig cells) n
  turn_of n high small = turn_for n high (few_bytes n) small
