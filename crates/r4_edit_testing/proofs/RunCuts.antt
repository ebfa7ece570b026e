-- A block may be cut out of the extent of four blocks below a root.
use Rattle.std.proofs.Common.{◌≡◌, ◌⊎◌, inl, inr, ℕ, ◌+◌, ◌*◌, ◌-◌, ◌^◌, ◌<◌, ◌≤◌, List, [], ◌∷◌, ◌++◌, Bool, true, false, refl, sym, ap, subst, ◌∙◌, arith}
use Rattle.std.specs.Prelude.{Contains, Option, None, Some}
use Rattle.std.proofs.lemmas.Option.{same_Some}
use Rattle.r4_base.specs.Key.{rank}
use Rattle.r4_base.specs.Tree.{IsNode, Name, Root, Store}
use Rattle.r4_base.specs.Value.{Value}
use Rattle.r4_base.specs.declared.key.Key.{Key}
use Rattle.r4_branch.specs.Pieces.{bytes_behind, piece_end, twig_bytes}
use Rattle.r4_branch.specs.declared.piece.TwigPiece.{TwigPiece}
use Rattle.r4_cell.specs.Patch.{by_name}
use Rattle.r4_cell.specs.Seen.{CellSeen, node_of}
use Rattle.r4_cell.specs.declared.change.Fresh.{Fresh}
use Rattle.r4_graft.specs.Splices.{IsBorder}
use Rattle.r4_edit.specs.CutBlocks.{BeginsAt, IsCutIn, IsCutUp, IsLeftOf, IsTakenOutIn, cut_pieces}
use Rattle.r4_edit.specs.CutBlocks.{parted_twice, pieces_between, pieces_without}
use Rattle.r4_edit.specs.Extents.{given_cells}
use Rattle.r4_path.specs.TwigPieces.{twig_pieces}
use Rattle.r4_path.specs.Steps.{IsNameOf, name_of}
use Rattle.r4_edit_testing.specs.Trials.{IsRunBlock, IsRunLeaf, IsRunTwig, byte_key, first_piece, low_root, run_piece}
use Rattle.r4_path.proofs.ExtentChange.{only}
use Rattle.r4_patch.proofs.Members.{cases, have_names, here, here_named, later_named, none}
use Rattle.r4_edit_testing.proofs.RunTwig.{block_before, block_name, block_named, block_node, byte_at, byte_top, first_key, first_name}
use Rattle.r4_edit_testing.proofs.RunTwig.{first_of, has_block, has_first, leaf_named, least_byte, name_is, path_of}

-- where the block begins, and the next one
abbrev from_key : (nth : ℕ) → ℕ
from_key nth = rank (byte_key (4096 * nth))

abbrev to_key : (nth : ℕ) → ℕ
to_key nth = rank (byte_key (4096 * nth + 4096))

-- the pieces that go
abbrev going : (nth : ℕ) → List TwigPiece → List TwigPiece
going nth ps = pieces_between (from_key nth) (to_key nth) (parted_twice (from_key nth) (to_key nth) ps)

module _ (lead : Bool) (twig : CellSeen) (is : IsRunTwig lead twig) where
  first_end : (b : Bool) → piece_end (first_piece b) ≤ rank (byte_key 0)
  first_end true = omega (arith, first_key true, least_byte)
  first_end false = omega (arith, first_key false, block_before)

  border : (n : ℕ) → IsBorder (rank (byte_key (4096 * n))) (twig_pieces twig)
  border n p at low high =
      let k = byte_at (4096 * n) in
      elim (cases (first_piece lead) p (run_piece ∷ []) (subst (λ ps. Contains ps p) (sym is.pieces.is) at)) [
        | inl same ↦
            let end = ap piece_end same in
            let before = first_end lead in
            absurd (omega (arith, k, high, end, before))
        | inr more ↦
            let key = ap (λ (q : TwigPiece). rank q.key) (only run_piece p more) in
            (n, omega (arith, k, key))
      ]

  clear : (from to : ℕ) → rank (byte_key 0) ≤ from → (n : Name) → Contains (node_of twig).names n → n.level ≡ 1
      → (n.hi ≤ from) ⊎ (to ≤ n.lo)
  clear from to low n at level = elim (name_is lead twig is n at) [
    | inl same ↦ let high = (first_of lead twig is n same).high in inl (omega (arith, high, low))
    | inr more ↦ let (j, less, e) = more in let l = ap (λ (m : Name). m.level) e in absurd (omega (arith, l, level))
  ]

  -- a leaf ends where the extent begins
  leaf_ends : (n : Name) → Contains (node_of twig).names n → n.level ≡ 1 → n.hi ≡ rank (byte_key 0)
  leaf_ends n at level = elim (name_is lead twig is n at) [
    | inl same ↦ (first_of lead twig is n same).ends level
    | inr more ↦ let (j, less, e) = more in let l = ap (λ (m : Name). m.level) e in absurd (omega (arith, l, level))
  ]

  module _ (nth : ℕ) (block : CellSeen) (less : nth < 4) (mine : IsRunBlock nth block) where
    begins : from_key nth ≡ rank (byte_key 0) + 4096 * nth
    begins = byte_at (4096 * nth)

    stops : to_key nth ≡ rank (byte_key 0) + (4096 * nth + 4096)
    stops = byte_at (4096 * nth + 4096)

    goes_to : (n : Name) → IsNameOf (block ∷ []) n
        → Contains (node_of twig).names n × ((n.level ≡ 0) × ((from_key nth ≤ n.lo) × (n.lo < to_key nth)))
    goes_to n (c, at, e) =
        let named : n ≡ block_name nth = e ∙ (ap name_of (only block c at) ∙ block_named nth block mine) in
        let lo = ap (λ (m : Name). m.lo) named in (
          subst (Contains (node_of twig).names) (sym named) (has_block lead twig is nth less),
          (
            ap (λ (m : Name). m.level) named,
            (omega (arith, lo, begins), omega (arith, lo, stops)),
          ),
        )

    goes_from : (n : Name)
        → Contains (node_of twig).names n × ((n.level ≡ 0) × ((from_key nth ≤ n.lo) × (n.lo < to_key nth)))
        → IsNameOf (block ∷ []) n
    goes_from n (at, (level, (low, high))) = elim (name_is lead twig is n at) [
      | inl same ↦ let before = (first_of lead twig is n same).low in absurd (omega (arith, before, low, begins))
      | inr more ↦
          let (j, few, e) = more in
          let lo = ap (λ (m : Name). m.lo) e in
          let index : j ≡ nth = omega (arith, lo, low, high, begins, stops) in
          (block, here block [], e ∙ (ap block_name index ∙ sym (block_named nth block mine)))
    ]

    module _ (leaf : Option CellSeen) (is_leaf : (c : CellSeen) → leaf ≡ Some c → IsRunLeaf c × (lead ≡ true)) (f : Fresh)
        (next : f.next ≡ 2 ^ 63 + 1000) (end : f.end ≡ 2 ^ 64 - 1) where
      member : (c : CellSeen) → Contains (given_cells leaf ++ block ∷ []) c → (IsRunLeaf c × (lead ≡ true)) ⊎ (c ≡ block)
      member c at = go leaf is_leaf at
        where
          go : (o : Option CellSeen) → ((c : CellSeen) → o ≡ Some c → IsRunLeaf c × (lead ≡ true))
              → Contains (given_cells o ++ block ∷ []) c → (IsRunLeaf c × (lead ≡ true)) ⊎ (c ≡ block)
          go None h at = inr (only block c at)
          go (Some d) h at = elim (cases d c (block ∷ []) at) [
            | inl same ↦ inl (subst (λ (x : CellSeen). IsRunLeaf x × (lead ≡ true)) (sym same) (h d refl))
            | inr more ↦ inr (only block c more)
          ]

      nodes : (c : CellSeen) → Contains (given_cells leaf ++ block ∷ []) c → IsNode (node_of c)
      nodes c at = elim (member c at) [
        | inl low ↦ low.0.node
        | inr same ↦ subst (λ (x : CellSeen). IsNode (node_of x)) (sym same) (block_node nth block less mine)
      ]

      low : (c : CellSeen) → Contains (given_cells leaf ++ block ∷ []) c → c.level ≤ 1
      low c at = elim (member c at) [
        | inl is ↦ let l = is.0.level in omega (arith, l)
        | inr same ↦ let e = ap (λ (x : CellSeen). x.level) same in let l = mine.level in omega (arith, e, l)
      ]

      named : (c : CellSeen) → Contains (given_cells leaf ++ block ∷ []) c → Contains (node_of twig).names (name_of c)
      named c at = elim (member c at) [
        | inl low ↦ subst (Contains (node_of twig).names) (ap first_name low.1 ∙ sym (leaf_named c low.0))
            (has_first lead twig is)
        | inr same ↦ subst (Contains (node_of twig).names) (sym (ap name_of same ∙ block_named nth block mine))
            (has_block lead twig is nth less)
      ]

      abbrev t : Store Value
      t = by_name (twig ∷ (given_cells leaf ++ block ∷ []))

      block_there : t block.id ≡ Some (node_of block)
      block_there =
          let a = is.id in
          let b = mine.id in
          later_named twig (given_cells leaf ++ block ∷ []) block.id (λ e. omega (arith, a, b, e)) ∙ go leaf is_leaf
        where
          go : (o : Option CellSeen) → ((c : CellSeen) → o ≡ Some c → IsRunLeaf c × (lead ≡ true))
              → by_name (given_cells o ++ block ∷ []) block.id ≡ Some (node_of block)
          go None h = here_named block [] block.id refl
          go (Some d) h =
              let a = (h d refl).0.id in
              let b = mine.id in
              later_named d (block ∷ []) block.id (λ e. omega (arith, a, b, e)) ∙ here_named block [] block.id refl

      pub cut_in : ((id : ℕ) → twig_bytes (cut_pieces (from_key nth) (to_key nth) id leaf twig) ≤ 4068)
          → IsLeftOf t twig (going nth (twig_pieces twig)) leaf
          → IsCutIn t (low_root twig) leaf (block ∷ []) (from_key nth) (to_key nth) f twig []
      cut_in few left = record {
        room = λ id. record {
          path = path_of lead twig is (given_cells leaf ++ block ∷ []) nodes low named f (omega (arith, next));
          level = is.level;
          enough = inl (few id);
          numbers = let b = few id in omega (arith, b, next, end);
        };
        low = let lo = is.lo in omega (arith, lo, begins, least_byte);
        some = omega (arith, begins, stops);
        high = let hi = is.hi in omega (arith, hi, stops, byte_top, less);
        first_border = border nth;
        second_border =
            let next : 4096 * (nth + 1) ≡ 4096 * nth + 4096 = omega arith in
            subst (λ (n : ℕ). IsBorder (rank (byte_key n)) (twig_pieces twig)) next (border (nth + 1));
        clear = clear (from_key nth) (to_key nth) (omega (arith, begins));
        goes = λ n. (goes_to n, goes_from n);
        stand = λ c at. subst (λ (x : CellSeen). t x.id ≡ Some (node_of x)) (sym (only block c at)) block_there;
        once = have_names (block ∷ []) (λ y at. absurd (none y at), tt);
        left = left;
      }

      -- the same of keys that are given, and of the path
      pub out_of : ((id : ℕ) → twig_bytes (cut_pieces (from_key nth) (to_key nth) id leaf twig) ≤ 4068)
          → IsLeftOf t twig (going nth (twig_pieces twig)) leaf → (from to : Key) → from ≡ byte_key (4096 * nth)
          → to ≡ byte_key (4096 * nth + 4096) → IsTakenOutIn t (low_root twig) (twig ∷ (given_cells leaf ++ block ∷ [])) from to f
      out_of few left from to first last = inr (record {
        above = twig ∷ [];
        leaf = leaf;
        blocks = block ∷ [];
        is = refl;
        branches = λ c at. let e = ap (λ (x : CellSeen). x.level) (only twig c at) in let l = is.level in omega (arith, e, l);
        cuts = subst (λ (k : Key). IsCutUp t (low_root twig) leaf (block ∷ []) (rank k) (rank to) f (twig ∷ [])) (sym first)
            (subst (λ (k : Key). IsCutUp t (low_root twig) leaf (block ∷ []) (from_key nth) (rank k) f (twig ∷ [])) (sym last)
            (cut_in few left));
      })

-- ---- the first block

first_bytes : (twig : CellSeen) (is : IsRunTwig true twig) (leaf : CellSeen) (id : ℕ)
    → twig_bytes (cut_pieces (from_key 0) (to_key 0) id (Some leaf) twig) ≤ 4068
unfolding rank bytes_behind
first_bytes twig is leaf id =
    subst (λ ps. twig_bytes (pieces_without (from_key 0) (to_key 0) id (Some leaf) (parted_twice (from_key 0) (to_key 0) ps))
    ≤ 4068) is.pieces.is (omega arith)

first_begins : (twig : CellSeen) (is : IsRunTwig true twig) (k : ℕ) → k ≡ rank (byte_key 0) → BeginsAt k (going 0 (twig_pieces twig))
unfolding rank
first_begins twig is k e = subst (λ ps. BeginsAt k (going 0 ps)) is.pieces.is (sym e)

pub first_out : (twig leaf block : CellSeen) → IsRunTwig true twig → IsRunLeaf leaf → IsRunBlock 0 block → (f : Fresh)
    → f.next ≡ 2 ^ 63 + 1000 → f.end ≡ 2 ^ 64 - 1 → (from to : Key) → from ≡ byte_key 0 → to ≡ byte_key 4096
    → (t : Store Value) × ((r : Root) × IsTakenOutIn t r (twig ∷ (leaf ∷ (block ∷ []))) from to f)
first_out twig leaf block is before mine f next end from to first last = (
  by_name (twig ∷ (leaf ∷ (block ∷ []))),
  (
    low_root twig,
    out_of true twig is 0 block (omega arith) mine (Some leaf)
        (λ c e. (subst IsRunLeaf (same_Some leaf c e) before, refl)) f next end
        (first_bytes twig is leaf)
        (record {
          named = subst (Contains (node_of twig).names) (sym (leaf_named leaf before)) (has_first true twig is);
          stands =
              let a = is.id in
              let b = before.id in
              later_named twig (leaf ∷ (block ∷ [])) leaf.id (λ e. omega (arith, a, b, e)) ∙ here_named leaf (block ∷ []) leaf.id refl;
          level_is = before.level;
          ends = first_begins twig is (rank leaf.hi) before.hi;
        })
        from to first last,
  ),
)

-- ---- the second and the last one

abbrev HasFew : (nth : ℕ) → CellSeen → Type 0
HasFew nth twig = (id : ℕ) → twig_bytes (cut_pieces (from_key nth) (to_key nth) id None twig) ≤ 4068

second_bytes : (twig : CellSeen) (is : IsRunTwig true twig) → HasFew 1 twig
unfolding rank bytes_behind
second_bytes twig is id =
    subst (λ ps. twig_bytes (pieces_without (from_key 1) (to_key 1) id None (parted_twice (from_key 1) (to_key 1) ps)) ≤ 4068)
    is.pieces.is (omega arith)

last_bytes : (twig : CellSeen) (is : IsRunTwig true twig) → HasFew 3 twig
unfolding rank bytes_behind
last_bytes twig is id =
    subst (λ ps. twig_bytes (pieces_without (from_key 3) (to_key 3) id None (parted_twice (from_key 3) (to_key 3) ps)) ≤ 4068)
    is.pieces.is (omega arith)

second_begins : (twig : CellSeen) (is : IsRunTwig true twig) (k : ℕ) → BeginsAt k (going 1 (twig_pieces twig)) → from_key 1 ≡ k
unfolding rank
second_begins twig is k h = subst (λ ps. BeginsAt k (going 1 ps)) (sym is.pieces.is) h

last_begins : (twig : CellSeen) (is : IsRunTwig true twig) (k : ℕ) → BeginsAt k (going 3 (twig_pieces twig)) → from_key 3 ≡ k
unfolding rank
last_begins twig is k h = subst (λ ps. BeginsAt k (going 3 ps)) (sym is.pieces.is) h

-- ---- the first one, behind another extent

fresh_bytes : (twig : CellSeen) (is : IsRunTwig false twig) → HasFew 0 twig
unfolding rank bytes_behind
fresh_bytes twig is id =
    subst (λ ps. twig_bytes (pieces_without (from_key 0) (to_key 0) id None (parted_twice (from_key 0) (to_key 0) ps)) ≤ 4068)
    is.pieces.is (omega arith)

no_leaf : (twig : CellSeen) (is : IsRunTwig false twig) (n : Name) → Contains (node_of twig).names n → n.level ≡ 1 → ⊥
no_leaf twig is n at level = elim (name_is false twig is n at) [
  | inl same ↦ let l = ap (λ (m : Name). m.level) same in omega (arith, l, level)
  | inr more ↦ let (j, less, e) = more in let l = ap (λ (m : Name). m.level) e in omega (arith, l, level)
]

-- ---- any of these

module _ (twig block : CellSeen) (f : Fresh) (next : f.next ≡ 2 ^ 63 + 1000) (end : f.end ≡ 2 ^ 64 - 1) (from to : Key) where
  behind_leaf : (is : IsRunTwig true twig) (nth : ℕ) → 1 ≤ nth → nth < 4 → HasFew nth twig
      → ((k : ℕ) → BeginsAt k (going nth (twig_pieces twig)) → from_key nth ≡ k) → IsRunBlock nth block
      → from ≡ byte_key (4096 * nth) → to ≡ byte_key (4096 * nth + 4096)
      → IsTakenOutIn (by_name (twig ∷ (block ∷ []))) (low_root twig) (twig ∷ (block ∷ [])) from to f
  behind_leaf is nth some less few begin mine first last =
      out_of true twig is nth block less mine None (λ c e. absurd cc) f next end few
      (λ n at level h.
      let hi = leaf_ends true twig is n at level in
      let k = begin n.hi h in
      let b = byte_at (4096 * nth) in
      omega (arith, hi, k, b, some)) from to first last

  second_or_last : (is : IsRunTwig true twig) (nth : ℕ) → (nth ≡ 1) ⊎ (nth ≡ 3) → IsRunBlock nth block
      → from ≡ byte_key (4096 * nth) → to ≡ byte_key (4096 * nth + 4096)
      → IsTakenOutIn (by_name (twig ∷ (block ∷ []))) (low_root twig) (twig ∷ (block ∷ [])) from to f
  second_or_last is nth (inl e) mine first last =
      behind_leaf is nth (omega (arith, e)) (omega (arith, e)) (subst (λ n. HasFew n twig) (sym e) (second_bytes twig is))
      (subst (λ (n : ℕ). (k : ℕ) → BeginsAt k (going n (twig_pieces twig)) → from_key n ≡ k) (sym e) (second_begins twig is))
      mine first last
  second_or_last is nth (inr e) mine first last =
      behind_leaf is nth (omega (arith, e)) (omega (arith, e)) (subst (λ n. HasFew n twig) (sym e) (last_bytes twig is))
      (subst (λ (n : ℕ). (k : ℕ) → BeginsAt k (going n (twig_pieces twig)) → from_key n ≡ k) (sym e) (last_begins twig is))
      mine first last

  behind_extent : (is : IsRunTwig false twig) (nth : ℕ) → nth ≡ 0 → IsRunBlock nth block → from ≡ byte_key (4096 * nth)
      → to ≡ byte_key (4096 * nth + 4096)
      → IsTakenOutIn (by_name (twig ∷ (block ∷ []))) (low_root twig) (twig ∷ (block ∷ [])) from to f
  behind_extent is nth e mine first last =
      out_of false twig is nth block (omega (arith, e)) mine None (λ c d. absurd cc) f next end
      (subst (λ n. HasFew n twig) (sym e) (fresh_bytes twig is)) (λ n at level h. no_leaf twig is n at level) from to first last

  pub one_out : (lead : Bool) (nth : ℕ) → ((lead ≡ true) × ((nth ≡ 1) ⊎ (nth ≡ 3))) ⊎ ((lead ≡ false) × (nth ≡ 0))
      → IsRunTwig lead twig → IsRunBlock nth block → from ≡ byte_key (4096 * nth) → to ≡ byte_key (4096 * nth + 4096)
      → (t : Store Value) × ((r : Root) × IsTakenOutIn t r (twig ∷ (block ∷ [])) from to f)
  one_out lead nth which is mine first last = (
    by_name (twig ∷ (block ∷ [])),
    (
      low_root twig,
      elim which [
        | inl some ↦ second_or_last (subst (λ (b : Bool). IsRunTwig b twig) some.0 is) nth some.1 mine first last
        | inr none ↦ behind_extent (subst (λ (b : Bool). IsRunTwig b twig) none.0 is) nth none.1 mine first last
      ],
    ),
  )
