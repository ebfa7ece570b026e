-- Numbers of what comes below a twig that is packed anew.
use Rattle.std.proofs.Common.{◌≡◌, ◌≢◌, ◌⊎◌, inl, inr, ℕ, ◌+◌, ◌<◌, ◌≤◌, List, [], ◌∷◌, ◌++◌, length, map, refl, sym, ap, subst, ◌∙◌}
use Rattle.std.proofs.Common.{arith}
use Rattle.std.specs.Prelude.{AllPairs, Contains, None}
use Rattle.std.proofs.lemmas.List.Elements.{Contains-append_cases}
use Rattle.std.proofs.lemmas.Option.{none-some}
use Rattle.r4_base.specs.Tree.{Name, Store}
use Rattle.r4_base.specs.Value.{Value}
use Rattle.r4_graft.specs.r4_branch.declared.piece.TwigPiece.{TwigPiece}
use Rattle.r4_patch.specs.r4_cell.Patch.{HaveNames}
use Rattle.r4_patch.specs.r4_cell.Seen.{CellSeen, node_of}
use Rattle.r4_patch.specs.r4_cell.declared.change.Fresh.{Fresh}
use Rattle.r4_patch.specs.Joining.{ids_of}
use Rattle.r4_path.specs.Grafts.{AreBlocksOf, AreCountedBelow, HaveGraftNumbers, IsGraftOf, IsUnusedBeside}
use Rattle.r4_path.specs.Steps.{CountUp, IsFree, name_of}
use Rattle.r4_path.specs.Twigs.{Below, HaveNumbers, IsUnused}
use Rattle.r4_path.proofs.Counted.{count_once, unused}
use Rattle.r4_path.proofs.Grown.{map_names}
use Rattle.r4_patch.proofs.Members.{Distinct, distinct_append, have_names}
use Rattle.r4_path.proofs.Ordered.{distinct, once, once_distinct}
use Rattle.r4_path.proofs.Rising.{count_within}
use Rattle.r4_path.proofs.TwigBelow.{id_cell}

module _ (f after : Fresh) (taken : List ℕ) (counts : CountUp f.next taken)
    (number : after ≡ record f { next = f.next + length taken }) (within : after.next ≤ after.end) where
  next_is : after.next ≡ f.next + length taken
  next_is = ap (λ (x : Fresh). x.next) number

  pub next_in : after.next ≤ f.end
  next_in = let e = ap (λ (x : Fresh). x.end) number in let w = within in omega (arith, e, w)

  not_taken : (i : ℕ) → (i < f.next) ⊎ (after.next ≤ i) → Contains taken i → ⊥
  not_taken i (inl before) at = let w = count_within f.next taken i counts at in omega (arith, w, before)
  not_taken i (inr behind) at = let w = count_within f.next taken i counts at in let n = next_is in
      omega (arith, w, behind, n)

  -- ---- numbers that count up

  module _ (t : Store Value) (twig : CellSeen) (qs : List TwigPiece) (b : Below) (data_names : List Name)
      (of : IsGraftOf t twig qs b data_names) where
    pub serve : (first : ℕ) → AreCountedBelow t b data_names first f → HaveGraftNumbers t b data_names f.next after.next
    serve first are = record {
      old = are.old;
      new = are.new;
      each = λ c in_b. elim (are.each c in_b) [ inl again ↦ inl again | inr own ↦ inr (mine_beside c.id own) ];
      blocks = λ n at. let h = are.blocks n at in (h.0, beside n.id h.1);
      once = are.once;
      apart = λ c n in_b at same. elim (are.each c in_b) [
        | inl again ↦ old_apart c.id n again at same
        | inr own ↦ mine_apart c.id n own at same
      ];
    }
      where
        mine_beside : (i : ℕ) → Contains are.mine i → IsUnusedBeside t f.next after.next i
        mine_beside i own =
            let w = count_within first are.mine i are.counts own in
            let e = are.ends in
            let n = next_is in
            let k = next_in in (
              unused t first f.end are.free first are.mine i are.counts (omega arith) (omega (arith, e, n, k)) own,
              inl (omega (arith, w, e)),
            )

        beside : (i : ℕ) → (i < first) ⊎ (f.end ≤ i) → (i < f.next) ⊎ (after.next ≤ i)
        beside i (inl before) = let e = are.ends in inl (omega (arith, before, e))
        beside i (inr behind) = let k = next_in in inr (omega (arith, behind, k))

        old_apart : (i : ℕ) (n : Name) → Contains (ids_of b.old) i → Contains data_names n → i ≡ n.id → ⊥
        old_apart i n again at same =
            let (o, in_o, is) = id_cell b.old i again in
            none-some (node_of o) (sym (subst (λ j. t j ≡ None) (sym (is ∙ same)) (are.blocks n at).0.0) ∙ of.gone o in_o)

        mine_apart : (i : ℕ) (n : Name) → Contains are.mine i → Contains data_names n → i ≡ n.id → ⊥
        mine_apart i n own at same =
            let w = count_within first are.mine i are.counts own in
            let e = are.ends in
            let m = next_is in
            let k = next_in in
            elim (are.blocks n at).1 [
              | inl before ↦ omega (arith, w, before, same)
              | inr behind ↦ omega (arith, w, behind, same, e, m, k)
            ]

  -- ---- with the numbers of data blocks

  module _ (t : Store Value) (b : Below) (data_names : List Name) (blocks : List CellSeen)
      (are : AreBlocksOf data_names blocks) (numbers : HaveGraftNumbers t b data_names f.next after.next)
      (free : IsFree f.next f.end t) where
    pub block_name : (c : CellSeen) → Contains blocks c → Contains data_names (name_of c)
    block_name c at = subst (λ ns. Contains ns (name_of c)) are.names (map_names blocks (name_of c) (c, at, refl))

    block_ids : ids_of blocks ≡ map (λ n. n.id) data_names
    block_ids = same blocks ∙ ap (map (λ (n : Name). n.id)) are.names
      where
        same : (cells : List CellSeen) → ids_of cells ≡ map (λ (n : Name). n.id) (map name_of cells)
        same [] = refl
        same (c ∷ cells) = ap (λ is. c.id ∷ is) (same cells)

    blocks_distinct : Distinct blocks
    blocks_distinct = once_distinct blocks
        (once (ids_of blocks) (subst (AllPairs (λ (i j : ℕ). i ≢ j)) (sym block_ids) numbers.once))

    new_names : HaveNames (b.new ++ blocks)
    new_names = have_names (b.new ++ blocks) (distinct_append b.new blocks (distinct b.new numbers.new) blocks_distinct
        (λ x y in_x in_y. numbers.apart x (name_of y) in_x (block_name y in_y)))

    fresh_number : (i : ℕ) → IsUnusedBeside t f.next after.next i → IsUnused t i × (Contains taken i → ⊥)
    fresh_number i h = (h.0, not_taken i h.1)

    pub have : HaveNumbers t (record { old = b.old; new = b.new ++ blocks }) taken
    have = record {
      old = numbers.old;
      new = new_names;
      each = λ c member. elim (Contains-append_cases b.new blocks c member) [
        | inl mine ↦ elim (numbers.each c mine) [ inl again ↦ inl again | inr new ↦ inr (fresh_number c.id new) ]
        | inr block ↦ inr (fresh_number c.id (numbers.blocks (name_of c) (block_name c block)))
      ];
      once = count_once f.next taken counts;
      unused = λ i at. unused t f.next f.end free f.next taken i counts (omega arith)
          (let n = next_is in let k = next_in in omega (arith, n, k)) at;
    }
