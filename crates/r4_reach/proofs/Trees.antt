-- What is reached in a tree: each touched key is held by a cell of it; and the same is reached with other changes in
-- place.
use Rattle.std.proofs.Common.{◌≡◌, ◌≢◌, ◌⊎◌, inl, inr, ℕ, zero, suc, ◌<◌, ◌≤◌, List, []}
use Rattle.std.proofs.Common.{◌∷◌, refl, ap, sym, subst, ◌∙◌, arith}
use Rattle.std.specs.Prelude.{Contains, Option, None, Some}
use Rattle.std.proofs.Math.Decide.{dec_le, ℕ_discrete}
use Rattle.std.proofs.lemmas.Option.{none-some}
use Rattle.r4_base.specs.Key.{least, top}
use Rattle.r4_base.specs.Tree.{Holds, InName, InNode, IsData, IsTree, Name, Node, Root, Store, UnitAt}
use Rattle.r4_base.specs.Value.{Value}
use Rattle.r4_base.proofs.Trees.{covered_low, unit_iff, unit_range}
use Rattle.r4_path.specs.r4_cell.Patch.{IsPatch, Leaves, Meets, Patch, over, place, root_after}
use Rattle.r4_path.specs.r4_patch.Part.{IsPart}
use Rattle.r4_path.proofs.r4_patch.PartCells.{root_high, to_piece, tree_is_part}
use Rattle.r4_path.proofs.r4_patch.Placed.{placed_tree}
use Rattle.r4_reach.specs.Demand.{Covers, Demand, IsPlain, ask, heard}
use Rattle.r4_reach.specs.Reach.{HasReached, HasRoot, HasTouched, IsReached, IsRootAsking}
use Rattle.r4_reach.specs.Reach.{Touches}
use Rattle.r4_reach.proofs.Heard.{cases, here, later, none, not_empty, split}
use Rattle.r4_reach.proofs.Same.{by_key, changed_key}

-- a block of these names has the key, or none has
block_among : (k : ℕ) (ns : List Name)
    → ((n : Name) × Contains ns n × IsData n × InName n k) ⊎ ((n : Name) → Contains ns n → IsData n → InName n k → ⊥)
block_among k [] = inr (λ n c. absurd (none n c))
block_among k (m ∷ ns) = by_rest (block_among k ns)
  where
    Here : Type 0
    Here = IsData m × InName m k

    here_or : Here ⊎ (Here → ⊥)
    here_or = elim (ℕ_discrete m.level 0) [
      | no up ↦ inr (λ h. up h.0)
      | yes low ↦ elim (dec_le m.lo k) [
        | no below ↦ inr (λ h. below h.1.0)
        | yes from ↦ elim (dec_le (suc k) m.hi) [
          | no above ↦ inr (λ h. above h.1.1)
          | yes to ↦ inl (low, (from, to))
        ]
      ]
    ]

    by_rest : (((n : Name) × Contains ns n × IsData n × InName n k)
        ⊎ ((n : Name) → Contains ns n → IsData n → InName n k → ⊥))
        → (((n : Name) × Contains (m ∷ ns) n × IsData n × InName n k)
        ⊎ ((n : Name) → Contains (m ∷ ns) n → IsData n → InName n k → ⊥))
    by_rest (inl (n, c, low, at)) = inl (n, later m n ns c, low, at)
    by_rest (inr out) = elim here_or [
      | inl (low, at) ↦ inl (m, here m ns, low, at)
      | inr other ↦ inr (λ n c low at. elim (cases m n ns c) [
        | inl same ↦ other (subst IsData same low, subst (λ x. InName x k) same at)
        | inr more ↦ out n more low at
      ])
    ]

module _ {A : Type 0} (d : Demand A) where
  -- each touched key is held by a cell that is reached
  pub held : (t : Store Value) (root : Root) → IsPart t root → HasTouched d t → (k : ℕ) → Touches d k → least ≤ k
      → k < top → (i : ℕ) × (c : Node Value) × (t i ≡ Some c) × Holds c k × IsReached d t i
  held t root it has k touch from to =
      let (i, c, tc, cov) = has.piece k touch from to in
      by_piece i c tc cov
    where
      by_piece : (i : ℕ) (c : Node Value) → t i ≡ Some c → Covers c k
          → (i : ℕ) × (c : Node Value) × (t i ≡ Some c) × Holds c k × IsReached d t i
      by_piece i c tc (inl (one, at)) =
          (i, c, tc, inl (omega (arith, one), at), by_key d t i c k tc touch (inl (omega (arith, one), at)))
      by_piece i c tc (inr (s, cs, at)) = elim (block_among k c.names) [
        | inr hole ↦ (i, c, tc, inr (s, cs, at, hole), by_key d t i c k tc touch (inr (s, cs, at)))
        | inl (n, cn, low, at_n) ↦
            let (b, tb) = has.block i c n k tc cn low at_n touch in
            let f = it.named i c b n tc cn tb in
            let level = f.level in
            let lo = f.lo in
            let hi = f.hi in
            let at_b : InNode b k = (omega (arith, lo, at_n), omega (arith, hi, at_n)) in (
              n.id,
              b,
              tb,
              inl (omega (arith, level, low), at_b),
              by_key d t n.id b k tb touch
                  (inl (omega (arith, level, low), at_b)),
            )
      ]

  -- a tree has all that is touched
  pub tree_has : (t : Store Value) (root : Root) → IsPlain d → IsTree t root → HasTouched d t
  tree_has t root plain it = record {
    piece = λ k touch from to. to_piece t k (covered_low t root it k from to);
    block = λ i c n k tc cn low at touch. let (b, tb, f) = it.named i c n tc cn in (b, tb);
    beside = λ i c n tc turns b. let (x, tx, f) = it.named i c n tc (plain.besides c n b) in (x, tx);
  }

  -- two trees that have what is reached have the same units at touched keys
  pub units_to : (t u : Store Value) (root other : Root) → IsPlain d → IsTree t root → IsTree u other
      → HasReached d t u → (k : ℕ) (v : Value) → Touches d k → UnitAt t k v → UnitAt u k v
  units_to t u root other plain it iu same k v touch has =
      let (from, to) = unit_range t root it k v has in
      let (i, c, tc, holds, reached) = held t root (tree_is_part t root it) (tree_has t root plain it) k touch from to
      in
      let (forth, back) = unit_iff t root it i c k v tc holds in
      (i, c, same i c reached tc, forth has)

  pub units_from : (t u : Store Value) (root other : Root) → IsPlain d → IsTree t root → IsTree u other
      → HasReached d t u → (k : ℕ) (v : Value) → Touches d k → UnitAt u k v → UnitAt t k v
  units_from t u root other plain it iu same k v touch has =
      let (from, to) = unit_range u other iu k v has in
      let (i, c, tc, holds, reached) = held t root (tree_is_part t root it) (tree_has t root plain it) k touch from to
      in
      let (forth, back) = unit_iff u other iu i c k v (same i c reached tc) holds in
      (i, c, tc, forth has)

  -- a root that asks for something is reached
  pub root_reached : (t : Store Value) (root : Root) → IsPlain d → IsPart t root → (a : A) → IsRootAsking d t root a
      → IsReached d t root.id
  root_reached t root plain it a (c, tc, e) =
      let level = root_high t root it root.id c tc refl in
      let height = it.height in
      by_level root.height refl (subst (λ l. ask d t l c ≡ Some a) refl e) level
    where
      by_level : (l : ℕ) → l ≡ root.height → ask d t l c ≡ Some a → c.level ≡ l → IsReached d t root.id
      by_level zero same e level = absurd (none-some a e)
      by_level (suc l) same e level = elim (split (heard (ask d t l) t c.names)) [
        | inl h ↦ let (k, touch, at) = changed_key d c (plain.own c a (subst (λ xs. d.asks c xs ≡ Some a) h e)) in
            by_key d t root.id c k tc touch at
        | inr h ↦
            let (x, xs, is) = h in
            let some : heard (ask d t l) t c.names ≢ [] = λ z. not_empty x xs (sym is ∙ z) in
            inl (c, tc, inr (inr (inr (subst (λ k. heard (ask d t k) t c.names ≢ []) (omega (arith, level)) some))))
      ]

-- ---- with another change in place, which has no cell that is reached

module _ {A : Type 0} (d : Demand A) (plain : IsPlain d) (q : Patch Value) (u : Store Value) (root : Root)
    (iu : IsTree u root) (iq : IsPatch q) (mq : Meets q u root) (apart : (i : ℕ) → IsReached d (place q u) i
    → Leaves q i) where
  t : Store Value
  t = place q u

  pub it : IsTree (place q u) (root_after q root)
  it = placed_tree q u root iq iu mq

  left : (o n w : Option (Node Value)) → n ≡ None → o ≡ None → over n o w ≡ w
  left o n w gone old = subst (λ x. over x o w ≡ w) (sym gone) (subst (λ x. over None x w ≡ w) (sym old) refl)

  pub kept : HasReached d (place q u) u
  kept i c reached tc = let (new, old) = apart i reached in sym (left (q.old i) (q.new i) (u i) new old) ∙ tc

  pub same_root : HasRoot d (place q u) (root_after q root) root
  same_root a asking = by_root q.root refl
    where
      by_root : (r : Option Root) → q.root ≡ r → root ≡ root_after q root
      by_root None e = subst (λ r. root ≡ Rattle.std.specs.Option.unwrap_or r root) (sym e) refl
      by_root (Some r) e =
          let high = iq.new_root r e in
          let is : root_after q root ≡ r = ap (λ x. Rattle.std.specs.Option.unwrap_or x root) e in
          let (new, old) = apart (root_after q root).id
          (root_reached d (place q u) (root_after q root) plain (tree_is_part (place q u) (root_after q root) it)
          a asking) in
          absurd (none-some high.node (sym (subst (λ x. q.new x.id ≡ None) is new) ∙ high.is))
