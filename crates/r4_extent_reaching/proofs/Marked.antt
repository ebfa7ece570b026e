-- Demands that agree on a part of a tree mark the same of its cells.
use Rattle.std.proofs.Common.{◌≡◌, inl, inr, ℕ, zero, suc, ◌-◌, ◌<◌, ◌≤◌, List, [], ◌∷◌, refl, sym, ap, subst, ◌∙◌, arith}
use Rattle.std.specs.Prelude.{Contains, Option, None, Some, ◌==◌, if◌then◌else◌}
use Rattle.r4_base.specs.Key.{least, top}
use Rattle.r4_base.specs.Tree.{InNode, Name, Node, Root, Store}
use Rattle.r4_base.specs.Value.{Value}
use Rattle.r4_reaching.specs.r4_cell.Patch.{by_name}
use Rattle.r4_reaching.specs.r4_cell.Seen.{CellSeen}
use Rattle.r4_extent_touching.specs.r4_marking.Marks.{AreChosen, AreMarks}
use Rattle.r4_reaching.specs.r4_patch.Part.{IsPart}
use Rattle.r4_reaching.specs.r4_reach.Demand.{Demand, Spans, ask, ask_of, heard, heard_one}
use Rattle.r4_reaching.specs.r4_reach.Needs.{Ask}
use Rattle.r4_reaching.specs.r4_reach.Reach.{IsAt, IsRead, IsReadAt, IsReached, IsRootAsking, IsWritten, IsWrittenAt}
use Rattle.r4_extent_reaching.specs.Alike.{AreAlike}

pub alike_back : (d f : Demand Ask) (t : Store Value) → AreAlike d f t → AreAlike f d t
alike_back d f t same = record {
  reads = λ k low high. sym (same.reads k low high);
  changes = λ k low high. sym (same.changes k low high);
  asks = λ i c hs is. sym (same.asks i c hs is);
  turns = λ i c is. sym (same.turns i c is);
  beside = λ c. sym (same.beside c);
}

-- ---- what is asked for

module _ (t : Store Value) where
  one_same : (f g : Node Value → Option Ask) → ((i : ℕ) (c : Node Value) → t i ≡ Some c → f c ≡ g c)
      → (i : ℕ) → ask_of f (t i) ≡ ask_of g (t i)
  one_same f g h i = by_cell (t i) refl
    where
      by_cell : (o : Option (Node Value)) → t i ≡ o → ask_of f o ≡ ask_of g o
      by_cell None is = refl
      by_cell (Some c) is = h i c is

  heard_same : (f g : Node Value → Option Ask) → ((i : ℕ) (c : Node Value) → t i ≡ Some c → f c ≡ g c)
      → (ns : List Name) → heard f t ns ≡ heard g t ns
  heard_same f g h [] = refl
  heard_same f g h (n ∷ ns) =
      λ i. if n.level == 0 then heard_same f g h ns i
      else heard_one n (one_same f g h n.id i) (heard_same f g h ns i)

  pub ask_same : (d f : Demand Ask) → AreAlike d f t → (l i : ℕ) (c : Node Value) → t i ≡ Some c → ask d t l c ≡ ask f t l c
  ask_same d f same zero i c is = refl
  ask_same d f same (suc l) i c is =
      ap (d.asks c) (heard_same (ask d t l) (ask f t l) (λ j e at. ask_same d f same l j e at) c.names)
      ∙ same.asks i c (heard (ask f t l) t c.names) is

-- ---- which cells are read and written

module _ (d f : Demand Ask) (t : Store Value) (root : Root) (it : IsPart t root) (same : AreAlike d f t) where
  -- the keys of a cell are keys of a tree
  in_range : (i : ℕ) (c : Node Value) (k : ℕ) → t i ≡ Some c → InNode c k → (least ≤ k) × (k < top)
  in_range i c k is at =
      let n = it.nodes i c is in
      let a = n.from_least in
      let b = n.to_top in
      let from = at.0 in
      let below = at.1 in
      (omega (arith, a, from), omega (arith, b, below))

  in_spans : (i : ℕ) (c : Node Value) (k : ℕ) → t i ≡ Some c → Spans c k → (least ≤ k) × (k < top)
  in_spans i c k is (s, has, at) =
      let n = it.nodes i c is in
      let a = n.from_least in
      let b = n.to_top in
      let e = n.span_from s has in
      let f = n.span_to s has in
      let from = at.0 in
      let below = at.1 in
      (omega (arith, a, e, from), omega (arith, b, f, below))

  inside : (i : ℕ) (c : Node Value) (k : ℕ) → t i ≡ Some c → IsAt c k → (least ≤ k) × (k < top)
  inside i c k is (inl (low, at)) = in_range i c k is at
  inside i c k is (inr spans) = in_spans i c k is spans

  read_to : (i : ℕ) (c : Node Value) → t i ≡ Some c → IsReadAt d c → IsReadAt f c
  read_to i c is (k, inl (on, at)) =
      let (low, high) = inside i c k is at in
      (k, inl (sym (same.reads k low high) ∙ on, at))
  read_to i c is (k, inr (on, body, spans)) =
      let (low, high) = in_spans i c k is spans in
      (k, inr (sym (same.changes k low high) ∙ on, body, spans))

  written_at : (i : ℕ) (c : Node Value) → t i ≡ Some c → IsWrittenAt d c → IsWrittenAt f c
  written_at i c is (k, on, inl (low_level, at)) =
      let (low, high) = in_range i c k is at in
      (k, sym (same.changes k low high) ∙ on, inl (low_level, at))
  written_at i c is (k, on, inr (spans, body)) =
      let (low, high) = in_spans i c k is spans in
      (k, sym (same.changes k low high) ∙ on, inr (spans, body))

  pub written_to : (i : ℕ) → IsWritten d t i → IsWritten f t i
  written_to i (c, is, way) = (
    c,
    is,
    elim way [
      | inl keys ↦ inl (written_at i c is keys)
      | inr rest ↦ elim rest [
        | inl turns ↦ inr (inl (sym (same.turns i c is) ∙ turns))
        | inr more ↦ elim more [
          | inl beside ↦ (let (j, e, n, at, turns, has, id) = beside in
              inr (inr (inl (
                j,
                e,
                n,
                at,
                sym (same.turns j e at) ∙ turns,
                subst (λ (ns : List Name). Contains ns n) (same.beside e) has,
                id,
              ))))
          | inr asked ↦
              inr (inr (inr (λ nothing. asked
              (heard_same t (ask d t (c.level - 1)) (ask f t (c.level - 1))
              (λ j e at. ask_same t d f same (c.level - 1) j e at) c.names ∙ nothing))))
        ]
      ]
    ],
  )

  pub reached_to : (i : ℕ) → IsReached d t i → IsReached f t i
  reached_to i (inl w) = inl (written_to i w)
  reached_to i (inr (c, is, at)) = inr (c, is, read_to i c is at)

  pub root_to : (a : Ask) → IsRootAsking d t root a → IsRootAsking f t root a
  root_to a (c, is, asks) = (c, is, sym (ask_same t d f same root.height root.id c is) ∙ asks)

pub is_read_to : (d f : Demand Ask) (t : Store Value) (root : Root) → IsPart t root → AreAlike d f t → (i : ℕ)
    → IsRead d t i → IsRead f t i
is_read_to d f t root it same i (reached, not) = (
  reached_to d f t root it same i reached,
  (λ w. not (written_to f d t root it (alike_back d f t same) i w)),
)

chosen : (P Q : ℕ → Type 0) (met cells : List CellSeen) → ((i : ℕ) → P i → Q i) → ((i : ℕ) → Q i → P i)
    → AreChosen P met cells → AreChosen Q met cells
chosen P Q met cells to from old = record {
  are = λ c. (
    (λ at. let (among, kind) = (old.are c).0 at in (among, to c.id kind)),
    (λ both. (old.are c).1 (both.0, from c.id both.1)),
  );
  order = old.order;
}

pub marks_alike : (d f : Demand Ask) (met : List CellSeen) (root : Root) (rs ws : List CellSeen) (rises : Option Ask)
    → IsPart (by_name met) root → AreAlike d f (by_name met) → AreMarks d met root rs ws rises
    → AreMarks f met root rs ws rises
marks_alike d f met root rs ws rises it same m =
    let t = by_name met in
    let back = alike_back d f t same in
    record {
      read = chosen (IsRead d t) (IsRead f t) met rs (is_read_to d f t root it same) (is_read_to f d t root it back) m.read;
      written = chosen (IsWritten d t) (IsWritten f t) met ws (written_to d f t root it same)
          (written_to f d t root it back) m.written;
      rising = λ a. (
        (λ is. root_to d f t root it same a ((m.rising a).0 is)),
        (λ asks. (m.rising a).1 (root_to f d t root it back a asks)),
      );
    }
