-- Demands that read the same keys of a tree read and write the same cells.
use Rattle.std.proofs.Common.{◌≡◌, inl, inr, ℕ, zero, suc, ◌-◌, ◌<◌, ◌≤◌, Bool, List, refl, sym, ap, ◌∙◌, arith}
use Rattle.std.specs.Prelude.{Option, Some}
use Rattle.r4_base.specs.Key.{least, top}
use Rattle.r4_base.specs.Tree.{Node, Root, Store}
use Rattle.r4_base.specs.Value.{Value}
use Rattle.r4_cell.specs.Patch.{by_name}
use Rattle.r4_cell.specs.Seen.{CellSeen}
use Rattle.r4_judging.specs.r4_marking.Marks.{AreChosen, AreMarks}
use Rattle.r4_touching.specs.r4_patch.Part.{IsPart}
use Rattle.r4_touching.specs.r4_reach.Demand.{Demand, ask, heard}
use Rattle.r4_touching.specs.r4_reach.Needs.{Ask}
use Rattle.r4_touching.specs.r4_reach.Reach.{IsAt, IsRead, IsReadAt, IsRootAsking, IsWritten}

-- another one, but for the keys that are read
abbrev pub reading : Demand Ask → (ℕ → Bool) → Demand Ask
reading d r = record d { reads = r }

pub same_ask : (d : Demand Ask) (r : ℕ → Bool) (t : Store Value) (l : ℕ) → ask d t l ≡ ask (reading d r) t l
same_ask d r t zero = refl
same_ask d r t (suc l) = λ i c. d.asks c (heard (same_ask d r t l i) t c.names)

module _ (d : Demand Ask) (r : ℕ → Bool) (t : Store Value) (root : Root) (it : IsPart t root)
    (same : (k : ℕ) → least ≤ k → k < top → d.reads k ≡ r k) where
  -- the keys of a node are keys of a tree
  inside : (i : ℕ) (c : Node Value) (k : ℕ) → t i ≡ Some c → IsAt c k → (least ≤ k) × (k < top)
  inside i c k is (inl (low, at)) =
      let n = it.nodes i c is in
      let a = n.from_least in
      let b = n.to_top in
      let from = at.0 in
      let below = at.1 in
      (omega (arith, a, from), omega (arith, b, below))
  inside i c k is (inr (s, has, at)) =
      let n = it.nodes i c is in
      let a = n.from_least in
      let b = n.to_top in
      let e = n.span_from s has in
      let f = n.span_to s has in
      let from = at.0 in
      let below = at.1 in
      (omega (arith, a, e, from), omega (arith, b, f, below))

  read_to : (i : ℕ) (c : Node Value) → t i ≡ Some c → IsReadAt d c → IsReadAt (reading d r) c
  read_to i c is (k, inl (on, at)) =
      let (low, high) = inside i c k is at in
      (k, inl (sym (same k low high) ∙ on, at))
  read_to i c is (k, inr both) = (k, inr both)

  read_from : (i : ℕ) (c : Node Value) → t i ≡ Some c → IsReadAt (reading d r) c → IsReadAt d c
  read_from i c is (k, inl (on, at)) =
      let (low, high) = inside i c k is at in
      (k, inl (same k low high ∙ on, at))
  read_from i c is (k, inr both) = (k, inr both)

  written_to : (i : ℕ) → IsWritten d t i → IsWritten (reading d r) t i
  written_to i (c, is, way) = (
    c,
    is,
    elim way [
      | inl keys ↦ inl keys
      | inr rest ↦ elim rest [
        | inl turns ↦ inr (inl turns)
        | inr more ↦ elim more [
          | inl beside ↦ inr (inr (inl beside))
          | inr asked ↦
              inr (inr (inr (λ nothing. asked
              (ap (λ f. heard f t c.names) (same_ask d r t (c.level - 1)) ∙ nothing))))
        ]
      ]
    ],
  )

  written_from : (i : ℕ) → IsWritten (reading d r) t i → IsWritten d t i
  written_from i (c, is, way) = (
    c,
    is,
    elim way [
      | inl keys ↦ inl keys
      | inr rest ↦ elim rest [
        | inl turns ↦ inr (inl turns)
        | inr more ↦ elim more [
          | inl beside ↦ inr (inr (inl beside))
          | inr asked ↦
              inr (inr (inr (λ nothing. asked
              (sym (ap (λ f. heard f t c.names) (same_ask d r t (c.level - 1))) ∙ nothing))))
        ]
      ]
    ],
  )

  are_read_to : (i : ℕ) → IsRead d t i → IsRead (reading d r) t i
  are_read_to i (reached, not) = (
    elim reached [
      | inl w ↦ inl (written_to i w)
      | inr (c, is, at) ↦ inr (c, is, read_to i c is at)
    ],
    (λ w. not (written_from i w)),
  )

  are_read_from : (i : ℕ) → IsRead (reading d r) t i → IsRead d t i
  are_read_from i (reached, not) = (
    elim reached [
      | inl w ↦ inl (written_from i w)
      | inr (c, is, at) ↦ inr (c, is, read_from i c is at)
    ],
    (λ w. not (written_to i w)),
  )

  root_to : (a : Ask) → IsRootAsking d t root a → IsRootAsking (reading d r) t root a
  root_to a (c, is, asks) = (c, is, sym (ap (λ f. f c) (same_ask d r t root.height)) ∙ asks)

  root_from : (a : Ask) → IsRootAsking (reading d r) t root a → IsRootAsking d t root a
  root_from a (c, is, asks) = (c, is, ap (λ f. f c) (same_ask d r t root.height) ∙ asks)

chosen : (P Q : ℕ → Type 0) (met cells : List CellSeen) → ((i : ℕ) → P i → Q i) → ((i : ℕ) → Q i → P i)
    → AreChosen P met cells → AreChosen Q met cells
chosen P Q met cells to from old = record {
  are = λ c. (
    (λ at. let (among, kind) = (old.are c).0 at in (among, to c.id kind)),
    (λ both. (old.are c).1 (both.0, from c.id both.1)),
  );
  order = old.order;
}

pub marks_alike : (d : Demand Ask) (r : ℕ → Bool) (met : List CellSeen) (root : Root) (rs ws : List CellSeen)
    (rises : Option Ask) → IsPart (by_name met) root → ((k : ℕ) → least ≤ k → k < top → d.reads k ≡ r k)
    → AreMarks d met root rs ws rises → AreMarks (reading d r) met root rs ws rises
marks_alike d r met root rs ws rises it same m =
    let t = by_name met in
    record {
      read = chosen (IsRead d t) (IsRead (reading d r) t) met rs (are_read_to d r t root it same)
          (are_read_from d r t root it same) m.read;
      written = chosen (IsWritten d t) (IsWritten (reading d r) t) met ws (written_to d r t root it same)
          (written_from d r t root it same) m.written;
      rising = λ a. (
        (λ is. root_to d r t root it same a ((m.rising a).0 is)),
        (λ asks. (m.rising a).1 (root_from d r t root it same a asks)),
      );
    }
