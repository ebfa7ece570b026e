-- The cells under the nodes of an atom are just its cells in memory, each once.
use Rattle.std.proofs.Common.{◌≡◌, ⊎_elim, ℕ, zero, suc, ◌+◌, ◌<◌, false, List, [], ◌∷◌, ◌++◌, map}
use Rattle.std.proofs.Common.{append_assoc, append-nil, get_or, length, take, Option, Some, None, refl, sym, ◌∙◌, ap}
use Rattle.std.proofs.Common.{arith}
use Rattle.std.specs.Prelude.{◌↔◌, Contains, nat_eq}
use Rattle.std.specs.List.{AllByRecursion, AllPairs, IsDistinct}
use Rattle.std.specs.List.Sorted.{IsStrictlyIncreasing}
use Rattle.std.specs.Option.{option_map}
use Rattle.std.proofs.lemmas.Bool.{ne_eqb}
use Rattle.std.proofs.lemmas.List.{take_more}
use Rattle.std.proofs.lemmas.List.Elements.{All-contains}
use Rattle.std.proofs.lemmas.List.Kept.{AllPairs-from_increasing}
use Rattle.r4_atoms.specs.Atoms.{AtomsSeen, numbers, owner_of}
use Rattle.r4_base.proofs.Choices.{nothing_in}
use Rattle.r4_base.proofs.Members.{member_cases, member_here, member_later, no_member}
use Rattle.r4_base.specs.declared.things.NodeId.{NodeId}
use Rattle.r4_buffer.specs.Seen.{BufferSeen, EntrySeen, IsLawful, buffered, cell_at}
use Rattle.r4_cell.specs.Seen.{CellSeen}
use Rattle.r4_core.specs.r4_flushing.Sealing.{AreCellsOf}
use Rattle.r4_core.proofs.r4_wander.Members.{any_cases, any_here, any_later}
use Rattle.r4_seal.specs.Cells.{cells_under, one_cell}

-- ---- rising numbers

above : (n : ℕ) (ns : List ℕ) → AllPairs (λ x y. x < y) (n ∷ ns) → (m : ℕ) → Contains ns m → n < m
above n ns h m has =
    All-contains (λ (y : ℕ). n < y) ns m (λ k d lt. h zero (suc k) d (omega arith) (omega arith)) has

later : (n : ℕ) (ns : List ℕ) → AllPairs (λ x y. x < y) (n ∷ ns) → AllPairs (λ x y. x < y) ns
later n ns h = λ i j d lt within. h (suc i) (suc j) d (omega arith) (omega arith)

module _ (b : BufferSeen) (lawful : IsLawful b) where
  named : (i : ℕ) (x : CellSeen) → cell_at b i ≡ Some x → x.id ≡ i
  named i x is = by (buffered b i) refl is
    where
      by : (o : Option EntrySeen) → buffered b i ≡ o → option_map (λ (e : EntrySeen). e.cell) o ≡ Some x → x.id ≡ i
      by None at e = absurd (cc e)
      by (Some e) at same =
          let cell : e.cell ≡ x = cc same in ap (λ (y : CellSeen). y.id) (sym cell) ∙ lawful.named i e at

  -- ---- members

  under : (nodes : List NodeId) (x : CellSeen) → Contains (cells_under b nodes) x
      → Contains (numbers nodes) x.id × (cell_at b x.id ≡ Some x)
  under [] x has = absurd (nothing_in x has)
  under (n ∷ nodes) x has =
      by
      (λ rest. let (in_nodes, at) = under nodes x rest in (member_later n.0 (numbers nodes) x.id in_nodes, at))
      (cell_at b n.0) refl has
    where
      by : (Contains (cells_under b nodes) x → Contains (numbers (n ∷ nodes)) x.id × (cell_at b x.id ≡ Some x))
          → (o : Option CellSeen) → cell_at b n.0 ≡ o → Contains (one_cell o ++ cells_under b nodes) x
          → Contains (numbers (n ∷ nodes)) x.id × (cell_at b x.id ≡ Some x)
      by more None at rest = more rest
      by more (Some y) at rest = ⊎_elim
          (λ is.
          let id = ap (λ (z : CellSeen). z.id) is ∙ named n.0 y at in (
            member_here n.0 (numbers nodes) x.id id,
            ap (cell_at b) id ∙ at ∙ ap (λ (z : CellSeen). Some z) (sym is),
          ))
          more (any_cases y (cells_under b nodes) x rest)

  there : (nodes : List NodeId) (x : CellSeen) → Contains (numbers nodes) x.id → cell_at b x.id ≡ Some x
      → Contains (cells_under b nodes) x
  there [] x has is = absurd (no_member x.id has)
  there (n ∷ nodes) x has is = by (λ more. there nodes x more is) (cell_at b n.0) refl
    where
      by : (Contains (numbers nodes) x.id → Contains (cells_under b nodes) x) → (o : Option CellSeen)
          → cell_at b n.0 ≡ o → Contains (one_cell o ++ cells_under b nodes) x
      by rest None at = ⊎_elim (λ here. absurd (cc (sym is ∙ ap (cell_at b) here ∙ at))) rest
          (member_cases n.0 (numbers nodes) x.id has)
      by rest (Some y) at = ⊎_elim
          (λ here.
          let same : x ≡ y = cc (sym is ∙ ap (cell_at b) here ∙ at) in any_here y (cells_under b nodes) x same)
          (λ more. any_later y (cells_under b nodes) x (rest more)) (member_cases n.0 (numbers nodes) x.id has)

  -- ---- each once

  once : (nodes : List NodeId) → AllPairs (λ x y. x < y) (numbers nodes)
      → IsDistinct nat_eq (map (λ (x : CellSeen). x.id) (cells_under b nodes))
  unfolding IsDistinct
  once [] h = tt
  once (n ∷ nodes) h = by (once nodes (later n.0 (numbers nodes) h)) (cell_at b n.0) refl
    where
      none_same : (y : CellSeen) → y.id ≡ n.0 → (xs : List CellSeen)
          → ((x : CellSeen) → Contains xs x → Contains (cells_under b nodes) x)
          → AllByRecursion (λ (k : ℕ). nat_eq y.id k ≡ false) (map (λ (x : CellSeen). x.id) xs)
      none_same y id [] all = tt
      none_same y id (x ∷ xs) all = (
        ne_eqb y.id x.id (λ same.
            (let up = above n.0 (numbers nodes) h x.id (under nodes x (all x (any_here x xs x refl))).0 in
            omega (arith, up, same, id))),
        none_same y id xs (λ z has. all z (any_later x xs z has)),
      )

      by : IsDistinct nat_eq (map (λ (x : CellSeen). x.id) (cells_under b nodes)) → (o : Option CellSeen)
          → cell_at b n.0 ≡ o
          → IsDistinct nat_eq (map (λ (x : CellSeen). x.id) (one_cell o ++ cells_under b nodes))
      by rest None at = rest
      by rest (Some y) at = (none_same y (named n.0 y at) (cells_under b nodes) (λ x has. has), rest)

  pub are_cells : (s : AtomsSeen) (atom : ℕ) (nodes : List NodeId) → IsStrictlyIncreasing (numbers nodes)
      → ((n : ℕ) → Contains (numbers nodes) n ↔ (owner_of s n ≡ Some atom)) → AreCellsOf b s atom (cells_under b nodes)
  are_cells s atom nodes rising owned = record {
    different = once nodes (AllPairs-from_increasing (numbers nodes) rising);
    just = λ x. (
      λ has. (let (in_nodes, at) = under nodes x has in ((owned x.id).0 in_nodes, at)),
      λ both. there nodes x ((owned x.id).1 both.0) both.1,
    );
  }

-- ---- one node more

append_cells : (b : BufferSeen) (xs ys : List NodeId) → cells_under b (xs ++ ys) ≡ cells_under b xs ++ cells_under b ys
append_cells b [] ys = refl
append_cells b (x ∷ xs) ys =
    ap (λ (l : List CellSeen). one_cell (cell_at b x.0) ++ l) (append_cells b xs ys)
    ∙ sym (append_assoc (one_cell (cell_at b x.0)) (cells_under b xs) (cells_under b ys))

pub cells_more : (b : BufferSeen) (nodes : List NodeId) (i : ℕ) (d : NodeId) → i < length nodes
    → cells_under b (take (i + 1) nodes)
    ≡ cells_under b (take i nodes) ++ one_cell (cell_at b (get_or nodes i d).0)
cells_more b nodes i d lt =
    ap (cells_under b) (take_more nodes i d lt)
    ∙ append_cells b (take i nodes) (get_or nodes i d ∷ [])
    ∙ ap (λ (l : List CellSeen). cells_under b (take i nodes) ++ l)
    (append-nil (one_cell (cell_at b (get_or nodes i d).0)))
