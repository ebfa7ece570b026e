use Rattle.std.proofs.Common.{◌≡◌, ◌++◌, ℕ, List, map, sym, ap, ◌∙◌, subst}
use Rattle.std.specs.Prelude.{◌↔◌, All, Contains, IsTrue}
use Rattle.std.specs.Arc.{arc_value}
use Rattle.std.specs.List.Sorted.{IsNonDecreasing, IsPermutation}
use Rattle.std.proofs.lemmas.List.Sorted.{IsNonDecreasingBy-from_sort}
use Rattle.r4_cell.specs.Seen.{CellSeen}
use Rattle.r4_closed.specs.Named.{IsCalledFor, ids_named}
use Rattle.r4_closed.proofs.Cells.{answered, refused}
use Rattle.r4_closed.proofs.closed.are_closed.Goals as goal
use Rattle.r4_closed.proofs.closed.are_closed.Goals.{then-are_among, else-are_among}

pub are_called_for-requires : goal.are_called_for-requires
are_called_for-requires c = subst IsNonDecreasing (sym c.deref-then-are_among-2.ensures.value)
    (IsNonDecreasingBy-from_sort (λ x. x) c.sort_unstable.new.self.items c.sort_unstable.ensures.sorted)

pub returns : goal.returns
returns c =
    let cells : List CellSeen = map (λ a. arc_value a) c.args.cells.now in
    let named : List ℕ = c.sort_unstable.new.self.items in
    let ids : List ℕ = c.in_ok-ids.ids.items in
    let has = c.in_ok-add_of_cells.ensures.named c.if-not-branch.false in
    let whole : c.add_of_cells.new.named.items ≡ ids_named cells =
    has ∙ ap (λ (l : List ℕ). l ++ ids_named cells) c.new-named.ensures.items in
    let same_named : IsPermutation (ids_named cells) named =
    subst (λ (l : List ℕ). IsPermutation l named) whole c.sort_unstable.ensures.permutation in
    let same_ids : IsPermutation (map (λ (x : CellSeen). x.id) cells) ids = c.in_ok-ids.ensures.moved in
    let may = c.in_ok-add_of_cells.ensures.stand c.if-not-branch.false in
    let test : IsTrue c.are_among.result ↔ All (Contains ids) named =
    rw (c.deref.ensures.value, c.deref-2.ensures.value) at c.are_among.ensures in
    elim c.if-are_among.branch [
      | then-are_among w ↦
          let called : IsTrue w.are_called_for.result ↔ All (IsCalledFor c.args.root.0 named) ids =
          rw (w.deref-then-are_among.ensures.value, w.deref-then-are_among-2.ensures.value)
          at w.are_called_for.ensures in
          answered c.args.root.0 cells named ids same_named same_ids c.if-are_among.result w.are_called_for.result
          w.result-is may (test.0 w.if-are_among.true) called
      | else-are_among w ↦
          refused c.args.root.0 cells named ids same_named same_ids c.if-are_among.result c.are_among.result w.result-is
          w.if-are_among.false test
    ]
