-- What is prepared is a flush, and its plan is the commit's.
use Rattle.std.proofs.Common.{◌≡◌, ⊎_elim, ℕ, ◌^◌, ◌<◌, ◌≤◌, true, List, [], ◌∷◌, None, refl, sym, ap}
use Rattle.std.proofs.Common.{◌∙◌, subst, arith}
use Rattle.std.specs.Prelude.{Contains}
use Rattle.std.specs.Arc.{arc_value}
use Rattle.std.proofs.lemmas.List.Sorted.{Contains-permutation, IsPermutation-sym}
use Rattle.std.proofs.lemmas.Option.{same_Some}
use Rattle.r4_base.proofs.Choices.{nothing_in}
use Rattle.r4_base.specs.Cell.{cell_fault}
use Rattle.r4_base.specs.Image.{Image}
use Rattle.r4_base.specs.Key.{rank}
use Rattle.r4_base.specs.Tree.{Node}
use Rattle.r4_base.specs.Value.{Content, Value}
use Rattle.r4_base.specs.declared.superblock.Super40.{Super40}
use Rattle.r4_base.specs.declared.things.AtomNo.{AtomNo}
use Rattle.r4_base.specs.declared.things.BlockNo.{BlockNo}
use Rattle.r4_cell.proofs.Faults.{cell_still}
use Rattle.r4_cell.specs.Seen.{CellSeen, node_of}
use Rattle.r4_space.specs.Space.{Space}
use Rattle.r4_place.specs.Chosen.{AreChosen, IsChosen, behind, fresh_blocks, placed_all, placed_in}
use Rattle.r4_place.specs.declared.placed.How.{How}
use Rattle.r4_place.specs.declared.placed.How.TheVariants.{Fresh, Relocate, Overwrite}
use Rattle.r4_place.specs.declared.placed.Placed.{Placed}
use Rattle.r4_flushed.proofs.r4_wander.Members.{any_cases, any_here, any_later}
use Rattle.r4_flushed.specs.r4_commit.Places.{place_of}
use Rattle.r4_flushed.specs.r4_commit.Planned.{IsPlanFor}
use Rattle.r4_flushed.specs.r4_sealed.Commits.{HasPlan}
use Rattle.r4_flushed.specs.r4_sets.Renaming.{IsRenamed}
use Rattle.r4_flushed.specs.r4_sets.Session.{Session}
use Rattle.r4_flushed.specs.r4_placed.Flushing.{Flushing, IsAtRest, answers_by_block, cells_by_block, commit_by_block, name_after}
use Rattle.r4_flushed.specs.Flushed.{IsFlush, MayStand}
use Rattle.r4_flush.specs.Anew.{AreMade, BecomeBlocks, IsCellAnew, new_name}
use Rattle.r4_flush.specs.Joined.{AreOwnCells, NameNoneChosen, flushed_cell, flushed_cells, flushing_of}
use Rattle.r4_flush.specs.Prepared.{IsPrepared, WasCell, cells_of}
use Rattle.r4_flush.specs.declared.cells.RenamedCell.{RenamedCell}
use Rattle.r4_flush.specs.declared.preparing.Prepared.{Prepared}
use Rattle.r4_flush.proofs.Choosing.{names_become}
use Rattle.r4_flush.proofs.Faults.{block_stands}
use Rattle.r4_flush.proofs.Joining.{cell_agrees, names_agree}

-- ---- the cells, one by one

pub record IsFrom (f : ℕ → ℕ) (cs : List CellSeen) (y : CellSeen) : Type 0 where
  pub old : CellSeen
  pub among : Contains cs old
  pub new : RenamedCell
  pub made : WasCell f old new
  pub is : y ≡ flushed_cell new

from_flushed : (f : ℕ → ℕ) (cs : List CellSeen) (rs : List RenamedCell) (y : CellSeen) → AreMade (WasCell f) cs rs
    → Contains (flushed_cells rs) y → IsFrom f cs y
from_flushed f [] [] y all one = absurd (nothing_in y one)
from_flushed f [] (r ∷ rs) y all one = absurd all
from_flushed f (x ∷ cs) [] y all one = absurd all
from_flushed f (x ∷ cs) (r ∷ rs) y all one = ⊎_elim
    (λ is. record { old = x; among = any_here x cs x refl; new = r; made = all.0; is = is })
    (λ later.
    let w = from_flushed f cs rs y all.1 later in
    record { old = w.old; among = any_later x cs w.old w.among; new = w.new; made = w.made; is = w.is })
    (any_cases (flushed_cell r) (flushed_cells rs) y one)

in_flushed : (f : ℕ → ℕ) (cs : List CellSeen) (rs : List RenamedCell) (x : CellSeen) → AreMade (WasCell f) cs rs
    → Contains cs x → (y : CellSeen) × Contains (flushed_cells rs) y × (y.id ≡ x.id)
in_flushed f [] [] x all one = absurd (nothing_in x one)
in_flushed f [] (r ∷ rs) x all one = absurd all
in_flushed f (c ∷ cs) [] x all one = absurd all
in_flushed f (c ∷ cs) (r ∷ rs) x all one = ⊎_elim
    (λ is. (
      flushed_cell r,
      any_here (flushed_cell r) (flushed_cells rs) (flushed_cell r) refl,
      all.0.was ∙ ap (λ (z : CellSeen). z.id) (sym is),
    ))
    (λ later.
    let (y, in_y, at) = in_flushed f cs rs x all.1 later in
    (y, any_later (flushed_cell r) (flushed_cells rs) y in_y, at))
    (any_cases c cs x one)

-- ---- the answers

chosen_same : (near : ℕ) (s : Space) (x y : CellSeen) (how : How) → y.id ≡ x.id → IsChosen near s x how
    → IsChosen near s y how
chosen_same near s x y (Fresh b) is h = (subst (λ (k : ℕ). 2 ^ 63 ≤ k) (sym is) h.0, h.1)
chosen_same near s x y (Relocate b) is h = absurd h
chosen_same near s x y Overwrite is h = subst (λ (k : ℕ). k < 2 ^ 63) (sym is) h

pub chosen_flushed : (f : ℕ → ℕ) (near : ℕ) (s : Space) (cs : List CellSeen) (ps : List Placed) (rs : List RenamedCell)
    → AreMade (WasCell f) cs rs → AreChosen near s cs ps → AreChosen near s (flushed_cells rs) ps
chosen_flushed f near s [] [] [] all h = tt
chosen_flushed f near s [] [] (r ∷ rs) all h = absurd all
chosen_flushed f near s [] (p ∷ ps) rs all h = absurd h
chosen_flushed f near s (c ∷ cs) [] rs all h = absurd h
chosen_flushed f near s (c ∷ cs) (p ∷ ps) [] all h = absurd all
chosen_flushed f near s (c ∷ cs) (p ∷ ps) (r ∷ rs) all h = (
  h.0 ∙ sym all.0.was,
  chosen_same near s c (flushed_cell r) p.how all.0.was h.1,
  chosen_flushed f (behind near p.how) (placed_in s p.how) cs ps rs all.1 h.2,
)

-- ---- the plan

same_cells : (answers : List Placed) (cs : List CellSeen) (rs : List RenamedCell)
    → AreMade (WasCell (new_name (place_of answers))) cs rs
    → cells_of rs ≡ cells_by_block answers (flushed_cells rs)
same_cells answers [] [] all = refl
same_cells answers [] (r ∷ rs) all = absurd all
same_cells answers (c ∷ cs) [] all = absurd all
same_cells answers (c ∷ cs) (r ∷ rs) all =
    let id : (arc_value r.cell).id ≡ new_name (place_of answers) r.was.0 =
    all.0.cell.id ∙ ap (new_name (place_of answers)) (sym all.0.was) in
    ap (λ (k : ℕ). record (arc_value r.cell) { id = k } ∷ cells_of rs) id
    ∙ ap (λ (l : List CellSeen). record (arc_value r.cell) { id = new_name (place_of answers) r.was.0 } ∷ l)
    (same_cells answers cs rs all.1)

module _ (given : List CellSeen) (atom : AtomNo) (next : Super40) (last : BlockNo) (space : Space) (p : Prepared)
    (x : IsPrepared given atom next last space p) (base : Image) where
  abbrev work : Flushing
  work = flushing_of base space atom x.answers next last p

  pub plan_is_for : HasPlan (commit_by_block work x.planned.plan)
  plan_is_for = subst (λ (cells : List CellSeen). IsPlanFor (placed_all space x.answers) atom cells
      (answers_by_block x.answers) (record next { root_block = p.root.0 }) last x.planned.plan)
      (same_cells x.answers x.cells p.renamed.items x.renamed) x.planned.is_for

  module _ (n : ℕ) (m : Content) (r : IsAtRest n work m) where
    become : BecomeBlocks (new_name (place_of x.answers))
    become = names_become space r.lawful 22 work.cells x.answers r.chosen

    pub root_agrees : (Contains (fresh_blocks x.answers) next.root_block → ⊥)
        → p.root.0 ≡ name_after work next.root_block
    root_agrees out = x.root ∙ names_agree n work m r next.root_block out

    pub is_flush : (c : Session) → AreOwnCells c atom given → NameNoneChosen given x.answers → IsFlush c work
    is_flush c own none = record {
      mine = λ i d owner memory.
          let (z, in_z, at) = own.mine i d owner memory in
          let (y, in_y, same) = in_flushed (new_name (place_of x.answers)) x.cells p.renamed.items z x.renamed
          (Contains-permutation given x.cells z x.same in_z) in
          (y, in_y, same ∙ at);
      owned = λ y one.
          let w = from y one in
          let o = own.owned w.old (among w) in
          let id = name y w in
          (ap c.owner id ∙ o.0, (node_of w.old, ap c.memory id ∙ o.1));
      renamed_cells = λ y d one memory.
          let w = from y one in
          let o = own.owned w.old (among w) in
          let same : node_of w.old ≡ d = same_Some (node_of w.old) d (sym (ap c.memory (name y w) ∙ o.1) ∙ memory) in
          subst (λ (e : Node Value). IsRenamed (name_after work) e (node_of y)) same
          (subst (λ (e : Node Value). IsRenamed (name_after work) (node_of w.old) e)
          (sym (ap node_of w.is))
          (cell_agrees (new_name (place_of x.answers)) (name_after work) become w.old (arc_value w.new.cell)
          (own.stands w.old (among w))
          (λ z named. names_agree n work m r z.id (none w.old z (among w) named)) w.made.cell));
      stands = λ y one. let w = from y one in subst MayStand (sym w.is) (may_stand w.old (arc_value w.new.cell)
          w.made.cell (own.stands w.old (among w)));
    }
      where
        from : (y : CellSeen) → Contains (flushed_cells p.renamed.items) y
            → IsFrom (new_name (place_of x.answers)) x.cells y
        from y one = from_flushed (new_name (place_of x.answers)) x.cells p.renamed.items y x.renamed one

        among : {y : CellSeen} (w : IsFrom (new_name (place_of x.answers)) x.cells y) → Contains given w.old
        among w = Contains-permutation x.cells given w.old (IsPermutation-sym given x.cells x.same) w.among

        name : (y : CellSeen) (w : IsFrom (new_name (place_of x.answers)) x.cells y) → y.id ≡ w.old.id
        name y w = ap (λ (z : CellSeen). z.id) w.is ∙ w.made.was

        may_stand : (z y : CellSeen) → IsCellAnew (new_name (place_of x.answers)) z y
            → cell_fault true (2 ^ 63) z.level (rank z.lo) (rank z.hi) z.block ≡ None
            → cell_fault true (2 ^ 64) y.level (rank y.lo) (rank y.hi) y.block ≡ None
        may_stand z y h stood =
            (λ i. cell_fault true (2 ^ 64) (h.level i) (rank (h.lo i)) (rank (h.hi i)) y.block)
            ∙ block_stands (new_name (place_of x.answers)) become z.level (rank z.lo) (rank z.hi) z.block y.block
            h.bytes h.block (λ some sound. (h.block some).node ∙ sound)
            (cell_still true (2 ^ 63) (2 ^ 64) z.level (rank z.lo) (rank z.hi) z.block (omega arith) stood)
