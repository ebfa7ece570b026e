-- The cells of a walk without a fault are linked, and were read.
use Rattle.std.proofs.Common.{◌≡◌, ◌⊎◌, inl, inr, ℕ, zero, suc, Bool, true, false, ◌||◌, ◌==◌, List, [], refl, sym, ap, subst, arith}
use Rattle.std.specs.Prelude.{Contains}
use Rattle.std.proofs.lemmas.Bool.{eq-eqb}
use Rattle.r4_base.specs.Cell.{IsCellOf, cell_of}
use Rattle.r4_base.specs.Image.{Image, IsImage, block_at}
use Rattle.r4_base.specs.Layout.{IsLawfulSuper}
use Rattle.r4_base.specs.Tree.{Fits, IsNode, Name, Node}
use Rattle.r4_base.specs.Value.{Value}
use Rattle.r4_base.specs.Volume.{IsPlace}
use Rattle.r4_base.specs.declared.superblock.Super40.{Super40}
use Rattle.r4_check.specs.r4_list.Lists.{root_name_of}
use Rattle.r4_check.specs.Walk.{Walk, cell_at, is_reached, meet, nothing_met, walk_of}
use Rattle.r4_check.proofs.Closed.{look_grows, look_keeps_low}
use Rattle.r4_check.proofs.Kept.{AreCells, AreMarked, IsSoundWhole, cells_kept, look_keeps, marked_kept, meet_by, no_cell, sound_kept}
use Rattle.r4_check.proofs.Nodes.{look_nodes, root_proper}
use Rattle.r4_check.proofs.Parents.{look_named}
use Rattle.r4_check.proofs.Placed.{look_keeps_free}
use Rattle.r4_check_laws.proofs.Lists.{one_of}
use Rattle.r4_check_laws.proofs.Parts.{AreRead}
use Rattle.r4_check_laws.proofs.Stores.{AreOnce}
use Rattle.r4_check_laws.proofs.Trees.{AreLinked}

-- ---- each cell has a block of its own

record IsOnce (w : Walk) : Type 0 where
  once : AreOnce w.cells
  reached : (i : ℕ) (c : Node Value) → Contains w.cells (i, c) → is_reached w i ≡ true

or_right : (a b : Bool) → b ≡ true → (a || b) ≡ true
or_right true b e = refl
or_right false b e = e

or_left : (a b : Bool) → a ≡ true → (a || b) ≡ true
or_left true b e = refl
or_left false b e = absurd (cc)

once_kept : (blocks : ℕ) (image : Image) (w : Walk) (n : Name) → IsOnce w → IsOnce (meet blocks image w n)
once_kept blocks image w n h = meet_by IsOnce blocks image w n (λ again. record { once = h.once; reached = h.reached })
    (λ first sound. record {
      once = (λ d at. (let there = h.reached n.id d at in absurd (cc)), h.once);
      reached = λ i c at. (elim (one_of (n.id, cell_at image n) w.cells (i, c) at) [
        | inl e ↦ or_left (n.id == i) (is_reached w i) (eq-eqb n.id i (ap (λ (p : ℕ × Node Value). p.0) e))
        | inr more ↦ or_right (n.id == i) (is_reached w i) (h.reached i c more)
      ]);
    })
    (λ f first bad. record { once = h.once; reached = λ i c at. or_right (n.id == i) (is_reached w i) (h.reached i c at) })

pub walked_once : (s : Super40) (image : Image) → AreOnce (walk_of s image).cells
walked_once s image = (look_keeps IsOnce s.block_count image (once_kept s.block_count image) s.tree_height nothing_met (root_name_of s) (record { once = tt; reached = λ i c at. absurd (no_cell i c at) })).once

-- ---- a cell has the level and the range of its name

fits_name : (level lo hi : ℕ) (b : List ℕ) → ((cell_of level lo hi b).level ≡ level) × ((cell_of level lo hi b).lo ≡ lo) × ((cell_of level lo hi b).hi ≡ hi)
unfolding cell_of
fits_name zero lo hi b = (refl, refl, refl)
fits_name (suc l) lo hi b = (refl, refl, refl)

pub cell_fits : (image : Image) (n : Name) → Fits n (cell_at image n)
cell_fits image n = let f = fits_name n.level n.lo n.hi (block_at image n.id) in record { level = f.0; lo = f.1; hi = f.2 }

-- ---- the walk

module _ (n : ℕ) (s : Super40) (image : Image) (whole : IsImage n image) (lawful : IsLawfulSuper n s) (none : (walk_of s image).faults ≡ []) where
  is_whole : (walk_of s image).whole ≡ true
  is_whole = look_keeps IsSoundWhole s.block_count image (sound_kept s.block_count image) s.tree_height nothing_met (root_name_of s) (λ e. refl) none

  pub are_cells : (i : ℕ) (c : Node Value) → Contains (walk_of s image).cells (i, c) → IsCellOf s.block_count (block_at image i) c
  are_cells = look_keeps (AreCells s.block_count image) s.block_count image (cells_kept s.block_count image) s.tree_height nothing_met (root_name_of s) (λ j x h. absurd (no_cell j x h))

  are_nodes : (i : ℕ) (c : Node Value) → Contains (walk_of s image).cells (i, c) → IsNode c
  are_nodes = look_nodes n s.block_count image whole lawful.blocks.2 s.tree_height nothing_met (root_name_of s) (root_proper n s lawful) (λ j x h. absurd (no_cell j x h))

  pub are_places : (i : ℕ) (c : Node Value) → Contains (walk_of s image).cells (i, c) → IsPlace s.block_count image i
  are_places i c at =
      let marked = look_keeps (AreMarked image) s.block_count image (marked_kept s.block_count image) s.tree_height nothing_met (root_name_of s) (λ e j x h. absurd (no_cell j x h)) none i c at in
      let free = look_keeps_free s.block_count image s.tree_height nothing_met (root_name_of s) (lawful.root.1, lawful.root_not_fixed) (λ j x h. absurd (no_cell j x h)) i c at in
      (free.0, free.1, marked)

  pub are_read : AreRead s.block_count (walk_of s image).cells
  are_read i c at =
      let cell = are_cells i c at in
      let place = are_places i c at in
      let few = lawful.blocks in
      let below = place.0 in
      let most = few.1 in
      let device = few.2 in
      record { block = block_at image i; whole = whole.whole i (omega (arith, below, device)); sound = cell.sound; says = cell.says; node = are_nodes i c at; few = omega (arith, most) }

  pub are_linked : AreLinked (walk_of s image).cells (root_name_of s)
  are_linked =
      let grows = look_grows s.block_count image s.tree_height nothing_met (root_name_of s) (omega arith) is_whole in
      record {
        once = walked_once s image;
        nodes = are_nodes;
        low = λ i c at. look_keeps_low s.tree_height s.block_count image s.tree_height nothing_met (root_name_of s) (omega arith) (λ j x h. absurd (no_cell j x h)) i c at;
        root_there = (cell_at image (root_name_of s), grows.1, cell_fits image (root_name_of s));
        from = refl;
        to = refl;
        high = lawful.height.0;
        named = λ i c x at has. (cell_at image x, elim (grows.0.closed i c at) [ inl never ↦ absurd (no_cell i c never) | inr all ↦ all x has ], cell_fits image x);
        parent = λ i c at. parent_at i c at;
      }
    where
      parent_at : (i : ℕ) (c : Node Value) → Contains (walk_of s image).cells (i, c)
          → (x : Name) × ((x ≡ root_name_of s) ⊎ ((j : ℕ) × (d : Node Value) × Contains (walk_of s image).cells (j, d) × Contains d.names x)) × (i ≡ x.id) × Fits x c
      parent_at i c at =
          let (x, named, e) = (look_named s.block_count image (root_name_of s) s.tree_height nothing_met (root_name_of s) (inl refl) (λ j y h. absurd (no_cell j y h))).0 i c at in
          (x, named, sym (ap (λ (p : ℕ × Node Value). p.0) e), subst (Fits x) (ap (λ (p : ℕ × Node Value). p.1) e) (cell_fits image x))
