-- An atom that was looked at may be sealed.
use Rattle.std.proofs.Common.{◌≡◌, ℕ, ◌+◌, ◌^◌, ◌<◌, ◌≤◌, Bool, true, false, List, map, length, None, Some, sym, ◌∙◌, ap, subst}
use Rattle.std.specs.Prelude.{◌↔◌, All, Contains, MatchBool}
use Rattle.std.specs.Arc.{arc_value}
use Rattle.std.specs.Global.{Global}
use Rattle.std.specs.List.Sorted.{IsStrictlyIncreasing}
use Rattle.std.specs.declared.sync.Arc as arc_declared
use Rattle.std.proofs.lemmas.List.{length-map}
use Rattle.std.proofs.lemmas.List.Elements.{All-contains}
use Rattle.r4_atoms.specs.Atoms.{IsClosedAtom, numbers, owner_of}
use Rattle.r4_base.specs.Bitmap.{bitmap_count}
use Rattle.r4_base.specs.declared.superblock.Super40.{Super40}
use Rattle.r4_base.specs.declared.things.AtomNo.{AtomNo}
use Rattle.r4_base.specs.declared.things.BlockNo.{BlockNo}
use Rattle.r4_base.specs.declared.things.NodeId.{NodeId}
use Rattle.r4_buffer.specs.Seen.{IsLawful as AreNamed}
use Rattle.r4_cell.specs.Seen.{CellSeen}
use Rattle.r4_closed.specs.Closed.{AreClosed}
use Rattle.r4_core.specs.r4_flush.Asked.{StandsIn, fresh_count}
use Rattle.r4_core.specs.r4_flush.Prepared.{IsPrepared}
use Rattle.r4_core.specs.r4_flush.declared.preparing.Prepared.{Prepared}
use Rattle.r4_core.proofs.r4_flushing.Preparing.{all_stand, has_room}
use Rattle.r4_core.specs.r4_flushing.Sealable.{IsClear, MaySeal}
use Rattle.r4_core.specs.r4_flushing.Sealing.{AreCellsOf, CanSeal, super_to_come}
use Rattle.r4_outside.specs.Device.{State}
use Rattle.r4_space.specs.Accounts.{price_formula}
use Rattle.r4_space.specs.Lawful.{IsLawful}
use Rattle.r4_space.specs.Space.{Space, is_taken, unused_count}
use Rattle.r4_core.proofs.r4_wander.Members.{from_map}
use Rattle.r4_core.specs.r4_wander.Torn.{targets}
use Rattle.r4_core.specs.r4_kept.History.{owed}
use Rattle.r4_core.specs.r4_kept.Kept.{IsKept}
use Rattle.r4_core.specs.r4_kept.Naming.{Naming}
use Rattle.r4_core.specs.r4_kept.View.{CoreSeen}
use Rattle.r4_seal.specs.Cells.{cells_under}
use Rattle.r4_seal.specs.Checked.{AreClearBlocks, AreClearNames, AreCounted, AreUsed, GetsClear, IsUsedNode}
use Rattle.r4_seal.proofs.Clear.{none_open}
use Rattle.r4_seal.proofs.Gathered.{are_cells}

at_true : (b : Bool) (P Q : Type 0) → b ≡ true → MatchBool b P Q → P
at_true true P Q on h = h
at_true false P Q on h = absurd (cc on)

-- what is asked of the atom and of the nodes that it owns
pub record IsLookedAt {D : Type 0} (c : CoreSeen D) (a : AtomNo) (nodes : List NodeId) : Type 0 where
  pub sound : c.broken ≡ None
  pub rest : c.commit ≡ None
  pub closed : IsClosedAtom c.atoms a.0
  pub entries : owed c.turns + 3 ≤ c.trace.spare
  pub rising : IsStrictlyIncreasing (numbers nodes)
  pub owned : (n : ℕ) → Contains (numbers nodes) n ↔ (owner_of c.atoms n ≡ Some a.0)
  pub counted : AreCounted c a

module _ {D : Type 0} (r : Naming) (d : State) (c : CoreSeen D) (a : AtomNo) (nodes : List NodeId) (k : IsKept r d c)
    (lawful : IsLawful c.space) (buffer : AreNamed c.buffer) (h : IsLookedAt c a nodes) where
  abbrev cells : List CellSeen
  cells = cells_under c.buffer nodes

  can : CanSeal c a
  can = record {
    sound = h.sound;
    rest = h.rest;
    opened = h.closed.unsealed;
    closed = none_open c.atoms a.0 h.closed;
    some = h.counted.some;
    entries = h.entries;
  }

  are : AreCellsOf c.buffer c.atoms a.0 cells
  are = are_cells c.buffer buffer c.atoms a.0 nodes h.rising h.owned

  pub room_for : (xs : List (arc_declared.Arc CellSeen Global)) (space : Space)
      → map (λ x. arc_value x) xs ≡ cells → space ≡ c.space
      → price_formula (length xs) (bitmap_count space.block_count) + fresh_count (map (λ x. arc_value x) xs)
      ≤ unused_count space
  room_for xs space are_xs is =
      let room = has_room r d c a cells k can are buffer lawful in
      let long = sym (length-map xs (λ x. arc_value x)) ∙ ap length are_xs in
      subst
      (λ (s : Space). price_formula (length xs) (bitmap_count s.block_count) + fresh_count (map (λ x. arc_value x) xs)
      ≤ unused_count s) (sym is)
      (subst (λ (n : ℕ). price_formula n (bitmap_count c.space.block_count) + fresh_count (map (λ x. arc_value x) xs)
      ≤ unused_count c.space) (sym long)
      (subst
      (λ (l : List CellSeen). price_formula (length cells) (bitmap_count c.space.block_count) + fresh_count l
      ≤ unused_count c.space)
      (sym are_xs) room))

  pub stand_in : (xs : List (arc_declared.Arc CellSeen Global)) (space : Space)
      → map (λ x. arc_value x) xs ≡ cells → space ≡ c.space
      → All (StandsIn space.block_count) (map (λ x. arc_value x) xs)
  stand_in xs space are_xs is =
      subst (λ (s : Space). All (StandsIn s.block_count) (map (λ x. arc_value x) xs)) (sym is)
      (subst (All (StandsIn c.space.block_count)) (sym are_xs) (all_stand r d c a cells k can are buffer))

  pub may_seal : (p : Prepared) (blocks : List BlockNo) → AreClosed c.tree.id.0 cells → AreUsed c.space nodes
      → IsPrepared cells a (super_to_come c a.0) c.volume.prev c.space p
      → map (λ (b : BlockNo). b.0) blocks ≡ targets p.plan.work.plan.first → AreClearBlocks c blocks
      → AreClearNames c p.renamed.items → MaySeal c a p cells
  may_seal p blocks closed used prepared are_blocks clear names = record {
    can = can;
    are = are;
    prepared = prepared;
    closed = closed;
    own = λ i own low.
        (let (n, has, same) = from_map (λ (m : NodeId). m.0) nodes i ((h.owned i).1 own) in
        let taken =
        All-contains (IsUsedNode c.space) nodes n used has (subst (λ (j : ℕ). j < 2 ^ 63) same low) in
        subst (λ (j : ℕ). is_taken c.space j ≡ true) (sym same) taken);
    clear = record {
      written = λ i has.
          (let (b, in_blocks, same) =
          from_map (λ (m : BlockNo). m.0) blocks i (subst (λ (l : List ℕ). Contains l i) (sym are_blocks) has) in
          subst (IsClear c) (sym same)
          (All-contains (λ (m : BlockNo). IsClear c m.0) blocks b clear in_blocks));
      renamed = λ q has high. All-contains (GetsClear c) p.renamed.items q names has high;
    };
    ids = h.counted.ids;
    count = h.counted.count;
  }

  pub prepared_so : (xs : List (arc_declared.Arc CellSeen Global)) (next : Super40) (prev : BlockNo) (space : Space)
      (p : Prepared) → map (λ x. arc_value x) xs ≡ cells → next ≡ super_to_come c a.0 → prev ≡ c.volume.prev
      → space ≡ c.space → IsPrepared (map (λ x. arc_value x) xs) a next prev space p
      → IsPrepared cells a (super_to_come c a.0) c.volume.prev c.space p
  prepared_so xs next prev space p are_xs is_next is_prev is_space h =
      subst (λ (l : List CellSeen). IsPrepared l a (super_to_come c a.0) c.volume.prev c.space p) are_xs
      (subst (λ (n : Super40). IsPrepared (map (λ x. arc_value x) xs) a n c.volume.prev c.space p) is_next
      (subst (λ (b : BlockNo). IsPrepared (map (λ x. arc_value x) xs) a next b c.space p) is_prev
      (subst (λ (s : Space). IsPrepared (map (λ x. arc_value x) xs) a next prev s p) is_space h)))

  pub closed_so : (xs : List (arc_declared.Arc CellSeen Global)) (root : NodeId) (b : Bool)
      → map (λ x. arc_value x) xs ≡ cells → root ≡ c.tree.id → b ≡ true
      → MatchBool b (AreClosed root.0 (map (λ x. arc_value x) xs)) (AreClosed root.0 (map (λ x. arc_value x) xs) → ⊥)
      → AreClosed c.tree.id.0 cells
  closed_so xs root b are_xs is_root on h =
      subst (λ (l : List CellSeen). AreClosed c.tree.id.0 l) are_xs
      (subst (λ (n : NodeId). AreClosed n.0 (map (λ x. arc_value x) xs)) is_root
      (at_true b (AreClosed root.0 (map (λ x. arc_value x) xs)) (AreClosed root.0 (map (λ x. arc_value x) xs) → ⊥) on
      h))
