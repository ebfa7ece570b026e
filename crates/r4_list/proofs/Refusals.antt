-- Where a pool is damaged, a node of the settled image is refused.
use Rattle.std.proofs.Common.{◌≡◌, inl, inr, ℕ, List, refl, sym, ap, subst, ◌∙◌}
use Rattle.std.specs.Prelude.{Option, Some, None, false}
use Rattle.std.proofs.lemmas.Option.{none-some}
use Rattle.std.specs.BTreeMap.{BTreeMap}
use Rattle.std.specs.Option.{option_or}
use Rattle.r4_base.specs.Cell.{cell_fault}
use Rattle.r4_base.specs.Image.{Image, block_at}
use Rattle.r4_base.specs.Key.{rank}
use Rattle.r4_base.specs.Tree.{Name}
use Rattle.r4_base.specs.declared.items.CellFault.{CellFault}
use Rattle.r4_base.specs.declared.superblock.Super40.{Super40}
use Rattle.r4_outside.specs.Device.{State}
use Rattle.r4_cell.specs.Seen.{CellSeen, IsReadFrom}
use Rattle.r4_cell.specs.declared.change.Root.{Root}
use Rattle.r4_search.specs.Path.{root_name}
use Rattle.r4_search.specs.Pool.{FaultIs, Goes, IsFrom, IsNamed, IsNamedFrom, IsRead, PoolState}
use Rattle.r4_search.proofs.FromDevice.{tells_image}
use Rattle.r4_search.proofs.Walks.{goes_both, named_more}
use Rattle.r4_list.specs.Lists.{IsNodeRefused, IsReached, root_name_of}
use Rattle.r4_search.specs.Keeping.{Shared, met_in}
use Rattle.r4_list.specs.Pool.{nodes_state}
use Rattle.r4_list.specs.Printing.{IsDamaged}
use Rattle.r4_list.proofs.Listings.{RefusesWell}
use Rattle.r4_list.proofs.ListingText.{settled_is}

-- a pool that keeps nothing, over an image
module _ (s : Super40) (image : Image) (root : Root) (old : PoolState) (blocks : old.blocks ≡ s.block_count) (root_is : old.root ≡ root_name root) (named : root_name root ≡ root_name_of s) (meant : (i : ℕ) → old.meant i ≡ Some (block_at image i)) (empty : (i : ℕ) → old.kept i ≡ None) where
  read_at : (i : ℕ) (c : CellSeen) → c.id ≡ i → IsRead old.blocks (old.meant i) c → IsReadFrom s.block_count image c
  read_at i c is r =
      let here = subst (λ (m : Option (List ℕ)). IsRead s.block_count m c) (meant i) (subst (λ (n : ℕ). IsRead n (old.meant i) c) blocks r) in
      let block = here.0 ∙ ap (block_at image) (sym is) in
      (block, subst (λ (b : List ℕ). cell_fault false s.block_count c.level (rank c.lo) (rank c.hi) b ≡ None) (sym here.0) here.1)

  kept_read : (p : PoolState) (i : ℕ) (c : CellSeen) → Goes old p → p.kept i ≡ Some c → (c.id ≡ i) × IsReadFrom s.block_count image c
  kept_read p i c g is = let a = g.added i c is (empty i) in (a.0, read_at i c a.0 a.1)

  -- the cells that lead to a name are nodes of the image
  from_read : (p : PoolState) → Goes old p → (c : CellSeen) → IsFrom p c → IsReadFrom s.block_count image c
  from_read p g c (inl kept) = (kept_read p c.id c g kept).1
  from_read p g c (inr read) = read_at c.id c refl (subst (λ (m : Option (List ℕ)). IsRead old.blocks m c) (g.meant c.id) (subst (λ (n : ℕ). IsRead n (p.meant c.id) c) g.blocks read))

  reached : (p : PoolState) → Goes old p → (n : Name) → IsNamedFrom (root_name root) (IsFrom p) n → IsReached s image n
  reached p g n h = subst (λ (r : Name). IsNamedFrom r (IsReadFrom s.block_count image) n) named (named_more (root_name root) (IsFrom p) (IsReadFrom s.block_count image) n (from_read p g) h)

  -- and so is each that the pool keeps
  kept_reached : (p : PoolState) → Goes old p → (i : ℕ) (c : CellSeen) → p.kept i ≡ Some c → (n : Name) × IsNamed n c × IsReached s image n
  kept_reached p g i c is =
      let (n, is_named, from) = g.hangs (λ j d h. absurd (none-some d (sym (empty j) ∙ h))) i c is in
      (n, is_named, reached p g n (subst (λ (r : Name). IsNamedFrom r (IsFrom p) n) (g.root ∙ root_is) from))

  refused_by : (p : PoolState) (n : Name) (at : ℕ) (fault : CellFault) → Goes old p → at ≡ n.id → IsReached s image n
      → (o : Option CellSeen) → p.kept n.id ≡ o → FaultIs p.blocks n o (p.meant n.id) (Some fault) → IsNodeRefused s image at fault
  refused_by p n at fault g is by None none f =
      let here = subst (λ (m : Option (List ℕ)). FaultIs s.block_count n None m (Some fault)) (g.meant n.id ∙ meant n.id) (subst (λ (k : ℕ). FaultIs k n None (p.meant n.id) (Some fault)) (g.blocks ∙ blocks) f) in
      record { name = n; block = is; reached = by; why = inl (ap (λ (b : ℕ). cell_fault false s.block_count n.level n.lo n.hi (block_at image b)) is ∙ sym here) }
  refused_by p n at fault g is by (Some c) some f =
      let kept = kept_read p n.id c g some in
      let (other, is_named, from) = kept_reached p g n.id c some in
      record { name = n; block = is; reached = by; why = inr (c, other, kept.0 ∙ sym is, kept.1, is_named, from, sym f) }

  pub damaged_refused : (at : ℕ) (fault : CellFault) → IsDamaged root old at fault → IsNodeRefused s image at fault
  damaged_refused at fault d =
      refused_by d.now d.name at fault d.came d.block (reached d.later (goes_both old d.now d.later d.came d.goes) d.name d.named) (d.now.kept d.name.id) refl d.has

pub refuses_well : (d : State) (homes : BTreeMap ℕ ℕ) (s : Super40) (root : Root) (first : Name) (blocks : ℕ) (met : List (ℕ × Shared)) → first ≡ root_name root → blocks ≡ s.block_count → root_name root ≡ root_name_of s → ((i : ℕ) → met_in met i ≡ None) → RefusesWell homes s root (nodes_state first d homes blocks met) d
refuses_well d homes s root first blocks met begins count named empty at fault damaged told image settled =
    damaged_refused s image root (nodes_state first d homes blocks met) count begins named (λ i. settled_is d homes (tells_image d.blocks d.seen told) i ∙ ap (λ (b : List ℕ). Some b) (sym (settled i))) (λ i. ap (λ (o : Option CellSeen). option_or o None) (empty i)) at fault damaged
