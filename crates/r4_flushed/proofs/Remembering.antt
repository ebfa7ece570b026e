-- The cells in memory, once an atom's have the names of their blocks.
use Rattle.std.proofs.Common.{◌≡◌, ◌⊎◌, inl, inr, ⊎_elim, ℕ, suc, ◌^◌, ◌≤◌, ◌<◌, Bool, true, false, cond}
use Rattle.std.proofs.Common.{Option, Some, None, refl, sym, ap, ◌∙◌, subst, arith}
use Rattle.std.specs.Prelude.{Contains}
use Rattle.std.specs.Option.{option_or}
use Rattle.std.proofs.lemmas.Bool.{ne_eqb}
use Rattle.std.proofs.lemmas.Option.{same_Some}
use Rattle.r4_base.proofs.Choices.{never_both}
use Rattle.r4_base.specs.Tree.{Fits, IsData, IsTree, Name, Node, Store}
use Rattle.r4_base.specs.Value.{Content, Value}
use Rattle.r4_base.proofs.Trees.{has_parent}
use Rattle.r4_placed.specs.r4_cell.Seen.{CellSeen, node_of}
use Rattle.r4_content.specs.Locality.{Meaning}
use Rattle.r4_content.specs.declared.command.Command.{Command}
use Rattle.r4_content.specs.declared.reply.Reply.{Reply}
use Rattle.r4_placed.specs.r4_commit.Plannable.{is_marked_in}
use Rattle.r4_placed.specs.r4_sets.Atoms.{without}
use Rattle.r4_placed.specs.r4_sets.Renaming.{IsRenamed, renamed_name}
use Rattle.r4_placed.specs.r4_sets.Session.{Session, Sets, only, picks, root_with, cells as cells_with}
use Rattle.r4_placed.proofs.r4_sets.Applied.{memory_stands}
use Rattle.r4_placed.proofs.r4_sets.Gathered.{under_stands}
use Rattle.r4_flushed.specs.Flushed.{AreFlushed, AreUnowned, IsSealedTo, cell_at, with_flushed}
use Rattle.r4_placed.specs.Flushing.{Flushing, IsAtRest, moves, name_after}
use Rattle.r4_placed.specs.r4_sealed.Commits.{spot}
use Rattle.r4_flushed.proofs.FlushedCells.{none_some, picks_cases}
use Rattle.r4_flushed.proofs.Gathering.{flushed, found_in, spot_or_not}
use Rattle.r4_placed.proofs.Planning.{below_or, cell_marked, fresh_free, from_pairs, old_spot, renamed_cell}
use Rattle.r4_placed.proofs.Planning.{renamed_twice}
use Rattle.r4_placed.proofs.Swapped.{swap_stays}

none_left : (a : ℕ) (o : Option ℕ) → without a o ≡ None → (o ≡ Some a → ⊥) → o ≡ None
none_left a None e out = refl
none_left a (Some n) e out = absurd (cc (sym (ap (λ (t : Bool). cond t None (Some n))
    (ne_eqb n a (λ is. out (ap (λ (k : ℕ). Some k) is)))) ∙ e))

module _ (w : Meaning Command Reply) (n : ℕ) (work : Flushing) (m : Content) (r : IsAtRest n work m)
    (c : Session) (sets : Sets w c) (fl : AreFlushed c work r.content.store) (unowned : AreUnowned c work) where
  abbrev to : ℕ → ℕ
  to = name_after work

  abbrev v : Store Value
  v = with_flushed c work c.memory

  clean_is : (i : ℕ) → c.owner i ≡ None → c.memory i ≡ r.content.store i
  clean_is i none = sets.clean i none ∙ fl.alone i

  low_committed : (i : ℕ) (d : Node Value) → r.content.store i ≡ Some d → i < 2 ^ 63
  low_committed i d is = let lt : i < work.space.block_count =
      subst (λ (k : ℕ). i < k) r.here.count (r.content.places i d is).0 in omega (arith, lt, r.lawful.most)

  at_spot : (x : CellSeen) → Contains work.cells x → v (spot work.answers x) ≡ Some (node_of x)
  at_spot x one = ap (λ (o : Option (Node Value)). option_or o
      (cond (picks (only work.atom.0) (c.owner (spot work.answers x))) None (c.memory (spot work.answers x))))
      (found_in n work m r c fl work.cells (λ z in_z. in_z) r.names x one)

  elsewhere : (j : ℕ) → cell_at work.answers work.cells j ≡ None
      → v j ≡ cond (picks (only work.atom.0) (c.owner j)) None (c.memory j)
  elsewhere j none = ap (λ (o : Option (Node Value)). option_or o
      (cond (picks (only work.atom.0) (c.owner j)) None (c.memory j))) none

  -- no cell of the atom stands where another one is in memory
  off_spots : (i : ℕ) (d : Node Value) → c.memory i ≡ Some d → (c.owner i ≡ Some work.atom.0 → ⊥) → (x : CellSeen)
      → Contains work.cells x → spot work.answers x ≡ i → ⊥
  off_spots i d is out x one at = ⊎_elim
      (λ low. out (ap c.owner (sym at ∙ old_spot n work m r x one low) ∙ (fl.flush.owned x one).0))
      (λ high.
      let none : c.owner i ≡ None = ap c.owner (sym at) ∙ unowned x one high in
      never_both (is_marked_in work.space i) (cell_marked n work m r i d (sym (clean_is i none) ∙ is)).0
      (subst (λ (k : ℕ). is_marked_in work.space k ≡ false) at (fresh_free n work m r x one high).1))
      (below_or x.id)

  -- so its name stays
  still : (i : ℕ) (d : Node Value) → c.memory i ≡ Some d → (c.owner i ≡ Some work.atom.0 → ⊥) → to i ≡ i
  still i d is out = swap_stays (moves work.answers work.cells) i (λ q one.
      let (x, in_cells, at) = from_pairs work.answers work.cells q one in
      let name : q.0 ≡ x.id = ap (λ (p : ℕ × ℕ). p.0) at in
      let block : q.1 ≡ spot work.answers x = ap (λ (p : ℕ × ℕ). p.1) at in (
        λ e. out (ap c.owner (e ∙ name) ∙ (fl.flush.owned x in_cells).0),
        λ e. off_spots i d is out x in_cells (sym block ∙ sym e),
      ))

  with_atom_at : (i : ℕ) → picks (only work.atom.0) (c.owner i) ≡ true
      → cells_with c (only work.atom.0) i ≡ c.memory i
  with_atom_at i pick = ap (λ (t : Bool). cond t (c.memory i) (c.under.cells i)) pick

  without_at : (i : ℕ) → picks (only work.atom.0) (c.owner i) ≡ false
      → cells_with c (only work.atom.0) i ≡ r.content.store i
  without_at i pick = ap (λ (t : Bool). cond t (c.memory i) (c.under.cells i)) pick ∙ fl.alone i

  memory_tree : IsTree c.memory c.root
  memory_tree = (memory_stands w c sets).is.tree

  own_tree : IsTree (cells_with c (only work.atom.0)) (root_with c (only work.atom.0))
  own_tree = (sets.each (only work.atom.0)).is.tree

  -- the level of a cell that names another
  level_of : (d e : Node Value) (y : Name) → ((1 ≤ y.level) × (suc y.level ≡ d.level)) ⊎ ((d.level ≡ 2) × IsData y)
      → Fits y e → ((1 ≤ e.level) × (d.level ≡ suc e.level)) ⊎ ((e.level ≡ 0) × (d.level ≡ 2))
  level_of d e y (inl (one, is)) fits = let level = fits.level in
      inl (omega (arith, one, level), omega (arith, is, level))
  level_of d e y (inr (two, zero)) fits = let level = fits.level in inr (omega (arith, level, zero), two)

  -- two cells in memory that name one cell are the same
  one_parent : (i k j : ℕ) (d p e : Node Value) (y z : Name) → c.memory i ≡ Some d → c.memory k ≡ Some p
      → c.memory j ≡ Some e → Contains d.names y → Contains p.names z → Fits y e → Fits z e → i ≡ k
  one_parent i k j d p e y z di pk ej in_d in_p fit_y fit_z =
      let nd = memory_tree.nodes i d di in
      let np = memory_tree.nodes k p pk in
      let levels : (d.level ≡ p.level) × (1 ≤ d.level) =
      both (level_of d e y (nd.below y in_d) fit_y) (level_of p e z (np.below z in_p) fit_z) in
      let y_from = nd.name_from y in_d in
      let y_to = nd.name_to y in_d in
      let y_some = nd.name_nonempty y in_d in
      let z_from = np.name_from z in_p in
      let z_to = np.name_to z in_p in
      let lo_y = fit_y.lo in
      let lo_z = fit_z.lo in
      let hi_y = fit_y.hi in
      let hi_z = fit_z.hi in
      memory_tree.apart i k d p y.lo di pk levels.0 levels.1 (omega (arith, y_from), omega (arith, y_to, y_some))
      (omega (arith, z_from, lo_y, lo_z), omega (arith, z_to, y_some, lo_y, lo_z, hi_y, hi_z))
    where
      both : ((1 ≤ e.level) × (d.level ≡ suc e.level)) ⊎ ((e.level ≡ 0) × (d.level ≡ 2))
          → ((1 ≤ e.level) × (p.level ≡ suc e.level)) ⊎ ((e.level ≡ 0) × (p.level ≡ 2)) → (d.level ≡ p.level)
          × (1 ≤ d.level)
      both (inl (one, is)) (inl (two, at)) = (omega (arith, is, at), omega (arith, is))
      both (inl (one, is)) (inr (none, at)) = absurd (omega (arith, one, none))
      both (inr (none, is)) (inl (two, at)) = absurd (omega (arith, two, none))
      both (inr (none, is)) (inr (also, at)) = (omega (arith, is, at), omega (arith, is))

  -- a cell of no block is named by a cell of its own atom
  own_parent : (x : CellSeen) (i : ℕ) (d e : Node Value) (y : Name) → Contains work.cells x → 2 ^ 63 ≤ x.id
      → c.memory i ≡ Some d → Contains d.names y → y.id ≡ x.id → c.memory x.id ≡ Some e → Fits y e
      → c.owner i ≡ Some work.atom.0
  own_parent x i d e y one high di in_d named mem fit = ⊎_elim
      (λ (own, pick). ⊎_elim
      (λ top. absurd (root_case top))
      (λ (k, p, z, pk, in_p, is). ⊎_elim
      (λ (mine, pick_k).
      let (g, there, fit_z) = own_tree.named k p z pk in_p in
      let at : cells_with c (only work.atom.0) z.id ≡ Some e = ap (cells_with c (only work.atom.0)) is
      ∙ with_atom_at x.id pick ∙ mem in
      let same : g ≡ e = same_Some g e (sym there ∙ at) in
      ap c.owner (one_parent i k x.id d p e y z di (sym (with_atom_at k pick_k) ∙ pk) mem in_d in_p fit
      (subst (Fits z) same fit_z)) ∙ mine)
      (λ (out, pick_k).
      let (g, there, fit_z) = r.content.tree.named k p z (sym (without_at k pick_k) ∙ pk) in_p in
      let small = low_committed z.id g there in
      absurd (omega (arith, small, high, is)))
      (picks_cases work.atom.0 (c.owner k)))
      (has_parent (cells_with c (only work.atom.0)) (root_with c (only work.atom.0)) own_tree x.id e
      (with_atom_at x.id pick ∙ mem)))
      (λ (out, pick). absurd (out (fl.flush.owned x one).0))
      (picks_cases work.atom.0 (c.owner x.id))
    where
      at_root : x.id ≡ c.root.id → ⊥
      at_root is =
          let top : e ≡ memory_tree.root_node = same_Some e memory_tree.root_node
          (sym mem ∙ ap c.memory is ∙ memory_tree.root_is) in
          let level : e.level ≡ c.root.height = ap (λ (q : Node Value). q.level) top ∙ memory_tree.root_level in
          let above = memory_tree.none_above i d di in
          let two = memory_tree.height in
          ⊎_elim
          (λ (some, up). absurd (omega (arith, above, up, level)))
          (λ (none, up). absurd (omega (arith, none, level, two)))
          (level_of d e y ((memory_tree.nodes i d di).below y in_d) fit)

      at_under : x.id ≡ c.under.root.id → ⊥
      at_under is =
          let under = (under_stands w c sets).is.tree in
          let small = low_committed c.under.root.id under.root_node (sym (fl.alone c.under.root.id)
          ∙ under.root_is) in
          absurd (omega (arith, small, high, is))

      root_case : x.id ≡ (root_with c (only work.atom.0)).id → ⊥
      root_case is = go (picks (only work.atom.0) (c.owner c.root.id)) is
        where
          go : (t : Bool) → x.id ≡ (cond t c.root c.under.root).id → ⊥
          go true e = at_root e
          go false e = at_under e

  fixed_name : (i : ℕ) (d : Node Value) (y : Name) → c.memory i ≡ Some d → (c.owner i ≡ Some work.atom.0 → ⊥)
      → Contains d.names y → to y.id ≡ y.id
  fixed_name i d y is out one =
      let (e, there, fits) = memory_tree.named i d y is one in
      ⊎_elim
      (λ (own, pick).
      let (x, in_cells, at) = fl.flush.mine y.id e own there in
      ⊎_elim
      (λ low. ap to (sym at) ∙ renamed_cell n work m r x in_cells ∙ old_spot n work m r x in_cells low ∙ at)
      (λ high. absurd (out (own_parent x i d e y in_cells high is one (sym at) (ap c.memory at ∙ there) fits)))
      (below_or x.id))
      (λ (other, pick). still y.id e there other)
      (picks_cases work.atom.0 (c.owner y.id))

  kept_cell : (i : ℕ) (d : Node Value) → c.memory i ≡ Some d → (c.owner i ≡ Some work.atom.0 → ⊥) → IsRenamed to d d
  kept_cell i d is out =
      let same : (y : Name) → Contains d.names y → renamed_name to y ≡ y =
      λ y one. ap (λ (k : ℕ). record y { id = k }) (fixed_name i d y is out one) in
      record {
        level = refl;
        lo = refl;
        hi = refl;
        names_to = λ y one. subst (Contains d.names) (sym (same y one)) one;
        names_from = λ y one. (y, one, sym (same y one));
        spans = λ y. (λ h. h, λ h. h);
        units = λ k x. (λ h. h, λ h. h);
      }

  to_new : (i : ℕ) (d : Node Value) → c.memory i ≡ Some d → (e : Node Value) × (v (to i) ≡ Some e) × IsRenamed to d e
  to_new i d is = ⊎_elim
      (λ (own, pick).
      let (x, one, at) = fl.flush.mine i d own is in (
        node_of x,
        ap v (ap to (sym at) ∙ renamed_cell n work m r x one) ∙ at_spot x one,
        fl.flush.renamed_cells x d one (ap c.memory at ∙ is),
      ))
      (λ (out, pick). ⊎_elim
      (λ (x, one, at). absurd (off_spots i d is out x one at))
      (λ (none, off). (
        d,
        ap v (still i d is out) ∙ elsewhere i none
            ∙ ap (λ (t : Bool). cond t None (c.memory i)) pick ∙ is,
        kept_cell i d is out,
      ))
      (spot_or_not work.answers work.cells i))
      (picks_cases work.atom.0 (c.owner i))

  from_new : (j : ℕ) (e : Node Value) → v j ≡ Some e → (d : Node Value) × (c.memory (to j) ≡ Some d)
      × IsRenamed to d e
  from_new j e is = ⊎_elim
      (λ (x, one, at).
      let (own, (d, mem)) = fl.flush.owned x one in
      let back : to j ≡ x.id = ap to (sym at ∙ sym (renamed_cell n work m r x one)) ∙ renamed_twice n work m r x.id in
      let same : node_of x ≡ e = same_Some (node_of x) e (sym (at_spot x one) ∙ ap v at ∙ is) in
      (d, ap c.memory back ∙ mem, subst (IsRenamed to d) same (fl.flush.renamed_cells x d one mem)))
      (λ (none, off). ⊎_elim
      (λ (own, pick). absurd (none_some (v j) e (elsewhere j none
      ∙ ap (λ (t : Bool). cond t None (c.memory j)) pick) is))
      (λ (out, pick).
      let mem : c.memory j ≡ Some e = sym (elsewhere j none ∙ ap (λ (t : Bool). cond t None (c.memory j)) pick)
      ∙ is in
      (e, ap c.memory (still j e mem out) ∙ mem, kept_cell j e mem out))
      (picks_cases work.atom.0 (c.owner j)))
      (spot_or_not work.answers work.cells j)

  clean_now : (i : ℕ) → without work.atom.0 (c.owner i) ≡ None → v i ≡ with_flushed c work r.content.store i
  clean_now i none = ⊎_elim
      (λ (own, pick). ap (λ (t : Bool). option_or (cell_at work.answers work.cells i) (cond t None (c.memory i))) pick
      ∙ sym (ap (λ (t : Bool). option_or (cell_at work.answers work.cells i) (cond t None (r.content.store i)))
      pick))
      (λ (out, pick). ap (λ (o : Option (Node Value)). option_or (cell_at work.answers work.cells i)
      (cond (picks (only work.atom.0) (c.owner i)) None o))
      (clean_is i (none_left work.atom.0 (c.owner i) none out)))
      (picks_cases work.atom.0 (c.owner i))

  pub sealed_cells : IsSealedTo c work r.content.store (with_flushed c work r.content.store) v
  sealed_cells = record {
    flushed = flushed n work m r c fl;
    memory = record {
      to = to_new;
      from = from_new;
      back = renamed_twice n work m r;
      again =
          renamed_twice n work m r;
    };
    clean = clean_now;
    unowned = unowned;
  }
