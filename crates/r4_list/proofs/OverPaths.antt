-- The cells on a path over a content: each is the one of the store, and no block is refused.
use Rattle.std.proofs.Common.{◌≡◌, inl, inr, ℕ, zero, suc, List, [], ◌∷◌, refl, sym, ap, subst, ◌∙◌}
use Rattle.std.specs.Prelude.{Option, Some, None, Contains, All, Result, Ok, Err, IfOk, true, false, ◌==◌}
use Rattle.std.specs.Result.{IsErrAnd}
use Rattle.std.proofs.lemmas.List.Elements.{All-contains, Contains-append_cases, Contains-append_left, Contains-append_right, Contains-push}
use Rattle.std.proofs.lemmas.Bool.{eq-eqb}
use Rattle.std.proofs.lemmas.Option.{none-some, same_Some}
use Rattle.r4_base.specs.Cell.{IsCellOf, cell_of, cell_fault}
use Rattle.r4_base.specs.Image.{Image, block_at}
use Rattle.r4_base.specs.Key.{rank}
use Rattle.r4_base.specs.Tree.{Name, Node, Store, Fits}
use Rattle.r4_base.specs.Value.{Content, Value}
use Rattle.r4_base.specs.Volume.{HasContent}
use Rattle.r4_base.specs.declared.items.CellFault.{CellFault}
use Rattle.r4_base.proofs.FreshTree.{only}
use Rattle.r4_base.proofs.Choices.{nothing_in}
use Rattle.r4_cell.specs.Seen.{CellSeen, node_of}
use Rattle.r4_cell.specs.declared.change.Root.{Root}
use Rattle.r4_search.specs.Pool.{PoolState, FaultIs, Goes, IsKeptOrRead, IsNamed, IsOf, IsRead, place_fault}
use Rattle.r4_search.specs.Path.{Descends, Follows, KeepsOnly, StopsOn, Stops, last_of, root_name}
use Rattle.r4_search.specs.declared.pool.FetchFault.{FetchFault}
use Rattle.r4_search.specs.declared.pool.FetchFault.TheVariants.{Read, Damaged, Memory}
use Rattle.r4_search.proofs.Walks.{last_in}
use Rattle.r4_list.specs.Over.{IsOver, IsUndamaged}

-- the store has a cell of this name, as it is named
abbrev pub Stored : Store Value → Name → Type 0
Stored t n = (d : Node Value) × (t n.id ≡ Some d) × Fits n d

-- the cell is the store's
abbrev pub IsStored : Store Value → CellSeen → Type 0
IsStored t x = t x.id ≡ Some (node_of x)

-- ---- a cell and its node

node_level : (level lo hi : ℕ) (b : List ℕ) → (cell_of level lo hi b).level ≡ level
unfolding cell_of
node_level zero lo hi b = refl
node_level (suc l) lo hi b = refl

node_lo : (level lo hi : ℕ) (b : List ℕ) → (cell_of level lo hi b).lo ≡ lo
unfolding cell_of
node_lo zero lo hi b = refl
node_lo (suc l) lo hi b = refl

node_hi : (level lo hi : ℕ) (b : List ℕ) → (cell_of level lo hi b).hi ≡ hi
unfolding cell_of
node_hi zero lo hi b = refl
node_hi (suc l) lo hi b = refl

module _ (x : CellSeen) where
  pub level_is : (node_of x).level ≡ x.level
  level_is = node_level x.level (rank x.lo) (rank x.hi) x.block

  pub lo_is : (node_of x).lo ≡ rank x.lo
  lo_is = node_lo x.level (rank x.lo) (rank x.hi) x.block

  pub hi_is : (node_of x).hi ≡ rank x.hi
  hi_is = node_hi x.level (rank x.lo) (rank x.hi) x.block

same_cell : (l m a b p q : ℕ) (s t : List ℕ) → l ≡ m → a ≡ b → p ≡ q → s ≡ t → cell_of l a p s ≡ cell_of m b q t
same_cell l m a b p q s t e f g h = ap (λ (x : ℕ). cell_of x a p s) e ∙ (ap (λ (x : ℕ). cell_of m x p s) f ∙ (ap (λ (x : ℕ). cell_of m b x s) g ∙ ap (λ (x : List ℕ). cell_of m b q x) h))

cell_named : (blocks : ℕ) (b : List ℕ) (n : Name) (d : Node Value) (x : CellSeen) → IsCellOf blocks b d → Fits n d → IsNamed n x → x.block ≡ b → d ≡ node_of x
cell_named blocks b n d x is f named e =
    is.says ∙ same_cell d.level x.level d.lo (rank x.lo) d.hi (rank x.hi) b x.block (f.level ∙ sym named.level) (f.lo ∙ sym named.lo) (f.hi ∙ sym named.hi) (sym e)

placed : (n : Name) (k : CellSeen) → k.level ≡ n.level → rank k.lo ≡ n.lo → rank k.hi ≡ n.hi → place_fault n k ≡ None
placed n k level lo hi =
    let a : (k.level == n.level) ≡ true = eq-eqb k.level n.level level in
    let b : (rank k.lo == n.lo) ≡ true = eq-eqb (rank k.lo) n.lo lo in
    let c : (rank k.hi == n.hi) ≡ true = eq-eqb (rank k.hi) n.hi hi in
    rw (a, b, c) refl

-- ---- a pool over a content

module _ {n : ℕ} {image : Image} {m : Content} (c : HasContent n image m) (root : Root) (p : PoolState) (over : IsOver c root p) where
  pub stored_root : Stored c.store (root_name root)
  stored_root =
      let it = c.tree in
      let r = over.root_is in (
        it.root_node,
        subst (λ (i : ℕ). c.store i ≡ Some it.root_node) (sym (ap (λ x. x.id) r)) it.root_is,
        record { level = it.root_level ∙ sym (ap (λ x. x.height) r); lo = it.root_lo; hi = it.root_hi },
      )

  stored_from : (i : ℕ) (x : CellSeen) (at : Name) → x.id ≡ i → at.id ≡ i → (d : Node Value) → c.store i ≡ Some d → Fits at d → IsNamed at x → (o : Option CellSeen) → p.kept i ≡ o → IsKeptOrRead p.blocks o (p.meant i) x → c.store i ≡ Some (node_of x)
  stored_from i x at xi ni d e f named (Some k) ke h = subst (λ (y : CellSeen). c.store i ≡ Some (node_of y)) (sym h) (over.kept i k ke).1
  stored_from i x at xi ni d e f named None ke h =
      let read = subst (λ (b : Option (List ℕ)). IsRead p.blocks b x) (over.meant i d e) h in
      e ∙ ap (λ (y : Node Value). Some y) (cell_named c.super.block_count (block_at image i) at d x (c.cells i d e) f named read.0)

  -- what the pool has under a name of the store is the store's
  pub stored_of : (at : Name) (x : CellSeen) → Stored c.store at → IsNamed at x → IsOf p x → IsStored c.store x
  stored_of at x (d, e, f) named is =
      stored_from x.id x at refl (sym named.id) d (subst (λ (i : ℕ). c.store i ≡ Some d) (sym named.id) e) f named (p.kept x.id) refl is

  pub stored_next : (key : ℕ) (before : Option CellSeen) (at : Name) → ((y : CellSeen) → before ≡ Some y → IsStored c.store y) → Follows root key before at → Stored c.store at
  stored_next key None at h f = subst (Stored c.store) (sym f) stored_root
  stored_next key (Some y) at h f = c.tree.named y.id (node_of y) at (h y refl) f.named

  all_stored : (key : ℕ) (before : Option CellSeen) (cells : List CellSeen) → ((y : CellSeen) → before ≡ Some y → IsStored c.store y) → Descends root key before cells → ((x : CellSeen) → Contains cells x → IsOf p x) → (x : CellSeen) → Contains cells x → IsStored c.store x
  all_stored key before [] h d of x has = absurd (nothing_in x has)
  all_stored key before (y ∷ cells) h d of x has =
      let (at, f, named) = d.0 in
      let here = stored_of at y (stored_next key before at h f) named (of y (Contains-append_left (y ∷ []) cells y (Contains-push [] y))) in
      elim (Contains-append_cases (y ∷ []) cells x has) [
        | inl is ↦ subst (IsStored c.store) (sym (only y x is)) here
        | inr is ↦ all_stored key (Some y) cells (λ z e. subst (IsStored c.store) (same_Some y z e) here) d.1 (λ z has_z. of z (Contains-append_right (y ∷ []) cells z has_z)) x is
      ]

  pub path_stored : (key : ℕ) (cells : List CellSeen) → Descends root key None cells → All (IsOf p) cells → (x : CellSeen) → Contains cells x → IsStored c.store x
  path_stored key cells d all = all_stored key None cells (λ y e. absurd (none-some y e)) d (λ x has. All-contains (IsOf p) cells x all has)

  over_kept : (new : PoolState) → Goes p new → (i : ℕ) (k : CellSeen) → new.kept i ≡ Some k → (p.kept i ≡ None → IsStored c.store k) → (o : Option CellSeen) → p.kept i ≡ o → (k.id ≡ i) × (c.store i ≡ Some (node_of k))
  over_kept new goes i k e stored (Some j) old =
      let same = same_Some j k (sym (goes.kept i j old) ∙ e) in
      subst (λ (y : CellSeen). (y.id ≡ i) × (c.store i ≡ Some (node_of y))) same (over.kept i j old)
  over_kept new goes i k e stored None old =
      let id = (goes.added i k e old).0 in
      (id, subst (λ (j : ℕ). c.store j ≡ Some (node_of k)) id (stored old))

  -- a pool stays over a content where it keeps cells of the store
  pub over_still : (new : PoolState) → Goes p new → ((i : ℕ) (k : CellSeen) → new.kept i ≡ Some k → p.kept i ≡ None → IsStored c.store k) → IsOver c root new
  over_still new goes stored = record {
    blocks = goes.blocks ∙ over.blocks;
    root_is = over.root_is;
    meant = λ i d e. goes.meant i ∙ over.meant i d e;
    kept = λ i k e. over_kept new goes i k e (stored i k e) (p.kept i) refl;
  }

  pub over_path : (key : ℕ) (new : PoolState) (cells : List CellSeen) → Goes p new → Descends root key None cells → All (IsOf p) cells → KeepsOnly p new cells → IsOver c root new
  over_path key new cells goes d all keeps = over_still new goes (λ i k e none. path_stored key cells d all k (keeps i k e none))

  sound_at : (at : Name) (fault : CellFault) (d : Node Value) → c.store at.id ≡ Some d → Fits at d → (o : Option CellSeen) → p.kept at.id ≡ o → FaultIs p.blocks at o (p.meant at.id) (Some fault) → ⊥
  sound_at at fault d e f (Some k) ke h =
      let same : d ≡ node_of k = same_Some d (node_of k) (sym e ∙ (over.kept at.id k ke).1) in
      let level = sym (level_is k) ∙ (ap (λ (y : Node Value). y.level) (sym same) ∙ f.level) in
      let lo = sym (lo_is k) ∙ (ap (λ (y : Node Value). y.lo) (sym same) ∙ f.lo) in
      let hi = sym (hi_is k) ∙ (ap (λ (y : Node Value). y.hi) (sym same) ∙ f.hi) in
      none-some fault (sym (placed at k level lo hi) ∙ sym h)
  sound_at at fault d e f None ke h =
      let is = c.cells at.id d e in
      let read : Some fault ≡ cell_fault false p.blocks at.level at.lo at.hi (block_at image at.id) = subst (λ (b : Option (List ℕ)). FaultIs p.blocks at None b (Some fault)) (over.meant at.id d e) h in
      let blocks = over.blocks in
      let level = f.level in
      let lo = f.lo in
      let hi = f.hi in
      let none : cell_fault false p.blocks at.level at.lo at.hi (block_at image at.id) ≡ None = rw (blocks, sym level, sym lo, sym hi) is.sound in
      none-some fault (sym none ∙ sym read)

  before_stored : (key : ℕ) (cells : List CellSeen) → ((x : CellSeen) → Contains cells x → IsStored c.store x) → (y : CellSeen) → last_of None cells ≡ Some y → IsStored c.store y
  before_stored key [] h y e = absurd (none-some y e)
  before_stored key (x ∷ cells) h y e = h y (last_in x cells y e)

  undamaged_on : (key : ℕ) (new : PoolState) (at : _) (fault : CellFault) → StopsOn root key p (Damaged at fault) new → ⊥
  undamaged_on key new at fault s =
      let (d, e, f) = stored_next key (last_of None s.cells) s.at (before_stored key s.cells (path_stored key s.cells s.descends s.are_of)) s.follows in
      sound_at s.at fault d e f (p.kept s.at.id) refl s.refused.1

  pub undamaged : (key : ℕ) (new : PoolState) (e : FetchFault) → Stops root key p e new → IsUndamaged e
  undamaged key new (Read at faults) s = tt
  undamaged key new (Damaged at fault) s = undamaged_on key new at fault s
  undamaged key new Memory s = tt

  pub over_stop : (key : ℕ) (new : PoolState) (e : FetchFault) → Goes p new → Stops root key p e new → IsOver c root new
  over_stop key new (Read at faults) goes s = over_path key new s.cells goes s.descends s.are_of s.only
  over_stop key new (Damaged at fault) goes s = over_path key new s.cells goes s.descends s.are_of s.only
  over_stop key new Memory goes s = over_path key new s.cells goes s.descends s.are_of s.only

-- nothing_in is found where an error is handed on
pub found_none : {T : Type 0} (P : T → Type 0) (r : Result T FetchFault) (e : FetchFault) → IsErrAnd r (λ y. y ≡ e) → IfOk r P
found_none {T} P (Ok x) e h = absurd h
found_none {T} P (Err y) e h = tt
