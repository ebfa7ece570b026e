-- An image has one tree and one content.
use Rattle.std.specs.Prelude.{◌≡◌, ℕ, zero, suc, ◌+◌, ◌<◌, ◌≤◌, List, Contains, Option, Some, None, Result, Ok, Err}
use mathlib.Core.Path.{refl, sym, ap, subst, ◌∙◌}
use mathlib.Core.Logic.{inl, inr}
use native.Mathlib.Omega.{arith}
use Rattle.r4_base.specs.Image.{Image, block_at, put_pairs}
use Rattle.r4_base.specs.Chain.{Txn, chain_pairs}
use Rattle.r4_base.specs.Key.{key_of_rank}
use Rattle.r4_base.specs.Value.{Value, Content, at_key}
use Rattle.r4_base.specs.Tree.{Name, Node, Store, Root, Fits, IsTree, UnitAt}
use Rattle.r4_base.specs.Cell.{IsCellOf, cell_of}
use Rattle.r4_base.specs.Volume.{HasContent, HasVolume, IsPadding, root_of}
use Rattle.r4_base.specs.declared.superblock.Super40.{Super40}
use Rattle.r4_base.specs.declared.superblock.LayoutFault.{LayoutFault}
use Rattle.r4_base.proofs.Logs.{one_log}
use Rattle.r4_base.proofs.Trees.{one_cell, has_parent}
use Rattle.r4_base.proofs.Contents.{then_iff, back_iff, decided}

-- a block is read as one cell, at a level and for a range
read_once : (blocks : ℕ) (b : List ℕ) (c d : Node Value) → c.level ≡ d.level → c.lo ≡ d.lo → c.hi ≡ d.hi → IsCellOf blocks b c → IsCellOf blocks b d → c ≡ d
read_once blocks b c d lv lo hi g h = g.says ∙ (λ i. cell_of (lv i) (lo i) (hi i) b) ∙ sym h.says

-- The cells of a store are what their blocks say.
pub record ReadsAs (blocks : ℕ) (image : Image) (t : Store Value) (root : Root) : Type 0 where
  pub tree : IsTree t root
  pub cells : (i : ℕ) (c : Node Value) → t i ≡ Some c → IsCellOf blocks (block_at image i) c

module _ (blocks : ℕ) (image : Image) (t u : Store Value) (root : Root) (it : ReadsAs blocks image t root) (iu : ReadsAs blocks image u root) where
  alike : (i : ℕ) (c d : Node Value) → t i ≡ Some c → u i ≡ Some d → c.level ≡ d.level → c.lo ≡ d.lo → c.hi ≡ d.hi → c ≡ d
  alike i c d tc ud lv lo hi = read_once blocks (block_at image i) c d lv lo hi (it.cells i c tc) (iu.cells i d ud)

  at_root : (i : ℕ) (c : Node Value) → t i ≡ Some c → i ≡ root.id → u i ≡ Some c
  at_root i c tc e =
      let v = iu.tree.root_node in
      let w = it.tree.root_node in
      let cw : c ≡ w = one_cell t root.id c w (subst (λ x. t x ≡ Some c) e tc) it.tree.root_is in
      let same : w ≡ v = alike root.id w v it.tree.root_is iu.tree.root_is (it.tree.root_level ∙ sym iu.tree.root_level) (it.tree.root_lo ∙ sym iu.tree.root_lo) (it.tree.root_hi ∙ sym iu.tree.root_hi) in
      subst (λ x. u x ≡ Some c) (sym e) (iu.tree.root_is ∙ ap Some (sym same ∙ sym cw))

  under : (i : ℕ) (c : Node Value) → t i ≡ Some c → (j : ℕ) (d : Node Value) (x : Name) → t j ≡ Some d → Contains d.names x → x.id ≡ i → u j ≡ Some d → u i ≡ Some c
  under i c tc j d x td dx e ud =
      let (b, tb, f) = it.tree.named j d x td dx in
      let (v, uv, g) = iu.tree.named j d x ud dx in
      let bc : b ≡ c = one_cell t i b c (subst (λ y. t y ≡ Some b) e tb) tc in
      let fc = subst (Fits x) bc f in
      let ui : u i ≡ Some v = subst (λ y. u y ≡ Some v) e uv in
      let same : c ≡ v = alike i c v tc ui (fc.level ∙ sym g.level) (fc.lo ∙ sym g.lo) (fc.hi ∙ sym g.hi) in
      ui ∙ ap Some (sym same)

  higher : (i : ℕ) (c : Node Value) → t i ≡ Some c → (j : ℕ) (d : Node Value) (x : Name) → t j ≡ Some d → Contains d.names x → x.id ≡ i → c.level < d.level
  higher i c tc j d x td dx e =
      let (b, tb, f) = it.tree.named j d x td dx in
      let bc : b ≡ c = one_cell t i b c (subst (λ y. t y ≡ Some b) e tb) tc in
      let lv : c.level ≡ x.level = ap (λ y. y.level) (sym bc) ∙ f.level in
      elim ((it.tree.nodes j d td).below x dx) [ inl h ↦ omega (arith, h, lv) | inr h ↦ omega (arith, h, lv) ]

  -- from the root down
  also : (n i : ℕ) (c : Node Value) → t i ≡ Some c → root.height ≤ n + c.level → u i ≡ Some c
  also zero i c tc far = elim (has_parent t root it.tree i c tc) [
    | inl e ↦ at_root i c tc e
    | inr h ↦ let (j, d, x, td, dx, e) = h in absurd (let q = higher i c tc j d x td dx e in let w = it.tree.none_above j d td in omega (arith, q, w, far))
  ]
  also (suc n) i c tc far = elim (has_parent t root it.tree i c tc) [
    | inl e ↦ at_root i c tc e
    | inr h ↦ let (j, d, x, td, dx, e) = h in under i c tc j d x td dx e (also n j d td (let q = higher i c tc j d x td dx e in omega (arith, q, far)))
  ]

  pub same_cell : (i : ℕ) (c : Node Value) → t i ≡ Some c → u i ≡ Some c
  same_cell i c tc = also root.height i c tc (omega arith)

same_node_option : (o p : Option (Node Value)) → ((c : Node Value) → o ≡ Some c → p ≡ Some c) → ((c : Node Value) → p ≡ Some c → o ≡ Some c) → o ≡ p
same_node_option (Some c) p f g = sym (f c refl)
same_node_option None (Some c) f g = g c refl
same_node_option None None f g = refl

pub one_tree : (blocks : ℕ) (image : Image) (t u : Store Value) (root : Root) → ReadsAs blocks image t root → ReadsAs blocks image u root → t ≡ u
one_tree blocks image t u root it iu = λ j i. same_node_option (t i) (u i) (same_cell blocks image t u root it iu i) (same_cell blocks image u t root iu it i) j

pub same_Ok : (s u : Super40) → ◌≡◌ {A = Result Super40 LayoutFault} (Ok s) (Ok u) → s ≡ u
same_Ok s u e = ap (λ (r : Result Super40 LayoutFault). elim r as (λ _. Super40) [ Ok x ↦ x | Err f ↦ s ]) e

module _ (n : ℕ) (image : Image) (m o : Content) (c : HasContent n image m) (d : HasContent n image o) where
  pub one_super : c.super ≡ d.super
  one_super = same_Ok c.super d.super (sym c.layout.format ∙ d.layout.format)

  second : ReadsAs c.super.block_count image d.store (root_of c.super)
  second = subst (λ (s : Super40). ReadsAs s.block_count image d.store (root_of s)) (sym one_super) (record { tree = d.tree; cells = d.cells })

  pub one_store : c.store ≡ d.store
  one_store = one_tree c.super.block_count image c.store d.store (root_of c.super) (record { tree = c.tree; cells = c.cells }) second

  one_raw : c.raw ≡ d.raw
  one_raw = decided c.raw d.raw (λ k v. then_iff (c.units k v) (then_iff (λ x. subst (λ s. UnitAt s k v) one_store x, λ x. subst (λ s. UnitAt s k v) (sym one_store) x) (back_iff (d.units k v))))

  pub one_content : m ≡ o
  one_content = decided m o (λ k v. then_iff (c.visible k v) (then_iff
      (λ x. subst (λ (r : Content). (at_key r k ≡ Some v) × (IsPadding r (key_of_rank k) v → ⊥)) one_raw x, λ x. subst (λ (r : Content). (at_key r k ≡ Some v) × (IsPadding r (key_of_rank k) v → ⊥)) (sym one_raw) x)
      (back_iff (d.visible k v))))

pub one_volume : (n : ℕ) (image : Image) (m o : Content) → HasVolume n image m → HasVolume n image o → m ≡ o
one_volume n image m o v w =
    let same : v.chain ≡ w.chain = one_log n image v.chain w.chain v.log w.log in
    one_content n (put_pairs (chain_pairs w.chain) image) m o (subst (λ (l : List Txn). HasContent n (put_pairs (chain_pairs l) image) m) same v.content) w.content
