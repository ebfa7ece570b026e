-- In a run that names its beginning, the cells that a reading met are those of the session: they are a part of the tree
-- in memory, one led to by another from its root on.
use Rattle.std.proofs.Common.{◌≡◌, inl, inr, ⊎_elim, ℕ, zero, suc, ◌-◌, ◌<◌, ◌≤◌, false, List, Option, Some}
use Rattle.std.proofs.Common.{None}
use Rattle.std.proofs.Common.{Contains, refl, sym, ◌∙◌, ap, subst, arith}
use Rattle.std.specs.Option.{option_map}
use Rattle.std.proofs.lemmas.Bool.{cases_Bool}
use Rattle.r4_base.specs.Cell.{cell_of}
use Rattle.r4_base.specs.Image.{block_at}
use Rattle.r4_base.specs.Key.{rank}
use Rattle.r4_base.specs.Tree.{Fits, IsNode, IsTree, Name, Node}
use Rattle.r4_base.specs.Value.{Value}
use Rattle.r4_kept.specs.r4_buffer.Seen.{EntrySeen, buffered, is_captured}
use Rattle.r4_kept.specs.r4_cell.Patch.{HaveNames, NamesId, by_name, root_of_pair}
use Rattle.r4_kept.specs.r4_cell.Seen.{CellSeen, node_of}
use Rattle.r4_content.specs.Locality.{commands}
use Rattle.r4_content.specs.Meaning.{greatest_size}
use Rattle.r4_kept.specs.r4_durable.Meaning.{Beginning, IsNamed}
use Rattle.r4_outside.specs.Device.{State}
use Rattle.r4_kept.specs.r4_patch.Part.{IsPart}
use Rattle.r4_kept.proofs.r4_patch.Members.{distinct, found, there}
use Rattle.r4_kept.specs.r4_sets.Session.{Session}
use Rattle.r4_kept.proofs.r4_sets.Applied.{memory_stands}
use Rattle.r4_kept.specs.Kept.{HasStory, IsKept}
use Rattle.r4_kept.specs.Naming.{Naming, names_in}
use Rattle.r4_kept.specs.View.{CoreSeen}
use Rattle.r4_kept.proofs.Readable.{not_dirty}
use Rattle.r4_taking.specs.GoingOut.{IsMet, IsOnDisk}

-- ---- what a cell says of itself

pub says : (level lo hi : ℕ) (b : List ℕ) → ((cell_of level lo hi b).level ≡ level) × ((cell_of level lo hi b).lo ≡ lo)
    × ((cell_of level lo hi b).hi ≡ hi)
unfolding cell_of
says zero lo hi b = (refl, refl, refl)
says (suc l) lo hi b = (refl, refl, refl)

-- of one block, with one level and range, there is one node
pub record IsAlike (m n : Node Value) : Type 0 where
  pub level : m.level ≡ n.level
  pub lo : m.lo ≡ n.lo
  pub hi : m.hi ≡ n.hi

one_node : (m : Node Value) (x : CellSeen) (b : List ℕ) → IsAlike m (node_of x) → m ≡ cell_of m.level m.lo m.hi b
    → x.block ≡ b → m ≡ node_of x
one_node m x b alike is block =
    let own = says x.level (rank x.lo) (rank x.hi) x.block in
    is
    ∙ ap (λ (l : ℕ). cell_of l m.lo m.hi b) (alike.level ∙ own.0)
    ∙ ap (λ (l : ℕ). cell_of x.level l m.hi b) (alike.lo ∙ own.1)
    ∙ ap (λ (l : ℕ). cell_of x.level (rank x.lo) l b) (alike.hi ∙ own.2)
    ∙ ap (cell_of x.level (rank x.lo) (rank x.hi)) (sym block)

own_node : (y : CellSeen) (n : Node Value) → n ≡ node_of y → n ≡ cell_of n.level n.lo n.hi y.block
own_node y n is =
    let own = says y.level (rank y.lo) (rank y.hi) y.block in
    is
    ∙ ap (λ (l : ℕ). cell_of l (rank y.lo) (rank y.hi) y.block) (sym own.0 ∙ ap (λ (z : Node Value). z.level) (sym is))
    ∙ ap (λ (l : ℕ). cell_of n.level l (rank y.hi) y.block) (sym own.1 ∙ ap (λ (z : Node Value). z.lo) (sym is))
    ∙ ap (λ (l : ℕ). cell_of n.level n.lo l y.block) (sym own.2 ∙ ap (λ (z : Node Value). z.hi) (sym is))

module _ {D : Type 0} (r : Naming) (d : State) (c : CoreSeen D) (k : IsKept r d c) (sound : c.broken ≡ None)
    (met : List CellSeen) (are : (x : CellSeen) → Contains met x → IsMet d c x) (names : HaveNames met)
    (part : IsPart (by_name met) (root_of_pair c.tree)) (b : Beginning) (named : IsNamed (names_in r) d.blocks b) where
  abbrev h : HasStory r b d c
  h = k.story b named

  abbrev session : Session
  session = h.story.session

  tree : IsTree session.memory (root_of_pair c.tree)
  tree =
      subst (IsTree session.memory) h.means.root
      (memory_stands (commands greatest_size) session h.means.session.sets).is.tree

  -- ---- one that was read from the device

  held_node : (i : ℕ) (x : CellSeen) (o : Option EntrySeen) → buffered c.buffer i ≡ o
      → option_map (λ (e : EntrySeen). e.cell) o ≡ Some x → session.memory i ≡ Some (node_of x)
  held_node i x None at e = absurd (cc e)
  held_node i x (Some f) at e =
      let same : f.cell ≡ x = cc e in
      h.means.cells i f at ∙ ap (λ (y : CellSeen). Some (node_of y)) same

  read_node : (x : CellSeen) → IsOnDisk d c x → is_captured c.buffer x.id ≡ false → (m : Node Value)
      → session.memory x.id ≡ Some m → IsAlike m (node_of x) → m ≡ node_of x
  read_node x on free m at alike = by (buffered c.buffer x.id) refl
    where
      by : (o : Option EntrySeen) → buffered c.buffer x.id ≡ o → m ≡ node_of x
      by None none =
          let is = (h.means.clean sound x.id m at none).0 in
          one_node m x (block_at d.seen x.id) alike is.says (on.same h.means.reads)
      by (Some f) some =
          let same : node_of f.cell ≡ m = cc (sym (h.means.cells x.id f some) ∙ at) in
          let block = (k.cells.clean sound).same h.means.reads x.id f some (not_dirty c.buffer x.id f some free) in
          one_node m x f.cell.block alike (own_node f.cell m (sym same))
          (on.same h.means.reads ∙ sym block)

  one_of : (i : ℕ) (n : Node Value) → by_name met i ≡ Some n
      → ((m : Node Value) × (session.memory i ≡ Some m) × IsAlike m n) → session.memory i ≡ Some n
  one_of i n at alike =
      let f = found met i n at in
      let x = f.0 in
      let is = are x f.1 in
      let at_x : session.memory x.id ≡ Some (node_of x) =
      (elim (cases_Bool (is_captured c.buffer x.id)) [
        | inl held ↦ held_node x.id x (buffered c.buffer x.id) refl (is.captured held)
        | inr free ↦
            let there : session.memory x.id ≡ Some alike.0 = ap session.memory f.2 ∙ alike.1 in
            there
            ∙ ap Some (read_node x (is.on_disk free) free alike.0 there
            (subst (IsAlike alike.0) f.3 alike.2))
      ]) in
      ap session.memory (sym f.2) ∙ at_x ∙ ap Some (sym f.3)

  -- ---- from the root down

  fit_alike : (n : Name) (m q : Node Value) → Fits n m → Fits n q → IsAlike m q
  fit_alike n m q one two = record {
    level = one.level ∙ sym two.level;
    lo = one.lo ∙ sym two.lo;
    hi = one.hi ∙ sym two.hi;
  }

  some_same : (x y : Node Value) → Some x ≡ Some y → x ≡ y
  some_same x y e = cc e

  at_root : (i : ℕ) (n : Node Value) → by_name met i ≡ Some n → i ≡ c.tree.id.0
      → (m : Node Value) × (session.memory i ≡ Some m) × IsAlike m n
  at_root i n at is =
      let own : n ≡ part.root_node = some_same n part.root_node (sym at ∙ ap (by_name met) is ∙ part.root_is) in (
        tree.root_node,
        ap session.memory is ∙ tree.root_is,
        record {
          level = tree.root_level ∙ sym part.root_level ∙ ap (λ (z : Node Value). z.level) (sym own);
          lo = tree.root_lo ∙ sym part.root_lo ∙ ap (λ (z : Node Value). z.lo) (sym own);
          hi = tree.root_hi ∙ sym part.root_hi ∙ ap (λ (z : Node Value). z.hi) (sym own);
        },
      )

  lower : (q : Node Value) (n : Name) → Contains q.names n → IsNode q → n.level < q.level
  lower q n has node =
      ⊎_elim (λ pointer. let e = pointer.1 in omega (arith, e))
      (λ block. let e = block.0 in let z = block.1 in omega (arith, e, z)) (node.below n has)

  -- a cell that leads to another one, which is nearer to the leaves
  record Leads (i : ℕ) (n : Node Value) : Type 0 where
    pub from : ℕ
    pub node : Node Value
    pub at : by_name met from ≡ Some node
    pub nearer : c.tree.height - node.level < c.tree.height - n.level
    pub then : session.memory from ≡ Some node → session.memory i ≡ Some n

  leads : (i : ℕ) (n : Node Value) → by_name met i ≡ Some n → NamesId (by_name met) i → Leads i n
  leads i n at led =
      let q = led.1.1 in
      let above = part.none_above led.1.0 q led.1.2 in
      let below = lower q led.0 led.1.3 (part.nodes led.1.0 q led.1.2) in
      let fits = part.named led.1.0 q n led.0 led.1.2 led.1.3 (ap (by_name met) led.2 ∙ at) in
      let level = fits.level in
      record {
        from = led.1.0;
        node = q;
        at = led.1.2;
        nearer = omega (arith, above, below, level);
        then = λ parent.
            (let child = tree.named led.1.0 q led.0 parent led.1.3 in
            one_of i n at (child.0, ap session.memory (sym led.2) ∙ child.1, fit_alike led.0 child.0 n child.2 fits));
      }

  from_root : (fuel i : ℕ) (n : Node Value) → by_name met i ≡ Some n → c.tree.height - n.level ≤ fuel
      → session.memory i ≡ Some n
  from_root zero i n at le =
      ⊎_elim (λ is. one_of i n at (at_root i n at is))
      (λ led. let l = (leads i n at led).nearer in absurd (omega (arith, l, le))) (part.reached i n at)
  from_root (suc f) i n at le =
      ⊎_elim (λ is. one_of i n at (at_root i n at is))
      (λ led.
      (let l = leads i n at led in
      let near = l.nearer in
      l.then (from_root f l.from l.node l.at (omega (arith, near, le))))) (part.reached i n at)

  pub met_in_memory : (x : CellSeen) → Contains met x → session.memory x.id ≡ Some (node_of x)
  met_in_memory x has = from_root c.tree.height x.id (node_of x) (there met x (distinct met names) has) (omega arith)
