-- A parent over new cells: its row may stand in its place, and the cells that have it are a step of the change.
use Rattle.std.proofs.Common.{◌≡◌, inl, inr, ℕ, zero, suc, ◌+◌, ◌*◌, ◌^◌, ◌<◌, ◌≤◌, true, List, [], ◌∷◌, ◌++◌, length, map}
use Rattle.std.proofs.Common.{take, drop, refl, sym, ap, subst, ◌∙◌, arith}
use Rattle.std.specs.Prelude.{All, Contains, Some, None, slice_get}
use Rattle.std.proofs.lemmas.Bool.{cases_lt}
use Rattle.std.proofs.lemmas.List.{length-append}
use Rattle.std.proofs.lemmas.Option.{same_Some}
use Rattle.r4_base.specs.Cell.{cell_fault, names_in, spans_in, units_in}
use Rattle.r4_base.specs.Key.{rank}
use Rattle.r4_base.specs.Node.{Item, KeysRise, PluginsFit, items_of, level_of, mkfs_id_of}
use Rattle.r4_base.specs.declared.key.Key.{Key}
use Rattle.r4_patch.specs.r4_cell.declared.change.Fresh.{Fresh}
use Rattle.r4_base.proofs.Numbers.{length-number_bytes}
use Rattle.r4_patch.specs.r4_cell.Seen.{CellSeen, node_of}
use Rattle.r4_patch.proofs.r4_cell.NodesAt.{IsNodeAt, plugins_at}
use Rattle.r4_leaf.specs.r4_node40.Laid.{IsNode}
use Rattle.r4_leaf.specs.r4_node40.View.{view_block, view_items}
use Rattle.r4_leaf.proofs.r4_node40.Accepted.{good}
use Rattle.r4_patch.specs.Joining.{ids_of}
use Rattle.r4_path.specs.Levels.{HasRow, HaveMkfsIdOf, IsStepOver, IsUnder, units_of_cells}
use Rattle.r4_path.specs.Nodes.{IsPointable, pointer_item, weight, weight_of}
use Rattle.r4_path.specs.Rows.{row_items, row_level, row_more, with_pointers}
use Rattle.r4_path.specs.Sharing.{AreFilled, HasItems, IsRowOf, IsSound, Shares, items_of_cells}
use Rattle.r4_path.specs.Steps.{Follow, IsNameOf, IsStep, Step, name_of}
use Rattle.r4_path.specs.declared.row.Row.{Row}
use Rattle.r4_path.proofs.CellNodes.{names_are, spans_are}
use Rattle.r4_path.proofs.CellUnits.{own_units, units_parts}
use Rattle.r4_path.proofs.Cuts.{beside, both_parts}
use Rattle.r4_path.proofs.PointerNodes.{pointers_unit}
use Rattle.r4_path.proofs.Filling.{in_take}
use Rattle.r4_path.proofs.Finding.{Found, bodied, find, node_weighs, placed, put_behind, weighs_length}
use Rattle.r4_path.proofs.Lying.{Good}
use Rattle.r4_path.proofs.Parenting.{alike, in_naming, in_spanning, naming_in, sound_node, spanning_in}
use Rattle.r4_path.proofs.Replacing.{IsReplaced, named_now, named_then, row_between, row_fit, row_good, same_spans}
use Rattle.r4_path.proofs.RowPlaces.{get_drop, row_length}
use Rattle.r4_path.proofs.Rows.{Between, between_rise, rise_between, units_append}

-- ---- bodies that may stand in a node

abbrev pub AreBodied : List Item → Type 0
AreBodied xs = (k : ℕ) (x : Item) → slice_get xs k ≡ Some x → (1 ≤ length x.body) × (length x.body ≤ 4030)

bodied_append : (xs ys : List Item) → AreBodied xs → AreBodied ys → AreBodied (xs ++ ys)
bodied_append [] ys hx hy k x e = hy k x e
bodied_append (z ∷ zs) ys hx hy zero x e = hx zero x e
bodied_append (z ∷ zs) ys hx hy (suc k) x e = bodied_append zs ys (λ j. hx (suc j)) hy k x e

bodied_pointers : (cells : List CellSeen) → AreBodied (map pointer_item cells)
bodied_pointers [] k x e = absurd cc
bodied_pointers (c ∷ cells) zero x e = let long = length-number_bytes 8 c.id in
    let same = ap (λ (y : Item). length y.body) (same_Some (pointer_item c) x e) in
    (omega (arith, long, same), omega (arith, long, same))
bodied_pointers (c ∷ cells) (suc k) x e = bodied_pointers cells k x e

pub bodied_row : (items : List Item) (at : ℕ) (cells : List CellSeen) → AreBodied items
    → AreBodied (with_pointers items at cells)
bodied_row items at cells h =
    bodied_append (take (at + 1) items) (map pointer_item cells ++ drop (at + 1) items)
    (λ k x e. h k x (in_take (at + 1) items k x e))
    (bodied_append (map pointer_item cells) (drop (at + 1) items) (bodied_pointers cells)
    (λ k x e. h (at + 1 + k) x (sym (get_drop (at + 1) items k) ∙ e)))

-- ---- the parent

module _ (parent : CellSeen) (b : Step) (first : CellSeen) (rest : List CellSeen) (w : Row) (under : IsUnder b parent)
    (s : IsSound parent) (new : b.new ≡ first ∷ rest) (view : (view_block w.node).now ≡ parent.block)
    (more : row_more w ≡ drop 1 b.new)
    (below : (k : ℕ) (x : Item) → k < w.at → slice_get (view_items w.node) k ≡ Some x → rank x.key < rank b.old.lo)
    (here_at : (x : Item) → slice_get (view_items w.node) w.at ≡ Some x → rank b.old.lo ≤ rank x.key) where
  one : 1 ≤ parent.level
  one = let up = under.up in omega (arith, up)

  at : IsNodeAt true (2 ^ 64) parent.level (rank parent.lo) (rank parent.hi) parent.block
  at = sound_node parent one s

  node : IsNode parent.block
  node = (good parent.block s.whole at.accepted).0

  items : view_items w.node ≡ items_of parent.block
  items = ap items_of view

  names : (node_of parent).names ≡ names_in (suc b.old.level) (rank parent.hi) (items_of parent.block)
  names = names_are parent b.old.level under.up

  f : Found (rank parent.hi) (name_of b.old) (items_of parent.block)
  f = find (suc b.old.level) (rank parent.hi) (items_of parent.block) (name_of b.old) under.low
      (subst (λ ns. Contains ns (name_of b.old)) names under.named)

  between : Between (rank parent.lo) (rank parent.hi) (items_of parent.block)
  between = let range = under.range in
      rise_between parent.level (rank parent.lo) (rank parent.hi) 0 (items_of parent.block)
      (omega (arith, range)) node.keys at.items

  fit : PluginsFit parent.level (items_of parent.block)
  fit = plugins_at true (2 ^ 64) parent.level (rank parent.lo) (rank parent.hi) parent.block s.whole at

  rest_is : drop 1 b.new ≡ rest
  rest_is = ap (drop 1) new

  first_is : first.id ≡ b.old.id
  first_is = let e : ids_of (first ∷ rest)
      ≡ b.old.id ∷ ids_of (drop 1 b.new) = subst (λ xs. ids_of xs ≡ b.old.id ∷ ids_of (drop 1 b.new)) new under.first in cc

  replaced : IsReplaced parent.level b.old.level (rank parent.lo) (rank parent.hi) f.before f.p f.behind b.old first rest
  replaced = record {
    up = under.up;
    low = under.low;
    order = under.range;
    between = subst (Between (rank parent.lo) (rank parent.hi)) f.parts between;
    good = subst (Good parent.level (rank parent.lo) (rank parent.hi) 0) f.parts at.items;
    fit = subst (PluginsFit parent.level) f.parts fit;
    plugin = f.points.plugin;
    to = f.points.to;
    key = f.points.key;
    next = f.points.next;
    below = refl;
    follow = subst (Follow b.old.level (rank b.old.lo) (rank b.old.hi)) new under.ranges;
    first_id = first_is;
    able = subst (All (λ c. IsPointable c.id)) rest_is under.able;
  }

  place : w.at ≡ length f.before
  place = placed (rank parent.lo) (rank parent.hi) (rank b.old.lo) w.at f.before f.p f.behind replaced.between f.points.key
      (λ k x lt e. below k x lt (subst (λ xs. slice_get xs k ≡ Some x) (sym (items ∙ f.parts)) e))
      (λ x e. here_at x (subst (λ xs. slice_get xs w.at ≡ Some x) (sym (items ∙ f.parts)) e))

  abbrev the_row : List Item
  the_row = f.before ++ f.p ∷ (map pointer_item rest ++ f.behind)

  row_is : row_items w ≡ the_row
  row_is = ap (λ cells. with_pointers (view_items w.node) w.at cells) (more ∙ rest_is)
      ∙ put_behind (view_items w.node) f.before f.p f.behind w.at rest (items ∙ f.parts) place

  good_row : Good parent.level (rank parent.lo) (rank parent.hi) 0 the_row
  good_row = row_good parent.level b.old.level (rank parent.lo) (rank parent.hi) f.before f.p f.behind b.old first rest replaced

  level_is : row_level w ≡ parent.level
  level_is = ap level_of view ∙ at.level_is

  fits : weight (items_of parent.block) ≤ 4068
  fits = node_weighs parent.block node.laid

  few : length (row_more w) ≤ 44
  few = let n = under.few in let a = ap length (more ∙ rest_is) in let d = ap length new in omega (arith, n, a, d)

  fit_row : PluginsFit (row_level w) (row_items w)
  fit_row = subst (PluginsFit (row_level w)) (sym row_is)
      (subst (λ l. PluginsFit l the_row) (sym level_is)
      (row_fit parent.level b.old.level (rank parent.lo) (rank parent.hi) f.before f.p f.behind b.old first rest replaced))

  within : w.at < length (view_items w.node)
  within = let a = ap length (items ∙ f.parts) in let d = length-append f.before (f.p ∷ f.behind) in let p = place in
      omega (arith, a, d, p)

  pub parent_row : w.mkfs_id ≡ mkfs_id_of parent.block → IsRowOf parent w
  parent_row mkfs_id = record {
    row = record {
      within = within;
      few = let n = few in let a = ap length items in let d = weighs_length (items_of parent.block) in let m = fits in
          omega (arith, n, a, d, m);
      level = let head = node.head.level in let a = ap level_of view in (omega (arith, head, a), omega (arith, head, a));
      rise = subst KeysRise (sym row_is)
          (between_rise (rank parent.lo) (rank parent.hi) the_row
          (row_between parent.level b.old.level (rank parent.lo)
          (rank parent.hi) f.before f.p f.behind b.old first rest replaced));
      fit = fit_row;
      bodies = bodied_row (view_items w.node) w.at (row_more w)
          (λ k x e. bodied parent.block node.laid k x (subst (λ xs. slice_get xs k ≡ Some x) items e));
    };
    narrow = record {
      fits = let m = fits in let a = ap weight items in omega (arith, m, a);
      few = let n = few in omega (arith, n);
      alike = λ high. subst (All (λ x. weight_of x ≡ 46)) (sym row_is)
          (alike parent.level (rank parent.lo) (rank parent.hi) 0 the_row (let l = level_is in omega (arith, high, l))
          (row_fit parent.level b.old.level (rank parent.lo)
          (rank parent.hi) f.before f.p f.behind b.old first rest replaced) good_row);
    };
    level = sym level_is;
    branch = let up = under.up in let low = under.low in omega (arith, up, low);
    range = under.range;
    some = let a = row_length (view_items w.node) w.at (row_more w) within in let n = within in omega (arith, a, n);
    good = subst (Good parent.level (rank parent.lo) (rank parent.hi) 0) (sym row_is) good_row;
    mkfs_id = mkfs_id;
  }

  -- what the row weighs
  pub row_weighs : weight (row_items w) ≡ weight (items_of parent.block) + 46 * length rest
  row_weighs =
      let b = (beside (view_items w.node) w.at (row_more w) within) in
      let whole = b.whole in
      let parts = b.items_weigh in
      let same = ap weight items in
      let n = ap length (more ∙ rest_is) in
      omega (arith, whole, parts, same, n)

  -- ---- the step

  module _ (next : ℕ) (cells : List CellSeen) (has : HasItems parent (row_items w) next cells) where
    follow : Follow (suc b.old.level) (rank parent.lo) (rank parent.hi) cells
    follow = subst (λ l. Follow l (rank parent.lo) (rank parent.hi) cells) under.up has.ranges

    all_items : items_of_cells cells ≡ the_row
    all_items = has.items_are ∙ row_is

    level_names : (xs : List Item) → names_in (suc b.old.level) (rank parent.hi) xs ≡ names_in parent.level (rank parent.hi) xs
    level_names xs = ap (λ l. names_in l (rank parent.hi) xs) (sym under.up)

    old_named : (node_of parent).names ≡ names_in parent.level (rank parent.hi) (f.before ++ f.p ∷ f.behind)
    old_named = names ∙ (level_names (items_of parent.block) ∙ ap (names_in parent.level (rank parent.hi)) f.parts)

    new_named : names_in (suc b.old.level) (rank parent.hi) (items_of_cells cells)
        ≡ names_in parent.level (rank parent.hi) the_row
    new_named = level_names (items_of_cells cells) ∙ ap (names_in parent.level (rank parent.hi)) all_items

    pub parent_rows : HasRow b (record { old = parent; new = cells })
    parent_rows = record {
      before = f.before;
      pointer = f.p;
      behind = f.behind;
      was = f.parts;
      plugin = f.points.plugin;
      to = f.points.to;
      now = all_items ∙ ap (λ (more : List CellSeen). f.before ++ f.p ∷ (map pointer_item more ++ f.behind)) (sym rest_is);
    }

    pub parent_step : IsStep (Some b) (record { old = parent; new = cells })
    parent_step = record {
      first = has.first;
      ranges = has.ranges;
      names = λ n. (
        (λ h. elim (named_now parent.level b.old.level (rank parent.lo)
            (rank parent.hi) f.before f.p f.behind b.old first rest replaced n
            (subst (λ ns. Contains ns n) new_named
            (naming_in b.old.level under.low (rank parent.lo) (rank parent.hi) cells follow has.sound n h))) [
              | inl old ↦ inl (subst (λ ns. Contains ns n) (sym old_named) old.0, old.1)
              | inr mine ↦ inr (subst (λ xs. IsNameOf xs n) (sym new) mine)
            ]),
        (λ h. in_naming b.old.level under.low (rank parent.lo) (rank parent.hi) cells follow has.sound n
            (subst (λ ns. Contains ns n) (sym new_named)
            (named_then parent.level b.old.level (rank parent.lo)
            (rank parent.hi) f.before f.p f.behind b.old first rest replaced n (elim h [
              | inl old ↦ inl (subst (λ ns. Contains ns n) old_named old.0, old.1)
              | inr mine ↦ inr (subst (λ xs. IsNameOf xs n) new mine)
            ])))),
      );
      spans = λ v. (
        (λ h. subst (λ ss. Contains ss v) (sym all_spans)
            (spanning_in b.old.level under.low (rank parent.lo) (rank parent.hi) cells follow has.sound v h)),
        (λ h. in_spanning b.old.level under.low (rank parent.lo) (rank parent.hi) cells follow has.sound v
            (subst (λ ss. Contains ss v) all_spans h)),
      );
    }
      where
        all_spans : (node_of parent).spans ≡ spans_in (rank parent.hi) (items_of_cells cells)
        all_spans = spans_are parent b.old.level under.up
            ∙ (ap (spans_in (rank parent.hi)) f.parts
            ∙ (sym (same_spans parent.level b.old.level (rank parent.lo)
            (rank parent.hi) f.before f.p f.behind b.old first rest replaced) ∙ ap (spans_in (rank parent.hi)) (sym all_items)))

pub some_new : (cells : List CellSeen) (x : ℕ) (xs : List ℕ) → ids_of cells ≡ x ∷ xs → (first : CellSeen)
    × (rest : List CellSeen) × (cells ≡ first ∷ rest)
some_new [] x xs e = absurd cc
some_new (c ∷ cells) x xs e = (c, cells, refl)

pub long_new : (cells : List CellSeen) (x : ℕ) (xs : List ℕ) → ids_of cells ≡ x ∷ xs → 1 ≤ length cells
long_new [] x xs e = absurd cc
long_new (c ∷ cells) x xs e = omega arith

-- ---- pointers that come bring no units

pub row_units : (items : List Item) (at : ℕ) (cells : List CellSeen) → units_in (with_pointers items at cells) ≡ units_in items
row_units items at cells =
    units_append (take (at + 1) items) (map pointer_item cells ++ drop (at + 1) items)
    ∙ (ap (λ us. units_in (take (at + 1) items) ++ us)
    (units_append (map pointer_item cells) (drop (at + 1) items)
    ∙ ap (λ us. us ++ units_in (drop (at + 1) items)) (pointers_unit cells))
    ∙ (sym (units_append (take (at + 1) items) (drop (at + 1) items)) ∙ ap units_in (sym (both_parts (at + 1) items))))

pub shared_units : (o : CellSeen) (its : List Item) (next : ℕ) (cells : List CellSeen) → 1 ≤ o.level
    → HasItems o its next cells → units_in its ≡ units_in (items_of o.block) → units_of_cells cells ≡ (node_of o).units
shared_units o its next cells one has same = units_parts o.level (rank o.lo) (rank o.hi) cells one has.ranges
    ∙ (ap units_in has.items_are ∙ (same ∙ sym (own_units o one)))

-- ---- as the code has it: the parent was lent, and a key is the cell's

pub record Looks (parent : CellSeen) (b : Step) (p q : CellSeen) (w : Row) (key : Key) : Type 0 where
  pub under : IsUnder b parent
  pub p_is : p ≡ parent
  pub q_is : q ≡ parent
  pub key_is : key ≡ b.old.lo
  pub view : (view_block w.node).now ≡ p.block
  pub whole : length p.block ≡ 4096
  pub accepted : cell_fault true (2 ^ 64) p.level (rank p.lo) (rank p.hi) p.block ≡ None
  pub mkfs_id : w.mkfs_id ≡ mkfs_id_of p.block
  pub more : row_more w ≡ drop 1 b.new
  pub below : (k : ℕ) (x : Item) → k < w.at → slice_get (view_items w.node) k ≡ Some x → rank x.key < rank key
  pub here_at : (x : Item) → slice_get (view_items w.node) w.at ≡ Some x → rank key ≤ rank x.key

module _ (parent : CellSeen) (b : Step) (p q : CellSeen) (w : Row) (key : Key) (looks : Looks parent b p q w key) where
  sound_parent : IsSound parent
  sound_parent = subst IsSound looks.p_is (record { whole = looks.whole; accepted = looks.accepted })

  view_parent : (view_block w.node).now ≡ parent.block
  view_parent = looks.view ∙ ap (λ (c : CellSeen). c.block) looks.p_is

  key_below : (k : ℕ) (x : Item) → k < w.at → slice_get (view_items w.node) k ≡ Some x → rank x.key < rank b.old.lo
  key_below k x lt e = subst (λ y. rank x.key < rank y) looks.key_is (looks.below k x lt e)

  key_here : (x : Item) → slice_get (view_items w.node) w.at ≡ Some x → rank b.old.lo ≤ rank x.key
  key_here x e = subst (λ y. rank y ≤ rank x.key) looks.key_is (looks.here_at x e)

  pub over_row : IsRowOf q w
  over_row =
      let (first, rest, new) = some_new b.new b.old.id (ids_of (drop 1 b.new)) looks.under.first in
      subst (λ x. IsRowOf x w) (sym looks.q_is)
      (parent_row parent b first rest w looks.under sound_parent new view_parent looks.more key_below key_here
      (looks.mkfs_id ∙ ap (λ (c : CellSeen). mkfs_id_of c.block) looks.p_is))

  few_of : (n : ℕ) → (weight (row_items w) ≤ 4068 → n ≡ 1) → (4068 < weight (row_items w) → n ≡ 2) → n ≤ 2
  few_of n one two = elim (cases_lt 4068 (weight (row_items w))) [
    | inl over ↦ let e = two over in omega (arith, e)
    | inr fits ↦ let e = one fits in omega (arith, e)
  ]

  pub over_step : (f g : Fresh) (old : CellSeen) (cells : List CellSeen) → old ≡ parent → Shares q (row_items w) f g cells
      → IsStepOver b parent f g (record { old = old; new = cells })
  over_step f g old cells same shares =
      let (first, rest, new) = some_new b.new b.old.id (ids_of (drop 1 b.new)) looks.under.first in
      let has : HasItems parent (row_items w) f.next cells = subst
      (λ x. HasItems x (row_items w) f.next cells) looks.q_is shares.has in
      let weighs = row_weighs parent b first rest w looks.under sound_parent new view_parent looks.more key_below key_here in
      let n = ap (λ (xs : List CellSeen). length (drop 1 xs)) new in
      record {
        old = same;
        step = subst (λ x. IsStep (Some b) (record { old = x; new = cells })) (sym same)
            (parent_step parent b first rest w looks.under sound_parent new view_parent looks.more key_below key_here f.next cells has);
        sound = has.sound;
        counts = has.fresh;
        number = shares.number;
        one = λ fits. shares.few.0 (omega (arith, weighs, n, fits));
        two = λ over. shares.few.1 (omega (arith, weighs, n, over));
        keeps = record {
          few = few_of (length cells) (λ fits. shares.few.0 fits) (λ over. shares.few.1 over);
          units = subst (λ x. units_of_cells cells ≡ (node_of x).units) (sym same)
              (shared_units parent (row_items w) f.next cells (let up = looks.under.up in omega (arith, up)) has
              (row_units (view_items w.node) w.at (row_more w) ∙ ap (λ bytes. units_in (items_of bytes)) view_parent));
          filled = λ high. subst (λ l. 3 ≤ l → length cells ≡ 2 → AreFilled cells)
              (ap (λ (x : CellSeen). x.level) (looks.q_is ∙ sym same)) shares.filled high;
        };
        mkfs_id = subst (λ x. HaveMkfsIdOf x cells) (sym same) has.mkfs_id;
        row = subst (λ x. HasRow b (record { old = x; new = cells })) (sym same)
            (parent_rows parent b first rest w looks.under sound_parent new view_parent looks.more key_below key_here f.next cells has);
      }
