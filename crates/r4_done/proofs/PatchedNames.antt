-- A change is made in memory, of a part of a tree of which other cells may have changed since: what names the numbers of
-- new cells then. The part has each old cell, and those are in memory still that name such a number.
use Rattle.std.proofs.Common.{◌≡◌, ◌⊎◌, inl, inr, ⊎_elim, ℕ, ◌<◌, ◌≤◌, ◌^◌, Option, Some, None, Contains, refl, sym}
use Rattle.std.proofs.Common.{◌∙◌, ap, subst, arith}
use Rattle.std.specs.Option.{unwrap_or}
use Rattle.r4_base.proofs.Trees.{not_both, one_cell}
use Rattle.r4_base.specs.Tree.{InName, IsNode, Name, Node, Root, Store}
use Rattle.r4_base.specs.Value.{Value}
use Rattle.r4_taking.specs.r4_buffer.Seen.{BufferSeen}
use Rattle.r4_taking.specs.r4_cell.Patch.{IsPatch, Patch, over, place, root_after}
use Rattle.r4_counted.specs.r4_patch.Part.{IsPart, MeetsPart}
use Rattle.r4_counted.proofs.r4_patch.PartCells.{in_namer, named_once, root_unnamed}
use Rattle.r4_counted.proofs.r4_patch.Placed.{over_kept, over_new, placed_part, some_or_none, still_there}
use Rattle.r4_taking.specs.r4_kept.Cells.{AreNamedOnce, NamesAt}

-- what it says of a cell's level that it names a name
namer_level : (c d : Node Value) (n : Name) → IsNode c → IsNode d → Contains c.names n → Contains d.names n
    → c.level ≡ d.level
namer_level c d n one two has also =
    ⊎_elim (λ h. ⊎_elim (λ g. omega (arith, h, g)) (λ g. omega (arith, h, g)) (two.below n also))
    (λ h. ⊎_elim (λ g. omega (arith, h, g)) (λ g. omega (arith, h, g)) (two.below n also)) (one.below n has)

namer_high : (c : Node Value) (n : Name) → IsNode c → Contains c.names n → 1 ≤ c.level
namer_high c n one has = ⊎_elim (λ h. omega (arith, h)) (λ h. omega (arith, h)) (one.below n has)

-- a new cell of this number names that
pub record NewNames (p : Patch Value) (i : ℕ) (n : Name) : Type 0 where
  pub node : Node Value
  pub at : p.new i ≡ Some node
  pub among : Contains node.names n

-- a cell in memory does that is none of the old ones
pub record StillNames (b : BufferSeen) (p : Patch Value) (i : ℕ) (n : Name) : Type 0 where
  pub names : NamesAt b i n
  pub kept : p.old i ≡ None

-- a cell of the part names this number, and is no old one
record IsParentLeft (p : Patch Value) (t : Store Value) (to : ℕ) : Type 0 where
  pub from : ℕ
  pub node : Node Value
  pub name : Name
  pub at : t from ≡ Some node
  pub among : Contains node.names name
  pub is : name.id ≡ to
  pub kept : p.old from ≡ None

module _ (b : BufferSeen) (p : Patch Value) (t : Store Value) (top : Root) (tree : ℕ)
    (is : IsPatch p) (part : IsPart t top) (meets : MeetsPart p t top) (once : AreNamedOnce b tree)
    (top_is : (o : Node Value) → p.old top.id ≡ Some o → top.id ≡ tree)
    (olds : (i : ℕ) (o : Node Value) (n : Name) → p.old i ≡ Some o → Contains o.names n → 2 ^ 63 ≤ n.id
    → NamesAt b i n) where
  -- ---- what names an old cell

  left_if : (to i : ℕ) (c : Node Value) (n : Name) → t i ≡ Some c → Contains c.names n → n.id ≡ to → 2 ^ 63 ≤ to
      → ((o : Node Value) → p.old i ≡ Some o → NamesAt b i n → ⊥) → IsParentLeft p t to
  left_if to i c n at has named high none = ⊎_elim
      (λ h.
      (let (o, old) = h in
      let same : o ≡ c = one_cell t i o c (meets.meets.has_old i o old) at in
      absurd (none o old (olds i o n old (subst (λ (z : Node Value). Contains z.names n) (sym same) has)
      (subst (λ (j : ℕ). 2 ^ 63 ≤ j) (sym named) high)))))
      (λ kept. record {
        from = i;
        node = c;
        name = n;
        at = at;
        among = has;
        is = named;
        kept = kept;
      })
      (some_or_none (p.old i))

  -- one that is named from elsewhere has a parent that is left
  parent_left : (i : ℕ) (n : Name) → StillNames b p i n → 2 ^ 63 ≤ n.id → (o : Node Value) → p.old n.id ≡ Some o
      → IsParentLeft p t n.id
  parent_left i n x high o old = ⊎_elim
      (λ is_top.
      (let same : n.id ≡ tree = is_top
      ∙ top_is o (subst (λ (j : ℕ). p.old j ≡ Some o) is_top old) in
      absurd (once.not_root i n x.names same (subst (λ (j : ℕ). 2 ^ 63 ≤ j) same high))))
      (λ named.
      (let (m, (j, c, at, has), to) = named in
      left_if n.id j c m at has to high (λ d there y.
      (let one : i ≡ j = (once.once i j n m x.names y (sym to) high).0 in
      not_both p.old j d (subst (λ (k : ℕ). p.old k ≡ None) one x.kept) there))))
      (part.reached n.id o (meets.meets.has_old n.id o old))

  -- so has one of the root's number, unless it is the root of the part
  root_parent : 2 ^ 63 ≤ tree → (o : Node Value) → p.old tree ≡ Some o → (tree ≡ top.id) ⊎ IsParentLeft p t tree
  root_parent high o old = ⊎_elim inl
      (λ named.
      (let (m, (j, c, at, has), to) = named in
      inr (left_if tree j c m at has to high (λ d there y. once.not_root j m y to high))))
      (part.reached tree o (meets.meets.has_old tree o old))

  left_has_new : (to : ℕ) → IsParentLeft p t to → (o : Node Value) → p.old to ≡ Some o
      → (d : Node Value) × (p.new to ≡ Some d)
  left_has_new to l o old =
      let (d, now, fits) = still_there p t top is part meets.meets l.from l.node o l.name l.at l.among l.kept
      (subst (λ (j : ℕ). p.old j ≡ Some o) (sym l.is) old) in
      (d, subst (λ (j : ℕ). p.new j ≡ Some d) l.is now)

  left_not_new : (to : ℕ) (l : IsParentLeft p t to) (c : Node Value) → p.new l.from ≡ Some c → ⊥
  left_not_new to l c now = not_both t l.from l.node (meets.meets.free l.from c now l.kept) l.at

  -- an old cell that a cell names which is left has a new one in its place
  pub has_new : (i : ℕ) (n : Name) → StillNames b p i n → 2 ^ 63 ≤ n.id → (o : Node Value) → p.old n.id ≡ Some o
      → (d : Node Value) × (p.new n.id ≡ Some d)
  has_new i n x high o old = left_has_new n.id (parent_left i n x high o old) o old

  -- ---- the part with the change in place

  placed : IsPart (place p t) (root_after p top)
  placed = placed_part p t top is part meets.meets meets.unnamed

  new_there : (i : ℕ) (c : Node Value) → p.new i ≡ Some c → place p t i ≡ Some c
  new_there i c now = over_new (p.new i) (p.old i) (t i) c now

  left_there : (to : ℕ) (l : IsParentLeft p t to) → place p t l.from ≡ Some l.node
  left_there to l =
      over_kept (p.new l.from) (p.old l.from) (t l.from) l.node (λ d now. left_not_new to l d now) l.kept l.at

  -- no new cell names what one names that is left and has a new cell
  not_with_left : (to : ℕ) (l : IsParentLeft p t to) (d : Node Value) → p.new to ≡ Some d → (i : ℕ) (n : Name)
      → NewNames p i n → n.id ≡ to → ⊥
  not_with_left to l d now i n x same =
      let one = (named_once (place p t) (root_after p top) placed l.from i to l.node x.node d l.name n (left_there to l)
      (new_there i x.node x.at) l.among x.among (new_there to d now) l.is same).0 in
      left_not_new to l x.node (subst (λ (j : ℕ). p.new j ≡ Some x.node) (sym one) x.at)

  -- what a new cell names is a new one, or an old cell named it
  record WasNamed (n : Name) : Type 0 where
    pub from : ℕ
    pub node : Node Value
    pub old : p.old from ≡ Some node
    pub among : Contains node.names n
    pub kept : p.old n.id ≡ None

  named_cases : (i : ℕ) (n : Name) → NewNames p i n → ((d : Node Value) × (p.new n.id ≡ Some d)) ⊎ WasNamed n
  named_cases i n x = ⊎_elim
      (λ fits. (let (d, now, fit) = fits in inl (d, now)))
      (λ kept.
      (let (none, (j, o, old, has)) = kept in
      inr (record { from = j; node = o; old = old; among = has; kept = none })))
      (is.named n (i, x.node, x.at, x.among))

  was_named : (n : Name) → 2 ^ 63 ≤ n.id → (w : WasNamed n) → NamesAt b w.from n
  was_named n high w = olds w.from w.node n w.old w.among high

  -- ---- no number is named twice

  once_new : (i j : ℕ) (n m : Name) → NewNames p i n → NewNames p j m → n.id ≡ m.id → 2 ^ 63 ≤ n.id → (i ≡ j) × (n ≡ m)
  once_new i j n m x y same high = ⊎_elim
      (λ fits.
      named_once (place p t) (root_after p top) placed i j n.id x.node y.node fits.0 n m (new_there i x.node x.at)
      (new_there j y.node y.at) x.among y.among (new_there n.id fits.0 fits.1) refl (sym same))
      (λ v. ⊎_elim
      (λ fits.
      named_once (place p t) (root_after p top) placed i j m.id x.node y.node fits.0 n m (new_there i x.node x.at)
      (new_there j y.node y.at) x.among y.among (new_there m.id fits.0 fits.1) same refl)
      (λ w.
      (let high_too : 2 ^ 63 ≤ m.id = subst (λ (k : ℕ). 2 ^ 63 ≤ k) same high in
      let one : n ≡ m = (once.once v.from w.from n m (was_named n high v) (was_named m high_too w) same high).1 in
      (both_name i j n x (subst (NewNames p j) (sym one) y), one)))
      (named_cases j m y))
      (named_cases i n x)
    where
      both_name : (i j : ℕ) (n : Name) → NewNames p i n → NewNames p j n → i ≡ j
      both_name i j n x y =
          let one = is.nodes i x.node x.at in
          let two = is.nodes j y.node y.at in
          let some = one.name_nonempty n x.among in
          let inside : InName n n.lo = (omega arith, some) in
          is.apart i j x.node y.node n.lo x.at y.at (namer_level x.node y.node n one two x.among y.among)
          (namer_high x.node n one x.among) (in_namer x.node n n.lo one x.among inside)
          (in_namer y.node n n.lo two y.among inside)

  module _ (free : (i j : ℕ) (c : Node Value) (n : Name) → p.new i ≡ Some c → p.old i ≡ None → NamesAt b j n
      → n.id ≡ i → 2 ^ 63 ≤ i → ⊥) where
    apart_new : (i j : ℕ) (n m : Name) → NewNames p i n → StillNames b p j m → n.id ≡ m.id → 2 ^ 63 ≤ m.id → ⊥
    apart_new i j n m x y same high = ⊎_elim
        (λ fits.
        (let now : p.new m.id ≡ Some fits.0 = subst (λ (k : ℕ). p.new k ≡ Some fits.0) same fits.1 in
        ⊎_elim
        (λ h.
        not_with_left m.id (parent_left j m y high h.0 h.1) fits.0 now i n x same)
        (λ none. free m.id j fits.0 m now none y.names refl high)
        (some_or_none (p.old m.id))))
        (λ w.
        (let high_too : 2 ^ 63 ≤ n.id = subst (λ (k : ℕ). 2 ^ 63 ≤ k) (sym same) high in
        let one : w.from ≡ j = (once.once w.from j n m (was_named n high_too w) y.names same high_too).0 in
        not_both p.old j w.node y.kept (subst (λ (k : ℕ). p.old k ≡ Some w.node) one w.old)))
        (named_cases i n x)

    -- ---- the root

    -- where the root pair stays
    module _ (stays : p.root ≡ None)
        (free_root : (c : Node Value) → p.new tree ≡ Some c → p.old tree ≡ None → 2 ^ 63 ≤ tree → ⊥) where
      same_top : root_after p top ≡ top
      same_top = ap (λ (r : Option Root). unwrap_or r top) stays

      root_apart : (i : ℕ) (n : Name) → NewNames p i n → n.id ≡ tree → 2 ^ 63 ≤ tree → ⊥
      root_apart i n x same high = ⊎_elim
          (λ fits.
          (let now : p.new tree ≡ Some fits.0 = subst (λ (k : ℕ). p.new k ≡ Some fits.0) same fits.1 in
          ⊎_elim
          (λ h.
          ⊎_elim
          (λ is_top.
          root_unnamed (place p t) (root_after p top) placed i x.node n (new_there i x.node x.at) x.among
          (same ∙ is_top ∙ ap (λ (r : Root). r.id) (sym same_top)))
          (λ l. not_with_left tree l fits.0 now i n x same)
          (root_parent high h.0 h.1))
          (λ none. free_root fits.0 now none high)
          (some_or_none (p.old tree))))
          (λ w.
          once.not_root w.from n (was_named n (subst (λ (k : ℕ). 2 ^ 63 ≤ k) (sym same) high) w) same high)
          (named_cases i n x)

      -- a root that is an old cell has a new one in its place
      pub root_new : 2 ^ 63 ≤ tree → (o : Node Value) → p.old tree ≡ Some o
          → (d : Node Value) × (p.new tree ≡ Some d)
      root_new high o old = ⊎_elim (λ h. h)
          (λ none.
          ⊎_elim
          (λ is_top.
          (let there : place p t top.id ≡ Some placed.root_node =
          subst (λ (r : Root). place p t r.id ≡ Some placed.root_node) same_top placed.root_is in
          let gone : place p t tree ≡ None =
          ap (λ (c : Option (Node Value)). over c (p.old tree) (t tree)) none
          ∙ ap (λ (c : Option (Node Value)). over None c (t tree)) old in
          absurd (not_both (place p t) top.id placed.root_node
          (subst (λ (k : ℕ). place p t k ≡ None) is_top gone) there)))
          (λ l. left_has_new tree l o old)
          (root_parent high o old))
          (some_or_none (p.new tree))

    -- where it changes
    root_apart_then : (r : Root) → p.root ≡ Some r → (i : ℕ) (n : Name) → NewNames p i n ⊎ StillNames b p i n
        → n.id ≡ r.id → 2 ^ 63 ≤ r.id → ⊥
    root_apart_then r changes i n (inl x) same high =
        root_unnamed (place p t) (root_after p top) placed i x.node n (new_there i x.node x.at) x.among
        (same ∙ ap (λ (s : Root). s.id) (sym (ap (λ (s : Option Root). unwrap_or s top) changes)))
    root_apart_then r changes i n (inr y) same high =
        let high_too : 2 ^ 63 ≤ n.id = subst (λ (k : ℕ). 2 ^ 63 ≤ k) (sym same) high in
        let new = is.new_root r changes in
        let now : p.new n.id ≡ Some new.node = subst (λ (k : ℕ). p.new k ≡ Some new.node) (sym same) new.is in
        ⊎_elim
        (λ h.
        (let l = parent_left i n y high_too h.0 h.1 in
        root_unnamed (place p t) (root_after p top) placed l.from l.node l.name (left_there n.id l) l.among
        (l.is ∙ same ∙ ap (λ (s : Root). s.id) (sym (ap (λ (s : Option Root). unwrap_or s top) changes)))))
        (λ none. free n.id i new.node n now none y.names refl high_too)
        (some_or_none (p.old n.id))

    -- ---- the cells in memory then

    module _ (after : BufferSeen)
        (cases : (i : ℕ) (n : Name) → NamesAt after i n → NewNames p i n ⊎ StillNames b p i n) where
      once_then : (i j : ℕ) (n m : Name) → NamesAt after i n → NamesAt after j m → n.id ≡ m.id → 2 ^ 63 ≤ n.id
          → (i ≡ j) × (n ≡ m)
      once_then i j n m x y same high =
          let high_too : 2 ^ 63 ≤ m.id = subst (λ (k : ℕ). 2 ^ 63 ≤ k) same high in
          ⊎_elim
          (λ new. ⊎_elim
          (λ too. once_new i j n m new too same high)
          (λ still. absurd (apart_new i j n m new still same high_too)) (cases j m y))
          (λ still. ⊎_elim
          (λ new. absurd (apart_new j i m n new still (sym same) high))
          (λ too. once.once i j n m still.names too.names same high) (cases j m y))
          (cases i n x)

      pub named_on_stays : p.root ≡ None
          → ((c : Node Value) → p.new tree ≡ Some c → p.old tree ≡ None → 2 ^ 63 ≤ tree → ⊥)
          → AreNamedOnce after tree
      named_on_stays stays free_root = record {
        once = once_then;
        not_root = λ i n x same high.
            ⊎_elim (λ new. root_apart stays free_root i n new same high)
            (λ still. once.not_root i n still.names same high) (cases i n x);
      }

      pub named_on_changes : (r : Root) → p.root ≡ Some r → AreNamedOnce after r.id
      named_on_changes r changes = record {
        once = once_then;
        not_root = λ i n x same high. root_apart_then r changes i n (cases i n x) same high;
      }

  -- ---- numbers of next commands

  -- numbers that no cell in memory names, and no new cell has, no cell names then
  pub none_names : (after : BufferSeen)
      → ((i : ℕ) (n : Name) → NamesAt after i n → NewNames p i n ⊎ StillNames b p i n)
      → (from to : ℕ) → 2 ^ 63 ≤ from
      → ((i : ℕ) (n : Name) → NamesAt b i n → from ≤ n.id → n.id < to → ⊥)
      → ((i : ℕ) (c : Node Value) → p.new i ≡ Some c → from ≤ i → i < to → ⊥)
      → (i : ℕ) (n : Name) → NamesAt after i n → from ≤ n.id → n.id < to → ⊥
  none_names after cases from to high before new i n x low less =
      ⊎_elim
      (λ y. ⊎_elim (λ fits. new n.id fits.0 fits.1 low less)
      (λ w. before w.from n (was_named n (omega (arith, high, low)) w) low less) (named_cases i n y))
      (λ still. before i n still.names low less) (cases i n x)
