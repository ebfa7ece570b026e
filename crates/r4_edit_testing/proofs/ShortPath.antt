-- A root and the first of the leaves below it are a part of a tree, and a path of it.
use Rattle.std.proofs.Common.{◌≡◌, ◌≢◌, ◌⊎◌, inl, inr, ℕ, ◌+◌, ◌-◌, ◌^◌, ◌<◌, ◌≤◌, true, List, [], ◌∷◌, length, refl, sym}
use Rattle.std.proofs.Common.{ap, eq-eqb, subst, ◌∙◌, arith}
use Rattle.std.specs.Prelude.{Contains, reverse, None, Some}
use Rattle.std.proofs.Math.Nat.{min-le_left}
use Rattle.r4_base.specs.Cell.{cell_fault}
use Rattle.r4_base.specs.Key.{rank, top}
use Rattle.r4_base.specs.Node.{Item}
use Rattle.r4_base.specs.Tree.{Fits, IsNode, Name, Node, Root, Store}
use Rattle.r4_base.specs.declared.key.Key.{Key}
use Rattle.r4_base.specs.Value.{Value}
use Rattle.r4_cell.proofs.Nodes.{cell_node}
use Rattle.r4_cell.specs.Patch.{NamesId, by_name}
use Rattle.r4_cell.specs.Seen.{CellSeen, node_of}
use Rattle.r4_cell.specs.declared.change.Fresh.{Fresh}
use Rattle.r4_patch.specs.Joining.{ids_of}
use Rattle.r4_patch.specs.Part.{IsPart}
use Rattle.r4_path.specs.Growing.{IsPathIn, IsRootIn}
use Rattle.r4_edit.specs.Splitting.{IsPartedUp, IsSplitIn, unit_count}
use Rattle.r4_path.specs.Nodes.{IsPointingTo}
use Rattle.r4_path.specs.Steps.{name_of}
use Rattle.r4_edit.specs.Editing.{IsCutOutUp, IsEditedIn, IsInsertedUp, after_cut, after_insert, extra_up}
use Rattle.r4_edit.specs.CutBlocks.{IsTakenOutIn}
use Rattle.r4_edit.specs.Extents.{IsPutIn}
use Rattle.r4_edit.specs.Remaking.{IsRemadeUp, IsRemakeIn, after_edits}
use Rattle.r4_leaf.specs.Remade.{AreWithin, CanPutAll, cut_all}
use Rattle.r4_leaf.specs.Units.{leaf_bytes}
use Rattle.r4_leaf.specs.declared.remaking.Given.{Given}
use Rattle.r4_leaf.specs.declared.remaking.KeyRange.{KeyRange}
use Rattle.r4_edit_testing.specs.Trials.{AreLeaves, FirstMayTake, IsPathOver, IsShortPath, low_root}
use Rattle.r4_path.proofs.Grown.{map_names, names_map}
use Rattle.r4_patch.proofs.Members.{absent, cases, found, here, here_named, later_named, none}
use Rattle.r4_path.proofs.NewNodes.{no_names}
use Rattle.r4_path.proofs.Rising.{count_within, follow_order, hi_is, id_member, level_is, lo_is}
use Rattle.r4_path.proofs.Upwards.{long_ids, numbered}

own_name : (c : CellSeen) → Fits (name_of c) (node_of c)
own_name c = record { level = level_is c; lo = lo_is c; hi = hi_is c }

module _ (leaf twig : CellSeen) (rest : List CellSeen) (are : AreLeaves (leaf ∷ rest)) (f : Fresh)
    (stands : cell_fault true (2 ^ 64) leaf.level (rank leaf.lo) (rank leaf.hi) leaf.block ≡ None)
    (whole : length leaf.block ≡ 4096) (points : IsPointingTo (leaf ∷ rest) 2 (2 ^ 63 + 1000) twig)
    (next : f.next ≡ 2 ^ 63 + 1001) where
  t : Store Value
  t = by_name (twig ∷ (leaf ∷ []))

  leaf_id : leaf.id ≡ 2 ^ 63
  leaf_id = are.counts.0

  twig_id : twig.id ≡ 2 ^ 63 + 1000
  twig_id = points.number

  other : twig.id ≢ leaf.id
  other e = let a = leaf_id in let b = twig_id in omega (arith, a, b, e)

  leaf_node : IsNode (node_of leaf)
  leaf_node =
      let level = are.follow.0 in
      let lo = are.follow.1 in
      let range = are.follow.2 in
      let hi = follow_order 1 (rank leaf.hi) top rest are.follow.3 in
      cell_node true (2 ^ 64) leaf.level (rank leaf.lo) (rank leaf.hi) leaf.block whole (omega (arith, level))
      (omega (arith, lo)) (omega (arith, lo, range)) hi stands

  twig_there : t twig.id ≡ Some (node_of twig)
  unfolding t
  twig_there = here_named twig (leaf ∷ []) twig.id refl

  leaf_there : t leaf.id ≡ Some (node_of leaf)
  unfolding t
  leaf_there = later_named twig (leaf ∷ []) leaf.id other ∙ here_named leaf [] leaf.id refl

  cell_is : (i : ℕ) (c : Node Value) → t i ≡ Some c → ((i ≡ twig.id) × (c ≡ node_of twig))
      ⊎ ((i ≡ leaf.id) × (c ≡ node_of leaf))
  unfolding t
  cell_is i c e =
      let (x, member, is, says) = found (twig ∷ (leaf ∷ [])) i c e in
      elim (cases twig x (leaf ∷ []) member) [
        | inl same ↦ inl (sym is ∙ ap (λ (y : CellSeen). y.id) same, says ∙ ap node_of same)
        | inr more ↦ elim (cases leaf x [] more) [
          | inl same ↦ inr (sym is ∙ ap (λ (y : CellSeen). y.id) same, says ∙ ap node_of same)
          | inr past ↦ absurd (none x past)
        ]
      ]

  -- what the root names

  named_by : (n : Name) → Contains (node_of twig).names n → (x : CellSeen) × Contains (leaf ∷ rest) x × (n ≡ name_of x)
  named_by n h = names_map (leaf ∷ rest) n (subst (λ ns. Contains ns n) points.names h)

  few_ids : (x : CellSeen) → Contains (leaf ∷ rest) x → (2 ^ 63 ≤ x.id) × (x.id < 2 ^ 63 + 1000)
  few_ids x member =
      let w = count_within (2 ^ 63) (ids_of (leaf ∷ rest)) x.id are.counts (id_member (leaf ∷ rest) x member) in
      let few = are.few in
      let long = long_ids (leaf ∷ rest) in
      (omega (arith, w), omega (arith, w, few, long))

  only_leaf : (x : CellSeen) → Contains (leaf ∷ rest) x → x.id ≡ leaf.id → x ≡ leaf
  only_leaf x member e = elim (cases leaf x rest member) [
    | inl same ↦ same
    | inr more ↦
        let w = count_within (2 ^ 63 + 1) (ids_of rest) x.id are.counts.1 (id_member rest x more) in
        let first = leaf_id in
        absurd (omega (arith, w, e, first))
  ]

  fits_leaf : (n : Name) (d : Node Value) → Contains (node_of twig).names n → t n.id ≡ Some d → Fits n d
  fits_leaf n d h there =
      let (x, member, is) = named_by n h in
      let id : n.id ≡ x.id = ap (λ (m : Name). m.id) is in
      elim (cell_is n.id d there) [
        | inl root ↦ let at = root.0 in let few = few_ids x member in let root_id = twig_id in
            absurd (omega (arith, at, id, few, root_id))
        | inr low ↦ subst (λ m. Fits m d) (sym (is ∙ ap name_of (only_leaf x member (sym id ∙ low.0))))
            (subst (Fits (name_of leaf)) (sym low.1) (own_name leaf))
      ]

  leaf_named : Contains (node_of twig).names (name_of leaf)
  leaf_named = subst (λ ns. Contains ns (name_of leaf)) (sym points.names)
      (map_names (leaf ∷ rest) (name_of leaf) (leaf, here leaf rest, refl))

  leaf_names_none : (c : Node Value) (n : Name) → c ≡ node_of leaf → Contains c.names n → ⊥
  leaf_names_none c n same h = no_names leaf leaf_node are.follow.0 n (subst (λ (d : Node Value). Contains d.names n) same h)

  part : IsPart t (low_root twig)
  part = record {
    nodes = λ i c e. elim (cell_is i c e) [
      | inl root ↦ subst IsNode (sym root.1) points.node
      | inr low ↦ subst IsNode
          (sym low.1) leaf_node
    ];
    root_node = node_of twig;
    root_is = twig_there;
    root_level = level_is twig ∙ points.level_is;
    root_lo = lo_is twig ∙ points.lo;
    root_hi = hi_is twig ∙ points.hi;
    height = omega arith;
    none_above = λ i c e. elim (cell_is i c e) [
      | inl root ↦ let l = ap (λ (d : Node Value). d.level) root.1 in let a = level_is twig in let b = points.level_is in
          omega (arith, l, a, b)
      | inr low ↦ let l = ap (λ (d : Node Value). d.level) low.1 in let a = level_is leaf in let b = are.follow.0 in
          omega (arith, l, a, b)
    ];
    named = λ i c d n e h there. elim (cell_is i c e) [
      | inl root ↦ fits_leaf n d (subst (λ (m : Node Value). Contains m.names n) root.1 h) there
      | inr low ↦ absurd (leaf_names_none c n low.1 h)
    ];
    reached = λ i c e. elim (cell_is i c e) [
      | inl root ↦ inl root.0
      | inr low ↦ inr (name_of leaf, (twig.id, node_of twig, twig_there, leaf_named), sym low.0)
    ];
  }

  no_cell : (i : ℕ) → f.next ≤ i → t i ≡ None
  unfolding t
  no_cell i from = absent (twig ∷ (leaf ∷ [])) i (λ x member e. elim (cases twig x (leaf ∷ []) member) [
    | inl same ↦ let id = ap (λ (y : CellSeen). y.id) same in let a = twig_id in omega (arith, from, next, e, id, a)
    | inr more ↦ elim (cases leaf x [] more) [
      | inl same ↦ let id = ap (λ (y : CellSeen). y.id) same in let a = leaf_id in omega (arith, from, next, e, id, a)
      | inr past ↦ none x past
    ]
  ])

  no_name : (i : ℕ) → f.next ≤ i → NamesId t i → ⊥
  no_name i from (n, (j, c, e, h), is) = elim (cell_is j c e) [
    | inl root ↦
        let (x, member, same) = named_by n (subst (λ (m : Node Value). Contains m.names n) root.1 h) in
        let few = few_ids x member in
        let id = ap (λ (m : Name). m.id) same in
        omega (arith, from, next, is, few, id)
    | inr low ↦ leaf_names_none c n low.1 h
  ]

  pub short_path : IsPathIn (by_name (twig ∷ (leaf ∷ []))) (low_root twig) (leaf ∷ (twig ∷ [])) f
  unfolding t
  short_path = record {
    part = part;
    ascends = (
      leaf_there,
      (let l = are.follow.0 in omega (arith, l)),
      tt,
      (twig_there, (let l = points.level_is in omega (arith, l)), leaf_named, tt),
    );
    free = record { cells = λ i from to. no_cell i from; names = λ i from to. no_name i from };
    root_number = let a = twig_id in numbered twig.id (omega (arith, a)) (omega (arith, a));
  }

-- ---- what may be done with the leaf

pub insert_here : (cells path : List CellSeen) (f : Fresh) (it : Item) → AreLeaves cells → FirstMayTake cells it
    → IsPathOver cells f path → (f.next ≡ 2 ^ 63 + 1001) × (f.end ≡ 2 ^ 64 - 1)
    → (t : Store Value) × ((r : Root) × IsPutIn t r path it f)
insert_here [] path f it are may over numbers = absurd may
insert_here (leaf ∷ rest) path f it are may over numbers =
    let edited : IsEditedIn (by_name path) (low_root over.twig) (after_insert it leaf) leaf (over.twig ∷ []) f = record {
      path = over.leads;
      level = are.follow.0;
      enough = inr (inr (refl, (let l = over.level in omega (arith, l))));
    } in (
      by_name path,
      (
        low_root over.twig,
        inl (record {
          given = may.given;
          inserts = subst (λ (p : List CellSeen). IsInsertedUp (by_name path) (low_root over.twig) it f (reverse p)) (sym over.cells)
              (record {
                edited = edited;
                from = may.from;
                to = may.to;
                apart = may.apart;
              });
          numbers = let long = ap length over.cells in let few = min-le_left 15 (extra_up (after_insert it) (reverse path)) in
              omega (arith, long, few, numbers);
        }),
      ),
    )

pub remake_here : (cells path : List CellSeen) (f : Fresh) (cuts : List KeyRange) (items : List Given) (leaf : CellSeen) (rest : List CellSeen)
    → cells ≡ leaf ∷ rest → AreLeaves cells → AreWithin (rank leaf.lo) (rank leaf.hi) items
    → CanPutAll items (cut_all cuts (node_of leaf).units) → leaf_bytes (after_edits cuts items leaf) < 58912
    → IsPathOver cells f path → (t : Store Value) × ((r : Root) × IsRemakeIn t r path cuts items f)
remake_here cells path f cuts items leaf rest e are within can small over' =
    let over : IsShortPath leaf f path = subst (λ cs. IsPathOver cs f path) e over' in
    let edited : IsEditedIn (by_name path) (low_root over.twig) (after_edits cuts items leaf) leaf (over.twig ∷ []) f = record {
      path = over.leads;
      level = (subst AreLeaves e are).follow.0;
      enough = inr (inr (refl, (let l = over.level in omega (arith, l))));
    } in (
      by_name path,
      (
        low_root over.twig,
        subst (λ (p : List CellSeen). IsRemadeUp (by_name path) (low_root over.twig) cuts items f (reverse p)) (sym over.cells)
            (record { edited = edited; within = within; can = can; small = small }),
      ),
    )

pub cut_here : (cells path : List CellSeen) (f : Fresh) (from to : Key) (leaf : CellSeen) (rest : List CellSeen) → cells
    ≡ leaf ∷ rest → AreLeaves cells → (rank from < rank to) × (rank leaf.lo ≤ rank from) × (rank to ≤ rank leaf.hi)
    → IsPathOver cells f path → (f.next ≡ 2 ^ 63 + 1001) × (f.end ≡ 2 ^ 64 - 1)
    → (t : Store Value) × ((r : Root) × IsTakenOutIn t r path from to f)
cut_here cells path f from to leaf rest e are keys over' numbers =
    let over : IsShortPath leaf f path = subst (λ cs. IsPathOver cs f path) e over' in
    let edited : IsEditedIn (by_name path) (low_root over.twig) (after_cut from to leaf) leaf (over.twig ∷ []) f = record {
      path = over.leads;
      level = (subst AreLeaves e are).follow.0;
      enough = inr (inr (refl, (let l = over.level in omega (arith, l))));
    } in (
      by_name path,
      (
        low_root over.twig,
        inl (record {
          cuts = subst (λ (p : List CellSeen). IsCutOutUp (by_name path) (low_root over.twig) from to f (reverse p)) (sym over.cells)
              (record {
                edited = edited;
                order = keys.0;
                low = keys.1;
                high = keys.2;
              });
          numbers = let long = ap length over.cells in let few = min-le_left 15 (extra_up (after_cut from to) (reverse path)) in
              omega (arith, long, few, numbers);
        }),
      ),
    )

pub split_here : (cells path : List CellSeen) (f : Fresh) (leaf : CellSeen) (rest : List CellSeen) → cells ≡ leaf ∷ rest
    → leaf.level ≡ 1 → 2 ≤ length (node_of leaf).units → IsPathOver cells f path
    → (t : Store Value) × ((r : Root) × IsSplitIn t r path f)
split_here cells path f leaf rest e level two over' =
    let over : IsShortPath leaf f path = subst (λ cs. IsPathOver cs f path) e over' in (
      by_name path,
      (
        low_root over.twig,
        subst (λ (p : List CellSeen). IsPartedUp (by_name path) (low_root over.twig) f (reverse p)) (sym over.cells)
            (record {
              path = over.leads;
              enough = inr (refl, (let l = over.level in omega (arith, l)));
              units = let is = eq-eqb leaf.level 1 level in
                  let same : unit_count leaf ≡ length (node_of leaf).units = rw is refl in
                  subst (λ n. 2 ≤ n) (sym same) two;
            }),
      ),
    )

-- ---- what may be done with the root

first_cell : (x y : CellSeen) (xs ys : List CellSeen) → x ∷ xs ≡ y ∷ ys → x ≡ y
first_cell x y xs ys e = cc

pub grow_here : (cells path : List CellSeen) (f : Fresh) (leaf root : CellSeen) (rest tail : List CellSeen) → cells ≡ leaf ∷ rest
    → path ≡ root ∷ tail → IsPathOver cells f path
    → ((t : Store Value) × ((r : Root) × IsRootIn t r root f)) × (root.level ≡ 2)
grow_here cells path f leaf root rest tail e is over' =
    let over : IsShortPath leaf f path = subst (λ cs. IsPathOver cs f path) e over' in
    let same : over.twig ≡ root = first_cell over.twig root (leaf ∷ []) tail (sym over.cells ∙ is) in
    let up = over.leads.ascends.3 in (
      subst (λ (x : CellSeen). (t : Store Value) × ((r : Root) × IsRootIn t r x f)) same (
        by_name path,
        (
          low_root over.twig,
          record {
            path = record { part = over.leads.part; ascends = (up.0, up.1, tt, tt); free = over.leads.free; root_number = over.leads.root_number };
            root = refl;
          },
        ),
      ),
      subst (λ (x : CellSeen). x.level ≡ 2) same over.level,
    )
