-- A directory's entries that are left, and the place in a leaf from which on they stand.
use Rattle.std.proofs.Common.{◌≡◌, ◌⊎◌, inl, inr, ℕ, ◌+◌, ◌*◌, ◌^◌, ◌<◌, ◌≤◌, List, length, refl, sym, ap, subst, ◌∙◌, arith}
use Rattle.std.specs.Prelude.{Some, Contains, slice_get, slice_index}
use Rattle.std.proofs.Math.Decide.{dec_le, ℕ_discrete}
use Rattle.std.proofs.Math.Nat.{lt_of_not-le}
use Rattle.std.proofs.lemmas.Option.{same_Some}
use Rattle.r4_base.specs.Dir.{Entry as DirEntry}
use Rattle.r4_base.specs.Image.{Image}
use Rattle.r4_base.specs.Key.{rank}
use Rattle.r4_base.specs.Node.{Item, items_of}
use Rattle.r4_base.specs.Value.{Content, Value, Entry, at_key}
use Rattle.r4_base.specs.Volume.{HasContent, root_of}
use Rattle.r4_base.specs.declared.items.Target.{Target}
use Rattle.r4_base.proofs.Trees.{leaf_holds}
use Rattle.r4_cell.specs.Seen.{CellSeen, node_of}
use Rattle.r4_search.specs.Pool.{StandsInMemory}
use Rattle.r4_list.specs.Walking.{OpenDir, IsLeftAt, NoneBefore, NoneLeft, open_from}
use Rattle.r4_list.specs.Frame.{EntryAt, IsFrom, IsOfDir, IsOfOther, StandsFrom, dir_number}
use Rattle.r4_list.proofs.OverAnswers.{in_content, in_store}
use Rattle.r4_units.proofs.LeafUnits.{entry_found, node_units}
use Rattle.r4_list.proofs.OverPaths.{hi_is, level_is, lo_is}
use Rattle.r4_units.proofs.ItemUnits.{entry_item, item_is_key, unit_item}
use Rattle.r4_list.proofs.FrameLeaves.{between, dir_of_rank, entries_rise, entry_first, entry_key, first_high, first_low, item_high, items_order, number_of_rank, other_above, within}

-- ---- the keys of what is left

module _ {n : ℕ} {image : Image} {m : Content} (c : HasContent n image m) where
  pub left_between : (f : OpenDir) (k : ℕ) (name : List ℕ) (o : Target) → IsLeftAt m f k name o → (dir_number f.dir.oid.0 * 2 ^ 192 ≤ k) × (k < (dir_number f.dir.oid.0 + 1) * 2 ^ 192)
  left_between f k name o h = between k (dir_number f.dir.oid.0) (number_of_rank k f.dir.oid.0 h.in_dir (c.files.keys k (Entry name o) ((c.visible k (Entry name o)).0 h.stands).0))

-- what is left from a later key on
pub left_before : (m : Content) (f : OpenDir) (to k : ℕ) (name : List ℕ) (o : Target) → f.from ≤ to → IsLeftAt m (open_from f to) k name o → IsLeftAt m f k name o
left_before m f to k name o le h = let l = h.left in record { stands = h.stands; in_dir = h.in_dir; left = omega (arith, le, l) }

after : (item entry i j : ℕ) → IsFrom item entry i j → IsFrom item (entry + 1) i j ⊎ ((i ≡ item) × (j ≡ entry))
after item entry i j (inl lt) = inl (inl lt)
after item entry i j (inr (same, le)) = elim (ℕ_discrete j entry) [
  | yes is ↦ inr (sym same, is)
  | no other ↦ inl (inr (same, omega (arith, le, other)))
]

later_item : (item entry i j : ℕ) → IsFrom (item + 1) 0 i j → IsFrom item entry i j
later_item item entry i j (inl lt) = inl (omega (arith, lt))
later_item item entry i j (inr (same, le)) = inl (omega (arith, same))

next_item : (item i j : ℕ) → item < i → IsFrom (item + 1) 0 i j
next_item item i j lt = elim (ℕ_discrete (item + 1) i) [
  | yes same ↦ inr (same, omega arith)
  | no other ↦ inl (omega (arith, lt, other))
]

not_before : (item entry i j : ℕ) → IsFrom item entry i j → item ≤ i
not_before item entry i j (inl lt) = omega (arith, lt)
not_before item entry i j (inr (same, le)) = omega (arith, same)

-- ---- a leaf of the content's tree

module _ {n : ℕ} {image : Image} {m : Content} (c : HasContent n image m) (x : CellSeen) (leaf : x.level ≡ 1) (is : c.store x.id ≡ Some (node_of x)) where
  pub entry_there : (k : ℕ) (name : List ℕ) (o : Target) → at_key m k ≡ Some (Entry name o) → rank x.lo ≤ k → k < rank x.hi → (i : ℕ) × (j : ℕ) × (e : DirEntry) × EntryAt x i j e × (rank e.key ≡ k) × (e.name ≡ name) × (e.target ≡ o)
  entry_there k name o h low high =
      let lo = lo_is x in
      let hi = hi_is x in
      let has = leaf_holds c.store (root_of c.super) c.tree x.id (node_of x) k (Entry name o) is (level_is x ∙ leaf) (omega (arith, low, lo), omega (arith, high, hi)) (in_store c k (Entry name o) h) in
      let (i, it, at, u) = unit_item (items_of x.block) (k, Entry name o) (subst (λ (us : List (ℕ × Value)). Contains us (k, Entry name o)) (node_units x.level (rank x.lo) (rank x.hi) x.block (omega (arith, leaf))) has) in
      let s = entry_item it k name o u in
      (i, s.at, s.entry, record { item = it; is = at; plugin = s.plugin; at = s.is }, s.key, s.named, s.targets)

module _ {n : ℕ} {image : Image} {m : Content} (c : HasContent n image m) (x : CellSeen) (whole : length x.block ≡ 4096) (leaf : x.level ≡ 1) (stands : StandsInMemory x) (is : c.store x.id ≡ Some (node_of x)) where
  pub entry_stands : (i j : ℕ) (e : DirEntry) → EntryAt x i j e → at_key m (rank e.key) ≡ Some (Entry e.name e.target)
  entry_stands i j e h = in_content c (rank e.key) (Entry e.name e.target) tt (x.id, node_of x, is, entry_found x whole leaf stands (rank e.key) i j h.item e h.is h.plugin h.at refl)

  entry_inside : (i j : ℕ) (e : DirEntry) → EntryAt x i j e → rank e.key < rank x.hi
  entry_inside i j e h =
      let hi = hi_is x in
      let (_, to) = (c.tree.nodes x.id (node_of x) is).unit_in (rank e.key) (Entry e.name e.target) (entry_found x whole leaf stands (rank e.key) i j h.item e h.is h.plugin h.at refl) in
      omega (arith, to, hi)

  -- ---- an entry of the directory stands at the place

  module _ (f : OpenDir) (item entry : ℕ) (s : StandsFrom m f x item entry) where
    module _ (e : DirEntry) (h : EntryAt x item entry e) (of : IsOfDir x f.dir.oid.0 item) where
      pub here_is_left : IsLeftAt m f (rank e.key) e.name e.target
      here_is_left =
          let (it, at, first) = of in
          let number : slice_index e.key.el 0 ≡ dir_number f.dir.oid.0 = entry_first x whole leaf stands item entry e h ∙ (ap (λ (z : Item). slice_index z.key.el 0) (same_Some h.item it (sym h.is ∙ at)) ∙ first) in
          record {
            stands = entry_stands item entry e h;
            in_dir = dir_of_rank (rank e.key) (slice_index e.key.el 0) f.dir.oid.0 (first_low e.key) (first_high e.key (entry_key x whole leaf stands item entry e h)) number;
            left = s.later item entry e h (inr (refl, omega arith));
          }

      -- two entries of one place
      same_entry : (a b : DirEntry) → EntryAt x item entry a → EntryAt x item entry b → a ≡ b
      same_entry a b ea eb =
          let same : eb.item ≡ ea.item = same_Some eb.item ea.item (sym eb.is ∙ ea.is) in
          same_Some a b (sym ea.at ∙ subst (λ (it : Item). slice_get (Rattle.r4_base.specs.Dir.entries_of it.key it.body) entry ≡ Some b) same eb.at)

      pub none_before_here : NoneBefore m f (rank e.key)
      none_before_here k name o l = elim (dec_le (rank e.key) k) [
        | yes le ↦ le
        | no gt ↦
            let lt = lt_of_not-le gt in
            let inside = entry_inside item entry e h in
            let (i, j, a, ea, from, key, _, _) = s.left k name o l (omega (arith, lt, inside)) in
            elim (after item entry i j from) [
              | inl later ↦ let up = entries_rise x whole leaf stands item entry i j e a h ea later in absurd (omega (arith, up, lt, key))
              | inr (si, sj) ↦
                  let at = subst (λ (q : ℕ). EntryAt x q entry a) si (subst (λ (q : ℕ). EntryAt x i q a) sj ea) in
                  let k_same = ap (λ (z : DirEntry). rank z.key) (same_entry e a h at) in
                  absurd (omega (arith, k_same, lt, key))
            ]
      ]

      pub past_here : StandsFrom m (open_from f (rank e.key + 1)) x item (entry + 1)
      past_here =
          let inside = entry_inside item entry e h in
          let low = s.later item entry e h (inr (refl, omega arith)) in
          record {
            from = omega (arith, inside);
            above = s.above;
            items = s.items;
            later = λ i j a ea from. let up = entries_rise x whole leaf stands item entry i j e a h ea from in omega (arith, up);
            left = λ k name o l lt.
                let (i, j, a, ea, from, key, named, targets) = s.left k name o (left_before m f (rank e.key + 1) k name o (omega (arith, low)) l) lt in
                elim (after item entry i j from) [
                  | inl later ↦ (i, j, a, ea, later, key, named, targets)
                  | inr (si, sj) ↦
                      let at = subst (λ (q : ℕ). EntryAt x q entry a) si (subst (λ (q : ℕ). EntryAt x i q a) sj ea) in
                      let k_same = ap (λ (z : DirEntry). rank z.key) (same_entry e a h at) in
                      let above = l.left in
                      absurd (omega (arith, k_same, key, above))
                ];
          }

    -- no entry of the item stands from the place on
    pub past_item : ((j : ℕ) (e : DirEntry) → EntryAt x item j e → entry ≤ j → ⊥) → StandsFrom m f x (item + 1) 0
    past_item none = record {
      from = s.from;
      above = s.above;
      items = λ i it at le. s.items i it at (omega (arith, le));
      later = λ i j a ea from. s.later i j a ea (later_item item entry i j from);
      left = λ k name o l lt.
          let (i, j, a, ea, from, key, named, targets) = s.left k name o l lt in
          elim from [
            | inl behind ↦ (i, j, a, ea, next_item item i j behind, key, named, targets)
            | inr (same, le) ↦ absurd (none j a (subst (λ (q : ℕ). EntryAt x q j a) (sym same) ea) le)
          ];
    }

    -- no item stands from the place on
    pub none_in_leaf : ((i : ℕ) (it : Item) → slice_get (items_of x.block) i ≡ Some it → item ≤ i → ⊥) → NoneBefore m f (rank x.hi)
    none_in_leaf none k name o l = elim (dec_le (rank x.hi) k) [
      | yes le ↦ le
      | no gt ↦
          let (i, j, a, ea, from, key, named, targets) = s.left k name o l (lt_of_not-le gt) in
          absurd (none i ea.item ea.is (not_before item entry i j from))
    ]

    -- the item at the place is another directory's or none's
    pub none_left : IsOfOther x f.dir.oid.0 item → NoneLeft m f
    none_left (it, at, other) k name o l =
        let low = s.items item it at (omega arith) in
        let end = other_above (slice_index it.key.el 0) (dir_number f.dir.oid.0) (rank it.key) other low (first_low it.key) (first_high it.key (item_is_key x.block item it at)) in
        let (_, below) = left_between c f k name o l in
        elim (dec_le (rank x.hi) k) [
          | yes le ↦ let inside = item_high x whole leaf stands item it at in omega (arith, le, inside, end, below)
          | no gt ↦
              let (i, j, a, ea, from, key, named, targets) = s.left k name o l (lt_of_not-le gt) in
              let up = items_order x whole leaf stands item i it ea.item at ea.is (not_before item entry i j from) in
              let (begins, _) = within x whole leaf stands i j a ea in
              omega (arith, up, begins, key, end, below)
        ]
