-- The cells that have the items of a row.
use Rattle.std.proofs.Common.{◌≡◌, ℕ, zero, suc, ◌+◌, ◌-◌, ◌^◌, ◌<◌, ◌≤◌, true, List, [], ◌∷◌, ◌++◌, length, take, drop, refl, sym}
use Rattle.std.proofs.Common.{ap, subst, ◌∙◌, arith, inl, inr}
use Rattle.std.specs.Prelude.{None, Some, slice_get, IfSome}
use Rattle.std.proofs.lemmas.List.{append-nil, length-drop, length-take}
use Rattle.std.proofs.lemmas.Option.{same_Some}
use Rattle.r4_base.specs.Cell.{cell_fault}
use Rattle.r4_base.specs.Key.{rank}
use Rattle.r4_base.specs.Node.{Item, items_of, mkfs_id_of}
use Rattle.r4_base.specs.declared.key.Key.{Key}
use Rattle.r4_patch.specs.r4_cell.Seen.{CellSeen}
use Rattle.r4_path.specs.Nodes.{IsNodeOf, weight}
use Rattle.r4_path.specs.Rows.{IsCut, row_items, row_level, row_part}
use Rattle.r4_patch.specs.r4_cell.declared.change.Fresh.{Fresh}
use Rattle.r4_path.specs.Sharing.{AreFilled, AreSome, HasItems, IsRowOf, IsSound, Shares}
use Rattle.r4_path.specs.declared.row.Row.{Row}
use Rattle.r4_path.proofs.Cuts.{both_parts, cut_parts, take_whole}
use Rattle.r4_path.proofs.Filling.{weight_one}
use Rattle.r4_path.proofs.Lying.{Good, sound}
use Rattle.r4_patch.proofs.Members.{cases, none}
use Rattle.r4_path.proofs.Rows.{Between, between_left, between_order, between_right, good_left, good_right, rise_between}

drop_at : (xs : List Item) (n : ℕ) (y : Item) → slice_get xs n ≡ Some y → drop n xs ≡ y ∷ drop (n + 1) xs
drop_at [] n y e = absurd cc
drop_at (x ∷ xs) zero y e = ap (λ z. z ∷ xs) (same_Some x y e)
drop_at (x ∷ xs) (suc n) y e = drop_at xs n y e
    ∙ ap (λ k. y ∷ drop k (x ∷ xs)) (let step : suc (n + 1) ≡ suc n + 1 = omega arith in step)

some_item : (xs : List Item) (n : ℕ) → n < length xs → (y : Item) × (slice_get xs n ≡ Some y)
some_item [] n lt = absurd (omega (arith, lt))
some_item (x ∷ xs) zero lt = (x, refl)
some_item (x ∷ xs) (suc n) lt = some_item xs n (omega (arith, lt))

-- one item fits into a node
pub two_at_least : (xs : List Item)
    → ((k : ℕ) (x : Item) → slice_get xs k ≡ Some x → (1 ≤ length x.body) × (length x.body ≤ 4030)) → 4068 < weight xs
    → 2 ≤ length xs
two_at_least [] bodies over = absurd (omega (arith, over))
two_at_least (x ∷ []) bodies over = let b = bodies 0 x refl in let one = weight_one x in absurd (omega (arith, b, one, over))
two_at_least (x ∷ (y ∷ xs)) bodies over = omega arith

module _ (o : CellSeen) (w : Row) (is : IsRowOf o w) where
  pub between : Between (rank o.lo) (rank o.hi) (row_items w)
  between = let range = is.range in
      rise_between o.level (rank o.lo) (rank o.hi) 0 (row_items w) (omega (arith, range)) is.row.rise is.good

  at_level : (items : List Item) (b : List ℕ) → IsNodeOf (row_level w) items b → IsNodeOf o.level items b
  at_level items b node = subst (λ l. IsNodeOf l items b) (sym is.level) node

  -- ---- one node

  pub whole_part : row_part w 0 (length (row_items w)) ≡ row_items w
  whole_part = (cut_parts (row_items w) (length (row_items w)) (omega arith)).0
      ∙ take_whole (row_items w) (length (row_items w)) (omega arith)

  pub one_sound : (level : ℕ) (lo hi : Key) (b : List ℕ) → level ≡ o.level → lo ≡ o.lo → hi ≡ o.hi
      → IsNodeOf (row_level w) (row_items w) b → cell_fault true (2 ^ 64) level (rank lo) (rank hi) b ≡ None
  one_sound level lo hi b el elo ehi node =
      let branch = is.branch in
      let some = is.some in
      subst (λ l. cell_fault true (2 ^ 64) l (rank lo) (rank hi) b ≡ None) (sym el)
      (subst (λ k. cell_fault true (2 ^ 64) o.level (rank k) (rank hi) b ≡ None) (sym elo)
      (subst (λ k. cell_fault true (2 ^ 64) o.level (rank o.lo) (rank k) b ≡ None) (sym ehi)
      (sound o.level (rank o.lo) (rank o.hi) (row_items w) b (omega (arith, branch)) (at_level (row_items w) b node)
      (λ two. omega (arith, some)) is.good)))

  pub one_has : (c : CellSeen) → c.id ≡ o.id → c.level ≡ o.level → c.lo ≡ o.lo → c.hi ≡ o.hi
      → IsNodeOf (row_level w) (row_items w) c.block → mkfs_id_of c.block ≡ w.mkfs_id → (next : ℕ)
      → HasItems o (row_items w) next (c ∷ [])
  one_has c id level lo hi node mkfs_id next =
      let range = is.range in
      let at = ap rank lo in
      record {
        first = ap (λ i. i ∷ []) id;
        ranges = (level, at, omega (arith, range, ap rank hi), ap rank hi);
        items_are = append-nil (items_of c.block) ∙ node.items_are;
        sound = λ x member. elim (cases c x [] member) [
          | inl e ↦ subst IsSound (sym e)
              (record { whole = node.node.laid.whole; accepted = one_sound c.level c.lo c.hi c.block level lo hi node })
          | inr more ↦ absurd (none x more)
        ];
        fresh = tt;
        mkfs_id = λ x member. elim (cases c x [] member) [
          | inl e ↦ subst (λ (y : CellSeen). mkfs_id_of y.block ≡ mkfs_id_of o.block) (sym e) (mkfs_id ∙ is.mkfs_id)
          | inr more ↦ absurd (none x more)
        ];
      }

  -- ---- two nodes

  module _ (cut : ℕ) (key : Key) (some : 1 ≤ cut) (below : cut < length (row_items w))
      (is_key : IfSome (slice_get (row_items w) cut) (λ it. key ≡ it.key)) where
    y : Item
    y = (some_item (row_items w) cut below).0

    at : slice_get (row_items w) cut ≡ Some y
    unfolding y
    at = (some_item (row_items w) cut below).1

    key_y : key ≡ y.key
    key_y = subst (λ o. IfSome o (λ it. key ≡ it.key)) at is_key

    xs : List Item
    xs = take cut (row_items w)

    ys : List Item
    ys = drop (cut + 1) (row_items w)

    parts : row_items w ≡ xs ++ y ∷ ys
    unfolding xs ys
    parts = both_parts cut (row_items w) ∙ ap (λ zs. take cut (row_items w) ++ zs) (drop_at (row_items w) cut y at)

    good : Good o.level (rank o.lo) (rank o.hi) 0 (xs ++ y ∷ ys)
    good = subst (Good o.level (rank o.lo) (rank o.hi) 0) parts is.good

    rising : Between (rank o.lo) (rank o.hi) (xs ++ y ∷ ys)
    rising = subst (Between (rank o.lo) (rank o.hi)) parts between

    long : length xs ≡ cut
    unfolding xs
    long = let b = below in long_front cut (row_items w) (omega (arith, b))
      where
        long_front : (n : ℕ) (zs : List Item) → n ≤ length zs → length (take n zs) ≡ n
        long_front zero zs le = refl
        long_front (suc n) [] le = absurd (omega (arith, le))
        long_front (suc n) (z ∷ zs) le = let h = long_front n zs (omega (arith, le)) in omega (arith, h)

    left_node : (b : List ℕ) → IsNodeOf (row_level w) (row_part w 0 cut) b → IsNodeOf o.level xs b
    unfolding xs
    left_node b node = at_level (take cut (row_items w)) b
        (subst (λ items. IsNodeOf (row_level w) items b)
        (cut_parts (row_items w) cut (let lt = below in omega (arith, lt))).0 node)

    right_node : (b : List ℕ) → IsNodeOf (row_level w) (row_part w cut (length (row_items w))) b → IsNodeOf o.level (y ∷ ys) b
    unfolding ys
    right_node b node = at_level (y ∷ drop (cut + 1) (row_items w)) b
        (subst (λ items. IsNodeOf (row_level w) items b)
        ((cut_parts (row_items w) cut (let lt = below in omega (arith, lt))).1 ∙ drop_at (row_items w) cut y at) node)

    pub left_sound : (level : ℕ) (lo : Key) (b : List ℕ) → level ≡ o.level → lo ≡ o.lo
        → IsNodeOf (row_level w) (row_part w 0 cut) b → cell_fault true (2 ^ 64) level (rank lo) (rank key) b ≡ None
    left_sound level lo b el elo node =
        let branch = is.branch in
        let n = long in
        let one = some in
        subst (λ l. cell_fault true (2 ^ 64) l (rank lo) (rank key) b ≡ None) (sym el)
        (subst (λ k. cell_fault true (2 ^ 64) o.level (rank k) (rank key) b ≡ None) (sym elo)
        (subst (λ k. cell_fault true (2 ^ 64) o.level (rank o.lo) (rank k) b ≡ None) (sym key_y)
        (sound o.level (rank o.lo) (rank y.key) xs b (omega (arith, branch)) (left_node b node) (λ two. omega (arith, n, one))
        (good_left o.level (rank o.lo) (rank o.hi) 0 xs y ys rising good))))

    pub right_sound : (level : ℕ) (hi : Key) (b : List ℕ) → level ≡ o.level → hi ≡ o.hi
        → IsNodeOf (row_level w) (row_part w cut (length (row_items w))) b
        → cell_fault true (2 ^ 64) level (rank key) (rank hi) b ≡ None
    right_sound level hi b el ehi node =
        let branch = is.branch in
        subst (λ l. cell_fault true (2 ^ 64) l (rank key) (rank hi) b ≡ None) (sym el)
        (subst (λ k. cell_fault true (2 ^ 64) o.level (rank key) (rank k) b ≡ None) (sym ehi)
        (subst (λ k. cell_fault true (2 ^ 64) o.level (rank k) (rank o.hi) b ≡ None) (sym key_y)
        (sound o.level (rank y.key) (rank o.hi) (y ∷ ys) b (omega (arith, branch)) (right_node b node) (λ two. omega arith)
        (good_right o.level (rank o.lo) (rank o.hi) 0 xs y ys rising good))))

    low_below : rank o.lo < rank y.key
    low_below =
        let one = some in
        let n = long in
        first_below xs (between_left (rank o.lo) (rank o.hi) xs y ys rising) (omega (arith, one, n))
      where
        first_below : (zs : List Item) → Between (rank o.lo) (rank y.key) zs → 1 ≤ length zs → rank o.lo < rank y.key
        first_below [] h one = absurd (omega (arith, one))
        first_below (z ∷ zs) h one = let low = h.0 in let rest = between_order (rank z.key + 1) (rank y.key) zs h.1 in
            omega (arith, low, rest)

    pub two_has : (next : ℕ) (a b : CellSeen) → a.id ≡ o.id → b.id ≡ next → a.level ≡ o.level → b.level ≡ o.level → a.lo
        ≡ o.lo → a.hi ≡ key → b.lo ≡ key → b.hi ≡ o.hi
        → IsNodeOf (row_level w) (row_part w 0 cut) a.block
        → IsNodeOf (row_level w) (row_part w cut (length (row_items w))) b.block → mkfs_id_of a.block ≡ w.mkfs_id
        → mkfs_id_of b.block ≡ w.mkfs_id → HasItems o (row_items w) next (a ∷ (b ∷ []))
    two_has next a b ai bi al bl alo ahi blo bhi left right am bm =
        let low = low_below in
        let at_key = ap rank (ahi ∙ key_y) in
        let from_key = ap rank (blo ∙ key_y) in
        let start = ap rank alo in
        let end = ap rank bhi in
        let top = between_order (rank y.key + 1) (rank o.hi) ys (between_right (rank o.lo) (rank o.hi) xs y ys rising).1 in
        record {
          first = ap (λ i. i ∷ (b.id ∷ [])) ai;
          ranges = (
            al,
            start,
            omega (arith, low, at_key),
            (bl, omega (arith, from_key, at_key), omega (arith, at_key, end, top), end),
          );
          items_are = ap (λ zs. zs ++ (items_of b.block ++ [])) (left_node a.block left).items_are
              ∙ (ap (λ zs. xs ++ zs) (append-nil (items_of b.block) ∙ (right_node b.block right).items_are) ∙ sym parts);
          sound = λ x member. elim (cases a x (b ∷ []) member) [
            | inl e ↦ subst IsSound (sym e)
                (record {
                  whole = left.node.laid.whole;
                  accepted = subst
                      (λ k. cell_fault true (2 ^ 64) a.level (rank a.lo) (rank k) a.block ≡ None) (sym ahi)
                      (left_sound a.level a.lo a.block al alo left);
                })
            | inr more ↦ elim (cases b x [] more) [
              | inl e ↦ subst IsSound (sym e)
                  (record {
                    whole = right.node.laid.whole;
                    accepted = subst
                        (λ k. cell_fault true (2 ^ 64) b.level (rank k) (rank b.hi) b.block ≡ None) (sym blo)
                        (right_sound b.level b.hi b.block bl bhi right);
                  })
              | inr past ↦ absurd (none x past)
            ]
          ];
          fresh = (bi, tt);
          mkfs_id = λ x member. elim (cases a x (b ∷ []) member) [
            | inl e ↦ subst (λ (y : CellSeen). mkfs_id_of y.block ≡ mkfs_id_of o.block) (sym e) (am ∙ is.mkfs_id)
            | inr more ↦ elim (cases b x [] more) [
              | inl e ↦ subst (λ (y : CellSeen). mkfs_id_of y.block ≡ mkfs_id_of o.block) (sym e) (bm ∙ is.mkfs_id)
              | inr past ↦ absurd (none x past)
            ]
          ];
        }

-- above level 2 neither of two nodes is small
-- neither node is empty
pub two_some : (w : Row) (cut : ℕ) → 1 ≤ cut → cut < length (row_items w) → (a b : CellSeen)
    → IsNodeOf (row_level w) (row_part w 0 cut) a.block
    → IsNodeOf (row_level w) (row_part w cut (length (row_items w))) b.block → AreSome (a ∷ (b ∷ []))
two_some w cut some below a b left right x member =
    elim (cases a x (b ∷ []) member) [
      | inl is ↦ subst (λ (y : CellSeen). 1 ≤ length (items_of y.block)) (sym is) first
      | inr rest ↦ elim (cases b x [] rest) [
        | inl is ↦ subst (λ (y : CellSeen). 1 ≤ length (items_of y.block)) (sym is) second
        | inr more ↦ absurd (none x more)
      ]
    ]
  where
    first : 1 ≤ length (items_of a.block)
    first =
        let all = ap length left.items_are in
        let part = length-take (cut - 0) (row_items w) in
        omega (arith, all, part, some, below)

    second : 1 ≤ length (items_of b.block)
    second =
        let all = ap length right.items_are in
        let part = length-take (length (row_items w) - cut) (drop cut (row_items w)) in
        let rest = length-drop cut (row_items w) in
        omega (arith, all, part, rest, below)

pub two_filled : (o : CellSeen) (w : Row) → IsRowOf o w → (cut : ℕ) → IsCut w cut → (a b : CellSeen)
    → IsNodeOf (row_level w) (row_part w 0 cut) a.block
    → IsNodeOf (row_level w) (row_part w cut (length (row_items w))) b.block → 3 ≤ o.level → 4068 < weight (row_items w)
    → AreFilled (a ∷ (b ∷ []))
two_filled o w is cut at a b left right high over x member =
    let level = is.level in
    let (l, r) = at.filled (omega (arith, high, level)) over in
    let lw = ap weight left.items_are in
    let rw' = ap weight right.items_are in
    elim (cases a x (b ∷ []) member) [
      | inl e ↦ subst (λ (y : CellSeen). 1024 ≤ weight (items_of y.block)) (sym e) (omega (arith, l, lw))
      | inr more ↦ elim (cases b x [] more) [
        | inl e ↦ subst (λ (y : CellSeen). 1024 ≤ weight (items_of y.block)) (sym e) (omega (arith, r, rw'))
        | inr past ↦ absurd (none x past)
      ]
    ]

-- ---- one cell or two

next_more : (f : Fresh) (n : ℕ) → n ≡ 0 → f ≡ record f { next = f.next + n }
next_more f n e = λ i. record f { next = (let same : f.next ≡ f.next + n = omega (arith, e) in same) i }

pub shares_one : (o : CellSeen) (items : List Item) (f : Fresh) (cells : List CellSeen) → HasItems o items f.next cells
    → length cells ≡ 1 → weight items ≤ 4068 → Shares o items f f cells
shares_one o items f cells has one fits = record {
  has = has;
  number = next_more f (length (drop 1 cells)) (let d = length-drop 1 cells in omega (arith, d, one));
  few = (λ _. one, λ over. absurd (omega (arith, over, fits)));
  filled = λ high two. absurd (omega (arith, one, two));
}

pub shares_two : (o : CellSeen) (items : List Item) (f g : Fresh) (cells : List CellSeen) → HasItems o items f.next cells
    → length cells ≡ 2 → 4068 < weight items → g ≡ record f { next = f.next + 1 }
    → (3 ≤ o.level → 4068 < weight items → AreFilled cells) → Shares o items f g cells
shares_two o items f g cells has two over took filled = record {
  has = has;
  number = took ∙ (λ i. record f {
    next = (let same : f.next + 1
        ≡ f.next + length (drop 1 cells) = (let d = length-drop 1 cells in omega (arith, d, two)) in same) i;
  });
  few = (λ fits. absurd (omega (arith, over, fits)), λ _. two);
  filled = λ high _. filled high over;
}

pub weigh_all : (o : CellSeen) (w : Row) → IsRowOf o w → (n : ℕ) → n ≡ length (row_items w) → weight (row_part w 0 n)
    ≡ weight (row_items w)
weigh_all o w is n e = ap (λ k. weight (row_part w 0 k)) e ∙ ap weight (whole_part o w is)
