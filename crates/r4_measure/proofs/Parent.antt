-- What a parent and the cells in its place bear.
use Rattle.std.proofs.Common.{◌≡◌, ◌≢◌, ◌⊎◌, inl, inr, ℕ, zero, suc, ◌+◌, ◌-◌, ◌*◌, ◌/◌, ◌^◌, ◌<◌, ◌≤◌, Bool, true, false, List, [], ◌∷◌, ◌++◌, drop, length, map, refl, ap, sym, subst, ◌∙◌, arith}
use Rattle.std.specs.Prelude.{Contains, Option, None, Some, ◌==◌, if◌then◌else◌, min, sum_by}
use Rattle.std.proofs.lemmas.Bool.{cases_lt, eq-eqb, eqb-true, ne_eqb}
use Rattle.std.proofs.lemmas.List.Sums.{sum_by-append, sum_by-cons}
use Rattle.r4_base.specs.Extents.{pointer_of}
use Rattle.r4_base.specs.Node.{Item, items_of}
use Rattle.r4_reach.specs.r4_cell.Seen.{CellSeen}
use Rattle.r4_reach.specs.r4_cell.declared.change.Fresh.{Fresh}
use Rattle.r4_reach.specs.r4_patch.Joining.{ids_of}
use Rattle.r4_reach.specs.r4_path.Levels.{HasRow, Keeps}
use Rattle.r4_reach.specs.r4_path.Nodes.{IsPointable, pointer_item, weight, weight_of}
use Rattle.r4_reach.specs.r4_path.Sharing.{items_of_cells}
use Rattle.r4_reach.specs.r4_path.Steps.{Step}
use Rattle.r4_reach.proofs.r4_patch.Members.{cases, here, later, none}
use Rattle.r4_reach.proofs.r4_path.PointerNodes.{pointer_is}
use Rattle.r4_reach.proofs.r4_path.Pointers.{pointers_weigh}
use Rattle.r4_reach.proofs.r4_path.Upwards.{numbered}
use Rattle.r4_measure.specs.Budget.{Bears, HasNoFresh, IsFresh, IsSpent, below, grows, of_item, of_target}

-- ---- two functions

pub min_less : (a b : ℕ) → a ≤ b → min 1 a ≤ min 1 b
min_less zero b h = omega arith
min_less (suc a) zero h = absurd (omega (arith, h))
min_less (suc a) (suc b) h = omega arith

module _ (f : Fresh) (under left : ℕ → ℕ) (less : (i : ℕ) → (IsFresh f i → ⊥) → left i ≤ under i) where
  pub less_item : (it : Item) → (it.plugin ≡ 3 → (i : ℕ) → pointer_of it.body ≡ Some i → IsFresh f i → ⊥) → of_item left it ≤ of_item under it
  less_item it clean = by_plugin (it.plugin == 3) refl (pointer_of it.body) refl
    where
      by_plugin : (v : Bool) → (it.plugin == 3) ≡ v → (o : Option ℕ) → pointer_of it.body ≡ o → (if v then of_target left o else 0) ≤ (if v then of_target under o else 0)
      by_plugin false g o e = omega arith
      by_plugin true g None e = omega arith
      by_plugin true g (Some i) e = less i (clean (eqb-true it.plugin 3 g) i e)

  pub less_below : (items : List Item) → HasNoFresh f items → below left items ≤ below under items
  less_below [] clean = omega arith
  less_below (x ∷ xs) clean =
      let a = sum_by-cons (of_item left) x xs in
      let b = sum_by-cons (of_item under) x xs in
      let h = less_item x (λ p i. clean x i (here x xs) p) in
      let rest = less_below xs (λ it i member. clean it i (later x it xs member)) in
      omega (arith, a, b, h, rest)

  pub less_grows : (items : List Item) → HasNoFresh f items → grows left items ≤ grows under items
  less_grows [] clean = omega arith
  less_grows (x ∷ xs) clean =
      let a = sum_by-cons (λ (it : Item). min 1 (of_item left it)) x xs in
      let b = sum_by-cons (λ (it : Item). min 1 (of_item under it)) x xs in
      let h = min_less (of_item left x) (of_item under x) (less_item x (λ p i. clean x i (here x xs) p)) in
      let rest = less_grows xs (λ it i member. clean it i (later x it xs member)) in
      omega (arith, a, b, h, rest)

-- ---- pointers that come

pub pointable : (f : Fresh) → 2 ^ 63 ≤ f.next → f.end < 2 ^ 64 → (i : ℕ) → IsFresh f i → IsPointable i
pointable f low high i h = numbered i (omega (arith, low, h)) (omega (arith, high, h))

item_of_pointer : (g : ℕ → ℕ) (it : Item) (i : ℕ) → it.plugin ≡ 3 → pointer_of it.body ≡ Some i → of_item g it ≡ g i
item_of_pointer g it i p e = by_plugin (it.plugin == 3) (eq-eqb it.plugin 3 p)
  where
    by_plugin : (v : Bool) → v ≡ true → (if v then of_target g (pointer_of it.body) else 0) ≡ g i
    by_plugin true h = ap (of_target g) e
    by_plugin false h = absurd cc

pub of_pointer : (g : ℕ → ℕ) (c : CellSeen) → IsPointable c.id → of_item g (pointer_item c) ≡ g c.id
of_pointer g c able = item_of_pointer g (pointer_item c) c.id refl (pointer_is c.id able)

module _ (g : ℕ → ℕ) where
  pub pointers_below : (cells : List CellSeen) → ((c : CellSeen) → Contains cells c → IsPointable c.id) → below g (map pointer_item cells) ≡ sum_by (λ (c : CellSeen). g c.id) cells
  pointers_below [] able = refl
  pointers_below (c ∷ cs) able =
      let a = sum_by-cons (of_item g) (pointer_item c) (map pointer_item cs) in
      let b = sum_by-cons (λ (x : CellSeen). g x.id) c cs in
      let h = of_pointer g c (able c (here c cs)) in
      let rest = pointers_below cs (λ x member. able x (later c x cs member)) in
      omega (arith, a, b, h, rest)

  pointers_grow : (cells : List CellSeen) → ((c : CellSeen) → Contains cells c → IsPointable c.id) → ((c : CellSeen) → Contains cells c → g c.id ≡ 0) → grows g (map pointer_item cells) ≡ 0
  pointers_grow [] able zeros = refl
  pointers_grow (c ∷ cs) able zeros =
      let a = sum_by-cons (λ (it : Item). min 1 (of_item g it)) (pointer_item c) (map pointer_item cs) in
      let h : of_item g (pointer_item c) ≡ 0 = of_pointer g c (able c (here c cs)) ∙ zeros c (here c cs) in
      let m : min 1 (of_item g (pointer_item c)) ≡ 0 = ap (min 1) h in
      let rest = pointers_grow cs (λ x member. able x (later c x cs member)) (λ x member. zeros x (later c x cs member)) in
      omega (arith, a, m, rest)

-- ---- a number of parts for a number of bytes

pub ceiling : (g : ℕ) → (v : ℕ) × (g ≤ 4068 + 1024 * v) × ((v ≡ 0) ⊎ (4068 + 1024 * v < g + 1024))
ceiling g = elim (cases_lt 4068 g) [
  | inl over ↦ ((g - 4068 + 1023) / 1024, omega (arith, over), inr (omega (arith, over)))
  | inr fits ↦ (0, omega (arith, fits), inl refl)
]

-- ---- the parent

module _ (f : Fresh) (unplaced : 2 ^ 63 ≤ f.next) (high : f.end < 2 ^ 64) (l : ℕ) (under left own : ℕ → ℕ) (s u : Step) (low : 1 ≤ l) (s_level : s.old.level ≡ l) (u_level : u.old.level ≡ suc l)
    (is : IsSpent f under left s) (first : CellSeen) (cs : List CellSeen) (new : s.new ≡ first ∷ cs) (first_id : first.id ≡ s.old.id) (more : cs ≢ []) (fresh : (c : CellSeen) → Contains cs c → IsFresh f c.id)
    (row : HasRow s u) (clean : HasNoFresh f (items_of u.old.block)) where
  abbrev items : List Item
  items = items_of u.old.block

  abbrev now_row : List Item
  now_row = row.before ++ row.pointer ∷ (map pointer_item cs ++ row.behind)

  able : (c : CellSeen) → Contains cs c → IsPointable c.id
  able c member = pointable f unplaced high c.id (fresh c member)

  some : 1 ≤ length cs
  some = at_least cs more
    where
      at_least : (xs : List CellSeen) → xs ≢ [] → 1 ≤ length xs
      at_least [] h = absurd (h refl)
      at_least (x ∷ xs) h = omega arith

  rest_is : drop 1 s.new ≡ cs
  rest_is = ap (drop 1) new

  now_is : items_of_cells u.new ≡ now_row
  now_is = row.now ∙ ap (λ (xs : List CellSeen). row.before ++ row.pointer ∷ (map pointer_item xs ++ row.behind)) rest_is

  spent : left s.old.id + sum_by (λ (c : CellSeen). left c.id) cs + length cs ≤ under s.old.id
  spent =
      let a = sum_by-cons (λ (c : CellSeen). left c.id) first cs in
      let b = ap left first_id in
      let h = is.spent in
      let e = ap (λ (xs : List CellSeen). sum_by (λ (c : CellSeen). left c.id) xs) new in
      let n = ap (λ (xs : List CellSeen). length (drop 1 xs)) new in
      omega (arith, a, b, h, e, n)

  no_before : HasNoFresh f row.before
  no_before it i member = clean it i (subst (λ xs. Contains xs it) (sym row.was) (in_front row.before (row.pointer ∷ row.behind) it member))
    where
      in_front : (xs ys : List Item) (x : Item) → Contains xs x → Contains (xs ++ ys) x
      in_front [] ys x h = absurd (none x h)
      in_front (z ∷ zs) ys x h = elim (cases z x zs h) [ inl e ↦ subst (λ w. Contains (z ∷ (zs ++ ys)) w) (sym e) (here z (zs ++ ys)) | inr m ↦ later z x (zs ++ ys) (in_front zs ys x m) ]

  no_behind : HasNoFresh f row.behind
  no_behind it i member = clean it i (subst (λ xs. Contains xs it) (sym row.was) (in_back row.before (row.pointer ∷ row.behind) it (later row.pointer it row.behind member)))
    where
      in_back : (xs ys : List Item) (x : Item) → Contains ys x → Contains (xs ++ ys) x
      in_back [] ys x h = h
      in_back (z ∷ zs) ys x h = later z x (zs ++ ys) (in_back zs ys x h)

  was_below : below under items ≡ below under row.before + (under s.old.id + below under row.behind)
  was_below =
      let e = ap (below under) row.was in
      let a = sum_by-append (of_item under) row.before (row.pointer ∷ row.behind) in
      let b = sum_by-cons (of_item under) row.pointer row.behind in
      let p = item_of_pointer under row.pointer s.old.id row.plugin row.to in
      omega (arith, e, a, b, p)

  now_below : below left now_row ≡ below left row.before + (left s.old.id + (sum_by (λ (c : CellSeen). left c.id) cs + below left row.behind))
  now_below =
      let a = sum_by-append (of_item left) row.before (row.pointer ∷ (map pointer_item cs ++ row.behind)) in
      let b = sum_by-cons (of_item left) row.pointer (map pointer_item cs ++ row.behind) in
      let c = sum_by-append (of_item left) (map pointer_item cs) row.behind in
      let d = pointers_below left cs able in
      let p = item_of_pointer left row.pointer s.old.id row.plugin row.to in
      omega (arith, a, b, c, d, p)

  -- what comes below is less by what has come
  pub less_by : below left now_row + length cs ≤ below under items
  less_by =
      let a = was_below in
      let b = now_below in
      let p = less_below f under left is.less row.before no_before in
      let q = less_below f under left is.less row.behind no_behind in
      let h = spent in
      omega (arith, a, b, p, q, h)

  pub weighs : weight now_row ≡ weight items + 46 * length cs
  weighs =
      let e = ap weight row.was in
      let a = sum_by-append weight_of row.before (row.pointer ∷ (map pointer_item cs ++ row.behind)) in
      let b = sum_by-cons weight_of row.pointer (map pointer_item cs ++ row.behind) in
      let c = sum_by-append weight_of (map pointer_item cs) row.behind in
      let d = pointers_weigh (λ x. x) cs in
      let a2 = sum_by-append weight_of row.before (row.pointer ∷ row.behind) in
      let b2 = sum_by-cons weight_of row.pointer row.behind in
      omega (arith, e, a, b, c, d, a2, b2)

  -- a leaf that has grown grows clean more
  pub less_growing : u.old.level ≡ 2 → grows left now_row + 1 ≤ grows under items
  less_growing two =
      let once : (c : CellSeen) → Contains s.new c → left c.id ≡ 0 = is.once (omega (arith, two, u_level, s_level)) in
      let zeros : (c : CellSeen) → Contains cs c → left c.id ≡ 0 = λ c member. once c (subst (λ xs. Contains xs c) (sym new) (later first c cs member)) in
      let zero_old : left s.old.id ≡ 0 = ap left (sym first_id) ∙ once first (subst (λ xs. Contains xs first) (sym new) (here first cs)) in
      let one = λ (it : Item). min 1 (of_item left it) in
      let a = sum_by-append (λ (it : Item). min 1 (of_item left it)) row.before (row.pointer ∷ (map pointer_item cs ++ row.behind)) in
      let b = sum_by-cons (λ (it : Item). min 1 (of_item left it)) row.pointer (map pointer_item cs ++ row.behind) in
      let c = sum_by-append (λ (it : Item). min 1 (of_item left it)) (map pointer_item cs) row.behind in
      let d = pointers_grow left cs able zeros in
      let p : min 1 (of_item left row.pointer) ≡ 0 = ap (min 1) (item_of_pointer left row.pointer s.old.id row.plugin row.to ∙ zero_old) in
      let e = ap (grows under) row.was in
      let a2 = sum_by-append (λ (it : Item). min 1 (of_item under it)) row.before (row.pointer ∷ row.behind) in
      let b2 = sum_by-cons (λ (it : Item). min 1 (of_item under it)) row.pointer row.behind in
      let q : min 1 (of_item under row.pointer) ≡ 1 = at_one (of_item under row.pointer) (let h = spent in let n = some in let i = item_of_pointer under row.pointer s.old.id row.plugin row.to in omega (arith, h, n, i)) in
      let x = less_grows f under left is.less row.before no_before in
      let y = less_grows f under left is.less row.behind no_behind in
      omega (arith, a, b, c, d, p, e, a2, b2, q, x, y)
    where
      at_one : (n : ℕ) → 1 ≤ n → min 1 n ≡ 1
      at_one zero h = absurd (omega (arith, h))
      at_one (suc n) h = omega arith

  -- ---- one cell in its place

  module _ (x : CellSeen) (alone : u.new ≡ x ∷ []) (same : x.id ≡ u.old.id) (small : (i : ℕ) → own i ≤ 87) (bears : Bears under own (suc l) items u.old.id) where
    x_items : items_of x.block ≡ now_row
    x_items = no_more (items_of x.block) ∙ (ap items_of_cells (sym alone) ∙ now_is)
      where
        no_more : (xs : List Item) → xs ≡ xs ++ []
        no_more [] = refl
        no_more (y ∷ ys) = ap (λ zs. y ∷ zs) (no_more ys)

    one_spent : IsSpent f own own u
    one_spent = record {
      less = λ i h. omega arith;
      spent =
          let a = sum_by-cons (λ (c : CellSeen). own c.id) x [] in
          let e = ap (λ (xs : List CellSeen). sum_by (λ (c : CellSeen). own c.id) xs) alone in
          let n = ap (λ (xs : List CellSeen). length (drop 1 xs)) alone in
          let o = ap own same in
          omega (arith, a, e, n, o);
      small = small;
      others = λ i h. refl;
      once = λ z. absurd (omega (arith, z, u_level, low));
    }

    one_bears : Bears left own (suc l) now_row u.old.id
    one_bears =
        let a = less_by in
        let w = weighs in
        elim bears [
          | inl fits ↦ inl (omega (arith, a, w, fits))
          | inr rest ↦ elim rest [
            | inl empty ↦ inr (inl (omega (arith, a, empty)))
            | inr rest2 ↦ elim rest2 [
              | inl twig ↦ let g = less_growing (u_level ∙ twig.0) in let h = twig.1 in inr (inr (inl (twig.0, omega (arith, g, h))))
              | inr node ↦ let h = node.1 in inr (inr (inr (node.0, omega (arith, a, w, h))))
            ]
          ]
        ]

    pub one_cell : (after : ℕ → ℕ) × (IsSpent f own after u) × ((c : CellSeen) → Contains u.new c → Bears left after (suc l) (items_of c.block) c.id)
    one_cell = (
      own,
      one_spent,
      λ c member. elim (cases x c [] (subst (λ xs. Contains xs c) alone member)) [
        | inl e ↦ subst (λ (y : CellSeen). Bears left own (suc l) (items_of y.block) y.id) (sym e)
            (subst (λ xs. Bears left own (suc l) xs x.id) (sym x_items) (subst (λ i. Bears left own (suc l) now_row i) (sym same) one_bears))
        | inr m ↦ absurd (none c m)
      ],
    )

  -- ---- two

  module _ (x y : CellSeen) (both : u.new ≡ x ∷ (y ∷ [])) (same : x.id ≡ u.old.id) (y_fresh : IsFresh f y.id) (u_old : IsFresh f u.old.id → ⊥) (small : (i : ℕ) → own i ≤ 87)
      (full : 4068 < weight items + 46 * length cs) (filled : 3 ≤ suc l → (1024 ≤ weight (items_of x.block)) × (1024 ≤ weight (items_of y.block))) (bears : Bears under own (suc l) items u.old.id) where
    xy_items : items_of x.block ++ (items_of y.block ++ []) ≡ now_row
    xy_items = ap items_of_cells (sym both) ∙ now_is

    sums : (g : Item → ℕ) → sum_by g (items_of x.block) + sum_by g (items_of y.block) ≡ sum_by g now_row
    sums g =
        let e = ap (λ (xs : List Item). sum_by g xs) xy_items in
        let a = sum_by-append g (items_of x.block) (items_of y.block ++ []) in
        let b = sum_by-append g (items_of y.block) [] in
        omega (arith, e, a, b)

    -- the two cells keep so much, and nothing else changes
    abbrev after_of : (v w : ℕ) → ℕ → ℕ
    after_of v w i = if i == y.id then w else (if i == x.id then v else own i)

    apart : x.id ≢ y.id
    apart e = u_old (subst (IsFresh f) (sym e ∙ same) y_fresh)

    at_y : (v w : ℕ) → after_of v w y.id ≡ w
    at_y v w = by_test (y.id == y.id) (eq-eqb y.id y.id refl)
      where
        by_test : (t : Bool) → t ≡ true → (if t then w else (if y.id == x.id then v else own y.id)) ≡ w
        by_test true h = refl
        by_test false h = absurd cc

    at_other : (v w i : ℕ) → i ≢ y.id → after_of v w i ≡ (if i == x.id then v else own i)
    at_other v w i ne = by_test (i == y.id) (ne_eqb i y.id ne)
      where
        by_test : (t : Bool) → t ≡ false → (if t then w else (if i == x.id then v else own i)) ≡ (if i == x.id then v else own i)
        by_test true h = absurd cc
        by_test false h = refl

    at_x : (v w : ℕ) → after_of v w x.id ≡ v
    at_x v w = at_other v w x.id apart ∙ by_test (x.id == x.id) (eq-eqb x.id x.id refl)
      where
        by_test : (t : Bool) → t ≡ true → (if t then v else own x.id) ≡ v
        by_test true h = refl
        by_test false h = absurd cc

    at_none : (v w i : ℕ) → i ≢ y.id → i ≢ x.id → after_of v w i ≡ own i
    at_none v w i ne ne2 = at_other v w i ne ∙ by_test (i == x.id) (ne_eqb i x.id ne2)
      where
        by_test : (t : Bool) → t ≡ false → (if t then v else own i) ≡ own i
        by_test true h = absurd cc
        by_test false h = refl

    two_spent : (v w : ℕ) → v + w + 1 ≤ own u.old.id → IsSpent f own (after_of v w) u
    two_spent v w fits = record {
      less = λ i old. by_x i old (i == x.id) refl;
      spent =
          let a = sum_by-cons (λ (c : CellSeen). after_of v w c.id) x (y ∷ []) in
          let b = sum_by-cons (λ (c : CellSeen). after_of v w c.id) y [] in
          let e = ap (λ (xs : List CellSeen). sum_by (λ (c : CellSeen). after_of v w c.id) xs) both in
          let n = ap (λ (xs : List CellSeen). length (drop 1 xs)) both in
          let p = at_x v w in
          let q = at_y v w in
          omega (arith, a, b, e, n, p, q, fits);
      small = λ i. by_y i (i == y.id) (i == x.id);
      others = λ i out. at_none v w i (λ e. out (subst (λ xs. Contains (ids_of xs) i) (sym both) (subst (λ k. Contains (x.id ∷ (y.id ∷ [])) k) (sym e) (later x.id y.id (y.id ∷ []) (here y.id [])))))
          (λ e. out (subst (λ xs. Contains (ids_of xs) i) (sym both) (subst (λ k. Contains (x.id ∷ (y.id ∷ [])) k) (sym e) (here x.id (y.id ∷ [])))));
      once = λ z. absurd (omega (arith, z, u_level, low));
    }
      where
        own_x : v ≤ own x.id
        own_x = let e = ap own same in omega (arith, e, fits)

        by_x : (i : ℕ) → (IsFresh f i → ⊥) → (t : Bool) → (i == x.id) ≡ t → after_of v w i ≤ own i
        by_x i old t g =
            let e = at_other v w i (λ z. old (subst (IsFresh f) (sym z) y_fresh)) in
            go t g e
          where
            go : (t : Bool) → (i == x.id) ≡ t → after_of v w i ≡ (if i == x.id then v else own i) → after_of v w i ≤ own i
            go true g e =
                let h = ap own (eqb-true i x.id g) in
                let o = own_x in
                let k : (if i == x.id then v else own i) ≡ v = ap (λ b. if b then v else own i) g in
                omega (arith, e, h, o, k)
            go false g e = let k : (if i == x.id then v else own i) ≡ own i = ap (λ b. if b then v else own i) g in omega (arith, e, k)

        by_y : (i : ℕ) (t r : Bool) → (if t then w else (if r then v else own i)) ≤ 87
        by_y i true r = let h = small u.old.id in omega (arith, h, fits)
        by_y i false true = let h = small u.old.id in omega (arith, h, fits)
        by_y i false false = small i

    abbrev Both : Type 0
    Both = (v w : ℕ) × (v + w + 1 ≤ own u.old.id) × ((o : ℕ → ℕ) → o x.id ≡ v → o y.id ≡ w → Bears left o (suc l) (items_of x.block) x.id × Bears left o (suc l) (items_of y.block) y.id)

    shared : Both
    shared =
        let a = less_by in
        let w = weighs in
        let m = some in
        elim bears [
          | inl fits ↦ absurd (omega (arith, a, full, fits))
          | inr rest ↦ elim rest [
            | inl empty ↦ absurd (omega (arith, a, m, empty))
            | inr rest2 ↦ elim rest2 [
              | inl twig ↦
                  let g = less_growing (u_level ∙ twig.0) in
                  let h = twig.1 in
                  let two = sums (λ (it : Item). min 1 (of_item left it)) in (
                    grows left (items_of x.block),
                    grows left (items_of y.block),
                    omega (arith, g, h, two),
                    λ o ox oy. (inr (inr (inl (twig.0, omega (arith, ox)))), inr (inr (inl (twig.0, omega (arith, oy))))),
                  )
              | inr node ↦
                  let h = node.1 in
                  let (p, p_fits, p_few) = ceiling (weight (items_of x.block) + 46 * below left (items_of x.block)) in
                  let (q, q_fits, q_few) = ceiling (weight (items_of y.block) + 46 * below left (items_of y.block)) in
                  let parts = sums weight_of in
                  let comes = sums (of_item left) in
                  let fill = filled node.0 in (
                    p,
                    q,
                    elim p_few [
                      | inl p0 ↦ elim q_few [
                        | inl q0 ↦ omega (arith, p0, q0, a, full, h)
                        | inr q1 ↦ omega (arith, p0, q1, a, w, full, h, parts, comes, fill)
                      ]
                      | inr p1 ↦ elim q_few [
                        | inl q0 ↦ omega (arith, p1, q0, a, w, full, h, parts, comes, fill)
                        | inr q1 ↦ omega (arith, p1, q1, a, w, full, h, parts, comes)
                      ]
                    ],
                    λ o ox oy. (inr (inr (inr (node.0, omega (arith, ox, p_fits)))), inr (inr (inr (node.0, omega (arith, oy, q_fits))))),
                  )
            ]
          ]
        ]

    pub two_cells : (after : ℕ → ℕ) × (IsSpent f own after u) × ((c : CellSeen) → Contains u.new c → Bears left after (suc l) (items_of c.block) c.id)
    two_cells =
        let (v, w, fits, bear) = shared in
        let (bx, by) = bear (after_of v w) (at_x v w) (at_y v w) in (
          after_of v w,
          two_spent v w fits,
          λ c member. elim (cases x c (y ∷ []) (subst (λ xs. Contains xs c) both member)) [
            | inl e ↦ subst (λ (z : CellSeen). Bears left (after_of v w) (suc l) (items_of z.block) z.id) (sym e) bx
            | inr m ↦ elim (cases y c [] m) [
              | inl e ↦ subst (λ (z : CellSeen). Bears left (after_of v w) (suc l) (items_of z.block) z.id) (sym e) by
              | inr m2 ↦ absurd (none c m2)
            ]
          ],
        )

-- ---- all of it

module _ (f : Fresh) (l : ℕ) (under left own : ℕ → ℕ) (s u : Step) (unplaced : 2 ^ 63 ≤ f.next) (high : f.end < 2 ^ 64) (low : 1 ≤ l) (s_level : s.old.level ≡ l) (u_level : u.old.level ≡ suc l)
    (is : IsSpent f under left s) (first : ids_of s.new ≡ s.old.id ∷ ids_of (drop 1 s.new)) (several : length s.new ≢ 1) (fresh : (c : CellSeen) → Contains (drop 1 s.new) c → IsFresh f c.id)
    (row : HasRow s u) (keeps : Keeps u) (room : weight (items_of u.old.block) + 46 * length (drop 1 s.new) ≤ 4068 → length u.new ≡ 1)
    (u_first : ids_of u.new ≡ u.old.id ∷ ids_of (drop 1 u.new)) (u_fresh : (c : CellSeen) → Contains (drop 1 u.new) c → IsFresh f c.id) (u_old : IsFresh f u.old.id → ⊥)
    (clean : HasNoFresh f (items_of u.old.block)) (small : (i : ℕ) → own i ≤ 87) (bears : Bears under own (suc l) (items_of u.old.block) u.old.id) where
  abbrev Goal : Type 0
  Goal = (after : ℕ → ℕ) × (IsSpent f own after u) × ((c : CellSeen) → Contains u.new c → Bears left after (suc l) (items_of c.block) c.id)

  by_cells : (a : CellSeen) (cs : List CellSeen) → s.new ≡ a ∷ cs → (new : List CellSeen) → u.new ≡ new → Goal
  by_cells a cs new [] e = absurd (no_first (subst (λ xs. ids_of xs ≡ u.old.id ∷ ids_of (drop 1 xs)) e u_first))
    where
      no_first : [] ≡ u.old.id ∷ [] → ⊥
      no_first h = absurd cc
  by_cells a cs new (x ∷ []) e =
      one_cell f unplaced high l under left own s u low s_level u_level is a cs new (heads a cs s.old.id (ids_of (drop 1 s.new)) (ap ids_of (sym new) ∙ first)) (some_more a cs new)
      (λ c member. fresh c (subst (λ xs. Contains (drop 1 xs) c) (sym new) member)) row clean x e (heads x [] u.old.id (ids_of (drop 1 u.new)) (ap ids_of (sym e) ∙ u_first)) small bears
    where
      heads : (c : CellSeen) (xs : List CellSeen) (i : ℕ) (is : List ℕ) → ids_of (c ∷ xs) ≡ i ∷ is → c.id ≡ i
      heads c xs i is h = cc

      some_more : (c : CellSeen) (xs : List CellSeen) → s.new ≡ c ∷ xs → xs ≢ []
      some_more c xs h z = several (ap length h ∙ ap (λ (ys : List CellSeen). length (c ∷ ys)) z)
  by_cells a cs new (x ∷ (y ∷ [])) e =
      two_cells f unplaced high l under left own s u low s_level u_level is a cs new (heads a cs s.old.id (ids_of (drop 1 s.new)) (ap ids_of (sym new) ∙ first)) (some_more a cs new)
      (λ c member. fresh c (subst (λ xs. Contains (drop 1 xs) c) (sym new) member)) row clean x y e (heads x (y ∷ []) u.old.id (ids_of (drop 1 u.new)) (ap ids_of (sym e) ∙ u_first))
      (u_fresh y (subst (λ xs. Contains (drop 1 xs) y) (sym e) (here y []))) u_old small is_full is_filled bears
    where
      heads : (c : CellSeen) (xs : List CellSeen) (i : ℕ) (is : List ℕ) → ids_of (c ∷ xs) ≡ i ∷ is → c.id ≡ i
      heads c xs i is h = cc

      some_more : (c : CellSeen) (xs : List CellSeen) → s.new ≡ c ∷ xs → xs ≢ []
      some_more c xs h z = several (ap length h ∙ ap (λ (ys : List CellSeen). length (c ∷ ys)) z)

      is_full : 4068 < weight (items_of u.old.block) + 46 * length cs
      is_full = elim (cases_lt 4068 (weight (items_of u.old.block) + 46 * length cs)) [
        | inl over ↦ over
        | inr fits ↦
            let n = ap (λ (xs : List CellSeen). length (drop 1 xs)) new in
            let one = room (omega (arith, fits, n)) in
            let two = ap length e in
            absurd (omega (arith, one, two))
      ]

      is_filled : 3 ≤ suc l → (1024 ≤ weight (items_of x.block)) × (1024 ≤ weight (items_of y.block))
      is_filled three =
          let h = keeps.filled (omega (arith, three, u_level)) (ap length e) in
          (h x (subst (λ xs. Contains xs x) (sym e) (here x (y ∷ []))), h y (subst (λ xs. Contains xs y) (sym e) (later x y (y ∷ []) (here y []))))
  by_cells a cs new (x ∷ (y ∷ (z ∷ more))) e = let n = keeps.few in let m = ap length e in absurd (omega (arith, n, m))

  pub parent_bears : Goal
  parent_bears = by_new s.new refl
    where
      by_new : (xs : List CellSeen) → s.new ≡ xs → Goal
      by_new [] e = absurd (no_first (subst (λ ys. ids_of ys ≡ s.old.id ∷ ids_of (drop 1 ys)) e first))
        where
          no_first : [] ≡ s.old.id ∷ [] → ⊥
          no_first h = absurd cc
      by_new (a ∷ cs) e = by_cells a cs e u.new refl
