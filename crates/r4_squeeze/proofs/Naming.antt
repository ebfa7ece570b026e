-- The pointers to a slum among the items of the cell above it.
use Rattle.std.proofs.Common.{◌≡◌, ◌⊎◌, inl, inr, ℕ, zero, suc, ◌+◌, ◌-◌, ◌<◌, ◌≤◌, Bool, true, false, List, [], ◌∷◌, ◌++◌}
use Rattle.std.proofs.Common.{drop, length, take, refl, sym, ap, subst, ◌∙◌, arith}
use Rattle.std.specs.Prelude.{◌↔◌, MatchBool, Contains, Option, Some, None, ◌==◌, slice_get, if◌then◌else◌}
use Rattle.std.proofs.lemmas.Bool.{cases_lt, false≢true}
use Rattle.std.proofs.lemmas.List.{append-nil, take-append-drop}
use Rattle.std.proofs.lemmas.List.Elements.{Contains-append_cases, Contains-append_left, Contains-append_right}
use Rattle.std.proofs.lemmas.Option.{same_Some}
use Rattle.r4_base.specs.Cell.{block_names, cell_of, item_names, names_in, next_key, pointer_names}
use Rattle.r4_base.specs.Extents.{pointer_of, units_of}
use Rattle.r4_base.specs.Key.{rank}
use Rattle.r4_base.specs.Node.{Item, KeysRise, items_of}
use Rattle.r4_base.specs.Tree.{Name}
use Rattle.r4_cell.proofs.ItemRows.{extent_data}
use Rattle.r4_cell.specs.Seen.{CellSeen, node_of}
use Rattle.r4_node40.proofs.Accepted.{good}
use Rattle.r4_node40.proofs.Following.{item_first}
use Rattle.r4_patch.proofs.Members.{cases, here, later, none}
use Rattle.r4_path.specs.Sharing.{IsSound}
use Rattle.r4_path.specs.Steps.{Follow, name_of}
use Rattle.r4_path.proofs.CellNodes.{names_are}
use Rattle.r4_path.proofs.Finding.{find, placed}
use Rattle.r4_path.proofs.Lying.{Good}
use Rattle.r4_path.proofs.Parenting.{begins, sound_node}
use Rattle.r4_path.proofs.Rows.{Between, names_append, rise_between}
use Rattle.r4_squeeze.specs.Items.{Stand}
use Rattle.r4_squeeze.specs.Over.{ArePointedTo, IsSlumOf, PointsTo}
use Rattle.r4_squeeze.proofs.Standing.{good_stand, stand_below, stand_right}

-- ---- a cell that may stand

module _ (c : CellSeen) (some : 1 ≤ c.level) (sound : IsSound c) where
  pub cell_rise : KeysRise (items_of c.block)
  cell_rise = (good c.block sound.whole (sound_node c some sound).accepted).0.keys

  pub cell_good : Good c.level (rank c.lo) (rank c.hi) 0 (items_of c.block)
  cell_good = (sound_node c some sound).items

  pub cell_stand : Stand (rank c.hi) (items_of c.block)
  cell_stand = good_stand c.level (rank c.lo) (rank c.hi) 0 (items_of c.block) cell_rise cell_good

-- ---- one pointer after the other

pub pointed_then : (level hi at : ℕ) (items : List Item) (c : CellSeen) (cells all : List CellSeen) (it : Item)
    (rest : Bool) → all ≡ c ∷ cells → slice_get items at ≡ Some it
    → (c.level ≡ level) × PointsTo hi c it (drop (at + 1) items)
    → ((rest ≡ true) ↔ ArePointedTo level hi (drop (at + 1) items) cells)
    → (rest ≡ true) ↔ ArePointedTo level hi (drop at items) all
pointed_then level hi at items c cells all it rest are is one both = (
  λ e. subst (λ xs. ArePointedTo level hi xs all) (sym (item_first items at it is))
      (subst (ArePointedTo level hi (it ∷ drop (at + 1) items)) (sym are) (one.0, one.1, both.0 e)),
  λ h. both.1 (subst (ArePointedTo level hi (it ∷ drop (at + 1) items)) are
      (subst (λ xs. ArePointedTo level hi xs all) (item_first items at it is) h)).2,
)

pub pointed_no : (level hi at : ℕ) (items : List Item) (c : CellSeen) (cells all : List CellSeen) (it : Item)
    → all ≡ c ∷ cells → slice_get items at ≡ Some it
    → ((c.level ≡ level) × PointsTo hi c it (drop (at + 1) items) → ⊥)
    → ArePointedTo level hi (drop at items) all → ⊥
pointed_no level hi at items c cells all it are is never h =
    let p = subst (ArePointedTo level hi (it ∷ drop (at + 1) items)) are
    (subst (λ xs. ArePointedTo level hi xs all) (item_first items at it is) h) in
    never (p.0, p.1)

pub pointed_past : (level hi at : ℕ) (items : List Item) (c : CellSeen) (cells all : List CellSeen)
    → all ≡ c ∷ cells → length items ≤ at → ArePointedTo level hi (drop at items) all → ⊥
pointed_past level hi at items c cells all are past h =
    subst (ArePointedTo level hi []) are (subst (λ xs. ArePointedTo level hi xs all) (gone items at past) h)
  where
    gone : (xs : List Item) (n : ℕ) → length xs ≤ n → drop n xs ≡ []
    gone [] zero past = refl
    gone [] (suc n) past = refl
    gone (x ∷ xs) zero past = absurd (omega (arith, past))
    gone (x ∷ xs) (suc n) past = gone xs n (omega (arith, past))

pub some_at : (xs : List Item) (k : ℕ) → k < length xs → (x : Item) × (slice_get xs k ≡ Some x)
some_at [] k lt = absurd (omega (arith, lt))
some_at (x ∷ xs) zero lt = (x, refl)
some_at (x ∷ xs) (suc k) lt = some_at xs k (omega (arith, lt))

-- ---- where pointers stand, there is a slum

unfold_names : (level next : ℕ) (p : Item) (to : ℕ) → p.plugin ≡ 3 → pointer_of p.body ≡ Some to
    → item_names level next p ≡ record { id = to; level = level - 1; lo = rank p.key; hi = next } ∷ []
unfolding item_names
unfold_names level next p to plugin is = let a : (p.plugin == 3) ≡ true = ap (λ (x : ℕ). x == 3) plugin in rw (a, is) refl

names_first : (l hi : ℕ) (x : Item) (xs : List Item) → names_in l hi (x ∷ xs)
    ≡ item_names l (next_key hi xs) x ++ names_in l hi xs
unfolding names_in
names_first l hi x xs = refl

module _ (level hi : ℕ) where
  pub pointed_follow : (xs : List Item) (c : CellSeen) (cells : List CellSeen) → Stand hi xs
      → ArePointedTo level hi xs (c ∷ cells) → (to : ℕ) × (rank c.lo < to) × Follow level (rank c.lo) to (c ∷ cells)
  pointed_follow [] c cells stand p = absurd p
  pointed_follow (x ∷ xs) c [] (placed, below, end, rest) (same, points, more) =
      let key = points.key in
      let next = points.next in
      let lt : rank c.lo < rank c.hi = omega (arith, key, next, below) in
      (rank c.hi, lt, (same, refl, lt, refl))
  pointed_follow (x ∷ xs) c (d ∷ cells) (placed, below, end, rest) (same, points, more) =
      let key = points.key in
      let next = points.next in
      let lt : rank c.lo < rank c.hi = omega (arith, key, next, below) in
      let (to, far, follow) = pointed_follow xs d cells rest more in
      let begin = begins xs d cells more in
      let at : rank d.lo ≡ rank c.hi = sym begin ∙ next in
      (to, omega (arith, lt, far, at), (same, refl, lt, subst (λ k. Follow level k to (d ∷ cells)) at follow))
    where
      begins : (xs : List Item) (d : CellSeen) (cells : List CellSeen) → ArePointedTo level hi xs (d ∷ cells)
          → next_key hi xs ≡ rank d.lo
      begins [] d cells p = absurd p
      begins (x ∷ xs) d cells (same, points, more) = points.key

  pub pointed_named : (l : ℕ) → level ≡ l - 1 → 1 ≤ l → (xs : List Item) (cells : List CellSeen)
      → ArePointedTo level hi xs cells → (c : CellSeen) → Contains cells c → Contains (names_in l hi xs) (name_of c)
  pointed_named l down some xs [] p c at = absurd (none c at)
  pointed_named l down some [] (d ∷ cells) p c at = absurd p
  pointed_named l down some (x ∷ xs) (d ∷ cells) (same, points, more) c at =
      subst (λ ns. Contains ns (name_of c)) (sym (names_first l hi x xs)) (elim (cases d c cells at) [
        | inl is ↦ Contains-append_left (item_names l (next_key hi xs) x) (names_in l hi xs) (name_of c)
            (subst (λ ns. Contains ns (name_of c)) (sym (unfold_names l (next_key hi xs) x d.id points.plugin points.to))
            (subst (λ (n : Name). Contains (record { id = d.id; level = l - 1; lo = rank x.key; hi = next_key hi xs } ∷ []) n)
            (named x xs d same points ∙ sym (ap name_of is))
            (here (record { id = d.id; level = l - 1; lo = rank x.key; hi = next_key hi xs }) [])))
        | inr rest ↦ Contains-append_right (item_names l (next_key hi xs) x) (names_in l hi xs) (name_of c)
            (pointed_named l down some xs cells more c rest)
      ])
    where
      named : (x : Item) (xs : List Item) (d : CellSeen) → d.level ≡ level → PointsTo hi d x xs
          → record { id = d.id; level = l - 1; lo = rank x.key; hi = next_key hi xs } ≡ name_of d
      named x xs d same points = λ i. record {
        id = d.id;
        level = (sym (same ∙ down)) i;
        lo = points.key i;
        hi = points.next i;
      }

-- ---- where there is a slum, pointers stand

module _ (parent : CellSeen) (sound : IsSound parent) (high : 1 ≤ parent.level) (l : ℕ) (up : parent.level ≡ suc l)
    (low : 1 ≤ l) where
  abbrev pub items : List Item
  items = items_of parent.block

  abbrev pub hi : ℕ
  hi = rank parent.hi

  between : (lo : ℕ) → lo ≤ rank parent.lo → rank parent.lo ≤ hi → Between (rank parent.lo) hi items
  between lo le most = rise_between parent.level (rank parent.lo) hi 0 items most (cell_rise parent high sound)
      (cell_good parent high sound)

  pub slum_pointed : (cells : List CellSeen) (r lo to : ℕ) → rank parent.lo ≤ hi → Follow l lo to cells
      → ((k : ℕ) (x : Item) → k < r → slice_get items k ≡ Some x → rank x.key < lo)
      → ((x : Item) → slice_get items r ≡ Some x → lo ≤ rank x.key)
      → ((c : CellSeen) → Contains cells c → Contains (node_of parent).names (name_of c))
      → ArePointedTo l hi (drop r items) cells
  slum_pointed [] r lo to most follow below past named = tt
  slum_pointed (c ∷ cells) r lo to most (level, at, lt, more) below past named =
      let n = name_of c in
      let f = find (suc l) hi items n (omega (arith, level, low))
      (subst (λ ns. Contains ns n) (names_are parent l up) (named c (here c cells))) in
      let is_place : r ≡ length f.before = placed (rank parent.lo) hi lo r f.before f.p f.behind
      (subst (Between (rank parent.lo) hi) f.parts (between (rank parent.lo) (omega arith) most))
      (f.points.key ∙ at)
      (λ k x less is. below k x less (subst (λ xs. slice_get xs k ≡ Some x) (sym f.parts) is))
      (λ x is. past x (subst (λ xs. slice_get xs r ≡ Some x) (sym f.parts) is)) in
      let here_it : slice_get items r ≡ Some f.p = ap (λ xs. slice_get xs r) f.parts
      ∙ (ap (slice_get (f.before ++ f.p ∷ f.behind)) is_place ∙ get_at f.before f.p f.behind) in
      let rest : drop (r + 1) items ≡ f.behind = ap (drop (r + 1)) f.parts
      ∙ (ap (λ k. drop (k + 1) (f.before ++ f.p ∷ f.behind)) is_place ∙ drop_more f.before f.p f.behind) in
      let key = f.points.key in
      let next = f.points.next in
      subst (λ xs. ArePointedTo l hi xs (c ∷ cells)) (sym (item_first items r f.p here_it)) (
        level,
        record {
          plugin = f.points.plugin;
          to = f.points.to;
          key = f.points.key;
          next = ap (next_key hi) rest ∙ f.points.next;
        },
        slum_pointed cells (r + 1) (rank c.hi) to most more
            (λ k x less is. elim (cases_lt k r) [
              | inl before ↦ let h = below k x before is in omega (arith, h, lt)
              | inr after ↦
                  let same : k ≡ r = omega (arith, less, after) in
                  let eq = ap (λ (y : Item). rank y.key) (same_Some f.p x (sym here_it ∙ (ap (slice_get items) (sym same) ∙ is))) in
                  omega (arith, eq, key, at, lt)
            ])
            (λ x is. let first = first_of items (r + 1) x is in
            let e = ap (next_key hi) rest in omega (arith, first, e, next))
            (λ d m. named d (later c d cells m)),
      )
    where
      get_at : (xs : List Item) (p : Item) (ys : List Item) → slice_get (xs ++ p ∷ ys) (length xs) ≡ Some p
      get_at [] p ys = refl
      get_at (x ∷ xs) p ys = get_at xs p ys

      drop_more : (xs : List Item) (p : Item) (ys : List Item) → drop (length xs + 1) (xs ++ p ∷ ys) ≡ ys
      drop_more [] p ys = refl
      drop_more (x ∷ xs) p ys = ap (λ k. drop k (x ∷ (xs ++ p ∷ ys)))
          (let step : length (x ∷ xs) + 1 ≡ suc (length xs + 1) = omega arith in step) ∙ drop_more xs p ys

      first_of : (xs : List Item) (k : ℕ) (x : Item) → slice_get xs k ≡ Some x → next_key hi (drop k xs) ≡ rank x.key
      first_of xs k x is = ap (next_key hi) (item_first xs k x is)

-- ---- what a slum says of the level of the cell above it

names_of_none : (level hi : ℕ) → names_in level hi [] ≡ []
unfolding names_in
names_of_none _ _ = refl

data_names : (k lo hi : ℕ) (b : List ℕ) → k ≡ 0 → (cell_of k lo hi b).names ≡ []
unfolding cell_of
data_names zero lo hi b e = refl
data_names (suc k) lo hi b e = absurd (omega (arith, e))

names_of_data : (c : CellSeen) → c.level ≡ 0 → (node_of c).names ≡ []
names_of_data c e = data_names c.level (rank c.lo) (rank c.hi) c.block e

down_one : (level key next : ℕ) (o : Option ℕ) (n : Name) → Contains (pointer_names level key next o) n
    → n.level ≡ level - 1
down_one level key next None n h = absurd (none n h)
down_one level key next (Some to) n h =
    elim (cases (record { id = to; level = level - 1; lo = key; hi = next }) n [] h) [
      | inl e ↦ ap (λ (m : Name). m.level) e
      | inr more ↦ absurd (none n more)
    ]

chosen_names : (a b : Bool) (xs ys : List Name) (n : Name) → Contains (if a then xs else if b then ys else []) n
    → Contains xs n ⊎ Contains ys n
chosen_names true b xs ys n h = inl h
chosen_names false true xs ys n h = inr h
chosen_names false false xs ys n h = absurd (none n h)

down_item : (level next : ℕ) (p : Item) (n : Name) → 1 ≤ n.level → Contains (item_names level next p) n
    → n.level ≡ level - 1
unfolding item_names
down_item level next p n low h = elim
    (chosen_names (p.plugin == 3) (p.plugin == 5) (pointer_names level (rank p.key) next (pointer_of p.body))
    (block_names (rank p.key) (units_of p.body)) n h) [
      | inl pointer ↦ down_one level (rank p.key) next (pointer_of p.body) n pointer
      | inr blocks ↦ let data_level = extent_data (rank p.key) (units_of p.body) n blocks in
          absurd (omega (arith, data_level, low))
    ]

down_names : (level hi : ℕ) (items : List Item) (n : Name) → 1 ≤ n.level → Contains (names_in level hi items) n
    → n.level ≡ level - 1
down_names level hi [] n low h = absurd (no_names level hi n h)
  where
    no_names : (level hi : ℕ) (n : Name) → Contains (names_in level hi []) n → ⊥
    no_names level hi n h = none n (subst (λ ns. Contains ns n) (names_of_none level hi) h)
down_names level hi (x ∷ xs) n low h = elim
    (Contains-append_cases (item_names level (next_key hi xs) x) (names_in level hi xs) n
    (subst (λ ns. Contains ns n) (names_first level hi x xs) h)) [
      | inl mine ↦ down_item level (next_key hi xs) x n low mine
      | inr rest ↦ down_names level hi xs n low rest
    ]

names_down : (parent : CellSeen) (k : ℕ) → parent.level ≡ k → (n : Name) → 1 ≤ n.level
    → Contains (node_of parent).names n → suc n.level ≡ k
names_down parent zero e n low h = absurd (none n (subst (λ ns. Contains ns n) (names_of_data parent e) h))
names_down parent (suc l) e n low h =
    let is = down_names (suc l) (rank parent.hi) (items_of parent.block) n low
    (subst (λ ns. Contains ns n) (names_are parent l e) h) in
    omega (arith, is)

-- the level of the first cell of a slum is the one below the level of the cell above
pub slum_level : (slum : List CellSeen) (parent c : CellSeen) (rest : List CellSeen) → slum ≡ c ∷ rest
    → IsSlumOf slum parent → (1 ≤ c.level) × (suc c.level ≡ parent.level)
slum_level slum parent c rest are s =
    let follow = subst (Follow s.level s.from s.to) are s.beside.follow in
    let low = s.beside.branch in
    let at = subst (λ cs. Contains cs c) (sym are) (here c rest) in
    let one : 1 ≤ c.level = omega (arith, low, follow.0) in
    (one, names_down parent parent.level refl (name_of c) one (s.named c at))

-- the range of a cell above leaf level
pub range_rises : (parent : CellSeen) → 2 ≤ parent.level → IsSound parent → rank parent.lo ≤ rank parent.hi
range_rises parent two sound =
    let first = begins parent (rank parent.hi) [] two sound in
    let same = append-nil (items_of parent.block) in
    let first_is : next_key (rank parent.hi) (items_of parent.block) ≡ rank parent.lo =
    ap (next_key (rank parent.hi)) (sym same) ∙ first in
    let below = stand_below (rank parent.hi) (items_of parent.block) (cell_stand parent (omega (arith, two)) sound) in
    omega (arith, below, first_is)

stand_drop : (hi n : ℕ) (xs : List Item) → Stand hi xs → Stand hi (drop n xs)
stand_drop hi n xs h = stand_right hi (take n xs) (drop n xs) (subst (Stand hi) (sym (take-append-drop n xs)) h)

names_dropped : (level hi n : ℕ) (xs : List Item) (m : Name) → Contains (names_in level hi (drop n xs)) m
    → Contains (names_in level hi xs) m
names_dropped level hi n xs m h = subst (λ ys. Contains (names_in level hi ys) m) (take-append-drop n xs)
    (subst (λ ns. Contains ns m) (sym (names_append level hi (take n xs) (drop n xs)))
    (Contains-append_right (names_in level (next_key hi (drop n xs)) (take n xs)) (names_in level hi (drop n xs)) m h))

-- where pointers to cells stand in the cell above, the cells are a slum of it
pub pointed_slum : (parent c : CellSeen) (rest : List CellSeen) (at : ℕ) → IsSound parent → 1 ≤ c.level
    → suc c.level ≡ parent.level
    → ArePointedTo c.level (rank parent.hi) (drop at (items_of parent.block)) (c ∷ rest) → IsSlumOf (c ∷ rest) parent
pointed_slum parent c rest at sound low up p =
    let some : 1 ≤ parent.level = omega (arith, up) in
    let stand = stand_drop (rank parent.hi) at (items_of parent.block) (cell_stand parent some sound) in
    let (to, lt, follow) = pointed_follow c.level (rank parent.hi) (drop at (items_of parent.block)) c rest stand p in
    let down : c.level ≡ suc c.level - 1 = omega arith in
    record {
      level = c.level;
      from = rank c.lo;
      to = to;
      beside = record { branch = low; some = lt; follow = follow };
      named = λ d m. subst (λ ns. Contains ns (name_of d)) (sym (names_are parent c.level (sym up)))
          (names_dropped (suc c.level) (rank parent.hi) at (items_of parent.block) (name_of d)
          (pointed_named c.level (rank parent.hi) (suc c.level) down (omega arith)
          (drop at (items_of parent.block)) (c ∷ rest) p d m));
    }

-- and where they are a slum, pointers stand from the first one's place on
pub slum_points : (parent c : CellSeen) (rest : List CellSeen) (at : ℕ) → IsSound parent → 1 ≤ c.level
    → suc c.level ≡ parent.level
    → ((k : ℕ) (x : Item) → k < at → slice_get (items_of parent.block) k ≡ Some x → rank x.key < rank c.lo)
    → ((x : Item) → slice_get (items_of parent.block) at ≡ Some x → rank c.lo ≤ rank x.key)
    → IsSlumOf (c ∷ rest) parent
    → ArePointedTo c.level (rank parent.hi) (drop at (items_of parent.block)) (c ∷ rest)
slum_points parent c rest at sound low up below past s =
    let (level, from, lt, more) = s.beside.follow in
    let whole : Follow c.level (rank c.lo) s.to (c ∷ rest) =
    (refl, refl, omega (arith, lt, from), subst (λ l. Follow l (rank c.hi) s.to rest) (sym level) more) in
    slum_pointed parent sound (omega (arith, up)) c.level (sym up) low (c ∷ rest) at (rank c.lo) s.to
    (range_rises parent (omega (arith, up, low)) sound) whole below past s.named

-- whether the pointers stand there tells whether the cells are a slum
pub decided : (parent c : CellSeen) (rest all : List CellSeen) → all ≡ c ∷ rest → (at : ℕ) (b : Bool) (items : List Item)
    (lo : ℕ) → IsSound parent → 1 ≤ c.level → suc c.level ≡ parent.level → items ≡ items_of parent.block → lo ≡ rank c.lo
    → ((k : ℕ) (x : Item) → k < at → slice_get items k ≡ Some x → rank x.key < lo)
    → ((x : Item) → slice_get items at ≡ Some x → lo ≤ rank x.key)
    → ((b ≡ true) ↔ ArePointedTo (parent.level - 1) (rank parent.hi) (drop at (items_of parent.block)) all)
    → MatchBool b (IsSlumOf all parent) (IsSlumOf all parent → ⊥)
decided parent c rest all are at b items lo sound low up same begin below past both =
    subst (λ cs. MatchBool b (IsSlumOf cs parent) (IsSlumOf cs parent → ⊥)) (sym are) (one b
    (λ e. subst (λ l. ArePointedTo l (rank parent.hi) (drop at (items_of parent.block)) (c ∷ rest)) level
    (subst (ArePointedTo (parent.level - 1) (rank parent.hi) (drop at (items_of parent.block))) are (both.0 e)))
    (λ h. both.1 (subst (ArePointedTo (parent.level - 1) (rank parent.hi) (drop at (items_of parent.block))) (sym are)
    (subst (λ l. ArePointedTo l (rank parent.hi) (drop at (items_of parent.block)) (c ∷ rest)) (sym level) h))))
  where
    level : parent.level - 1 ≡ c.level
    level = omega (arith, up)

    one : (b : Bool)
        → ((b ≡ true) → ArePointedTo c.level (rank parent.hi) (drop at (items_of parent.block)) (c ∷ rest))
        → (ArePointedTo c.level (rank parent.hi) (drop at (items_of parent.block)) (c ∷ rest) → (b ≡ true))
        → MatchBool b (IsSlumOf (c ∷ rest) parent) (IsSlumOf (c ∷ rest) parent → ⊥)
    one true says tells = pointed_slum parent c rest at sound low up (says refl)
    one false says tells = λ s. false≢true (tells (slum_points parent c rest at sound low up
        (λ k x lt is. let h = below k x lt (ap (λ xs. slice_get xs k) same ∙ is) in omega (arith, h, begin))
        (λ x is. let h = past x (ap (λ xs. slice_get xs at) same ∙ is) in omega (arith, h, begin)) s))
