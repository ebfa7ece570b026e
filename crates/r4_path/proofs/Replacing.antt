-- The items of a node above leaf level in which pointers to several cells stand in the place of one pointer.
use Rattle.std.proofs.Common.{◌≡◌, ◌≢◌, ◌⊎◌, inl, inr, ℕ, zero, suc, ◌+◌, ◌-◌, ◌^◌, ◌<◌, ◌≤◌, true, false, List, [], ◌∷◌, ◌++◌}
use Rattle.std.proofs.Common.{map, refl, sym, ap, subst, ◌∙◌, arith}
use Rattle.std.specs.Prelude.{All, Contains, Some, ◌==◌}
use Rattle.std.proofs.lemmas.List.Elements.{All-head, All-tail, Contains-append_cases, Contains-append_left}
use Rattle.std.proofs.lemmas.List.Elements.{Contains-append_right}
use Rattle.std.proofs.lemmas.Option.{same_Some}
use Rattle.r4_base.specs.Cell.{item_end, item_names, names_in, next_key, spans_in}
use Rattle.r4_base.specs.Extents.{pointer_of}
use Rattle.r4_base.specs.Key.{rank}
use Rattle.r4_base.specs.Node.{Item, PluginsFit, fits_level}
use Rattle.r4_base.specs.Tree.{Name}
use Rattle.r4_patch.specs.r4_cell.Seen.{CellSeen}
use Rattle.r4_patch.proofs.r4_cell.Items.{items_part}
use Rattle.r4_path.specs.Nodes.{IsPointable, pointer_item}
use Rattle.r4_path.specs.Steps.{Follow, IsNameOf, name_of}
use Rattle.r4_path.proofs.Grown.{map_names, names_map}
use Rattle.r4_path.proofs.Lying.{Good, Lies, good_cons, good_parts}
use Rattle.r4_patch.proofs.Members.{cases, later}
use Rattle.r4_path.proofs.PointerNodes.{pointer_lies, pointer_names}
use Rattle.r4_path.proofs.Pointers.{pointers_fit}
use Rattle.r4_path.proofs.Rows.{Between, between_append, between_left, between_lower, between_order, between_right, fit_append}
use Rattle.r4_path.proofs.Rows.{fit_left, fit_right, good_behind, good_left, names_append, spans_append}

-- ---- pointers before other items

-- the pointers begin where the cells do, and end where the other items begin
pub pointers_next : (l hi from to : ℕ) (cells : List CellSeen) (items : List Item) → Follow l from to cells
    → next_key hi items ≡ to → next_key hi (map pointer_item cells ++ items) ≡ from
pointers_next l hi from to [] items follow next = next ∙ sym follow
pointers_next l hi from to (c ∷ cells) items follow next = follow.1

follow_most : (l from to : ℕ) (cells : List CellSeen) → Follow l from to cells → from ≤ to
follow_most l from to [] e = omega (arith, e)
follow_most l from to (c ∷ cells) (cl, at, lt, rest) = let h = follow_most l (rank c.hi) to cells rest in omega (arith, h, lt)

pointers_before : (l level lo hi i from to : ℕ) (cells : List CellSeen) (items : List Item) → Follow l from to cells
    → All (λ c. IsPointable c.id) cells → next_key hi items ≡ to → to ≤ hi → lo ≤ from → 1 ≤ i
    → ((j : ℕ) → 1 ≤ j → Good level lo hi j items) → Good level lo hi i (map pointer_item cells ++ items)
pointers_before l level lo hi i from to [] items follow able next most low late rest = rest i late
pointers_before l level lo hi i from to (c ∷ cells) items (cl, at, lt, more) able next most low late rest =
    let behind = pointers_next l hi (rank c.hi) to cells items more next in
    let end = follow_most l (rank c.hi) to cells more in
    good_cons level lo hi i (pointer_item c) (map pointer_item cells ++ items)
    (pointer_lies level lo hi (next_key hi (map pointer_item cells ++ items)) i c
    (All-head (λ (x : CellSeen). IsPointable x.id) c cells able) (omega (arith, low, at)) (omega (arith, at, lt, behind))
    (omega (arith, behind, end, most)) (λ none. absurd (omega (arith, none, late))))
    (pointers_before l level lo hi (i + 1) (rank c.hi) to cells items more
    (All-tail (λ (x : CellSeen). IsPointable x.id) c cells able) next most (omega (arith, low, lt)) (omega arith) rest)

pointers_named : (l hi from to : ℕ) (cells : List CellSeen) (items : List Item) → Follow l from to cells
    → All (λ c. IsPointable c.id) cells → next_key hi items ≡ to → names_in (suc l) hi (map pointer_item cells ++ items)
    ≡ map name_of cells ++ names_in (suc l) hi items
unfolding names_in
pointers_named l hi from to [] items follow able next = refl
pointers_named l hi from to (c ∷ cells) items (cl, at, lt, more) able next =
    let behind = pointers_next l hi (rank c.hi) to cells items more next in
    let one = pointer_names l (next_key hi (map pointer_item cells ++ items)) c
    (All-head (λ (x : CellSeen). IsPointable x.id) c cells able) cl (sym behind) in
    let rest = pointers_named l hi (rank c.hi) to cells items more
    (All-tail (λ (x : CellSeen). IsPointable x.id) c cells able) next in
    rw (one, rest) refl

pointers_spanned : (hi : ℕ) (cells : List CellSeen) (items : List Item) → spans_in hi (map pointer_item cells ++ items)
    ≡ spans_in hi items
unfolding spans_in
pointers_spanned hi [] items = refl
pointers_spanned hi (c ∷ cells) items = pointers_spanned hi cells items

pointers_between : (l from to hi : ℕ) (cells : List CellSeen) (items : List Item) → Follow l from to cells
    → Between to hi items → Between from hi (map pointer_item cells ++ items)
pointers_between l from to hi [] items follow h = between_lower to from hi items (omega (arith, follow)) h
pointers_between l from to hi (c ∷ cells) items
    (cl, at, lt, more) h = (
      omega (arith, at),
      between_lower (rank c.hi) (rank c.lo + 1) hi (map pointer_item cells ++ items)
          (omega (arith, at, lt)) (pointers_between l (rank c.hi) to hi cells items more h),
    )

-- ---- a pointer among items

next_same : (hi : ℕ) (xs : List Item) (p : Item) (ys zs : List Item) → next_key hi (xs ++ p ∷ ys) ≡ next_key hi (xs ++ p ∷ zs)
next_same hi [] p ys zs = refl
next_same hi (x ∷ xs) p ys zs = refl

-- The cell `b` is named by the item p, between `before` and `behind`, and in its place stand `first`, of the same name, and `more`.
pub record IsReplaced (level l lo hi : ℕ) (before : List Item) (p : Item) (behind : List Item) (b first : CellSeen)
    (more : List CellSeen) : Type 0 where
  pub up : level ≡ suc l
  pub low : 1 ≤ l
  pub order : lo < hi
  pub between : Between lo hi (before ++ p ∷ behind)
  pub good : Good level lo hi 0 (before ++ p ∷ behind)
  pub fit : PluginsFit level (before ++ p ∷ behind)
  pub plugin : p.plugin ≡ 3
  pub to : pointer_of p.body ≡ Some b.id
  pub key : rank p.key ≡ rank b.lo
  pub next : next_key hi behind ≡ rank b.hi
  pub below : b.level ≡ l
  pub follow : Follow l (rank b.lo) (rank b.hi) (first ∷ more)
  pub first_id : first.id ≡ b.id
  pub able : All (λ c. IsPointable c.id) more

one_name : (l next : ℕ) (p : Item) (c : CellSeen) → p.plugin ≡ 3 → pointer_of p.body ≡ Some c.id → c.level ≡ l → rank p.key
    ≡ rank c.lo → rank c.hi ≡ next → item_names (suc l) next p ≡ name_of c ∷ []
unfolding item_names
one_name l next p c plugin to level key hi =
    let a : (p.plugin == 3) ≡ true = ap (λ (x : ℕ). x == 3) plugin in
    let down : suc l - 1 ≡ l = omega arith in
    rw (a, to, down) (λ i. record { id = c.id; level = sym level i; lo = key i; hi = sym hi i } ∷ [])

no_span : (hi : ℕ) (p : Item) (items : List Item) → p.plugin ≡ 3 → spans_in hi (p ∷ items) ≡ spans_in hi items
unfolding spans_in
no_span hi p items plugin = let d : (p.plugin == 5) ≡ false = ap (λ (x : ℕ). x == 5) plugin in rw d refl

pointer_ends : (q : Item) → q.plugin ≡ 3 → item_end q ≡ rank q.key + 1
unfolding item_end
pointer_ends q plugin = let a : (q.plugin == 0) ≡ false = ap (λ (y : ℕ). y == 0) plugin in
    let d : (q.plugin == 3) ≡ true = ap (λ (y : ℕ). y == 3) plugin in rw (a, d) refl

names_first : (level hi : ℕ) (p : Item) (items : List Item) → names_in level hi (p ∷ items)
    ≡ item_names level (next_key hi items) p ++ names_in level hi items
unfolding names_in
names_first level hi p items = refl

module _ (level l lo hi : ℕ) (before : List Item) (p : Item) (behind : List Item) (b first : CellSeen) (more : List CellSeen)
    (is : IsReplaced level l lo hi before p behind b first more) where
  abbrev pub row : List Item
  row = before ++ p ∷ (map pointer_item more ++ behind)

  first_next : next_key hi (map pointer_item more ++ behind) ≡ rank first.hi
  first_next = pointers_next l hi (rank first.hi) (rank b.hi) more behind is.follow.3 is.next

  -- ---- names and extents

  pub old_names : names_in level hi (before ++ p ∷ behind) ≡ names_in level (rank p.key) before
      ++ (name_of b ∷ names_in level hi behind)
  old_names =
      let one : names_in level hi (p ∷ behind) ≡ name_of b ∷ names_in level hi behind =
      subst (λ k. names_in k hi (p ∷ behind) ≡ name_of b ∷ names_in k hi behind) (sym is.up)
      (names_first (suc l) hi p behind
      ∙ ap (λ ns. ns ++ names_in (suc l) hi behind)
      (one_name l (next_key hi behind) p b is.plugin is.to is.below is.key (sym is.next))) in
      names_append level hi before (p ∷ behind) ∙ ap (λ ns. names_in level (rank p.key) before ++ ns) one

  pub new_names : names_in level hi row ≡ names_in level (rank p.key) before
      ++ (map name_of (first ∷ more) ++ names_in level hi behind)
  new_names =
      let at : rank first.lo ≡ rank b.lo = is.follow.1 in
      let one : names_in level hi (p ∷ (map pointer_item more ++ behind)) ≡ map name_of (first ∷ more)
      ++ names_in level hi behind =
      subst (λ k. names_in k hi (p ∷ (map pointer_item more ++ behind)) ≡ map name_of (first ∷ more) ++ names_in k hi behind)
      (sym is.up)
      (names_first (suc l) hi p (map pointer_item more ++ behind)
      ∙ (ap (λ ns. ns ++ names_in (suc l) hi (map pointer_item more ++ behind))
      (one_name l (next_key hi (map pointer_item more ++ behind)) p first is.plugin
      (is.to ∙ ap Some (sym is.first_id)) is.follow.0 (is.key ∙ sym at) (sym first_next))
      ∙ ap (λ ns. name_of first ∷ ns)
      (pointers_named l hi (rank first.hi) (rank b.hi) more behind is.follow.3 is.able is.next))) in
      names_append level hi before (p ∷ (map pointer_item more ++ behind))
      ∙ ap (λ ns. names_in level (rank p.key) before ++ ns) one

  pub same_spans : spans_in hi row ≡ spans_in hi (before ++ p ∷ behind)
  same_spans =
      spans_append hi before (p ∷ (map pointer_item more ++ behind))
      ∙ (ap (λ ss. spans_in (rank p.key) before ++ ss)
      (no_span hi p (map pointer_item more ++ behind) is.plugin
      ∙ (pointers_spanned hi more behind ∙ sym (no_span hi p behind is.plugin)))
      ∙ sym (spans_append hi before (p ∷ behind)))

  -- ---- the row may stand in a node

  pub row_between : Between lo hi row
  row_between =
      let left = between_left lo hi before p behind is.between in
      let right = between_right lo hi before p behind is.between in
      let key = is.key in
      let at : rank first.lo ≡ rank b.lo = is.follow.1 in
      let lt = is.follow.2 in
      let tail : Between (rank b.hi) hi behind = behind_from behind right.1 is.next in
      between_append lo (rank p.key) hi before (p ∷ (map pointer_item more ++ behind)) left (
        omega arith,
        between_lower (rank first.hi) (rank p.key + 1) hi (map pointer_item more ++ behind)
            (omega (arith, key, lt)) (pointers_between l (rank first.hi) (rank b.hi) hi more behind is.follow.3 tail),
      )
    where
      behind_from : (items : List Item) → Between (rank p.key + 1) hi items → next_key hi items ≡ rank b.hi
          → Between (rank b.hi) hi items
      behind_from [] h next = omega (arith, next)
      behind_from (x ∷ xs) h next = (omega (arith, next), h.1)

  pub row_fit : PluginsFit level row
  row_fit =
      let old = fit_right level before (p ∷ behind) is.fit in
      let up = is.up in
      let low = is.low in
      fit_append level before (p ∷ (map pointer_item more ++ behind)) (fit_left level before (p ∷ behind) is.fit)
      (with_first p (map pointer_item more ++ behind) (old 0 p refl)
      (fit_append level (map pointer_item more) behind (pointers_fit (λ c. c) level more (omega (arith, up, low)))
      (λ k. old (suc k))))
    where
      with_first : (q : Item) (items : List Item) → fits_level level q.plugin ≡ true → PluginsFit level items
          → PluginsFit level (q ∷ items)
      with_first q items one rest zero x e = subst (λ (z : Item). fits_level level z.plugin ≡ true) (same_Some q x e) one
      with_first q items one rest (suc k) x e = rest k x e

  pub row_good : Good level lo hi 0 row
  row_good = go before 0 (between_order_start is.between) is.between is.good
    where
      between_order_start : Between lo hi (before ++ p ∷ behind) → lo ≤ hi
      between_order_start h = between_order lo hi (before ++ p ∷ behind) h

      next_at : (items : List Item) → Between (rank p.key + 1) hi items → next_key hi items ≤ hi
      next_at [] h = omega arith
      next_at (y ∷ ys) h = let most = between_order (rank y.key + 1) hi ys h.1 in omega (arith, most)

      go : (xs : List Item) (i : ℕ) → lo ≤ hi → Between lo hi (xs ++ p ∷ behind) → Good level lo hi i (xs ++ p ∷ behind)
          → Good level lo hi i (xs ++ p ∷ (map pointer_item more ++ behind))
      go [] i le between good =
          let (at, rest) = good_parts level lo hi i p behind good in
          let from = at.from in
          let end : item_end p ≡ rank p.key + 1 = pointer_ends p is.plugin in
          let key = is.key in
          let lt = is.follow.2 in
          let start = first_next in
          let most = follow_most l (rank first.hi) (rank b.hi) more is.follow.3 in
          let next = is.next in
          let high = next_at behind between.1 in
          good_cons level lo hi i p (map pointer_item more ++ behind)
          (record { body = at.body; from = at.from; below = at.below; fits = at.fits; end = at.end; before = omega (arith, end, key, lt, start); first = at.first })
          (pointers_before l level lo hi (i + 1) (rank first.hi) (rank b.hi) more behind is.follow.3 is.able is.next
          (omega (arith, next, high)) (omega (arith, from, key, lt)) (omega arith)
          (λ j late. good_behind level lo lo hi (i + 1) j behind late
          (between_lower (rank p.key + 1) lo hi behind (omega (arith, from)) between.1) rest))
      go (x ∷ xs) i le between good =
          let (at, rest) = good_parts level lo hi i x (xs ++ p ∷ behind) good in
          let low = between.0 in
          good_cons level lo hi i x (xs ++ p ∷ (map pointer_item more ++ behind))
          (subst (λ k. Lies level lo hi k i x) (next_same hi xs p behind (map pointer_item more ++ behind)) at)
          (go xs (i + 1) le (between_lower (rank x.key + 1) lo hi (xs ++ p ∷ behind) (omega (arith, low)) between.1) rest)

  -- ---- what is named afterwards

  before_low : (n : Name) → Contains (names_in level (rank p.key) before) n → n ≢ name_of b
  before_low n h e =
      let up = is.up in
      let part = items_part true (2 ^ 64) level lo (rank p.key) 0 before (omega (arith, up))
      (fit_left level before (p ∷ behind) is.fit) (good_left level lo hi 0 before p behind is.between is.good) in
      let to = part.row.to n h in
      let some = part.row.nonempty n h in
      let at = ap (λ (m : Name). m.lo) e in
      let key = is.key in
      omega (arith, to, some, at, key)

  behind_high : (n : Name) → Contains (names_in level hi behind) n → n ≢ name_of b
  behind_high n h e =
      let up = is.up in
      let rest = good_at before 0 is.good in
      let part = items_part true (2 ^ 64) level lo hi rest.0 behind (omega (arith, up))
      (λ k. fit_right level before (p ∷ behind) is.fit (suc k)) rest.1 in
      let from = part.row.from n h in
      let at = ap (λ (m : Name). m.lo) e in
      let next = is.next in
      let lt = is.follow.2 in
      let most = follow_most l (rank first.hi) (rank b.hi) more is.follow.3 in
      omega (arith, from, at, next, lt, most)
    where
      good_at : (xs : List Item) (i : ℕ) → Good level lo hi i (xs ++ p ∷ behind) → (j : ℕ) × Good level lo hi j behind
      good_at [] i good = (i + 1, (good_parts level lo hi i p behind good).1)
      good_at (x ∷ xs) i good = good_at xs (i + 1) (good_parts level lo hi i x (xs ++ p ∷ behind) good).1

  -- what the row names is what the node named, but for b, or one of the cells in its place
  pub named_now : (n : Name) → Contains (names_in level hi row) n
      → (Contains (names_in level hi (before ++ p ∷ behind)) n × (n ≢ name_of b)) ⊎ IsNameOf (first ∷ more) n
  named_now n h = elim (Contains-append_cases (names_in level (rank p.key) before)
      (map name_of (first ∷ more) ++ names_in level hi behind) n (subst (λ ns. Contains ns n) new_names h)) [
        | inl left ↦ inl (
          subst (λ ns. Contains ns n) (sym old_names)
              (Contains-append_left (names_in level (rank p.key) before)
              (name_of b ∷ names_in level hi behind) n left),
          before_low n left,
        )
        | inr right ↦ elim (Contains-append_cases (map name_of (first ∷ more)) (names_in level hi behind) n right) [
          | inl mine ↦ inr (names_map (first ∷ more) n mine)
          | inr rest ↦ inl (
            subst (λ ns. Contains ns n) (sym old_names)
                (Contains-append_right (names_in level (rank p.key) before) (name_of b ∷ names_in level hi behind) n
                (later (name_of b) n (names_in level hi behind) rest)),
            behind_high n rest,
          )
        ]
      ]

  pub named_then : (n : Name) → (Contains (names_in level hi (before ++ p ∷ behind)) n × (n ≢ name_of b))
      ⊎ IsNameOf (first ∷ more) n → Contains (names_in level hi row) n
  named_then n h = subst (λ ns. Contains ns n) (sym new_names) (elim h [
    | inl (old, other) ↦ elim (Contains-append_cases (names_in level (rank p.key) before)
        (name_of b ∷ names_in level hi behind) n (subst (λ ns. Contains ns n) old_names old)) [
          | inl left ↦ Contains-append_left (names_in level (rank p.key) before)
              (map name_of (first ∷ more) ++ names_in level hi behind) n left
          | inr right ↦ elim (cases (name_of b) n (names_in level hi behind) right) [
            | inl same ↦ absurd (other same)
            | inr rest ↦ Contains-append_right (names_in level (rank p.key) before)
                (map name_of (first ∷ more) ++ names_in level hi behind) n
                (Contains-append_right (map name_of (first ∷ more)) (names_in level hi behind) n rest)
          ]
        ]
    | inr mine ↦ Contains-append_right (names_in level (rank p.key) before)
        (map name_of (first ∷ more) ++ names_in level hi behind) n
        (Contains-append_left (map name_of (first ∷ more)) (names_in level hi behind) n (map_names (first ∷ more) n mine))
  ])
