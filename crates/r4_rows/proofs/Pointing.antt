-- A row of cells that point to the cells of the row below: its names, extents and units.
use Rattle.std.proofs.Common.{◌≡◌, ◌⊎◌, inl, inr, ℕ, suc, ◌+◌, ◌-◌, ◌<◌, ◌≤◌, true, false, List, [], ◌∷◌}
use Rattle.std.proofs.Common.{◌++◌, map, refl, sym, ap}
use Rattle.std.proofs.Common.{subst, ◌∙◌, arith}
use Rattle.std.specs.Prelude.{◌↔◌, ◌==◌, All, Contains, Some}
use Rattle.std.proofs.lemmas.List.Elements.{All-head, All-tail, Contains-append_cases, Contains-append_left}
use Rattle.std.proofs.lemmas.List.Elements.{Contains-append_right}
use Rattle.r4_base.specs.Cell.{item_names, item_units, names_in, next_key, spans_in, units_in}
use Rattle.r4_base.specs.Extents.{pointer_of}
use Rattle.r4_base.specs.Key.{rank}
use Rattle.r4_base.specs.Node.{Item, items_of}
use Rattle.r4_base.specs.Tree.{Name, Store}
use Rattle.r4_base.specs.Value.{Value}
use Rattle.r4_cell.specs.Seen.{CellSeen}
use Rattle.r4_node40.proofs.Accepted.{good}
use Rattle.r4_patch.proofs.Members.{cases, here, later, none}
use Rattle.r4_path.specs.Levels.{units_of_cells}
use Rattle.r4_path.specs.Nodes.{IsPointable, pointer_item}
use Rattle.r4_path.specs.Sharing.{IsSound, items_of_cells}
use Rattle.r4_path.specs.Steps.{AreNaming, Follow, IsNameOf, name_of}
use Rattle.r4_path.proofs.CellNodes.{units_are}
use Rattle.r4_path.proofs.Finding.{find}
use Rattle.r4_path.proofs.Grown.{map_names, names_map}
use Rattle.r4_path.proofs.Parenting.{in_naming, in_spanning, naming_in, sound_node, spanning_in}
use Rattle.r4_path.proofs.PointerNodes.{pointer_is}
use Rattle.r4_path.proofs.Rising.{follow_within}
use Rattle.r4_path.proofs.Rows.{Between, between_append, names_append, rise_between, spans_append}
use Rattle.r4_path.proofs.Rows.{units_append}
use Rattle.r4_rows.specs.Pointers.{PointTo, PointsBelow}
use Rattle.r4_rows.specs.Rows.{AreNamedAfter, AreThere, IsRow, KeepsSpans, Row}

-- ---- the items of cells beside each other

sound_between : (l : ℕ) (c : CellSeen) → c.level ≡ suc l → rank c.lo < rank c.hi → IsSound c
    → Between (rank c.lo) (rank c.hi) (items_of c.block)
sound_between l c level range s =
    let at = sound_node c (omega (arith, level)) s in
    let node = (good c.block s.whole at.accepted).0 in
    rise_between c.level (rank c.lo) (rank c.hi) 0 (items_of c.block) (omega (arith, range)) node.keys at.items

cells_between : (l from to : ℕ) (cells : List CellSeen) → Follow (suc l) from to cells
    → ((c : CellSeen) → Contains cells c → IsSound c) → Between from to (items_of_cells cells)
cells_between l from to [] e sound = omega (arith, e)
cells_between l from to (c ∷ cells) (level, at, less, rest) sound =
    subst (λ k. Between k to (items_of c.block ++ items_of_cells cells)) at
    (between_append (rank c.lo) (rank c.hi) to (items_of c.block) (items_of_cells cells)
    (sound_between l c level (omega (arith, at, less)) (sound c (here c cells)))
    (cells_between l (rank c.hi) to cells rest (λ d md. sound d (later c d cells md))))

-- items behind others have greater keys
above : (from to : ℕ) (ys : List Item) (y : Item) → Between from to ys → Contains ys y → from ≤ rank y.key
above from to [] y h at = absurd (none y at)
above from to (x ∷ ys) y (low, rest) at = elim (cases x y ys at) [
  | inl is ↦ let same = ap (λ (z : Item). rank z.key) is in omega (arith, same, low)
  | inr more ↦ let h = above (rank x.key + 1) to ys y rest more in omega (arith, h, low)
]

apart : (from to : ℕ) (xs ys : List Item) (x y : Item) → Between from to (xs ++ ys) → Contains xs x → Contains ys y
    → rank x.key < rank y.key
apart from to [] ys x y h mx my = absurd (none x mx)
apart from to (z ∷ xs) ys x y (low, rest) mx my = elim (cases z x xs mx) [
  | inl is ↦
      let same = ap (λ (w : Item). rank w.key) is in
      let h = above (rank z.key + 1) to (xs ++ ys) y rest (Contains-append_right xs ys y my) in
      omega (arith, same, h)
  | inr more ↦ apart (rank z.key + 1) to xs ys x y rest more my
]

-- ---- items that point to cells

one_name : (l next : ℕ) (p : Item) (c : CellSeen) → p.plugin ≡ 3 → pointer_of p.body ≡ Some c.id → c.level ≡ l
    → rank p.key ≡ rank c.lo → rank c.hi ≡ next → item_names (suc l) next p ≡ name_of c ∷ []
unfolding item_names
one_name l next p c plugin to level key hi =
    let a : (p.plugin == 3) ≡ true = ap (λ (x : ℕ). x == 3) plugin in
    let down : suc l - 1 ≡ l = omega arith in
    rw (a, to, down) (λ i. record { id = c.id; level = sym level i; lo = key i; hi = sym hi i } ∷ [])

point_next : (l hi from to : ℕ) (items rest : List Item) (cells : List CellSeen) → PointTo items cells
    → Follow l from to cells → next_key hi rest ≡ to → next_key hi (items ++ rest) ≡ from
point_next l hi from to [] rest [] h f next = next ∙ sym f
point_next l hi from to [] rest (c ∷ cells) h f next = absurd h
point_next l hi from to (p ∷ items) rest [] h f next = absurd h
point_next l hi from to (p ∷ items) rest (c ∷ cells) h f next = h.2 ∙ f.1

point_names : (l hi from to : ℕ) (items rest : List Item) (cells : List CellSeen) → PointTo items cells
    → Follow l from to cells → next_key hi rest ≡ to
    → names_in (suc l) hi (items ++ rest) ≡ map name_of cells ++ names_in (suc l) hi rest
unfolding names_in
point_names l hi from to [] rest [] h f next = refl
point_names l hi from to [] rest (c ∷ cells) h f next = absurd h
point_names l hi from to (p ∷ items) rest [] h f next = absurd h
point_names l hi from to (p ∷ items) rest (c ∷ cells) (plugin, id, key, others) (level, at, less, follow) next =
    let behind = point_next l hi (rank c.hi) to items rest cells others follow next in
    let one = one_name l (next_key hi (items ++ rest)) p c plugin id level key (sym behind) in
    let more = point_names l hi (rank c.hi) to items rest cells others follow next in
    rw (one, more) refl

point_spans : (hi : ℕ) (items rest : List Item) (cells : List CellSeen) → PointTo items cells
    → spans_in hi (items ++ rest) ≡ spans_in hi rest
unfolding spans_in
point_spans hi [] rest [] h = refl
point_spans hi [] rest (c ∷ cells) h = absurd h
point_spans hi (p ∷ items) rest [] h = absurd h
point_spans hi (p ∷ items) rest (c ∷ cells) (plugin, id, key, others) =
    let d : (p.plugin == 5) ≡ false = ap (λ (x : ℕ). x == 5) plugin in
    let more = point_spans hi items rest cells others in
    rw (d, more) refl

no_units : (p : Item) → p.plugin ≡ 3 → item_units p ≡ []
unfolding item_units
no_units p plugin =
    let a : (p.plugin == 0) ≡ false = ap (λ (x : ℕ). x == 0) plugin in
    let b : (p.plugin == 2) ≡ false = ap (λ (x : ℕ). x == 2) plugin in
    let c : (p.plugin == 3) ≡ true = ap (λ (x : ℕ). x == 3) plugin in
    rw (a, b, c) refl

point_units : (items rest : List Item) (cells : List CellSeen) → PointTo items cells
    → units_in (items ++ rest) ≡ units_in rest
unfolding units_in
point_units [] rest [] h = refl
point_units [] rest (c ∷ cells) h = absurd h
point_units (p ∷ items) rest [] h = absurd h
point_units (p ∷ items) rest (c ∷ cells) (plugin, id, key, others) =
    let none_here = no_units p plugin in
    let more = point_units items rest cells others in
    rw (none_here, more) refl

-- the pointer to a cell begins where the cell does
point_key : (items : List Item) (cells : List CellSeen) (c : CellSeen) → PointTo items cells → Contains cells c
    → (p : Item) × Contains items p × (rank p.key ≡ rank c.lo)
point_key [] [] c h at = absurd (none c at)
point_key [] (d ∷ cells) c h at = absurd h
point_key (p ∷ items) [] c h at = absurd h
point_key (p ∷ items) (d ∷ cells) c (plugin, id, key, others) at = elim (cases d c cells at) [
  | inl is ↦ (p, here p items, key ∙ sym (ap (λ (x : CellSeen). rank x.lo) is))
  | inr more ↦ let (q, mq, e) = point_key items cells c others more in (q, later p q items mq, e)
]

pub pointers_point : (cells : List CellSeen) → All (λ c. IsPointable c.id) cells
    → PointTo (map pointer_item cells) cells
pointers_point [] able = tt
pointers_point (c ∷ cells) able = (
  refl,
  pointer_is c.id (All-head (λ (x : CellSeen). IsPointable x.id) c cells able),
  refl,
  pointers_point cells (All-tail (λ (x : CellSeen). IsPointable x.id) c cells able),
)

-- ---- units of cells

no_items : units_in [] ≡ []
unfolding units_in
no_items = refl

cells_units : (l from to : ℕ) (cells : List CellSeen) → Follow (suc l) from to cells
    → units_of_cells cells ≡ units_in (items_of_cells cells)
cells_units l from to [] f = sym no_items
cells_units l from to (c ∷ cells) (level, at, less, rest) =
    let mine = units_are c l level in
    let more = cells_units l (rank c.hi) to cells rest in
    (λ j. mine j ++ more j) ∙ sym (units_append (items_of c.block) (items_of_cells cells))

module _ (l : ℕ) (one : 1 ≤ l) (b s : Row) (is : PointsBelow l b s) where
  -- the names that items have with pointers to cells of this range between the others
  names_with : (items : List Item) (cells : List CellSeen) → PointTo items cells → Follow l is.low is.high cells
      → names_in (suc l) is.to (is.before ++ (items ++ is.behind))
      ≡ names_in (suc l) is.low is.before ++ (map name_of cells ++ names_in (suc l) is.to is.behind)
  names_with items cells h f =
      let from = point_next l is.to is.low is.high items is.behind cells h f is.next in
      let middle = point_names l is.to is.low is.high items is.behind cells h f is.next in
      names_append (suc l) is.to is.before (items ++ is.behind)
      ∙ (λ j. names_in (suc l) (from j) is.before ++ middle j)

  abbrev Parts : List CellSeen → Name → Type 0
  Parts cells n = Contains (names_in (suc l) is.low is.before) n
      ⊎ (IsNameOf cells n ⊎ Contains (names_in (suc l) is.to is.behind) n)

  to_parts : (cells : List CellSeen) (n : Name)
      → Contains (names_in (suc l) is.low is.before ++ (map name_of cells ++ names_in (suc l) is.to is.behind)) n
      → Parts cells n
  to_parts cells n at = elim (Contains-append_cases (names_in (suc l) is.low is.before)
      (map name_of cells ++ names_in (suc l) is.to is.behind) n at) [
        | inl first ↦ inl first
        | inr more ↦ elim (Contains-append_cases (map name_of cells) (names_in (suc l) is.to is.behind) n more) [
          | inl mine ↦ inr (inl (names_map cells n mine))
          | inr last ↦ inr (inr last)
        ]
      ]

  of_parts : (cells : List CellSeen) (n : Name) → Parts cells n
      → Contains (names_in (suc l) is.low is.before ++ (map name_of cells ++ names_in (suc l) is.to is.behind)) n
  of_parts cells n (inl first) = Contains-append_left (names_in (suc l) is.low is.before)
      (map name_of cells ++ names_in (suc l) is.to is.behind) n first
  of_parts cells n (inr more) = Contains-append_right (names_in (suc l) is.low is.before)
      (map name_of cells ++ names_in (suc l) is.to is.behind) n (elim more [
        | inl mine ↦ Contains-append_left (map name_of cells) (names_in (suc l) is.to is.behind) n
            (map_names cells n mine)
        | inr last ↦ Contains-append_right (map name_of cells) (names_in (suc l) is.to is.behind) n last
      ])

  old_parts : (n : Name) → AreNaming s.old n → Parts b.old n
  old_parts n h = to_parts b.old n (subst (λ ns. Contains ns n) (names_with is.gone b.old is.point_old is.below_were)
      (subst (λ items. Contains (names_in (suc l) is.to items) n) is.had
      (naming_in l one is.from is.to s.old is.were is.sound_old n h)))

  parts_old : (n : Name) → Parts b.old n → AreNaming s.old n
  parts_old n h = in_naming l one is.from is.to s.old is.were is.sound_old n
      (subst (λ items. Contains (names_in (suc l) is.to items) n) (sym is.had)
      (subst (λ ns. Contains ns n) (sym (names_with is.gone b.old is.point_old is.below_were))
      (of_parts b.old n h)))

  new_parts : (n : Name) → AreNaming s.new n → Parts b.new n
  new_parts n h = to_parts b.new n (subst (λ ns. Contains ns n) (names_with is.come b.new is.point_new is.below_are)
      (subst (λ items. Contains (names_in (suc l) is.to items) n) is.have
      (naming_in l one is.from is.to s.new is.are is.sound_new n h)))

  parts_new : (n : Name) → Parts b.new n → AreNaming s.new n
  parts_new n h = in_naming l one is.from is.to s.new is.are is.sound_new n
      (subst (λ items. Contains (names_in (suc l) is.to items) n) (sym is.have)
      (subst (λ ns. Contains ns n) (sym (names_with is.come b.new is.point_new is.below_are))
      (of_parts b.new n h)))

  between : Between is.from is.to (is.before ++ (is.gone ++ is.behind))
  between = subst (Between is.from is.to) is.had (cells_between l is.from is.to s.old is.were is.sound_old)

  behind_between : (from to : ℕ) (xs ys : List Item) → Between from to (xs ++ ys) → (k : ℕ) × Between k to ys
  behind_between from to [] ys h = (from, h)
  behind_between from to (x ∷ xs) ys (low, rest) = behind_between (rank x.key + 1) to xs ys rest

  -- a name beside the pointers that go is none of theirs
  beside : (n : Name)
      → Contains (names_in (suc l) is.low is.before) n ⊎ Contains (names_in (suc l) is.to is.behind) n
      → IsNameOf b.old n → ⊥
  beside n h (c, mc, e) =
      let (q, mq, key) = point_key is.gone b.old c is.point_old mc in
      let level = ap (λ (x : Name). x.level) e ∙ (follow_within l is.low is.high b.old c is.below_were mc).level_as in
      let lo = ap (λ (x : Name). x.lo) e in
      elim h [
        | inl first ↦
            let f = find (suc l) is.low is.before n (omega (arith, level, one)) first in
            let at = f.points.key in
            let mp : Contains is.before f.p = subst (λ items. Contains items f.p) (sym f.parts)
            (Contains-append_right f.before (f.p ∷ f.behind) f.p (here f.p f.behind)) in
            let lt = apart is.from is.to is.before (is.gone ++ is.behind) f.p q between mp
            (Contains-append_left is.gone is.behind q mq) in
            omega (arith, lt, at, lo, key)
        | inr last ↦
            let f = find (suc l) is.to is.behind n (omega (arith, level, one)) last in
            let at = f.points.key in
            let mp : Contains is.behind f.p = subst (λ items. Contains items f.p) (sym f.parts)
            (Contains-append_right f.before (f.p ∷ f.behind) f.p (here f.p f.behind)) in
            let (k, rest) = behind_between is.from is.to is.before (is.gone ++ is.behind) between in
            let lt = apart k is.to is.gone is.behind q f.p rest mq mp in
            omega (arith, lt, at, lo, key)
      ]

  named_after : (n : Name) → AreNaming s.new n ↔ AreNamedAfter b s n
  named_after n = (
    λ h. elim (new_parts n h) [
      | inl first ↦ inl (parts_old n (inl first), beside n (inl first))
      | inr more ↦ elim more [
        | inl mine ↦ inr mine
        | inr last ↦ inl (parts_old n (inr (inr last)), beside n (inr last))
      ]
    ],
    λ h. elim h [
      | inl stays ↦ elim (old_parts n stays.0) [
        | inl first ↦ parts_new n (inl first)
        | inr more ↦ elim more [
          | inl goes ↦ absurd (stays.1 goes)
          | inr last ↦ parts_new n (inr (inr last))
        ]
      ]
      | inr comes ↦ parts_new n (inr (inl comes))
    ],
  )

  same_spans : spans_in is.to (items_of_cells s.new) ≡ spans_in is.to (items_of_cells s.old)
  same_spans =
      ap (spans_in is.to) is.have
      ∙ (with_spans is.come b.new is.point_new is.below_are
      ∙ (sym (with_spans is.gone b.old is.point_old is.below_were)
      ∙ ap (spans_in is.to) (sym is.had)))
    where
      with_spans : (items : List Item) (cells : List CellSeen) → PointTo items cells → Follow l is.low is.high cells
          → spans_in is.to (is.before ++ (items ++ is.behind))
          ≡ spans_in is.low is.before ++ spans_in is.to is.behind
      with_spans items cells h f =
          let from = point_next l is.to is.low is.high items is.behind cells h f is.next in
          let middle = point_spans is.to items is.behind cells h in
          spans_append is.to is.before (items ++ is.behind) ∙ (λ j. spans_in (from j) is.before ++ middle j)

  pub keeps_spans : KeepsSpans s
  keeps_spans x = (
    λ h. in_spanning l one is.from is.to s.old is.were is.sound_old x
        (subst (λ ss. Contains ss x) same_spans (spanning_in l one is.from is.to s.new is.are is.sound_new x h)),
    λ h. in_spanning l one is.from is.to s.new is.are is.sound_new x
        (subst (λ ss. Contains ss x) (sym same_spans)
        (spanning_in l one is.from is.to s.old is.were is.sound_old x h)),
  )

  pub keeps_units : units_of_cells s.new ≡ units_of_cells s.old
  keeps_units =
      cells_units l is.from is.to s.new is.are
      ∙ (ap units_in is.have
      ∙ (with_units is.come b.new is.point_new
      ∙ (sym (with_units is.gone b.old is.point_old)
      ∙ (ap units_in (sym is.had) ∙ sym (cells_units l is.from is.to s.old is.were)))))
    where
      with_units : (items : List Item) (cells : List CellSeen) → PointTo items cells
          → units_in (is.before ++ (items ++ is.behind)) ≡ units_in is.before ++ units_in is.behind
      with_units items cells h = units_append is.before (items ++ is.behind)
          ∙ ap (λ us. units_in is.before ++ us) (point_units items is.behind cells h)

  pub pointing_row : (t : Store Value) → AreThere t s.old → IsRow t (suc l) b s
  pointing_row t there = record {
    from = is.from;
    to = is.to;
    were = is.were;
    are = is.are;
    there = there;
    leads = λ c mc. parts_old (name_of c) (inr (inl (c, mc, refl)));
    names = named_after;
  }
