-- The row of a parent over new cells, and the step that it makes.
use Rattle.std.proofs.Common.{◌≡◌, inl, inr, ℕ, suc, ◌+◌, ◌^◌, ◌<◌, ◌≤◌, Bool, true, false, not, ◌||◌, List, [], ◌∷◌, ◌++◌}
use Rattle.std.proofs.Common.{length, refl, sym, ap, subst, ◌∙◌, arith}
use Rattle.std.specs.Prelude.{All, Contains, Option, Some, None, ◌==◌, nat_le, if◌then◌else◌}
use Rattle.std.proofs.lemmas.Bool.{and_parts, eqb-true}
use Rattle.std.proofs.lemmas.Bool.Decides.{nat_tests}
use Rattle.std.proofs.lemmas.List.Elements.{All-cons, All-nil, Contains-append_cases, Contains-append_left}
use Rattle.std.proofs.lemmas.List.Elements.{Contains-append_right}
use Rattle.std.proofs.lemmas.Option.{none-some}
use Rattle.r4_base.specs.Cell.{item_body_fault, names_block, names_in, next_key, spans_in}
use Rattle.r4_base.specs.Extents.{pointer_of}
use Rattle.r4_base.specs.Key.{rank}
use Rattle.r4_base.specs.Node.{Item, PluginsFit, count_of, fits_level, is_empty_branch, items_of, level_of}
use Rattle.r4_base.specs.Tree.{Name, Span}
use Rattle.r4_base.specs.declared.items.CellFault.TheVariants.{Pointer}
use Rattle.r4_base.proofs.Choices.{chosen}
use Rattle.r4_patch.specs.r4_cell.Seen.{CellSeen, node_of}
use Rattle.r4_patch.proofs.r4_cell.NodesAt.{IsNodeAt, node_at}
use Rattle.r4_leaf.proofs.r4_node40.Accepted.{good}
use Rattle.r4_leaf.proofs.r4_node40.Laid.{length-items_of}
use Rattle.r4_path.specs.Nodes.{weight_of}
use Rattle.r4_path.specs.Sharing.{IsSound, items_of_cells}
use Rattle.r4_path.specs.Steps.{AreNaming, AreSpanning, Follow}
use Rattle.r4_path.proofs.CellNodes.{names_are, spans_are}
use Rattle.r4_path.proofs.Lying.{Good, good_parts}
use Rattle.r4_patch.proofs.Members.{cases, here, later, none}
use Rattle.r4_path.proofs.Rows.{names_append, spans_append}

-- ---- a cell that may stand above leaf level begins with its first item

first_key : (level key lo : ℕ) → 2 ≤ level → (nat_le level 1 || not (0 == 0) || key == lo) ≡ true → key ≡ lo
first_key level key lo two h = grind (arith, nat_tests, h)

full : (b : List ℕ) → is_empty_branch b ≡ false → 2 ≤ level_of b → 0 < count_of b
full b h two = grind (arith, nat_tests, h)

pub sound_node : (c : CellSeen) → 1 ≤ c.level → IsSound c → IsNodeAt true (2 ^ 64) c.level (rank c.lo) (rank c.hi) c.block
sound_node c one s = node_at true (2 ^ 64) c.level (rank c.lo) (rank c.hi) c.block one s.accepted

pub begins : (c : CellSeen) (hi : ℕ) (rest : List Item) → 2 ≤ c.level → IsSound c → next_key hi (items_of c.block ++ rest)
    ≡ rank c.lo
begins c hi rest two s =
    let at = sound_node c (omega (arith, two)) s in
    let g = good c.block s.whole at.accepted in
    let level = at.level_is in
    go (items_of c.block) at.items (let some = full c.block g.1 (omega (arith, two, level)) in
    let long = length-items_of c.block in omega (arith, some, long))
  where
    go : (items : List Item) → Good c.level (rank c.lo) (rank c.hi) 0 items → 0 < length items → next_key hi (items ++ rest)
        ≡ rank c.lo
    go [] good some = absurd (omega (arith, some))
    go (x ∷ xs) good some = first_key c.level (rank x.key) (rank c.lo) two
        (good_parts c.level (rank c.lo) (rank c.hi) 0 x xs good).0.first

empty_names : (level hi : ℕ) → names_in level hi [] ≡ []
unfolding names_in
empty_names level hi = refl

empty_spans : (hi : ℕ) → spans_in hi [] ≡ []
unfolding spans_in
empty_spans hi = refl

module _ (l : ℕ) (low : 1 ≤ l) where
  pub cells_next : (lo hi : ℕ) (cells : List CellSeen) → Follow (suc l) lo hi cells
      → ((c : CellSeen) → Contains cells c → IsSound c) → next_key hi (items_of_cells cells) ≡ lo
  cells_next lo hi [] follow sound = sym follow
  cells_next lo hi (c ∷ cells) (level, at, lt, rest) sound = begins c hi (items_of_cells cells) (omega (arith, level, low))
      (sound c (here c cells)) ∙ at

  module _ (lo hi : ℕ) (c : CellSeen) (cells : List CellSeen) (follow : Follow (suc l) lo hi (c ∷ cells))
      (sound : (d : CellSeen) → Contains (c ∷ cells) d → IsSound d) where
    ends : next_key hi (items_of_cells cells) ≡ rank c.hi
    ends = cells_next (rank c.hi) hi cells follow.3 (λ d member. sound d (later c d cells member))

    names_parts : names_in (suc l) hi (items_of_cells (c ∷ cells)) ≡ (node_of c).names
        ++ names_in (suc l) hi (items_of_cells cells)
    names_parts = names_append (suc l) hi (items_of c.block) (items_of_cells cells)
        ∙ (ap (λ k. names_in (suc l) k (items_of c.block) ++ names_in (suc l) hi (items_of_cells cells)) ends
        ∙ ap (λ ns. ns ++ names_in (suc l) hi (items_of_cells cells)) (sym (names_are c l follow.0)))

    spans_parts : spans_in hi (items_of_cells (c ∷ cells)) ≡ (node_of c).spans ++ spans_in hi (items_of_cells cells)
    spans_parts = spans_append hi (items_of c.block) (items_of_cells cells)
        ∙ (ap (λ k. spans_in k (items_of c.block) ++ spans_in hi (items_of_cells cells)) ends
        ∙ ap (λ ss. ss ++ spans_in hi (items_of_cells cells)) (sym (spans_are c l follow.0)))

  pub naming_in : (lo hi : ℕ) (cells : List CellSeen) → Follow (suc l) lo hi cells
      → ((c : CellSeen) → Contains cells c → IsSound c) → (n : Name) → AreNaming cells n
      → Contains (names_in (suc l) hi (items_of_cells cells)) n
  naming_in lo hi [] follow sound n (x, member, named) = absurd (none x member)
  naming_in lo hi (c ∷ cells) follow sound n (x, member, named) =
      subst (λ ns. Contains ns n) (sym (names_parts lo hi c cells follow sound)) (elim (cases c x cells member) [
        | inl is ↦ Contains-append_left (node_of c).names (names_in (suc l) hi (items_of_cells cells)) n
            (subst (λ y. Contains (node_of y).names n) is named)
        | inr more ↦ Contains-append_right (node_of c).names (names_in (suc l) hi (items_of_cells cells)) n
            (naming_in (rank c.hi) hi cells follow.3 (λ d m. sound d (later c d cells m)) n (x, more, named))
      ])

  pub in_naming : (lo hi : ℕ) (cells : List CellSeen) → Follow (suc l) lo hi cells
      → ((c : CellSeen) → Contains cells c → IsSound c) → (n : Name) → Contains (names_in (suc l) hi (items_of_cells cells)) n
      → AreNaming cells n
  in_naming lo hi [] follow sound n h = absurd (none n (subst (λ ns. Contains ns n) (empty_names (suc l) hi) h))
  in_naming lo hi (c ∷ cells) follow sound n h = elim
      (Contains-append_cases (node_of c).names (names_in (suc l) hi (items_of_cells cells)) n
      (subst (λ ns. Contains ns n) (names_parts lo hi c cells follow sound) h)) [
        | inl mine ↦ (c, here c cells, mine)
        | inr rest ↦ let (x, member, named) = in_naming (rank c.hi) hi cells follow.3
            (λ d m. sound d (later c d cells m)) n rest in (x, later c x cells member, named)
      ]

  pub spanning_in : (lo hi : ℕ) (cells : List CellSeen) → Follow (suc l) lo hi cells
      → ((c : CellSeen) → Contains cells c → IsSound c) → (v : Span) → AreSpanning cells v
      → Contains (spans_in hi (items_of_cells cells)) v
  spanning_in lo hi [] follow sound v (x, member, spanned) = absurd (none x member)
  spanning_in lo hi (c ∷ cells) follow sound v (x, member, spanned) =
      subst (λ ss. Contains ss v) (sym (spans_parts lo hi c cells follow sound)) (elim (cases c x cells member) [
        | inl is ↦ Contains-append_left (node_of c).spans (spans_in hi (items_of_cells cells)) v
            (subst (λ y. Contains (node_of y).spans v) is spanned)
        | inr more ↦ Contains-append_right (node_of c).spans (spans_in hi (items_of_cells cells)) v
            (spanning_in (rank c.hi) hi cells follow.3 (λ d m. sound d (later c d cells m)) v (x, more, spanned))
      ])

  pub in_spanning : (lo hi : ℕ) (cells : List CellSeen) → Follow (suc l) lo hi cells
      → ((c : CellSeen) → Contains cells c → IsSound c) → (v : Span) → Contains (spans_in hi (items_of_cells cells)) v
      → AreSpanning cells v
  in_spanning lo hi [] follow sound v h = absurd (none v (subst (λ ss. Contains ss v) (empty_spans hi) h))
  in_spanning lo hi (c ∷ cells) follow sound v h = elim
      (Contains-append_cases (node_of c).spans (spans_in hi (items_of_cells cells)) v
      (subst (λ ss. Contains ss v) (spans_parts lo hi c cells follow sound) h)) [
        | inl mine ↦ (c, here c cells, mine)
        | inr rest ↦ let (x, member, spanned) = in_spanning (rank c.hi) hi cells follow.3
            (λ d m. sound d (later c d cells m)) v rest in (x, later c x cells member, spanned)
      ]

-- ---- pointers weigh alike

some_pointer : (o : Option ℕ) → names_block true (2 ^ 64) o ≡ true → (to : ℕ) × (o ≡ Some to)
some_pointer None h = absurd cc
some_pointer (Some to) h = (to, refl)

eight : (p : Bool) (to n : ℕ) → (if p then Some n else None) ≡ Some to → p ≡ true
eight true to n e = refl
eight false to n e = absurd (none-some to e)

pointer_long : (b : List ℕ) → names_block true (2 ^ 64) (pointer_of b) ≡ true → length b ≡ 8
unfolding pointer_of
pointer_long b h =
    let (to, is) = some_pointer _ h in
    eqb-true (length b) 8 (and_parts (length b == 8) _ (eight _ to _ is)).0

accepted_pointer : (it : Item) → it.plugin ≡ 3 → item_body_fault true (2 ^ 64) it ≡ None
    → names_block true (2 ^ 64) (pointer_of it.body) ≡ true
unfolding item_body_fault
accepted_pointer it plugin none_wrong =
    let a : (it.plugin == 0) ≡ false = ap (λ (y : ℕ). y == 0) plugin in
    let b : (it.plugin == 2) ≡ false = ap (λ (y : ℕ). y == 2) plugin in
    let d : (it.plugin == 3) ≡ true = ap (λ (y : ℕ). y == 3) plugin in
    chosen _ Pointer (let says : (if names_block true (2 ^ 64) (pointer_of it.body) then None else Some Pointer)
    ≡ None = (rw (a, b, d) at none_wrong) in says)

high_plugin : (level plugin : ℕ) → 3 ≤ level → fits_level level plugin ≡ true → plugin ≡ 3
high_plugin level plugin high fits = grind (arith, nat_tests, fits)

pub alike : (level lo hi i : ℕ) (items : List Item) → 3 ≤ level → PluginsFit level items → Good level lo hi i items
    → All (λ x. weight_of x ≡ 46) items
alike level lo hi i [] high fit good = All-nil (λ (x : Item). weight_of x ≡ 46)
alike level lo hi i (x ∷ xs) high fit good =
    let (at, rest) = good_parts level lo hi i x xs good in
    let long = pointer_long x.body (accepted_pointer x (high_plugin level x.plugin high (fit 0 x refl)) at.body) in
    All-cons (λ (y : Item). weight_of y ≡ 46) x xs (omega (arith, long))
    (alike level lo hi (i + 1) xs high (λ k. fit (suc k)) rest)
