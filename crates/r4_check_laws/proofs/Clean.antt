-- A walk over a tree finds no fault, and has just the tree's cells.
use Rattle.std.proofs.Common.{◌≡◌, ◌⊎◌, inl, inr, ℕ, zero, suc, ◌+◌, ◌<◌, ◌≤◌, Bool, true, false, ◌||◌, ◌==◌, List, [], ◌∷◌, ◌++◌, length, Option, Some, None, is_none, refl, sym, ap, subst, ◌∙◌, arith}
use Rattle.std.specs.Prelude.{Contains, fold, if◌then◌else◌}
use Rattle.std.proofs.lemmas.Bool.{eqb-true}
use Rattle.std.proofs.lemmas.Option.{same_Some}
use Rattle.r4_base.proofs.Contents.{same_option}
use Rattle.r4_base.proofs.Trees.{has_parent}
use Rattle.r4_base.specs.Bitmap.{is_marked}
use Rattle.r4_base.specs.Cell.{IsCellOf, cell_fault, cell_of}
use Rattle.r4_base.specs.Image.{Image, block_at}
use Rattle.r4_base.specs.Tree.{Fits, InName, InNode, IsTree, Name, Node, Root, Store}
use Rattle.r4_base.specs.Value.{Value}
use Rattle.r4_base.specs.declared.items.CellFault.{CellFault}
use Rattle.r4_check.specs.Walk.{Walk, cell_at, faults_at, is_reached, look, meet, names_below, nothing_met, refusal_at, with_cell, with_fault, with_reached, wrong_with}
use Rattle.r4_check.proofs.Closed.{look_grows}
use Rattle.r4_check.proofs.Kept.{look_keeps_with, meet_by, no_cell}
use Rattle.r4_check.proofs.Meets.{below_accepted, meet_accepted}
use Rattle.r4_check_objects.specs.declared.fault.Fault.{Fault}
use Rattle.r4_check_laws.proofs.Lists.{here, later, none_in, one_of}
use Rattle.r4_check_laws.proofs.NamesRise.{NamesRise, cell_rises, risen_apart}
use Rattle.r4_check_laws.proofs.Stores.{AreOnce, in_cells, store_of, stored}

or_cases : (a b : Bool) → (a || b) ≡ true → (a ≡ true) ⊎ (b ≡ true)
or_cases true b e = inl refl
or_cases false b e = inr e

below_member : (again : Bool) (o : Option CellFault) (names : List Name) (m : Name) → Contains (if again then [] else if is_none o then names else []) m → Contains names m
below_member true o names m at = absurd (none_in m at)
below_member false None names m at = at
below_member false (Some f) names m at = absurd (none_in m at)

module _ (blocks : ℕ) (image : Image) (t : Store Value) (root : Root) (it : IsTree t root) (cells : (i : ℕ) (c : Node Value) → t i ≡ Some c → IsCellOf blocks (block_at image i) c)
    (whole : (i : ℕ) (c : Node Value) → t i ≡ Some c → length (block_at image i) ≡ 4096) (marked : (i : ℕ) (c : Node Value) → t i ≡ Some c → is_marked image i ≡ true) where
  -- the name is that of a cell of the tree
  abbrev pub IsIn : Name → Type 0
  IsIn n = (c : Node Value) × (t n.id ≡ Some c) × Fits n c

  pub cell_is : (n : Name) (c : Node Value) → t n.id ≡ Some c → Fits n c → c ≡ cell_at image n
  cell_is n c at f =
      (cells n.id c at).says ∙ ap (λ (l : ℕ). cell_of l c.lo c.hi (block_at image n.id)) f.level ∙ ap (λ (x : ℕ). cell_of n.level x c.hi (block_at image n.id)) f.lo ∙ ap (λ (x : ℕ). cell_of n.level n.lo x (block_at image n.id)) f.hi

  sound_at : (n : Name) (c : Node Value) → t n.id ≡ Some c → Fits n c → refusal_at blocks image n ≡ None
  sound_at n c at f =
      let P : (l lo hi : ℕ) → Type 0 = λ l lo hi. cell_fault false blocks l lo hi (block_at image n.id) ≡ None in
      subst (λ (x : ℕ). P n.level n.lo x) f.hi (subst (λ (x : ℕ). P n.level x c.hi) f.lo (subst (λ (x : ℕ). P x c.lo c.hi) f.level (cells n.id c at).sound))

  -- no key lies in the cell and under the name
  abbrev IsAway : Node Value → Name → Type 0
  IsAway d n = (k : ℕ) → InNode d k → InName n k → ⊥

  -- what was reached stands above the name, or away from it
  abbrev IsReady : Walk → Name → Type 0
  IsReady w n = (b : ℕ) → is_reached w b ≡ true → (d : Node Value) × (t b ≡ Some d) × ((n.level < d.level) ⊎ IsAway d n)

  abbrev IsWithin : Name → ℕ → Type 0
  IsWithin n b = (d : Node Value) × (t b ≡ Some d) × (n.lo ≤ d.lo) × (d.hi ≤ n.hi)

  first_time : (w : Walk) (n : Name) → IsIn n → IsReady w n → is_reached w n.id ≡ false
  first_time w n (c, at, f) ready = by (is_reached w n.id) refl
    where
      by : (b : Bool) → is_reached w n.id ≡ b → is_reached w n.id ≡ false
      by false e = e
      by true e =
          let (d, there, or) = ready n.id e in
          let same : c ≡ d = same_Some c d (sym at ∙ there) in
          let level = f.level in
          let lo = f.lo in
          let hi = f.hi in
          let some = (it.nodes n.id c at).nonempty in
          let dl = ap (λ (x : Node Value). x.level) same in
          let dlo = ap (λ (x : Node Value). x.lo) same in
          let dhi = ap (λ (x : Node Value). x.hi) same in
          absurd (elim or [
            | inl above ↦ omega (arith, above, level, dl)
            | inr away ↦ away n.lo (omega (arith, dlo, lo), omega (arith, dhi, dlo, some, lo)) (omega arith, omega (arith, lo, hi, some))
          ])

  meets : (w : Walk) (n : Name) → (i : IsIn n) → IsReady w n → meet blocks image w n ≡ with_fault n.id (wrong_with (is_marked image n.id) None) (with_cell n.id (cell_at image n) (with_reached n.id w))
  meets w n i ready = sym (meet_accepted blocks image w n (first_time w n i ready) (sound_at n i.0 i.1 i.2))

  meet_none : (w : Walk) (n : Name) → (i : IsIn n) → IsReady w n → w.faults ≡ [] → (meet blocks image w n).faults ≡ []
  meet_none w n i ready none =
      ap (λ (v : Walk). v.faults) (meets w n i ready) ∙ ap (λ (b : Bool). w.faults ++ faults_at n.id (wrong_with b None)) (marked n.id i.0 i.1) ∙ ap (λ (fs : List Fault). fs ++ []) none

  meet_more : (w : Walk) (n : Name) → (i : IsIn n) → IsReady w n → (b : ℕ) → is_reached (meet blocks image w n) b ≡ true → (is_reached w b ≡ true) ⊎ (b ≡ n.id)
  meet_more w n i ready b e = elim (or_cases (n.id == b) (is_reached w b) (sym (ap (λ (v : Walk). is_reached v b) (meets w n i ready)) ∙ e)) [
    | inl is ↦ inr (sym (eqb-true n.id b is))
    | inr old ↦ inl old
  ]

  record Clean (w : Walk) (n : Name) (v : Walk) : Type 0 where
    none : v.faults ≡ []
    more : (b : ℕ) → is_reached v b ≡ true → (is_reached w b ≡ true) ⊎ IsWithin n b

  own_within : (n : Name) → IsIn n → (b : ℕ) → b ≡ n.id → IsWithin n b
  own_within n (c, at, f) b is = let lo = f.lo in let hi = f.hi in (c, ap t is ∙ at, omega (arith, lo), omega (arith, hi))

  fold_clean : (f : Walk → Name → Walk) (levels : ℕ) → ((w : Walk) (m : Name) → m.level ≤ levels → IsIn m → IsReady w m → w.faults ≡ [] → Clean w m (f w m))
      → (from to : ℕ) (names : List Name) → NamesRise from to names → ((m : Name) → Contains names m → (m.level ≤ levels) × IsIn m) → (w : Walk) → ((m : Name) → Contains names m → IsReady w m) → w.faults ≡ []
      → ((fold f w names).faults ≡ []) × ((b : ℕ) → is_reached (fold f w names) b ≡ true → (is_reached w b ≡ true) ⊎ ((m : Name) × Contains names m × IsWithin m b))
  fold_clean f levels on from to [] rise all w ready none = (none, λ b e. inl e)
  fold_clean f levels on from to (m ∷ names) rise all w ready none =
      let mine = all m (here m names) in
      let first = on w m mine.0 mine.1 (ready m (here m names)) none in
      let next : (x : Name) → Contains names x → IsReady (f w m) x = λ x at b e. (elim (first.more b e) [
        | inl old ↦ ready x (later m names x at) b old
        | inr within ↦
            let (d, there, lo, hi) = within in
            let behind = risen_apart m.hi to names rise.3 x at in
            (d, there, inr (λ k in_d in_x. omega (arith, in_d, in_x, hi, behind)))
      ]) in
      let rest = fold_clean f levels on m.hi to names rise.3 (λ x at. all x (later m names x at)) (f w m) next first.none in (
        rest.0,
        λ b e. (elim (rest.1 b e) [
          | inl old ↦ elim (first.more b old) [
            | inl older ↦ inl older
            | inr within ↦ inr (m, here m names, within)
          ]
          | inr some ↦ let (x, at, within) = some in inr (x, later m names x at, within)
        ]),
      )

  look_clean : (levels : ℕ) (w : Walk) (n : Name) → n.level ≤ levels → IsIn n → IsReady w n → w.faults ≡ [] → Clean w n (look levels blocks image w n)
  unfolding look
  look_clean zero w n low i ready none = record {
    none = meet_none w n i ready none;
    more = λ b e. (elim (meet_more w n i ready b e) [ inl old ↦ inl old | inr is ↦ inr (own_within n i b is) ]);
  }
  look_clean (suc levels) w n low i ready none =
      let (c, at, f) = i in
      let node = it.nodes n.id c at in
      let cell = cells n.id c at in
      let names : names_below blocks image w n ≡ c.names = sym (below_accepted blocks image w n (first_time w n i ready) (sound_at n c at f)) ∙ ap (λ (d : Node Value). d.names) (sym (cell_is n c at f)) in
      let rises = cell_rises blocks c.level c.lo c.hi (block_at image n.id) (whole n.id c at) cell.sound in
      let rise : NamesRise rises.0 c.hi (names_below blocks image w n) = subst (NamesRise rises.0 c.hi) (ap (λ (d : Node Value). d.names) (sym cell.says) ∙ sym names) rises.1 in
      let level = f.level in
      let lo = f.lo in
      let hi = f.hi in
      let in_cell : (m : Name) → Contains (names_below blocks image w n) m → Contains c.names m = λ m has. subst (λ (l : List Name). Contains l m) names has in
      let under : (m : Name) → Contains (names_below blocks image w n) m → m.level < c.level = λ m has. (elim (node.below m (in_cell m has)) [
        | inl below ↦ omega (arith, below)
        | inr twig ↦ omega (arith, twig)
      ]) in
      let all : (m : Name) → Contains (names_below blocks image w n) m → (m.level ≤ levels) × IsIn m = λ m has. (let less = under m has in (omega (arith, less, level, low), it.named n.id c m at (in_cell m has))) in
      let ready_below : (m : Name) → Contains (names_below blocks image w n) m → IsReady (meet blocks image w n) m = λ m has b e. (
      let less = under m has in
      let from = node.name_from m (in_cell m has) in
      let to = node.name_to m (in_cell m has) in
      elim (meet_more w n i ready b e) [
        | inr is ↦ (c, ap t is ∙ at, inl less)
        | inl old ↦ let (d, there, or) = ready b old in (
          d,
          there,
          elim or [
            | inl above ↦ inl (omega (arith, above, less, level))
            | inr away ↦ inr (λ k in_d in_m. away k in_d (omega (arith, in_m, from, lo), omega (arith, in_m, to, hi)))
          ],
        )
      ]
      ) in
      let rest = fold_clean (look levels blocks image) levels (look_clean levels) rises.0 c.hi (names_below blocks image w n) rise all (meet blocks image w n) ready_below (meet_none w n i ready none) in
      record {
        none = rest.0;
        more = λ b e. (elim (rest.1 b e) [
          | inl old ↦ elim (meet_more w n i ready b old) [ inl older ↦ inl older | inr is ↦ inr (own_within n i b is) ]
          | inr some ↦
              let (m, has, (d, there, a, z)) = some in
              let from = node.name_from m (in_cell m has) in
              let to = node.name_to m (in_cell m has) in
              inr (d, there, omega (arith, a, from, lo), omega (arith, z, to, hi))
        ]);
      }

  -- ---- the whole walk

  module _ (top_name : Name) (is_root : top_name.id ≡ root.id) (fits : Fits top_name it.root_node) where
    root_in : IsIn top_name
    root_in = (it.root_node, ap t is_root ∙ it.root_is, fits)

    pub walk_clean : (look top_name.level blocks image nothing_met top_name).faults ≡ []
    walk_clean = (look_clean top_name.level nothing_met top_name (omega arith) root_in (λ b e. absurd (cc)) refl).none

    abbrev AreStored : Walk → Type 0
    AreStored w = (i : ℕ) (c : Node Value) → Contains w.cells (i, c) → t i ≡ Some c

    below_in : (w : Walk) (n : Name) → IsIn n → (m : Name) → Contains (names_below blocks image w n) m → IsIn m
    unfolding names_below
    below_in w n (c, at, f) m has =
        let named = below_member (is_reached w n.id) (refusal_at blocks image n) (cell_at image n).names m has in
        it.named n.id c m at (subst (λ (d : Node Value). Contains d.names m) (sym (cell_is n c at f)) named)

    stored_kept : (w : Walk) (n : Name) → IsIn n → AreStored w → AreStored (meet blocks image w n)
    stored_kept w n (c, at, f) h = meet_by AreStored blocks image w n (λ again. h) (λ first sound. accepted) (λ e first bad. h)
      where
        accepted : (i : ℕ) (d : Node Value) → Contains ((n.id, cell_at image n) ∷ w.cells) (i, d) → t i ≡ Some d
        accepted i d has = elim (one_of (n.id, cell_at image n) w.cells (i, d) has) [
          | inl e ↦ let Q : ℕ × Node Value → Type 0 = λ p. t p.0 ≡ Some p.1 in subst Q e (at ∙ ap (λ (x : Node Value). Some x) (cell_is n c at f))
          | inr more ↦ h i d more
        ]

    pub are_stored : AreStored (look top_name.level blocks image nothing_met top_name)
    are_stored = look_keeps_with IsIn AreStored blocks image below_in stored_kept top_name.level nothing_met top_name root_in (λ i c has. absurd (no_cell i c has))

    module _ (is_whole : (look top_name.level blocks image nothing_met top_name).whole ≡ true) where
      abbrev IsMet : ℕ → Node Value → Type 0
      IsMet i c = Contains (look top_name.level blocks image nothing_met top_name).cells (i, c)

      -- a cell is the root, or one that a cell above it names
      abbrev HasNamer : ℕ → Node Value → Type 0
      HasNamer i c = (j : ℕ) × (d : Node Value) × (n : Name) × (t j ≡ Some d) × Contains d.names n × (n.id ≡ i) × (c.level < d.level) × (cell_at image n ≡ c)

      namer : (i : ℕ) (c : Node Value) → t i ≡ Some c → (i ≡ root.id) ⊎ HasNamer i c
      namer i c at = elim (has_parent t root it i c at) [
        | inl is ↦ inl is
        | inr by ↦
            let (j, d, n, dj, dn, id) = by in
            let (e, te, f) = it.named j d n dj dn in
            let same : e ≡ c = same_Some e c (sym te ∙ ap t id ∙ at) in
            let level : n.level ≡ c.level = sym f.level ∙ ap (λ (x : Node Value). x.level) same in
            let higher : c.level < d.level = elim ((it.nodes j d dj).below n dn) [
              | inl below ↦ omega (arith, below, level)
              | inr twig ↦ omega (arith, twig, level)
            ] in
            inr (j, d, n, dj, dn, id, higher, sym (cell_is n e te f) ∙ same)
      ]

      root_met : (i : ℕ) (c : Node Value) → t i ≡ Some c → i ≡ root.id → IsMet i c
      root_met i c at is =
          let grows = look_grows blocks image top_name.level nothing_met top_name (omega arith) is_whole in
          let same : it.root_node ≡ c = same_Some it.root_node c (sym it.root_is ∙ ap t (sym is) ∙ at) in
          let cell : cell_at image top_name ≡ c = sym (cell_is top_name it.root_node (ap t is_root ∙ it.root_is) fits) ∙ same in
          subst (λ (j : ℕ). IsMet j c) (is_root ∙ sym is) (subst (λ (d : Node Value). IsMet top_name.id d) cell grows.1)

      named_met : (i : ℕ) (c : Node Value) (j : ℕ) (d : Node Value) (n : Name) → Contains d.names n → n.id ≡ i → cell_at image n ≡ c → IsMet j d → IsMet i c
      named_met i c j d n dn id cell has =
          let grows = look_grows blocks image top_name.level nothing_met top_name (omega arith) is_whole in
          let there : IsMet n.id (cell_at image n) = elim (grows.0.closed j d has) [ inl never ↦ absurd (no_cell j d never) | inr all ↦ all n dn ] in
          subst (λ (x : ℕ). IsMet x c) id (subst (λ (x : Node Value). IsMet n.id x) cell there)

      all_by : (left i : ℕ) (c : Node Value) → t i ≡ Some c → root.height ≤ c.level + left → IsMet i c
      all_by zero i c at low = elim (namer i c at) [
        | inl is ↦ root_met i c at is
        | inr by ↦ let (j, d, n, dj, dn, id, higher, cell) = by in let most = it.none_above j d dj in absurd (omega (arith, higher, most, low))
      ]
      all_by (suc left) i c at low = elim (namer i c at) [
        | inl is ↦ root_met i c at is
        | inr by ↦ let (j, d, n, dj, dn, id, higher, cell) = by in named_met i c j d n dn id cell (all_by left j d dj (omega (arith, higher, low)))
      ]

      -- the walk has the cells of the tree, and no others
      pub same_store : AreOnce (look top_name.level blocks image nothing_met top_name).cells → (i : ℕ) → store_of (look top_name.level blocks image nothing_met top_name).cells i ≡ t i
      same_store once i = same_option (store_of (look top_name.level blocks image nothing_met top_name).cells i) (t i) (λ c. (
        λ at. are_stored i c (in_cells (look top_name.level blocks image nothing_met top_name).cells i c at),
        λ at. stored (look top_name.level blocks image nothing_met top_name).cells once i c (all_by root.height i c at (omega arith)),
      ))
