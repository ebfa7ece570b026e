-- What is prepared is what a flush promises of its atom.
use Rattle.std.proofs.Common.{◌≡◌, ◌≢◌, inl, inr, ⊎_elim, ℕ, zero, suc, ◌+◌, ◌*◌, ◌^◌, ◌<◌, Bool, true, false, cond, eqb}
use Rattle.std.proofs.Common.{List, [], ◌∷◌, length, ◌%◌, map, Option, Some, None, refl, sym, ap, ◌∙◌, subst, arith}
use Rattle.std.specs.Prelude.{Contains, ◌==◌, if◌then◌else◌}
use Rattle.std.specs.Option.{option_map}
use Rattle.std.proofs.lemmas.Bool.{cases_eq, eq-eqb, ne_eqb}
use Rattle.std.proofs.lemmas.List.Elements.{Contains-append_left, Contains-append_right}
use Rattle.r4_base.proofs.Choices.{none_under, or_none}
use Rattle.r4_base.proofs.Members.{member_here, member_later, member_or_not}
use Rattle.r4_base.specs.Cell.{block_names, cell_fault, cell_of, is_extent, is_pointer, item_body_fault, item_names}
use Rattle.r4_base.specs.Cell.{items_in_fault, names_in, next_key, pointer_names, range_is_good, run_names}
use Rattle.r4_base.specs.Extents.{AreLawfulUnits, IsLawfulUnit, body_fault, is_hole, pointer_of, units_of}
use Rattle.r4_base.specs.Key.{rank}
use Rattle.r4_base.specs.Node.{Item, items_of, level_of, node_fault}
use Rattle.r4_base.specs.Tree.{Name}
use Rattle.r4_base.specs.Value.{Content}
use Rattle.r4_base.specs.declared.items.CellFault.TheVariants.{Extent, Level, Node as NodeAt, Range}
use Rattle.r4_base.specs.declared.items.Unit.{Unit as ExtentUnit}
use Rattle.r4_base.specs.declared.things.BlockNo.{BlockNo}
use Rattle.r4_cell.specs.Seen.{CellSeen, node_of}
use Rattle.r4_space.specs.Space.{Space}
use Rattle.r4_place.specs.Chosen.{AreChosen, behind, fresh_blocks, placed_in}
use Rattle.r4_place.specs.declared.placed.Placed.{Placed}
use Rattle.r4_twig.proofs.Faults.{body_lawful}
use Rattle.r4_flushed.proofs.r4_wander.Members.{any_here, any_later, from_map, in_map}
use Rattle.r4_flushed.specs.r4_commit.Places.{block_given, place_of}
use Rattle.r4_flushed.specs.r4_sealed.Commits.{spot, spot_of}
use Rattle.r4_flushed.specs.r4_sets.Renaming.{IsRenamed}
use Rattle.r4_flushed.specs.r4_placed.Flushing.{Flushing, IsAtRest, moves, name_after}
use Rattle.r4_flushed.specs.r4_placed.RenamedItems.{AreItemsRenamed, AreUnitsRenamed, IsItemRenamed, IsUnitRenamed}
use Rattle.r4_flushed.proofs.r4_placed.Planning.{below_or, fresh_spot, from_pairs, none_or, old_spot, renamed_cell}
use Rattle.r4_flushed.proofs.r4_placed.RenamingItems.{cell_renamed}
use Rattle.r4_flushed.proofs.r4_placed.Swapped.{swap_stays}
use Rattle.r4_flush.specs.Anew.{AreItemsAnew, BecomeBlocks, IsCellAnew, IsItemAnew, new_name, unit_anew}
use Rattle.r4_flush.proofs.Faults.{extent_fault_on, high_fixed, not_kind}

-- ---- names

-- a name of no cell gets no block
unnamed : (near : ℕ) (s : Space) (cs : List CellSeen) (ps : List Placed) (name : ℕ) → AreChosen near s cs ps
    → (Contains (map (λ (x : CellSeen). x.id) cs) name → ⊥) → place_of ps name ≡ None
unnamed near s [] [] name h out = refl
unnamed near s [] (p ∷ ps) name h out = absurd h
unnamed near s (c ∷ cs) [] name h out = absurd h
unnamed near s (c ∷ cs) (p ∷ ps) name h out =
    none_or (place_of ps name) _ (unnamed (behind near p.how) (placed_in s p.how) cs ps name h.2
    (λ m. out (member_later c.id _ name m)))
    (ap (λ (t : Bool). cond t (block_given p.how) None)
    (ne_eqb p.node.0 name (λ is. out (member_here c.id _ name (sym is ∙ h.0)))))

-- where no block was chosen, a name becomes what it changes places with
pub names_agree : (n : ℕ) (work : Flushing) (m : Content) → IsAtRest n work m → (i : ℕ)
    → (Contains (fresh_blocks work.answers) i → ⊥) → new_name (place_of work.answers) i ≡ name_after work i
names_agree n work m r i out = ⊎_elim
    (λ one.
    let (x, in_x, is) = from_map (λ (y : CellSeen). y.id) work.cells i one in
    ap (new_name (place_of work.answers)) is ∙ sym (renamed_cell n work m r x in_x) ∙ ap (name_after work) (sym is))
    (λ none.
    ap (λ (o : Option BlockNo). spot_of o i) (unnamed 22 work.space work.cells work.answers i r.chosen none)
    ∙ sym (swap_stays (moves work.answers work.cells) i (λ q one.
    let (y, in_y, at) = from_pairs work.answers work.cells q one in
    let first : q.0 ≡ y.id = ap (λ (p : ℕ × ℕ). p.0) at in
    let second : q.1 ≡ spot work.answers y = ap (λ (p : ℕ × ℕ). p.1) at in
    (λ e. off y in_y none (e ∙ first), λ e. block y in_y none (e ∙ second)))))
    (member_or_not (map (λ (y : CellSeen). y.id) work.cells) i)
  where
    off : (y : CellSeen) → Contains work.cells y → (Contains (map (λ (z : CellSeen). z.id) work.cells) i → ⊥)
        → i ≡ y.id → ⊥
    off y in_y none e = none (subst (Contains (map (λ (z : CellSeen). z.id) work.cells)) (sym e)
        (in_map (λ (z : CellSeen). z.id) work.cells y in_y))

    block : (y : CellSeen) → Contains work.cells y → (Contains (map (λ (z : CellSeen). z.id) work.cells) i → ⊥)
        → i ≡ spot work.answers y → ⊥
    block y in_y none e = ⊎_elim
        (λ low. off y in_y none (e ∙ old_spot n work m r y in_y low))
        (λ high. out (subst (Contains (fresh_blocks work.answers)) (sym e) (fresh_spot n work m r y in_y high)))
        (below_or y.id)

-- ---- items

-- the k-th block of a run
in_run : (key start width k : ℕ) → k < width → (x : Name) × Contains (run_names key start width) x × (x.id ≡ start + k)
in_run key start zero k lt = absurd (omega (arith, lt))
in_run key start (suc w) zero lt =
    (_, any_here _ (run_names (key + 4096) (start + 1) w) _ refl, omega arith)
in_run key start (suc w) (suc k) lt =
    let (x, one, is) = in_run (key + 4096) (start + 1) w k (omega (arith, lt)) in
    (x, any_later _ (run_names (key + 4096) (start + 1) w) x one, omega (arith, is))

module _ (f g : ℕ → ℕ) (blocks_are : BecomeBlocks f) where
  low_stays : (i : ℕ) → i < 2 ^ 63 → f i ≡ i
  low_stays i low = ⊎_elim (λ stays. stays) (λ (high, less, free). absurd (omega (arith, low, high))) (blocks_are i)

  same_hole : (i : ℕ) → eqb (f i) 0 ≡ eqb i 0
  same_hole i = ⊎_elim (λ stays. ap (λ (k : ℕ). eqb k 0) stays)
      (λ (high, less, free).
      let some = high_fixed f blocks_are (f i) free in
      ne_eqb (f i) 0 (λ is. absurd (omega (arith, some, is))) ∙ sym (ne_eqb i 0 (λ is. absurd (omega (arith, high, is)))))
      (blocks_are i)

  -- a unit of one block, or a wider one
  unit_agrees : (key : ℕ) (u : ExtentUnit) → IsLawfulUnit true (2 ^ 63) u
      → ((x : Name) → Contains (if is_hole u then [] else run_names key u.start u.width) x → f x.id ≡ g x.id)
      → IsUnitRenamed g u (unit_anew f u)
  unit_agrees key u lawful agree = elim (cases_eq u.width 1) [
    | inl one ↦ subst (λ (t : Bool). IsUnitRenamed g u (if t then record u { start = f u.start } else u))
        (sym (eq-eqb u.width 1 one)) (record {
          width = refl;
          hole = same_hole u.start;
          blocks = λ k lt hole.
              let (x, in_x, is) = in_run key u.start u.width k lt in
              let here : k ≡ 0 = omega (arith, lt, one) in
              let first : f u.start + k ≡ f u.start = omega (arith, here) in
              let at : u.start ≡ x.id = omega (arith, is, here) in
              let last : x.id ≡ u.start + k = is in
              first ∙ ap f at ∙ agree x (named x hole in_x) ∙ ap g last;
        })
    | inr wide ↦ subst (λ (t : Bool). IsUnitRenamed g u (if t then record u { start = f u.start } else u))
        (sym (ne_eqb u.width 1 wide)) (record {
          width = refl;
          hole = refl;
          blocks = λ k lt hole.
              let (x, in_x, is) = in_run key u.start u.width k lt in
              sym (low_stays (u.start + k) (low wide k lt hole)) ∙ ap f (sym is) ∙ agree x (named x hole in_x) ∙ ap g is;
        })
  ]
    where
      named : (x : Name) → is_hole u ≡ false → Contains (run_names key u.start u.width) x
          → Contains (if is_hole u then [] else run_names key u.start u.width) x
      named x hole in_x = subst (λ (t : Bool). Contains (if t then [] else run_names key u.start u.width) x)
          (sym hole) in_x

      low : u.width ≢ 1 → (k : ℕ) → k < u.width → is_hole u ≡ false → u.start + k < 2 ^ 63
      low wide k lt hole = elim lawful [
        | inl unplaced ↦ absurd (wide unplaced.2)
        | inr (inl none) ↦ absurd (cc (sym (eq-eqb u.start 0 none.0) ∙ hole))
        | inr (inr run) ↦ let within = run.within in omega (arith, lt, within)
      ]

  units_agree : (key : ℕ) (us : List ExtentUnit) → AreLawfulUnits true (2 ^ 63) us
      → ((x : Name) → Contains (block_names key us) x → f x.id ≡ g x.id) → AreUnitsRenamed g us (map (unit_anew f) us)
  units_agree key [] lawful agree = tt
  units_agree key (u ∷ us) lawful agree = (
    unit_agrees key u lawful.0 (λ x one. agree x (Contains-append_left
        (if is_hole u then [] else run_names key u.start u.width) (block_names (key + 4096 * u.width) us) x one)),
    units_agree (key + 4096 * u.width) us lawful.1 (λ x one. agree x (Contains-append_right
        (if is_hole u then [] else run_names key u.start u.width) (block_names (key + 4096 * u.width) us) x one)),
  )

  pointer_agrees : (level key next : ℕ) (o : Option ℕ)
      → ((x : Name) → Contains (pointer_names level key next o) x → f x.id ≡ g x.id) → option_map f o ≡ option_map g o
  pointer_agrees level key next None agree = refl
  pointer_agrees level key next (Some to) agree = ap (λ (k : ℕ). Some k) (agree _ (any_here _ [] _ refl))

  pointer_has : (level next : ℕ) (it : Item) → is_pointer it ≡ true → item_names level next it ≡ pointer_names level
      (rank it.key) next (pointer_of it.body)
  unfolding item_names
  pointer_has level next it e = rw e refl

  extent_has : (level next : ℕ) (it : Item) → is_pointer it ≡ false → is_extent it ≡ true
      → item_names level next it ≡ block_names (rank it.key) (units_of it.body)
  unfolding item_names
  extent_has level next it e g = rw (e, g) refl

  item_agrees : (level next : ℕ) (x y : Item) → item_body_fault true (2 ^ 63) x ≡ None
      → ((z : Name) → Contains (item_names level next x) z → f z.id ≡ g z.id) → IsItemAnew f x y → IsItemRenamed g x y
  item_agrees level next x y none agree h = record {
    key = h.key;
    plugin = h.plugin;
    pointer = λ e. h.pointer e ∙ pointer_agrees level (rank x.key) next (pointer_of x.body)
        (λ z one. agree z (subst (λ (l : List Name). Contains l z) (sym (pointer_has level next x e)) one));
    extent = λ e. subst (AreUnitsRenamed g (units_of x.body)) (sym (h.extent e))
        (units_agree (rank x.key) (units_of x.body) (sound e).2 (λ z one. agree z
        (subst (λ (l : List Name). Contains l z) (sym (extent_has level next x (no_pointer e) e)) one)));
    other = h.other;
  }
    where
      no_pointer : is_extent x ≡ true → is_pointer x ≡ false
      no_pointer e = not_kind f blocks_are x.plugin 5 3 (λ k. absurd cc) e

      sound : is_extent x ≡ true → (0 < length x.body) × (length x.body % 16 ≡ 0)
          × AreLawfulUnits true (2 ^ 63) (units_of x.body)
      sound e = body_lawful true (2 ^ 63) x.body (none_under Extent (body_fault true (2 ^ 63) x.body)
          (sym (extent_fault_on f blocks_are (2 ^ 63) x e) ∙ none))

  items_agree : (level lo hi i : ℕ) (xs ys : List Item) → items_in_fault true (2 ^ 63) level lo hi i xs ≡ None
      → ((z : Name) → Contains (names_in level hi xs) z → f z.id ≡ g z.id) → AreItemsAnew f xs ys
      → AreItemsRenamed g xs ys
  unfolding items_in_fault names_in
  items_agree level lo hi i [] [] none agree h = tt
  items_agree level lo hi i [] (y ∷ ys) none agree h = absurd h
  items_agree level lo hi i (x ∷ xs) [] none agree h = absurd h
  items_agree level lo hi i (x ∷ xs) (y ∷ ys) none agree h =
      let first = or_none (item_body_fault true (2 ^ 63) x) _ none in
      let rest = or_none (if range_is_good level lo hi (next_key hi xs) i x then None else Some (Range i)) _ first.1 in (
        item_agrees level (next_key hi xs) x y first.0 (λ z one. agree z (Contains-append_left
            (item_names level (next_key hi xs) x) (names_in level hi xs) z one)) h.0,
        items_agree level lo hi (i + 1) xs ys rest.1 (λ z one. agree z (Contains-append_right
            (item_names level (next_key hi xs) x) (names_in level hi xs) z one)) h.1,
      )

  -- ---- cells

  block_agrees : (level lo hi : ℕ) (b c : List ℕ) → level ≢ 0 → cell_fault true (2 ^ 63) level lo hi b ≡ None
      → ((z : Name) → Contains (cell_of level lo hi b).names z → f z.id ≡ g z.id)
      → AreItemsAnew f (items_of b) (items_of c) → AreItemsRenamed g (items_of b) (items_of c)
  unfolding cell_fault cell_of
  block_agrees zero lo hi b c some none agree h = absurd (some refl)
  block_agrees (suc l) lo hi b c some none agree h =
      let first = or_none (option_map NodeAt (node_fault b)) _ none in
      let next = or_none (if level_of b == suc l then None else Some Level) _ first.1 in
      items_agree (suc l) lo hi 0 (items_of b) (items_of c) next.1 agree h

  pub cell_agrees : (x y : CellSeen) → cell_fault true (2 ^ 63) x.level (rank x.lo) (rank x.hi) x.block ≡ None
      → ((z : Name) → Contains (node_of x).names z → f z.id ≡ g z.id) → IsCellAnew f x y
      → IsRenamed g (node_of x) (node_of y)
  cell_agrees x y none agree h = cell_renamed g x y h.level h.lo h.hi h.bytes
      (λ some. block_agrees x.level (rank x.lo) (rank x.hi) x.block y.block some none agree (h.block some).items)
