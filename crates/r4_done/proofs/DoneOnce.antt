-- A task is done: the numbers of new cells are named once still, the root stands, and what other tasks were given is
-- there. The change meets what the task was given, which its own cells have not left since.
use Rattle.std.proofs.Common.{◌≡◌, ◌≢◌, ◌⊎◌, inl, inr, ⊎_elim, ℕ, ◌<◌, ◌≤◌, ◌^◌, ◌||◌, Bool, true, false, cond}
use Rattle.std.proofs.Common.{List, ◌++◌, Option, Some, None, Contains, refl, sym, ◌∙◌, ap, subst, arith, nat_lt, true≢false}
use Rattle.std.specs.Option.{option_map, unwrap_or}
use Rattle.std.proofs.lemmas.Bool.{cases_Bool, cond-false, cond-true, lt-ltb, or_left}
use Rattle.std.proofs.lemmas.List.Elements.{Contains-append_right}
use Rattle.std.proofs.lemmas.Option.{none-some}
use Rattle.r4_base.specs.Key.{rank}
use Rattle.r4_base.specs.Tree.{Name, Node, Root, Store}
use Rattle.r4_base.specs.Value.{Value}
use Rattle.r4_taking.specs.r4_buffer.Changed.{Standing, has_name, in_turn, replaced, unused}
use Rattle.r4_taking.specs.r4_buffer.Seen.{BufferSeen, EntrySeen, buffered, is_captured, is_dirty_by}
use Rattle.r4_taking.specs.r4_cell.Patch.{IsChange, Patch, by_name, patch_of, root_of_pair}
use Rattle.r4_taking.specs.r4_cell.Seen.{CellSeen, node_of}
use Rattle.r4_taking.specs.r4_cell.declared.change.Root.{Root as RootPair}
use Rattle.r4_taking.proofs.r4_cell.NamesBelow.{names_below}
use Rattle.r4_content.specs.Meaning.{with_id}
use Rattle.r4_content.specs.declared.command.Command.{Command}
use Rattle.r4_taking.specs.r4_history.Drawn.{numbers_in, numbers_of}
use Rattle.r4_taking.specs.r4_history.Held.{IsOut, need_of, nodes_of}
use Rattle.r4_taking.specs.r4_history.Tables.{next_at}
use Rattle.r4_outside.specs.Device.{State}
use Rattle.r4_counted.specs.r4_patch.Joining.{ids_of}
use Rattle.r4_counted.specs.r4_patch.Part.{MeetsPart}
use Rattle.r4_counted.proofs.r4_patch.Members.{distinct, found, there}
use Rattle.r4_counted.proofs.r4_patch.Placed.{some_of}
use Rattle.r4_taking.specs.r4_turns.Turns.{IsScript, TurnsSeen, turn_at}
use Rattle.r4_taking.specs.r4_turns.declared.out.Numbers.{Numbers}
use Rattle.r4_taking.specs.r4_turns.declared.out.Out.{Out}
use Rattle.r4_taking.specs.r4_kept.Cells.{AreNamedOnce, IsStillThere, NamesAt}
use Rattle.r4_taking.specs.r4_kept.Kept.{IsKept}
use Rattle.r4_taking.specs.r4_kept.Naming.{Naming}
use Rattle.r4_taking.specs.r4_kept.TasksOut.{IsGiven}
use Rattle.r4_taking.specs.r4_kept.View.{CoreSeen, blocks_of}
use Rattle.r4_taking.proofs.r4_kept.Readable.{captured_dirty}
use Rattle.r4_taking.proofs.r4_kept.Staying.{names_as, still_on}
use Rattle.r4_taking.proofs.r4_kept.Unused.{like_cell, like_dirty}
use Rattle.r4_done.proofs.DoneNames.{StandsIn}
use Rattle.r4_done.proofs.DoneTables.{is_touched}
use Rattle.r4_done.proofs.DoneTasks.{AreNumbered, not_numbers}
use Rattle.r4_done.proofs.Dropped.{TurnsDrop}
use Rattle.r4_done.proofs.Named.{has_found, node_of_need, not_found, one_named, one_of_ids}
use Rattle.r4_done.proofs.PatchedNames.{NewNames, StillNames, has_new, named_on_changes, named_on_stays, none_names}
use Rattle.r4_done.proofs.PatchedNames.{root_new}
use Rattle.r4_done.proofs.Replaced.{dirty_then, entries_then, like_then}

-- what a task's cell names: it is in memory, dirty, or the name is a block
record IsOldName (b : BufferSeen) (i : ℕ) (n : Name) : Type 0 where
  pub names : NamesAt b i n
  pub dirty : is_dirty_by (buffered b i) ≡ true

some_at : (b : BufferSeen) (i : ℕ) (x : CellSeen) (n : Name) → Contains (node_of x).names n → (o : Standing)
    → buffered b i ≡ o → option_map (λ (e : EntrySeen). e.cell) o ≡ Some x → NamesAt b i n
some_at b i x n has None at h = absurd (cc h)
some_at b i x n has (Some e) at h =
    let same : x ≡ e.cell = cc h in
    record { entry = e; is = at; among = subst (λ (y : CellSeen). Contains (node_of y).names n) same has }

stands_entry : (o : Standing) → is_dirty_by o ≡ true → (e : EntrySeen) × (o ≡ Some e)
stands_entry None h = absurd (cc h)
stands_entry (Some e) h = (e, refl)

module _ {D : Type 0} (r : Naming) (d : State) (c : CoreSeen D) (k : IsKept r d c) (s : ℕ) (out : Out)
    (here : IsOut c.turns s out) (old new : List CellSeen) (root : Option RootPair) (is : IsChange old new root)
    (reached : (x : CellSeen) → Contains old x → Contains out.writes x)
    (numbered : AreNumbered old new out.numbers) (sound : c.broken ≡ None) (x : Command)
    (g : IsGiven c.tree x out)
    (meets : MeetsPart (patch_of old new root) (by_name g.met) (root_of_pair g.root)) where
  abbrev p : Patch Value
  p = patch_of old new root

  abbrev t : Store Value
  t = by_name g.met

  abbrev top : Root
  top = root_of_pair g.root

  abbrev tree : ℕ
  tree = c.tree.id.0

  small : blocks_of c ≤ 2 ^ 63
  small = let le = k.cells.super40.blocks.1 in omega (arith, le)

  own : numbers_of (turn_at c.turns s) ≡ Some out.numbers
  own = ap (λ (o : Option Out). numbers_in o (turn_at c.turns s).numbers) here.is_out

  -- ---- old cells

  of_old : (y : CellSeen) → Contains old y → (n : Name) → Contains (node_of y).names n
      → IsOldName c.buffer y.id n ⊎ (n.id < blocks_of c)
  of_old y has n names =
      let still = k.cells.given_cells sound s out y here (Contains-append_right out.reads out.writes y (reached y has)) in
      elim (cases_Bool (is_dirty_by (buffered c.buffer y.id))) [
        | inl dirty ↦ inl (record {
          names = some_at c.buffer y.id y n names (buffered c.buffer y.id) refl (still.dirty dirty);
          dirty = dirty;
        })
        | inr clean ↦
            inr (names_below (blocks_of c) y.level (rank y.lo) (rank y.hi) y.block n (still.clean clean).1 names)
      ]

  old_names : (i : ℕ) (o : Node Value) (n : Name) → p.old i ≡ Some o → Contains o.names n
      → IsOldName c.buffer i n ⊎ (n.id < blocks_of c)
  old_names i o n at has =
      let (y, there_y, named, says) = found old i o at in
      subst (λ (j : ℕ). IsOldName c.buffer j n ⊎ (n.id < blocks_of c)) named
      (of_old y there_y n (subst (λ (z : Node Value). Contains z.names n) says has))

  olds : (i : ℕ) (o : Node Value) (n : Name) → p.old i ≡ Some o → Contains o.names n → 2 ^ 63 ≤ n.id
      → NamesAt c.buffer i n
  olds i o n at has high =
      ⊎_elim (λ y. y.names) (λ low. (let le = small in absurd (omega (arith, low, high, le)))) (old_names i o n at has)

  -- what one names stands
  pub old_stands : (i : ℕ) (o : Node Value) (n : Name) → by_name old i ≡ Some o → Contains o.names n
      → StandsIn c.buffer (blocks_of c) n.id
  old_stands i o n at has =
      ⊎_elim
      (λ y.
      (k.cells.clean sound).names i y.names.entry y.names.is (captured_dirty c.buffer i y.dirty) n y.names.among)
      (λ low. or_left (nat_lt n.id (blocks_of c)) (is_captured c.buffer n.id) (lt-ltb n.id (blocks_of c) low))
      (old_names i o n at has)

  -- where the root of the part is one, it is the root still
  top_is : (o : Node Value) → p.old top.id ≡ Some o → top.id ≡ tree
  top_is o at =
      let (y, there_y, named, says) = found old top.id o at in
      ap (λ (z : RootPair). z.id.0)
      (g.top y (Contains-append_right out.reads out.writes y (reached y there_y)) named)

  -- ---- new cells

  drawn_if : (i : ℕ) (n : Node Value) → p.new i ≡ Some n → p.old i ≡ None
      → (out.numbers.fresh.next ≤ i) × (i < out.numbers.fresh.end)
  drawn_if i n at none =
      let (y, there_y, named, says) = found new i n at in
      ⊎_elim
      (λ of_ids.
      (let (z, there_z, same) = one_of_ids old y.id of_ids in
      absurd (none-some (node_of z) (sym none ∙ subst (λ (j : ℕ). p.old j ≡ Some (node_of z)) (same ∙ named)
      (there old z (distinct old is.old_names) there_z)))))
      (λ fresh.
      (let from = fresh.0 in let to = fresh.1 in (omega (arith, from, named), omega (arith, to, named))))
      (numbered y there_y)

  free : (i j : ℕ) (o : Node Value) (n : Name) → p.new i ≡ Some o → p.old i ≡ None → NamesAt c.buffer j n → n.id ≡ i
      → 2 ^ 63 ≤ i → ⊥
  free i j o n at none names same high =
      let fresh = drawn_if i o at none in
      let from = fresh.0 in
      let to = fresh.1 in
      k.tasks.unnamed s j out.numbers n here.is_script own names (omega (arith, from, same)) (omega (arith, to, same))

  free_root : (o : Node Value) → p.new tree ≡ Some o → p.old tree ≡ None → 2 ^ 63 ≤ tree → ⊥
  free_root o at none high =
      let fresh = drawn_if tree o at none in
      let e = stands_entry (buffered c.buffer tree) (k.cells.root_stands high) in
      k.tasks.unused s tree out.numbers e.0 here.is_script own e.1 fresh.0 fresh.1

  -- an old cell that one names which is left has a new one in its place
  pub new_in_place : (i : ℕ) (n : Name) → NamesAt c.buffer i n → by_name old i ≡ None → 2 ^ 63 ≤ n.id → (o : Node Value)
      → by_name old n.id ≡ Some o → (z : Node Value) × (by_name new n.id ≡ Some z)
  new_in_place i n names kept high o at =
      has_new c.buffer p t top tree is.patch g.reach.part meets k.cells.named top_is olds i n
      (record { names = names; kept = kept }) high o at

  -- ---- cells in memory

  module _ (buffer : BufferSeen)
      (cells : (i : ℕ) → buffered buffer i ≡ in_turn unused out.pins i (replaced old new i (buffered c.buffer i))) where
    cases : (i : ℕ) (n : Name) → NamesAt buffer i n → NewNames p i n ⊎ StillNames c.buffer p i n
    cases i n y =
        ⊎_elim
        (λ z.
        inl (record {
          node = node_of y.entry.cell;
          at = subst (λ (j : ℕ). p.new j ≡ Some (node_of y.entry.cell)) z.named
              (there new y.entry.cell (distinct new is.new_names) z.there);
          among = y.among;
        }))
        (λ u.
        inr (record {
          names = names_as c.buffer i u.was.entry y.entry u.was.is u.was.cell n y.among;
          kept = not_found old i u.not_old;
        }))
        (entries_then c.buffer buffer old new out.pins cells i y.entry y.is)

    pub named_done : AreNamedOnce buffer (unwrap_or root c.tree).id.0
    named_done = by root refl
      where
        by : (o : Option RootPair) → root ≡ o → AreNamedOnce buffer (unwrap_or o c.tree).id.0
        by None none =
            named_on_stays c.buffer p t top tree is.patch g.reach.part meets k.cells.named top_is olds free buffer
            cases (ap (λ (o : Option RootPair). option_map root_of_pair o) none) free_root
        by (Some z) some =
            named_on_changes c.buffer p t top tree is.patch g.reach.part meets k.cells.named top_is olds free buffer
            cases (root_of_pair z) (ap (λ (o : Option RootPair). option_map root_of_pair o) some)

    dirty_new : (i : ℕ) → has_name new i ≡ true → is_dirty_by (buffered buffer i) ≡ true
    dirty_new i has =
        dirty_then c.buffer buffer old new out.pins cells i
        ∙ cond-true (has_name new i) true (cond (has_name old i) false (is_dirty_by (buffered c.buffer i))) has

    -- a root that has no block stands dirty
    root_replaced : root ≡ None → 2 ^ 63 ≤ tree → has_name old tree ≡ true → has_name new tree ≡ true
    root_replaced none high gone =
        let (y, there_y, named) = one_named old tree gone in
        let was : p.old tree ≡ Some (node_of y) =
        subst (λ (j : ℕ). p.old j ≡ Some (node_of y)) named (there old y (distinct old is.old_names) there_y) in
        let (z, now) = root_new c.buffer p t top tree is.patch g.reach.part meets k.cells.named top_is olds free
        (ap (λ (o : Option RootPair). option_map root_of_pair o) none) free_root high (node_of y) was in
        has_found new tree z now

    root_stays : root ≡ None → 2 ^ 63 ≤ tree → is_dirty_by (buffered buffer tree) ≡ true
    root_stays none high = elim (cases_Bool (has_name new tree)) [
      | inl has ↦ dirty_new tree has
      | inr not ↦
          dirty_then c.buffer buffer old new out.pins cells tree
          ∙ cond-false (has_name new tree) true (cond (has_name old tree) false (is_dirty_by (buffered c.buffer tree))) not
          ∙ elim (cases_Bool (has_name old tree)) [
            | inl gone ↦ absurd (true≢false (sym (root_replaced none high gone) ∙ not))
            | inr kept ↦
                cond-false (has_name old tree) false (is_dirty_by (buffered c.buffer tree)) kept
                ∙ k.cells.root_stands high
          ]
    ]

    pub root_done : 2 ^ 63 ≤ (unwrap_or root c.tree).id.0
        → is_dirty_by (buffered buffer (unwrap_or root c.tree).id.0) ≡ true
    root_done = by root refl
      where
        by : (o : Option RootPair) → root ≡ o → 2 ^ 63 ≤ (unwrap_or o c.tree).id.0
            → is_dirty_by (buffered buffer (unwrap_or o c.tree).id.0) ≡ true
        by None none high = root_stays none high
        by (Some z) some high =
            let y = is.patch.new_root (root_of_pair z) (ap (λ (o : Option RootPair). option_map root_of_pair o) some) in
            dirty_new z.id.0 (has_found new z.id.0 y.node y.is)

    -- ---- the other scripts

    module _ (turns : TurnsSeen) (on : TurnsDrop c.turns turns s out) where
      pub unnamed_done : (q i : ℕ) (n : Numbers) (m : Name) → IsScript turns q → numbers_of (turn_at turns q) ≡ Some n
          → NamesAt buffer i m → n.fresh.next ≤ m.id → m.id < n.fresh.end → ⊥
      unnamed_done q i n m has is_n names low high =
          let was = on.numbers q n has is_n in
          let script = on.scripts q has in
          none_names c.buffer p t top tree is.patch g.reach.part meets k.cells.named top_is olds buffer cases
          n.fresh.next n.fresh.end (k.tasks.drawn q n script was.1).least
          (λ j o there_o. k.tasks.unnamed q j n o script was.1 there_o)
          (λ j o at.
          (let (y, there_y, named, says) = found new j o at in
          not_numbers r d c k s out here old new reached numbered turns on q j n script was.0 was.1
          (subst (λ (l : ℕ). Contains (ids_of old) l ⊎ ((out.numbers.fresh.next ≤ l) × (l < out.numbers.fresh.end)))
          named (numbered y there_y)))) i m names low high

      module _ (spared : (q : ℕ) (o : Out) → q ≢ s → IsOut c.turns q o → (node : ℕ)
          → Contains (nodes_of (need_of o)) node → is_touched old new node ≡ false) where
        pub given_there : (q : ℕ) (o : Out) (y : CellSeen) → IsOut turns q o → Contains (o.reads ++ o.writes) y
            → IsStillThere buffer (blocks_of c) y
        given_there q o y is_out has =
            let was = on.outs q o is_out in
            let not = or_parts (has_name old y.id) (has_name new y.id)
            (spared q o was.0 was.1 y.id (node_of_need o y has)) in
            let like = like_then c.buffer buffer old new out.pins cells y.id not.0 not.1 in
            still_on c.buffer buffer (blocks_of c) y (like_dirty (buffered c.buffer y.id) (buffered buffer y.id) like)
            (λ yes. like_cell (buffered c.buffer y.id) (buffered buffer y.id) like)
            (k.cells.given_cells sound q o y was.1 has)
          where
            or_parts : (a b : Bool) → (a || b) ≡ false → (a ≡ false) × (b ≡ false)
            or_parts true b h = absurd (true≢false h)
            or_parts false b h = (refl, h)

        -- where another task reached the root, it stays
        top_still : (q : ℕ) (o : Out) → IsOut turns q o → (z : Command) (f : IsGiven c.tree z o) (y : CellSeen)
            → Contains (o.reads ++ o.writes) y → y.id ≡ f.root.id.0 → f.root ≡ unwrap_or root c.tree
        top_still q o is_out z f y has same = by root refl
          where
            at_tree : y.id ≡ tree
            at_tree = same ∙ ap (λ (w : RootPair). w.id.0) (f.top y has same)

            by : (w : Option RootPair) → root ≡ w → f.root ≡ unwrap_or w c.tree
            by None none = f.top y has same
            by (Some w) some =
                let (e, at) = meets.meets.root_old (some_of p.root (root_of_pair w)
                (ap (λ (o : Option RootPair). option_map root_of_pair o) some)) in
                let was = on.outs q o is_out in
                let gone : has_name old y.id ≡ true =
                subst (λ (j : ℕ). has_name old j ≡ true) (top_is e at ∙ sym at_tree) (has_found old top.id e at) in
                absurd (true≢false (sym (or_left (has_name old y.id) (has_name new y.id) gone)
                ∙ spared q o was.0 was.1 y.id (node_of_need o y has)))

        pub given_done : (q : ℕ) (o : Out) (z : Command) → IsOut turns q o → next_at turns q ≡ Some z
            → IsGiven (unwrap_or root c.tree) (with_id o.numbers.oid z) o
        given_done q o z is_out next =
            let f = k.tasks.given q o z (on.outs q o is_out).1 (sym (on.nexts q o is_out) ∙ next) in
            record {
              root = f.root;
              met = f.met;
              rises = f.rises;
              reach = f.reach;
              seen = f.seen;
              lawful = f.lawful;
              kind = f.kind;
              can = f.can;
              small = f.small;
              top = top_still q o is_out (with_id o.numbers.oid z) f;
              cells = f.cells;
              claims = f.claims;
            }
