-- What a command is given that is ready: its reach, with numbers that are free there.
use Rattle.std.proofs.Common.{◌≡◌, inl, inr, ℕ, ◌+◌, ◌<◌, ◌≤◌, ◌^◌, ◌↔◌, Bool, true, false, List, length}
use Rattle.std.proofs.Common.{Option, Some, None, Contains, refl, sym, ◌∙◌, ap, subst, arith}
use Rattle.std.specs.Prelude.{IsSome}
use Rattle.std.specs.Option.{option_map}
use Rattle.std.proofs.lemmas.Bool.{cases_Bool, cases_lt}
use Rattle.std.proofs.lemmas.Bool.Decides.{nat_tests}
use Rattle.std.proofs.lemmas.List.Elements.{All-contains}
use Rattle.std.proofs.lemmas.Option.{same_Some}
use Rattle.r4_base.specs.Bitmap.{is_fixed}
use Rattle.r4_base.specs.Key.{rank}
use Rattle.r4_base.specs.Tree.{Name, Node}
use Rattle.r4_base.specs.Value.{Value}
use Rattle.r4_taking.specs.r4_build.Building.{CanBuild, HaveLawfulKeys, most_new}
use Rattle.r4_taking.specs.r4_build.Built.{IsBuildable}
use Rattle.r4_serve.specs.r4_buffer.Seen.{EntrySeen, buffered, is_captured, is_captured_by}
use Rattle.r4_serve.specs.r4_cell.Patch.{by_name, root_of_pair}
use Rattle.r4_serve.specs.r4_cell.Seen.{CellSeen, node_of}
use Rattle.r4_serve.proofs.r4_cell.NamesBelow.{names_below}
use Rattle.r4_content.specs.Edited.{Intervals, Pairs, changed, is_in}
use Rattle.r4_content.specs.Fields.{HasBytePaths}
use Rattle.r4_content.specs.Held.{pairs_of}
use Rattle.r4_content.specs.declared.command.Command.{Command}
use Rattle.r4_serve.specs.r4_history.Drawn.{numbers_of}
use Rattle.r4_serve.specs.r4_leaf_edits.Made.{spread_keys}
use Rattle.r4_outside.specs.Device.{State}
use Rattle.r4_serve.proofs.r4_patch.Members.{distinct, found, there}
use Rattle.r4_serve.specs.r4_path.Nodes.{IsPointable}
use Rattle.r4_serve.specs.r4_path.Steps.{IsFree}
use Rattle.r4_serve.specs.r4_reach.Answer.{IsReachOf}
use Rattle.r4_serve.specs.r4_reach.Leaves.{LieInLeaves, most_of}
use Rattle.r4_serve.specs.r4_reach.Needs.{Ask, demand_of, demand_on}
use Rattle.r4_serve.specs.r4_reach.Demand.{Demand}
use Rattle.r4_serve.specs.r4_reach.Reach.{IsRead, IsWritten}
use Rattle.r4_serve.specs.r4_reach.Touched.{body_on, changes_on, edits_on, reads_on}
use Rattle.r4_serve.proofs.r4_reaching.Made.{none_spread}
use Rattle.r4_serve.specs.r4_judging.Judging.{IsSound}
use Rattle.r4_serve.specs.r4_extent_reaching.Answers.{LiesInLeaves}
use Rattle.r4_serve.specs.declared.asked.Ready.{Ready}
use Rattle.r4_serve.specs.r4_spared.Spared.{HasNumbers, MayStandAll}
use Rattle.r4_serve.proofs.r4_spared.Answered.{answer_builds}
use Rattle.r4_serve.proofs.r4_spared.Spared.{asked_in_leaves, own_changes}
use Rattle.r4_taking.proofs.r4_suited.Cells.{reach_lawful}
use Rattle.r4_serve.specs.r4_turns.Turns.{IsScript, turn_at}
use Rattle.r4_serve.specs.r4_turns.declared.out.Numbers.{Numbers}
use Rattle.r4_serve.specs.r4_turns.declared.out.Out.{Out}
use Rattle.r4_serve.specs.r4_turns.declared.out.Scope.{Scope}
use Rattle.r4_serve.specs.r4_turns.declared.out.TheConstants.{MOST_NEW}
use Rattle.r4_taking.specs.r4_kept.Cells.{IsName}
use Rattle.r4_taking.specs.r4_kept.Kept.{IsKept}
use Rattle.r4_taking.specs.r4_kept.Naming.{Naming}
use Rattle.r4_taking.specs.r4_kept.TasksOut.{IsGiven}
use Rattle.r4_taking.specs.r4_kept.View.{CoreSeen, blocks_of}
use Rattle.r4_ready.specs.Readiness.{AreGotten, IsOfReach, IsReady, scope_of}
use Rattle.r4_ready.proofs.MetCells.{accepted, is_captured_one, is_reach, low, on_disk_low}

free_fixed : (count b : ℕ) → b < count → is_fixed count b ≡ false → is_fixed (2 ^ 64) b ≡ false
free_fixed count b lt h = grind (arith, nat_tests)

module _ {D : Type 0} (r : Naming) (d e : State) (c : CoreSeen D) (k : IsKept r d c) (x : Command) (ready : Ready)
    (is : IsReady d e c x ready) (s : ℕ) (is_script : IsScript c.turns s) (out : Out)
    (of_reach : IsOfReach c.tree ready.reach out) (gotten : AreGotten c s out.numbers) where
  abbrev met : List CellSeen
  met = ready.reach.met

  -- ---- its numbers

  -- a name of a cell that stands is none of new numbers
  not_drawn : (i : ℕ) → c.numbers.next_name ≤ out.numbers.fresh.next → IsName (blocks_of c) c.numbers.next_name i
      → out.numbers.fresh.next ≤ i → ⊥
  not_drawn i after (inl h) from =
      let lt = h.0 in
      let most = k.cells.super40.blocks.1 in
      let least = of_reach.least in
      omega (arith, lt, most, least, from)
  not_drawn i after (inr h) from = let lt = h.1 in omega (arith, lt, after, from)

  not_low : (i : ℕ) → i < blocks_of c → out.numbers.fresh.next ≤ i → ⊥
  not_low i lt from =
      let most = k.cells.super40.blocks.1 in
      let least = of_reach.least in
      omega (arith, lt, most, least, from)

  -- a cell in memory has none, and names none
  not_in_memory : (i : ℕ) (f : EntrySeen) → buffered c.buffer i ≡ Some f → f.cell.id ≡ i
      → out.numbers.fresh.next ≤ i → i < out.numbers.fresh.end → ⊥
  not_in_memory i f at id from to = by (numbers_of (turn_at c.turns s)) refl
    where
      by : (o : Option Numbers) → numbers_of (turn_at c.turns s) ≡ o → ⊥
      by None none =
          not_drawn i (gotten.drawn none)
          (subst (IsName (blocks_of c) c.numbers.next_name) id (k.cells.buffered_names i f at).own) from
      by (Some n) had =
          let same = gotten.kept n had in
          k.tasks.unused s i n f is_script had at (subst (λ (m : Numbers). m.fresh.next ≤ i) same from)
          (subst (λ (m : Numbers). i < m.fresh.end) same to)

  not_named_there : (i : ℕ) (f : EntrySeen) (n : Name) → buffered c.buffer i ≡ Some f
      → Contains (node_of f.cell).names n → out.numbers.fresh.next ≤ n.id → n.id < out.numbers.fresh.end → ⊥
  not_named_there i f n at among from to = by (numbers_of (turn_at c.turns s)) refl
    where
      by : (o : Option Numbers) → numbers_of (turn_at c.turns s) ≡ o → ⊥
      by None none =
          not_drawn n.id (gotten.drawn none) ((k.cells.buffered_names i f at).named n among) from
      by (Some m) had =
          let same = gotten.kept m had in
          k.tasks.unnamed s i m n is_script had (record { entry = f; is = at; among = among })
          (subst (λ (z : Numbers). z.fresh.next ≤ n.id) same from)
          (subst (λ (z : Numbers). n.id < z.fresh.end) same to)

  -- the entry of a captured one
  entry_of : (y : CellSeen) → Contains met y → is_captured c.buffer y.id ≡ true
      → (f : EntrySeen) × (buffered c.buffer y.id ≡ Some f) × (f.cell ≡ y)
  entry_of y has held = by (buffered c.buffer y.id) refl
    where
      by : (o : Option EntrySeen) → buffered c.buffer y.id ≡ o
          → (f : EntrySeen) × (buffered c.buffer y.id ≡ Some f) × (f.cell ≡ y)
      by None at = absurd (cc (sym held ∙ ap (is_captured_by c.buffer) at))
      by (Some f) at = (
        f,
        at,
        same_Some f.cell y
            (sym (ap (option_map (λ (g : EntrySeen). g.cell)) at)
            ∙ is_captured_one r d e c k x ready is y has held),
      )

  -- nor does a cell that was met
  not_met : (y : CellSeen) → Contains met y → out.numbers.fresh.next ≤ y.id → y.id < out.numbers.fresh.end → ⊥
  not_met y has from to = elim (cases_Bool (is_captured c.buffer y.id)) [
    | inl held ↦
        let (f, at, cell) = entry_of y has held in
        not_in_memory y.id f at (ap (λ (z : CellSeen). z.id) cell) from to
    | inr loose ↦ not_low y.id (on_disk_low r d e c k x ready is y has loose).0 from
  ]

  not_named : (y : CellSeen) → Contains met y → (n : Name) → Contains (node_of y).names n
      → out.numbers.fresh.next ≤ n.id → n.id < out.numbers.fresh.end → ⊥
  not_named y has n among from to = elim (cases_Bool (is_captured c.buffer y.id)) [
    | inl held ↦
        let (f, at, cell) = entry_of y has held in
        not_named_there y.id f n at (subst (λ (z : CellSeen). Contains (node_of z).names n) (sym cell) among) from to
    | inr loose ↦
        not_low n.id
        (names_below (blocks_of c) y.level (rank y.lo) (rank y.hi) y.block n
        (accepted r d e c k x ready is y has loose) among) from
  ]

  free : IsFree out.numbers.fresh.next out.numbers.fresh.end (by_name met)
  free = record {
    cells = λ i from to. by i from to (by_name met i) refl;
    names = λ i from to (n, (j, z, at, among), same).
        (let (w, has, _, says) = found met j z at in
        not_named w has n (subst (λ (m : Node Value). Contains m.names n) says among)
        (subst (λ (q : ℕ). out.numbers.fresh.next ≤ q) (sym same) from)
        (subst (λ (q : ℕ). q < out.numbers.fresh.end) (sym same) to));
  }
    where
      by : (i : ℕ) → out.numbers.fresh.next ≤ i → i < out.numbers.fresh.end → (o : Option (Node Value))
          → by_name met i ≡ o → by_name met i ≡ None
      by i from to None at = at
      by i from to (Some n) at =
          let (y, has, id, says) = found met i n at in
          absurd (not_met y has (subst (λ (q : ℕ). out.numbers.fresh.next ≤ q) (sym id) from)
          (subst (λ (q : ℕ). q < out.numbers.fresh.end) (sym id) to))

  -- ---- what is built of it

  pointable : (i : ℕ) → i < 2 ^ 64 → IsName (blocks_of c) c.numbers.next_name i → IsPointable i
  pointable i small (inl h) =
      let free_block = free_fixed (blocks_of c) i h.0 h.1 in
      (small, grind (arith, nat_tests, small, free_block))
  pointable i small (inr h) = let from = h.0 in (small, grind (arith, nat_tests, from))

  module _ (paths : HasBytePaths x) (small : c.tree.id.0 < 2 ^ 64) where
    abbrev answer : IsReachOf c.tree x met ready.reach.reads ready.reach.writes ready.reach.root
    answer = (is_reach r d e c k x ready is).answer

    seen_is : answer.seen ≡ pairs_of ready.reach.seen
    seen_is = (is_reach r d e c k x ready is).seen

    kind_is : answer.in_extents ≡ ready.reach.in_extents
    kind_is = (is_reach r d e c k x ready is).kind

    stand : MayStandAll met
    stand = record {
      accepted = λ i z lt. ((is_reach r d e c k x ready is).sound i z lt).stands;
      whole = λ y has. (All-contains IsSound met y (is_reach r d e c k x ready is).sound has).whole;
      names = (is_reach r d e c k x ready is).all.names;
    }

    rises_low : IsSome ready.reach.root → c.tree.height < 8
    rises_low some = elim (cases_lt c.tree.height 8) [
      | inl lt ↦ lt
      | inr le ↦ absurd (low r d e c k x ready is (some, le))
    ]

    numbers : HasNumbers (by_name met) (root_of_pair c.tree) out.numbers.fresh ready.reach.writes
    numbers = record {
      root_number = pointable c.tree.id.0 small k.cells.root;
      names = (is_reach r d e c k x ready is).writes_once;
      free = free;
      unplaced = (of_reach.least, of_reach.most);
      numbers = of_reach.numbers;
    }

    module _ (leaves : ready.reach.in_leaves ≡ true) where
      lies : LiesInLeaves x ready.reach
      lies = (is_reach r d e c k x ready is).leaves leaves

      tails : spread_keys (body_on x answer.seen answer.in_extents) ≡ None
      tails =
          subst (λ (v : Pairs). spread_keys (body_on x v answer.in_extents) ≡ None) (sym seen_is)
          (subst (λ (b : Bool). spread_keys (body_on x (pairs_of ready.reach.seen) b) ≡ None) (sym kind_is)
          (none_spread (body_on x (pairs_of ready.reach.seen) ready.reach.in_extents) lies.body))

      lie : LieInLeaves (by_name met) (is_in (changed (edits_on x answer.seen)))
      lie = subst (λ (v : Pairs). LieInLeaves (by_name met) (is_in (changed (edits_on x v)))) (sym seen_is) lies.lie

      own : changes_on x (pairs_of ready.reach.seen) ready.reach.in_extents ≡ changed (edits_on x answer.seen)
      own =
          sym (ap (changes_on x (pairs_of ready.reach.seen)) kind_is)
          ∙ sym (ap (λ (v : Pairs). changes_on x v answer.in_extents) seen_is)
          ∙ own_changes (body_on x answer.seen answer.in_extents) (changed (edits_on x answer.seen)) tails

      keys : HaveLawfulKeys (edits_on x answer.seen)
      keys j on =
          (is_reach r d e c k x ready is).keys j (ap (λ (rs : Intervals). is_in rs j) own ∙ on)

      can_build : CanBuild (body_on x answer.seen answer.in_extents) (edits_on x answer.seen)
          (reads_on x answer.seen answer.in_extents) (by_name met) (root_of_pair c.tree) out.numbers.fresh
          ready.reach.writes
      can_build =
          answer_builds c.tree x met ready.reach.reads ready.reach.writes ready.reach.root answer stand paths tails lie
          out.numbers.fresh k.cells.height.1 rises_low numbers keys

      asked : demand_of (body_on x answer.seen answer.in_extents) (edits_on x answer.seen)
          (reads_on x answer.seen answer.in_extents) (changed (edits_on x answer.seen))
          ≡ demand_on x (pairs_of ready.reach.seen) ready.reach.in_extents
      asked =
          sym (asked_in_leaves x answer.seen answer.in_extents tails)
          ∙ ap (λ (v : Pairs). demand_on x v answer.in_extents) seen_is
          ∙ ap (demand_on x (pairs_of ready.reach.seen)) kind_is

      few_come : most_new (body_on x answer.seen answer.in_extents) (edits_on x answer.seen)
          (reads_on x answer.seen answer.in_extents) (by_name met) (root_of_pair c.tree) ready.reach.writes
          ≤ ready.reach.most
      few_come =
          let same = ap (λ (q : Demand Ask). most_of q (by_name met) (root_of_pair c.tree) ready.reach.writes) asked in
          let most = (is_reach r d e c k x ready is).most in
          omega (arith, same, most)

    buildable : IsBuildable x answer.seen (scope_of c.tree ready.reach) (by_name met) (root_of_pair c.tree)
        out.numbers.fresh ready.reach.writes
    buildable = record {
      root = refl;
      height = k.cells.height.1;
      seen = λ i z at. (let (y, has, _, says) = found met i z at in (y, says));
      cells_in = record {
        part = answer.part;
        stand = λ y at. there met y (distinct met stand.names) ((answer.written y).0 at).0;
        free = free;
        root_number = numbers.root_number;
      };
      names = numbers.names;
      unplaced = numbers.unplaced;
      numbers = numbers.numbers;
      leaves = λ leaves. subst (λ (b : Bool). CanBuild (body_on x answer.seen b) (edits_on x answer.seen)
          (reads_on x answer.seen b) (by_name met) (root_of_pair c.tree) out.numbers.fresh ready.reach.writes) kind_is
          (can_build leaves);
      few = λ leaves. subst (λ (b : Bool). most_new (body_on x answer.seen b) (edits_on x answer.seen)
          (reads_on x answer.seen b) (by_name met) (root_of_pair c.tree) ready.reach.writes ≤ ready.reach.most) kind_is
          (few_come leaves);
    }

    reach_given : IsReachOf c.tree x met out.reads out.writes ready.reach.root
    reach_given = record {
      seen = answer.seen;
      in_extents = answer.in_extents;
      part = answer.part;
      sees = answer.sees;
      kind = answer.kind;
      has = answer.has;
      read = λ y. subst (λ (l : List CellSeen). Contains l y ↔ (Contains met y
          × IsRead (demand_on x answer.seen answer.in_extents) (by_name met) y.id)) (sym of_reach.reads) (answer.read y);
      written = λ y. subst (λ (l : List CellSeen). Contains l y ↔ (Contains met y
          × IsWritten (demand_on x answer.seen answer.in_extents) (by_name met) y.id)) (sym of_reach.writes)
          (answer.written y);
      root_pair = answer.root_pair;
    }

    pub is_given : IsGiven c.tree x out
    unfolding reach_given
    is_given = record {
      root = c.tree;
      met = met;
      rises = ready.reach.root;
      reach = reach_given;
      seen = seen_is ∙ ap pairs_of (sym of_reach.seen);
      lawful = reach_lawful c.tree x met ready.reach.reads ready.reach.writes ready.reach.root answer
          (λ i z lt. ((is_reach r d e c k x ready is).sound i z lt).stands);
      kind = kind_is ∙ sym (ap (λ (z : Scope). z.in_extents) of_reach.scope);
      can = subst (λ (z : Scope). IsBuildable x answer.seen z (by_name met) (root_of_pair c.tree) out.numbers.fresh
          out.writes) (sym of_reach.scope)
          (subst (λ (l : List CellSeen). IsBuildable x answer.seen (scope_of c.tree ready.reach) (by_name met)
          (root_of_pair c.tree) out.numbers.fresh l) (sym of_reach.writes) buildable);
      top = λ y has same. refl;
      small = subst (λ (z : Scope). z.most ≤ MOST_NEW) (sym of_reach.scope) of_reach.few;
      cells =
          subst (λ (l : List CellSeen). length l + out.scope.most ≤ out.cells) (sym of_reach.writes)
          (subst (λ (z : Scope). length ready.reach.writes + z.most ≤ out.cells) (sym of_reach.scope) of_reach.cells);
      claims = subst (λ (l : List CellSeen). length l + 1 ≤ out.claims) (sym of_reach.writes) of_reach.claims;
    }
