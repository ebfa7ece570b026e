-- From the cells that were met and the marks to a reach, bodies in extents included.
use Rattle.std.proofs.Common.{◌≡◌, inl, inr, ℕ, ◌+◌, ◌<◌, ◌≤◌, Bool, true, false, List, [], ◌∷◌, length, map}
use Rattle.std.proofs.Common.{refl, sym, ap, subst, ◌∙◌, arith}
use Rattle.std.specs.Prelude.{◌↔◌, ◌||◌, ◌&&◌, ◌==◌, not, nat_lt, sum_by, if◌then◌else◌, Contains, IsSome, Option, Some, None}
use Rattle.std.specs.Arc.{arc_value}
use Rattle.std.specs.List.{filter, list_any}
use Rattle.std.specs.Option.{option_map}
use Rattle.std.proofs.lemmas.Bool.{and_parts, eqb-true, or_cases, or_left, or_right}
use Rattle.std.proofs.lemmas.List.{length-map}
use Rattle.std.proofs.lemmas.List.Sums.{sum_by-cons}
use Rattle.std.proofs.lemmas.Option.{none-some, same_Some}
use Rattle.r4_base.specs.Key.{least, top}
use Rattle.r4_base.specs.Tree.{Covers as CoversOf, InSpan, Name, Node, Root as TreeRoot, Span, Store}
use Rattle.r4_base.specs.Value.{Value}
use Rattle.r4_reaching.specs.r4_cell.Patch.{by_name, root_of_pair}
use Rattle.r4_reaching.specs.r4_cell.Seen.{CellSeen, node_of}
use Rattle.r4_reaching.specs.r4_cell.declared.change.Root.{Root}
use Rattle.r4_content.specs.Edited.{Intervals, Pairs, changed, is_in}
use Rattle.r4_content.specs.Held.{edits_of, pairs_of}
use Rattle.r4_content.specs.declared.command.Command.{Command}
use Rattle.r4_content.specs.declared.seen.Seen.{Seen}
use Rattle.r4_content.proofs.EditLaws.{in_append}
use Rattle.r4_extent_counts.proofs.r4_extent_demands.Meets.{keys_meet, met_keys}
use Rattle.r4_extent_counts.proofs.r4_extent_demands.PutsInto.{same_bool}
use Rattle.r4_extent_touching.specs.Holding.{HoldsTouched, IsHeld}
use Rattle.r4_extent_touching.proofs.Touched.{all_there}
use Rattle.r4_extent_touching.specs.r4_marking.Marks.{AreMarks, AreMarksOf, ask_seen}
use Rattle.r4_extent_touching.specs.r4_marking.declared.demands.Asking.{Asking}
use Rattle.r4_extent_touching.specs.r4_marking.declared.marking.Marks.{Marks}
use Rattle.r4_reaching.specs.r4_patch.Part.{IsPart}
use Rattle.r4_reaching.proofs.r4_patch.Members.{cases, here, later, none}
use Rattle.r4_reaching.proofs.r4_patch.Members.{found as named}
use Rattle.r4_reaching.proofs.r4_patch.Members.{distinct, there}
use Rattle.r4_reaching.specs.r4_reach.Answer.{IsSeenIn as SeesAll}
use Rattle.r4_reaching.specs.r4_reach.Demand.{Demand, Spans, ask, ask_of}
use Rattle.r4_reaching.specs.r4_reach.Leaves.{LieInLeaves, more_in, more_of, rise_of}
use Rattle.r4_reaching.specs.r4_reach.Needs.{Ask, cell_asks, changes_pieces, demand_of, demand_on, going_of, is_met, is_touched, leaf_asks, left_leaves, node_asks, twig_asks, twig_turns}
use Rattle.r4_reaching.specs.r4_reach.Reach.{HasTouched, IsRootAsking}
use Rattle.r4_reaching.specs.r4_reach.Touched.{Body, IsKindIn, body_on, changes_on, coming, edits_on, kind_reads, raw_changes, reads_on}
use Rattle.r4_reaching.specs.r4_reach.Touched.{turns_out, with_blocks}
use Rattle.r4_reaching.specs.Answers.{asked_by}
use Rattle.r4_reaching.specs.r4_bodies.r4_leaf_demands.Leaves.{IsInLeaves}
use Rattle.r4_reaching.specs.Gathering.{IsPartMet}
use Rattle.r4_reaching.proofs.Found.{found_listed}
use Rattle.r4_reaching.proofs.Made.{chosen_once, chosen_rise}
use Rattle.r4_reaching.proofs.Standing.{seen_stands}
use Rattle.r4_reaching.specs.r4_search.Pool.{PoolState}
use Rattle.r4_reaching.specs.r4_seeing.Looking.{AreFound, met_cells}
use Rattle.r4_extent_reaching.specs.Alike.{AreAlike}
use Rattle.r4_extent_reaching.specs.Answers.{IsReach, LiesInLeaves, MeetsNoExtent}
use Rattle.r4_extent_counts.specs.Coming.{most_with, twig_cells}
use Rattle.r4_extent_reaching.specs.Meeting.{AreReadKeys, IsFrom, IsOfLeaves, IsTouched, Planned}
use Rattle.r4_extent_reaching.specs.Standing.{HasFileSizes}
use Rattle.r4_extent_reaching.specs.declared.reached.Reach.{Reach}
use Rattle.r4_extent_reaching.proofs.Marked.{ask_same, marks_alike}

-- ---- the same keys below the end of all count as changed

met_same : (rs ss : Intervals) (lo hi : ℕ) → hi ≤ top → ((k : ℕ) → k < top → is_in rs k ≡ is_in ss k)
    → is_met rs lo hi ≡ is_met ss lo hi
met_same rs ss lo hi le same = same_bool (is_met rs lo hi) (is_met ss lo hi)
    (λ on. let (k, at, low, high) = met_keys rs lo hi on in
    keys_meet ss lo hi (k, sym (same k (omega (arith, high, le))) ∙ at, low, high))
    (λ on. let (k, at, low, high) = met_keys ss lo hi on in
    keys_meet rs lo hi (k, same k (omega (arith, high, le)) ∙ at, low, high))

any_same : {X : Type 0} (f g : X → Bool) (xs : List X) → ((x : X) → Contains xs x → f x ≡ g x)
    → list_any f xs ≡ list_any g xs
any_same f g [] h = refl
any_same f g (x ∷ xs) h = (λ i. h x (here x xs) i || any_same f g xs (λ y at. h y (later x y xs at)) i)

module _ (rs ss : Intervals) (same : (k : ℕ) → k < top → is_in rs k ≡ is_in ss k) (t : Store Value) (root : TreeRoot)
    (it : IsPart t root) where
  pub touched_same : (i : ℕ) (c : Node Value) → t i ≡ Some c → is_touched rs c ≡ is_touched ss c
  touched_same i c is =
      let n = it.nodes i c is in
      let high = n.to_top in
      λ j. if c.level == 1 then met_same rs ss c.lo c.hi high same j
      else any_same (λ (s : Span). is_met rs s.lo s.hi) (λ (s : Span). is_met ss s.lo s.hi) c.spans
      (λ s has. let end = n.span_to s has in met_same rs ss s.lo s.hi (omega (arith, end, high)) same) j

-- ---- a list's parts

filter_parts : {X : Type 0} (p : X → Bool) (xs : List X) (x : X) → Contains (filter p xs) x
    → Contains xs x × (p x ≡ true)
filter_parts p [] x at = absurd (none x at)
filter_parts p (y ∷ ys) x at = by_test (p y) refl (filter_parts p ys x) at
  where
    by_test : (b : Bool) → p y ≡ b → (Contains (filter p ys) x → Contains ys x × (p x ≡ true))
        → Contains (if b then y ∷ filter p ys else filter p ys) x → Contains (y ∷ ys) x × (p x ≡ true)
    by_test true on rest h = elim (cases y x (filter p ys) h) [
      | inl is ↦ (subst (λ z. Contains (y ∷ ys) z) (sym is) (here y ys), ap p is ∙ on)
      | inr more ↦ (let (has, holds) = rest more in (later y x ys has, holds))
    ]
    by_test false off rest h = let (has, holds) = rest h in (later y x ys has, holds)

more_congruent : (f g : CellSeen → Option Ask) (cells : List CellSeen)
    → ((c : CellSeen) → Contains cells c → f c ≡ g c)
    → sum_by (λ (c : CellSeen). more_of (f c)) cells ≡ sum_by (λ (c : CellSeen). more_of (g c)) cells
more_congruent f g [] same = refl
more_congruent f g (c ∷ cells) same =
    let rest = more_congruent f g cells (λ x at. same x (later c x cells at)) in
    let first = ap more_of (same c (here c cells)) in
    sum_by-cons (λ (x : CellSeen). more_of (f x)) c cells
    ∙ ((λ i. first i + rest i) ∙ sym (sum_by-cons (λ (x : CellSeen). more_of (g x)) c cells))

both_some : (root : Root) (o : Option Asking) → IsSome (option_map (λ a. root) o) ↔ IsSome (option_map ask_seen o)
both_some root None = ((λ some. some), (λ some. some))
both_some root (Some a) = ((λ some. refl), (λ some. refl))

just_root : (root : Root) (o : Option Asking) (x : Root) → option_map (λ a. root) o ≡ Some x → x ≡ root
just_root root None x is = absurd (none-some x is)
just_root root (Some a) x is = sym (same_Some root x is)

-- ---- the cells that were met

module _ (p : PoolState) (root : Root) (c : Command) (seen : Seen) (known questions : Intervals) (n : Planned)
    (h : IsTouched p root c seen known questions n) (met : List CellSeen) (at : IsPartMet p root met) where
  abbrev s : Pairs
  s = pairs_of seen

  abbrev t : Store Value
  t = by_name met

  abbrev r : TreeRoot
  r = root_of_pair root

  abbrev D : Demand Ask
  D = demand_on c s n.in_extents

  part : IsPart t r
  part = at.met.part

  found : AreFound t known s
  found = found_listed p met known s at.store h.planned.all_seen.found

  looked : (k : ℕ) → is_in (asked_by c s) k ≡ true → least ≤ k → k < top → is_in known k ≡ true
  looked k on low high = h.planned.all_seen.looked k
      (ap (λ (qs : Intervals). is_in qs k) h.planned.all_seen.questions_are ∙ on) low high

  sees : SeesAll c s t
  sees = record {
    rises = found.rises;
    agrees = λ k v on. seen_stands t r known s (record { part = part; found = found }) (asked_by c s) looked k v on;
  }

  -- what holds in the cells that were met holds by name
  to_name : (i : ℕ) (d : Node Value) → met_cells p i ≡ Some d → t i ≡ Some d
  to_name i d is = at.store i ∙ is

  held_named : (k : ℕ) → IsHeld (met_cells p) k → IsHeld t k
  held_named k (i, d, is, holds) = (i, d, to_name i d is, holds)

  kind_named : (b : Option Body) → IsKindIn (met_cells p) b → IsKindIn t b
  kind_named None k = tt
  kind_named (Some b) (inl none) = inl none
  kind_named (Some b) (inr (i, d, is, holds, same)) = inr (i, d, to_name i d is, holds, same)

  kind : IsKindIn t (body_on c s n.in_extents)
  kind = subst (IsKindIn t) h.planned.body (kind_named n.body h.planned.kind)

  -- ---- all that is touched is held

  held_read : (k : ℕ) → is_in (reads_on c s n.in_extents) k ≡ true → least ≤ k → k < top → IsHeld t k
  held_read k on low high = elim (or_cases (is_in (asked_by c s) k) (is_in (kind_reads (body_on c s n.in_extents)) k)
      (sym (in_append (asked_by c s) (kind_reads (body_on c s n.in_extents)) k) ∙ on)) [
        | inl question ↦ (let f = found.found k (looked k question low high) in (f.id, f.cell, f.is, f.holds))
        | inr tells ↦ held_named k (h.held k (or_left (is_in (kind_reads n.body) k) (is_in n.changes k)
            (ap (λ (b : Option Body). is_in (kind_reads b) k) h.planned.body ∙ tells)) low high)
      ]

  held_changed : (k : ℕ) → is_in (changes_on c s n.in_extents) k ≡ true → least ≤ k → k < top → IsHeld t k
  held_changed k on low high = held_named k (h.held k (or_right (is_in (kind_reads n.body) k) (is_in n.changes k)
      (h.planned.changes k high ∙ on)) low high)

  -- the demand by what is known of the command, with any keys that are read
  abbrev by_keys : Intervals → Demand Ask
  by_keys held = demand_of n.body (edits_of n.edits) held n.changes

  alike : (held : Intervals) → ((k : ℕ) → least ≤ k → k < top → is_in held k ≡ is_in (reads_on c s n.in_extents) k)
      → AreAlike (by_keys held) D t
  alike held reads = record {
    reads = reads;
    changes = λ k low high. h.planned.changes k high;
    asks = λ i d hs is. asks_alike i d hs is;
    turns = λ i d is. turns_alike i d is;
    beside = λ d. ap (λ (b : Option Body). left_leaves b d) h.planned.body;
  }
    where
      touched : (i : ℕ) (d : Node Value) → t i ≡ Some d → is_touched n.changes d
          ≡ is_touched (changes_on c s n.in_extents) d
      touched i d is = touched_same n.changes (changes_on c s n.in_extents) h.planned.changes t r part i d is

      asks_alike : (i : ℕ) (d : Node Value) (hs : List (Name × Ask)) → t i ≡ Some d
          → cell_asks n.body (edits_of n.edits) n.changes d hs
          ≡ cell_asks (body_on c s n.in_extents) (edits_on c s) (changes_on c s n.in_extents) d hs
      asks_alike i d hs is = λ j. if touched i d is j || not (length hs == 0) then
          (if d.level == 1 then leaf_asks (h.planned.body j) (h.planned.edits j) d
          else (if d.level == 2 then twig_asks (h.planned.body j) (h.planned.edits j) d hs
          else node_asks (h.planned.body j) d hs)) else None

      turns_alike : (i : ℕ) (d : Node Value) → t i ≡ Some d
          → twig_turns n.body (edits_of n.edits) n.changes d
          ≡ twig_turns (body_on c s n.in_extents) (edits_on c s) (changes_on c s n.in_extents) d
      turns_alike i d is = λ j. touched i d is j
          && ((d.level == 2) && changes_pieces (h.planned.body j) (h.planned.edits j) d)

  turns_back : (i : ℕ) (d : Node Value) → t i ≡ Some d → D.turns d ≡ true → (by_keys []).turns d ≡ true
  turns_back i d is on = (λ j. touched_same n.changes (changes_on c s n.in_extents) h.planned.changes t r part i d is j
      && ((d.level == 2) && changes_pieces (h.planned.body j) (h.planned.edits j) d)) ∙ on

  holds : HoldsTouched D t
  holds = record {
    held = λ k touches low high. elim touches [
      | inl reads ↦ held_read k reads low high
      | inr changes ↦ held_changed k changes low high
    ];
    beside = λ i d m is turns has. beside_there i d m is turns has;
  }
    where
      beside_there : (i : ℕ) (d : Node Value) (m : Name) → t i ≡ Some d → D.turns d ≡ true
          → Contains (D.beside d) m → (b : Node Value) × (t m.id ≡ Some b)
      beside_there i d m is turns has =
          let (x, among, id, says) = named met i d is in
          let (in_names, tests) = filter_parts (λ (q : Name). (q.level == 1)
          && ((q.hi == (going_of (body_on c s n.in_extents)).0)
          && nat_lt (going_of (body_on c s n.in_extents)).0 (going_of (body_on c s n.in_extents)).1)) d.names m has in
          let (level, rest) = and_parts (m.level == 1) _ tests in
          let (end, some) = and_parts (m.hi == (going_of (body_on c s n.in_extents)).0) _ rest in
          let one = eqb-true m.level 1 level in
          let at_end = eqb-true m.hi (going_of (body_on c s n.in_extents)).0 end
          ∙ ap (λ (b : Option Body). (going_of b).0) (sym h.planned.body) in
          let goes = ap (λ (b : Option Body). nat_lt (going_of b).0 (going_of b).1) h.planned.body ∙ some in
          let was = (at.all.are x).0 among in
          let turns_x = subst (λ (e : Node Value). (by_keys []).turns e ≡ true) says (turns_back i d is turns) in
          let (y, there_is) = h.beside x was turns_x goes m (subst (λ (e : Node Value). Contains e.names m) says in_names)
          (omega (arith, one)) at_end in
          (node_of y, to_name m.id (node_of y) (ap (option_map node_of) there_is))

  has : HasTouched D t
  has = all_there t r part D holds

  -- ---- what is read and written

  module _ (held : Intervals) (reads_are : AreReadKeys held questions n.body) (m : Marks)
      (marked : AreMarksOf (demand_of n.body (edits_of n.edits) held n.changes) met (root_of_pair root) m)
      (more : m.more ≡ more_in (demand_of n.body (edits_of n.edits) held n.changes) (by_name met)
      (map (λ x. arc_value x) m.writes.items)) where
    same_reads : (k : ℕ) → least ≤ k → k < top → is_in held k ≡ is_in (reads_on c s n.in_extents) k
    same_reads k low high =
        reads_are k low high
        ∙ ((λ i. is_in (h.planned.all_seen.questions_are i) k || is_in (kind_reads (h.planned.body i)) k)
        ∙ sym (in_append (asked_by c s) (kind_reads (body_on c s n.in_extents)) k))

    same : AreAlike (by_keys held) D t
    same = alike held same_reads

    marks : AreMarks D met r (map (λ x. arc_value x) m.reads.items) (map (λ x. arc_value x) m.writes.items)
        (option_map ask_seen m.rises)
    marks = marks_alike (by_keys held) D met r (map (λ x. arc_value x) m.reads.items)
        (map (λ x. arc_value x) m.writes.items) (option_map ask_seen m.rises) part same marked

    more_same : m.more ≡ more_in D t (map (λ x. arc_value x) m.writes.items)
    more_same = more ∙ more_congruent (λ x. ask (by_keys held) t x.level (node_of x)) (λ x. ask D t x.level (node_of x))
        (map (λ x. arc_value x) m.writes.items)
        (λ x among. ask_same t (by_keys held) D same x.level x.id (node_of x)
        (there met x (distinct met at.met.names) ((marks.written.are x).0 among).0))

    rise_same : rise_of (option_map ask_seen m.rises) ≡ rise_of (ask_of (ask D t r.height) (t r.id))
    rise_same =
        by_ask (ask D t r.height part.root_node) refl
        ∙ sym (ap (λ o. rise_of (ask_of (ask D t r.height) o)) part.root_is)
      where
        by_none : (o : Option Ask) → option_map ask_seen m.rises ≡ o → ask D t r.height part.root_node ≡ None
            → rise_of o ≡ 0
        by_none None is none = refl
        by_none (Some a) is none = absurd
            (let (d, there_is, asks) = (marks.rising a).0 is in
            let one : d ≡ part.root_node = same_Some d part.root_node (sym there_is ∙ part.root_is) in
            let both = sym none ∙ (sym (ap (ask D t r.height) one) ∙ asks) in cc)

        by_ask : (o : Option Ask) → ask D t r.height part.root_node ≡ o
            → rise_of (option_map ask_seen m.rises) ≡ rise_of o
        by_ask None none = by_none (option_map ask_seen m.rises) refl none
        by_ask (Some a) asks = ap rise_of ((marks.rising a).1 (part.root_node, part.root_is, asks))

    root_asks : (o : Option Root) → (IsSome o ↔ IsSome (option_map ask_seen m.rises))
        → IsSome o ↔ ((a : Ask) × IsRootAsking D t r a)
    root_asks o both = (
      (λ some. by_rises (option_map ask_seen m.rises) refl (both.0 some)),
      (λ asks. both.1 (let (a, is) = asks in is_some a ((marks.rising a).1 is))),
    )
      where
        by_rises : (x : Option Ask) → option_map ask_seen m.rises ≡ x → IsSome x → (a : Ask) × IsRootAsking D t r a
        by_rises None is none = absurd (let no = none in cc)
        by_rises (Some a) is some = (a, (marks.rising a).0 is)

        is_some : (a : Ask) → option_map ask_seen m.rises ≡ Some a → IsSome (option_map ask_seen m.rises)
        is_some a is = subst IsSome (sym is) refl

-- ---- the answer

module _ (p : PoolState) (root : Root) (c : Command) (seen : Seen) (known questions : Intervals) (n : Planned)
    (h : IsTouched p root c seen known questions n) (met : List CellSeen) (at : IsPartMet p root met)
    (held : Intervals) (reads_are : AreReadKeys held questions n.body) (m : Marks)
    (marked : AreMarksOf (demand_of n.body (edits_of n.edits) held n.changes) met (root_of_pair root) m)
    (more : m.more ≡ more_in (demand_of n.body (edits_of n.edits) held n.changes) (by_name met)
    (map (λ x. arc_value x) m.writes.items))
    (r : Reach) (from : IsFrom root seen n met m r) where
  its_met : IsPartMet p root r.met
  its_met = subst (IsPartMet p root) (sym from.met_are) at

  its_marked : AreMarksOf (demand_of n.body (edits_of n.edits) held n.changes) r.met (root_of_pair root) m
  its_marked = subst (λ (xs : List CellSeen). AreMarksOf (demand_of n.body (edits_of n.edits) held n.changes) xs
      (root_of_pair root) m) (sym from.met_are) marked

  its_more : m.more ≡ more_in (demand_of n.body (edits_of n.edits) held n.changes) (by_name r.met)
      (map (λ x. arc_value x) m.writes.items)
  its_more = more ∙ (λ i. more_in (demand_of n.body (edits_of n.edits) held n.changes) (by_name (sym from.met_are i))
      (map (λ x. arc_value x) m.writes.items))

  abbrev ws : List CellSeen
  ws = map (λ x. arc_value x) m.writes.items

  made : AreMarks (demand_on c (pairs_of seen) n.in_extents) r.met (root_of_pair root) r.reads r.writes
      (option_map ask_seen m.rises)
  made =
      subst (λ (xs : List CellSeen). AreMarks (demand_on c (pairs_of seen) n.in_extents) r.met (root_of_pair root) xs
      r.writes (option_map ask_seen m.rises)) (sym from.reads)
      (subst (λ (xs : List CellSeen). AreMarks (demand_on c (pairs_of seen) n.in_extents) r.met (root_of_pair root)
      (map (λ x. arc_value x) m.reads.items) xs (option_map ask_seen m.rises)) (sym from.writes)
      (marks p root c seen known questions n h r.met its_met held reads_are m its_marked its_more))

  most_is : r.most ≡ most_with (body_on c (pairs_of seen) n.in_extents) (edits_on c (pairs_of seen))
      (demand_on c (pairs_of seen) n.in_extents) (by_name r.met) (root_of_pair root) r.writes
  most_is =
      let count : length m.writes.items ≡ length r.writes =
      sym (ap length from.writes ∙ length-map m.writes.items (λ x. arc_value x)) in
      let asked : m.more ≡ more_in (demand_on c (pairs_of seen) n.in_extents) (by_name r.met) r.writes =
      more_same p root c seen known questions n h r.met its_met held reads_are m its_marked its_more
      ∙ (λ i. more_in (demand_on c (pairs_of seen) n.in_extents) (by_name r.met) (sym from.writes i)) in
      let rise = rise_same p root c seen known questions n h r.met its_met held reads_are m its_marked its_more in
      let come : sum_by (twig_cells n.body (edits_of n.edits)) (map (λ x. arc_value x) m.writes.items)
      ≡ sum_by (twig_cells (body_on c (pairs_of seen) n.in_extents) (edits_on c (pairs_of seen))) r.writes =
      (λ i. sum_by (twig_cells (h.planned.body i) (h.planned.edits i)) (sym from.writes i)) in
      from.most ∙ (λ i. count i + asked i + rise i + come i)

  -- ---- what lies in leaves

  -- a key that changes counts as changed
  no_blocks : (b : Option Body) (rs : Intervals) → IsInLeaves b → raw_changes b rs ≡ rs
  no_blocks None rs h = refl
  no_blocks (Some b) rs h =
      ap (λ (t : Bool). if t then (if turns_out b then coming b ∷ map (with_blocks b) rs else map (with_blocks b) rs)
      else rs) h

  in_leaf : IsOfLeaves n.body n.in_extents n.changes met → (k : ℕ)
      → is_in (changed (edits_on c (pairs_of seen))) k ≡ true → least ≤ k → k < top → CoversOf (by_name r.met) 1 k
  in_leaf leaves k on low high =
      let stays : IsInLeaves (body_on c (pairs_of seen) n.in_extents) = subst IsInLeaves h.planned.body leaves.body in
      let counts : is_in (changes_on c (pairs_of seen) n.in_extents) k ≡ true =
      ap (λ (rs : Intervals). is_in rs k)
      (no_blocks (body_on c (pairs_of seen) n.in_extents) (changed (edits_on c (pairs_of seen))) stays) ∙ on in
      let (i, d, is, covers) =
      (has p root c seen known questions n h r.met its_met).piece k (inr counts) low high in
      elim covers [
        | inl leaf ↦ (i, d, is, leaf.0, leaf.1)
        | inr spans ↦ absurd (outside i d is spans (h.planned.changes k high ∙ counts))
      ]
    where
      outside : (i : ℕ) (d : Node Value) → by_name r.met i ≡ Some d → Spans d k → is_in n.changes k ≡ true → ⊥
      outside i d is (s, among, within) counts =
          let (x, there_is, id, says) = named r.met i d is in
          let off = leaves.spared x s (subst (λ (l : List CellSeen). Contains l x) from.met_are there_is)
          (subst (λ (e : Node Value). Contains e.spans s) says among) in
          absurd (let on = keys_meet n.changes s.lo s.hi (k, counts, within.0, within.1) in
          let f : true ≡ false = sym on ∙ off in cc)

  leaves_alone : r.in_leaves ≡ true → LiesInLeaves c r
  leaves_alone on =
      let leaves = from.leaves.0 on in
      let seen_then = sym (ap pairs_of from.seen_is) in record {
        kind = from.kind_is ∙ leaves.kind;
        body = subst (λ (v : Pairs). IsInLeaves (body_on c v r.in_extents)) seen_then
            (subst (λ (t : Bool). IsInLeaves (body_on c (pairs_of seen) t)) (sym from.kind_is)
            (subst IsInLeaves h.planned.body leaves.body));
        lie = subst (λ (v : Pairs). LieInLeaves (by_name r.met) (is_in (changed (edits_on c v)))) seen_then
            (in_leaf leaves);
      }

  -- where none of the cells has an extent with a key that counts as changed, none is met
  told_so : MeetsNoExtent c r → r.in_leaves ≡ true
  told_so none =
      from.leaves.1
      (record {
        kind = sym from.kind_is ∙ none.kind;
        body = subst IsInLeaves (sym h.planned.body)
            (subst (λ (t : Bool). IsInLeaves (body_on c (pairs_of seen) t)) from.kind_is
            (subst (λ (v : Pairs). IsInLeaves (body_on c v r.in_extents)) (ap pairs_of from.seen_is) none.body));
        spared = λ x s among has. by_test x s among has (is_met n.changes s.lo s.hi) refl;
      })
    where
      off : (x : CellSeen) (s : Span) (k : ℕ) → Contains r.met x → Contains (node_of x).spans s → InSpan s k
          → is_in (changes_on c (pairs_of seen) n.in_extents) k ≡ false
      off x s k among has within =
          subst (λ (t : Bool). is_in (changes_on c (pairs_of seen) t) k ≡ false) from.kind_is
          (subst (λ (v : Pairs). is_in (changes_on c v r.in_extents) k ≡ false) (ap pairs_of from.seen_is)
          (none.none x s k among has within))

      by_test : (x : CellSeen) (s : Span) → Contains met x → Contains (node_of x).spans s → (b : Bool)
          → is_met n.changes s.lo s.hi ≡ b → b ≡ false
      by_test x s among has false is = refl
      by_test x s among has true is =
          let (k, at, low, high) = met_keys n.changes s.lo s.hi is in
          let its = subst (λ (l : List CellSeen). Contains l x) (sym from.met_are) among in
          let stands : by_name r.met x.id ≡ Some (node_of x) = there r.met x (distinct r.met its_met.met.names) its in
          let node = its_met.met.part.nodes x.id (node_of x) stands in
          let end = node.span_to s has in
          let high_top = node.to_top in
          let below : k < top = omega (arith, high, end, high_top) in
          absurd (let on = sym (h.planned.changes k below) ∙ at in
          let no = off x s k its has (low, high) in
          let f : true ≡ false = sym on ∙ no in cc)

  as_seen : Seen → Bool → Type 0
  as_seen v b = r.most ≡ most_with (body_on c (pairs_of v) b) (edits_on c (pairs_of v)) (demand_on c (pairs_of v) b)
      (by_name r.met) (root_of_pair root) r.writes

  pub is_reach : IsReach p root c r
  unfolding as_seen
  is_reach = record {
    answer = record {
      seen = pairs_of seen;
      in_extents = n.in_extents;
      part = its_met.met.part;
      sees = sees p root c seen known questions n h r.met its_met;
      kind = kind p root c seen known questions n h r.met its_met;
      has = has p root c seen known questions n h r.met its_met;
      read = made.read.are;
      written = made.written.are;
      root_pair = root_asks p root c seen known questions n h r.met its_met held reads_are m its_marked its_more r.root
          (subst (λ (o : Option Root). IsSome o ↔ IsSome (option_map ask_seen m.rises)) (sym from.root_is)
          (both_some root m.rises));
    };
    seen = sym (ap pairs_of from.seen_is);
    kind = sym from.kind_is;
    leaves = leaves_alone;
    told = told_so;
    sizes = subst (λ (v : Seen). HasFileSizes (body_on c (pairs_of v) r.in_extents)) (sym from.seen_is)
        (subst (λ (b : Bool). HasFileSizes (body_on c (pairs_of seen) b)) (sym from.kind_is)
        (subst HasFileSizes h.planned.body h.planned.sizes));
    keys = subst (λ (v : Seen). (k : ℕ) → is_in (changes_on c (pairs_of v) r.in_extents) k ≡ true
        → (least ≤ k) × (k < top)) (sym from.seen_is)
        (subst (λ (b : Bool). (k : ℕ) → is_in (changes_on c (pairs_of seen) b) k ≡ true → (least ≤ k) × (k < top))
        (sym from.kind_is) h.planned.lawful);
    most = subst (λ (v : Seen). as_seen v r.in_extents) (sym from.seen_is)
        (subst (λ (b : Bool). as_seen seen b) (sym from.kind_is) most_is);
    rises = λ x is. just_root root m.rises x (sym from.root_is ∙ is);
    all = its_met.all;
    sound = its_met.sound;
    met_order = its_met.order;
    reads_order = chosen_rise r.met r.reads made.read.order its_met.order;
    writes_order = chosen_rise r.met r.writes made.written.order its_met.order;
    reads_once = chosen_once r.met r.reads made.read.order its_met.all.names;
    writes_once = chosen_once r.met r.writes made.written.order its_met.all.names;
  }
